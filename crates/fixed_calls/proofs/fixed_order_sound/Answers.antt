-- Refused for what is asked or by the book, or welcome.
use mathlib.Core.Path.{refl, sym, ◌∙◌}
use native.Mathlib.Omega.{arith}
use lib.ListN.{length, length-map}
use borrow.Author.Tests.{eqb-false}
use Rattle.fixed_calls.specs.Rules.{Welcome}
use Rattle.fixed_calls.proofs.Testing.{ready_close}
use Rattle.fixed_calls.proofs.OrderLaws.{asked_refused, no_place, no_number, order_refused_lem, order_welcomed}
use Rattle.fixed_calls.proofs.fixed_order_sound.Goals as goal
use Rattle.fixed_calls.proofs.fixed_order_sound.Goals.{Else-fixed-eq-LAST_NUMBER}
use Rattle.model.specs.Book.{free}

pub asked_refusal-refusal-requires : goal.asked_refusal-refusal-requires
asked_refusal-refusal-requires c = ready_close _ _ c.requires

pub returns-then-refusal-ne0 : goal.returns-then-refusal-ne0
returns-then-refusal-ne0 c main u =
    let a = c.args in
    order_refused_lem a.d a.a main a.rows.now a.trades.now
    (asked_refused a.d a.a main a.rows.now (length a.trades.now) u c.requires.sound c.asked_refusal-refusal.ensures
    c.if-refusal-ne0.true)
    c.if-refusal-ne0.true
    c.fixed_refused.ensures

pub orders_in-place-requires : goal.orders_in-place-requires
orders_in-place-requires c = c.requires.lined

pub returns-then-rows-place : goal.returns-then-rows-place
returns-then-rows-place c main u =
    let a = c.args in
    order_refused_lem a.d a.a main a.rows.now a.trades.now
    (no_place a.d a.a main a.rows.now (length a.trades.now) u c.requires.sound (sym c.asked_refusal-refusal.ensures ∙ c.if-refusal-ne0.false)
    c.orders_in-place.ensures
    (omega (arith, c.if-rows-place.true)))
    (eqb-false 10 0 refl)
    c.fixed_refused-then-rows-place.ensures

pub returns-then-fixed-eq-LAST_NUMBER : goal.returns-then-fixed-eq-LAST_NUMBER
returns-then-fixed-eq-LAST_NUMBER c main u =
    let a = c.args in
    order_refused_lem a.d a.a main a.rows.now a.trades.now
    (no_number a.d a.a main a.rows.now (length a.trades.now) u c.requires.sound (sym c.asked_refusal-refusal.ensures ∙ c.if-refusal-ne0.false)
    c.orders_in-place.ensures
    (omega (arith, c.if-rows-place.false))
    c.if-fixed-eq-LAST_NUMBER.true)
    (eqb-false 11 0 refl)
    c.fixed_refused-then-fixed-eq-LAST_NUMBER.ensures

-- past all tests it is welcome
welcome :
    (c : Else-fixed-eq-LAST_NUMBER)
    →
    Welcome c.args.d c.args.a c.args.rows.now c.orders_in-place.result
welcome c =
    let a = c.args in
    record {
      ready = c.requires;
      asked = sym c.asked_refusal-refusal.ensures ∙ c.if-refusal-ne0.false;
      behind = c.orders_in-place.ensures;
      free = omega (arith, c.if-rows-place.false);
      numbers = omega (arith, c.if-fixed-eq-LAST_NUMBER.false, c.requires.day.issued);
    }

pub enter-requires : goal.enter-requires
enter-requires c = welcome (goal.at.enter-requires c).Else-fixed-eq-LAST_NUMBER

pub returns : goal.returns
returns c main u =
    let a = c.args in
    order_welcomed a.d a.a main a.rows.now a.trades.now u (welcome (goal.at.returns c).Else-fixed-eq-LAST_NUMBER) c.enter.ensures
