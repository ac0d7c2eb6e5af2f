-- One rule after the other; then it is entered.
use mathlib.Core.Path.{refl, sym, ap, ◌∙◌}
use native.Mathlib.Omega.{arith}
use lib.ListN.{length-map}
use borrow.Author.Tests.{eqb-false}
use Rattle.model.specs.declared.BlockAnswer.{BlockAnswer}
use Rattle.book.specs.Promises.{block_left}
use Rattle.held.proofs.Holding.{full, not_full}
use Rattle.block_calls.proofs.Refusing.{block_asked, block_full, block_numbers_lem}
use Rattle.block_calls.proofs.Declaring.{block_refused_lem}
use Rattle.block_calls.proofs.declare_sound.Goals as goal

pub asked_refusal-refusal-requires : goal.asked_refusal-refusal-requires
asked_refusal-refusal-requires c = c.requires.close

pub returns-then-refusal-ne0 : goal.returns-then-refusal-ne0
returns-then-refusal-ne0 c = λ main u.
    let a = c.args in
    ap (λ (x : BlockAnswer). block_left x a.rows.now a.trades.now) c.block_refused.ensures
    ∙ block_refused_lem a.d a.a main a.rows.now a.trades.now
    (block_asked a.d a.a main a.rows.now _ u c.requires.sound c.asked_refusal-refusal.ensures c.if-refusal-ne0.true)
    c.if-refusal-ne0.true

pub count_held-free-requires : goal.count_held-free-requires
count_held-free-requires c = c.requires.declared

pub returns-then-rows-free : goal.returns-then-rows-free
returns-then-rows-free c = λ main u.
    let a = c.args in
    ap (λ (x : BlockAnswer). block_left x a.rows.now a.trades.now) c.block_refused-then-rows-free.ensures
    ∙ block_refused_lem a.d a.a main a.rows.now a.trades.now
    (block_full a.d a.a main a.rows.now _ u c.requires.sound (sym c.asked_refusal-refusal.ensures ∙ c.if-refusal-ne0.false)
    (full a.rows.now c.count_held-free.ensures (omega (arith, c.if-rows-free.true))))
    (eqb-false 10 0 refl)

pub returns-then-d-eq-LAST_NUMBER : goal.returns-then-d-eq-LAST_NUMBER
returns-then-d-eq-LAST_NUMBER c = λ main u.
    let a = c.args in
    ap (λ (x : BlockAnswer). block_left x a.rows.now a.trades.now) c.block_refused-then-d-eq-LAST_NUMBER.ensures
    ∙ block_refused_lem a.d a.a main a.rows.now a.trades.now
    (block_numbers_lem a.d a.a main a.rows.now _ u c.requires.sound (sym c.asked_refusal-refusal.ensures ∙ c.if-refusal-ne0.false)
    (not_full a.rows.now c.count_held-free.ensures (omega (arith, c.if-rows-free.false)))
    c.if-d-eq-LAST_NUMBER.true)
    (eqb-false 11 0 refl)

pub enter-requires : goal.enter-requires
enter-requires c =
    record {
      blocks_ready = c.requires;
      taken = record {
        asked = sym c.asked_refusal-refusal.ensures ∙ c.if-refusal-ne0.false;
        place = c.count_held-free.ensures;
        room = omega (arith, c.if-rows-free.false);
        number = omega (arith, c.if-d-eq-LAST_NUMBER.false, c.requires.issued);
      };
    }

pub returns : goal.returns
returns c = c.enter.ensures
