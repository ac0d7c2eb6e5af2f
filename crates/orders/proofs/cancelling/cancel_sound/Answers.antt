-- `orders::cancelling::cancel_sound` meets its contract: refused, or the one order is taken out and the screen updated. Assumes nothing.
use Prim.Native.Nat.{◌<◌}
use mathlib.Core.Path.{◌≡◌, refl, sym, ap, ◌∙◌}
use native.Mathlib.Omega.{arith}
use lib.ListN.{length}
use borrow.Author.Tests.{eqb-false, not-true}
use Rattle.model.specs.declared.CancelAnswer.{CancelAnswer}
use Rattle.model.specs.Refusals.{first_of}
use Rattle.model.specs.Calls.{cancel_rules}
use Rattle.book.specs.Standing.{Ranked}
use Rattle.model.specs.Book.{free}
use Rattle.book.specs.Places.{place_of}
use Rattle.book.proofs.Finding.{no_place, its_place}
use Rattle.book.specs.Promises.{cancel_left}
use Rattle.soundness.proofs.EveningClauses.{publishable}
use Rattle.soundness.proofs.Readiness.{ready_if}
use Rattle.orders.proofs.Cancels.{cancel_shut, cancel_unknown, cancel_none, cancel_refused_lem, cancel_live, cancel_ranked, cancel_accepted}
use Rattle.orders.proofs.cancelling.cancel_sound.Goals as goal
use Rattle.orders.proofs.cancelling.cancel_sound.Goals.{In-Some, Start}

-- the book stands in order
in_order : (c : Start) → Ranked c.args.rows.now
in_order c = (ready_if c.args.d c.args.rows.now c.requires).ranked

pub returns-then-not-takes_cancels : goal.returns-then-not-takes_cancels
returns-then-not-takes_cancels c =
    let a = c.args in
    ap (λ (r : CancelAnswer). cancel_left r a.rows.now) c.cancel_refused.ensures
    ∙ cancel_refused_lem a.d a.account a.number a.rows.now
    (cancel_shut a.d a.account a.number a.rows.now c.requires (sym c.takes_cancels.ensures ∙ not-true _ c.if-not-takes_cancels.true-raw))
    (eqb-false 4 0 refl)

pub returns-in_default : goal.returns-in_default
returns-in_default c =
    let a = c.args in
    ap (λ (r : CancelAnswer). cancel_left r a.rows.now) c.cancel_refused-in_default.ensures
    ∙ cancel_refused_lem a.d a.account a.number a.rows.now
    (cancel_unknown a.d a.account a.number a.rows.now c.requires (sym c.takes_cancels.ensures ∙ c.if-not-takes_cancels.false)
    (sym (no_place a.account a.number a.rows.now (sym c.in_default.is ∙ c.place_of.ensures))) (omega arith))
    (eqb-false 12 0 refl)

-- the place is the account's order's
its : (c : In-Some) → (c.in-Some.place < length c.args.rows.now) × (c.in-Some.place ≡ place_of c.args.account c.args.number c.args.rows.now)
its c = its_place c.args.account c.args.number c.args.rows.now (sym c.in-Some.is ∙ c.place_of.ensures)

-- past the second no rule holds
none : (c : In-Some) → 0 ≡ first_of (cancel_rules c.args.d c.args.account c.args.number c.args.rows.now)
none c =
    let a = c.args in
    cancel_none a.d a.account a.number a.rows.now c.requires (sym c.takes_cancels.ensures ∙ c.if-not-takes_cancels.false) (its c).1 (its c).0

pub slice_copy_out-own : goal.slice_copy_out-own
slice_copy_out-own c = (its (goal.at.slice_copy_out-own c).In-Some).0

pub take_out-requires : goal.take_out-requires
take_out-requires c =
    let a = c.args in
    let some = (goal.at.take_out-requires c).In-Some in
    let start = (goal.at.take_out-requires c).Start in
    record {
      ranked = in_order start;
      place_in_bounds = cancel_live a.d a.account a.number a.rows.now (none some) refl (its some).1 (in_order start);
    }

pub day_without-requires : goal.day_without-requires
day_without-requires c =
    let a = c.args in
    let some = (goal.at.day_without-requires c).In-Some in
    let start = (goal.at.day_without-requires c).Start in
    let r = ready_if a.d a.rows.now c.requires in
    record {
      ranked = cancel_ranked a.d a.account a.number a.rows.now (none some) refl (its some).1 c.take_out.new.rows (in_order start) c.take_out.ensures;
      publishable = publishable a.d a.rows.now r.sound r.evening;
    }

pub returns : goal.returns
unfolding free
returns c =
    let a = c.args in
    let some = (goal.at.returns c).In-Some in
    cancel_accepted a.d a.account a.number a.rows.now (none some) refl (its some).1 c.take_out.new.rows (in_order (goal.at.returns c).Start)
    c.take_out.ensures
    refl
    c.day_without.ensures
