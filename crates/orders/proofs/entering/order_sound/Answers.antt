-- `orders::entering::order_sound` meets its contract: refused for what is asked, or what the order does with the best prices that were
-- found. Assumes nothing.
use Prim.Native.Nat.{ℕ, ◌≤◌}
use mathlib.Core.Path.{sym, ap, ◌∙◌}
use lib.ListN.{length}
use Rattle.model.specs.declared.OrderAnswer.{OrderAnswer}
use Rattle.model.specs.Book.{best}
use Rattle.book.specs.Promises.{call_left}
use Rattle.soundness.specs.Ready.{Ready}
use Rattle.soundness.proofs.Readiness.{ready_if}
use Rattle.matching.proofs.Partners.{other_small}
use Rattle.checks.proofs.Refusals.{close_is_price, earlier_asked, asked_side}
use Rattle.orders.proofs.OrderLaws.{takes_of, order_earlier, order_refused_lem}
use Rattle.orders.proofs.entering.order_sound.Goals as goal
use Rattle.orders.proofs.entering.order_sound.Goals.{Else-refusal-ne0, Start}

-- the day is sound
sound : (s : Start) → Ready s.args.d s.args.rows.now
sound s = ready_if s.args.d s.args.rows.now s.requires

pub phase_now-phase-requires : goal.phase_now-phase-requires
phase_now-phase-requires c = c.row_at-row.ensures

pub asked_refusal-refusal-requires : goal.asked_refusal-refusal-requires
asked_refusal-refusal-requires c =
    record { close_value = close_is_price _ _ (sound (goal.at.asked_refusal-refusal-requires c).Start); takes_value = takes_of c.args.d.time c.row_at-row.ensures; phase_value = c.phase_now-phase.ensures }

pub returns-then-refusal-ne0 : goal.returns-then-refusal-ne0
returns-then-refusal-ne0 c =
    let a = c.args in
    let n = c.if-refusal-ne0.true in
    ap (λ (r : OrderAnswer). call_left r a.rows.now a.trades.now) c.order_refused.ensures
    ∙ order_refused_lem a.d a.a a.rows.now a.trades.now
    (order_earlier a.d a.a a.rows.now (length a.trades.now) c.requires
    (earlier_asked a.d a.a a.rows.now c.asked_refusal-refusal.ensures n) n)
    n

-- past the first test the side is one
side : (c : Else-refusal-ne0) → c.args.a.side ≤ 1
side c =
    let a = c.args in
    asked_side a.d a.a a.rows.now c.asked_refusal-refusal.ensures c.if-refusal-ne0.false

pub best_price-own-requires : goal.best_price-own-requires
best_price-own-requires c =
    record { ranked = (sound (goal.at.best_price-own-requires c).Start).ranked; side_bound = side c }

pub best_price-other-requires : goal.best_price-other-requires
best_price-other-requires c =
    record { ranked = (sound (goal.at.best_price-other-requires c).Start).ranked; side_bound = other_small c.args.a.side c.other_side.ensures }

pub order_with-requires : goal.order_with-requires
order_with-requires c =
    let a = c.args in record { rows_value = c.requires; a_value = sym c.asked_refusal-refusal.ensures ∙ c.if-refusal-ne0.false; phase_value = c.phase_now-phase.ensures; own_value = c.best_price-own.ensures; other_value = c.best_price-other.ensures ∙ ap (λ (n : ℕ). best n a.rows.now) c.other_side.ensures }

pub returns : goal.returns
returns c = c.order_with.ensures
