-- `day::events::order_call` meets its contract: 15, or what an order gives on a sound day. Assumes nothing.
use mathlib.Core.Path.{refl, ap, ◌∙◌}
use borrow.Author.Tests.{eqb-false, not-true, not-false}
use lib.ListN.{length}
use Rattle.model.specs.declared.OrderAnswer.{OrderAnswer}
use Rattle.book.specs.Promises.{call_left}
use Rattle.soundness.proofs.Readiness.{is_unsound, not_unsound}
use Rattle.orders.proofs.OrderLaws.{order_unsound, order_refused_lem}
use Rattle.day.proofs.events.order_call.Goals as goal

pub returns-then-not-is_sound : goal.returns-then-not-is_sound
returns-then-not-is_sound c =
    let s = c.args in
    let u = is_unsound _ _ c.is_sound.ensures (not-true _ c.if-not-is_sound.true-raw) in
    ap (λ (r : OrderAnswer). call_left r s.rows.now s.trades.now) c.order_refused.ensures
    ∙ order_refused_lem s.d s.a s.rows.now s.trades.now (order_unsound s.d s.a s.rows.now (length s.trades.now) u)
    (eqb-false 15 0 refl)

pub order_sound-requires : goal.order_sound-requires
order_sound-requires c = not_unsound _ _ c.is_sound.ensures (not-false _ c.if-not-is_sound.false-raw)
