-- `day::events::cancel_call` meets its contract: 15, or what a cancel gives on a sound day. Assumes nothing.
use mathlib.Core.Path.{refl, ap, ◌∙◌}
use borrow.Author.Tests.{eqb-false, not-true, not-false}
use Rattle.model.specs.declared.CancelAnswer.{CancelAnswer}
use Rattle.book.specs.Promises.{cancel_left}
use Rattle.soundness.proofs.Readiness.{is_unsound, not_unsound}
use Rattle.orders.proofs.Cancels.{cancel_unsound, cancel_refused_lem}
use Rattle.day.proofs.events.cancel_call.Goals as goal

pub returns-then-not-is_sound : goal.returns-then-not-is_sound
returns-then-not-is_sound c =
    let a = c.args in
    let u = is_unsound _ _ c.is_sound.ensures (not-true _ c.if-not-is_sound.true-raw) in
    ap (λ (r : CancelAnswer). cancel_left r a.rows.now) c.cancel_refused.ensures
    ∙ cancel_refused_lem a.d a.account a.number a.rows.now (cancel_unsound a.d a.account a.number a.rows.now u)
    (eqb-false 15 0 refl)

pub cancel_sound-requires : goal.cancel_sound-requires
cancel_sound-requires c = not_unsound _ _ c.is_sound.ensures (not-false _ c.if-not-is_sound.false-raw)
