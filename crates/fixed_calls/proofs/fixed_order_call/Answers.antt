-- 15 by the main book or by this one, or what an order gives where both are sound.
use mathlib.Core.Path.{◌≡◌, refl}
use mathlib.Core.Bool.{false}
use lib.ListN.{length}
use borrow.Author.Tests.{eqb-false}
use Rattle.model.specs.Refusals.{unsound, unsound_fixed}
use Rattle.soundness.proofs.Readiness as main-test
use Rattle.fixed_book.proofs.Readiness.{fixed_ready}
use Rattle.fixed_calls.proofs.Testing.{close_is_price, figures_fit_lem, is_unsound, not_unsound}
use Rattle.fixed_calls.proofs.OrderLaws.{main_unsound, fixed_unsound, order_refused_lem}
use Rattle.fixed_calls.proofs.fixed_order_call.Goals as goal
use Rattle.fixed_calls.proofs.fixed_order_call.Goals.{Else-not-fixed_sound, Else-not-is_sound}

pub returns-then-not-is_sound : goal.returns-then-not-is_sound
returns-then-not-is_sound c =
    let a = c.args in
    order_refused_lem a.d a.a a.main.now a.rows.now a.trades.now
    (main_unsound a.d a.a a.main.now a.rows.now (length a.trades.now)
    (main-test.is_unsound _ _ c.is_sound.ensures c.if-not-is_sound.true))
    (eqb-false 15 0 refl)
    c.fixed_refused.ensures

-- past a test, what it tested is sound
main-sound : (c : Else-not-is_sound) → unsound c.args.d c.args.main.now ≡ false
main-sound c = main-test.not_unsound _ _ c.is_sound.ensures c.if-not-is_sound.false

book-sound : (c : Else-not-fixed_sound) → let a = c.args in unsound_fixed a.d a.rows.now ≡ false
book-sound c = not_unsound _ _ c.fixed_sound.ensures c.if-not-fixed_sound.false

pub fixed_sound-requires : goal.fixed_sound-requires
fixed_sound-requires c = record { close_value = close_is_price _ _ (main-sound c); d_value = figures_fit_lem _ _ (main-sound c) }

pub returns-then-not-fixed_sound : goal.returns-then-not-fixed_sound
returns-then-not-fixed_sound c =
    let a = c.args in
    order_refused_lem a.d a.a a.main.now a.rows.now a.trades.now
    (fixed_unsound a.d a.a a.main.now a.rows.now (length a.trades.now) (main-sound (goal.at.returns-then-not-fixed_sound c).Else-not-is_sound)
    (is_unsound _ _ c.fixed_sound.ensures c.if-not-fixed_sound.true))
    (eqb-false 15 0 refl)
    c.fixed_refused-then-not-fixed_sound.ensures

pub fixed_order_sound-requires : goal.fixed_order_sound-requires
fixed_order_sound-requires c =
    fixed_ready _ _ _ (main-sound (goal.at.fixed_order_sound-requires c).Else-not-is_sound) (book-sound (goal.at.fixed_order_sound-requires c).Else-not-fixed_sound)

pub returns : goal.returns
returns c =
    c.fixed_order_sound.ensures _ (main-sound (goal.at.returns c).Else-not-is_sound)
