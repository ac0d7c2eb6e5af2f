-- What the test of a day tells: 15 is given, or the call may use what a sound day gives. Assumes nothing.
use mathlib.Core.Path.{◌≡◌, sym, ap, ◌∙◌}
use mathlib.Core.Bool.{Bool, true, false, not, ◌&&◌}
use mathlib.Core.List.{List}
use borrow.Author.Tests.{not-false}
use Rattle.model.specs.declared.Order.{Order}
use Rattle.model.specs.declared.Day.{Day}
use Rattle.model.specs.Sound.{has_places, sound}
use Rattle.model.specs.Refusals.{unsound}
use Rattle.model.proofs.Bools.{and_right}
use Rattle.soundness.proofs.SoundDays.{sound_day, sound_halt, sound_evening, ranked}
use Rattle.soundness.specs.Ready.{Ready}

module _ (d : Day) (book : List Order) where
  tested : (has_places book && sound d book) ≡ true → Ready d book
  tested e =
      let h : sound d book ≡ true = and_right (has_places book) (sound d book) e in
      record { sound = sound_day d book h; ranked = ranked d book e; halt = sound_halt d book h; evening = sound_evening d book h }

  pub ready_if : unsound d book ≡ false → Ready d book
  unfolding unsound
  ready_if e = tested (not-false (has_places book && sound d book) e)

  module _ {r : Bool} (e : r ≡ (has_places book && sound d book)) where
    pub is_unsound : r ≡ false → unsound d book ≡ true
    unfolding unsound
    is_unsound f = ap not (sym e ∙ f)

    pub not_unsound : r ≡ true → unsound d book ≡ false
    unfolding unsound
    not_unsound f = ap not (sym e ∙ f)

    pub ready : r ≡ true → Ready d book
    ready f = tested (sym e ∙ f)
