-- Place by place: the test that is still to be made, with the numbers used so far, is the whole test.
use mathlib.Core.Path.{refl, sym, ap, ◌∙◌}
use lib.ListN.{length}
use Rattle.bits.proofs.MapLaws.{length_marked}
use Rattle.model.specs.Book.{free}
use Rattle.model.specs.Sound.{is_order}
use Rattle.soundness.proofs.Clauses.{says_price, says_figures}
use Rattle.soundness.proofs.Numbers.{tested_none, tested_bad, tested_used, tested_more, tested_all}
use Rattle.soundness.proofs.places.places_with.Goals as goal
use Rattle.soundness.proofs.places.places_with.Goals.{
  then-not-place_is_sound-via-then-not-place_is_sound,
  then-not-place_is_sound-via-else-not-place_is_sound+then-is_used,
}

pub loop-o-init : goal.loop-o-init
loop-o-init c = (refl, tested_none _ _ _ c.requires.fresh_map)

pub place_is_sound-requires : goal.place_is_sound-requires
place_is_sound-requires c =
    (says_price c.args.day.close).1 ((says_figures c.args.day).0 c.requires.day_value).0

pub shape_of-used-then-not-place_is_sound : goal.shape_of-used-then-not-place_is_sound
shape_of-used-then-not-place_is_sound c = c.loop-o.invariant.0

pub returns-then-not-place_is_sound : goal.returns-then-not-place_is_sound
unfolding free is_order
returns-then-not-place_is_sound c =
    elim c.then-not-place_is_sound.branch [
      | then-not-place_is_sound-via-then-not-place_is_sound w ↦
          tested_bad _ _ _ _ c.loop-o.invariant.1 _ c.loop-o-test.true refl (sym c.place_is_sound.ensures ∙ w.if-not-place_is_sound.true)
      | then-not-place_is_sound-via-else-not-place_is_sound+then-is_used w ↦
          tested_used _ _ _ _ c.loop-o.invariant.1 _ c.loop-o-test.true refl (sym w.is_used.ensures ∙ w.if-is_used.true)
    ]

pub loop-o-preserved : goal.loop-o-preserved
unfolding free is_order
loop-o-preserved c = (
  ap length c.set_bit.ensures ∙ length_marked _ _ ∙ c.loop-o.invariant.0,
  tested_more _ _ _ _ c.loop-o.invariant.1 _ c.loop-o-test.true refl _
      (sym c.place_is_sound.ensures ∙ c.if-not-place_is_sound.false) (sym c.is_used.ensures ∙ c.if-is_used.false) c.set_bit.ensures,
)

pub shape_of-used : goal.shape_of-used
shape_of-used c = c.loop-o.invariant.0

pub returns : goal.returns
returns c = tested_all _ _ _ _ c.loop-o.invariant.1 c.loop-o-test.false
