-- A move over all lists: what the test of the day gives for the tests of the other lists. Assumes nothing.
use mathlib.Core.Path.{◌≡◌, sym, ap, ◌∙◌}
use mathlib.Core.Bool.{Bool, true, false, not, ◌&&◌}
use mathlib.Core.List.{List}
use Rattle.model.specs.declared.Order.{Order}
use Rattle.model.specs.declared.Declaration.{Declaration}
use Rattle.model.specs.declared.Day.{Day}
use Rattle.model.specs.Books.{Books}
use Rattle.model.specs.Limits.{is_price}
use Rattle.model.specs.Sound.{has_places, fixed_fits, blocks_fit, sound}
use Rattle.model.specs.SoundFixed.{sound_fixed}
use Rattle.model.specs.SoundBlocks.{sound_blocks}
use Rattle.model.specs.Refusals.{unsound, unsound_fixed, unsound_blocks, unsound_books}
use Rattle.model.proofs.Bools.{and_left, and_right}
use Rattle.soundness.proofs.Clauses.{says_price}
use Rattle.soundness.proofs.EveningClauses.{says_evening}
use Rattle.soundness.proofs.SoundDays.{sound_day, sound_evening}

module _ (d : Day) (main : List Order) (e : (has_places main && sound d main) ≡ true) where
  tested : sound d main ≡ true
  tested = and_right (has_places main) (sound d main) e

  pub close_priced : is_price d.close ≡ true
  close_priced = (says_price d.close).1 (sound_day d main tested).close

  pub fixed_fits_lem : fixed_fits d ≡ true
  fixed_fits_lem = and_left (fixed_fits d) (blocks_fit d) ((says_evening d).1 (sound_evening d main tested))

  pub blocks_fit_lem : blocks_fit d ≡ true
  blocks_fit_lem = and_right (fixed_fits d) (blocks_fit d) ((says_evening d).1 (sound_evening d main tested))

-- 15 from any of the lists
module _ (d : Day) (s : Books) where
  pub main_unsound : unsound d s.main ≡ true → unsound_books d s ≡ true
  unfolding unsound_books
  main_unsound e = rw e

  pub line_unsound : unsound d s.main ≡ false → unsound_fixed d s.fixed ≡ true → unsound_books d s ≡ true
  unfolding unsound_books
  line_unsound e f = rw (e, f)

  pub held_unsound :
      unsound d s.main ≡ false → unsound_fixed d s.fixed ≡ false → unsound_blocks d s.blocks ≡ true → unsound_books d s ≡ true
  unfolding unsound_books
  held_unsound e f g = rw (e, f, g)

-- the tests of the other two lists, as 15 reads them
module _ (d : Day) (book : List Order) {r : Bool} (e : r ≡ (has_places book && sound_fixed d book)) where
  pub fixed_told : {b : Bool} → r ≡ b → unsound_fixed d book ≡ not b
  unfolding unsound_fixed
  fixed_told f = ap not (sym e ∙ f)

module _ (d : Day) (held : List Declaration) {r : Bool} (e : r ≡ (has_places held && sound_blocks d held)) where
  pub blocks_told : {b : Bool} → r ≡ b → unsound_blocks d held ≡ not b
  unfolding unsound_blocks
  blocks_told f = ap not (sym e ∙ f)
