-- A call's refusals: its rules in the order in which they are tested. The first that holds is the refusal.
use Rattle.std.specs.Prelude.{ℕ, Bool, not, ◌&&◌, ◌||◌, List, [], ◌∷◌, if◌then◌else◌}
use Rattle.model.specs.declared.Order.{Order}
use Rattle.model.specs.declared.Declaration.{Declaration}
use Rattle.model.specs.declared.Day.{Day}
use Rattle.model.specs.Books.{Books}
use Rattle.model.specs.Sound.{has_places, sound}
use Rattle.model.specs.SoundFixed.{sound_fixed}
use Rattle.model.specs.SoundBlocks.{sound_blocks}

pub record Rule : Type 0 where
  pub number : ℕ
  pub holds : Bool

infix 75 ◌when◌
unfoldable pub ◌when◌ : ℕ → Bool → Rule
n when b = record { number = n; holds = b }

-- the number of the first rule that holds, 0 where none does
unfoldable pub first_of : List Rule → ℕ
first_of [] = 0
first_of (r ∷ rs) = if r.holds then r.number else first_of rs

-- ---- 15: a call tests all that it is lent

-- day not sound, or places not 1 to 4,096
unfoldable pub unsound : Day → List Order → Bool
unsound d book = not (has_places book && sound d book)

-- the same of the fixed-price book, and of the declarations
unfoldable pub unsound_fixed : Day → List Order → Bool
unsound_fixed d book = not (has_places book && sound_fixed d book)

unfoldable pub unsound_blocks : Day → List Declaration → Bool
unsound_blocks d held = not (has_places held && sound_blocks d held)

unfoldable pub unsound_books : Day → Books → Bool
unsound_books d s = unsound d s.main || unsound_fixed d s.fixed || unsound_blocks d s.blocks
