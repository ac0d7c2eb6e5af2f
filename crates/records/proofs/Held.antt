-- Levels, a screen and a day in a row of numbers: what a day's record is made of. Assumes nothing.
use Prim.Native.Nat.{ℕ, ◌+◌}
use mathlib.Core.Path.{◌≡◌, ap, ◌∙◌}
use mathlib.Core.List.{List}
use lib.IntN.{ℤ}
use lib.ListN.{get_or}
use Rattle.model.specs.declared.Level.{Level}
use Rattle.model.specs.declared.Levels.{Levels}
use Rattle.model.specs.declared.Screen.{Screen}
use Rattle.model.specs.declared.Fixed.{Fixed}
use Rattle.model.specs.declared.Blocks.{Blocks}
use Rattle.model.specs.declared.Day.{Day}
use Rattle.replies.specs.Words.{signed}
use Rattle.records.specs.Layout.{held_level, held_levels, held_screen, held_fixed, held_blocks, day_of, day_in, numbers}

abbrev five_levels : Level → Level → Level → Level → Level → Levels
five_levels a b c d e = record { first = a; second = b; third = c; fourth = d; fifth = e }

pub levels_held :
    (row : List ℕ) (at : ℕ) {a b c d e : Level}
    → a ≡ held_level row at
    → b ≡ held_level row (at + 2)
    → c ≡ held_level row (at + 4)
    → d ≡ held_level row (at + 6)
    → e ≡ held_level row (at + 8)
    → five_levels a b c d e ≡ held_levels row at
levels_held row at p q r s t = rw (p, q, r, s, t)

-- the screen with these levels and this surplus, the rest of it from the row
abbrev screen_with : List ℕ → ℕ → Levels → Levels → ℤ → Screen
screen_with row at buys sells surplus =
    record {
      last = get_or row at 0;
      high = get_or row (at + 1) 0;
      low = get_or row (at + 2) 0;
      shares = get_or row (at + 3) 0;
      turnover = get_or row (at + 4) 0;
      buys = buys;
      sells = sells;
      price = get_or row (at + 25) 0;
      volume = get_or row (at + 26) 0;
      surplus = surplus;
    }

pub screen_held :
    (row : List ℕ) (at : ℕ) {buys sells : Levels} {surplus : ℤ}
    → buys ≡ held_levels row (at + 5)
    → sells ≡ held_levels row (at + 15)
    → surplus ≡ signed (get_or row (at + 27) 0)
    → screen_with row at buys sells surplus ≡ held_screen row at
screen_held row at p q r = rw (p, q, r)

-- the day with this screen and these figures of the other lists, the rest of it from the row
abbrev day_with : List ℕ → Screen → Fixed → Blocks → Day
day_with row screen fixed blocks =
    record {
      close = get_or row 0 0;
      limited = get_or row 1 0;
      time = get_or row 2 0;
      issued = get_or row 3 0;
      shares = get_or row 4 0;
      turnover = get_or row 5 0;
      first = get_or row 6 0;
      last = get_or row 7 0;
      screen = screen;
      halt = get_or row 36 0;
      used30 = get_or row 37 0;
      used60 = get_or row 38 0;
      fixed = fixed;
      blocks = blocks;
    }

pub day_held :
    (row : List ℕ) {screen : Screen} {fixed : Fixed} {blocks : Blocks}
    → screen ≡ held_screen row 8
    → fixed ≡ held_fixed row 39
    → blocks ≡ held_blocks row 42
    → day_with row screen fixed blocks ≡ day_of row
day_held row p q r = rw (p, q, r)

pub day_read : (b row : List ℕ) {d : Day} → row ≡ numbers 44 b → d ≡ day_of row → d ≡ day_in b
unfolding day_in
day_read b row e f = f ∙ ap day_of e
