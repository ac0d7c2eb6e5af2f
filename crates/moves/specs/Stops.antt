-- The stops of the clock: the seconds at which something is due, and the first of them that a move passes.
use Rattle.std.specs.Prelude.{ℕ, Bool, ◌&&◌, ◌||◌, List, [], ◌∷◌, leb, ltb, eqb, if◌then◌else◌}
use Rattle.model.specs.Lists.{among}

-- the same every day: the opening and the closing auction
unfoldable pub stops : List ℕ
stops = 33_900 ∷ 54_000 ∷ []

-- these, and the end of a halt
unfoldable pub is_stop : ℕ → ℕ → Bool
is_stop halt s = among (halt ∷ stops) s

-- a second is passed when the old time is below it and the new time isn't
unfoldable pub passes : ℕ → ℕ → ℕ → Bool
passes second old new = ltb old second && leb second new

-- a second where it is passed and comes before the next stop so far, 0 where there is none
unfoldable pub sooner : ℕ → ℕ → ℕ → ℕ → ℕ
sooner old new second next = if passes second old new && (eqb next 0 || ltb second next) then second else next

unfoldable pub first_passed : ℕ → ℕ → List ℕ → ℕ
first_passed old new [] = 0
first_passed old new (s ∷ ss) = sooner old new s (first_passed old new ss)

unfoldable pub next_stop : ℕ → ℕ → ℕ → ℕ
next_stop halt old new = first_passed old new (halt ∷ stops)
