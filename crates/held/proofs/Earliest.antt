-- A walk to the earliest declaration that fits, and what is met there.
use Prim.Native.Nat.{ℕ, suc, ◌+◌, ◌≤◌, ◌<◌}
use mathlib.Core.Path.{◌≡◌, refl}
use mathlib.Core.Bool.{Bool, true, false, cond, not}
use mathlib.Core.List.{List, [], ◌∷◌}
use native.Mathlib.Omega.{arith}
use native.Mathlib.Decide.{dec_lt}
use borrow.Author.Tests.{lt-ltb, le-ltb}
use lib.Dec.{ltb}
use Rattle.std.specs.Prelude.{Option, Some, None, MatchOption}
use Rattle.std.specs.List.{position, position_or_len}
use lib.ListN.{length, get_or}
use Rattle.model.specs.declared.Declaration.{Declaration}
use Rattle.model.specs.Blocks.{undeclared, fits}
use Rattle.model.specs.Words.{Each}
use Rattle.held.specs.Meeting.{earliest, joining, meeting}

module _ (x : Declaration) where
  -- the first place whose declaration fits
  first_place : (held : List Declaration) → position_or_len (fits x) held ≡ earliest x held
  unfolding earliest
  first_place [] = refl
  first_place (y ∷ ys) = go (fits x y) (first_place ys)
    where
      go :
          (b : Bool)
          → position_or_len (fits x) ys ≡ earliest x ys
          → cond (not b) (1 + position_or_len (fits x) ys) 0 ≡ cond b 0 (suc (earliest x ys))
      go true e = refl
      go false e = omega arith

  -- ---- what is met

  pub earliest_bound : (held : List Declaration) → earliest x held ≤ length held
  unfolding earliest
  earliest_bound [] = omega arith
  earliest_bound (y ∷ ys) = go (fits x y) (earliest_bound ys)
    where
      go : (b : Bool) → earliest x ys ≤ length ys → cond b 0 (suc (earliest x ys)) ≤ suc (length ys)
      go true h = omega arith
      go false h = omega arith

  pub found_place :
      (held : List Declaration) {r : Option ℕ}
      → r ≡ position (fits x) held
      → MatchOption r (earliest x held ≡ length held) (λ place. (place < length held) × (place ≡ earliest x held))
  found_place held {r} e = rw (e, first_place held) (go (dec_lt (earliest x held) (length held)))
    where
      go :
          Dec (earliest x held < length held)
          → MatchOption (cond (ltb (earliest x held) (length held)) (Some (earliest x held)) None) (earliest x held ≡ length held)
          (λ place. (place < length held) × (place ≡ earliest x held))
      go (yes h) = rw (lt-ltb (earliest x held) (length held) h) (h, refl)
      go (no h) = rw (le-ltb (earliest x held) (length held) (omega arith)) (omega (arith, earliest_bound held))

  -- the one that is found fits
  pub earliest_fits :
      (held : List Declaration)
      → earliest x held < length held
      → fits x (get_or held (earliest x held) undeclared) ≡ true
  unfolding earliest
  earliest_fits [] h = absurd (omega arith)
  earliest_fits (y ∷ ys) h = go (fits x y) refl h (earliest_fits ys)
    where
      go :
          (b : Bool)
          → fits x y ≡ b
          → cond b 0 (suc (earliest x ys)) < suc (length ys)
          → (earliest x ys < length ys → fits x (get_or ys (earliest x ys) undeclared) ≡ true)
          → fits x (get_or (y ∷ ys) (cond b 0 (suc (earliest x ys))) undeclared) ≡ true
      go true e h ih = e
      go false e h ih = ih (omega arith)

  pub meets_one :
      (held : List Declaration)
      → earliest x held < length held
      → meeting x held ≡ joining x (get_or held (earliest x held) undeclared) ∷ []
  unfolding earliest meeting
  meets_one [] h = absurd (omega arith)
  meets_one (y ∷ ys) h = go (fits x y) h (meets_one ys)
    where
      go :
          (b : Bool)
          → cond b 0 (suc (earliest x ys)) < suc (length ys)
          → (earliest x ys < length ys → meeting x ys ≡ joining x (get_or ys (earliest x ys) undeclared) ∷ [])
          → cond b (joining x y ∷ []) (meeting x ys)
          ≡ joining x (get_or (y ∷ ys) (cond b 0 (suc (earliest x ys))) undeclared) ∷ []
      go true h ih = refl
      go false h ih = ih (omega arith)

  -- where none is found, none fits, and nothing is met
  pub fits_none : (held : List Declaration) → length held ≤ earliest x held → Each (λ y. fits x y ≡ false) held
  unfolding earliest
  fits_none [] h = tt
  fits_none (y ∷ ys) h = go (fits x y) refl h (fits_none ys)
    where
      go :
          (b : Bool)
          → fits x y ≡ b
          → suc (length ys) ≤ cond b 0 (suc (earliest x ys))
          → (length ys ≤ earliest x ys → Each (λ z. fits x z ≡ false) ys)
          → (fits x y ≡ false) × Each (λ z. fits x z ≡ false) ys
      go true e h ih = absurd (omega arith)
      go false e h ih = (e, ih (omega arith))

  pub meets_none : (held : List Declaration) → Each (λ y. fits x y ≡ false) held → meeting x held ≡ []
  unfolding meeting
  meets_none [] a = refl
  meets_none (y ∷ ys) a = rw a.0 (meets_none ys a.1)
