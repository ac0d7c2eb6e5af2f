-- Declarations in order of arrival: numbers rise, so that no two places share one. Assumes nothing.
use Rattle.std.specs.Prelude.{if◌then◌else◌}
use Prim.Native.Nat.{ℕ, zero, suc, ◌<◌}
use mathlib.Core.Path.{◌≡◌, refl, sym, ◌∙◌}
use mathlib.Core.Bool.{Bool, true, false, not, ◌&&◌, ◌||◌}
use mathlib.Core.List.{List, [], ◌∷◌}
use native.Mathlib.Omega.{arith}
use native.Mathlib.Nat.{not-suc-le-zero, le_of_suc-le-suc}
use lib.ListN.{length, get_or}
use lib.Dec.{ltb, eqb}
use borrow.Author.Tests.{eq-eqb, ltb-true, eqb-true, not-true}
use Rattle.model.specs.declared.Declaration.{Declaration}
use Rattle.model.specs.Lists.{keep}
use Rattle.model.specs.Arrival.{is_taken, may_arrive, in_arrival}
use Rattle.model.specs.Words.{Each}
use Rattle.model.proofs.Bools.{and_left, and_right, not_both}
use Rattle.book.proofs.Lists.{each, both, each_keep, each_at}

-- what stands behind a place came later, or is free
abbrev pub Behind : Declaration → Declaration → Type 0
Behind x y = (y.number ≡ 0 → ⊥) → (x.number ≡ 0 → ⊥) × (x.number < y.number)

abbrev pub InLine : List Declaration → Type 0
InLine [] = Unit {0}
InLine (x ∷ xs) = Each (Behind x) xs × InLine xs

-- the next place
next_behind : (x y : Declaration) → may_arrive (λ z. z.number) x y ≡ true → Behind x y
unfolding may_arrive is_taken
next_behind x y e n = go (eqb y.number 0) refl e
  where
    go :
        (b : Bool)
        → eqb y.number 0 ≡ b
        → not (not b) || (not (eqb x.number 0) && ltb x.number y.number) ≡ true
        → (x.number ≡ 0 → ⊥) × (x.number < y.number)
    go true f h = absurd (n (eqb-true y.number 0 f))
    go false f h = (
      λ z. not_both (eq-eqb x.number 0 z) (not-true (eqb x.number 0) (and_left _ _ h)),
      ltb-true x.number y.number (and_right (not (eqb x.number 0)) _ h),
    )

-- each place may be followed by the next one: so it is by all that stand behind it
pub in_line : (held : List Declaration) → in_arrival (λ x. x.number) held ≡ true → InLine held
unfolding in_arrival
in_line [] e = tt
in_line (x ∷ []) e = (tt, tt)
in_line (x ∷ y ∷ ys) e =
    let near : Behind x y = next_behind x y (and_left _ _ e) in
    let line : InLine (y ∷ ys) = in_line (y ∷ ys) (and_right (may_arrive (λ z. z.number) x y) _ e) in (
      (
        near,
        each (Behind y) (Behind x) ys
            (λ z h n. let a = h n in let b = near a.0 in (b.0, omega (arith, a.1, b.1)))
            line.0,
      ),
      line,
    )

pub line_keep : (p : Declaration → Bool) (xs : List Declaration) → InLine xs → InLine (keep p xs)
unfolding keep
line_keep p [] l = tt
line_keep p (x ∷ xs) l = go (p x) (line_keep p xs l.1)
  where
    go : (b : Bool) → InLine (keep p xs) → InLine (if b then x ∷ keep p xs else keep p xs)
    go true h = (each_keep (Behind x) p xs l.0, h)
    go false h = h

-- one number, one place
abbrev pub Own : Declaration → Declaration → Type 0
Own x y = (x.number ≡ 0 → ⊥) → y.number ≡ x.number → y ≡ x

pub own_number : (xs : List Declaration) → InLine xs → Each (λ x. Each (Own x) xs) xs
own_number [] l = tt
own_number (x ∷ xs) l = (
  ((λ n e. refl), each (Behind x) (Own x) xs (λ y h n e. absurd (clash x y h n e)) l.0),
  both (Behind x) (λ y. Each (Own y) xs) (λ y. Each (Own y) (x ∷ xs)) xs
      (λ y h r. ((λ n e. absurd (clash x y h (λ z. n (sym e ∙ z)) (sym e))), r)) l.0 (own_number xs l.1),
)
  where
    clash : (x y : Declaration) → Behind x y → (x.number ≡ 0 → ⊥) → y.number ≡ x.number → ⊥
    clash x y h n e = let b = h (λ z. n (sym e ∙ z)) in omega (arith, b.1, e)

-- a later place with a declaration has a larger number
pub later_larger :
    (xs : List Declaration) (d : Declaration) (i j : ℕ)
    → InLine xs
    → i < j
    → j < length xs
    → Behind (get_or xs i d) (get_or xs j d)
later_larger [] d i j l h k = absurd (not-suc-le-zero k)
later_larger (x ∷ xs) d zero zero l h k = absurd (not-suc-le-zero h)
later_larger (x ∷ xs) d zero (suc j) l h k = each_at (Behind x) xs d l.0 j (le_of_suc-le-suc k)
later_larger (x ∷ xs) d (suc i) zero l h k = absurd (not-suc-le-zero h)
later_larger (x ∷ xs) d (suc i) (suc j) l h k = later_larger xs d i j l.1 (le_of_suc-le-suc h) (le_of_suc-le-suc k)
