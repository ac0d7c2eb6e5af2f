-- Each order is filled what its side, cut to the volume, grants it: never more than it has, and together the volume.
use Rattle.std.specs.Prelude.{if◌then◌else◌}
use Prim.Native.Nat.{ℕ, ◌-◌, ◌≤◌, min}
use mathlib.Core.Path.{◌≡◌, refl, sym}
use mathlib.Core.List.{List, [], ◌∷◌}
use native.Mathlib.Decide.{dec_lt}
use native.Mathlib.Omega.{arith}
use borrow.Author.Tests.{eq-eqb, ne_eqb}
use lib.Dec.{eqb}
use Rattle.model.specs.declared.Order.{Order}
use Rattle.model.specs.Pairing.{cut}
use Rattle.model.specs.Words.{Each, granted}
use Rattle.book.proofs.Lists.{both, each}
use Rattle.book.proofs.Sorting.{Distinct}
use Rattle.pairing.proofs.Turns.{brings, cut_some, cut_nothing, cut_nobody}
use Rattle.pairing.proofs.Grants.{granted_next, granted_none}

-- a number that nobody bears is granted nothing
pub no_grant : (n v : ℕ) (os : List Order) → Each (λ o. o.number ≡ n → ⊥) os → granted n (cut v os) ≡ 0
no_grant n v [] e = rw (cut_nobody v) (granted_none n)
no_grant n v (o ∷ os) e = elim (dec_lt 0 v) [
  | yes k ↦
      let z : (if eqb o.number n then min v o.left else 0) ≡ 0 = rw (ne_eqb o.number n e.0) in
      rw (cut_some v o os k)
      (omega (arith, granted_next n (brings v o) (cut (v - o.left) os), no_grant n (v - o.left) os e.1))
  | no k ↦ let z : v ≡ 0 = omega arith in rw (z, cut_nothing (o ∷ os)) (granted_none n)
]

-- those behind the first of a queue are granted what the rest of the volume grants them
pub grant_behind :
    (v n : ℕ) (o : Order) (os : List Order)
    → (o.number ≡ n → ⊥)
    → granted n (cut v (o ∷ os)) ≡ granted n (cut (v - o.left) os)
grant_behind v n o os d = elim (dec_lt 0 v) [
  | yes k ↦
      let z : (if eqb o.number n then min v o.left else 0) ≡ 0 = rw (ne_eqb o.number n d) in
      rw (cut_some v o os k)
      (omega (arith, granted_next n (brings v o) (cut (v - o.left) os)))
  | no k ↦
      let z : v ≡ 0 = omega arith in
      let y : v - o.left ≡ 0 = omega arith in
      rw (y, z, cut_nothing (o ∷ os), cut_nothing os)
]

module _ (v : ℕ) (o : Order) (os : List Order) (e : Each (λ p. p.number ≡ o.number → ⊥) os) where
  -- the first of a queue is granted what it has, up to the volume
  pub first_grant : granted o.number (cut v (o ∷ os)) ≡ min v o.left
  first_grant = elim (dec_lt 0 v) [
    | yes k ↦
        let z : (if eqb o.number o.number then min v o.left else 0) ≡ min v o.left =
        rw (eq-eqb o.number o.number refl) in
        rw (cut_some v o os k)
        (omega (arith, granted_next o.number (brings v o) (cut (v - o.left) os), no_grant o.number (v - o.left) os e))
    | no k ↦ let z : v ≡ 0 = omega arith in rw (z, cut_nothing (o ∷ os)) (omega (arith, granted_none o.number))
  ]

  pub later_grants : Each (λ p. granted p.number (cut v (o ∷ os)) ≡ granted p.number (cut (v - o.left) os)) os
  later_grants =
      each (λ p. p.number ≡ o.number → ⊥)
      (λ p. granted p.number (cut v (o ∷ os)) ≡ granted p.number (cut (v - o.left) os)) os
      (λ p d. grant_behind v p.number o os (λ y. d (sym y))) e

-- nobody is granted more than he has
pub grants_within :
    (v : ℕ) (os : List Order)
    → Distinct (λ o. o.number) os
    → Each (λ o. granted o.number (cut v os) ≤ o.left) os
grants_within v [] d = tt
grants_within v (o ∷ os) d = (
  omega (arith, first_grant v o os d.0),
  both (λ p. granted p.number (cut v (o ∷ os)) ≡ granted p.number (cut (v - o.left) os))
      (λ p. granted p.number (cut (v - o.left) os) ≤ p.left) (λ p. granted p.number (cut v (o ∷ os)) ≤ p.left) os
      (λ p x y. omega arith)
      (later_grants v o os d.0)
      (grants_within (v - o.left) os d.1),
)
