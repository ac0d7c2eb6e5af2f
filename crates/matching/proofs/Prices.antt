-- Laws of the different prices of a list: where each stands first, and how many there can be.
use Prim.Native.Nat.{ℕ, suc, ◌≤◌}
use mathlib.Core.Path.{◌≡◌, refl, sym, ap, ◌∙◌}
use mathlib.Core.Bool.{Bool, true, false, cond, not, ◌&&◌}
use mathlib.Core.List.{List, [], ◌∷◌}
use native.Mathlib.Omega.{arith}
use lib.ListN.{length}
use lib.Dec.{eqb}
use borrow.Author.Tests.{eq-eqb, ne_eqb, eqb-true, not-false}
use Rattle.model.specs.Lists.{keep, any, among, once, different}
use Rattle.model.specs.Words.{Each}
use Rattle.book.proofs.Lists.{keep_false, keep_keep, keep_all, keep_same, both, each, each_keep, kept}
use Rattle.book.proofs.Sorting.{Distinct}

-- not this price
pub isnt : ℕ → ℕ → Bool
isnt p r = not (eqb p r)

pub isnt_true : (p r : ℕ) → (r ≡ p → ⊥) → isnt p r ≡ true
unfolding isnt
isnt_true p r n = rw (ne_eqb p r (λ e. n (sym e)))

isnt_false : (p r : ℕ) → r ≡ p → isnt p r ≡ false
unfolding isnt
isnt_false p r e = rw (eq-eqb p r (sym e))

isnt_is : (p r : ℕ) → isnt p r ≡ false → r ≡ p
unfolding isnt
isnt_is p r e = sym (eqb-true p r (not-false (eqb p r) e))

isnt_ne : (p r : ℕ) → isnt p r ≡ true → r ≡ p → ⊥
isnt_ne p r e q = let z : ◌≡◌ {A = ℕ} 0 1 = cc (isnt_false p r q) in omega arith

-- ---- each price once

once_nil : once [] ≡ []
unfolding once
once_nil = refl

once_cons : (p : ℕ) (ps : List ℕ) → once (p ∷ ps) ≡ p ∷ keep (isnt p) (once ps)
unfolding once isnt
once_cons p ps = refl

pub each_once : (P : ℕ → Type 0) (ps : List ℕ) → Each P ps → Each P (once ps)
unfolding once
each_once P [] e = tt
each_once P (p ∷ ps) e = (e.0, each_keep P (λ y. not (eqb p y)) (once ps) (each_once P ps e.1))

and_same : (a : Bool) → a && a ≡ a
and_same true = refl
and_same false = refl

-- a price that comes again adds none
pub once_again : (p r : ℕ) (ps : List ℕ) → r ≡ p → once (p ∷ r ∷ ps) ≡ once (p ∷ ps)
once_again p r ps e =
    let twice : keep (isnt p) (once (r ∷ ps)) ≡ keep (isnt p) (once ps) =
    ap (keep (isnt p)) (once_cons r ps)
    ∙ keep_false (isnt p) r (keep (isnt r) (once ps)) (isnt_false p r e)
    ∙ ap (λ (x : ℕ). keep (isnt p) (keep (isnt x) (once ps))) e
    ∙ keep_keep (isnt p) (isnt p) (once ps)
    ∙ keep_same (λ x. isnt p x && isnt p x) (isnt p) (once ps) (all_same (once ps))
    in
    once_cons p (r ∷ ps) ∙ ap (λ (l : List ℕ). p ∷ l) twice ∙ sym (once_cons p ps)
  where
    all_same : (xs : List ℕ) → Each (λ x. isnt p x && isnt p x ≡ isnt p x) xs
    all_same [] = tt
    all_same (x ∷ xs) = (and_same (isnt p x), all_same xs)

-- a price that does not come again stands before the others
pub once_new : (p : ℕ) (ps : List ℕ) → Each (λ r. r ≡ p → ⊥) ps → once (p ∷ ps) ≡ p ∷ once ps
once_new p ps e =
    once_cons p ps
    ∙ ap (λ (l : List ℕ). p ∷ l)
    (keep_all (isnt p) (once ps)
    (each (λ r. r ≡ p → ⊥) (λ r. isnt p r ≡ true) (once ps) (isnt_true p) (each_once (λ r. r ≡ p → ⊥) ps e)))

pub among_here : (p r : ℕ) (ps : List ℕ) → r ≡ p → among (p ∷ ps) r ≡ true
unfolding among any
among_here p r ps e = rw (eq-eqb r p e)

pub among_later : (p r : ℕ) (ps : List ℕ) → (r ≡ p → ⊥) → among (p ∷ ps) r ≡ among ps r
unfolding among any
among_later p r ps n = rw (ne_eqb r p n)

pub among_none : (r : ℕ) → among [] r ≡ false
unfolding among any
among_none r = refl

-- ---- no more different prices than a list has that all of them are in

abbrev Differ : List ℕ → Type 0
Differ ps = Distinct (λ (p : ℕ). p) ps

differ_keep : (t : ℕ → Bool) (ps : List ℕ) → Differ ps → Differ (keep t ps)
unfolding keep
differ_keep t [] d = tt
differ_keep t (p ∷ ps) d = go (t p) (differ_keep t ps d.1)
  where
    go : (b : Bool) → Differ (keep t ps) → Differ (cond b (p ∷ keep t ps) (keep t ps))
    go true h = (each_keep (λ r. r ≡ p → ⊥) t ps d.0, h)
    go false h = h

differ_once : (ps : List ℕ) → Differ (once ps)
differ_once [] = rw once_nil tt
differ_once (p ∷ ps) =
    rw (once_cons p ps) (
      each (λ r. isnt p r ≡ true) (λ r. r ≡ p → ⊥) (keep (isnt p) (once ps)) (isnt_ne p) (kept (isnt p) (once ps)),
      differ_keep (isnt p) (once ps) (differ_once ps),
    )

-- one price is at most one of them
one_less : (p : ℕ) (ps : List ℕ) → Differ ps → length ps ≤ suc (length (keep (isnt p) ps))
unfolding keep
one_less p [] d = omega arith
one_less p (r ∷ ps) d = go (isnt p r) refl (one_less p ps d.1)
  where
    rest : isnt p r ≡ false → keep (isnt p) ps ≡ ps
    rest e =
        keep_all (isnt p) ps
        (each (λ x. x ≡ r → ⊥) (λ x. isnt p x ≡ true) ps (λ x n. isnt_true p x (λ q. n (q ∙ sym (isnt_is p r e))))
        d.0)

    go :
        (b : Bool)
        → isnt p r ≡ b
        → length ps ≤ suc (length (keep (isnt p) ps))
        → suc (length ps) ≤ suc (length (cond b (r ∷ keep (isnt p) ps) (keep (isnt p) ps)))
    go true e ih = omega arith
    go false e ih = omega (arith, ap length (rest e))

differ_few : (all ps : List ℕ) → Differ ps → Each (λ p. among all p ≡ true) ps → length ps ≤ length all
differ_few [] [] d e = omega arith
differ_few [] (p ∷ ps) d e = let z : ◌≡◌ {A = ℕ} 0 1 = cc (among_none p, e.0) in absurd (omega arith)
differ_few (a ∷ all) ps d e =
    let others : Each (λ p. among all p ≡ true) (keep (isnt a) ps) =
    both (λ p. isnt a p ≡ true) (λ p. among (a ∷ all) p ≡ true) (λ p. among all p ≡ true) (keep (isnt a) ps)
    (λ p n h. sym (among_later a p all (isnt_ne a p n)) ∙ h) (kept (isnt a) ps)
    (each_keep (λ p. among (a ∷ all) p ≡ true) (isnt a) ps e)
    in
    let fewer : length (keep (isnt a) ps) ≤ length all =
    differ_few all (keep (isnt a) ps) (differ_keep (isnt a) ps d) others
    in
    omega (arith, one_less a ps d)

pub different_few : (all ps : List ℕ) → Each (λ p. among all p ≡ true) ps → different ps ≤ length all
unfolding different
different_few all ps e = differ_few all (once ps) (differ_once ps) (each_once (λ p. among all p ≡ true) ps e)
