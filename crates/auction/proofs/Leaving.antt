-- What is left of a side at a price that nobody left is better than: the head and those right behind it that stand at it.
use Prim.Native.Nat.{ℕ, suc, ◌+◌, ◌≤◌, ◌<◌, max}
use mathlib.Core.Path.{◌≡◌, refl, sym, ap, ◌∙◌}
use mathlib.Core.Bool.{Bool, true, false, cond}
use mathlib.Core.List.{List, [], ◌∷◌}
use mathlib.Core.Logic.{◌⊎◌, inl, inr}
use native.Mathlib.Decide.{ℕ_discrete}
use native.Mathlib.Omega.{arith}
use lib.ListN.{length, get_or}
use lib.Dec.{leb, eqb}
use borrow.Author.Tests.{leb-true, le-leb, eq-eqb, ne_eqb}
use Rattle.model.specs.declared.Order.{Order}
use Rattle.model.specs.Book.{queue, free}
use Rattle.model.specs.Matching.{meets}
use Rattle.model.proofs.Bools.{not_true_false}
use Rattle.book.specs.declared.Head.{Head}
use Rattle.model.specs.Words.{Each}
use Rattle.book.specs.Lines.{line}
use Rattle.book.specs.Heads.{as_order, waiting}
use Rattle.book.proofs.Lists.{each}
use Rattle.book.proofs.Lines.{line_end, line_cons}
use Rattle.auction.specs.Interest.{interest}
use Rattle.auction.specs.declared.Tier.{Tier}
use Rattle.auction.specs.Tiers.{run_of, alike, tier_from}
use Rattle.auction.specs.Walks.{reach, left_at}
use Rattle.auction.proofs.Walks.{NoBetter, Falls, Taken, reach_nobody, reach_next, none_reach, total_at, nobody, here}

-- ---- those at the front that stand at a price

run_nobody : (p : ℕ) → run_of p [] ≡ 0
unfolding run_of
run_nobody p = refl

alike_nobody : (p : ℕ) → alike p [] ≡ 0
unfolding alike
alike_nobody p = refl

module _ (p : ℕ) (o : Order) (os : List Order) where
  pub run_on : o.price ≡ p → run_of p (o ∷ os) ≡ o.left + run_of p os
  unfolding run_of
  run_on e = rw (eq-eqb o.price p e)

  pub run_off : (o.price ≡ p → ⊥) → run_of p (o ∷ os) ≡ 0
  unfolding run_of
  run_off e = rw (ne_eqb o.price p e)

  pub alike_on : o.price ≡ p → alike p (o ∷ os) ≡ suc (alike p os)
  unfolding alike
  alike_on e = rw (eq-eqb o.price p e)

  pub alike_off : (o.price ≡ p → ⊥) → alike p (o ∷ os) ≡ 0
  unfolding alike
  alike_off e = rw (ne_eqb o.price p e)

own_price : (side p : ℕ) → meets side p p ≡ true
unfolding meets
own_price side p = go (eqb side 0)
  where
    go : (b : Bool) → cond b (leb p p) (leb p p) ≡ true
    go true = le-leb p p (omega arith)
    go false = le-leb p p (omega arith)

-- who is no better than p and trades at p stands at p
same_price : (side p x : ℕ) → NoBetter side p x → meets side x p ≡ true → x ≡ p
unfolding meets
same_price side p x n e = go (eqb side 0) e (n x (own_price side x))
  where
    go : (b : Bool) → cond b (leb p x) (leb x p) ≡ true → cond b (leb x p) (leb p x) ≡ true → x ≡ p
    go true e f = omega (arith, leb-true p x e, leb-true x p f)
    go false e f = omega (arith, leb-true x p e, leb-true p x f)

-- of a side none of which is better than p they trade at p, and nobody else
run_reach :
    (side p : ℕ) (os : List Order)
    → Each (λ x. NoBetter side p x.price) os
    → Falls side os
    → reach side p os ≡ run_of p os
run_reach side p [] n f = reach_nobody side p ∙ sym (run_nobody p)
run_reach side p (o ∷ os) n f = elim (ℕ_discrete o.price p) [
  | yes e ↦
      let m : meets side o.price p ≡ true = ap (λ x. meets side x p) e ∙ own_price side p in
      reach_next side p o os
      ∙ rw m (ap (λ k. o.left + k) (run_reach side p os n.1 f.1))
      ∙ sym (run_on p o os e)
  | no e ↦
      let m : meets side o.price p ≡ false = not_true_false (λ t. e (same_price side p o.price n.0 t)) in
      reach_next side p o os ∙ rw m (omega (arith, none_reach side o.price p os m f.0)) ∙ sym (run_off p o os e)
]

-- ---- the loop that adds them up

-- what is added up so far, with the rest of them, is the whole
pub record Adds (rows : List Order) (from end p sum at : ℕ) : Type 0 where
  pub whole : sum + run_of p (line at end rows) ≡ run_of p (line from end rows)
  pub places : at + alike p (line at end rows) ≡ from + alike p (line from end rows)
  pub near : at ≤ max from end
  pub far : from ≤ at

tier_is :
    (from p : ℕ) (os : List Order) {sum at : ℕ}
    → sum ≡ run_of p os
    → at ≡ from + alike p os
    → record { shares = sum; behind = at } ≡ tier_from from p os
unfolding tier_from
tier_is from p os e f = rw (e, f)

module _ (rows : List Order) (from end p : ℕ) (short : end ≤ length rows) where
  module _ {sum at : ℕ} {o : Order} (k : Adds rows from end p sum at) (l : at < end) (e : o ≡ get_or rows at free) where
    begins : line at end rows ≡ o ∷ line (at + 1) end rows
    begins = line_cons at end rows l short e

    pub run_ends : (o.price ≡ p → ⊥) → record { shares = sum; behind = at } ≡ tier_from from p (line from end rows)
    run_ends n =
        tier_is from p (line from end rows)
        (omega (arith, k.whole, ap (run_of p) begins, run_off p o (line (at + 1) end rows) n))
        (omega (arith, k.places, ap (alike p) begins, alike_off p o (line (at + 1) end rows) n))

    pub run_more : o.price ≡ p → Adds rows from end p (sum + o.left) (at + 1)
    run_more n =
        record {
          whole = omega (arith, k.whole, ap (run_of p) begins, run_on p o (line (at + 1) end rows) n);
          places = omega (arith, k.places, ap (alike p) begins, alike_on p o (line (at + 1) end rows) n);
          near = omega arith;
          far = omega (arith, k.far);
        }

  pub run_all : {sum at behind : ℕ} → Adds rows from end p sum at → end ≤ at → behind ≡ max from end → record { shares = sum; behind = behind } ≡ tier_from from p (line from end rows)
  run_all {sum} {at} {behind} k l b =
      let z : alike p (line at end rows) ≡ 0 = ap (alike p) (line_end at end rows l) ∙ alike_nobody p in
      tier_is from p (line from end rows)
      (omega (arith, k.whole, ap (run_of p) (line_end at end rows l), run_nobody p))
      (omega (arith, b, z, k.places, k.near, k.far))

-- ---- of a head and those behind it

module _ (p : ℕ) (h : Head) (os : List Order) where
  pub left_none : h.left ≡ 0 → 0 ≡ left_at p h os
  unfolding left_at
  left_none z = rw (eq-eqb h.left 0 z)

  pub left_off : (h.left ≡ 0 → ⊥) → (h.price ≡ p → ⊥) → 0 ≡ left_at p h os
  unfolding left_at
  left_off n e = rw (ne_eqb h.left 0 n, ne_eqb h.price p e)

  left_on : (h.left ≡ 0 → ⊥) → h.price ≡ p → h.left + run_of p os ≡ left_at p h os
  unfolding left_at
  left_on n e = rw (ne_eqb h.left 0 n, eq-eqb h.price p e)

  pub left_most : (h.left ≡ 0 → ⊥) → h.price ≡ p → left_at p h os ≤ 4_096_000_000 → run_of p os ≤ 4_096_000_000
  left_most n e l = omega (arith, left_on n e)

  pub left_with : (from : ℕ) {r : Tier} → (h.left ≡ 0 → ⊥) → h.price ≡ p → r ≡ tier_from from p os → h.left + r.shares ≡ left_at p h os
  unfolding tier_from
  left_with from n e g = omega (arith, left_on n e, ap (λ (t : Tier). t.shares) g)

-- ---- where a walk has ended

module _ (side : ℕ) (book : List Order) (end : ℕ) (rows : List Order) {shares m : ℕ} {h : Head} (t : Taken side (queue side book) end rows shares m h) (placed : ((0 < h.left) × (h.at < end)) ⊎ ((h.left ≡ 0) × (end ≤ h.at))) where
  abbrev os : List Order
  os = line (h.at + 1) end rows

  left_reach : (p : ℕ) → (0 < h.left → NoBetter side p h.price) → reach side p (waiting h os) ≡ left_at p h os
  left_reach p n = go placed
    where
      as_head : 0 < h.left → run_of p (as_order h ∷ os) ≡ left_at p h os
      as_head l = unfold run_of as_order left_at in rw (ne_eqb h.left 0 (omega arith))

      go : ((0 < h.left) × (h.at < end)) ⊎ ((h.left ≡ 0) × (end ≤ h.at)) → reach side p (waiting h os) ≡ left_at p h os
      go (inr z) =
          ap (reach side p) (nobody side book end rows t placed z.0 z.1) ∙ reach_nobody side p ∙ left_none p h os z.0
      go (inl l) =
          let e : waiting h os ≡ as_order h ∷ os = here side book end rows t placed l.0 in
          let f : Falls side (as_order h ∷ os) = rw e at t.falls in
          let b : Each (λ x. NoBetter side p x.price) os =
          each (λ x. NoBetter side h.price x.price) (λ x. NoBetter side p x.price) os (λ x k i g. n l.0 i (k i g))
          (unfold as_order in f.0)
          in
          ap (reach side p) e ∙ run_reach side p (as_order h ∷ os) (unfold as_order in (n l.0, b)) f ∙ as_head l.0

  pub left_over_lem :
      (p : ℕ)
      → p ≤ 1_000_000
      → meets side m p ≡ true
      → (0 < h.left → NoBetter side p h.price)
      → interest book side p ≡ shares + left_at p h os
  left_over_lem p k e n = omega (arith, total_at side book end rows t placed p, t.all p k e, left_reach p n)
