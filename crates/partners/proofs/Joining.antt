-- The list of partners as it is filled: from none on, by one confirmation after the other. Assumes nothing.
use Prim.Native.Nat.{ℕ, zero, suc, ◌<◌}
use mathlib.Core.Path.{◌≡◌, refl, sym, ap, ◌∙◌}
use mathlib.Core.List.{List, [], ◌∷◌, ◌++◌}
use native.Mathlib.Omega.{arith}
use native.Mathlib.Decide.{ℕ_discrete, dec_lt}
use native.Mathlib.Nat.{not-suc-le-zero, le_of_suc-le-suc}
use lib.ListN.{length, get_or, set, replicate, length-map, length-set}
use lib.Seq.{get_or-set_same, get_or-set_other, ext_get_or}
use Rattle.model.specs.declared.Declaration.{Declaration}
use Rattle.model.specs.declared.Trade.{Trade}
use Rattle.model.specs.Blocks.{undeclared, confirmation}
use Rattle.model.specs.Words.{Each}
use Rattle.partners.specs.Partners.{partner_in}
use Rattle.partners.specs.Places.{at, partners_in}
use Rattle.partners.proofs.Line.{InLine, later_larger}
use Rattle.partners.proofs.Naming.{Leaves, names_none, partner_skip, partner_before, partner_of_buyer, partner_of_seller}

-- where nobody is confirmed nobody has a partner
pub partners_none : (held : List Declaration) → replicate (length held) 0 ≡ partners_in [] held
unfolding partners_in partner_in
partners_none [] = refl
partners_none (x ∷ held) = ap (λ (l : List ℕ). 0 ∷ l) (partners_none held)

pub partners_in_length : (ts : List Trade) (held : List Declaration) → length (partners_in ts held) ≡ length held
unfolding partners_in
partners_in_length ts held = length-map held (λ x. partner_in ts x.number)

-- what trades give the place k
pub partners_in_at :
    (ts : List Trade) (held : List Declaration) (k : ℕ)
    → k < length held
    → get_or (partners_in ts held) k 0 ≡ partner_in ts (get_or held k undeclared).number
unfolding partners_in
partners_in_at ts [] k h = absurd (not-suc-le-zero h)
partners_in_at ts (x ∷ held) zero h = refl
partners_in_at ts (x ∷ held) (suc k) h = partners_in_at ts held k (le_of_suc-le-suc h)

-- one number, one place
pub same_place :
    (held : List Declaration) (i k : ℕ)
    → InLine held
    → i < length held
    → k < length held
    → ((get_or held i undeclared).number ≡ 0 → ⊥)
    → (get_or held k undeclared).number ≡ (get_or held i undeclared).number
    → k ≡ i
same_place held i k l h g n e = elim (ℕ_discrete k i) [
  | yes s ↦ s
  | no d ↦ absurd (elim (dec_lt i k) [
    | yes a ↦
        let b = later_larger held undeclared i k l a g (λ z. n (sym e ∙ z)) in
        omega (arith, b.1)
    | no a ↦
        let b = later_larger held undeclared k i l (omega arith) h n in
        omega (arith, b.1)
  ])
]

-- a buyer and a seller more are confirmed
module _
    (ts : List Trade) (held : List Declaration) (i j : ℕ) (b s : Declaration)
    (l : InLine held) (hi : i < length held) (hj : j < length held)
    (bi : b ≡ get_or held i undeclared) (sj : s ≡ get_or held j undeclared) (d : b.number ≡ s.number → ⊥)
    (nb : b.number ≡ 0 → ⊥) (ns : s.number ≡ 0 → ⊥)
    (fb : Each (Leaves b.number) ts) (fs : Each (Leaves s.number) ts) where
  at_buyer : b.number ≡ (get_or held i undeclared).number
  at_buyer = ap (λ (x : Declaration). x.number) bi

  at_seller : s.number ≡ (get_or held j undeclared).number
  at_seller = ap (λ (x : Declaration). x.number) sj

  of_buyer : partner_in (ts ++ confirmation b s ∷ []) b.number ≡ s.number
  unfolding confirmation
  of_buyer = partner_skip b.number ts (confirmation b s ∷ []) fb ∙ partner_of_buyer (confirmation b s) []

  of_seller : partner_in (ts ++ confirmation b s ∷ []) s.number ≡ b.number
  unfolding confirmation
  of_seller = partner_skip s.number ts (confirmation b s ∷ []) fs ∙ partner_of_seller (confirmation b s) [] d

  of_others :
      (n : ℕ) → (b.number ≡ n → ⊥) → (s.number ≡ n → ⊥) → partner_in (ts ++ confirmation b s ∷ []) n ≡ partner_in ts n
  unfolding confirmation
  of_others n f g = partner_before n ts (confirmation b s ∷ []) (names_none n (confirmation b s) f g, tt)

  more_at :
      (k : ℕ)
      → k < length held
      → get_or (set (set (partners_in ts held) i s.number) j b.number) k 0
      ≡ partner_in (ts ++ confirmation b s ∷ []) (get_or held k undeclared).number
  more_at k h = elim (ℕ_discrete k j) [
    | yes e ↦
        rw e
        (get_or-set_same (set (partners_in ts held) i s.number) j b.number 0 (omega (arith, length-set (partners_in ts held) i s.number, partners_in_length ts held))
        ∙ sym of_seller ∙ ap (partner_in (ts ++ confirmation b s ∷ [])) at_seller)
    | no n ↦
        get_or-set_other (set (partners_in ts held) i s.number) j k b.number 0 n
        ∙ elim (ℕ_discrete k i) [
          | yes e ↦
              rw e
              (get_or-set_same (partners_in ts held) i s.number 0 (omega (arith, partners_in_length ts held))
              ∙ sym of_buyer ∙ ap (partner_in (ts ++ confirmation b s ∷ [])) at_buyer)
          | no m ↦
              get_or-set_other (partners_in ts held) i k s.number 0 m ∙ partners_in_at ts held k h
              ∙ sym
              (of_others (get_or held k undeclared).number
              (λ e. m (same_place held i k l hi h (λ z. nb (at_buyer ∙ z)) (sym e ∙ at_buyer)))
              (λ e. n (same_place held j k l hj h (λ z. ns (at_seller ∙ z)) (sym e ∙ at_seller))))
        ]
  ]

  pub two_more :
      set (set (partners_in ts held) i s.number) j b.number ≡ partners_in (ts ++ confirmation b s ∷ []) held
  two_more =
      ext_get_or 0 (set (set (partners_in ts held) i s.number) j b.number) (partners_in (ts ++ confirmation b s ∷ []) held)
      (long ∙ sym (partners_in_length (ts ++ confirmation b s ∷ []) held))
      (λ k h. more_at k (omega (arith, h, long)) ∙ sym (partners_in_at (ts ++ confirmation b s ∷ []) held k (omega (arith, h, long))))
    where
      long : length (set (set (partners_in ts held) i s.number) j b.number) ≡ length held
      long =
          length-set (set (partners_in ts held) i s.number) j b.number ∙ length-set (partners_in ts held) i s.number
          ∙ partners_in_length ts held

-- the numbers as the code reads them
pub join_at :
    (rows : List Declaration) (l : List ℕ) (p q : ℕ) {x y : Declaration}
    → x ≡ get_or rows p undeclared
    → y ≡ get_or rows q undeclared
    → set (set l p y.number) q x.number ≡ set (set l p (at rows q).number) q (at rows p).number
join_at rows l p q {x} {y} a b =
    ap (λ (z : Declaration). set (set l p z.number) q x.number) (b)
    ∙ ap (λ (z : Declaration). set (set l p (at rows q).number) q z.number) (a)
