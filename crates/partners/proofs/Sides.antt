-- Buyers and sellers sorted by class: they are paired as those that stand in order of arrival, class by class, so that each has the
-- same partner. Assumes nothing.
use Rattle.std.specs.Prelude.{if◌then◌else◌}
use Prim.Native.Nat.{ℕ}
use mathlib.Core.Path.{◌≡◌, refl, sym, ap, ◌∙◌}
use mathlib.Core.Logic.{◌⊎◌, inl, inr, ⊎_elim}
use mathlib.Core.Bool.{Bool, true, false}
use mathlib.Core.List.{List, [], ◌∷◌, map}
use native.Mathlib.Decide.{ℕ_discrete}
use native.Mathlib.Omega.{arith}
use Rattle.model.specs.declared.Declaration.{Declaration}
use Rattle.model.specs.declared.Trade.{Trade}
use Rattle.model.specs.Lists.{keep}
use Rattle.model.specs.Blocks.{confirmation, confirmations}
use Rattle.model.specs.Words.{Each}
use Rattle.model.proofs.Bools.{not_both}
use Rattle.book.proofs.Lists.{each, both, kept, each_keep, keep_true, keep_false, map_same}
use Rattle.declarations.specs.Declared.{Declared}
use Rattle.classes.specs.Classes.{class_of, is_same}
use Rattle.classes.specs.Sorting.{Sorted}
use Rattle.classes.proofs.Keys.{same_self, same_equal}
use Rattle.classes.proofs.Merging.{sorted_each}
use Rattle.partners.specs.Partners.{partner_in, partners, is_buyer}
use Rattle.partners.specs.Places.{partners_in}
use Rattle.partners.proofs.Tests.{each_map, each_of_kept}
use Rattle.partners.proofs.Line.{Behind, InLine, Own, line_keep, own_number}
use Rattle.partners.proofs.Naming.{Leaves, names_none, partner_none, partner_skip, partner_first}
use Rattle.partners.proofs.Buyers.{Buys, Unsold, held_line, held_turning}
use Rattle.partners.proofs.Walked.{free_partner}
use Rattle.partners.proofs.Classes.{fits_same}
use Rattle.partners.proofs.Pairs.{Pair, Both, paired, in_class, zipped, ByClass, each_paired, class_paired}
use Rattle.partners.proofs.InPairs.{trade_of, is_seller, Sells, seller_sells, confirmed_pairs}
use Rattle.partners.proofs.Once.{Unlike, Distinct, Once, once_paired}

-- ---- numbers that stand once

abbrev Real : Declaration → Type 0
Real x = x.number ≡ 0 → ⊥

line_distinct : (xs : List Declaration) → InLine xs → Each Real xs → Distinct xs
line_distinct [] l r = tt
line_distinct (x ∷ xs) l r =
    (both Real (Behind x) (Unlike x) xs (λ y n h e. let k = h n in omega (arith, k.1)) r.1 l.0, line_distinct xs l.1 r.1)

distinct_keep : (p : Declaration → Bool) (xs : List Declaration) → Distinct xs → Distinct (keep p xs)
unfolding keep
distinct_keep p [] d = tt
distinct_keep p (x ∷ xs) d = go (p x) (distinct_keep p xs d.1)
  where
    go : (b : Bool) → Distinct (keep p xs) → Distinct (if b then x ∷ keep p xs else keep p xs)
    go true h = (each_keep (Unlike x) p xs d.0, h)
    go false h = h

-- where the members of each class have numbers of their own, all have
distinct_by_class :
    (xs : List Declaration)
    → Each Real xs
    → Each (λ x. Each (Own x) xs) xs
    → ((c : List ℕ) → Distinct (keep (λ y. is_same c (class_of y)) xs))
    → Distinct xs
distinct_by_class [] r o d = tt
distinct_by_class (x ∷ xs) r o d = (
  both (λ y. is_same (class_of x) (class_of y) ≡ true → Unlike x y) (Own x) (Unlike x) xs
      (λ y h own e. h (ap (λ (z : Declaration). is_same (class_of x) (class_of z)) (own r.0 e) ∙ same_self (class_of x)) e)
      (each_of_kept (λ y. is_same (class_of x) (class_of y)) (Unlike x) xs own_class) o.0.1,
  distinct_by_class xs r.1 (each (λ y. Each (Own y) (x ∷ xs)) (λ y. Each (Own y) xs) xs (λ y h. h.1) o.1) (λ c. less c (is_same c (class_of x)) refl (d c)),
)
  where
    own_class : Each (Unlike x) (keep (λ y. is_same (class_of x) (class_of y)) xs)
    own_class = (rw (keep_true (λ y. is_same (class_of x) (class_of y)) x xs (same_self (class_of x))) at (d (class_of x))).0

    less :
        (c : List ℕ) (b : Bool)
        → is_same c (class_of x) ≡ b
        → Distinct (keep (λ y. is_same c (class_of y)) (x ∷ xs))
        → Distinct (keep (λ y. is_same c (class_of y)) xs)
    less c true e h = (rw (keep_true (λ y. is_same c (class_of y)) x xs e) at h).1
    less c false e h = rw (keep_false (λ y. is_same c (class_of y)) x xs e) at h

-- ---- the partner in a class's own pairs

partner_in_class :
    (n : ℕ) (c : List ℕ) (ps : List Pair)
    → Each (λ p. Leaves n (trade_of p) ⊎ (in_class c p ≡ true)) ps
    → partner_in (map trade_of ps) n ≡ partner_in (map trade_of (keep (in_class c) ps)) n
partner_in_class n c [] e = unfold keep in refl
partner_in_class n c (p ∷ ps) e = go (in_class c p) refl e.0 (partner_in_class n c ps e.1)
  where
    go :
        (b : Bool)
        → in_class c p ≡ b
        → Leaves n (trade_of p) ⊎ (in_class c p ≡ true)
        → partner_in (map trade_of ps) n ≡ partner_in (map trade_of (keep (in_class c) ps)) n
        → partner_in (trade_of p ∷ map trade_of ps) n ≡ partner_in (map trade_of (keep (in_class c) (p ∷ ps))) n
    go true f w h =
        partner_first (trade_of p) n (map trade_of ps) (map trade_of (keep (in_class c) ps)) h
        ∙ ap (λ (l : List Pair). partner_in (map trade_of l) n) (sym (keep_true (in_class c) p ps f))
    go false f w h =
        partner_skip n (trade_of p ∷ []) (map trade_of ps) (⊎_elim (λ l. l) (λ t. absurd (not_both t f)) w, tt)
        ∙ h ∙ ap (λ (l : List Pair). partner_in (map trade_of l) n) (sym (keep_false (in_class c) p ps f))

-- ---- those that pass a test

-- of those that pass a test, sorted, no two have the same number
distinct_sorted :
    (held : List Declaration) (t : Declaration → Bool) (xs : List Declaration)
    → InLine held
    → Each Real (keep t held)
    → Sorted class_of (keep t held) xs
    → Distinct xs
distinct_sorted held t xs l r s =
    distinct_by_class xs (still Real r)
    (still (λ x. Each (Own x) xs)
    (each_keep (λ x. Each (Own x) xs) t held
    (each (λ x. Each (Own x) held) (λ x. Each (Own x) xs) held (λ x h. still (Own x) (each_keep (Own x) t held h)) (own_number held l))))
    (λ c.
    rw (s.same c)
    (distinct_keep (λ y. is_same c (class_of y)) (keep t held) (line_distinct (keep t held) (line_keep t held l) r)))
  where
    still : (P : Declaration → Type 0) → Each P (keep t held) → Each P xs
    still P e = sorted_each class_of P (keep t held) s e

-- buyers and sellers in any order
module _
    (held : List Declaration) (d : Declared held) (bs ss : List Declaration)
    (each_buyer : (P : Declaration → Type 0) → Each P (keep is_buyer held) → Each P bs)
    (each_seller : (P : Declaration → Type 0) → Each P (keep is_seller held) → Each P ss) where
  first_sells : Each Sells (keep is_seller held)
  first_sells = each (λ x. is_seller x ≡ true) Sells (keep is_seller held) (λ x e. seller_sells x e) (kept is_seller held)

  all_buy : Each Buys bs
  all_buy = each_buyer Buys (held_turning held d).buys

  all_sell : Each Sells ss
  all_sell = each_seller Sells first_sells

  -- no seller has a buyer's number
  two_sides : Each (λ s. Each (λ b. Unlike b s) bs) ss
  two_sides =
      each_seller (λ s. Each (λ b. Unlike b s) bs)
      (both Sells (λ s. Each (λ b. Unsold b.number s) (keep is_buyer held)) (λ s. Each (λ b. Unlike b s) bs) (keep is_seller held)
      (λ s h u. each_buyer (λ b. Unlike b s) (each (λ b. Unsold b.number s) (λ b. Unlike b s) (keep is_buyer held) (λ b k. k h.side) u))
      first_sells
      (each_keep (λ s. Each (λ b. Unsold b.number s) (keep is_buyer held)) is_seller held (held_turning held d).apart))

  by_class : Each (λ b. Each (ByClass b) ss) bs
  by_class = each Buys (λ b. Each (ByClass b) ss) bs (λ b p. each Sells (ByClass b) ss (λ s q. fits_same b s p.side q.side) all_sell) all_buy

  -- each pair is of the class of both of its two
  abbrev InClassOf : Declaration → Pair → Type 0
  InClassOf x p = Leaves x.number (trade_of p) ⊎ (in_class (class_of x) p ≡ true)

  pair_class : (x : Declaration) → Real x → Each (Own x) held → Each (InClassOf x) (paired bs ss)
  unfolding confirmation
  pair_class x n o =
      each (Both (λ b. Buys b × Own x b) (λ s. Sells s × Own x s)) (InClassOf x) (paired bs ss) (λ p h. of p h)
      (each_paired (λ b. Buys b × Own x b) (λ s. Sells s × Own x s) bs ss
      (both Buys (Own x) _ bs (λ b h k. (h, k)) all_buy (each_buyer (Own x) (each_keep (Own x) is_buyer held o)))
      (both Sells (Own x) _ ss (λ s h k. (h, k)) all_sell (each_seller (Own x) (each_keep (Own x) is_seller held o))))
    where
      of : (p : Pair) → Both (λ b. Buys b × Own x b) (λ s. Sells s × Own x s) p → InClassOf x p
      of p h = elim (ℕ_discrete p.buyer.number x.number) [
        | yes e ↦ inr (ap (λ (z : Declaration). is_same (class_of x) (class_of z)) (h.0.1 n e) ∙ same_self (class_of x))
        | no f ↦ elim (ℕ_discrete p.seller.number x.number) [
          | yes e ↦
              let same : class_of p.buyer ≡ class_of p.seller =
              same_equal (class_of p.buyer) (class_of p.seller) (sym (fits_same p.buyer p.seller h.0.0.side h.1.0.side) ∙ h.2) in
              inr
              (ap (is_same (class_of x)) (same ∙ ap class_of (h.1.1 n e)) ∙ same_self (class_of x))
          | no g ↦ inl (names_none x.number (trade_of p) f g)
        ]
      ]

-- ---- sorted

pub record Sides (held bs ss : List Declaration) : Type 0 where
  pub buyers : Sorted class_of (keep is_buyer held) bs
  pub sellers : Sorted class_of (keep is_seller held) ss

module _ (held : List Declaration) (d : Declared held) (bs ss : List Declaration) (sides : Sides held bs ss) where
  each_buyer : (P : Declaration → Type 0) → Each P (keep is_buyer held) → Each P bs
  each_buyer P e = sorted_each class_of P (keep is_buyer held) sides.buyers e

  each_seller : (P : Declaration → Type 0) → Each P (keep is_seller held) → Each P ss
  each_seller P e = sorted_each class_of P (keep is_seller held) sides.sellers e

  pub buyers_buy : Each Buys bs
  buyers_buy = all_buy held d bs ss each_buyer each_seller

  pub sellers_sell : Each Sells ss
  sellers_sell = all_sell held d bs ss each_buyer each_seller

  pub numbers_apart : Each (λ s. Each (λ b. Unlike b s) bs) ss
  numbers_apart = two_sides held d bs ss each_buyer each_seller

  pub paired_once : Once (map trade_of (paired bs ss))
  paired_once =
      once_paired bs ss
      (distinct_sorted held is_buyer bs (held_line held d) (each Buys Real (keep is_buyer held) (λ b h. h.number) (held_turning held d).buys) sides.buyers)
      (distinct_sorted held is_seller ss (held_line held d) (each Sells Real (keep is_seller held) (λ s h. h.number) (first_sells held d bs ss each_buyer each_seller)) sides.sellers)
      numbers_apart

  -- class by class the same pairs as in order of arrival, so that each has the same partner
  same_class : (c : List ℕ) → keep (in_class c) (paired bs ss) ≡ keep (in_class c) (paired (keep is_buyer held) (keep is_seller held))
  same_class c =
      class_paired c bs ss (by_class held d bs ss each_buyer each_seller)
      ∙ ap (λ (l : List Declaration). zipped l (keep (λ x. is_same c (class_of x)) ss)) (sides.buyers.same c)
      ∙ ap (λ (l : List Declaration). zipped (keep (λ x. is_same c (class_of x)) (keep is_buyer held)) l) (sides.sellers.same c)
      ∙ sym (class_paired c (keep is_buyer held) (keep is_seller held) (by_class held d (keep is_buyer held) (keep is_seller held) (λ P e. e) (λ P e. e)))

  same_partner : (x : Declaration) → Real x → Each (Own x) held → partner_in (map trade_of (paired bs ss)) x.number ≡ partner_in (confirmations held) x.number
  same_partner x n o =
      partner_in_class x.number (class_of x) (paired bs ss) (pair_class held d bs ss each_buyer each_seller x n o)
      ∙ ap (λ (ps : List Pair). partner_in (map trade_of ps) x.number) (same_class (class_of x))
      ∙ sym
      (partner_in_class x.number (class_of x) (paired (keep is_buyer held) (keep is_seller held))
      (pair_class held d (keep is_buyer held) (keep is_seller held) (λ P e. e) (λ P e. e) x n o))
      ∙ ap (λ (ts : List Trade). partner_in ts x.number) (sym (confirmed_pairs held d))

  -- a free place is in no pair
  no_partner : partner_in (map trade_of (paired bs ss)) 0 ≡ 0
  unfolding confirmation
  no_partner =
      partner_none 0 (map trade_of (paired bs ss))
      (each_map trade_of (Leaves 0) (paired bs ss)
      (each (Both Buys Sells) (λ p. Leaves 0 (trade_of p)) (paired bs ss) (λ p h. names_none 0 (trade_of p) h.0.number h.1.number)
      (each_paired Buys Sells bs ss buyers_buy sellers_sell)))

  pub same_partners : partners_in (map trade_of (paired bs ss)) held ≡ partners held
  unfolding partners_in partners
  same_partners =
      map_same (λ x. partner_in (map trade_of (paired bs ss)) x.number) (λ x. partner_in (confirmations held) x.number) held
      (each (λ x. Each (Own x) held) _ held (λ x o. at x o) (own_number held (held_line held d)))
    where
      at : (x : Declaration) → Each (Own x) held → partner_in (map trade_of (paired bs ss)) x.number ≡ partner_in (confirmations held) x.number
      at x o = elim (ℕ_discrete x.number 0) [
        | yes z ↦ rw z (no_partner ∙ sym (free_partner held d))
        | no n ↦ same_partner x n o
      ]
