-- Buyers in turn, each with the first seller of a list that fits, who then leaves it. Where classes decide who fits, it is the k-th
-- buyer of a class with its k-th seller. Assumes nothing.
use Rattle.std.specs.Prelude.{if◌then◌else◌}
use Prim.Native.Nat.{ℕ}
use mathlib.Core.Path.{◌≡◌, refl, sym, ap, ◌∙◌}
use mathlib.Core.Bool.{Bool, true, false}
use mathlib.Core.List.{List, [], ◌∷◌, ◌++◌}
use Rattle.model.specs.declared.Declaration.{Declaration}
use Rattle.model.specs.Lists.{keep}
use Rattle.model.specs.Blocks.{fits}
use Rattle.model.specs.Words.{Each}
use Rattle.model.proofs.Bools.{not_both, not_true_false}
use Rattle.book.proofs.Lists.{each, each_append, keep_append, keep_true, keep_false, keep_all, keep_none}
use Rattle.classes.specs.Classes.{class_of, is_same}
use Rattle.classes.proofs.Keys.{same_equal}

pub record Pair : Type 0 where
  pub buyer : Declaration
  pub seller : Declaration

abbrev pub pair_of : Declaration → Declaration → Pair
pair_of b s = record { buyer = b; seller = s }

-- the first that fits, and the others
unfoldable pub picked : Declaration → List Declaration → List Pair
picked b [] = []
picked b (s ∷ ss) = if fits b s then pair_of b s ∷ [] else picked b ss

unfoldable pub rest : Declaration → List Declaration → List Declaration
rest b [] = []
rest b (s ∷ ss) = if fits b s then ss else s ∷ rest b ss

unfoldable pub paired : List Declaration → List Declaration → List Pair
paired [] ss = []
paired (b ∷ bs) ss = picked b ss ++ paired bs (rest b ss)

-- ---- the head of the sellers

module _ (b s : Declaration) (ss : List Declaration) where
  pub picks_this : fits b s ≡ true → picked b (s ∷ ss) ≡ pair_of b s ∷ []
  unfolding picked
  picks_this e = rw e

  pub picks_further : fits b s ≡ false → picked b (s ∷ ss) ≡ picked b ss
  unfolding picked
  picks_further e = rw e

  pub rest_this : fits b s ≡ true → rest b (s ∷ ss) ≡ ss
  unfolding rest
  rest_this e = rw e

  pub rest_further : fits b s ≡ false → rest b (s ∷ ss) ≡ s ∷ rest b ss
  unfolding rest
  rest_further e = rw e

-- ---- what holds for each

pub each_rest : (Q : Declaration → Type 0) (b : Declaration) (ss : List Declaration) → Each Q ss → Each Q (rest b ss)
unfolding rest
each_rest Q b [] q = tt
each_rest Q b (s ∷ ss) q = go (fits b s) (each_rest Q b ss q.1)
  where
    go : (t : Bool) → Each Q (rest b ss) → Each Q (if t then ss else s ∷ rest b ss)
    go true h = q.1
    go false h = (q.0, h)

module _ (P Q : Declaration → Type 0) where
  abbrev pub Both : Pair → Type 0
  Both p = P p.buyer × Q p.seller × (fits p.buyer p.seller ≡ true)

  pub each_picked : (b : Declaration) (ss : List Declaration) → P b → Each Q ss → Each Both (picked b ss)
  unfolding picked
  each_picked b [] h q = tt
  each_picked b (s ∷ ss) h q = go (fits b s) refl (each_picked b ss h q.1)
    where
      go : (t : Bool) → fits b s ≡ t → Each Both (picked b ss) → Each Both (if t then pair_of b s ∷ [] else picked b ss)
      go true e r = ((h, q.0, e), tt)
      go false e r = r

  pub each_paired : (bs ss : List Declaration) → Each P bs → Each Q ss → Each Both (paired bs ss)
  unfolding paired
  each_paired [] ss p q = tt
  each_paired (b ∷ bs) ss p q =
      each_append Both (picked b ss) (paired bs (rest b ss)) (each_picked b ss p.0 q)
      (each_paired bs (rest b ss) p.1 (each_rest Q b ss q))

-- ---- from the heads on

picked_none : (b : Declaration) (ss : List Declaration) → Each (λ s. fits b s ≡ false) ss → picked b ss ≡ []
unfolding picked
picked_none b [] e = refl
picked_none b (s ∷ ss) e = rw e.0 (picked_none b ss e.1)

rest_all : (b : Declaration) (ss : List Declaration) → Each (λ s. fits b s ≡ false) ss → rest b ss ≡ ss
unfolding rest
rest_all b [] e = refl
rest_all b (s ∷ ss) e = rw e.0 (ap (λ (l : List Declaration). s ∷ l) (rest_all b ss e.1))

pub skip_buyer : (b : Declaration) (bs ss : List Declaration) → Each (λ s. fits b s ≡ false) ss → paired (b ∷ bs) ss ≡ paired bs ss
unfolding paired
skip_buyer b bs ss e = rw (picked_none b ss e, rest_all b ss e)

pub skip_seller : (s : Declaration) (bs ss : List Declaration) → Each (λ b. fits b s ≡ false) bs → paired bs (s ∷ ss) ≡ paired bs ss
unfolding paired
skip_seller s [] ss e = refl
skip_seller s (b ∷ bs) ss e =
    rw (picks_further b s ss e.0, rest_further b s ss e.0)
    (ap (λ (l : List Pair). picked b ss ++ l) (skip_seller s bs (rest b ss) e.1))

pub pair_heads : (b s : Declaration) (bs ss : List Declaration) → fits b s ≡ true → paired (b ∷ bs) (s ∷ ss) ≡ pair_of b s ∷ paired bs ss
unfolding paired
pair_heads b s bs ss e = rw (picks_this b s ss e, rest_this b s ss e)

pub no_sellers : (bs : List Declaration) → paired bs [] ≡ []
unfolding paired picked rest
no_sellers [] = refl
no_sellers (b ∷ bs) = no_sellers bs

-- ---- the members of one class

unfoldable pub zipped : List Declaration → List Declaration → List Pair
zipped [] ss = []
zipped (b ∷ bs) [] = []
zipped (b ∷ bs) (s ∷ ss) = pair_of b s ∷ zipped bs ss

-- its first pair, and the sellers behind
first_of : Declaration → List Declaration → List Pair
first_of b [] = []
first_of b (s ∷ ss) = pair_of b s ∷ []

behind : List Declaration → List Declaration
behind [] = []
behind (s ∷ ss) = ss

zipped_turn : (b : Declaration) (bs ss : List Declaration) → first_of b ss ++ zipped bs (behind ss) ≡ zipped (b ∷ bs) ss
unfolding first_of behind zipped
zipped_turn b [] [] = refl
zipped_turn b (d ∷ bs) [] = refl
zipped_turn b bs (s ∷ ss) = refl

-- classes decide who fits
abbrev pub ByClass : Declaration → Declaration → Type 0
ByClass b s = fits b s ≡ is_same (class_of b) (class_of s)

module _ (c : List ℕ) where
  abbrev member : Declaration → Bool
  member x = is_same c (class_of x)

  abbrev pub in_class : Pair → Bool
  in_class p = is_same c (class_of p.buyer)

  -- a buyer of the class fits its members
  module _ (b : Declaration) (m : member b ≡ true) where
    by_member : (s : Declaration) → ByClass b s → fits b s ≡ member s
    by_member s e = e ∙ ap (λ (k : List ℕ). is_same k (class_of s)) (sym (same_equal c (class_of b) m))

    picked_member : (ss : List Declaration) → Each (ByClass b) ss → keep in_class (picked b ss) ≡ first_of b (keep member ss)
    unfolding first_of
    picked_member [] e = unfold picked keep in refl
    picked_member (s ∷ ss) e = go (fits b s) refl (picked_member ss e.1)
      where
        go : (t : Bool) → fits b s ≡ t → keep in_class (picked b ss) ≡ first_of b (keep member ss) → keep in_class (picked b (s ∷ ss)) ≡ first_of b (keep member (s ∷ ss))
        go true f h =
            ap (keep in_class) (picks_this b s ss f) ∙ keep_all in_class (pair_of b s ∷ []) (m, tt)
            ∙ ap (first_of b) (sym (keep_true member s ss (sym (by_member s e.0) ∙ f)))
        go false f h =
            ap (keep in_class) (picks_further b s ss f) ∙ h ∙ ap (first_of b) (sym (keep_false member s ss (sym (by_member s e.0) ∙ f)))

    rest_member : (ss : List Declaration) → Each (ByClass b) ss → keep member (rest b ss) ≡ behind (keep member ss)
    unfolding behind
    rest_member [] e = unfold rest keep in refl
    rest_member (s ∷ ss) e = go (fits b s) refl (rest_member ss e.1)
      where
        go : (t : Bool) → fits b s ≡ t → keep member (rest b ss) ≡ behind (keep member ss) → keep member (rest b (s ∷ ss)) ≡ behind (keep member (s ∷ ss))
        go true f h = ap (keep member) (rest_this b s ss f) ∙ ap behind (sym (keep_true member s ss (sym (by_member s e.0) ∙ f)))
        go false f h =
            let out : member s ≡ false = sym (by_member s e.0) ∙ f in
            ap (keep member) (rest_further b s ss f) ∙ keep_false member s (rest b ss) out ∙ h ∙ ap behind (sym (keep_false member s ss out))

  -- a buyer of another class takes none of its members
  module _ (b : Declaration) (m : member b ≡ false) where
    not_picked : (ss : List Declaration) → keep in_class (picked b ss) ≡ []
    unfolding picked
    not_picked [] = unfold keep in refl
    not_picked (s ∷ ss) = go (fits b s) (not_picked ss)
      where
        go : (t : Bool) → keep in_class (picked b ss) ≡ [] → keep in_class (if t then pair_of b s ∷ [] else picked b ss) ≡ []
        go true h = keep_none in_class (pair_of b s ∷ []) (m, tt)
        go false h = h

    others_stay : (ss : List Declaration) → Each (ByClass b) ss → keep member (rest b ss) ≡ keep member ss
    others_stay [] e = unfold rest in refl
    others_stay (s ∷ ss) e = go (fits b s) refl (others_stay ss e.1)
      where
        go : (t : Bool) → fits b s ≡ t → keep member (rest b ss) ≡ keep member ss → keep member (rest b (s ∷ ss)) ≡ keep member (s ∷ ss)
        go true f h = ap (keep member) (rest_this b s ss f) ∙ sym (keep_false member s ss (not_true_false out))
          where
            out : member s ≡ true → ⊥
            out n =
                let same : class_of b ≡ class_of s = same_equal (class_of b) (class_of s) (sym e.0 ∙ f) in
                not_both n (ap (is_same c) (sym same) ∙ m)
        go false f h =
            ap (keep member) (rest_further b s ss f) ∙ more (member s) refl
          where
            more : (t : Bool) → member s ≡ t → keep member (s ∷ rest b ss) ≡ keep member (s ∷ ss)
            more true n = keep_true member s (rest b ss) n ∙ ap (λ (l : List Declaration). s ∷ l) h ∙ sym (keep_true member s ss n)
            more false n = keep_false member s (rest b ss) n ∙ h ∙ sym (keep_false member s ss n)

  -- the k-th buyer of a class with its k-th seller
  pub class_paired : (bs ss : List Declaration) → Each (λ b. Each (ByClass b) ss) bs → keep in_class (paired bs ss) ≡ zipped (keep member bs) (keep member ss)
  unfolding paired
  class_paired [] ss e = unfold keep zipped in refl
  class_paired (b ∷ bs) ss e =
      keep_append in_class (picked b ss) (paired bs (rest b ss))
      ∙ go (member b) refl
      (class_paired bs (rest b ss) (each (λ d. Each (ByClass d) ss) (λ d. Each (ByClass d) (rest b ss)) bs (λ d h. each_rest (ByClass d) b ss h) e.1))
    where
      go :
          (t : Bool)
          → member b ≡ t
          → keep in_class (paired bs (rest b ss)) ≡ zipped (keep member bs) (keep member (rest b ss))
          → keep in_class (picked b ss) ++ keep in_class (paired bs (rest b ss)) ≡ zipped (keep member (b ∷ bs)) (keep member ss)
      go true m h =
          ap (λ (l : List Pair). l ++ keep in_class (paired bs (rest b ss))) (picked_member b m ss e.0)
          ∙ ap (λ (l : List Pair). first_of b (keep member ss) ++ l) (h ∙ ap (zipped (keep member bs)) (rest_member b m ss e.0))
          ∙ zipped_turn b (keep member bs) (keep member ss)
          ∙ ap (λ (l : List Declaration). zipped l (keep member ss)) (sym (keep_true member b bs m))
      go false m h =
          ap (λ (l : List Pair). l ++ keep in_class (paired bs (rest b ss))) (not_picked b m ss) ∙ h
          ∙ ap (zipped (keep member bs)) (others_stay b m ss e.0)
          ∙ ap (λ (l : List Declaration). zipped l (keep member ss)) (sym (keep_false member b bs m))
