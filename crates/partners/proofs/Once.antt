-- Nobody is paired twice: where no number stands twice, each pair's two numbers stand in no other pair. Assumes nothing.
use Rattle.std.specs.Prelude.{if◌then◌else◌}
use mathlib.Core.Path.{◌≡◌, refl, sym}
use mathlib.Core.Logic.{◌⊎◌, inl, inr, ⊎_elim}
use mathlib.Core.Bool.{Bool, true, false}
use mathlib.Core.List.{List, [], ◌∷◌, ◌++◌, map}
use Rattle.model.specs.declared.Declaration.{Declaration}
use Rattle.model.specs.declared.Trade.{Trade}
use Rattle.model.specs.Blocks.{fits, confirmation}
use Rattle.model.specs.Words.{Each}
use Rattle.book.proofs.Lists.{each, both, each_parts}
use Rattle.partners.proofs.Tests.{each_map}
use Rattle.partners.proofs.Naming.{Leaves, names_none}
use Rattle.partners.proofs.Pairs.{Pair, pair_of, Both, picked, rest, paired, each_rest, each_paired}
use Rattle.partners.proofs.InPairs.{trade_of}

abbrev pub Unlike : Declaration → Declaration → Type 0
Unlike x y = y.number ≡ x.number → ⊥

-- no number stands twice
abbrev pub Distinct : List Declaration → Type 0
Distinct [] = Unit {0}
Distinct (x ∷ xs) = Each (Unlike x) xs × Distinct xs

-- two pairs of four numbers
pub record Apart (t u : Trade) : Type 0 where
  pub buyers : t.buyer ≡ u.buyer → ⊥
  pub sellers : t.seller ≡ u.seller → ⊥
  pub across : t.buyer ≡ u.seller → ⊥
  pub back : t.seller ≡ u.buyer → ⊥

abbrev pub Once : List Trade → Type 0
Once [] = Unit {0}
Once (t ∷ ts) = Each (Apart t) ts × Once ts

distinct_rest : (b : Declaration) (ss : List Declaration) → Distinct ss → Distinct (rest b ss)
unfolding rest
distinct_rest b [] d = tt
distinct_rest b (s ∷ ss) d = go (fits b s) (distinct_rest b ss d.1)
  where
    go : (t : Bool) → Distinct (rest b ss) → Distinct (if t then ss else s ∷ rest b ss)
    go true h = d.1
    go false h = (each_rest (Unlike s) b ss d.0, h)

-- who is picked is left in the list no more
abbrev Case : (Q : Declaration → Type 0) → Declaration → List Pair → List Declaration → Type 0
Case Q b ps rs = (ps ≡ []) ⊎ ((s : Declaration) × (ps ≡ pair_of b s ∷ []) × Q s × Each (Unlike s) rs)

pick_cases :
    (Q : Declaration → Type 0) (b : Declaration) (ss : List Declaration) → Each Q ss → Distinct ss → Case Q b (picked b ss) (rest b ss)
unfolding picked rest
pick_cases Q b [] q d = inl refl
pick_cases Q b (s ∷ ss) q d =
    go (fits b s)
    (pick_cases (λ r. Q r × Unlike s r) b ss (both Q (Unlike s) (λ r. Q r × Unlike s r) ss (λ r g h. (g, h)) q.1 d.0) d.1)
  where
    go :
        (t : Bool)
        → Case (λ r. Q r × Unlike s r) b (picked b ss) (rest b ss)
        → Case Q b (if t then pair_of b s ∷ [] else picked b ss) (if t then ss else s ∷ rest b ss)
    go true h = inr (s, refl, q.0, d.0)
    go false h = ⊎_elim (λ w. inl w) (λ w. inr (w.0, w.1, w.2.0, ((λ e. w.2.1 (sym e)), w.3))) h

module _
    (b s : Declaration) (bs rs : List Declaration)
    (d : Each (Unlike b) bs) (e : Each (λ c. Unlike c s) bs) (f : Each (Unlike s) rs) (g : Each (Unlike b) rs) where
  -- a buyer and a seller that stand in no pair of the others
  apart_others : Each (Apart (confirmation b s)) (map trade_of (paired bs rs))
  unfolding confirmation
  apart_others =
      each_map trade_of (Apart (confirmation b s)) (paired bs rs)
      (each (Both (λ c. Unlike b c × Unlike c s) (λ r. Unlike s r × Unlike b r)) (λ p. Apart (confirmation b s) (trade_of p)) (paired bs rs)
      (λ p h.
      record {
        buyers = λ z. h.0.0 (sym z);
        sellers = λ z. h.1.0 (sym z);
        across = λ z. h.1.1 (sym z);
        back = λ z. h.0.1 z;
      })
      (each_paired (λ c. Unlike b c × Unlike c s) (λ r. Unlike s r × Unlike b r) bs rs
      (both (Unlike b) (λ c. Unlike c s) _ bs (λ c h k. (h, k)) d e)
      (both (Unlike s) (Unlike b) _ rs (λ r h k. (h, k)) f g)))

pub once_paired :
    (bs ss : List Declaration)
    → Distinct bs
    → Distinct ss
    → Each (λ s. Each (λ b. Unlike b s) bs) ss
    → Once (map trade_of (paired bs ss))
unfolding paired
once_paired [] ss d e x = tt
once_paired (b ∷ bs) ss d e x =
    go
    (once_paired bs (rest b ss) d.1 (distinct_rest b ss e)
    (each_rest (λ s. Each (λ c. Unlike c s) bs) b ss
    (each (λ s. Each (λ c. Unlike c s) (b ∷ bs)) (λ s. Each (λ c. Unlike c s) bs) ss (λ s h. h.1) x)))
  where
    heads : Each (Unlike b) (rest b ss)
    heads = each_rest (Unlike b) b ss (each (λ s. Each (λ c. Unlike c s) (b ∷ bs)) (Unlike b) ss (λ s h. h.0) x)

    go : Once (map trade_of (paired bs (rest b ss))) → Once (map trade_of (picked b ss ++ paired bs (rest b ss)))
    go h =
        ⊎_elim
        (λ none. rw none h)
        (λ one. rw one.1 (apart_others b one.0 bs (rest b ss) d.0 one.2.1 one.3 heads, h))
        (pick_cases (λ s. Each (λ c. Unlike c s) (b ∷ bs)) b ss x e)

-- what stands before a trade and behind it is apart from it
pub once_before : (ts : List Trade) (t : Trade) (us : List Trade) → Once (ts ++ t ∷ us) → Each (λ u. Leaves t.buyer u × Leaves t.seller u) ts
once_before [] t us o = tt
once_before (u ∷ ts) t us o =
    let a : Apart u t = (each_parts (Apart u) ts (t ∷ us) o.0).1.0 in
    ((names_none t.buyer u a.buyers a.back, names_none t.seller u a.across a.sellers), once_before ts t us o.1)
