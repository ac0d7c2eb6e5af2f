-- Orders that match all at once, by heads, trade as if they came in one by one. Assumes nothing.
use Prim.Native.Nat.{ℕ}
use mathlib.Core.Path.{◌≡◌, refl, sym, ap, ap₂, ◌∙◌, subst}
use mathlib.Core.Logic.{◌⊎◌, inl, inr, ⊎_elim}
use mathlib.Core.Bool.{true}
use mathlib.Core.List.{List, [], ◌∷◌, ◌++◌, map, append_assoc, append-nil}
use native.Mathlib.Omega.{arith}
use Rattle.model.specs.declared.Order.{Order}
use Rattle.model.specs.declared.Trade.{Trade}
use Rattle.model.specs.Lists.{keep}
use Rattle.model.specs.Book.{is_live, stands_on}
use Rattle.model.specs.Matching.{filled_of, less_by, settle}
use Rattle.model.specs.Pairing.{Share}
use Rattle.model.specs.FixedBook.{arrivals, matches}
use Rattle.model.specs.Words.{Each, Apart}
use Rattle.book.specs.Standing.{Fair, Standing}
use Rattle.book.proofs.Lists.{each, every, both, each_parts, keep_append, keep_all}
use Rattle.book.proofs.Kept.{standing_keep, standing_settle}
use Rattle.book.proofs.Settlements.{less_nothing}
use Rattle.book.proofs.Queues.{on_live}
use Rattle.pairing.specs.Fills.{bought, sold}
use Rattle.pairing.proofs.Turns.{pairs, no_buys}
use Rattle.pairing.proofs.Grants.{in_both}
use Rattle.fixed_demands.specs.FixedPrice.{one_by_one}
use Rattle.fixed_demands.proofs.Walking.{left_over, goes_on}
use Rattle.fixed_demands.proofs.Lining.{live_taken, taken_side}
use Rattle.fixed_demands.proofs.Matched.{matches_are, each_share, shares_own, shares_some, all_took, buys_settled, sells_settled, one_side_left}
use Rattle.fixed_demands.proofs.OneTaker.{no_sells}
use Rattle.fixed_demands.proofs.Entering.{shares_append, shares_live, shares_none}

-- ---- two lists in a row

swapped : {A B : Type 0} (R : A → B → Type 0) (xs : List A) (ys : List B) → Each (λ x. Each (R x) ys) xs → Each (λ y. Each (λ x. R x y) xs) ys
swapped R [] ys e = every (λ y. Unit {0}) ys (λ y. tt)
swapped R (x ∷ xs) ys e = both (R x) (λ y. Each (λ z. R z y) xs) (λ y. Each (λ z. R z y) (x ∷ xs)) ys (λ y a b. (a, b)) e.0 (swapped R xs ys e.1)

-- of two lists in a row whose numbers are all different, the second has none of the first's
apart_parts : (xs ys : List Order) → Apart (xs ++ ys) → Each (λ x. Each (λ y. y.number ≡ x.number → x.number ≡ 0) ys) xs
apart_parts [] ys a = tt
apart_parts (x ∷ xs) ys a = ((each_parts (λ y. y.number ≡ x.number → x.number ≡ 0) xs ys a.0).1, apart_parts xs ys a.1)

first_stands : (xs ys : List Order) → Standing (xs ++ ys) → Standing xs
first_stands xs ys s = record { fair = (each_parts Fair xs ys s.fair).0; apart = go xs s.apart }
  where
    go : (zs : List Order) → Apart (zs ++ ys) → Apart zs
    go [] a = tt
    go (z ∷ zs) a = ((each_parts (λ y. y.number ≡ z.number → z.number ≡ 0) zs ys a.0).0, go zs a.1)

settle_append : (ts : List Trade) (xs ys : List Order) → settle ts (xs ++ ys) ≡ settle ts xs ++ settle ts ys
unfolding settle
settle_append ts [] ys = refl
settle_append ts (x ∷ xs) ys = ap (λ (l : List Order). less_by (filled_of x.number ts) x ∷ l) (settle_append ts xs ys)

-- ---- one more comes

module _ (close : ℕ) (come os : List Order) (s : Standing (come ++ os)) (live : Each (λ o. is_live o ≡ true) os) where
  abbrev ts : List Trade
  ts = matches close come

  abbrev left : List Order
  left = keep is_live (settle ts come)

  here : Standing come
  here = first_stands come os s

  -- those that are still to come have no part in the trades
  untouched : Each (λ o. filled_of o.number ts ≡ 0) os
  untouched =
      both (λ o. is_live o ≡ true) (λ o. Each (λ c. o.number ≡ c.number → c.number ≡ 0) come) (λ o. filled_of o.number ts ≡ 0) os
      (λ o l e. omega (arith, in_both o.number ts, (all_took come here close).buyers o.number (absent o e 0), (all_took come here close).sellers o.number (absent o e 1)))
      live
      (swapped (λ c o. o.number ≡ c.number → c.number ≡ 0) come os (apart_parts come os s.apart))
    where
      absent : (o : Order) → Each (λ c. o.number ≡ c.number → c.number ≡ 0) come → (side : ℕ) → Each (λ (x : Share). x.number ≡ o.number → ⊥) (arrivals side come)
      absent o e side =
          each_share (λ (x : Share). x.number ≡ o.number → ⊥) side come
          (each (λ c. o.number ≡ c.number → c.number ≡ 0) (λ c. stands_on side c ≡ true → c.number ≡ o.number → ⊥) come (λ c f t z. on_live side c t (f (sym z))) e)

  still : settle ts os ≡ os
  unfolding settle
  still = go os untouched (each_parts Fair come os s.fair).1
    where
      go : (xs : List Order) → Each (λ o. filled_of o.number ts ≡ 0) xs → Each Fair xs → map (λ o. less_by (filled_of o.number ts) o) xs ≡ xs
      go [] e f = refl
      go (x ∷ xs) e f = ap₂ (λ (y : Order) (ys : List Order). y ∷ ys) (ap (λ q. less_by q x) e.0 ∙ less_nothing x f.0) (go xs e.1 f.1)

  -- what is left and those to come are what the trades leave of all
  left_are : left ++ os ≡ keep is_live (settle ts (come ++ os))
  left_are =
      ap (λ (l : List Order). left ++ l) (sym (ap (keep is_live) still ∙ keep_all is_live os live))
      ∙ sym (ap (keep is_live) (settle_append ts come os) ∙ keep_append is_live (settle ts come) (settle ts os))

  pub left_stands : Standing (left ++ os)
  left_stands = rw left_are (standing_keep is_live (settle ts (come ++ os)) (standing_settle ts (come ++ os) s))

  pub left_one_sided : (keep (stands_on 0) left ≡ []) ⊎ (keep (stands_on 1) left ≡ [])
  left_one_sided = ⊎_elim (λ e. inl (on 0 ∙ e)) (λ e. inr (on 1 ∙ e)) (one_side_left come here close)
    where
      on : (side : ℕ) → keep (stands_on side) left ≡ keep (stands_on side) (settle ts come)
      on side = ap (keep (stands_on side)) (live_taken (settle ts come)) ∙ taken_side side (settle ts come)

  -- the rest of the matching begins where this one ended
  pub matches_on : matches close (come ++ os) ≡ ts ++ matches close (left ++ os)
  matches_on =
      matches_are close (come ++ os)
      ∙ ap₂ (λ x y. pairs close x y) (shares_append 0 come os) (shares_append 1 come os)
      ∙ goes_on close (arrivals 0 os) (arrivals 1 os) (arrivals 0 come) (arrivals 1 come) (shares_own 0 come here.apart) (shares_own 1 come here.apart) (shares_some 0 come here.fair) (shares_some 1 come here.fair)
      ∙ ap (λ (x : List Trade). x ++ pairs close (left_over (λ n. bought n x) (arrivals 0 come) ++ arrivals 0 os) (left_over (λ n. sold n x) (arrivals 1 come) ++ arrivals 1 os)) (sym (matches_are close come))
      ∙ ap₂ (λ x y. ts ++ pairs close (x ++ arrivals 0 os) (y ++ arrivals 1 os)) (sym (shares_live 0 (settle ts come) ∙ buys_settled come here close)) (sym (shares_live 1 (settle ts come) ∙ sells_settled come here close))
      ∙ ap (λ (l : List Trade). ts ++ l)
      (sym (matches_are close (left ++ os) ∙ ap₂ (λ x y. pairs close x y) (shares_append 0 left os) (shares_append 1 left os)))

-- ---- all of them, one after the other

none_match : (close : ℕ) (os : List Order) → (keep (stands_on 0) os ≡ []) ⊎ (keep (stands_on 1) os ≡ []) → matches close os ≡ []
none_match close os =
    ⊎_elim
    (λ e. matches_are close os ∙ ap (λ l. pairs close l (arrivals 1 os)) (shares_none 0 os e) ∙ no_buys close (arrivals 1 os))
    (λ e. matches_are close os ∙ ap (pairs close (arrivals 0 os)) (shares_none 1 os e) ∙ no_sells close (arrivals 0 os))

pub one_by_one_lem :
    (close : ℕ) (os : List Order)
    → Each (λ o. is_live o ≡ true) os
    → (line : List Order)
    → Standing (line ++ os)
    → (keep (stands_on 0) line ≡ []) ⊎ (keep (stands_on 1) line ≡ [])
    → matches close (line ++ os) ≡ one_by_one close line os
unfolding one_by_one
one_by_one_lem close [] live line s one = ap (matches close) (append-nil line) ∙ none_match close line one
one_by_one_lem close (o ∷ os) live line s one =
    let come : List Order = line ++ (o ∷ []) in
    let ts : List Trade = matches close come in
    let same : line ++ (o ∷ os) ≡ come ++ os = sym (append_assoc line (o ∷ []) os) in
    let t : Standing (come ++ os) = subst Standing same s in
    ap (matches close) same
    ∙ matches_on close come os t live.1
    ∙ ap (λ (l : List Trade). ts ++ l)
    (one_by_one_lem close os live.1 (keep is_live (settle ts come)) (left_stands close come os t live.1) (left_one_sided close come os t live.1))
