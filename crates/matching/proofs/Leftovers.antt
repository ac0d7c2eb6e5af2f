-- What stays where something of an order is left: whoever it might have met is filled, or beyond its limit; and what was
-- cut off is worse than all that was swept.
use Prim.Native.Nat.{ℕ, zero, suc, ◌+◌, ◌-◌, ◌≤◌, ◌<◌, min}
use mathlib.Core.Path.{◌≡◌, refl, sym, ap, ◌∙◌, subst}
use mathlib.Core.Bool.{Bool, true, false, cond, ◌&&◌, ◌||◌, or-true}
use mathlib.Core.List.{List, [], ◌∷◌, ◌++◌}
use mathlib.Core.Logic.{◌⊎◌, inl, inr}
use native.Mathlib.Omega.{arith}
use lib.Dec.{leb, eqb}
use borrow.Author.Tests.{lt-ltb, leb-false, lt-leb, eqb-true, eqb-false, eq-eqb}
use Rattle.model.specs.declared.Order.{Order}
use Rattle.model.specs.declared.Trade.{Trade}
use Rattle.model.specs.declared.Taker.{Taker}
use Rattle.model.specs.Book.{other}
use Rattle.model.specs.Matching.{meets, trade_with, sweep, is_in, filled, filled_of}
use Rattle.model.specs.Words.{Each}
use Rattle.book.specs.Priority.{rank}
use Rattle.book.proofs.Lists.{both, each, every}
use Rattle.book.proofs.Settlements.{filled_nil, filled_more, part, filled_cons}
use Rattle.matching.specs.Sweeping.{wants}
use Rattle.matching.proofs.Cuts.{cut_same, cut_levels, same_nil, levels_none, levels_nil, levels_cons, cut_here, cut_away, Worsens, prices_of, worse}
use Rattle.matching.proofs.Partners.{sweep_none, sweep_one}

-- ---- worse prices than one that the limit does not allow

module _ (side limit : ℕ) where
  still_beyond :
      (p r : ℕ)
      → p ≤ 999_999
      → r ≤ 999_999
      → rank (other side) p ≤ rank (other side) r
      → meets side limit p ≡ false
      → meets side limit r ≡ false
  unfolding meets other rank
  still_beyond p r hp hr l e = go (eqb side 0) l e
    where
      go :
          (b : Bool)
          → cond (eqb (cond b 1 0) 0) (1_000_000 - p) p ≤ cond (eqb (cond b 1 0) 0) (1_000_000 - r) r
          → cond b (leb p limit) (leb limit p) ≡ false
          → cond b (leb r limit) (leb limit r) ≡ false
      go true l e = lt-leb r limit (omega (arith, leb-false p limit e))
      go false l e = lt-leb limit r (omega (arith, leb-false limit p e))

  all_beyond :
      (p : ℕ) (os : List Order)
      → p ≤ 999_999
      → meets side limit p ≡ false
      → Worsens (other side) (rank (other side) p) (prices_of os)
      → Each (λ o. meets side limit o.price ≡ false) os
  all_beyond p [] hp e w = tt
  all_beyond p (o ∷ os) hp e w =
      let here : meets side limit o.price ≡ false = still_beyond p o.price hp w.1 w.0 e in
      (here, all_beyond o.price os w.1 here w.2)

-- ---- something is left

wants_beyond : (t : Taker) (q p : ℕ) → 0 < q → wants t q p ≡ false → meets t.side t.limit p ≡ false
unfolding wants
wants_beyond t q p h e =
    sym (ap (λ (b : Bool). b && meets t.side t.limit p) (lt-ltb 0 q h)) ∙ e

with_itself : (t : Taker) (q : ℕ) (o : Order) → is_in o.number (trade_with t q o) ≡ true
unfolding is_in trade_with
with_itself t q o = go (eqb t.side 0)
  where
    same : eqb o.number o.number ≡ true
    same = eq-eqb o.number o.number refl

    go :
        (b : Bool)
        → eqb (cond b t.number o.number) o.number || eqb (cond b o.number t.number) o.number ≡ true
    go true = rw same (or-true (eqb t.number o.number))
    go false = rw same

module _ (t : Taker) where
  -- beyond the limit, or wholly filled
  abbrev pub Gone : List Trade → Order → Type 0
  Gone ts o = (meets t.side t.limit o.price ≡ false) ⊎ (o.left ≤ filled_of o.number ts)

  -- one trade more fills no less
  more_gone : (r : Trade) (ts : List Trade) (o : Order) → Gone ts o → Gone (r ∷ ts) o
  more_gone r ts o (inl e) = inl e
  more_gone r ts o (inr l) = inr (omega (arith, filled_cons o.number r ts))

  part_whole : (q : ℕ) (o : Order) → o.left ≤ q → part o.number (trade_with t q o) ≡ o.left
  unfolding part
  part_whole q o h = rw (with_itself t q o) (unfold trade_with in omega arith)

  taken : (q : ℕ) (o : Order) → (trade_with t q o).quantity ≡ min q o.left
  unfolding trade_with
  taken q o = refl

  pub left_over_lem :
      (a q : ℕ) (os : List Order)
      → Worsens (other t.side) a (prices_of os)
      → filled (sweep t q os) < q
      → Each (Gone (sweep t q os)) os
  left_over_lem a q [] w h = tt
  left_over_lem a q (o ∷ os) w h =
      go (wants t q o.price) refl (left_over_lem (rank (other t.side) o.price) (q - o.left) os w.2)
    where
      go :
          (b : Bool)
          → wants t q o.price ≡ b
          → (filled (sweep t (q - o.left) os) < q - o.left → Each (Gone (sweep t (q - o.left) os)) os)
          → Each (Gone (sweep t q (o ∷ os))) (o ∷ os)
      go true e ih =
          let ts : List Trade = sweep t (q - o.left) os in
          let all : sweep t q (o ∷ os) ≡ trade_with t q o ∷ ts = sweep_one t q o os e in
          let sum : filled (sweep t q (o ∷ os)) ≡ min q o.left + filled ts =
          ap filled all ∙ filled_more (trade_with t q o) ts ∙ ap (λ (n : ℕ). n + filled ts) (taken q o)
          in
          let whole : o.left ≤ q = omega arith in
          subst (λ (us : List Trade). Each (Gone us) (o ∷ os)) (sym all) (
            inr (omega (arith, filled_cons o.number (trade_with t q o) ts, part_whole q o whole)),
            each (Gone ts) (Gone (trade_with t q o ∷ ts)) os (more_gone (trade_with t q o) ts) (ih (omega arith)),
          )
      go false e ih =
          let none : filled (sweep t q (o ∷ os)) ≡ 0 = ap filled (sweep_none t q o os e) ∙ filled_nil in
          let far : meets t.side t.limit o.price ≡ false = wants_beyond t q o.price (omega arith) e in (
            inl far,
            each (λ p. meets t.side t.limit p.price ≡ false) (Gone (sweep t q (o ∷ os))) os (λ p f. inl f)
                (all_beyond t.side t.limit o.price os w.1 far w.2),
          )

-- ---- what is cut off is worse

-- the cut is the front of the queue, and what is behind it is worse than all of it
pub record Front (side : ℕ) (cut os : List Order) : Type 0 where
  pub behind : List Order
  pub whole : cut ++ behind ≡ os
  pub worse : Each (λ (o : Order). Each (λ (x : Order). rank side x.price < rank side o.price) cut) behind

-- and worse than the price p
pub record From (side p : ℕ) (cut os : List Order) : Type 0 where
  pub front : Front side cut os
  pub later : Each (λ (o : Order). rank side p < rank side o.price) front.behind

module _ (side : ℕ) where
  -- all of a list is behind nothing
  all_behind :
      (p : ℕ) (os : List Order)
      → Each (λ (o : Order). rank side p < rank side o.price) os
      → From side p [] os
  all_behind p os e =
      record {
        front =
            record {
              behind = os;
              whole = refl;
              worse =
                  every (λ (o : Order). Each (λ (x : Order). rank side x.price < rank side o.price) []) os
                  (λ o. tt);
            };
        later = e;
      }

  -- one order more in front, at the price p or at a worse one
  one_more :
      (p : ℕ) (o : Order) (cut os : List Order)
      → rank side p ≤ rank side o.price
      → From side o.price cut os
      → From side p (o ∷ cut) (o ∷ os)
  one_more p o cut os l f =
      record {
        front =
            record {
              behind = f.front.behind;
              whole = ap (λ (x : List Order). o ∷ x) f.front.whole;
              worse =
                  both (λ (x : Order). rank side o.price < rank side x.price)
                  (λ (x : Order). Each (λ (y : Order). rank side y.price < rank side x.price) cut)
                  (λ (x : Order). Each (λ (y : Order). rank side y.price < rank side x.price) (o ∷ cut))
                  f.front.behind
                  (λ x a b. (a, b))
                  f.later
                  f.front.worse;
            };
        later =
            each (λ (x : Order). rank side o.price < rank side x.price)
            (λ (x : Order). rank side p < rank side x.price)
            f.front.behind
            (λ x h. omega arith)
            f.later;
      }

  later_all :
      (p a : ℕ) (os : List Order)
      → rank side p < a
      → Worsens side a (prices_of os)
      → Each (λ (o : Order). rank side p < rank side o.price) os
  later_all p a [] h w = tt
  later_all p a (o ∷ os) h w = (omega (arith, w.0), later_all p (rank side o.price) os (omega (arith, w.0)) w.2)

  cut_same_lem :
      (n p : ℕ) (os : List Order)
      → p ≤ 999_999
      → Worsens side (rank side p) (prices_of os)
      → From side p (cut_same n p os) os
  cut_same_lem n p [] hp w = rw (same_nil n p) (all_behind p [] tt)
  cut_same_lem n p (o ∷ os) hp w =
      go (eqb o.price p) refl (λ m. cut_same_lem m o.price os w.1 w.2)
    where
      next :
          (n : ℕ)
          → ((m : ℕ) → From side o.price (cut_same m o.price os) os)
          → (o.price ≡ p → ⊥)
          → From side p (cut_levels n (o ∷ os)) (o ∷ os)
      next zero ih away =
          let far : rank side p < rank side o.price = worse side p o.price hp w.1 w.0 away in
          rw (levels_none (o ∷ os)) (all_behind p (o ∷ os) (far, later_all p (rank side o.price) os far w.2))
      next (suc m) ih away = rw (levels_cons m o os) (one_more p o (cut_same m o.price os) os w.0 (ih m))

      go :
          (b : Bool)
          → eqb o.price p ≡ b
          → ((m : ℕ) → From side o.price (cut_same m o.price os) os)
          → From side p (cut_same n p (o ∷ os)) (o ∷ os)
      go true e ih =
          let same : o.price ≡ p = eqb-true o.price p e in
          rw (cut_here n p o os same, sym same)
          (one_more o.price o (cut_same n o.price os) os (omega arith) (ih n))
      go false e ih =
          let away : o.price ≡ p → ⊥ = eqb-false o.price p e in
          rw (cut_away n p o os away) (next n ih away)

  pub cut_front : (a n : ℕ) (os : List Order) → Worsens side a (prices_of os) → Front side (cut_levels n os) os
  cut_front a zero os w =
      rw (levels_none os)
      (record {
        behind = os;
        whole = refl;
        worse =
            every (λ (o : Order). Each (λ (x : Order). rank side x.price < rank side o.price) []) os (λ o. tt);
      })
  cut_front a (suc n) [] w = rw (levels_nil (suc n)) (record { behind = []; whole = refl; worse = tt })
  cut_front a (suc n) (o ∷ os) w =
      rw (levels_cons n o os)
      (one_more o.price o (cut_same n o.price os) os (omega arith) (cut_same_lem n o.price os w.1 w.2)).front
