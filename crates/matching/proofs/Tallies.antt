-- What the code counts, one trade at a time, is what the trades come to: where prices never get better, the prices that
-- begin are the different prices.
use Prim.Native.Nat.{ℕ, zero, suc, ◌+◌, ◌-◌, ◌≤◌, ◌<◌}
use mathlib.Core.Path.{◌≡◌, refl, sym, ap, ◌∙◌}
use mathlib.Core.Bool.{Bool, true, false, cond}
use mathlib.Core.List.{List, [], ◌∷◌, map}
use native.Mathlib.Omega.{arith}
use lib.ListN.{length}
use lib.Dec.{eqb}
use borrow.Author.Tests.{ne_eqb, eqb-true, eqb-false}
use Rattle.model.specs.declared.Order.{Order}
use Rattle.model.specs.declared.Trade.{Trade}
use Rattle.model.specs.declared.Taker.{Taker}
use Rattle.model.specs.Lists.{keep, total, once, different}
use Rattle.model.specs.Book.{queue}
use Rattle.model.specs.Matching.{trade_with, sweep, filled, levels, last_price}
use Rattle.model.specs.Words.{Each}
use Rattle.book.specs.Standing.{Standing}
use Rattle.book.specs.Priority.{rank}
use Rattle.matching.specs.declared.Swept.{Swept}
use Rattle.matching.specs.Sweeping.{wants, comes_to}
use Rattle.matching.proofs.Prices.{once_again, once_new}
use Rattle.matching.proofs.Cuts.{cut_same, cut_levels, Worsens, prices_of, queue_worsens, no_return, worse}
use Rattle.matching.proofs.Partners.{sweep_cons, sweep_nil}

-- ---- counted one at a time

-- one trade more: its price is the last one, or one more
unfoldable pub with_trade : Swept → Trade → Swept
with_trade s t =
    record {
      trades = s.trades + 1;
      filled = s.filled + t.quantity;
      levels = cond (eqb t.price s.last) s.levels (s.levels + 1);
      last = t.price;
    }

unfoldable pub counted : Swept → List Trade → Swept
counted s [] = s
counted s (t ∷ ts) = counted (with_trade s t) ts

pub counted_none : (s : Swept) → counted s [] ≡ s
unfolding counted
counted_none s = refl

pub counted_one : (s : Swept) (t : Trade) (ts : List Trade) → counted s (t ∷ ts) ≡ counted (with_trade s t) ts
unfolding counted
counted_one s t ts = refl

-- ---- in one go, with the prices that begin

-- how often another price begins, after the price p
unfoldable changes : ℕ → List ℕ → ℕ
changes p [] = 0
changes p (r ∷ rs) = cond (eqb r p) (changes p rs) (suc (changes r rs))

abbrev paid : List Trade → List ℕ
paid ts = map (λ (t : Trade). t.price) ts

swept_path :
    (a b c d e f g h : ℕ)
    → a ≡ b
    → c ≡ d
    → e ≡ f
    → g ≡ h
    → ◌≡◌ {A = Swept} (record { trades = a; filled = c; levels = e; last = g })
    (record { trades = b; filled = d; levels = f; last = h })
swept_path a b c d e f g h p q r s = cc

in_one_go :
    (s : Swept) (ts : List Trade)
    → counted s ts
    ≡ record {
      trades = s.trades + length ts;
      filled = s.filled + filled ts;
      levels = s.levels + changes s.last (paid ts);
      last = last_price s.last ts;
    }
unfolding counted changes filled total last_price with_trade
in_one_go s [] = swept_path _ _ _ _ _ _ _ _ (omega arith) (omega arith) (omega arith) refl
in_one_go s (t ∷ ts) =
    in_one_go (with_trade s t) ts
    ∙ swept_path _ _ _ _ _ _ _ _ (omega arith) (omega arith) (pick (eqb t.price s.last) refl) refl
  where
    pick :
        (b : Bool)
        → eqb t.price s.last ≡ b
        → cond b s.levels (s.levels + 1) + changes t.price (paid ts)
        ≡ s.levels + cond b (changes s.last (paid ts)) (suc (changes t.price (paid ts)))
    pick true e = ap (λ (p : ℕ). s.levels + changes p (paid ts)) (eqb-true t.price s.last e)
    pick false e = omega arith

-- the different prices are those that begin
runs :
    (side p : ℕ) (ps : List ℕ)
    → p ≤ 999_999
    → Worsens side (rank side p) ps
    → length (once (p ∷ ps)) ≡ suc (changes p ps)
unfolding changes
runs side p [] hp w = unfold once keep in refl
runs side p (r ∷ ps) hp w = pick (eqb r p) refl (runs side p ps hp) (runs side r ps w.1 w.2)
  where
    pick :
        (b : Bool)
        → eqb r p ≡ b
        → (Worsens side (rank side p) ps → length (once (p ∷ ps)) ≡ suc (changes p ps))
        → length (once (r ∷ ps)) ≡ suc (changes r ps)
        → length (once (p ∷ r ∷ ps)) ≡ suc (cond b (changes p ps) (suc (changes r ps)))
    pick true f same new =
        let e : r ≡ p = eqb-true r p f in
        let from : Worsens side (rank side p) ps = rw (sym e) w.2 in
        ap length (once_again p r ps e) ∙ same from
    pick false f same new =
        let away : r ≡ p → ⊥ = eqb-false r p f in
        let far : rank side p < rank side r = worse side p r hp w.1 w.0 away in
        ap length (once_new p (r ∷ ps) (away, no_return side p (rank side r) ps far w.2)) ∙ ap suc new

abbrev pub unswept : Swept
unswept = record { trades = 0; filled = 0; levels = 0; last = 0 }

pub nothing_yet : comes_to [] ≡ unswept
unfolding comes_to filled total levels different once last_price
nothing_yet = refl

-- no price is 0, so the first trade begins one
abbrev Begins : List Trade → Type 0
Begins [] = Unit {0}
Begins (t ∷ ts) = t.price ≡ 0 → ⊥

comes_to_lem :
    (side a : ℕ) (ts : List Trade)
    → Begins ts
    → Worsens side a (paid ts)
    → counted unswept ts ≡ comes_to ts
unfolding changes comes_to filled levels different
comes_to_lem side a [] n w = counted_none unswept ∙ sym nothing_yet
comes_to_lem side a (t ∷ ts) n w =
    in_one_go unswept (t ∷ ts)
    ∙ swept_path _ _ _ _ _ _ _ _ (omega arith) (omega arith)
    (let r : length (once (paid (t ∷ ts))) ≡ suc (changes t.price (paid ts)) =
    runs side t.price (paid ts) w.1 w.2
    in
    rw (ne_eqb t.price 0 n) (omega arith))
    refl

-- ---- the prices of a sweep never get better

worsens_same :
    (side a n p : ℕ) (os : List Order)
    → Worsens side a (prices_of os)
    → Worsens side a (prices_of (cut_same n p os))
unfolding cut_same
worsens_same side a n p [] w = tt
worsens_same side a zero p (o ∷ os) w =
    go (eqb o.price p) (worsens_same side (rank side o.price) zero p os w.2)
  where
    go :
        (b : Bool)
        → Worsens side (rank side o.price) (prices_of (cut_same zero p os))
        → Worsens side a (prices_of (cond b (o ∷ cut_same zero p os) []))
    go true h = (w.0, w.1, h)
    go false h = tt
worsens_same side a (suc n) p (o ∷ os) w =
    go (eqb o.price p) (worsens_same side (rank side o.price) (suc n) p os w.2)
    (worsens_same side (rank side o.price) n o.price os w.2)
  where
    go :
        (b : Bool)
        → Worsens side (rank side o.price) (prices_of (cut_same (suc n) p os))
        → Worsens side (rank side o.price) (prices_of (cut_same n o.price os))
        → Worsens side a (prices_of (cond b (o ∷ cut_same (suc n) p os) (o ∷ cut_same n o.price os)))
    go true h k = (w.0, w.1, h)
    go false h k = (w.0, w.1, k)

pub worsens_levels :
    (side a n : ℕ) (os : List Order)
    → Worsens side a (prices_of os)
    → Worsens side a (prices_of (cut_levels n os))
unfolding cut_levels
worsens_levels side a zero os w = tt
worsens_levels side a (suc n) [] w = tt
worsens_levels side a (suc n) (o ∷ os) w = (w.0, w.1, worsens_same side (rank side o.price) n o.price os w.2)

pub worsens_sweep :
    (side a : ℕ) (t : Taker) (q : ℕ) (os : List Order)
    → Worsens side a (prices_of os)
    → Worsens side a (paid (sweep t q os))
worsens_sweep side a t q [] w = rw (sweep_nil t q) tt
worsens_sweep side a t q (o ∷ os) w =
    rw (sweep_cons t q o os)
    (go (wants t q o.price) (worsens_sweep side (rank side o.price) t (q - o.left) os w.2))
  where
    go :
        (b : Bool)
        → Worsens side (rank side o.price) (paid (sweep t (q - o.left) os))
        → Worsens side a (paid (cond b (trade_with t q o ∷ sweep t (q - o.left) os) []))
    go true h = unfold trade_with in (w.0, w.1, h)
    go false h = tt

begins :
    (t : Taker) (q n : ℕ) (os : List Order)
    → Each (λ (o : Order). o.price ≡ 0 → ⊥) os
    → Begins (sweep t q (cut_levels n os))
unfolding cut_levels
begins t q zero os e = rw (sweep_nil t q) tt
begins t q (suc n) [] e = rw (sweep_nil t q) tt
begins t q (suc n) (o ∷ os) e = rw (sweep_cons t q o (cut_same n o.price os)) (go (wants t q o.price))
  where
    go : (b : Bool) → Begins (cond b (trade_with t q o ∷ sweep t (q - o.left) (cut_same n o.price os)) [])
    go true = unfold trade_with in e.0
    go false = tt

pub sweep_counts :
    (t : Taker) (q n side : ℕ) (book : List Order)
    → Standing book
    → Each (λ (o : Order). o.price ≡ 0 → ⊥) (queue side book)
    → counted unswept (sweep t q (cut_levels n (queue side book))) ≡ comes_to (sweep t q (cut_levels n (queue side book)))
sweep_counts t q n side book s priced =
    comes_to_lem side 0 (sweep t q (cut_levels n (queue side book))) (begins t q n (queue side book) priced)
    (worsens_sweep side 0 t q (cut_levels n (queue side book))
    (worsens_levels side 0 n (queue side book) (queue_worsens side book s)))
