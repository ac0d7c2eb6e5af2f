-- What paired trades come to: all are at the price, together they are what either side holds, and each order is filled what
-- its side's shares grant it.
use Rattle.std.specs.Prelude.{if◌then◌else◌}
use Prim.Native.Nat.{ℕ, zero, suc, ◌+◌, ◌-◌, ◌≤◌, min}
use mathlib.Core.Path.{◌≡◌, refl, sym, ap, ◌∙◌}
use mathlib.Core.Bool.{Bool, true, false, ◌||◌}
use mathlib.Core.List.{List, [], ◌∷◌}
use native.Mathlib.Nat.{le_refl}
use native.Mathlib.Decide.{dec_lt}
use native.Mathlib.Omega.{arith}
use lib.ListN.{length}
use lib.Dec.{eqb}
use Rattle.model.specs.declared.Order.{Order}
use Rattle.model.specs.declared.Trade.{Trade}
use Rattle.model.specs.Lists.{keep, total}
use Rattle.model.specs.Matching.{filled, is_in, filled_of}
use Rattle.model.specs.Pairing.{Share, cut, head_less, pair}
use Rattle.model.specs.Words.{Each, held, granted}
use Rattle.book.proofs.Lists.{total_keep, kept_next}
use Rattle.book.proofs.Settlements.{filled_nil, filled_more, part, filled_none, filled_cons}
use Rattle.pairing.specs.Fills.{bought, sold}
use Rattle.pairing.specs.Dealing.{dealt}
use Rattle.pairing.proofs.Turns.{brings, less, head_stays, head_goes, one_goes, pair_turn, pair_no_buy, pair_no_sell, pairs, cut_some, cut_nothing, cut_nobody}
use Rattle.pairing.proofs.Waiting.{shares}

-- ---- one more of a list
held_next : (s : Share) (ss : List Share) → held (s ∷ ss) ≡ s.left + held ss
unfolding held total
held_next s ss = refl

pub held_none : held [] ≡ 0
unfolding held total
held_none = refl

module _ (n : ℕ) where
  pub granted_next :
      (s : Share) (ss : List Share)
      → granted n (s ∷ ss) ≡ (if eqb s.number n then s.left else 0) + granted n ss
  unfolding granted held
  granted_next s ss = kept_next (λ s. eqb s.number n) (λ s. s.left) s ss

  pub granted_none : granted n [] ≡ 0
  unfolding granted held keep total
  granted_none = refl

  granted_most : (ss : List Share) → granted n ss ≤ held ss
  unfolding granted held
  granted_most ss = total_keep (λ s. s.left) (λ s. eqb s.number n) ss

  pub bought_next : (t : Trade) (ts : List Trade) → bought n (t ∷ ts) ≡ (if eqb t.buyer n then t.quantity else 0) + bought n ts
  unfolding bought filled
  bought_next t ts = kept_next (λ t. eqb t.buyer n) (λ t. t.quantity) t ts

  pub bought_none : bought n [] ≡ 0
  unfolding bought filled keep total
  bought_none = refl

  pub sold_next : (t : Trade) (ts : List Trade) → sold n (t ∷ ts) ≡ (if eqb t.seller n then t.quantity else 0) + sold n ts
  unfolding sold filled
  sold_next t ts = kept_next (λ t. eqb t.seller n) (λ t. t.quantity) t ts

  pub sold_none : sold n [] ≡ 0
  unfolding sold filled keep total
  sold_none = refl

  -- ---- a head that has traded q
  head_granted :
      (q : ℕ) (s : Share) (ss : List Share)
      → q ≤ s.left
      → (if eqb s.number n then q else 0) + granted n (head_less q s ss) ≡ granted n (s ∷ ss)
  head_granted q s ss h = elim (dec_lt q s.left) [
    | yes l ↦
        rw (head_stays q s ss l)
        (omega (
          arith,
          granted_next (less q s) ss,
          granted_next s ss,
          parts (eqb s.number n) q s.left h,
        ))
    | no l ↦
        let e : q ≡ s.left = omega arith in
        rw (head_goes q s ss (omega arith), e) (sym (granted_next s ss))
  ]
    where
      parts : (b : Bool) (q m : ℕ) → q ≤ m → (if b then q else 0) + (if b then m - q else 0) ≡ (if b then m else 0)
      parts true q m h = omega arith
      parts false q m h = refl

head_held : (q : ℕ) (s : Share) (ss : List Share) → q ≤ s.left → q + held (head_less q s ss) ≡ s.left + held ss
head_held q s ss h = elim (dec_lt q s.left) [
  | yes l ↦
      rw (head_stays q s ss l) (omega (arith, held_next (less q s) ss))
  | no l ↦ let k : s.left ≤ q = omega arith in rw (head_goes q s ss k) (omega arith)
]

-- ---- what the trades of two lists that hold the same come to
pub record Filled (n : ℕ) (bs ss : List Share) (ts : List Trade) : Type 0 where
  pub whole : filled ts ≡ held bs
  pub buyer : bought n ts ≡ granted n bs
  pub seller : sold n ts ≡ granted n ss

nothing_filled : (n : ℕ) (bs ss : List Share) (ts : List Trade) → ts ≡ [] → held bs ≡ 0 → held ss ≡ 0 → Filled n bs ss ts
nothing_filled n bs ss ts e b s =
    rw e
    (record {
      whole = omega (arith, filled_nil);
      buyer = omega (arith, bought_none n, granted_most n bs);
      seller = omega (arith, sold_none n, granted_most n ss);
    })

-- one trade more
dealt_fills :
    (n p : ℕ) (b s : Share) (bs ss : List Share) (ts : List Trade)
    → Filled n (head_less (min b.left s.left) b bs) (head_less (min b.left s.left) s ss) ts
    → Filled n (b ∷ bs) (s ∷ ss) (dealt p b s ∷ ts)
unfolding dealt
dealt_fills n p b s bs ss ts r =
    let q : ℕ = min b.left s.left in
    let hb : q ≤ b.left = omega arith in
    let hs : q ≤ s.left = omega arith in
    record {
      whole = omega (arith, filled_more (dealt p b s) ts, r.whole, held_next b bs, head_held q b bs hb);
      buyer = bought_next n (dealt p b s) ts ∙ ap (λ m. (if eqb b.number n then q else 0) + m) r.buyer ∙ head_granted n q b bs hb;
      seller = sold_next n (dealt p b s) ts ∙ ap (λ m. (if eqb s.number n then q else 0) + m) r.seller ∙ head_granted n q s ss hs;
    }

abbrev Comes : ℕ → ℕ → ℕ → Type 0
Comes turns p n =
    (bs ss : List Share) → length bs + length ss ≤ turns → held bs ≡ held ss → Filled n bs ss (pair turns p bs ss)

none_comes : (p n : ℕ) → Comes 0 p n
none_comes p n [] ss h e =
    nothing_filled n [] ss (pair 0 p [] ss) (pair_no_buy 0 p ss) held_none (sym e ∙ held_none)
none_comes p n (b ∷ bs) ss h e = absurd (omega arith)

more_comes : (turns p n : ℕ) → Comes turns p n → Comes (suc turns) p n
more_comes turns p n more [] ss h e =
    nothing_filled n [] ss (pair (suc turns) p [] ss) (pair_no_buy (suc turns) p ss) held_none (sym e ∙ held_none)
more_comes turns p n more (b ∷ bs) [] h e =
    nothing_filled n (b ∷ bs) [] (pair (suc turns) p (b ∷ bs) []) (pair_no_sell (suc turns) p (b ∷ bs)) (e ∙ held_none) held_none
more_comes turns p n more (b ∷ bs) (s ∷ ss) h e =
    let q : ℕ = min b.left s.left in
    let hb : q ≤ b.left = omega arith in
    let hs : q ≤ s.left = omega arith in
    let l = one_goes b s bs ss in
    let x = held_next b bs in
    let y = held_next s ss in
    let c = head_held q b bs hb in
    let d = head_held q s ss hs in
    let r = more (head_less q b bs) (head_less q s ss) (omega arith) (omega arith) in
    rw (pair_turn turns p b s bs ss) (dealt_fills n p b s bs ss (pair turns p (head_less q b bs) (head_less q s ss)) r)

comes : (turns p n : ℕ) → Comes turns p n
comes zero p n = none_comes p n
comes (suc turns) p n = more_comes turns p n (comes turns p n)

pub pairs_fill : (p n : ℕ) (bs ss : List Share) → held bs ≡ held ss → Filled n bs ss (pairs p bs ss)
unfolding pairs
pairs_fill p n bs ss e = comes (length bs + length ss) p n bs ss (le_refl (length bs + length ss)) e

-- ---- all at the price
abbrev AtPrice : ℕ → ℕ → Type 0
AtPrice turns p = (bs ss : List Share) → Each (λ t. t.price ≡ p) (pair turns p bs ss)

none_priced : (p : ℕ) → AtPrice 0 p
unfolding pair
none_priced p bs ss = tt

more_priced : (turns p : ℕ) → AtPrice turns p → AtPrice (suc turns) p
unfolding dealt
more_priced turns p more [] ss = rw (pair_no_buy (suc turns) p ss) tt
more_priced turns p more (b ∷ bs) [] = rw (pair_no_sell (suc turns) p (b ∷ bs)) tt
more_priced turns p more (b ∷ bs) (s ∷ ss) =
    let q : ℕ = min b.left s.left in
    rw (pair_turn turns p b s bs ss) (refl, more (head_less q b bs) (head_less q s ss))

priced : (turns p : ℕ) → AtPrice turns p
priced zero p = none_priced p
priced (suc turns) p = more_priced turns p (priced turns p)

pub pairs_at : (p : ℕ) (bs ss : List Share) → Each (λ t. t.price ≡ p) (pairs p bs ss)
unfolding pairs
pairs_at p bs ss = priced (length bs + length ss) p bs ss

-- ---- a queue cut to a volume holds it
pub cut_held : (v : ℕ) (os : List Order) → held (cut v os) ≡ min v (shares os)
unfolding shares total
cut_held v [] = rw (cut_nobody v) (omega (arith, held_none))
cut_held v (o ∷ os) = elim (dec_lt 0 v) [
  | yes k ↦
      rw (cut_some v o os k)
      (omega (arith, held_next (brings v o) (cut (v - o.left) os), cut_held (v - o.left) os))
  | no k ↦ let z : v ≡ 0 = omega arith in rw (z, cut_nothing (o ∷ os)) (omega (arith, held_none))
]

-- ---- who only buys is filled what he bought, who only sells what he sold
either :
    (a b : Bool) (q : ℕ)
    → ((if a then q else 0) ≤ (if a || b then q else 0)) × ((if b then q else 0) ≤ (if a || b then q else 0)) × ((if a || b then q else 0) ≤ (if a then q else 0) + (if b then q else 0))
either true true q = (omega arith, omega arith, omega arith)
either true false q = (omega arith, omega arith, omega arith)
either false true q = (omega arith, omega arith, omega arith)
either false false q = (omega arith, omega arith, omega arith)

pub in_both :
    (n : ℕ) (ts : List Trade)
    → (bought n ts ≤ filled_of n ts) × (sold n ts ≤ filled_of n ts) × (filled_of n ts ≤ bought n ts + sold n ts)
unfolding is_in part
in_both n [] = omega (arith, filled_none n, bought_none n, sold_none n)
in_both n (t ∷ ts) =
    let e = either (eqb t.buyer n) (eqb t.seller n) t.quantity in
    let r = in_both n ts in
    omega (arith, filled_cons n t ts, bought_next n t ts, sold_next n t ts)
