-- Two lines of orders that face each other, first against first: what the trades fill together, and what they leave of each line.
-- Assumes nothing.
use Rattle.std.specs.Prelude.{if◌then◌else◌}
use Prim.Native.Nat.{ℕ, zero, suc, ◌+◌, ◌-◌, ◌≤◌, ◌<◌, min}
use mathlib.Core.Path.{◌≡◌, refl, sym, ap, ◌∙◌}
use mathlib.Core.Bool.{Bool, true, false, ◌||◌}
use mathlib.Core.List.{List, [], ◌∷◌, map}
use native.Mathlib.Decide.{dec_lt}
use native.Mathlib.Omega.{arith}
use borrow.Author.Tests.{lt-ltb, le-ltb, eq-eqb, ne_eqb}
use lib.ListN.{length, length-map}
use lib.Dec.{ltb, eqb}
use Rattle.model.specs.declared.Order.{Order}
use Rattle.model.specs.declared.Trade.{Trade}
use Rattle.model.specs.Lists.{total}
use Rattle.model.specs.Book.{free}
use Rattle.model.specs.Matching.{is_in, filled, filled_of, less_by}
use Rattle.model.specs.Pairing.{Share, head_less, pair}
use Rattle.model.specs.Words.{Each}
use Rattle.book.proofs.Lists.{both, each, every, map_same}
use Rattle.book.proofs.Sorting.{Distinct}
use Rattle.book.proofs.Settlements.{part, filled_nil, filled_none, filled_more, filled_cons}
use Rattle.book.proofs.Kept.{after}
use Rattle.book.proofs.Fronts.{less_front, no_front}
use Rattle.pairing.specs.Dealing.{dealt}
use Rattle.pairing.proofs.Turns.{pairs, one_goes, pair_turn, pair_no_buy, pair_no_sell, head_stays, head_goes}
use Rattle.fixed_book.specs.Heads.{brings}

abbrev shares : List Order → ℕ
shares os = total (λ (o : Order). o.left) os

-- ---- the first of a line when q of it have traded

unfoldable pub rest : ℕ → Order → List Order → List Order
rest q o os = if ltb q o.left then less_by q o ∷ os else os

module _ (q : ℕ) (o : Order) where
  less_is : q < o.left → less_by q o ≡ record { side = o.side; account = o.account; left = o.left - q; price = o.price; number = o.number }
  unfolding less_by
  less_is l = rw (lt-ltb q o.left l)

  less_none : o.left ≤ q → less_by q o ≡ free
  unfolding less_by
  less_none l = rw (le-ltb q o.left l)

  rest_some : (os : List Order) → q < o.left → rest q o os ≡ less_by q o ∷ os
  unfolding rest
  rest_some os l = rw (lt-ltb q o.left l)

  rest_none : (os : List Order) → o.left ≤ q → rest q o os ≡ os
  unfolding rest
  rest_none os l = rw (le-ltb q o.left l)

  less_number : q < o.left → (less_by q o).number ≡ o.number
  less_number l = ap (λ (x : Order). x.number) (less_is l)

  less_left : q < o.left → (less_by q o).left ≡ o.left - q
  less_left l = ap (λ (x : Order). x.left) (less_is l)

  -- in two steps
  less_twice : (a : ℕ) → q < o.left → less_by a (less_by q o) ≡ less_by (q + a) o
  unfolding less_by
  less_twice a l = elim (dec_lt (q + a) o.left) [
    | yes k ↦
        let e : o.left - q - a ≡ o.left - (q + a) = omega arith in
        let m : a < o.left - q = omega arith in
        rw (lt-ltb q o.left l, lt-ltb (q + a) o.left k, lt-ltb a (o.left - q) m, e)
    | no k ↦
        let m : o.left - q ≤ a = omega arith in
        let n : o.left ≤ q + a = omega arith in
        rw (lt-ltb q o.left l, le-ltb (q + a) o.left n, le-ltb a (o.left - q) m)
  ]

  rest_shares : (os : List Order) → q ≤ o.left → q + shares (rest q o os) ≡ o.left + shares os
  unfolding total
  rest_shares os h = elim (dec_lt q o.left) [
    | yes l ↦ rw (rest_some os l) (omega (arith, less_left l))
    | no l ↦ rw (rest_none os (omega arith)) (omega arith)
  ]

  rest_brings : (os : List Order) → head_less q (brings o) (map brings os) ≡ map brings (rest q o os)
  rest_brings os = elim (dec_lt q o.left) [
    | yes l ↦
        head_stays q (brings o) (map brings os) l
        ∙ sym (ap (map brings) (rest_some os l) ∙ ap (λ (x : Order). brings x ∷ map brings os) (less_is l))
    | no l ↦ head_goes q (brings o) (map brings os) (omega arith) ∙ sym (ap (map brings) (rest_none os (omega arith)))
  ]

  each_rest : (P : Order → Type 0) (os : List Order) → (q < o.left → P (less_by q o)) → Each P os → Each P (rest q o os)
  each_rest P os f e = elim (dec_lt q o.left) [
    | yes l ↦ rw (rest_some os l) (f l, e)
    | no l ↦ rw (rest_none os (omega arith)) e
  ]

-- what trades leave of a line, from what those after the first one leave of its rest
module _ (q v : ℕ) (o : Order) (os : List Order) (ts us : List Trade) where
  pub front_more :
      q ≤ o.left
      → filled_of o.number ts ≡ q + filled_of o.number us
      → Each (λ p. filled_of p.number ts ≡ filled_of p.number us) os
      → map (after us) (rest q o os) ≡ less_front v (rest q o os)
      → map (after ts) (o ∷ os) ≡ less_front (q + v) (o ∷ os)
  unfolding less_front
  front_more h fo fs ih = elim (dec_lt q o.left) [
    | yes l ↦
        let n : (less_by q o).number ≡ o.number = less_number q o l in
        let both : map (after us) (less_by q o ∷ os) ≡ less_front v (less_by q o ∷ os) = rw (rest_some q o os l) at ih in
        let head : after us (less_by q o) ≡ less_by v (less_by q o) = cc in
        let tail : map (after us) os ≡ less_front (v - (less_by q o).left) os = cc in
        let k : v - (less_by q o).left ≡ q + v - o.left = omega (arith, less_left q o l) in
        let first : after ts o ≡ less_by (q + v) o =
        ap (λ (x : ℕ). less_by x o) fo
        ∙ sym (less_twice q o (filled_of o.number us) l)
        ∙ ap (λ (x : ℕ). less_by (filled_of x us) (less_by q o)) (sym n)
        ∙ head
        ∙ less_twice q o v l
        in
        let last : map (after ts) os ≡ less_front (q + v - o.left) os = others ∙ tail ∙ ap (λ x. less_front x os) k in
        rw (first, last)
    | no l ↦
        let gone : o.left ≤ q = omega arith in
        let k : v ≡ q + v - o.left = omega arith in
        let first : after ts o ≡ less_by (q + v) o =
        less_none (filled_of o.number ts) o (omega (arith, fo)) ∙ sym (less_none (q + v) o (omega arith))
        in
        let last : map (after ts) os ≡ less_front (q + v - o.left) os =
        others ∙ (rw (rest_none q o os gone) at ih) ∙ ap (λ x. less_front x os) k
        in
        rw (first, last)
  ]
    where
      others : map (after ts) os ≡ map (after us) os
      others =
          map_same (after ts) (after us) os
          (each (λ p. filled_of p.number ts ≡ filled_of p.number us) (λ p. after ts p ≡ after us p) os (λ p e. ap (λ (x : ℕ). less_by x p) e) fs)

-- ---- two lines that face each other

abbrev Foreign : ℕ → List Order → Type 0
Foreign n os = Each (λ (p : Order). p.number ≡ n → ⊥) os

-- every order has shares and a number of its own
pub record Facing (bs ss : List Order) : Type 0 where
  pub buys_some : Each (λ o. 1 ≤ o.left) bs
  pub sells_some : Each (λ o. 1 ≤ o.left) ss
  pub buys_own : Distinct (λ (o : Order). o.number) bs
  pub sells_own : Distinct (λ (o : Order). o.number) ss
  pub apart : Each (λ o. Foreign o.number ss) bs

module _ (q : ℕ) (o : Order) where
  some_rest : (os : List Order) → Each (λ o. 1 ≤ o.left) os → Each (λ o. 1 ≤ o.left) (rest q o os)
  some_rest os e = each_rest q o (λ p. 1 ≤ p.left) os (λ l. omega (arith, less_left q o l)) e

  own_rest : (os : List Order) → Foreign o.number os → Distinct (λ (p : Order). p.number) os → Distinct (λ (p : Order). p.number) (rest q o os)
  own_rest os f d = elim (dec_lt q o.left) [
    | yes l ↦ rw (rest_some q o os l) (rw (less_number q o l) f, d)
    | no l ↦ rw (rest_none q o os (omega arith)) d
  ]

  foreign_rest : (n : ℕ) (os : List Order) → Foreign n (o ∷ os) → Foreign n (rest q o os)
  foreign_rest n os f = each_rest q o (λ p. p.number ≡ n → ⊥) os (λ l e. f.0 (sym (less_number q o l) ∙ e)) f.1

facing_rest :
    (q : ℕ) (b s : Order) (bs ss : List Order) → Facing (b ∷ bs) (s ∷ ss) → Facing (rest q b bs) (rest q s ss)
facing_rest q b s bs ss f =
    record {
      buys_some = some_rest q b bs f.buys_some.1;
      sells_some = some_rest q s ss f.sells_some.1;
      buys_own = own_rest q b bs f.buys_own.0 f.buys_own.1;
      sells_own = own_rest q s ss f.sells_own.0 f.sells_own.1;
      apart =
          each_rest q b (λ o. Foreign o.number (rest q s ss)) bs
          (λ l. rw (less_number q b l) (foreign_rest q s b.number ss f.apart.0))
          (each (λ o. Foreign o.number (s ∷ ss)) (λ o. Foreign o.number (rest q s ss)) bs (λ o k. foreign_rest q s o.number ss k) f.apart.1);
    }

-- what the trades come to
pub record Cleared (bs ss : List Order) (ts : List Trade) : Type 0 where
  pub smaller : filled ts ≡ min (shares bs) (shares ss)
  pub buys : map (after ts) bs ≡ less_front (filled ts) bs
  pub sells : map (after ts) ss ≡ less_front (filled ts) ss

no_trade_front : (os : List Order) → Each (λ o. 1 ≤ o.left) os → map (after []) os ≡ less_front 0 os
no_trade_front os e = no_front [] os (every (λ (o : Order). filled_of o.number [] ≡ 0) os (λ o. filled_none o.number))

cleared_none :
    (bs ss : List Order) (ts : List Trade) → Facing bs ss → ts ≡ [] → min (shares bs) (shares ss) ≡ 0 → Cleared bs ss ts
cleared_none bs ss ts f e z =
    rw e
    (record {
      smaller = filled_nil ∙ sym z;
      buys = no_trade_front bs f.buys_some ∙ ap (λ n. less_front n bs) (sym filled_nil);
      sells = no_trade_front ss f.sells_some ∙ ap (λ n. less_front n ss) (sym filled_nil);
    })

-- one trade more
module _ (p : ℕ) (b s : Order) (bs ss : List Order) (f : Facing (b ∷ bs) (s ∷ ss)) (us : List Trade) where
  abbrev q : ℕ
  q = min b.left s.left

  abbrev t : Trade
  t = dealt p (brings b) (brings s)

  buyer_part : part b.number t ≡ q
  unfolding part is_in dealt
  buyer_part = rw (eq-eqb b.number b.number refl)

  seller_part : part s.number t ≡ q
  unfolding part is_in dealt
  seller_part = rw (eq-eqb s.number s.number refl) (go (eqb b.number s.number))
    where
      go : (x : Bool) → (if x || true then q else 0) ≡ q
      go true = refl
      go false = refl

  other_part : (n : ℕ) → (b.number ≡ n → ⊥) → (s.number ≡ n → ⊥) → part n t ≡ 0
  unfolding part is_in dealt
  other_part n x y = rw (ne_eqb b.number n x, ne_eqb s.number n y)

  filled_then : filled (t ∷ us) ≡ q + filled us
  unfolding dealt
  filled_then = filled_more t us

  cleared_more : Cleared (rest q b bs) (rest q s ss) us → Cleared (b ∷ bs) (s ∷ ss) (t ∷ us)
  unfolding total
  cleared_more k =
      let hb : q ≤ b.left = omega arith in
      let hs : q ≤ s.left = omega arith in
      record {
        smaller = omega (arith, filled_then, k.smaller, rest_shares q b bs hb, rest_shares q s ss hs);
        buys =
            front_more q (filled us) b bs (t ∷ us) us hb
            (filled_cons b.number t us ∙ ap (λ n. n + filled_of b.number us) buyer_part)
            (both (λ o. o.number ≡ b.number → ⊥) (λ o. Foreign o.number (s ∷ ss)) (λ o. filled_of o.number (t ∷ us) ≡ filled_of o.number us) bs
            (λ o x y. omega (arith, filled_cons o.number t us, other_part o.number (λ e. x (sym e)) y.0))
            f.buys_own.0 f.apart.1)
            k.buys
            ∙ ap (λ n. less_front n (b ∷ bs)) (sym filled_then);
        sells =
            front_more q (filled us) s ss (t ∷ us) us hs
            (filled_cons s.number t us ∙ ap (λ n. n + filled_of s.number us) seller_part)
            (both (λ o. o.number ≡ s.number → ⊥) (λ o. o.number ≡ b.number → ⊥) (λ o. filled_of o.number (t ∷ us) ≡ filled_of o.number us) ss
            (λ o x y. omega (arith, filled_cons o.number t us, other_part o.number (λ e. y (sym e)) (λ e. x (sym e))))
            f.sells_own.0 f.apart.0.1)
            k.sells
            ∙ ap (λ n. less_front n (s ∷ ss)) (sym filled_then);
      }

abbrev Clears : ℕ → ℕ → Type 0
Clears turns p =
    (bs ss : List Order)
    → length bs + length ss ≤ turns
    → Facing bs ss
    → Cleared bs ss (pair turns p (map brings bs) (map brings ss))

no_buys : (ss : List Order) → min (shares []) (shares ss) ≡ 0
unfolding total
no_buys ss = omega arith

no_sells : (bs : List Order) → min (shares bs) (shares []) ≡ 0
unfolding total
no_sells bs = omega arith

none_clears : (p : ℕ) → Clears 0 p
none_clears p [] ss h f = cleared_none [] ss _ f (pair_no_buy 0 p (map brings ss)) (no_buys ss)
none_clears p (b ∷ bs) ss h f = absurd (omega arith)

more_clears : (turns p : ℕ) → Clears turns p → Clears (suc turns) p
more_clears turns p more [] ss h f = cleared_none [] ss _ f (pair_no_buy (suc turns) p (map brings ss)) (no_buys ss)
more_clears turns p more (b ∷ bs) [] h f = cleared_none (b ∷ bs) [] _ f (pair_no_sell (suc turns) p (map brings (b ∷ bs))) (no_sells (b ∷ bs))
more_clears turns p more (b ∷ bs) (s ∷ ss) h f =
    let q : ℕ = min b.left s.left in
    let eb : head_less q (brings b) (map brings bs) ≡ map brings (rest q b bs) = rest_brings q b bs in
    let es : head_less q (brings s) (map brings ss) ≡ map brings (rest q s ss) = rest_brings q s ss in
    let e : pair (suc turns) p (map brings (b ∷ bs)) (map brings (s ∷ ss)) ≡ dealt p (brings b) (brings s) ∷ pair turns p (map brings (rest q b bs)) (map brings (rest q s ss)) =
    pair_turn turns p (brings b) (brings s) (map brings bs) (map brings ss)
    ∙ ap (λ (l : List Share). dealt p (brings b) (brings s) ∷ pair turns p l (head_less q (brings s) (map brings ss))) eb
    ∙ ap (λ (l : List Share). dealt p (brings b) (brings s) ∷ pair turns p (map brings (rest q b bs)) l) es
    in
    let fewer : length (rest q b bs) + length (rest q s ss) ≤ length bs + suc (length ss) =
    omega (
      arith,
      one_goes (brings b) (brings s) (map brings bs) (map brings ss),
      ap length eb,
      ap length es,
      length-map (rest q b bs) brings,
      length-map (rest q s ss) brings,
      length-map bs brings,
      length-map ss brings,
    )
    in
    rw e
    (cleared_more p b s bs ss f (pair turns p (map brings (rest q b bs)) (map brings (rest q s ss)))
    (more (rest q b bs) (rest q s ss) (omega arith) (facing_rest q b s bs ss f)))

clears : (turns p : ℕ) → Clears turns p
clears zero p = none_clears p
clears (suc turns) p = more_clears turns p (clears turns p)

pub pairs_clear : (p : ℕ) (bs ss : List Order) → Facing bs ss → Cleared bs ss (pairs p (map brings bs) (map brings ss))
unfolding pairs
pairs_clear p bs ss f =
    clears (length (map brings bs) + length (map brings ss)) p bs ss (omega (arith, length-map bs brings, length-map ss brings)) f
