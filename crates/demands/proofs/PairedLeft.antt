-- What the trades of an auction leave of each order: of the whole order, not of what the volume grants it. Assumes nothing.
use Prim.Native.Nat.{ℕ, zero, suc, ◌+◌, ◌-◌, ◌≤◌, min}
use mathlib.Core.Path.{◌≡◌, refl, sym, ◌∙◌}
use mathlib.Core.Bool.{true, or-false}
use mathlib.Core.List.{List, [], ◌∷◌}
use mathlib.Core.Logic.{⊎_elim}
use native.Mathlib.Decide.{dec_lt}
use native.Mathlib.Omega.{arith}
use lib.ListN.{length}
use lib.Dec.{eqb}
use borrow.Author.Tests.{eq-eqb, ne_eqb, eqb-true, eqb-false}
use Rattle.model.specs.declared.Order.{Order}
use Rattle.model.specs.declared.Trade.{Trade}
use Rattle.model.specs.declared.Day.{Day}
use Rattle.model.specs.Book.{stands_on, queue}
use Rattle.model.specs.Matching.{is_in}
use Rattle.model.specs.Auction.{volume, auction_price}
use Rattle.model.specs.Pairing.{Share, cut, head_less, pair, trades_at}
use Rattle.model.specs.ClockCall.{auction_trades}
use Rattle.model.specs.Words.{Each}
use Rattle.book.specs.Standing.{Fair, Standing}
use Rattle.book.proofs.Lists.{both, each}
use Rattle.book.proofs.Best.{each_on}
use Rattle.pairing.specs.Dealing.{dealt}
use Rattle.pairing.proofs.Turns.{head_stays, head_goes, dealt_quantity, pair_turn, pair_no_buy, pair_no_sell, cut_some, cut_nothing, cut_nobody}
use Rattle.book.proofs.Queues.{place_of}
use Rattle.book.proofs.Numbers.{times, times_other, none_bears}
use Rattle.pairing.proofs.Auctions.{auction_trades_are}
use Rattle.demands.specs.Leaving.{left_in, Falls, EachFalls}
use Rattle.demands.proofs.Once.{Once, once_behind, once_first, once_queue, book_once}

-- ---- a side's shares

-- no share of the order with this number
abbrev None : ℕ → List Share → Type 0
None n ss = Each (λ (s : Share). s.number ≡ n → ⊥) ss

-- at most one, of an order that had so much; and no share is more than its order
abbrev Mine : ℕ → ℕ → List Share → Type 0
Mine n had [] = Unit {0}
Mine n had (s ∷ ss) = (s.number ≡ n → (s.whole ≡ had) × None n ss) × (s.left ≤ s.whole) × Mine n had ss

none_mine : (n had : ℕ) (ss : List Share) → None n ss → Each (λ (s : Share). s.left ≤ s.whole) ss → Mine n had ss
none_mine n had [] e f = tt
none_mine n had (s ∷ ss) e f = (λ z. absurd (e.0 z), f.0, none_mine n had ss e.1 f.1)

mine_within : (n had : ℕ) (ss : List Share) → Mine n had ss → Each (λ (s : Share). s.left ≤ s.whole) ss
mine_within n had [] k = tt
mine_within n had (s ∷ ss) k = (k.1, mine_within n had ss k.2)

module _ (n : ℕ) where
  cut_none : (v : ℕ) (os : List Order) → Each (λ (o : Order). o.number ≡ n → ⊥) os → None n (cut v os)
  cut_none v [] e = rw (cut_nobody v) tt
  cut_none v (o ∷ os) e = elim (dec_lt 0 v) [
    | yes k ↦ rw (cut_some v o os k) (e.0, cut_none (v - o.left) os e.1)
    | no k ↦ let z : v ≡ 0 = omega arith in rw (z, cut_nothing (o ∷ os)) tt
  ]

  cut_mine : (had v : ℕ) (os : List Order) → Once n had os → Mine n had (cut v os)
  cut_mine had v [] k = rw (cut_nobody v) tt
  cut_mine had v (o ∷ os) k = elim (dec_lt 0 v) [
    | yes l ↦
        rw (cut_some v o os l)
        (λ e. (k.has.0 e, cut_none (v - o.left) os (once_first k e)), omega arith, cut_mine had (v - o.left) os (once_behind k))
    | no l ↦ let z : v ≡ 0 = omega arith in rw (z, cut_nothing (o ∷ os)) tt
  ]

  -- ---- a head that has traded q

  less_none : (q : ℕ) (s : Share) (ss : List Share) → None n (s ∷ ss) → None n (head_less q s ss)
  less_none q s ss e = elim (dec_lt q s.left) [
    | yes l ↦ rw (head_stays q s ss l) e
    | no l ↦ let k : s.left ≤ q = omega arith in rw (head_goes q s ss k) e.1
  ]

  less_mine :
      (had q : ℕ) (s : Share) (ss : List Share)
      → q ≤ s.left
      → Mine n had (s ∷ ss)
      → s.number ≡ n
      → Mine n (s.whole - q) (head_less q s ss)
  less_mine had q s ss h k e = elim (dec_lt q s.left) [
    | yes l ↦
        rw (head_stays q s ss l)
        (λ _. (refl, (k.0 e).1), omega (arith, k.1), none_mine n (s.whole - q) ss (k.0 e).1 (mine_within n had ss k.2))
    | no l ↦
        let g : s.left ≤ q = omega arith in
        rw (head_goes q s ss g) (none_mine n (s.whole - q) ss (k.0 e).1 (mine_within n had ss k.2))
  ]

  less_others :
      (had q : ℕ) (s : Share) (ss : List Share)
      → Mine n had (s ∷ ss)
      → (s.number ≡ n → ⊥)
      → Mine n had (head_less q s ss)
  less_others had q s ss k d = elim (dec_lt q s.left) [
    | yes l ↦ rw (head_stays q s ss l) (λ e. absurd (d e), omega (arith, k.1), k.2)
    | no l ↦ let g : s.left ≤ q = omega arith in rw (head_goes q s ss g) k.2
  ]

  -- ---- one trade, seen from the side that may have the order

  one_falls :
      (had q : ℕ) (s : Share) (ss : List Share) (t : Trade) (ts : List Trade)
      → q ≤ s.left
      → Mine n had (s ∷ ss)
      → t.quantity ≡ q
      → is_in n t ≡ eqb s.number n
      → (s.number ≡ n → left_in n t ≡ s.whole - q)
      → ((left : ℕ) → Mine n left (head_less q s ss) → Falls n left ts)
      → Falls n had (t ∷ ts)
  one_falls had q s ss t ts h k is-q whose left_is more = (
    λ x.
        let e : s.number ≡ n = eqb-true s.number n (sym whose ∙ x) in (
          omega (arith, left_is e, is-q, (k.0 e).0, k.1),
          rw (left_is e) (more (s.whole - q) (less_mine had q s ss h k e)),
        ),
    λ x. more had (less_others had q s ss k (eqb-false s.number n (sym whose ∙ x))),
  )

  module _ (p : ℕ) (b s : Share) where
    abbrev both_left : ℕ
    both_left = min b.left s.left

    buyer_in : (s.number ≡ n → ⊥) → is_in n (dealt p b s) ≡ eqb b.number n
    unfolding is_in dealt
    buyer_in d = rw (ne_eqb s.number n d) (or-false (eqb b.number n))

    seller_in : (b.number ≡ n → ⊥) → is_in n (dealt p b s) ≡ eqb s.number n
    unfolding is_in dealt
    seller_in d = rw (ne_eqb b.number n d)

    buyer_left : b.number ≡ n → left_in n (dealt p b s) ≡ b.whole - both_left
    unfolding left_in dealt
    buyer_left e = rw (eq-eqb b.number n e)

    seller_left : (b.number ≡ n → ⊥) → left_in n (dealt p b s) ≡ s.whole - both_left
    unfolding left_in dealt
    seller_left d = rw (ne_eqb b.number n d)

  -- ---- turn by turn

  buyer_falls :
      (turns p had : ℕ) (bs ss : List Share)
      → Mine n had bs
      → None n ss
      → Falls n had (pair turns p bs ss)
  buyer_falls zero p had bs ss k e = unfold pair in tt
  buyer_falls (suc turns) p had [] ss k e = rw (pair_no_buy (suc turns) p ss) tt
  buyer_falls (suc turns) p had (b ∷ bs) [] k e = rw (pair_no_sell (suc turns) p (b ∷ bs)) tt
  buyer_falls (suc turns) p had (b ∷ bs) (s ∷ ss) k e =
      let q : ℕ = min b.left s.left in
      rw (pair_turn turns p b s bs ss)
      (one_falls had q b bs (dealt p b s) (pair turns p (head_less q b bs) (head_less q s ss)) (omega arith) k (dealt_quantity p b s)
      (buyer_in p b s e.0) (buyer_left p b s)
      (λ left m. buyer_falls turns p left (head_less q b bs) (head_less q s ss) m (less_none q s ss e)))

  seller_falls :
      (turns p had : ℕ) (bs ss : List Share)
      → None n bs
      → Mine n had ss
      → Falls n had (pair turns p bs ss)
  seller_falls zero p had bs ss e k = unfold pair in tt
  seller_falls (suc turns) p had [] ss e k = rw (pair_no_buy (suc turns) p ss) tt
  seller_falls (suc turns) p had (b ∷ bs) [] e k = rw (pair_no_sell (suc turns) p (b ∷ bs)) tt
  seller_falls (suc turns) p had (b ∷ bs) (s ∷ ss) e k =
      let q : ℕ = min b.left s.left in
      rw (pair_turn turns p b s bs ss)
      (one_falls had q s ss (dealt p b s) (pair turns p (head_less q b bs) (head_less q s ss)) (omega arith) k (dealt_quantity p b s)
      (seller_in p b s e.0) (λ _. seller_left p b s e.0)
      (λ left m. seller_falls turns p left (head_less q b bs) (head_less q s ss) (less_none q b bs e) m))

-- ---- an auction, in a book that stands

module _ (book : List Order) (s : Standing book) where
  -- the orders of a side, from those of its queue
  side_falls :
      (p side other : ℕ)
      → (side ≡ other → ⊥)
      → ((n had : ℕ) → Once n had (queue side book) → Each (λ (o : Order). o.number ≡ n → ⊥) (queue other book) → Falls n had (trades_at p book))
      → Each (λ (o : Order). stands_on side o ≡ true → Once o.number o.left book → Falls o.number o.left (trades_at p book)) book
  side_falls p side other apart f =
      each_on (λ (o : Order). Once o.number o.left book → Falls o.number o.left (trades_at p book)) side book
      (each (λ (o : Order). times o.number (queue other book) ≡ 0) _ (queue side book)
      (λ o z k. f o.number o.left (once_queue side book k) (none_bears o.number (queue other book) z))
      (times_other book s side other apart))

  buys_fall : (p : ℕ) → Each (λ (o : Order). stands_on 0 o ≡ true → Once o.number o.left book → Falls o.number o.left (trades_at p book)) book
  unfolding trades_at
  buys_fall p =
      let v = volume book p in
      side_falls p 0 1 (omega arith)
      (λ n had k e.
      buyer_falls n (length (cut v (queue 0 book)) + length (cut v (queue 1 book))) p had (cut v (queue 0 book)) (cut v (queue 1 book))
      (cut_mine n had v (queue 0 book) k) (cut_none n v (queue 1 book) e))

  sells_fall : (p : ℕ) → Each (λ (o : Order). stands_on 1 o ≡ true → Once o.number o.left book → Falls o.number o.left (trades_at p book)) book
  unfolding trades_at
  sells_fall p =
      let v = volume book p in
      side_falls p 1 0 (omega arith)
      (λ n had k e.
      seller_falls n (length (cut v (queue 0 book)) + length (cut v (queue 1 book))) p had (cut v (queue 0 book)) (cut v (queue 1 book))
      (cut_none n v (queue 0 book) e) (cut_mine n had v (queue 1 book) k))

  pub auction_falls : (d : Day) → EachFalls (auction_trades d book) book
  auction_falls d =
      let p = auction_price d book in
      rw (auction_trades_are book s d)
      (both (λ (o : Order). (o.number ≡ 0 → ⊥) → Once o.number o.left book)
      (λ (o : Order). Fair o × (stands_on 0 o ≡ true → Once o.number o.left book → Falls o.number o.left (trades_at p book)) × (stands_on 1 o ≡ true → Once o.number o.left book → Falls o.number o.left (trades_at p book)))
      (λ (o : Order). (o.number ≡ 0 → ⊥) → Falls o.number o.left (trades_at p book)) book
      (λ o k f live.
      ⊎_elim (λ h. f.1 h.0 (k live)) (λ h. ⊎_elim (λ g. f.2 g.1 (k live)) (λ g. absurd (live g.2)) h) (place_of o f.0))
      (book_once book s.apart)
      (both Fair _ _ book (λ o x y. (x, y.0, y.1)) s.fair (both _ _ (λ (o : Order). (stands_on 0 o ≡ true → Once o.number o.left book → Falls o.number o.left (trades_at p book)) × (stands_on 1 o ≡ true → Once o.number o.left book → Falls o.number o.left (trades_at p book))) book (λ o x y. (x, y)) (buys_fall p) (sells_fall p))))
