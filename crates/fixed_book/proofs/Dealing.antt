-- The loop of the matching at the close: the trades made so far, with those still to come of the two heads and those behind them, are
-- the trades of the line. Assumes nothing.
use Prim.Native.Nat.{ℕ, ◌+◌, ◌≤◌, ◌<◌, min}
use mathlib.Core.Path.{◌≡◌, refl, sym, ap, ap₂, ◌∙◌}
use mathlib.Core.Bool.{not}
use mathlib.Core.List.{List, [], ◌∷◌}
use native.Mathlib.Decide.{dec_lt}
use native.Mathlib.Omega.{arith}
use native.Mathlib.Numerals.{add-one}
use lib.ListN.{length, set, length-set}
use lib.Seq.{sets}
use Rattle.model.specs.declared.Order.{Order}
use Rattle.model.specs.declared.Trade.{Trade}
use Rattle.model.specs.Lists.{keep}
use Rattle.model.specs.Matching.{filled}
use Rattle.model.specs.Pairing.{Share, head_less}
use Rattle.model.specs.FixedBook.{is_void, matches}
use Rattle.book.specs.declared.Head.{Head}
use Rattle.book.specs.Deals.{dealt}
use Rattle.book.specs.Writing.{fitted}
use Rattle.book.proofs.Settlements.{filled_nil, filled_more}
use Rattle.book.proofs.Written.{sets_fitted}
use Rattle.pairing.specs.Dealing as turn
use Rattle.pairing.proofs.Turns.{pairs, pair_no_sell, turn, no_buys, one_goes, dealt_quantity}
use Rattle.fixed_book.specs.Ready.{Lined}
use Rattle.fixed_book.specs.Heads.{head_share, shares_from, headed, HeadOf}
use Rattle.fixed_book.proofs.Heads.{headed_some, headed_none}
use Rattle.fixed_book.proofs.Sides.{closing_pairs, closing_shares, closing_trades}

no_sells : (p : ℕ) (bs : List Share) → pairs p bs [] ≡ []
unfolding pairs
no_sells p bs = pair_no_sell (length bs + 0) p bs

module _ (close : ℕ) (book : List Order) where
  -- all trades of the line
  abbrev all : List Trade
  all = matches close (keep (λ (o : Order). not (is_void close o)) book)

  -- those still to come
  abbrev coming : Head → Head → List Trade
  coming buy sell = pairs close (headed close 0 buy book) (headed close 1 sell book)

  pub record Underway (lent : List Trade) (buy sell : Head) (quantity made shares : ℕ) (out : List Trade) : Type 0 where
    pub count : made + length (coming buy sell) ≡ length all
    pub sum : shares + filled (coming buy sell) ≡ filled all
    pub same : sets out made (coming buy sell) ≡ sets lent 0 all
    pub buying : 0 < buy.left → buy.at < length book
    pub selling : 0 < sell.left → sell.at < length book
    pub least : quantity ≡ min buy.left sell.left
    pub long : length out ≡ length lent

  -- the two lines together grow shorter with each trade
  abbrev pub waiting : Head → Head → ℕ
  waiting buy sell = length (headed close 0 buy book) + length (headed close 1 sell book)

  module _ (lent : List Trade) where
    pub underway_start :
        {buy sell : Head} {quantity : ℕ}
        → HeadOf close 0 book (shares_from close 0 0 book) buy
        → HeadOf close 1 book (shares_from close 1 0 book) sell
        → quantity ≡ min buy.left sell.left
        → Underway lent buy sell quantity 0 0 lent
    underway_start {buy} {sell} {quantity} hb hs hq =
        let e : coming buy sell ≡ all = ap₂ (pairs close) hb.same hs.same ∙ sym (closing_pairs close book) in
        record {
          count = rw e (omega arith);
          sum = rw e (omega arith);
          same = ap (λ (ts : List Trade). sets lent 0 ts) e;
          buying = hb.inside;
          selling = hs.inside;
          least = hq;
          long = refl;
        }

    module _ {buy sell : Head} {quantity made shares : ℕ} {out : List Trade} (k : Underway lent buy sell quantity made shares out) (some : 0 < quantity) where
      pub buy_inside : buy.at < length book
      buy_inside = k.buying (omega (arith, k.least))

      pub sell_inside : sell.at < length book
      sell_inside = k.selling (omega (arith, k.least))

      abbrev q : ℕ
      q = min buy.left sell.left

      abbrev bs : List Share
      bs = shares_from close 0 (buy.at + 1) book

      abbrev ss : List Share
      ss = shares_from close 1 (sell.at + 1) book

      heads : coming buy sell ≡ pairs close (head_share buy ∷ bs) (head_share sell ∷ ss)
      heads =
          ap₂ (pairs close) (headed_some close 0 book buy (omega (arith, k.least))) (headed_some close 1 book sell (omega (arith, k.least)))

      module _ {t : Trade} (step : t ≡ turn.dealt close (head_share buy) (head_share sell)) where
        -- the next trade, and those that come then
        one_turn : coming buy sell ≡ t ∷ pairs close (head_less q (head_share buy) bs) (head_less q (head_share sell) ss)
        one_turn =
            heads
            ∙ turn close (head_share buy) (head_share sell) bs ss
            ∙ ap (λ (u : Trade). u ∷ pairs close (head_less q (head_share buy) bs) (head_less q (head_share sell) ss)) (sym step)

        dealt_shares : t.quantity ≡ quantity
        dealt_shares =
            ap (λ (u : Trade). u.quantity) step ∙ dealt_quantity close (head_share buy) (head_share sell) ∙ sym k.least

        pub count_fits : Lined book → made + 1 ≤ 4_096
        count_fits l = omega (arith, ap length one_turn, k.count, closing_trades close book l)

        pub shares_fit_lem : Lined book → shares + quantity ≤ 4_096_000_000
        shares_fit_lem l =
            omega (
              arith,
              ap filled one_turn,
              filled_more t (pairs close (head_less q (head_share buy) bs) (head_less q (head_share sell) ss)),
              dealt_shares,
              k.sum,
              closing_shares close book l,
            )

        module _ {b s : Head} (hb : HeadOf close 0 book (head_less quantity (head_share buy) bs) b) (hs : HeadOf close 1 book (head_less quantity (head_share sell) ss) s) where
          then : coming b s ≡ pairs close (head_less q (head_share buy) bs) (head_less q (head_share sell) ss)
          then =
              ap₂ (pairs close) (hb.same ∙ ap (λ n. head_less n (head_share buy) bs) k.least) (hs.same ∙ ap (λ n. head_less n (head_share sell) ss) k.least)

          next : coming buy sell ≡ t ∷ coming b s
          next = one_turn ∙ ap (λ (ts : List Trade). t ∷ ts) (sym then)

          pub waiting_less : waiting b s < waiting buy sell
          waiting_less =
              omega (
                arith,
                one_goes (head_share buy) (head_share sell) bs ss,
                ap length (hb.same ∙ ap (λ n. head_less n (head_share buy) bs) k.least),
                ap length (hs.same ∙ ap (λ n. head_less n (head_share sell) ss) k.least),
                ap length (headed_some close 0 book buy (omega (arith, k.least))),
                ap length (headed_some close 1 book sell (omega (arith, k.least))),
              )

          pub underway_next :
              {out' : List Trade} {quantity' : ℕ}
              → out' ≡ set out made t
              → quantity' ≡ min b.left s.left
              → Underway lent b s quantity' (made + 1) (shares + quantity) out'
          underway_next {out'} {quantity'} ho hq =
              rw ho
              (record {
                count = omega (arith, ap length next, k.count);
                sum = omega (arith, ap filled next, filled_more t (coming b s), dealt_shares, k.sum);
                same = rw (add-one made) (sym (ap (λ (ts : List Trade). sets out made ts) next) ∙ k.same);
                buying = hb.inside;
                selling = hs.inside;
                least = hq;
                long = length-set out made t ∙ k.long;
              })

    nothing_comes : (buy sell : Head) → min buy.left sell.left ≡ 0 → coming buy sell ≡ []
    nothing_comes buy sell z = elim (dec_lt 0 buy.left) [
      | yes l ↦
          ap (pairs close (headed close 0 buy book)) (headed_none close 1 book sell (omega arith)) ∙ no_sells close (headed close 0 buy book)
      | no l ↦
          ap (λ (x : List Share). pairs close x (headed close 1 sell book)) (headed_none close 0 book buy (omega arith)) ∙ no_buys close (headed close 1 sell book)
    ]

    pub underway_end :
        {buy sell : Head} {quantity made shares : ℕ} {out : List Trade}
        → Underway lent buy sell quantity made shares out
        → quantity ≤ 0
        → (record { made = made; shares = shares } ≡ dealt all) × (out ≡ fitted all lent)
    unfolding dealt
    underway_end {buy} {sell} {quantity} {made} {shares} {out} k h =
        let e : coming buy sell ≡ [] = nothing_comes buy sell (omega (arith, k.least)) in
        let m : made ≡ length all = omega (arith, ap length e, k.count) in
        let s : shares ≡ filled all = omega (arith, ap filled e, filled_nil, k.sum) in (
          rw (m, s),
          sym (ap (λ (ts : List Trade). sets out made ts) e) ∙ k.same ∙ sets_fitted all lent,
        )
