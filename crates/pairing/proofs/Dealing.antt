-- The loop of the pairing: the trades made so far, with those still to come of the volume that is left, are the auction's.
use Prim.Native.Nat.{ℕ, ◌+◌, ◌-◌, ◌≤◌, ◌<◌, min}
use mathlib.Core.Path.{◌≡◌, refl, sym, ap, ap₂, ◌∙◌}
use mathlib.Core.List.{List, [], ◌∷◌}
use mathlib.Core.Logic.{◌⊎◌}
use native.Mathlib.Omega.{arith}
use native.Mathlib.Numerals.{add-one}
use lib.ListN.{length, set, length-set}
use lib.Seq.{sets}
use Rattle.model.specs.declared.Order.{Order}
use Rattle.model.specs.declared.Trade.{Trade}
use Rattle.model.specs.Book.{is_live, queue}
use Rattle.model.specs.Auction.{volume}
use Rattle.model.specs.Pairing.{Share, cut, trades_at}
use Rattle.book.specs.declared.Head.{Head}
use Rattle.book.specs.Standing.{Ranked}
use Rattle.book.specs.Lines.{line}
use Rattle.book.specs.Heads.{head_of, head_past, waiting}
use Rattle.book.specs.Writing.{fitted}
use Rattle.book.proofs.Lists.{length_keep}
use Rattle.book.proofs.Written.{sets_fitted}
use Rattle.book.proofs.Waiting.{placed_first, placed_past}
use Rattle.auction.proofs.Stretches.{Stretches}
use Rattle.pairing.specs.Dealing.{share_of, dealt, LeavesBoth}
use Rattle.pairing.proofs.Turns.{dealt_quantity, pairs, turn, no_buys, cut_nothing}
use Rattle.pairing.proofs.Waiting.{shares, head_cut, head_shares, past_cut, past_shares, head_ready, waiting_cut}
use Rattle.pairing.proofs.Auctioned.{volume_buys, volume_sells, fewer_than_live}

-- ---- the step

module _ (buy sell : Head) (left price : ℕ) {x q : ℕ} (hx : x ≡ min left buy.left) (hq : q ≡ min x sell.left) where
  abbrev traded : Trade
  traded =
      record {
        price = price;
        quantity = q;
        buyer = buy.number;
        seller = sell.number;
        buyerleft = buy.left - q;
        sellerleft = sell.left - q;
      }

  -- the smallest of the three is what the two shares have in common
  pub step_dealt : traded ≡ dealt price (share_of left buy) (share_of left sell)
  unfolding dealt
  step_dealt = let e : q ≡ min (min left buy.left) (min left sell.left) = omega arith in rw e

  pub step_leaves : LeavesBoth buy sell traded
  step_leaves = record { buyer = refl; seller = refl; buyerleft = omega arith; sellerleft = omega arith }

-- ---- what holds at each turn

module _ (rows : List Order) (middle end price : ℕ) where
  -- the trades still to come
  abbrev coming : ℕ → Head → Head → List Trade
  coming left buy sell =
      pairs price (cut left (waiting buy (line (buy.at + 1) middle rows))) (cut left (waiting sell (line (sell.at + 1) end rows)))

  pub record Underway (lent : List Trade) (left : ℕ) (buy sell : Head) (made : ℕ) (out : List Trade) : Type 0 where
    pub count : made + length (coming left buy sell) ≡ length (trades_at price rows)
    pub same : sets out made (coming left buy sell) ≡ sets lent 0 (trades_at price rows)
    pub buys : left ≤ shares (waiting buy (line (buy.at + 1) middle rows))
    pub sells : left ≤ shares (waiting sell (line (sell.at + 1) end rows))
    pub buying : ((0 < buy.left) × (buy.at < middle)) ⊎ ((buy.left ≡ 0) × (middle ≤ buy.at))
    pub selling : ((0 < sell.left) × (sell.at < end)) ⊎ ((sell.left ≡ 0) × (end ≤ sell.at))
    pub long : length out ≡ length lent

-- ---- the loop

module _ (rows : List Order) (ranked : Ranked rows) {middle end : ℕ} (w : Stretches rows middle end) (price : ℕ) (lent : List Trade) where
  abbrev book : List Order
  book = rows

  pub underway_start :
      {left : ℕ} {buy sell : Head}
      → left ≡ volume book price
      → buy ≡ head_of 0 (line 0 middle rows)
      → sell ≡ head_of middle (line middle end rows)
      → Underway rows middle end price lent left buy sell 0 lent
  unfolding head_of
  underway_start {left} {buy} {sell} hl hb hs =
      let b : cut left (waiting buy (line (buy.at + 1) middle rows)) ≡ cut left (queue 0 book) =
      rw (hb, first_place 0 (line 0 middle rows)) (head_cut middle rows w.short_buys w.full_buys 0 left ∙ ap (cut left) w.buys)
      in
      let c : cut left (waiting sell (line (sell.at + 1) end rows)) ≡ cut left (queue 1 book) =
      rw (hs, first_place middle (line middle end rows)) (head_cut end rows w.short_sells w.full_sells middle left ∙ ap (cut left) w.sells)
      in
      let e : coming rows middle end price left buy sell ≡ trades_at price book =
      ap₂ (pairs price) b c ∙ rw hl (unfold trades_at pairs in refl)
      in
      let bs : shares (waiting buy (line (buy.at + 1) middle rows)) ≡ shares (queue 0 book) =
      rw (hb, first_place 0 (line 0 middle rows)) (head_shares middle rows w.short_buys w.full_buys 0 ∙ ap shares w.buys)
      in
      let cs : shares (waiting sell (line (sell.at + 1) end rows)) ≡ shares (queue 1 book) =
      rw (hs, first_place middle (line middle end rows)) (head_shares end rows w.short_sells w.full_sells middle ∙ ap shares w.sells)
      in
      record {
        count = rw e (omega arith);
        same = ap (λ (ts : List Trade). sets lent 0 ts) e;
        buys = omega (arith, bs, hl, volume_buys book price);
        sells = omega (arith, cs, hl, volume_sells book price);
        buying = rw hb (placed_first middle rows w.short_buys w.full_buys 0);
        selling = rw hs (placed_first end rows w.short_sells w.full_sells middle);
        long = refl;
      }
    where
      first_place : (at : ℕ) (os : List Order) → (head_of at os).at ≡ at
      first_place at [] = unfold head_of in refl
      first_place at (o ∷ os) = unfold head_of in refl

  module _ {left : ℕ} {buy sell : Head} {made : ℕ} {out : List Trade} (k : Underway rows middle end price lent left buy sell made out) (some : 0 < left) where
    pub buy_ready : (0 < buy.left) × (buy.at < middle)
    buy_ready = head_ready middle rows w.short_buys w.full_buys left buy some k.buys k.buying

    pub sell_ready : (0 < sell.left) × (sell.at < end)
    sell_ready = head_ready end rows w.short_sells w.full_sells left sell some k.sells k.selling

    module _ {t : Trade} (step : t ≡ dealt price (share_of left buy) (share_of left sell)) where
      abbrev q : ℕ
      q = t.quantity

      quantity_is : q ≡ min (min left buy.left) (min left sell.left)
      quantity_is = ap (λ (u : Trade). u.quantity) step ∙ dealt_quantity price (share_of left buy) (share_of left sell)

      pub quantity_some : (0 < q) × (q ≤ left)
      quantity_some = omega (arith, buy_ready.0, sell_ready.0, quantity_is)

      quantity_within : (q ≤ buy.left) × (q ≤ sell.left)
      quantity_within = omega (arith, quantity_is)

      abbrev buy' : Head
      buy' = head_past q buy (line (buy.at + 1) middle rows)

      abbrev sell' : Head
      sell' = head_past q sell (line (sell.at + 1) end rows)

      -- the next trade, and those that come then
      one_turn : coming rows middle end price left buy sell ≡ t ∷ coming rows middle end price (left - q) buy' sell'
      one_turn =
          let b : Share = share_of left buy in
          let c : Share = share_of left sell in
          let bs = cut (left - buy.left) (line (buy.at + 1) middle rows) in
          let cs = cut (left - sell.left) (line (sell.at + 1) end rows) in
          ap₂ (pairs price) (waiting_cut middle rows w.short_buys w.full_buys left buy some buy_ready.0)
          (waiting_cut end rows w.short_sells w.full_sells left sell some sell_ready.0)
          ∙ turn price b c bs cs
          ∙ rw (← quantity_is)
          (ap₂ (λ u ts. u ∷ ts) (sym step)
          (ap₂ (pairs price)
          (past_cut middle rows w.short_buys w.full_buys q buy left some quantity_some.1 quantity_within.0)
          (past_cut end rows w.short_sells w.full_sells q sell left some quantity_some.1 quantity_within.1)))

      pub count_fits : made + 1 ≤ 4_096
      count_fits = omega (arith, ap length one_turn, k.count, fewer_than_live price book ranked.stands, length_keep is_live book, ranked.few)

      pub underway_next :
          {b c : Head} {out' : List Trade}
          → out' ≡ set out made t
          → b ≡ buy'
          → c ≡ sell'
          → Underway rows middle end price lent (left - q) b c (made + 1) out'
      underway_next {b} {c} {out'} ho hb hc =
          rw (ho, hb, hc)
          (record {
            count = omega (arith, ap length one_turn, k.count);
            same = rw (add-one made) (sym (ap (λ (ts : List Trade). sets out made ts) one_turn) ∙ k.same);
            buys = past_shares middle rows w.short_buys w.full_buys q buy left buy_ready.0 quantity_within.0 k.buys;
            sells = past_shares end rows w.short_sells w.full_sells q sell left sell_ready.0 quantity_within.1 k.sells;
            buying = placed_past middle rows w.short_buys w.full_buys q buy buy_ready.1;
            selling = placed_past end rows w.short_sells w.full_sells q sell sell_ready.1;
            long = length-set out made t ∙ k.long;
          })

  nothing_comes : (buy sell : Head) → coming rows middle end price 0 buy sell ≡ []
  nothing_comes buy sell =
      ap (λ l. pairs price l (cut 0 (waiting sell (line (sell.at + 1) end rows))))
      (cut_nothing (waiting buy (line (buy.at + 1) middle rows)))
      ∙ no_buys price (cut 0 (waiting sell (line (sell.at + 1) end rows)))

  pub underway_end :
      {left : ℕ} {buy sell : Head} {made : ℕ} {out : List Trade}
      → Underway rows middle end price lent left buy sell made out
      → left ≤ 0
      → (made ≡ length (trades_at price book)) × (out ≡ fitted (trades_at price book) lent)
  underway_end {left} {buy} {sell} {made} {out} k h =
      let z : left ≡ 0 = omega arith in
      let e : coming rows middle end price left buy sell ≡ [] = ap (λ n. coming rows middle end price n buy sell) z ∙ nothing_comes buy sell in (
        omega (arith, ap length e, k.count),
        sym (ap (λ (ts : List Trade). sets out made ts) e)
            ∙ k.same
            ∙ sets_fitted (trades_at price book) lent,
      )
