-- A call that trades, on the rows of a book's bytes and in a list as long as the book: what it comes to on the bytes of the book
-- and of the lent list. Assumes nothing.
use Prim.Native.Nat.{ℕ, zero, suc, ◌/◌, ◌≤◌, ◌<◌}
use mathlib.Core.Path.{◌≡◌, refl, sym, ap, ◌∙◌}
use mathlib.Core.List.{List, [], ◌∷◌}
use native.Mathlib.Omega.{arith}
use lib.ListN.{length, take, drop, length-map}
use lib.Seq.{take_at}
use Rattle.model.specs.declared.Order.{Order}
use Rattle.model.specs.declared.Trade.{Trade}
use Rattle.model.specs.declared.Day.{Day}
use Rattle.model.specs.Calls.{Outcome, written}
use Rattle.book.specs.Promises.{call_left}
use Rattle.records.specs.Layout.{AllBytes, day_in, book_in, book_bytes, trades_in, trades_bytes, over}
use Rattle.records.proofs.Back.{length_book_in, length_trades_in, trades_front, trades_kept, book_kept}
use Rattle.byte_trades.specs.declared.TradeAsked.{TradeAsked}
use Rattle.byte_trades.specs.declared.TradeReply.{TradeReply}
use Rattle.byte_trades.specs.declared.TradeAnswer.{TradeAnswer}
use Rattle.byte_trades.specs.Trading.{trade_refusal, trade_call, trade_on, Traded}
use Rattle.byte_trades.proofs.Rooms.{Alike, trade_roomy}

module _ (day book trades : List ℕ) (asked : TradeAsked) (rows : List Order) (list : List Trade) (rows' : List Order) (list' : List Trade) {d : Day} {r : TradeAnswer}
    (b : rows ≡ book_in book)
    (e : d ≡ day_in day)
    (k : length list ≡ length book / 40)
    (p : call_left r rows' list' ≡ trade_call d asked rows list) where
  -- it was made in a list as long as the book
  abbrev there : Outcome TradeAnswer
  there = trade_call (day_in day) asked (book_in book) list

  abbrev here : Outcome TradeAnswer
  here = trade_on day book trades asked

  was : call_left r rows' list' ≡ there
  was = p ∙ rw (e, b)

  count : r.made ≡ there.answer.made
  count = ap (λ (o : Outcome TradeAnswer). o.answer.made) was

  long : length list ≡ length (book_in book)
  long = rw length_book_in k

  pub rows_made : r.made ≤ length list
  rows_made =
      omega (arith, count, (trade_roomy asked).few (day_in day) (book_in book) list long)

  -- the lent one has room for its trades
  module _ {left trades' : List ℕ}
      (h : r.made ≤ length trades / 48)
      (w : left ≡ over (book_bytes rows') book)
      (v : trades' ≡ over (trades_bytes (take r.made list')) trades)
      (s : AllBytes trades) where
    same_traded : Alike (λ (x : TradeAnswer). x.made) list (trades_in trades) there here → Traded here book trades r left trades'
    unfolding written
    same_traded a =
        let new : List Trade = a.new in
        let c : r.made ≡ length new = count ∙ a.count in
        let l : list' ≡ written new list = ap (λ (o : Outcome TradeAnswer). o.trades) was ∙ a.there in
        let n : (take r.made list') ≡ new =
        rw (c, l) (take_at new (drop (length new) list) (length new) refl) in
        record {
          told = ap (λ (o : Outcome TradeAnswer). o.answer) was ∙ a.answer;
          places =
              w
              ∙ ap (λ (os : List Order). over (book_bytes os) book) (ap (λ (o : Outcome TradeAnswer). o.book) was ∙ a.book);
          written =
              v
              ∙ ap (λ (ts : List Trade). over (trades_bytes ts) trades) n
              ∙ sym (trades_front new trades s (omega arith))
              ∙ ap (λ (ts : List Trade). over (trades_bytes ts) trades) (sym a.here);
        }

    pub rows_traded : Traded here book trades r left trades'
    rows_traded =
        same_traded
        ((trade_roomy asked).same (day_in day) (book_in book) list (trades_in trades) long
        (omega (arith, count, length_trades_in trades)))

  -- it has not, and every byte stays
  pub rows_short :
      {told : TradeReply}
      → length trades / 48 < r.made
      → told ≡ trade_refusal asked 13
      → AllBytes book
      → AllBytes trades
      → Traded here book trades (record { reply = told; made = 0; day = d }) book trades
  rows_short h t sb st =
      rw (
        (trade_roomy asked).short (day_in day) (book_in book) list (trades_in trades) long
            (omega (arith, count, length_trades_in trades)),
        e,
        t,
      )
      (record { told = refl; places = sym (book_kept book sb); written = sym (trades_kept trades st) })
