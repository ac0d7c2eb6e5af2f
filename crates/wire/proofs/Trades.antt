-- An order and a move of the clock on bytes: refused by a length with every byte as it was, or day, book and trades are those of the
-- outcome. Assumes nothing.
use Prim.Native.Nat.{ℕ, ◌/◌, ◌<◌}
use mathlib.Core.Path.{◌≡◌, refl, ◌∙◌}
use mathlib.Core.Logic.{⊎_elim}
use mathlib.Core.List.{List}
use lib.ListN.{length}
use borrow.Author.Tests.{eq-eqb, ne_eqb}
use Rattle.model.specs.declared.Trade.{Trade}
use Rattle.model.specs.declared.Day.{Day}
use Rattle.model.specs.Refusals.{◌when◌, first_of}
use Rattle.model.specs.Calls.{Outcome, order_rules, order_call}
use Rattle.model.specs.ClockCall.{clock_rules, clock_call}
use Rattle.records.specs.Layout.{AllBytes, day_in, day_bytes, book_in, book_bytes, trades_in, trades_bytes, over}
use Rattle.records.proofs.Back.{day_kept, book_kept, trades_kept}
use Rattle.byte_trades.specs.declared.TradeAsked as TradeAsked
use Rattle.byte_trades.specs.declared.TradeReply.{TradeReply}
use Rattle.byte_trades.specs.declared.TradeAnswer.{TradeAnswer}
use Rattle.byte_trades.specs.Trading.{trade_refusal, trade_call, trade_on, Traded}
use Rattle.wire.specs.Exports.{TradeLeft, trade_left, trade_leaves, order_leaves, clock_leaves}
use Rattle.wire.specs.Pairs.{trade_numbers, either_leaves}
use Rattle.wire.proofs.Refused.{Unread, too_many_unsound, Answered}

-- a book of too many places
too_many_trade :
    (d : Day) (asked : TradeAsked.TradeAsked) (book : List ℕ) (lent : List Trade)
    → 4096 < length book / 40
    → trade_call d asked (book_in book) lent
    ≡ record { answer = record { reply = trade_refusal asked 15; made = 0; day = d }; book = book_in book; trades = lent }
unfolding trade_call trade_refusal order_call order_rules clock_call clock_rules first_of ◌when◌
too_many_trade d (TradeAsked.TheVariants.Order a) book lent m = rw (too_many_unsound d book m)
too_many_trade d (TradeAsked.TheVariants.Clock t) book lent m = rw (too_many_unsound d book m)

module _ (day book trades reply : List ℕ) (asked : TradeAsked.TradeAsked) where
  abbrev refusal : List ℕ
  refusal = trade_numbers (trade_refusal asked 15)

  abbrev leaves : Outcome TradeAnswer → TradeLeft
  leaves o = trade_leaves refusal (trade_numbers o.answer.reply) o.answer.day o day book trades reply

  module _ {told : TradeReply} {r : ℕ} {reply' : List ℕ} (n : Answered (trade_numbers told) reply r reply') where
    -- nothing but the reply is written
    unread :
        Unread day book
        → told ≡ trade_refusal asked 15
        → AllBytes day
        → AllBytes book
        → AllBytes trades
        → trade_left r day book trades reply' ≡ leaves (trade_on day book trades asked)
    unfolding trade_leaves
    unread u t sd sb st =
        let a : Answered refusal reply r reply' = rw t at n in
        ⊎_elim (λ h. rw (ne_eqb (length day) 352 h) (cc (a.0, a.1)))
        (λ h.
        let d : over (day_bytes (day_in day)) day ≡ day = day_kept day h.0 sd in
        let b : over (book_bytes (book_in book)) book ≡ book = book_kept book sb in
        let l : over (trades_bytes (trades_in trades)) trades ≡ trades = trades_kept trades st in
        rw (eq-eqb (length day) 352 h.0, too_many_trade (day_in day) asked book (trades_in trades) h.1) (cc (a.0, a.1)))
        u

  left_by_lem :
      {answer : TradeAnswer} {day' left trades' reply' : List ℕ} {r : ℕ} (o : Outcome TradeAnswer)
      → length day ≡ 352
      → Traded o book trades answer left trades'
      → day' ≡ over (day_bytes answer.day) day
      → Answered (trade_numbers answer.reply) reply r reply'
      → trade_left r day' left trades' reply' ≡ leaves o
  unfolding trade_leaves
  left_by_lem {answer} {day'} {left} {trades'} {reply'} {r} o h s y a =
      let t : answer ≡ o.answer = s.told in
      let p : left ≡ over (book_bytes o.book) book = s.places in
      let l : trades' ≡ over (trades_bytes o.trades) trades = s.written in
      let n : Answered (trade_numbers o.answer.reply) reply r reply' = rw t at a in
      let z : day' ≡ over (day_bytes o.answer.day) day = rw t at y in
      rw (eq-eqb (length day) 352 h) (cc (n.0, n.1))

-- either call, by the definition of both
either :
    (day book trades reply : List ℕ) (asked : TradeAsked.TradeAsked)
    → leaves day book trades reply asked (trade_on day book trades asked) ≡ either_leaves asked day book trades reply
unfolding either_leaves order_leaves clock_leaves trade_leaves trade_call trade_refusal trade_numbers
either day book trades reply (TradeAsked.TheVariants.Order a) = refl
either day book trades reply (TradeAsked.TheVariants.Clock t) = refl

module _ (day book trades reply : List ℕ) (asked : TradeAsked.TradeAsked) {r : ℕ} {reply' : List ℕ} where
  pub trade_unread :
      {told : TradeReply}
      → Unread day book
      → told ≡ trade_refusal asked 15
      → Answered (trade_numbers told) reply r reply'
      → AllBytes day
      → AllBytes book
      → AllBytes trades
      → trade_left r day book trades reply' ≡ either_leaves asked day book trades reply
  trade_unread u t n sd sb st = unread day book trades reply asked n u t sd sb st ∙ either day book trades reply asked

  pub trade_answered :
      {answer : TradeAnswer} {day' left trades' : List ℕ}
      → length day ≡ 352
      → Traded (trade_on day book trades asked) book trades answer left trades'
      → day' ≡ over (day_bytes answer.day) day
      → Answered (trade_numbers answer.reply) reply r reply'
      → trade_left r day' left trades' reply' ≡ either_leaves asked day book trades reply
  trade_answered h s y n =
      left_by_lem day book trades reply asked (trade_on day book trades asked) h s y n ∙ either day book trades reply asked
