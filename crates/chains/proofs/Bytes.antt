-- The calls from C keep step with the definitions: what an event stores is read back by the next call. Assumes nothing.
use Prim.Native.Nat.{ℕ, ◌-◌}
use mathlib.Core.Path.{◌≡◌, refl, sym, ap, ◌∙◌}
use mathlib.Core.Bool.{true}
use mathlib.Core.List.{List}
use native.Mathlib.Omega.{arith}
use lib.ListN.{length, length-append, length-drop}
use borrow.Author.Tests.{eqb-true}
use Rattle.model.specs.declared.Asked.{Asked}
use Rattle.model.specs.declared.Day.{Day}
use Rattle.model.specs.declared.OrderAnswer.{OrderAnswer}
use Rattle.model.specs.declared.ClockAnswer.{ClockAnswer}
use Rattle.model.specs.Calls.{Outcome, CancelOutcome, order_call, cancel_call}
use Rattle.model.specs.ClockCall.{clock_call}
use Rattle.model.specs.AuctionCalls.{report_call, ListOutcome, list_call}
use Rattle.model.specs.Replies.{order_numbers, cancel_numbers, clock_numbers}
use Rattle.model.specs.Session.{Desk}
use Rattle.model.specs.Words.{Each, Sound}
use Rattle.demands.specs.Running.{moves_to, enters, cancels, stepped_by}
use Rattle.demands.specs.Histories.{present, event_seen, seen, event_desk, stepped, trades_then, prices_then}
use Rattle.demands.specs.Chains.{KeepsStep}
use Rattle.demands.proofs.Demands.{keeping}
use Rattle.demands.proofs.Orderings.{order_places, cancel_places, clock_places}
use Rattle.records.specs.Layout.{Word, bytes, day_in, day_bytes, book_in, book_bytes, trades_in, trades_bytes, prices_in, over, returned, replied}
use Rattle.records.proofs.Sizes.{length_day}
use Rattle.wire.specs.Exports.{has_day, BookLeft, book_left, TradeLeft, trade_left, trade_leaves, order_leaves, clock_leaves, cancel_leaves, report_on, ReportLeft, report_leaves, list_on, ListLeft, list_leaves}
use Rattle.chains.specs.Bytes.{Memory, Asks, Clock, Order as OrderOf, Cancel, Report, Prices, Gives, Promise, call, numbers_in, Shows, desk_in, door}
use Rattle.chains.proofs.Ranges.{WordRange, range_in, order_range, cancel_range, clock_range}
use Rattle.chains.proofs.Fitting.{WordAccount, accounts_in, event_accounts, both, desk_read}

-- memory that has room for a day
abbrev pub HasDay : Memory → Type 0
HasDay m = has_day m.day.bytes ≡ true

-- ---- what each promise is where there is room for a day

module _ (day book trades reply : List ℕ) (h : has_day day ≡ true) where
  abbrev clocked : ℕ → Outcome ClockAnswer
  clocked t = clock_call (day_in day) t (book_in book) (trades_in trades)

  pub clock_left :
      (t : ℕ)
      → clock_leaves t day book trades reply
      ≡ trade_left (returned (clock_numbers (clocked t).answer.reply)) (over (day_bytes (clocked t).answer.day) day)
      (over (book_bytes (clocked t).book) book)
      (over (trades_bytes (clocked t).trades) trades)
      (replied (clock_numbers (clocked t).answer.reply) reply)
  unfolding clock_leaves trade_leaves
  clock_left t = rw h refl

  abbrev entered : Asked → Outcome OrderAnswer
  entered a = order_call (day_in day) a (book_in book) (trades_in trades)

  pub order_left :
      (a : Asked)
      → order_leaves a day book trades reply
      ≡ trade_left (returned (order_numbers (entered a).answer.reply)) (over (day_bytes (entered a).answer.day) day)
      (over (book_bytes (entered a).book) book)
      (over (trades_bytes (entered a).trades) trades)
      (replied (order_numbers (entered a).answer.reply) reply)
  unfolding order_leaves trade_leaves
  order_left a = rw h refl

module _ (day book reply : List ℕ) (h : has_day day ≡ true) where
  abbrev withdrawn : ℕ → ℕ → CancelOutcome
  withdrawn account number = cancel_call (day_in day) account number (book_in book)

  cancel_left_lem :
      (account number : ℕ)
      → cancel_leaves account number day book reply
      ≡ book_left (returned (cancel_numbers (withdrawn account number).answer.reply))
      (over (day_bytes (withdrawn account number).answer.day) day)
      (over (book_bytes (withdrawn account number).book) book)
      (replied (cancel_numbers (withdrawn account number).answer.reply) reply)
  unfolding cancel_leaves
  cancel_left_lem account number = rw h refl

module _ (day book : List ℕ) (h : has_day day ≡ true) where
  report_on_lem : report_on day book ≡ report_call (day_in day) (book_in book)
  unfolding report_on
  report_on_lem = rw h refl

  pub list_on_lem : (asked : ℕ) (prices : List ℕ) → list_on day asked book prices ≡ list_call (day_in day) asked (book_in book) (prices_in prices)
  unfolding list_on
  list_on_lem asked prices = rw h refl

-- ---- what is shown

pub shows :
    (a : Asks) (m : Memory) (g : Gives a) (n : Memory) → HasDay m → Promise a m g n → Shows a (seen present (call a) (desk_in m)) g
unfolding seen event_seen present moves_to enters cancels numbers_in trades_then prices_then report_leaves list_leaves
shows (Clock t trades reply) m g n h p =
    let e = p ∙ clock_left m.day.bytes m.book.bytes trades.bytes reply.bytes h t in (
      record { returns = ap (λ (x : TradeLeft). x.returns) e; buffer = ap (λ (x : TradeLeft). x.reply) e },
      ap (λ (x : TradeLeft). x.trades) e,
    )
shows (OrderOf a w trades reply) m g n h p =
    let e = p ∙ order_left m.day.bytes m.book.bytes trades.bytes reply.bytes h a in (
      record { returns = ap (λ (x : TradeLeft). x.returns) e; buffer = ap (λ (x : TradeLeft). x.reply) e },
      ap (λ (x : TradeLeft). x.trades) e,
    )
shows (Cancel account number reply) m g n h p =
    let e = p ∙ cancel_left_lem m.day.bytes m.book.bytes reply.bytes h account number in
    record { returns = ap (λ (x : BookLeft). x.returns) e; buffer = ap (λ (x : BookLeft). x.reply) e }
shows (Report reply) m g n h (p, d, b) =
    let e = p ∙ ap (λ o. report_leaves o reply.bytes) (report_on_lem m.day.bytes m.book.bytes h) in
    record { returns = ap (λ (x : ReportLeft). x.returns) e; buffer = ap (λ (x : ReportLeft). x.reply) e }
shows (Prices asked prices reply) m g n h (p, d, b) =
    let e = p ∙ ap (λ (o : ListOutcome). list_leaves o prices.bytes reply.bytes) (list_on_lem m.day.bytes m.book.bytes h asked prices.bytes) in (
      record { returns = ap (λ (x : ListLeft). x.returns) e; buffer = ap (λ (x : ListLeft). x.reply) e },
      ap (λ (x : ListLeft). x.prices) e,
    )

-- ---- what is left

module _ (m : Memory) (s : Sound (desk_in m).day (desk_in m).book) where
  abbrev here : Desk
  here = desk_in m

  accounts : Each WordAccount here.book
  accounts = accounts_in m.book.bytes m.book.are

  range : WordRange here.day
  range = range_in m.day.bytes m.day.are

  clock_desk :
      (t : ℕ) (trades : List ℕ)
      → let o : Outcome ClockAnswer = clock_call here.day t here.book (trades_in trades) in
      both (day_in (over (day_bytes o.answer.day) m.day.bytes)) (book_in (over (book_bytes o.book) m.book.bytes))
      ≡ both o.answer.day o.book
  unfolding moves_to stepped_by
  clock_desk t trades =
      let c = moves_to t (trades_in trades) in
      let k = keeping.clock_kept here.day t here.book (trades_in trades) s in
      desk_read _ _ k (clock_range here.day t here.book (trades_in trades) s range) m.day.bytes m.book.bytes
      (event_accounts c.event c.within c.lent here tt accounts k)
      (clock_places here.day t here.book (trades_in trades))

  order_desk :
      (a : Asked) (trades : List ℕ)
      → Word a.account
      → let o : Outcome OrderAnswer = order_call here.day a here.book (trades_in trades) in
      both (day_in (over (day_bytes o.answer.day) m.day.bytes)) (book_in (over (book_bytes o.book) m.book.bytes))
      ≡ both o.answer.day o.book
  unfolding enters stepped_by
  order_desk a trades w =
      let c = enters a (trades_in trades) in
      let k = keeping.order_kept here.day a here.book (trades_in trades) s in
      desk_read _ _ k (order_range here.day a here.book (trades_in trades) s range) m.day.bytes m.book.bytes
      (event_accounts c.event c.within c.lent here w accounts k)
      (order_places here.day a here.book (trades_in trades))

  cancel_desk :
      (account number : ℕ)
      → let o : CancelOutcome = cancel_call here.day account number here.book in
      both (day_in (over (day_bytes o.answer.day) m.day.bytes)) (book_in (over (book_bytes o.book) m.book.bytes))
      ≡ both o.answer.day o.book
  unfolding cancels stepped_by
  cancel_desk account number =
      let c = cancels account number in
      let k = keeping.cancel_kept here.day account number here.book s in
      desk_read _ _ k (cancel_range here.day account number here.book range) m.day.bytes m.book.bytes
      (event_accounts c.event c.within c.lent here tt accounts k)
      (cancel_places here.day account number here.book)

pub leaves :
    (a : Asks) (m : Memory) (g : Gives a) (n : Memory)
    → HasDay m
    → Sound (desk_in m).day (desk_in m).book
    → Promise a m g n
    → desk_in n ≡ stepped present (call a) (desk_in m)
unfolding stepped event_desk present moves_to enters cancels
leaves (Clock t trades reply) m g n h s p =
    let e = p ∙ clock_left m.day.bytes m.book.bytes trades.bytes reply.bytes h t in
    ap (λ (x : TradeLeft). both (day_in x.day) (book_in x.book)) e ∙ clock_desk m s t trades.bytes
leaves (OrderOf a w trades reply) m g n h s p =
    let e = p ∙ order_left m.day.bytes m.book.bytes trades.bytes reply.bytes h a in
    ap (λ (x : TradeLeft). both (day_in x.day) (book_in x.book)) e ∙ order_desk m s a trades.bytes w
leaves (Cancel account number reply) m g n h s p =
    let e = p ∙ cancel_left_lem m.day.bytes m.book.bytes reply.bytes h account number in
    ap (λ (x : BookLeft). both (day_in x.day) (book_in x.book)) e ∙ cancel_desk m s account number
leaves (Report reply) m g n h s (p, d, b) =
    ap (λ (x : List ℕ). both (day_in x) (book_in n.book.bytes)) d
    ∙ ap (λ (x : List ℕ). both (day_in m.day.bytes) (book_in x)) b
leaves (Prices asked prices reply) m g n h s (p, d, b) =
    ap (λ (x : List ℕ). both (day_in x) (book_in n.book.bytes)) d
    ∙ ap (λ (x : List ℕ). both (day_in m.day.bytes) (book_in x)) b

-- ---- there is room for a day again

pub day_room : (d : Day) (day : List ℕ) → has_day day ≡ true → has_day (over (day_bytes d) day) ≡ true
unfolding over
day_room d day h =
    let l : length (day_bytes d) ≡ length day = length_day d ∙ sym (eqb-true (length day) _ h) in
    let k : length (over (day_bytes d) day) ≡ length day = simp (length-append, length-drop) (omega (arith, l)) in
    rw k h

holds : (a : Asks) (m : Memory) (g : Gives a) (n : Memory) → HasDay m → Promise a m g n → HasDay n
holds (Clock t trades reply) m g n h p =
    let e = p ∙ clock_left m.day.bytes m.book.bytes trades.bytes reply.bytes h t in
    rw (ap (λ (x : TradeLeft). x.day) e) (day_room _ m.day.bytes h)
holds (OrderOf a w trades reply) m g n h p =
    let e = p ∙ order_left m.day.bytes m.book.bytes trades.bytes reply.bytes h a in
    rw (ap (λ (x : TradeLeft). x.day) e) (day_room _ m.day.bytes h)
holds (Cancel account number reply) m g n h p =
    let e = p ∙ cancel_left_lem m.day.bytes m.book.bytes reply.bytes h account number in
    rw (ap (λ (x : BookLeft). x.day) e) (day_room _ m.day.bytes h)
holds (Report reply) m g n h (p, d, b) = rw d h
holds (Prices asked prices reply) m g n h (p, d, b) = rw d h

pub keeps_step : KeepsStep door HasDay
keeps_step =
    record {
      shows = λ a m g n h s p. shows a m g n h p;
      leaves = leaves;
      holds = λ a m g n h s p. holds a m g n h p;
    }
