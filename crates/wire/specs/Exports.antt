-- What each call leaves in memory, as bytes: the number that it returns, and every slice that it may write. A day of another
-- length than 352 bytes is refused before anything else.
use Rattle.std.specs.Prelude.{ℕ, Bool, List, length, eqb, if◌then◌else◌}
use Rattle.model.specs.declared.Asked.{Asked}
use Rattle.model.specs.declared.Day.{Day}
use Rattle.model.specs.declared.OrderReply as OrderReply
use Rattle.model.specs.declared.OrderAnswer.{OrderAnswer}
use Rattle.model.specs.declared.ClockReply as ClockReply
use Rattle.model.specs.declared.ClockAnswer.{ClockAnswer}
use Rattle.model.specs.declared.OpenReply as OpenReply
use Rattle.model.specs.declared.CancelReply as CancelReply
use Rattle.model.specs.declared.ReportReply as ReportReply
use Rattle.model.specs.declared.ListReply as ListReply
use Rattle.model.specs.Calls.{Outcome, order_call, OpenOutcome, open_call, CancelOutcome, cancel_call}
use Rattle.model.specs.ClockCall.{clock_call}
use Rattle.model.specs.AuctionCalls.{report_call, ListOutcome, list_call}
use Rattle.model.specs.Replies.{open_numbers, order_numbers, cancel_numbers, clock_numbers, list_numbers}
use Rattle.records.specs.Layout.{bytes, day_in, day_bytes, book_in, book_bytes, trades_in, trades_bytes, prices_in, over, returned, replied}
use Rattle.replies.specs.Words.{report_words}

abbrev pub has_day : List ℕ → Bool
has_day day = eqb (length day) 352

-- what a call that changes a book and makes no trade leaves
pub record BookLeft : Type 0 where
  pub returns : ℕ
  pub day : List ℕ
  pub book : List ℕ
  pub reply : List ℕ

abbrev pub book_left : ℕ → List ℕ → List ℕ → List ℕ → BookLeft
book_left r day book reply = record { returns = r; day = day; book = book; reply = reply }

-- ---- an opening

unfoldable pub open_on : ℕ → ℕ → List ℕ → List ℕ → OpenOutcome
open_on close mark day book =
    if has_day day
    then open_call close mark (book_in book)
    else record { reply = OpenReply.TheVariants.Refused 14; book = book_in book }

-- the day as it is opened, or as it was
unfoldable pub day_left : OpenReply.OpenReply → List ℕ → List ℕ
day_left (OpenReply.TheVariants.Refused n) day = day
day_left (OpenReply.TheVariants.Opened d) day = over (day_bytes d) day

unfoldable pub open_leaves : OpenOutcome → List ℕ → List ℕ → List ℕ → BookLeft
open_leaves o day book reply =
    book_left (returned (open_numbers o.reply)) (day_left o.reply day) (over (book_bytes o.book) book)
    (replied (open_numbers o.reply) reply)

-- ---- an order, and a move of the clock

pub record TradeLeft : Type 0 where
  pub returns : ℕ
  pub day : List ℕ
  pub book : List ℕ
  pub trades : List ℕ
  pub reply : List ℕ

abbrev pub trade_left : ℕ → List ℕ → List ℕ → List ℕ → List ℕ → TradeLeft
trade_left r day book trades reply =
    record { returns = r; day = day; book = book; trades = trades; reply = reply }

-- the numbers of the reply, the day, and an outcome's book and trades; without a day nothing but the numbers of that refusal
unfoldable pub trade_leaves : {A : Type 0} → List ℕ → List ℕ → Day → Outcome A → List ℕ → List ℕ → List ℕ → List ℕ → TradeLeft
trade_leaves without ns d o day book trades reply =
    if has_day day
    then
    trade_left (returned ns) (over (day_bytes d) day) (over (book_bytes o.book) book)
    (over (trades_bytes o.trades) trades)
    (replied ns reply)
    else trade_left (returned without) day book trades (replied without reply)

unfoldable pub order_leaves : Asked → List ℕ → List ℕ → List ℕ → List ℕ → TradeLeft
order_leaves a day book trades reply =
    let o : Outcome OrderAnswer = order_call (day_in day) a (book_in book) (trades_in trades) in
    trade_leaves (order_numbers (OrderReply.TheVariants.Refused 15)) (order_numbers o.answer.reply) o.answer.day o day book trades reply

unfoldable pub clock_leaves : ℕ → List ℕ → List ℕ → List ℕ → List ℕ → TradeLeft
clock_leaves time day book trades reply =
    let o : Outcome ClockAnswer = clock_call (day_in day) time (book_in book) (trades_in trades) in
    trade_leaves (clock_numbers (ClockReply.TheVariants.Refused 15)) (clock_numbers o.answer.reply) o.answer.day o day book trades reply

-- ---- a cancel

-- the numbers of its reply, the day, and an outcome's book; without a day nothing but the numbers of that refusal
unfoldable pub cancel_leaves : ℕ → ℕ → List ℕ → List ℕ → List ℕ → BookLeft
cancel_leaves account number day book reply =
    let o : CancelOutcome = cancel_call (day_in day) account number (book_in book) in
    let ns : List ℕ = cancel_numbers o.answer.reply in
    let without : List ℕ = cancel_numbers (CancelReply.TheVariants.Refused 15) in
    if has_day day
    then book_left (returned ns) (over (day_bytes o.answer.day) day) (over (book_bytes o.book) book) (replied ns reply)
    else book_left (returned without) day book (replied without reply)

-- ---- the auction report: it leaves a reply and nothing else

unfoldable pub report_on : List ℕ → List ℕ → ReportReply.ReportReply
report_on day book =
    if has_day day then report_call (day_in day) (book_in book) else ReportReply.TheVariants.Refused 15

pub record ReportLeft : Type 0 where
  pub returns : ℕ
  pub reply : List ℕ

abbrev pub report_left : ℕ → List ℕ → ReportLeft
report_left r reply = record { returns = r; reply = reply }

unfoldable pub report_leaves : ReportReply.ReportReply → List ℕ → ReportLeft
report_leaves r reply = record { returns = returned (report_words r); reply = replied (report_words r) reply }

-- ---- the price list

unfoldable pub list_on : List ℕ → ℕ → List ℕ → List ℕ → ListOutcome
list_on day asked book prices =
    if has_day day
    then list_call (day_in day) asked (book_in book) (prices_in prices)
    else record { reply = ListReply.TheVariants.Refused 15; prices = prices_in prices }

pub record ListLeft : Type 0 where
  pub returns : ℕ
  pub prices : List ℕ
  pub reply : List ℕ

abbrev pub list_left : ℕ → List ℕ → List ℕ → ListLeft
list_left r prices reply = record { returns = r; prices = prices; reply = reply }

unfoldable pub list_leaves : ListOutcome → List ℕ → List ℕ → ListLeft
list_leaves o prices reply =
    record {
      returns = returned (list_numbers o.reply);
      prices = over (bytes o.prices) prices;
      reply = replied (list_numbers o.reply) reply;
    }
