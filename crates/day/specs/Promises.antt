-- What each of the calls on rows promises: of the day, the rows and the list that it is lent and of what is asked, its reply and the
-- rows and the list that it leaves are those of the definitions' call.
use Rattle.std.specs.Prelude.{ℕ, ◌≡◌, List}
use Rattle.model.specs.declared.Asked.{Asked}
use Rattle.model.specs.declared.Day.{Day}
use Rattle.model.specs.declared.OpenReply.{OpenReply}
use Rattle.model.specs.declared.ClockAnswer.{ClockAnswer}
use Rattle.model.specs.declared.OrderAnswer.{OrderAnswer}
use Rattle.model.specs.declared.CancelAnswer.{CancelAnswer}
use Rattle.model.specs.declared.MoveAnswer.{MoveAnswer}
use Rattle.model.specs.declared.ReportReply.{ReportReply}
use Rattle.model.specs.declared.ListReply.{ListReply}
use Rattle.model.specs.Calls.{open_call, order_call, cancel_call}
use Rattle.model.specs.ClockCall.{clock_call}
use Rattle.model.specs.AllCalls.{open_all_call, clock_all_call}
use Rattle.model.specs.AuctionCalls.{report_call, list_call}
use Rattle.book.specs.Books.{books_of}
use Rattle.book.specs.Promises.{open_left, call_left, cancel_left, open_all_left, clock_all_left, list_left}
use Rattle.model.specs.declared.Order.{Order}
use Rattle.model.specs.declared.Trade.{Trade}
use Rattle.model.specs.declared.Declaration.{Declaration}

abbrev pub OpenPromise : List Order → ℕ → ℕ → OpenReply → List Order → Type 0
OpenPromise rows close mark reply rows' = open_left reply rows' ≡ open_call close mark rows

abbrev pub ClockPromise : Day → List Order → List Trade → ℕ → ClockAnswer → List Order → List Trade → Type 0
ClockPromise d rows trades time answer rows' trades' =
    call_left answer rows' trades' ≡ clock_call d time rows trades

abbrev pub OrderPromise : Day → List Order → List Trade → Asked → OrderAnswer → List Order → List Trade → Type 0
OrderPromise d rows trades a answer rows' trades' =
    call_left answer rows' trades' ≡ order_call d a rows trades

abbrev pub CancelPromise : Day → List Order → ℕ → ℕ → CancelAnswer → List Order → Type 0
CancelPromise d rows account number answer rows' = cancel_left answer rows' ≡ cancel_call d account number rows

-- over all lists: the main book, the fixed-price book and the declarations
abbrev pub OpenAllPromise : List Order → List Order → List Declaration → ℕ → ℕ → OpenReply → List Order → List Order → List Declaration → Type 0
OpenAllPromise main fixed blocks close mark reply main' fixed' blocks' =
    open_all_left reply main' fixed' blocks' ≡ open_all_call close mark (books_of main fixed blocks)

abbrev pub ClockAllPromise : Day → List Order → List Order → List Declaration → List Trade → ℕ → MoveAnswer → List Order → List Order → List Declaration → List Trade → Type 0
ClockAllPromise d main fixed blocks trades time answer main' fixed' blocks' trades' =
    clock_all_left answer main' fixed' blocks' trades' ≡ clock_all_call d time (books_of main fixed blocks) trades

-- it can change nothing
abbrev pub ReportPromise : Day → List Order → ReportReply → Type 0
ReportPromise d rows reply = reply ≡ report_call d rows

-- it can change the price list alone
abbrev pub ListPromise : Day → List Order → List ℕ → ℕ → ListReply → List ℕ → Type 0
ListPromise d rows prices asked reply prices' = list_left reply prices' ≡ list_call d asked rows prices
