-- What a call left behind, as an outcome of the definitions. Each call promises that this outcome is the definitions' one.
use Rattle.std.specs.Prelude.{ℕ, List}
use Rattle.model.specs.declared.Order.{Order}
use Rattle.model.specs.declared.Declaration.{Declaration}
use Rattle.model.specs.declared.Trade.{Trade}
use Rattle.model.specs.declared.Day.{Day}
use Rattle.model.specs.declared.OpenReply as OpenReply
use Rattle.model.specs.declared.OrderReply as OrderReply
use Rattle.model.specs.declared.OrderAnswer.{OrderAnswer}
use Rattle.model.specs.declared.ClockReply as ClockReply
use Rattle.model.specs.declared.ClockAnswer.{ClockAnswer}
use Rattle.model.specs.declared.CancelReply as CancelReply
use Rattle.model.specs.declared.CancelAnswer.{CancelAnswer}
use Rattle.model.specs.declared.BlockReply as BlockReply
use Rattle.model.specs.declared.BlockAnswer.{BlockAnswer}
use Rattle.model.specs.declared.MoveReply as MoveReply
use Rattle.model.specs.declared.MoveAnswer.{MoveAnswer}
use Rattle.model.specs.declared.ListReply as ListReply
use Rattle.model.specs.Calls.{Outcome, OpenOutcome, CancelOutcome}
use Rattle.model.specs.FixedCalls.{FixedCancelOutcome}
use Rattle.model.specs.BlockCalls.{BlockOutcome}
use Rattle.model.specs.AllCalls.{OpenAllOutcome, ClockAllOutcome}
use Rattle.model.specs.AuctionCalls.{ListOutcome}
use Rattle.book.specs.Books.{books_of}

-- an opening: its reply, and the rows of the book
abbrev pub open_left : OpenReply.OpenReply → List Order → OpenOutcome
open_left reply rows = record { reply = reply; book = rows }

-- an order or a move of the clock: what it handed back, the rows of the book, and those of the trade list
abbrev pub call_left : {A : Type 0} → A → List Order → List Trade → Outcome A
call_left answer rows trades = record { answer = answer; book = rows; trades = trades }

-- such a call, refused: no trade is made, and the day stays
abbrev pub order_refused : Day → ℕ → OrderAnswer
order_refused d n = record { reply = OrderReply.TheVariants.Refused n; made = 0; day = d }

abbrev pub clock_refused : Day → ℕ → ClockAnswer
clock_refused d n = record { reply = ClockReply.TheVariants.Refused n; made = 0; day = d }

-- a cancel: what it handed back, and the rows of the book
abbrev pub cancel_left : CancelAnswer → List Order → CancelOutcome
cancel_left answer rows = record { answer = answer; book = rows }

abbrev pub cancel_refused : Day → ℕ → CancelAnswer
cancel_refused d n = record { reply = CancelReply.TheVariants.Refused n; day = d }

-- a fixed-price cancel leaves the day: its reply, and the rows of its book
abbrev pub fixed_cancel_left : CancelReply.CancelReply → List Order → FixedCancelOutcome
fixed_cancel_left reply rows = record { reply = reply; book = rows }

-- a declaration: what it handed back, the rows of the declarations, and those of the trade list
abbrev pub block_left : BlockAnswer → List Declaration → List Trade → BlockOutcome
block_left answer rows trades = record { answer = answer; held = rows; trades = trades }

abbrev pub block_refused : Day → ℕ → BlockAnswer
block_refused d n = record { reply = BlockReply.TheVariants.Refused n; made = 0; day = d }

-- an opening and a move of the clock over all lists
abbrev pub open_all_left : OpenReply.OpenReply → List Order → List Order → List Declaration → OpenAllOutcome
open_all_left reply main fixed blocks = record { reply = reply; books = books_of main fixed blocks }

abbrev pub clock_all_left : MoveAnswer → List Order → List Order → List Declaration → List Trade → ClockAllOutcome
clock_all_left answer main fixed blocks trades =
    record { answer = answer; books = books_of main fixed blocks; trades = trades }

abbrev pub move_refused : Day → ℕ → MoveAnswer
move_refused d n = record { reply = MoveReply.TheVariants.Refused n; made = 0; day = d }

-- a price list: its reply, and the lent list
abbrev pub list_left : ListReply.ListReply → List ℕ → ListOutcome
list_left reply prices = record { reply = reply; prices = prices }
