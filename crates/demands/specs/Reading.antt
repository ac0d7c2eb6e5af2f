-- Demand 1 for the lines of the program: 16 and 17, each exactly when its rule says, told of the very text that is printed.
use Rattle.std.specs.Prelude.{ℕ, ◌≤◌, ◌≡◌, ◌↔◌, ◌⊎◌, false, List, [], length}
use Rattle.std.proofs.Math.Option.{Option, none}
use Rattle.model.specs.declared.Order.{Order}
use Rattle.model.specs.declared.Asked.{Asked}
use Rattle.model.specs.declared.Trade.{Trade}
use Rattle.model.specs.declared.Day.{Day}
use Rattle.model.specs.declared.Command.{Command}
use Rattle.model.specs.declared.Command.TheVariants.{Malformed, Asks}
use Rattle.model.specs.declared.Event as Event
use Rattle.model.specs.declared.OpenReply as OpenReply
use Rattle.model.specs.declared.OrderReply as OrderReply
use Rattle.model.specs.declared.CancelReply as CancelReply
use Rattle.model.specs.declared.ClockReply as ClockReply
use Rattle.model.specs.declared.ReportReply as ReportReply
use Rattle.model.specs.declared.ListReply as ListReply
use Rattle.model.specs.Calls.{open_call, order_call, cancel_call}
use Rattle.model.specs.ClockCall.{clock_call}
use Rattle.model.specs.AuctionCalls.{report_call, list_call}
use Rattle.model.specs.Lines.{Line, line_command, refusal_line}
use Rattle.model.specs.Session.{Desk, Answered, answer}

-- what a line asks for is an event other than an opening
pub record NeedsDay (c : Command) : Type 0 where
  pub event : Event.Event
  pub asks : c ≡ Asks event
  pub no_opening : (close mark : ℕ) → event ≡ Event.TheVariants.Open close mark → ⊥

-- the answer to a line: what is printed, and the desk then
abbrev pub answer_line : Line → Option Desk → Answered
answer_line l desk = answer (line_command l) desk

-- for every line and every desk
pub record LineRefusals : Type 0 where
  -- 16 exactly when the line is not of the form, whatever the desk: it precedes 17
  pub malformed :
      (l : Line) (desk : Option Desk) → ((answer_line l desk).text ≡ refusal_line 16) ↔ (line_command l ≡ Malformed)
  -- 17 exactly when the line asks for an event other than an opening and no day is open
  pub no_day :
      (l : Line) (desk : Option Desk)
      → ((answer_line l desk).text ≡ refusal_line 17) ↔ (NeedsDay (line_command l) × (desk ≡ none))
  -- either leaves the desk as it is
  pub stays :
      (l : Line) (desk : Option Desk)
      → ((answer_line l desk).text ≡ refusal_line 16) ⊎ ((answer_line l desk).text ≡ refusal_line 17)
      → (answer_line l desk).desk ≡ desk

-- lines that are never of the form
pub record NeverOfTheForm : Type 0 where
  -- more than 80 bytes with the newline
  pub long : (l : Line) → 80 ≤ length l.text → line_command l ≡ Malformed
  pub empty : (l : Line) → l.text ≡ [] → line_command l ≡ Malformed
  -- a tail without its newline
  pub unended : (l : Line) → l.ended ≡ false → line_command l ≡ Malformed

abbrev pub UpTo15 : {Reply : Type 0} → (ℕ → Reply) → Reply → Type 0
UpTo15 refused reply = (n : ℕ) → reply ≡ refused n → n ≤ 15

-- a call's own refusals have numbers up to 15: no call answers 16 or 17
pub record CallNumbers : Type 0 where
  pub opening : (close mark : ℕ) (book : List Order) → UpTo15 OpenReply.TheVariants.Refused (open_call close mark book).reply
  pub order :
      (d : Day) (a : Asked) (book : List Order) (lent : List Trade)
      → UpTo15 OrderReply.TheVariants.Refused (order_call d a book lent).answer.reply
  pub cancel :
      (d : Day) (account number : ℕ) (book : List Order)
      → UpTo15 CancelReply.TheVariants.Refused (cancel_call d account number book).answer.reply
  pub clock :
      (d : Day) (t : ℕ) (book : List Order) (lent : List Trade)
      → UpTo15 ClockReply.TheVariants.Refused (clock_call d t book lent).answer.reply
  pub report : (d : Day) (book : List Order) → UpTo15 ReportReply.TheVariants.Refused (report_call d book)
  pub list :
      (d : Day) (asked : ℕ) (book : List Order) (lent : List ℕ)
      → UpTo15 ListReply.TheVariants.Refused (list_call d asked book lent).reply
