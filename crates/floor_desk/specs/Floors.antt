-- The definitions' floor, as the program holds it: the day, once one is open, the rows of the book, and the rows of the claims, of which the
-- first so many are noted.
use Rattle.model.specs.declared.Order as Orders
use Rattle.std.specs.Prelude.{ℕ, ◌≤◌, ◌≡◌, Bool, false, ◌&&◌, List, length, take, if◌then◌else◌}
use Prim.Native.Char.{code}
use Rattle.model.specs.declared.Day.{Day}
use Rattle.model.specs.declared.Command.{Command}
use Rattle.model.specs.declared.Command.TheVariants.{Malformed, Asks}
use Rattle.model.specs.declared.Event.TheVariants.{Open, Clock, Order as Ordered, Cancel}
use Rattle.model.specs.Limits.{is_price}
use Rattle.model.specs.Sound.{is_mark}
use Rattle.model.specs.Lines.{reply_line}
use Rattle.model.specs.Session as Session
use Rattle.judge.specs.declared.Claim.{Claim}
use Rattle.judge.specs.Judging.{judge_call, verdict_numbers}
use Rattle.printing.specs.Printing.{Wrote}
use Rattle.desk.specs.declared.Desk.{Desk}
use Rattle.desk.specs.Desks.{desk_of}
use Rattle.floors.specs.declared.Question.{Question}
use Rattle.floors.specs.declared.Wish.{Wish}
use Rattle.floors.specs.Floor as Floor
use Rattle.floors.specs.Floor.{question_text, noted_then, wish_answer}
use Rattle.floor_desk.specs.declared.Told.{Told}
use Rattle.floor_desk.specs.declared.FloorAnswered.{FloorAnswered}

abbrev pub noted_in : List Claim → ℕ → List Claim
noted_in claims noted = take noted claims

abbrev pub floor_of : Desk → List Orders.Order → List Claim → ℕ → Floor.Floor
floor_of desk rows claims noted = record { desk = desk_of desk rows; noted = noted_in claims noted }

abbrev pub verdict_line : Day → ℕ → List Orders.Order → List Claim → List ℕ
verdict_line d price book cs = reply_line (code "J") (verdict_numbers (judge_call d price book cs))

-- a question answered into a buffer at a place: its text stands there, all of it, and the claims that are noted then
pub record Replied (q : Question) (s : Session.Desk) (claims : List Claim) (noted : ℕ) (before : List ℕ) (at : ℕ) (claims' : List Claim) (after : List ℕ) (r : Told) : Type 0 where
  pub text : Wrote before at (question_text q s (noted_in claims noted)) after r.next
  pub fits : r.next ≤ length after
  pub kept : noted_in claims' r.noted ≡ noted_then q (noted_in claims noted)
  pub few : r.noted ≤ 4_096

-- an opening that is not refused, in the places that the program lends
unfoldable pub starts_over : Command → Bool
starts_over Malformed = false
starts_over (Asks (Open close mark)) = is_price close && is_mark mark
starts_over (Asks (Clock t)) = false
starts_over (Asks (Ordered a)) = false
starts_over (Asks (Cancel account number)) = false

abbrev pub noted_past : Command → ℕ → ℕ
noted_past c noted = if starts_over c then 0 else noted

-- the definitions' answer, put into a buffer at a place: its text stands there, all of it, and memory holds the floor that it leaves
pub record Leaves (w : Wish) (desk : Desk) (rows : List Orders.Order) (claims : List Claim) (noted : ℕ) (before : List ℕ) (at : ℕ) (rows' : List Orders.Order) (claims' : List Claim) (after : List ℕ) (r : FloorAnswered) : Type 0 where
  pub text : Wrote before at (wish_answer w (floor_of desk rows claims noted)).text after r.next
  pub fits : r.next ≤ length after
  pub floor : floor_of r.desk rows' claims' r.noted ≡ (wish_answer w (floor_of desk rows claims noted)).floor
  pub few : r.noted ≤ 4_096
