-- The program ./floor: from the bytes that it reads to the bytes that it writes. What ./run reads in a line is answered as ./run
-- answers it; a question is answered from the open day, and changes neither day nor book.
use Rattle.std.specs.Prelude.{ℕ, suc, min, List, [], ◌∷◌, ◌++◌, length, replicate, take, ℤ, pos, negsuc, ltb, eqb, if◌then◌else◌}
use Prim.Native.Char.{code}
use Rattle.std.proofs.Math.Option.{Option, none, some}
use Rattle.model.specs.declared.Level.{Level}
use Rattle.model.specs.declared.Levels.{Levels}
use Rattle.model.specs.declared.Screen.{Screen}
use Rattle.model.specs.declared.Command.{Command}
use Rattle.model.specs.declared.Command.TheVariants.{Malformed, Asks}
use Rattle.model.specs.declared.Event.TheVariants.{Open, Clock, Order, Cancel}
use Rattle.model.specs.declared.OpenReply as OpenReply
use Rattle.model.specs.declared.ReportReply as ReportReply
use Rattle.model.specs.declared.ListReply as ListReply
use Rattle.model.specs.Calls.{open_call}
use Rattle.model.specs.AuctionCalls.{ListOutcome, report_call, list_call}
use Rattle.model.specs.Replies.{list_numbers}
use Rattle.model.specs.Lines.{Line, lines_of, digits, spaced, reply, refusal_line, reply_line}
use Rattle.model.specs.Session.{Desk, answer, lent_places}
use Rattle.judge.specs.declared.Claim.{Claim}
use Rattle.judge.specs.Judging.{judge_call, verdict_numbers}
use Rattle.floors.specs.declared.Question.{Question}
use Rattle.floors.specs.declared.Question.TheVariants.{Report, Prices, Claims, Judge, Screen as Screened}
use Rattle.floors.specs.declared.Wish.{Wish}
use Rattle.floors.specs.declared.Wish.TheVariants.{Says, Wants}
use Rattle.floors.specs.Wishes.{line_wish}

-- ---- lines of reply

-- a number with a sign: a minus sign where it is negative
unfoldable pub signed : ℤ → List ℕ
signed (pos n) = digits 20 n
signed (negsuc n) = code "-" ∷ digits 20 (suc n)

-- a letter and numbers, the last of them with a sign
unfoldable pub signed_reply : ℕ → List ℕ → ℤ → List ℕ
signed_reply c ns z = c ∷ spaced ns ++ (code " " ∷ signed z) ++ (code "\n" ∷ [])

-- price, volume and surplus
unfoldable pub report_line : ReportReply.ReportReply → List ℕ
report_line (ReportReply.TheVariants.Refused n) = refusal_line n
report_line (ReportReply.TheVariants.Priced price volume surplus) = signed_reply (code "R") (price ∷ volume ∷ []) surplus

unfoldable pub price_lines : List ℕ → List ℕ
price_lines [] = []
price_lines (p ∷ ps) = reply (code "L") (p ∷ []) ++ price_lines ps

-- how many prices a list has at its front
unfoldable pub written_in : ListReply.ListReply → ℕ
written_in (ListReply.TheVariants.Refused n) = 0
written_in (ListReply.TheVariants.Listed count next) = count

-- the prices come first; then how many they are, and the next one due, or 0
unfoldable pub list_lines : ListOutcome → List ℕ
list_lines o = price_lines (take (written_in o.reply) o.prices) ++ reply_line (code "N") (list_numbers o.reply)

-- a price of a side and the shares there; a level that is not in use has no line
unfoldable pub level_line : ℕ → Level → List ℕ
level_line c l = if eqb l.price 0 then [] else reply c (l.price ∷ l.shares ∷ [])

-- the best first
unfoldable pub level_lines : ℕ → Levels → List ℕ
level_lines c ls =
    level_line c ls.first
    ++ level_line c ls.second
    ++ level_line c ls.third
    ++ level_line c ls.fourth
    ++ level_line c ls.fifth

-- the day's figures, then the auction's
unfoldable pub figures_line : Screen → List ℕ
figures_line s =
    signed_reply
    (code "S")
    (s.last ∷ s.high ∷ s.low ∷ s.shares ∷ s.turnover ∷ s.price ∷ s.volume ∷ [])
    s.surplus

-- the buys stand before the sells
unfoldable pub screen_lines : Screen → List ℕ
screen_lines s = figures_line s ++ level_lines (code "+") s.buys ++ level_lines (code "-") s.sells

-- ---- the answers

-- the day and its book, once a day is open, and the claims that are noted, in the order in which they came
pub record Floor : Type 0 where
  pub desk : Option Desk
  pub noted : List Claim

-- what a line is answered with, and the floor then
pub record Answered : Type 0 where
  pub text : List ℕ
  pub floor : Floor

-- an accepted `D` starts over: no claim is noted any more
unfoldable pub noted_after : Command → List Claim → List Claim
noted_after Malformed noted = noted
noted_after (Asks (Open close mark)) noted =
    elim (open_call close mark lent_places).reply [
      | OpenReply.TheVariants.Refused n ↦ noted
      | OpenReply.TheVariants.Opened d ↦ []
    ]
noted_after (Asks (Clock t)) noted = noted
noted_after (Asks (Order a)) noted = noted
noted_after (Asks (Cancel account number)) noted = noted

-- as ./run answers it
unfoldable pub command_answer : Command → Floor → Answered
command_answer c f =
    record {
      text = (answer c f.desk).text;
      floor = record { desk = (answer c f.desk).desk; noted = noted_after c f.noted };
    }

-- at most 4,096 places are lent to a price list
unfoldable pub lent_prices : ℕ → List ℕ
lent_prices count = replicate (min count 4_096) 0

-- what a question is answered with where a day is open
unfoldable pub question_text : Question → Desk → List Claim → List ℕ
question_text Report s noted = report_line (report_call s.day s.book)
question_text (Prices asked count) s noted = list_lines (list_call s.day asked s.book (lent_prices count))
question_text (Claims c) s noted =
    if ltb (length noted) 4_096 then reply (code "Q") (suc (length noted) ∷ []) else refusal_line 13
question_text (Judge price) s noted = reply_line (code "J") (verdict_numbers (judge_call s.day price s.book noted))
question_text Screened s noted = screen_lines s.day.screen

-- the claims that are noted then: one more while there are less than 4,096, and none after a verdict
unfoldable pub noted_then : Question → List Claim → List Claim
noted_then Report noted = noted
noted_then (Prices asked count) noted = noted
noted_then (Claims c) noted = if ltb (length noted) 4_096 then noted ++ (c ∷ []) else noted
noted_then (Judge price) noted = []
noted_then Screened noted = noted

-- 17: no day opened yet
unfoldable pub question_answer : Question → Floor → Answered
question_answer q f =
    elim f.desk [
      | none ↦ record { text = refusal_line 17; floor = f }
      | some s ↦ record {
        text = question_text q s f.noted;
        floor = record { desk = f.desk; noted = noted_then q f.noted };
      }
    ]

unfoldable pub wish_answer : Wish → Floor → Answered
wish_answer (Says c) f = command_answer c f
wish_answer (Wants q) f = question_answer q f

unfoldable pub floor_answers : List Line → Floor → List ℕ
floor_answers [] f = []
floor_answers (l ∷ ls) f = (wish_answer (line_wish l) f).text ++ floor_answers ls (wish_answer (line_wish l) f).floor

-- before anything is read: no day is open, and no claim noted
unfoldable pub no_floor : Floor
no_floor = record { desk = none; noted = [] }

-- the whole session
unfoldable pub floor_session : List ℕ → List ℕ
floor_session input = floor_answers (lines_of input) no_floor
