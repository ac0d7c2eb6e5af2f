-- Whole lines of ./floor and their replies, from the definitions, as a desk would see them. What an auction would do on a sound day speaks
-- of all 999,999 prices and is not evaluated here: of report, price list and verdict the lines are tried, and their refusals. Assumes nothing.
use Prim.Native.Nat.{ℕ}
use Prim.Native.String.{String, ◌++◌}
use mathlib.Core.Path.{◌≡◌, refl}
use mathlib.Core.Bool.{true}
use mathlib.Core.List.{List, [], ◌∷◌, map}
use mathlib.Core.Option.{some}
use lib.ListN.{length, replicate}
use lib.IntN.{ℤ, pos, negsuc}
use Rattle.model.specs.declared.Screen.{Screen}
use Rattle.model.specs.declared.ReportReply.TheVariants.{Priced}
use Rattle.model.specs.declared.ListReply.TheVariants.{Listed}
use Rattle.model.specs.Lists.{all}
use Rattle.model.specs.Clock.{is_time, later_rows, holding, row_at, phase_at, takes_orders, takes_cancels, continuous, passed}
use Rattle.model.specs.Book.{free, is_live}
use Rattle.model.specs.Limits.{is_price, in_band}
use Rattle.model.specs.Figures.{no_level, no_levels, no_screen, fresh_day, at}
use Rattle.model.specs.Sound.{has_places, is_mark, sound_figures, sound_anywhere, sound}
use Rattle.model.specs.Refusals.{◌when◌, first_of, unsound}
use Rattle.model.specs.Calls.{open_rules, cleared, open_call}
use Rattle.model.specs.AuctionCalls.{report_rules, report_call, list_rules, list_call}
use Rattle.model.specs.Replies.{open_numbers, list_numbers}
use Rattle.model.specs.Lines.{onto, lines_of, onto_word, words_of, is_digit, value_from, bare, number_of, numbers_of, command_of, words_command, line_command, digits, spaced, reply, refusal_line, reply_line, open_line}
use Rattle.model.specs.Session.{lent_places, opened, open_answer, event_answer, on_desk, answer}
use Rattle.model.proofs.Examples.{bytes, untraded, five, shows}
use Rattle.judge.specs.declared.Claim.{Claim}
use Rattle.judge.specs.Judging.{judge_rules, judge_call, verdict_numbers}
use Rattle.floors.specs.Wishes.{question_of, question_with, words_question, line_question, wish_of, line_wish}
use Rattle.floors.specs.Floor.{Floor, Answered, signed, signed_reply, report_line, price_lines, written_in, list_lines, level_line, level_lines, figures_line, screen_lines, noted_after, command_answer, lent_prices, question_text, noted_then, question_answer, wish_answer, floor_answers, no_floor, floor_session}

-- ---- how a table is read

-- a line, and what it is answered with
pub record Exchange : Type 0 where
  pub line : String
  pub replied : String

infix 75 ◌says◌
abbrev ◌says◌ : String → String → Exchange
l says r = record { line = l; replied = r }

unfoldable pub replies : Floor → List Exchange → List (List ℕ)
replies f [] = []
replies f (e ∷ es) =
    let a : Answered = wish_answer (line_wish (record { text = bytes e.line; ended = true })) f in
    a.text ∷ replies a.floor es

abbrev expected : List Exchange → List (List ℕ)
expected es = map (λ e. bytes (e.replied ++ "\n")) es

abbrev claim : Claim
claim = record { shares = 100; buyer = 1; seller = 2 }

-- ---- the scenes

-- no day yet: every question is 17, and a line that is not of the form 16 all the same
abbrev no_day : List Exchange
no_day =
    "R" says "X 17"
    ∷ "L 1 4096" says "X 17"
    ∷ "Q 100 1 2" says "X 17"
    ∷ "J 0" says "X 17"
    ∷ "S" says "X 17"
    ∷ "R " says "X 16"
    ∷ "R 1" says "X 16"
    ∷ "L 1" says "X 16"
    ∷ "L 1 2 3" says "X 16"
    ∷ "Q 1 2" says "X 16"
    ∷ "Q 1 2 3 4" says "X 16"
    ∷ "J" says "X 16"
    ∷ "J 01" says "X 16"
    ∷ "J 4294967296" says "X 16"
    ∷ "S 1" says "X 16"
    ∷ "S " says "X 16"
    ∷ "r" says "X 16"
    ∷ "T 0" says "X 17"
    ∷ []

-- claims are counted from 1 on; an accepted opening starts over, a refused one and a look at the screen keep them
abbrev counted : List Exchange
counted =
    "D 1000 1" says "D"
    ∷ "Q 100 1 2" says "Q 1"
    ∷ "Q 0 4294967295 0" says "Q 2"
    ∷ "D 0 1" says "X 14"
    ∷ "S" says "S 0 0 0 0 0 0 0 0"
    ∷ "Q 100 1 2" says "Q 3"
    ∷ "D 1000 0" says "D"
    ∷ "Q 100 1 2" says "Q 1"
    ∷ []

-- a day that is not sound, as the program never has one: 15, and a verdict that is refused leaves no claim either
abbrev not_sound : List Exchange
not_sound =
    "R" says "X 15"
    ∷ "L 1 10" says "X 15"
    ∷ "Q 100 1 2" says "Q 2"
    ∷ "J 1000" says "X 15"
    ∷ "Q 100 1 2" says "Q 1"
    ∷ []

-- one claim less than 4,096, and no room after it
abbrev full : List Exchange
full = "Q 100 1 2" says "Q 4096" ∷ "Q 100 1 2" says "X 13" ∷ "Q 100 1 2" says "X 13" ∷ []

abbrev floor : ℕ → List Claim → Floor
floor close cs = record { desk = some (record { day = untraded close 1 0 0; book = free ∷ [] }); noted = cs }

pub floor_tried :
    (replies no_floor no_day ≡ expected no_day)
    × (replies no_floor counted ≡ expected counted)
    × (replies (floor 0 (claim ∷ [])) not_sound ≡ expected not_sound)
    × (replies (floor 1000 (replicate 4_095 claim)) full ≡ expected full)
    × (floor_session (bytes "D 1000 1\nQ 100 1 2\n\nR 1\nQ 1 2 3") ≡ bytes "D\nQ 1\nX 16\nX 16\nX 16\n")
unfolding no_level no_levels no_screen all is_time later_rows holding row_at phase_at takes_orders takes_cancels continuous passed free is_live is_price in_band fresh_day at has_places is_mark sound_figures sound_anywhere sound ◌when◌ first_of unsound open_rules cleared open_call report_rules report_call list_rules list_call open_numbers list_numbers onto lines_of onto_word words_of is_digit value_from bare number_of numbers_of command_of words_command line_command digits spaced reply refusal_line reply_line open_line lent_places opened open_answer event_answer on_desk answer judge_rules judge_call verdict_numbers question_of question_with words_question line_question wish_of line_wish signed signed_reply report_line price_lines written_in list_lines level_line level_lines figures_line screen_lines noted_after command_answer lent_prices question_text noted_then question_answer wish_answer floor_answers no_floor floor_session replies bytes
floor_tried = (refl, refl, refl, refl, refl)

-- the lines of a report with either sign, and of a price list that has more to give, and of one that has none
pub replies_tried :
    (report_line (Priced 1000 200 (negsuc 99)) ≡ bytes "R 1000 200 -100\n")
    × (report_line (Priced 1000 100 (pos 200)) ≡ bytes "R 1000 100 200\n")
    × (report_line (Priced 0 0 (pos 0)) ≡ bytes "R 0 0 0\n")
    × (list_lines (record { reply = Listed 2 992; prices = 990 ∷ 991 ∷ 0 ∷ [] }) ≡ bytes "L 990\nL 991\nN 2 992\n")
    × (list_lines (record { reply = Listed 0 0; prices = [] }) ≡ bytes "N 0 0\n")
    × (length (lent_prices 4_097) ≡ 4_096)
    × (length (lent_prices 3) ≡ 3)
unfolding list_numbers digits spaced reply refusal_line reply_line signed signed_reply report_line price_lines written_in list_lines lent_prices bytes
replies_tried = (refl, refl, refl, refl, refl, refl, refl)

-- a screen in a call: price, volume, surplus, then the buys and the sells
abbrev in_call : ℕ → ℕ → ℤ → List ℕ → List ℕ → Screen
in_call price volume surplus buys sells =
    record {
      last = 0;
      high = 0;
      low = 0;
      shares = 0;
      turnover = 0;
      buys = five buys;
      sells = five sells;
      price = price;
      volume = volume;
      surplus = surplus;
    }

-- the lines of a screen with either sign, and with no level, one and five of a side
pub screens_tried :
    (screen_lines (in_call 990 200 (negsuc 99) (1010 ∷ 200 ∷ []) (990 ∷ 300 ∷ []))
    ≡ bytes "S 0 0 0 0 0 990 200 -100\n+ 1010 200\n- 990 300\n")
    × (screen_lines (in_call 990 200 (pos 100) (1010 ∷ 300 ∷ []) (990 ∷ 200 ∷ []))
    ≡ bytes "S 0 0 0 0 0 990 200 100\n+ 1010 300\n- 990 200\n")
    × (screen_lines (shows 1001 1005 998 900 900_900 (1000 ∷ 300 ∷ 999 ∷ 1 ∷ 997 ∷ 100 ∷ 996 ∷ 200 ∷ 990 ∷ 500 ∷ []) [])
    ≡ bytes "S 1001 1005 998 900 900900 0 0 0\n+ 1000 300\n+ 999 1\n+ 997 100\n+ 996 200\n+ 990 500\n")
    × (screen_lines (shows 1001 1005 998 900 900_900 [] (1002 ∷ 300 ∷ 1003 ∷ 1 ∷ 1005 ∷ 100 ∷ 1006 ∷ 200 ∷ 1010 ∷ 500 ∷ []))
    ≡ bytes "S 1001 1005 998 900 900900 0 0 0\n- 1002 300\n- 1003 1\n- 1005 100\n- 1006 200\n- 1010 500\n")
    × (screen_lines no_screen ≡ bytes "S 0 0 0 0 0 0 0 0\n")
unfolding no_level no_levels no_screen digits spaced reply signed signed_reply level_line level_lines figures_line screen_lines bytes
screens_tried = (refl, refl, refl, refl, refl)
