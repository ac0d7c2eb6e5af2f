-- The two calls that work on all lists of a day: its opening, and a move of the clock. Of the main book alone they are open_call and
-- clock_call, by which the rehearsal program answers: it has no other lists.
use Rattle.std.specs.Prelude.{ℕ, not, ◌&&◌, ◌||◌, List, [], ◌∷◌, ◌++◌, length, ltb, eqb, if◌then◌else◌}
use Rattle.model.specs.declared.Trade.{Trade}
use Rattle.model.specs.declared.Day.{Day}
use Rattle.model.specs.declared.OpenReply as OpenReply
use Rattle.model.specs.declared.MoveReply as MoveReply
use Rattle.model.specs.declared.MoveAnswer.{MoveAnswer}
use Rattle.model.specs.Clock.{is_time, passed}
use Rattle.model.specs.Limits.{is_price}
use Rattle.model.specs.Figures.{fresh_day, at}
use Rattle.model.specs.Halts.{phase_now}
use Rattle.model.specs.Screen.{update}
use Rattle.model.specs.Books.{Books}
use Rattle.model.specs.Blocks.{none_held}
use Rattle.model.specs.Sound.{has_places, is_mark}
use Rattle.model.specs.Refusals.{Rule, ◌when◌, first_of, unsound_books}
use Rattle.model.specs.Calls.{written, cleared}
use Rattle.model.specs.ClockCall.{Held, moved}
use Rattle.model.specs.AfterClose.{After, through_after}

-- ---- an opening

pub record OpenAllOutcome : Type 0 where
  pub reply : OpenReply.OpenReply
  pub books : Books

unfoldable pub open_all_rules : ℕ → ℕ → Books → List Rule
open_all_rules close mark s =
    14 when (not (is_price close && is_mark mark && has_places s.main && has_places s.fixed && has_places s.blocks)) ∷ []

-- every place of every list becomes free
unfoldable pub open_all_call : ℕ → ℕ → Books → OpenAllOutcome
open_all_call close mark s =
    let n : ℕ = first_of (open_all_rules close mark s) in
    if eqb n 0
    then
    record {
      reply = OpenReply.TheVariants.Opened (fresh_day close mark);
      books = record { main = cleared s.main; fixed = cleared s.fixed; blocks = none_held s.blocks };
    }
    else record { reply = OpenReply.TheVariants.Refused n; books = s }

-- ---- a move of the clock

pub record ClockAllOutcome : Type 0 where
  pub answer : MoveAnswer
  pub books : Books
  pub trades : List Trade

-- where the main book's move leaves day and lists
unfoldable pub start_after : Held → Books → After
start_after h s =
    record {
      day = h.day;
      books = record { main = h.book; fixed = s.fixed; blocks = s.blocks };
      auctions = h.trades;
      confirmed = [];
      fixed = [];
      void = 0;
      lapsed = 0;
    }

-- the whole move: the main book's, and the same seconds again for what comes after the close, when the main book is at rest
unfoldable pub moved_on : Day → ℕ → Books → After
moved_on d t s = through_after (passed d.time t) (start_after (moved d t s.main) s)

-- all trades of a move, in time order
unfoldable pub move_trades : After → List Trade
move_trades h = h.auctions ++ h.confirmed ++ h.fixed

unfoldable pub clock_all_rules : Day → ℕ → Books → ℕ → List Rule
clock_all_rules d t s room =
    15 when (unsound_books d s)
    ∷ 1 when (not (is_time t) || ltb t d.time)
    ∷ 13 when (ltb room (length (move_trades (moved_on d t s))))
    ∷ []

unfoldable pub clock_all_call : Day → ℕ → Books → List Trade → ClockAllOutcome
clock_all_call d t s lent =
    let n : ℕ = first_of (clock_all_rules d t s (length lent)) in
    let h : After = moved_on d t s in
    if eqb n 0
    then
    record {
      answer =
          record {
            reply =
                MoveReply.TheVariants.Moved
                (record {
                  phase = phase_now (at t h.day);
                  trades = length h.auctions;
                  confirmed = length h.confirmed;
                  fixed = length h.fixed;
                  void = h.void;
                  lapsed = h.lapsed;
                });
            made = length (move_trades h);
            day = update h.auctions h.books.main (at t h.day);
          };
      books = h.books;
      trades = written (move_trades h) lent;
    }
    else
    record {
      answer = record { reply = MoveReply.TheVariants.Refused n; made = 0; day = d };
      books = s;
      trades = lent;
    }
