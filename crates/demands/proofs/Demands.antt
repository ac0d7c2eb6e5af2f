-- The three demands: each record of specs/ that is put together from several files. Demand 1 is in Refusals, the runs of
-- demand 2 in Runs, the screen after each event in Screenings, the starred table in Stars. Assumes nothing.
use Rattle.model.specs.Figures.{reference}
use Rattle.demands.specs.Pricing.{Pricing}
use Rattle.demands.specs.Conditions.{Conditions}
use Rattle.auction.proofs.Conditions.{second_tests, second_alone}
use Rattle.auction.proofs.Rules.{price_rule}
use Rattle.demands.specs.Keeping.{Keeping}
use Rattle.demands.specs.Entering.{Entering}
use Rattle.demands.specs.Totalling.{Totalling}
use Rattle.demands.specs.Owning.{OwnOnly}
use Rattle.demands.specs.Leaving.{Leaving}
use Rattle.demands.specs.Ordering.{Ordering}
use Rattle.demands.specs.Halting.{Halting}
use Rattle.demands.specs.Older.{SameHistories}
use Rattle.demands.proofs.ClockTrades.{clock_trades}
use Rattle.demands.proofs.Pricings.{sound_stands, listing, called, one, trades_there}
use Rattle.demands.proofs.Fresh.{open_fresh}
use Rattle.demands.proofs.Keepings.{cancel_kept, order_kept, clock_kept}
use Rattle.demands.proofs.Moved.{move_auctions}
use Rattle.demands.proofs.Entries.{accepted}
use Rattle.demands.proofs.Totals.{order_totals, cancel_totals, clock_totals}
use Rattle.demands.proofs.Owns.{cancel_own}
use Rattle.demands.proofs.Staying.{order_stays, clock_stays}
use Rattle.demands.proofs.Leavings.{order_leaves_lem, incoming_leaves, clock_leaves_lem, clock_stands}
use Rattle.demands.proofs.Hours.{phase_noon, noon_takes}
use Rattle.demands.proofs.HaltDays.{day_halted}
use Rattle.demands.proofs.HaltUpdates.{cancel_unchanged}
use Rattle.demands.proofs.Starting.{order_starts}
use Rattle.demands.proofs.Ending.{auction_passed, clock_halts}
use Rattle.demands.proofs.HaltRuns.{once_a_day, limited_none}
use Rattle.demands.proofs.Collecting.{collects}
use Rattle.demands.proofs.Histories as histories
use Rattle.demands.proofs.Orderings as orderings

-- ---- demand 2

pub keeping : Keeping
keeping =
    record {
      fresh = open_fresh;
      order_kept = order_kept;
      cancel_kept = cancel_kept;
      clock_kept = clock_kept;
    }

pub entering : Entering
entering = record { accepted = accepted }

pub totalling : Totalling
totalling = record { order = order_totals; cancel = cancel_totals; clock = λ d t book lent s. clock_totals d book s t lent }

pub own_only : OwnOnly
own_only =
    record {
      cancel = λ d account number shares book s. cancel_own d account number book s shares;
      order = λ d a book lent s. order_stays d a book s lent;
      clock = λ d t book lent s. clock_stays d t book (sound_stands d book s) lent;
    }

pub leaving : Leaving
leaving =
    record {
      order = λ d a book lent s. order_leaves_lem d a book s lent;
      incoming = λ d a book lent e s. incoming_leaves d a book s lent e;
      clock = λ d t book lent s. clock_leaves_lem d t book (sound_stands d book s) lent;
      clock_stands = λ d t book lent s. clock_stands d t book (sound_stands d book s) lent;
    }

pub halting : Halting
halting =
    record {
      halted = day_halted;
      order = λ d a book lent s. order_starts d a book s lent;
      clock = λ d t book lent phase made s. clock_halts d book s t lent phase made;
      cancel = cancel_unchanged;
      auction = λ d t book lent phase made s e n l.
          let stands = sound_stands d book s in (
            listing book stands,
            λ q. one book stands q (reference d),
            (clock_trades d book s t lent).there phase made e (auction_passed d book s n t l),
          );
      collects = collects;
      noon = λ d e. let t = noon_takes d.time e in (phase_noon d e, t.0, t.1);
      once = once_a_day;
      limited = limited_none;
    }

pub ordering : Ordering
ordering = orderings.ordering keeping

-- every history goes as it went when orders did not move
pub same_histories : SameHistories
same_histories = histories.same_histories keeping

-- ---- demand 3

pub pricing : Pricing
pricing =
    record {
      listing = λ d book s. listing book (sound_stands d book s);
      called = called;
      one_left = λ d book s. one book (sound_stands d book s);
      trades_there = λ d book s. trades_there book (sound_stands d book s) d;
      auctions = move_auctions;
      clock_trades = clock_trades;
    }

pub conditions : Conditions
conditions =
    record {
      one_test =
          λ d book s.
          let rule = price_rule book (sound_stands d book s) in
          record {
            gives_all = λ p k. second_tests book k;
            alone = λ p k. second_alone book k;
            no_gap = rule.no_gap;
            least_no_gap = rule.least_no_gap;
          };
    }
