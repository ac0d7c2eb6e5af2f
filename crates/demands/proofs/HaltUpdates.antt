-- What is said of a day's halt reads no screen: it holds of the day with its screen updated too. Assumes nothing.
use Prim.Native.Nat.{ℕ}
use mathlib.Core.Path.{refl}
use mathlib.Core.List.{List}
use Rattle.model.specs.declared.Order.{Order}
use Rattle.model.specs.declared.Trade.{Trade}
use Rattle.model.specs.declared.Day.{Day}
use Rattle.model.specs.Figures.{open_price}
use Rattle.model.specs.Halts.{runs, phase_now}
use Rattle.model.specs.Screen.{update}
use Rattle.model.specs.Calls.{cancel_call}
use Rattle.demands.specs.Halting.{Unchanged, Begun, ByOrder, Another, ByMove}
use Rattle.demands.proofs.Cases.{cancel_cases}

module _ (us : List Trade) (book : List Order) (d e : Day) where
  abbrev shown : Day
  shown = update us book e

  unchanged_updated : Unchanged d e → Unchanged d shown
  unfolding update
  unchanged_updated k = record { halt = k.halt; thirty = k.thirty; sixty = k.sixty }

  begun_updated : (ts : List Trade) → Begun d e ts → Begun d shown ts
  unfolding update open_price phase_now runs
  begun_updated ts k =
      record {
        none_before = k.none_before;
        phase_before = k.phase_before;
        ends = k.ends;
        runs = k.runs;
        phase = k.phase;
        thirty = k.thirty;
        not_sixty = k.not_sixty;
      }

  pub by_order_updated : (ts : List Trade) → ByOrder d ts e → ByOrder d ts shown
  unfolding update open_price
  by_order_updated ts k =
      record {
        begins = λ f. begun_updated ts (k.begins f);
        none_else = λ n. unchanged_updated (k.none_else n);
        both = k.both;
      }

  another_updated : (t : ℕ) → Another d t e → Another d t shown
  unfolding update
  another_updated t k =
      record {
        end = k.end;
        ends = k.ends;
        first_sixty = k.first_sixty;
        thirty = k.thirty;
        sixty = k.sixty;
        runs = k.runs;
        over = k.over;
      }

  pub by_move_updated : (t : ℕ) (ts : List Trade) → ByMove d t ts e → ByMove d t ts shown
  unfolding update open_price
  by_move_updated t ts k =
      record {
        none = λ z. unchanged_updated (k.none z);
        goes_on = λ l. unchanged_updated (k.goes_on l);
        again = λ n l c f. another_updated t (k.again n l c f);
        over = k.over;
      }

-- so a cancel leaves the halt and the thresholds
pub cancel_unchanged : (d : Day) (account number : ℕ) (book : List Order) → Unchanged d (cancel_call d account number book).answer.day
cancel_unchanged d account number book =
    cancel_cases d account number book (λ o. Unchanged d o.answer.day) (λ _. unchanged_updated _ _ d d same) (λ _. same)
  where
    same : Unchanged d d
    same = record { halt = refl; thirty = refl; sixty = refl }
