-- A sound fixed-price book stays sound: the proofs of the statement, together, and an opening. Assumes nothing.
use Prim.Native.Nat.{ℕ}
use mathlib.Core.Path.{◌≡◌, refl}
use mathlib.Core.Bool.{true, false}
use mathlib.Core.List.{List}
use native.Mathlib.Omega.{arith}
use Rattle.model.specs.declared.Order.{Order}
use Rattle.model.specs.Figures.{reference, close_price, fresh_day}
use Rattle.model.specs.Sound.{has_places}
use Rattle.model.specs.Refusals.{unsound_fixed}
use Rattle.model.specs.Calls.{cleared}
use Rattle.fixed_demands.specs.FixedDay.{FixedFigures}
use Rattle.fixed_demands.specs.KeepingFixed.{KeepingFixed}
use Rattle.fixed_demands.proofs.FixedClauses.{fixed_sound}
use Rattle.fixed_demands.proofs.EmptyLists.{free_day, cleared_empty, cleared_places}
use Rattle.fixed_demands.proofs.KeptFixed.{fixed_order_kept, fixed_cancel_kept}
use Rattle.fixed_demands.proofs.KeptCalls.{order_kept, cancel_kept, declared_kept, move_kept}

fresh_figures : (close mark : ℕ) → FixedFigures (fresh_day close mark)
unfolding fresh_day close_price reference
fresh_figures close mark =
    record { issued = omega arith; shares = omega arith; money = omega arith; none_yet = λ _. refl }

fresh_kept : (close mark : ℕ) (book : List Order) → has_places book ≡ true → unsound_fixed (fresh_day close mark) (cleared book) ≡ false
fresh_kept close mark book p =
    fixed_sound (fresh_day close mark) (cleared book) (cleared_places book p) (free_day (cleared book) (cleared_empty book) (fresh_day close mark) (fresh_figures close mark))

pub keeping_fixed : KeepingFixed
keeping_fixed =
    record {
      fresh = fresh_kept;
      fixed_order = fixed_order_kept;
      fixed_cancel = fixed_cancel_kept;
      order = order_kept;
      cancel = cancel_kept;
      declaration = declared_kept;
      move = move_kept;
    }
