-- The prices put so far are the run's front. Assumes nothing.
use Prim.Native.Nat.{◌-◌}
use Rattle.model.specs.Lists.{from}
use Rattle.printing.specs.Printing.{Wrote}
use Rattle.floors.specs.Floor.{price_lines}
use Rattle.floor_printing.proofs.put_prices.Given as goal

abbrev pub invariant-loop-price : goal.invariant-loop-price
invariant-loop-price l = Wrote l.initial.out l.initial.p (price_lines (from l.first (l.price - l.first))) l.out l.p
