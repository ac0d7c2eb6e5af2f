-- `wire::reading::put_prices` meets its contract: the run is put, or the bytes stay. Assumes nothing.
use mathlib.Core.Path.{ap, ◌∙◌}
use native.Mathlib.Omega.{arith}
use Rattle.byte_books.specs.declared.ReadReply.TheVariants.{List}
use Rattle.wire.specs.Pairs.{prices_by}
use Rattle.wire.proofs.reading.put_prices.Goals as goal

pub returns-in-Report : goal.returns-in-Report
unfolding prices_by
returns-in-Report c = rw c.in-Report.is

pub returns-in-Refused : goal.returns-in-Refused
unfolding prices_by
returns-in-Refused c = rw (c.in-List.is, c.in-Refused.is)

pub put_run-requires : goal.put_run-requires
put_run-requires c =
    let f = c.requires _ (c.in-List.is ∙ ap List c.in-Prices.is) in
    (omega (arith, f.0), f.1)

pub returns-in-Prices : goal.returns-in-Prices
unfolding prices_by
returns-in-Prices c =
    rw (c.in-List.is, c.in-Prices.is) c.put_run.ensures
