-- `halts::firing::reaches` meets its contract: the trades passed so far are not so far away, so those that are left decide.
-- Assumes nothing.
use mathlib.Core.Path.{◌≡◌}
use lib.ListN.{drop}
use Rattle.model.specs.Halts.{reach}
use Rattle.halts.proofs.firing.reaches.Given as goal

abbrev pub invariant-loop-t : goal.invariant-loop-t
invariant-loop-t l = reach l.percent l.trades l.day ≡ reach l.percent (drop l.t-index l.trades) l.day
