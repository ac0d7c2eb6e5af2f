-- Nothing, or a space and a 0. Assumes nothing.
use mathlib.Core.Path.{sym, ◌∙◌}
use native.Mathlib.Omega.{arith}
use lib.ListN.{length-set}
use Rattle.convert.proofs.Steps.{put_none, put_balance}
use Rattle.convert.proofs.chunks.put_added.Goals as goal

pub returns-then-not-is_five : goal.returns-then-not-is_five
returns-then-not-is_five c = put_none _ _ _ (sym c.is_five.ensures ∙ c.if-not-is_five.true)

pub bounds-out-at-2 : goal.bounds-out-at-2
bounds-out-at-2 c = rw length-set (omega arith)

pub returns : goal.returns
returns c = put_balance _ _ _ (sym c.is_five.ensures ∙ c.if-not-is_five.false)
