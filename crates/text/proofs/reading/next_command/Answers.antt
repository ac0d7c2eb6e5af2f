-- What the bounds say of the next line, by whether it is too long already.
use mathlib.Core.Path.{sym, ◌∙◌}
use native.Mathlib.Omega.{arith}
use Rattle.text.proofs.Chunks.{Bounded, bounded, unbounded, asks_long, asks_line}
use Rattle.text.proofs.reading.next_command.Goals as goal
use Rattle.text.proofs.reading.next_command.Goals.{In_ok-line}

-- what the bounds that were found say
found : (c : In_ok-line) → Bounded c.args.chunk.now c.args.at c.in_ok-line.line.start c.in_ok-line.line.end
found c = bounded _ _ _ _ (sym c.line_from.ensures ∙ c.in_ok-line.was)

pub returns-in_err-line : goal.returns-in_err-line
returns-in_err-line c = c.from_residual.ensures ∙ sym (unbounded _ _ _ (sym c.line_from.ensures ∙ c.in_err-line.was))

pub overflow_add-place : goal.overflow_add-place
overflow_add-place c = omega (arith, found (goal.at.overflow_add-place c).In_ok-line)

pub slice_bounds-command_of-count : goal.slice_bounds-command_of-count
slice_bounds-command_of-count c = omega (arith, found (goal.at.slice_bounds-command_of-count c).In_ok-line)

pub slice_bounds-command_of-start : goal.slice_bounds-command_of-start
slice_bounds-command_of-start c = omega (arith, found (goal.at.slice_bounds-command_of-start c).In_ok-line)

pub slice_bounds-command_of-end : goal.slice_bounds-command_of-end
slice_bounds-command_of-end c = omega (arith, found (goal.at.slice_bounds-command_of-end c).In_ok-line)

pub returns-then-long : goal.returns-then-long
returns-then-long c = asks_long _ _ (found (goal.at.returns-then-long c).In_ok-line) _ c.if-long.true

pub returns-else-long : goal.returns-else-long
returns-else-long c =
    asks_line _ _ (found (goal.at.returns-else-long c).In_ok-line) _ c.if-long.false _ c.command_of-command.ensures
