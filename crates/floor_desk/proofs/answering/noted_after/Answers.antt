-- None, or as many as before. Assumes nothing.
use mathlib.Core.Path.{sym, ◌∙◌}
use Rattle.floor_desk.proofs.answering.noted_after.Goals as goal

pub returns-then-starts_over : goal.returns-then-starts_over
returns-then-starts_over c = rw (sym c.starts_over.ensures ∙ c.if-starts_over.true)

pub returns : goal.returns
returns c = rw (sym c.starts_over.ensures ∙ c.if-starts_over.false)
