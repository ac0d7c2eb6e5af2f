-- A line that goes on begins with its first order.
use mathlib.Core.Path.{refl}
use Rattle.model.specs.Book.{free}
use Rattle.book.proofs.Lines.{line_cons, line_end}
use Rattle.book.proofs.Waiting.{head_some, head_none}
use Rattle.book.proofs.heads.head_at.Goals as goal

pub returns-then-at-end : goal.returns-then-at-end
unfolding free
returns-then-at-end c =
    head_some _ (line_cons _ _ _ c.if-at-end.true c.requires refl)

pub returns : goal.returns
returns c = head_none _ (line_end _ _ _ c.if-at-end.false)
