-- The span is that of the walk's end.
use mathlib.Core.Path.{◌∙◌}
use Rattle.auction.proofs.ends.span_of.Goals as goal

pub returns : goal.returns
returns c =
    c.span_at.ensures ∙ c.walk-stop.ensures.span
