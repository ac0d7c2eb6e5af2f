-- A cleared book is as many free places.
use Rattle.std.proofs.Common.{rules}
use mathlib.Core.Path.{sym, ap, ◌∙◌}
use lib.ListN.{length, replicate}
use Rattle.book.proofs.Arranging.{cleared_frees}
use Rattle.book.proofs.settling.clear_rows.Goals as goal

pub returns : goal.returns
returns c =
    c.fill.ensures.after (λ y h. search rules) ∙ ap (λ o. replicate (length c.args.rows.now) o) c.free_place.ensures ∙ sym (cleared_frees c.args.rows.now)
