-- The orders are moved up, and the places that they leave are set free.
use Rattle.std.proofs.Common.{rules}
use mathlib.Core.Path.{sym}
use Rattle.book.proofs.Closing.{closed_nothing, closed_up}
use Rattle.book.proofs.settling.close_up.Goals as goal

pub returns-then-place-next : goal.returns-then-place-next
returns-then-place-next c = closed_nothing c.args.rows.now _ _ _ c.requires.next_le_end c.requires.end_in_bounds c.if-place-next.true

pub returns : goal.returns
returns c =
    closed_up c.args.rows.now c.copy_within.new.self _ _ _ c.requires.place_le_next c.requires.next_le_end c.requires.end_in_bounds
    c.copy_within.ensures.after c.copy_within.ensures.len
    (rw (sym c.free_place.ensures) (c.fill.ensures.after (λ y h. search rules)))
