-- The head keeps some, or the next one is looked for behind it.
use mathlib.Core.Path.{refl}
use native.Mathlib.Omega.{arith}
use lib.ListN.{length-map}
use Rattle.fixed_book.proofs.Heads.{past_some, past_next}
use Rattle.fixed_book.proofs.walking.head_past.Goals as goal

pub returns-then-q-h : goal.returns-then-q-h
returns-then-q-h c =
    past_some c.args.close c.args.side c.args.rows.now c.args.h _ c.args.q c.if-q-h.true (omega (arith, c.requires.at_in_bounds)) refl

pub returns : goal.returns
returns c =
    past_next c.args.close c.args.side c.args.rows.now c.args.h _ c.args.q c.if-q-h.false c.head_from.ensures
