-- Nobody passed so far may trade.
use mathlib.Core.Path.{◌≡◌, refl, sym, ◌∙◌}
use native.Mathlib.Omega.{arith}
use lib.ListN.{length}
use Rattle.model.specs.Book.{free}
use Rattle.fixed_book.proofs.Heads.{sought_none, sought_next, sought_found, sought_all}
use Rattle.fixed_book.proofs.walking.head_from.Goals as goal

pub loop-at-init : goal.loop-at-init
loop-at-init c = sought_none _ _ _ _ c.requires.from_in_bounds

pub returns-then-may_trade : goal.returns-then-may_trade
unfolding free
returns-then-may_trade c =
    sought_found c.args.close c.args.side c.args.rows.now c.loop-at.invariant (omega arith)
    refl c.requires.lined.fair (sym c.may_trade.ensures ∙ c.if-may_trade.true)

pub loop-at-preserved : goal.loop-at-preserved
unfolding free
loop-at-preserved c =
    sought_next c.args.close c.args.side c.args.rows.now c.loop-at.invariant (omega arith)
    refl (sym c.may_trade.ensures ∙ c.if-may_trade.false)

pub returns : goal.returns
returns c =
    let all : c.loop-at.at ≡ length c.args.rows.now = omega (arith, c.requires.from_in_bounds) in
    rw all at (sought_all c.args.close c.args.side c.args.rows.now c.loop-at.invariant (omega arith))
