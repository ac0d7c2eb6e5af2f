-- The rows stay until the shares end; what comes off from here on is what was to come off at first.
use mathlib.Core.Path.{refl}
use native.Mathlib.Omega.{arith}
use Rattle.model.specs.Book.{free}
use Rattle.book.proofs.Closing.{ending_start, cut_here, ending_next, cut_all, cut_from}
use Rattle.book.proofs.settling.cut_front.Goals as goal

pub loop-at-init : goal.loop-at-init
loop-at-init c = (refl, ending_start _ _ _ _ c.requires.from_le_to)

pub returns-then-left-o : goal.returns-then-left-o
unfolding free
returns-then-left-o c =
    cut_from c.loop-at.invariant.0
    (cut_here _ _ c.args.to c.loop-at.rows (omega arith) c.loop-at.invariant.1 c.loop-at-test.true refl c.if-left-o.true c.less_by.ensures refl)

pub loop-at-preserved : goal.loop-at-preserved
unfolding free
loop-at-preserved c = (
  c.loop-at.invariant.0,
  ending_next _ _ c.args.to c.loop-at.rows (omega arith) c.loop-at.invariant.1 c.loop-at-test.true refl c.if-left-o.false,
)

pub returns : goal.returns
returns c =
    cut_from c.loop-at.invariant.0
    (cut_all _ _ c.args.to c.loop-at.rows (omega arith) c.loop-at.invariant.1 c.loop-at-test.false)
