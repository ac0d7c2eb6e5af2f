-- Those passed so far are in order; the rest is still to be told. Assumes nothing.
use mathlib.Core.Path.{refl}
use borrow.Author.Tests.{not-true, not-false}
use Rattle.model.specs.Book.{free}
use Rattle.soundness.proofs.Following.{followed_start, follow_fails, follow_next, follow_ends}
use Rattle.soundness.proofs.order.is_in_order.Goals as goal

pub loop-i-init : goal.loop-i-init
loop-i-init c = followed_start _

pub returns-then-not-may_follow : goal.returns-then-not-may_follow
unfolding free
returns-then-not-may_follow c =
    follow_fails _ c.loop-i.invariant c.loop-i-test.true refl refl c.may_follow.ensures (not-true _ c.if-not-may_follow.true-raw)

pub loop-i-preserved : goal.loop-i-preserved
unfolding free
loop-i-preserved c =
    follow_next _ c.loop-i.invariant c.loop-i-test.true refl refl c.may_follow.ensures (not-false _ c.if-not-may_follow.false-raw)

pub returns : goal.returns
returns c = follow_ends _ c.loop-i.invariant c.loop-i-test.false
