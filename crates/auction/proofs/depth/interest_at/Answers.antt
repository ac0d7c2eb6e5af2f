-- What is added up so far, with what the rest of the book brings, is the whole.
use Rattle.std.proofs.lemmas.List.{get_or_default}
use native.Mathlib.Omega.{arith}
use Rattle.model.specs.Book.{free}
use Rattle.auction.proofs.Sides.{passed_start, passed_next, buys_fit, sells_fit, passed_end}
use Rattle.auction.proofs.depth.interest_at.Goals as goal

pub loop-o-init : goal.loop-o-init
loop-o-init c = passed_start _ _ _

pub overflow_add-demand : goal.overflow_add-demand
overflow_add-demand c =
    omega (
      arith,
      buys_fit _ _ _ c.loop-o.invariant c.loop-o-test.true (get_or_default _ _ _ free c.loop-o-test.true)
          c.requires c.shares_at-demand.ensures,
    )

pub overflow_add-supply : goal.overflow_add-supply
overflow_add-supply c =
    omega (
      arith,
      sells_fit _ _ _ c.loop-o.invariant c.loop-o-test.true (get_or_default _ _ _ free c.loop-o-test.true)
          c.requires c.shares_at-supply.ensures,
    )

pub loop-o-preserved : goal.loop-o-preserved
loop-o-preserved c =
    passed_next _ _ _ c.loop-o.invariant c.loop-o-test.true
    (get_or_default _ _ _ free c.loop-o-test.true) c.shares_at-demand.ensures c.shares_at-supply.ensures

pub returns : goal.returns
returns c = passed_end _ _ _ c.loop-o.invariant c.loop-o-test.false
