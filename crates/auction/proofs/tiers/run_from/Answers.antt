-- What is added up so far, with the rest of the run, is the whole run.
use Prim.Native.Nat.{◌<◌}
use native.Mathlib.Omega.{arith}
use Rattle.std.proofs.lemmas.List.{get_or_default}
use lib.ListN.{length}
use Rattle.model.specs.Book.{free}
use Rattle.auction.proofs.Leaving.{run_ends, run_more, run_all}
use Rattle.auction.proofs.tiers.run_from.Goals as goal

pub loop-at-init : goal.loop-at-init
loop-at-init c = record { whole = omega arith; places = omega arith; near = omega arith; far = omega arith }

pub returns-then-o-p : goal.returns-then-o-p
returns-then-o-p c =
    let inside : c.loop-at.at < length c.args.rows.now = omega arith in
    run_ends c.args.rows.now c.args.from c.args.end c.args.p c.requires.end_in_bounds c.loop-at.invariant
    c.loop-at-test.true (get_or_default _ _ _ free inside) c.if-o-p.true

pub overflow_add-sum : goal.overflow_add-sum
overflow_add-sum c =
    let inside : c.loop-at.at < length c.args.rows.now = omega arith in
    omega (
      arith,
      (run_more c.args.rows.now c.args.from c.args.end c.args.p c.requires.end_in_bounds c.loop-at.invariant
          c.loop-at-test.true (get_or_default _ _ _ free inside) c.if-o-p.false).whole,
      c.requires.rows_bound,
    )

pub loop-at-preserved : goal.loop-at-preserved
loop-at-preserved c =
    let inside : c.loop-at.at < length c.args.rows.now = omega arith in
    run_more c.args.rows.now c.args.from c.args.end c.args.p c.requires.end_in_bounds c.loop-at.invariant
    c.loop-at-test.true (get_or_default _ _ _ free inside) c.if-o-p.false

pub returns : goal.returns
returns c =
    run_all c.args.rows.now c.args.from c.args.end c.args.p c.requires.end_in_bounds c.loop-at.invariant
    c.loop-at-test.false c.max.ensures
