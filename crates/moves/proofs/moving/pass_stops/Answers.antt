-- `moves::moving::pass_stops` meets its contract: at each turn memory holds the state that the definitions reach at the second `from`, and
-- nothing is due up to the next stop. Assumes nothing.
use Prim.Native.Nat.{◌≤◌, ◌<◌}
use mathlib.Core.Path.{◌≡◌, refl, ◌∙◌}
use mathlib.Core.Bool.{true}
use native.Mathlib.Omega.{arith}
use native.Mathlib.Nat.{le_refl}
use Rattle.moves.specs.Stops.{is_stop}
use Rattle.moves.proofs.ClockLaws.{at_start, at_underway, stop_ahead, at_fits, at_next, at_last}
use Rattle.moves.proofs.moving.pass_stops.Goals as goal
use Rattle.moves.proofs.moving.pass_stops.Goals.{In-loop-stop}

pub loop-stop-init : goal.loop-stop-init
loop-stop-init c =
    let a = c.args in
    (le_refl _, (c.requires.time_le_time, (refl, (refl, (c.next_stop-stop.ensures, at_start a.d a.rows.now a.trades.now)))))

found :
    (i : In-loop-stop) →
    (i.loop-stop.from < i.loop-stop.stop)
    × (i.loop-stop.stop ≤ i.args.time)
    × (is_stop i.loop-stop.p.day.halt i.loop-stop.stop ≡ true)
found i =
    let v = i.loop-stop.invariant in
    stop_ahead i.args.d i.args.rows.now i.args.trades.now i.loop-stop.from v.1.1.1.1.1 i.args.time v.0 v.1.1.1.1.0 i.loop-stop-test.true

pub pass_next-p-requires : goal.pass_next-p-requires
pass_next-p-requires c =
    let a = c.args in
    let v = c.loop-stop.invariant in
    let r = v.1.1.1.1.1 in record { made_in_bounds = r.within; underway = at_underway a.d a.rows.now a.trades.now c.loop-stop.from r c.requires.ready; second_bound = omega (arith, (found (goal.at.pass_next-p-requires c).In-loop-stop).1, c.requires.time_bound); second_value = (found (goal.at.pass_next-p-requires c).In-loop-stop).2; trades_in_bounds = at_fits a.d a.rows.now a.trades.now c.loop-stop.from r a.time v.0 v.1.1.1.1.0 c.loop-stop-test.true c.requires.rows_in_bounds v.1.1.1.0 }

pub loop-stop-smaller : goal.loop-stop-smaller
loop-stop-smaller c =
    omega (arith, (found (goal.at.loop-stop-smaller c).In-loop-stop).0, (found (goal.at.loop-stop-smaller c).In-loop-stop).1)

pub loop-stop-preserved : goal.loop-stop-preserved
loop-stop-preserved c =
    let a = c.args in
    let v = c.loop-stop.invariant in (
      omega (arith, (found (goal.at.loop-stop-preserved c).In-loop-stop).0, v.0),
      (
        (found (goal.at.loop-stop-preserved c).In-loop-stop).1,
        (
          c.pass_next-p.auto.rows ∙ v.1.1.0,
          (
            c.pass_next-p.auto.trades ∙ v.1.1.1.0,
            (
              c.next_stop-stop-in-loop-stop.ensures,
              at_next a.d a.rows.now a.trades.now c.loop-stop.from v.1.1.1.1.1 a.time v.0 v.1.1.1.1.0 c.loop-stop-test.true c.pass_next-p.ensures,
            ),
          ),
        ),
      ),
    )

pub returns : goal.returns
returns c =
    let a = c.args in
    let v = c.loop-stop.invariant in
    at_last a.d a.rows.now a.trades.now c.loop-stop.from v.1.1.1.1.1 a.time v.0 v.1.1.1.1.0 v.1.0 c.loop-stop-test.false
