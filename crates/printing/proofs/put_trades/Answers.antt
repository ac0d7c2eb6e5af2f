-- The trades put so far are the front of all.
use mathlib.Core.Path.{◌≡◌, refl}
use native.Mathlib.Omega.{arith}
use Rattle.printing.proofs.Printed.{put_long}
use Rattle.printing.proofs.Replied.{trades_start, trades_room, trades_on}
use Rattle.printing.proofs.put_trades.Goals as goal

pub loop-i-init : goal.loop-i-init
loop-i-init c = trades_start c.args.trades.now

-- there is room for the trades that are left
pub put_trade-p-requires : goal.put_trade-p-requires
put_trade-p-requires c =
    let w = c.loop-i.invariant in
    let r = trades_room c.args.trades.now c.loop-i.i w (omega arith) in
    omega (arith, put_long w)

pub loop-i-preserved : goal.loop-i-preserved
loop-i-preserved c = trades_on c.args.trades.now c.loop-i.i c.loop-i.invariant (omega arith) _ refl c.put_trade-p.ensures

pub shape_of-out : goal.shape_of-out
shape_of-out c = put_long c.loop-i.invariant

pub returns : goal.returns
returns c =
    let e : c.loop-i.i ≡ c.args.n = omega arith in
    rw e at c.loop-i.invariant
