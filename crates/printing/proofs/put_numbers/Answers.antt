-- The numbers put so far are the front of all.
use mathlib.Core.Path.{◌≡◌}
use native.Mathlib.Omega.{arith}
use lib.ListN.{length}
use lib.Seq.{take-length}
use Rattle.printing.proofs.Printed.{numbers_start, numbers_room, numbers_on, put_long}
use Rattle.printing.proofs.put_numbers.Goals as goal

pub loop-x-init : goal.loop-x-init
loop-x-init c = numbers_start c.args.numbers.now

-- there is room for the numbers that are left
pub put_number-p-requires : goal.put_number-p-requires
put_number-p-requires c =
    let w = c.loop-x.invariant in
    let r = numbers_room c.args.numbers.now c.loop-x.x-index w (omega arith) in
    omega (arith, put_long w)

pub loop-x-preserved : goal.loop-x-preserved
loop-x-preserved c = numbers_on c.args.numbers.now c.loop-x.x-index c.loop-x.invariant (omega arith) c.put_number-p.ensures

pub shape_of-out : goal.shape_of-out
shape_of-out c = put_long c.loop-x.invariant

pub returns : goal.returns
returns c =
    let e : c.loop-x.x-index ≡ length c.args.numbers.now = omega arith in
    rw (e, take-length c.args.numbers.now) at c.loop-x.invariant
