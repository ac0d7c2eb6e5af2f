-- The prices put so far are the run's front. Assumes nothing.
use Prim.Native.Nat.{◌+◌, ◌-◌}
use mathlib.Core.Path.{◌≡◌}
use native.Mathlib.Omega.{arith}
use Rattle.printing.proofs.Printed.{put_long}
use Rattle.floor_printing.proofs.Listing.{prices_start, prices_room, prices_on}
use Rattle.floor_printing.proofs.put_prices.Goals as goal

pub loop-price-init : goal.loop-price-init
loop-price-init c =
    let none : c.args.first - c.args.first ≡ 0 = omega arith in
    rw none (prices_start c.args.first)

pub put_price-p-requires : goal.put_price-p-requires
put_price-p-requires c =
    let w = c.loop-price.invariant in
    omega (arith, c.requires.1, prices_room c.args.first (c.loop-price.price - c.args.first) w, put_long w)

pub loop-price-preserved : goal.loop-price-preserved
loop-price-preserved c =
    let first = c.args.first in
    let price = c.loop-price.price in
    let next : price - first + 1 ≡ price + 1 - first = omega arith in
    rw next at (prices_on first (price - first) c.loop-price.invariant price (omega arith) c.put_price-p.ensures)

pub shape_of-out : goal.shape_of-out
shape_of-out c = put_long c.loop-price.invariant

pub returns : goal.returns
returns c =
    let all : c.loop-price.price - c.args.first ≡ c.args.n = omega arith in
    rw all at c.loop-price.invariant
