-- `partners::find_with` meets its contract. Assumes nothing.
use mathlib.Core.Path.{sym}
use native.Mathlib.Omega.{arith}
use lib.Seq.{length-take-le}
use Rattle.partners.proofs.find_with.Goals as goal

pub slice_bounds-pair_up-end-2 : goal.slice_bounds-pair_up-end-2
slice_bounds-pair_up-end-2 c =
    let g = c.gather_sorted-buying in
    sym (length-take-le _ g.new.places (omega (arith, g.ensures.upper_bound, g.auto.places)))

pub slice_bounds-pair_up-end-4 : goal.slice_bounds-pair_up-end-4
slice_bounds-pair_up-end-4 c =
    let g = c.gather_sorted-selling in
    sym (length-take-le _ g.new.places (omega (arith, g.ensures.upper_bound, g.auto.places)))

pub pair_up-requires-clause-both_sorted : goal.pair_up-requires-clause-both_sorted
pair_up-requires-clause-both_sorted c =
    record { buying = c.gather_sorted-buying.ensures.sorted; selling = c.gather_sorted-selling.ensures.sorted }
