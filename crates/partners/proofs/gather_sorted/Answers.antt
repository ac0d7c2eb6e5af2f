-- `partners::gather_sorted` meets its contract. Assumes nothing.
use mathlib.Core.Path.{sym}
use native.Mathlib.Omega.{arith}
use lib.Seq.{length-take-le}
use Rattle.partners.proofs.Gathering.{gathered_within, gathered_sorted}
use Rattle.partners.proofs.gather_sorted.Goals as goal

pub slice_bounds-sort_places-end-2 : goal.slice_bounds-sort_places-end-2
slice_bounds-sort_places-end-2 c =
    let g = c.gather-count in
    sym (length-take-le _ g.new.places (omega (arith, g.ensures.upper_bound, g.auto.places)))

pub sort_places-requires : goal.sort_places-requires
sort_places-requires c =
    let g = c.gather-count in
    let long = length-take-le g.result g.new.places (omega (arith, g.ensures.upper_bound, g.auto.places)) in
    record { each = gathered_within c.args.side c.args.rows.now g.ensures.places_after; places_in_bounds = omega (arith, long, g.ensures.upper_bound, c.requires.places_in_bounds) }

pub returns : goal.returns
returns c =
    let s = c.sort_places in
    let g = c.gather-count in record { upper_bound = g.ensures.upper_bound; sorted = gathered_sorted _ _ g.new.places s.new.places g.result (omega (arith, g.ensures.upper_bound, g.auto.places)) g.ensures.places_after s.auto.places s.ensures }
