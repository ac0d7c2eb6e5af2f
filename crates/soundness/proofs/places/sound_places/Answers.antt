-- A map that has room for every number issued: the short one up to 65,535, else the one of all numbers. Assumes nothing.
use native.Mathlib.Omega.{arith}
use Rattle.soundness.proofs.Clauses.{says_figures}
use Rattle.soundness.proofs.Numbers.{map_fresh}
use Rattle.soundness.proofs.places.sound_places.Goals as goal

pub places_with-requires : goal.places_with-requires
places_with-requires c =
    record { day_value = c.requires; fresh_map = map_fresh _ 1_024 _ c.no_numbers.ensures (omega (arith, c.if-day-le-LAST_OF_FEW.true)) }

pub places_with-requires-else-day-le-LAST_OF_FEW : goal.places_with-requires-else-day-le-LAST_OF_FEW
places_with-requires-else-day-le-LAST_OF_FEW c =
    record { day_value = c.requires; fresh_map = map_fresh _ 15_625 _ c.no_numbers-else-day-le-LAST_OF_FEW.ensures (omega (arith, ((says_figures c.args.day).0 c.requires).3)) }
