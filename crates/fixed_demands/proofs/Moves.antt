-- A move of the clock over all lists: the proofs of its statement, together.
use Rattle.fixed_demands.specs.Moving.{Moving}
use Rattle.fixed_demands.proofs.MainPart.{main_part}
use Rattle.fixed_demands.proofs.Evenings.{evening}
use Rattle.fixed_demands.proofs.Alones.{alone}

pub moving : Moving
moving = record { main_part = main_part; evening = evening; alone = alone }
