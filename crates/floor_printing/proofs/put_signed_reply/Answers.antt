-- Letter, numbers, the one with a sign and newline one after the other. Assumes nothing.
use mathlib.Core.Path.{ap}
use mathlib.Core.List.{◌∷◌}
use native.Mathlib.Omega.{arith}
use lib.IntN.{ℤ}
use mir.Syntax.{w64}
use mir.Val.{to_z, of_z}
use mir.ValLaws.{to_z-of_z}
use Rattle.printing.proofs.Printed.{put_as, put_long, spaced_fits}
use Rattle.floors.specs.Floor.{signed}
use Rattle.floor_printing.proofs.Signing.{signed_fits, put_signed_whole}
use Rattle.floor_printing.proofs.put_signed_reply.Goals as goal

pub put_signed-s-requires : goal.put_signed-s-requires
put_signed-s-requires c =
    omega (arith, c.requires, c.put_byte-p.ensures.place, put_long c.put_byte-p.ensures, c.put_numbers-q.ensures.place, put_long c.put_numbers-q.ensures, spaced_fits c.args.numbers.now)

pub put_byte-requires : goal.put_byte-requires
put_byte-requires c =
    omega (arith, c.requires, c.put_byte-p.ensures.place, put_long c.put_byte-p.ensures, c.put_numbers-q.ensures.place, put_long c.put_numbers-q.ensures, spaced_fits c.args.numbers.now, c.put_signed-s.ensures.place, put_long c.put_signed-s.ensures, signed_fits (to_z w64 (of_z w64 c.args.z)))

pub returns : goal.returns
returns c =
    put_signed_whole c.args.letter c.args.numbers.now c.args.z c.put_byte-p.ensures c.put_numbers-q.ensures
    (put_as (ap (λ (z : ℤ). 32 ∷ signed z) (to_z-of_z w64 _ c.ranges.z)) c.put_signed-s.ensures) c.put_byte.ensures
