-- Price and volume, and the surplus with its sign. Assumes nothing.
use mir.Syntax.{w64}
use mir.ValLaws.{to_z-of_z}
use Rattle.printing.proofs.Printed.{put_as}
use Rattle.floor_printing.proofs.Signing.{priced_line}
use Rattle.floor_printing.proofs.put_priced.Goals as goal

pub returns : goal.returns
returns c =
    put_as (priced_line c.args.price c.args.volume (to_z-of_z w64 _ c.ranges.surplus)) c.put_signed_reply.ensures
