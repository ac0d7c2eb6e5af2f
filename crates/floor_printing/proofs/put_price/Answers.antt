-- A line of one number. Assumes nothing.
use Rattle.printing.proofs.Printed.{put_as}
use Rattle.floor_printing.proofs.Listing.{one_price_lem}
use Rattle.floor_printing.proofs.put_price.Goals as goal

pub returns : goal.returns
returns c = put_as (one_price_lem c.args.price) c.put_reply.ensures
