-- A line fits the buffer. Assumes nothing.
use Rattle.std.proofs.Common.{arith}
use Rattle.printing.proofs.Printed.{line_within}
use Rattle.sixteen_places.proofs.Fits.{reply_short}
use Rattle.sixteen_places.proofs.showing.print_line.Goals as goal

pub write_out-requires : goal.write_out-requires
write_out-requires g c =
    line_within c.put_reply-end.ensures (reply_short c.args.letter c.args.numbers.now c.requires) (omega arith)
