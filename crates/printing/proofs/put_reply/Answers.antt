-- A letter stands before the numbers, a newline after.
use native.Mathlib.Omega.{arith}
use Rattle.printing.proofs.Printed.{put_long, put_whole, spaced_fits}
use Rattle.printing.proofs.put_reply.Goals as goal

pub put_byte-requires : goal.put_byte-requires
put_byte-requires c =
    omega (arith, c.requires, c.put_byte-p.ensures.place, put_long c.put_byte-p.ensures, c.put_numbers-q.ensures.place, put_long c.put_numbers-q.ensures, spaced_fits c.args.numbers.now)

pub returns : goal.returns
returns c =
    put_whole _ _ c.put_byte-p.ensures c.put_numbers-q.ensures c.put_byte.ensures
