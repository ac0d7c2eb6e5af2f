-- A space, and then the digits.
use Rattle.printing.proofs.Printed.{and_then}
use Rattle.printing.proofs.put_number.Goals as goal

pub returns : goal.returns
returns c =
    and_then c.put_byte-p.ensures c.put_digits.ensures
