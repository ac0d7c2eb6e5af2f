-- `records::numbers::put_number` meets its contract. Assumes nothing.
use mathlib.Core.Path.{ap, ◌∙◌}
use lib.Seq.{sets}
use Rattle.octets.proofs.Words.{word_digits}
use Rattle.records.proofs.numbers.put_number.Goals as goal

pub returns : goal.returns
returns c =
    c.put_bytes.ensures ∙ ap (sets c.args.b.now c.args.at) (c.to_le_bytes.ensures ∙ word_digits c.args.x c.ranges.x.fits)
