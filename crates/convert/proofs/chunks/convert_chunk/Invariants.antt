-- The chunk is converted up to the place that is reached. Assumes nothing.
use mathlib.Core.Path.{◌≡◌}
use lib.ListN.{length, take}
use Rattle.convert.specs.Promises.{text_of, Converts}
use Rattle.convert.proofs.chunks.convert_chunk.Given as goal

abbrev pub invariant-loop-b : goal.invariant-loop-b
invariant-loop-b l =
    (length l.out ≡ length l.initial.out) × Converts (text_of l.initial.line) (take l.b-index l.chunk) l.initial.out 0 l.out l.next l.line
