-- The chunk is converted up to the place that is reached. Assumes nothing.
use Prim.Native.Nat.{◌*◌, ◌≤◌}
use mathlib.Core.Path.{refl, ◌∙◌}
use native.Mathlib.Omega.{arith}
use borrow.Author.Rules.{rules}
use lib.ListN.{length}
use Rattle.printing.proofs.Printed.{put_long}
use Rattle.convert.proofs.Pendings.{all_remembered}
use Rattle.convert.proofs.Steps.{converts_none, next_room, converts_on, refused_short, converted_whole}
use Rattle.convert.proofs.chunks.convert_chunk.Goals as goal
use Rattle.convert.proofs.chunks.convert_chunk.Goals.{Else-out-chunk}

-- three bytes for each byte of the chunk
room : (c : Else-out-chunk) → 3 * length c.args.chunk.now ≤ length c.args.out.now
room c = omega (arith, c.if-out-chunk.false)

pub returns-then-out-chunk : goal.returns-then-out-chunk
returns-then-out-chunk c = refused_short c.args.line.now _ _ c.if-out-chunk.true

pub loop-b-init : goal.loop-b-init
loop-b-init c = (refl, converts_none _ _ _ (all_remembered _ _ (search rules)))

pub convert_byte-next-requires : goal.convert_byte-next-requires
convert_byte-next-requires c =
    next_room _ _ _ _ _ _ _ c.loop-b.invariant.1 c.loop-b-test.true (room (goal.at.convert_byte-next-requires c).Else-out-chunk)

pub loop-b-preserved : goal.loop-b-preserved
loop-b-preserved c = (
  put_long c.convert_byte-next.ensures.text ∙ c.loop-b.invariant.0,
  converts_on _ _ _ _ _ _ _ c.loop-b.invariant.1 c.loop-b-test.true c.convert_byte-next.ensures,
)

pub returns : goal.returns
returns c =
    converted_whole _ _ _ _ c.loop-b.b-index _ _ (room (goal.at.returns c).Else-out-chunk) c.loop-b-test.false c.loop-b.invariant.1
