-- `file_blocks::reading::check_of` meets its contract: the invariant is `Weighing`. Assumes nothing.
use mathlib.Core.Path.{◌≡◌, sym, ◌∙◌}
use native.Mathlib.Omega.{arith}
use Prim.Native.Nat.{◌<◌}
use lib.ListN.{length, get_or, take}
use lib.Seq.{length-take-le, get_or-take}
use Rattle.file_blocks.proofs.Looking.{weighing_next, weighing_end}
use Rattle.file_blocks.proofs.reading.check_of.Goals as goal

pub slice_bounds-byte-items-end : goal.slice_bounds-byte-items-end
slice_bounds-byte-items-end c = sym (length-take-le 508 c.args.block.now (omega arith))

pub loop-i-preserved : goal.loop-i-preserved
loop-i-preserved c =
    let long : length (take 508 c.args.block.now) ≡ 508 = length-take-le 508 c.args.block.now (omega arith) in
    let inside : c.loop-i.i < 508 = omega arith in
    let byte : c.from.result ≡ get_or c.args.block.now c.loop-i.i 0 = c.from.ensures ∙ get_or-take 508 c.args.block.now c.loop-i.i 0 inside in
    let fits = c.type_inv.block c.loop-i.i in
    weighing_next c.args.block.now c.requires c.loop-i.invariant inside byte (omega (arith, fits.fits))

pub returns : goal.returns
returns c =
    let long : length (take 508 c.args.block.now) ≡ 508 = length-take-le 508 c.args.block.now (omega arith) in
    weighing_end _ c.requires c.loop-i.invariant (omega arith)
