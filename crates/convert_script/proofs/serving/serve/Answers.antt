-- The output has room for the whole chunk. Assumes nothing.
use Rattle.std.proofs.Common.{sym, length-take-le}
use Rattle.convert.proofs.Steps.{shown_within}
use Rattle.convert_script.proofs.serving.serve.Goals as goal

pub slice_bounds-write_out-end : goal.slice_bounds-write_out-end
slice_bounds-write_out-end g c = shown_within c.convert_chunk.ensures _ c.in-Some.is c.requires

pub slice_bounds-write_out-end-in-Some : goal.slice_bounds-write_out-end-in-Some
slice_bounds-write_out-end-in-Some g c =
    sym (length-take-le c.in-Some.end c.convert_chunk.new.out (shown_within c.convert_chunk.ensures _ c.in-Some.is c.requires))
