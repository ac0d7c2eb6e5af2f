-- What the read consumed is what stands in the buffer from the kept bytes on. Assumes nothing.
use Rattle.std.proofs.Common.{sym, subst}
use Rattle.std.specs.Io.KnownBytes.{Consumes}
use Rattle.streams.proofs.Filling.{brought}
use Rattle.streams.proofs.fill.Goals as goal

pub returns-in-Ok-clause-reads : goal.returns-in-Ok-clause-reads
returns-in-Ok-clause-reads g c =
    subst (Consumes _ _) (sym (brought _ _ _ _ _ c.requires c.in-Ok.ensures.bound.0)) c.in-Ok.ensures.bytes.0
