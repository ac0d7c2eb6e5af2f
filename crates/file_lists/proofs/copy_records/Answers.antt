-- `file_lists::copy_records` meets its contract: the invariant is `Copying`. Assumes nothing.
use mathlib.Core.Path.{refl}
use Rattle.file_lists.proofs.Copying.{copying_start, copying_next, copying_end}
use Rattle.file_lists.proofs.copy_records.Goals as goal

pub loop-i-init : goal.loop-i-init
loop-i-init c = copying_start _ _ _

pub loop-i-preserved : goal.loop-i-preserved
loop-i-preserved c =
    copying_next _ _ _ c.requires.0 c.loop-i.invariant c.loop-i-test.true refl c.put_bytes.ensures

pub returns : goal.returns
returns c =
    copying_end _ _ _ c.requires.0 c.requires.1 c.loop-i.invariant c.loop-i-test.false
