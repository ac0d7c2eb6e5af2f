-- `unpack::unpack_rest` meets its contract. Assumes nothing.
use mathlib.Core.Path.{sym}
use Rattle.unpack.proofs.Put.{rest_refused, rest_none, rest_tail}
use Rattle.unpack.proofs.unpack_rest.Goals as goal
use Rattle.unpack.proofs.unpack_rest.Goals.{then-is_some-via-then-is_some, then-is_some-via-else-is_some+then-file-blocks}

pub returns-then-is_some : goal.returns-then-is_some
returns-then-is_some c =
    elim c.then-is_some.branch [
      | then-is_some-via-then-is_some w ↦
          rest_refused _ _ _ c.unpack_blocks-done.ensures c.requires.1 (sym w.if-is_some.ensures)
      | then-is_some-via-else-is_some+then-file-blocks w ↦
          rest_none _ _ _ c.unpack_blocks-done.ensures c.requires.1 (sym w.if-is_some.ensures) w.if-file-blocks.true
    ]

pub returns : goal.returns
returns c = rest_tail _ _ _ c.unpack_blocks-done.ensures c.requires.1 (sym c.if-is_some.ensures) c.if-file-blocks.false
