-- `rescue::put_block` meets its contract. Assumes nothing.
use mathlib.Core.Path.{◌≡◌, ◌∙◌, ap}
use mathlib.Core.Bool.{◌&&◌}
use native.Mathlib.Omega.{arith}
use Rattle.std.proofs.lemmas.Grind.{common_steps}
use Rattle.printing.proofs.Printed.{put_as}
use Rattle.file_blocks.specs.Blocks.{right_check, own_layout}
use Rattle.rescue.proofs.Listing.{block_line, mark_byte}
use Rattle.rescue.specs.Marks.{mark}
use Rattle.rescue.proofs.put_block.Goals as goal

pub returns : goal.returns
returns c =
    let sound : c.if-right_check.sound ≡ (right_check c.args.block.now && own_layout c.args.block.now) = grind (arith, common_steps) in
    put_as (block_line _ _ c.requires.0 (c.from.ensures ∙ mark_byte c.if-right_check.sound ∙ ap mark sound) (c.from-number.ensures ∙ c.four_at.ensures)) c.put_reply.ensures
