-- Nothing is due, or one refusal. Assumes nothing.
use Rattle.std.proofs.Common.{sym, ◌∙◌}
use Rattle.printing.proofs.Printed.{nothing_put, put_as}
use Rattle.floors.specs.Floor.{no_floor}
use Rattle.wishes.specs.Wishes.{floor}
use Rattle.text.proofs.Turns.{end_left, end_none}
use Rattle.floor.proofs.Outset.{refused_16}
use Rattle.floor.proofs.serving.put_end.Goals as goal

pub returns-then-not-is_left : goal.returns-then-not-is_left
returns-then-not-is_left c =
    put_as (end_none floor no_floor refused_16 _ (sym c.is_left.ensures ∙ c.if-not-is_left.true)) nothing_put

pub returns : goal.returns
returns c =
    put_as (end_left floor no_floor refused_16 _ (sym c.is_left.ensures ∙ c.if-not-is_left.false)) c.put_refusal.ensures
