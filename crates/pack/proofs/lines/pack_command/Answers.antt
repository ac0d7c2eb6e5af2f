-- `pack::lines::pack_command` meets its contract. Assumes nothing.
use mathlib.Core.Path.{sym, ◌∙◌}
use Rattle.pack.proofs.LineByLine.{packs_malformed, packs_wide, packs_stored}
use Rattle.pack.proofs.lines.pack_command.Goals as goal

pub returns-in_default : goal.returns-in_default
returns-in_default c = packs_malformed _ _ _ _ _ c.in_default.is c.tell-told.ensures c.left_out.ensures

pub returns-then-is_wide : goal.returns-then-is_wide
returns-then-is_wide c = packs_wide _ _ _ _ _ _ c.in-Asks.is c.is_wide.ensures c.if-is_wide.true c.tell-told-then-is_wide.ensures c.left_out-then-is_wide.ensures

pub store-filed-requires : goal.store-filed-requires
store-filed-requires c = let s = c.requires in
    (s.0, s.1, sym c.is_wide.ensures ∙ c.if-is_wide.false)

pub returns : goal.returns
returns c = packs_stored _ _ _ _ _ _ c.in-Asks.is c.is_wide.ensures c.if-is_wide.false c.store-filed.ensures c.stored.ensures
