-- The rules on what is asked.
use mathlib.Core.Path.{refl}
use borrow.Author.Tests.{eqb-false}
use Rattle.model.specs.declared.AskedBlock.{AskedBlock}
use Rattle.model.specs.declared.Day.{Day}
use Rattle.model.specs.Refusals.{◌when◌}
use Rattle.model.proofs.Rules.{Numbered}
use Rattle.block_entries.specs.Rules.{asked_rules}

pub asked_numbered : (d : Day) (a : AskedBlock) → Numbered (asked_rules d a)
unfolding asked_rules ◌when◌
asked_numbered d a =
    (eqb-false 2 0 refl, (eqb-false 3 0 refl, (eqb-false 21 0 refl, (eqb-false 23 0 refl, (eqb-false 7 0 refl, (eqb-false 22 0 refl, (eqb-false 8 0 refl, tt)))))))
