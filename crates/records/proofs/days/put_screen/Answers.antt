-- `records::days::put_screen` meets its contract: its rows of numbers, one behind the other. Assumes nothing.
use mathlib.Core.Path.{ap, ◌∙◌}
use native.Mathlib.Omega.{arith}
use borrow.Author.Rules.{rules}
use mir.Syntax.{w64}
use mir.ValLaws.{to_z-of_z}
use Rattle.replies.specs.Words.{word}
use Rattle.records.proofs.Stored.{screen_put}
use Rattle.records.proofs.days.put_screen.Goals as goal

pub overflow_add-at-3 : goal.overflow_add-at-3
overflow_add-at-3 c = record { fits = omega (arith, c.requires, c.well_formed.0.0) }

pub returns : goal.returns
returns c =
    let a = c.args in
    -- what a signed field holds is read back from its bits
    let bits = to_z-of_z w64 a.s.surplus (search rules) in
    screen_put a.b.now a.at a.s (c.word_of.ensures ∙ ap word bits) c.put_numbers.ensures c.put_levels.ensures c.put_levels-2.ensures
    c.put_numbers-2.ensures
