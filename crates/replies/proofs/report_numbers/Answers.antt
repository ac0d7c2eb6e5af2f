-- Each case is one clause of the definition: price, volume and surplus, as words.
use Rattle.model.specs.Replies.{report_numbers}
use Rattle.replies.specs.Words.{word, report_words}
use borrow.Author.Rules.{rules}
use mathlib.Core.Path.{ap, ◌∙◌}
use mir.Syntax.{w64}
use mir.Val.{SFits}
use mir.ValLaws.{to_z-of_z}
use Rattle.replies.proofs.Signs.{priced}
use Rattle.replies.proofs.report_numbers.Goals as goal

pub returns-in-Refused : goal.returns-in-Refused
unfolding report_words report_numbers word
returns-in-Refused c = rw c.in-Refused.is

pub returns-in-Priced : goal.returns-in-Priced
returns-in-Priced c =
    let fits : SFits w64 c.in-Priced.surplus = search rules in
    priced _ _ _ c.in-Priced.is (c.word_of.ensures ∙ ap word (to_z-of_z w64 _ fits))
