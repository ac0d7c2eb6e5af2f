-- Each answer is one law of a line: unended, too long, by its first bytes, and by what was read after them. Assumes nothing.
use mathlib.Core.Path.{sym, ap, ◌∙◌}
use mathlib.Core.Logic.{⊎_elim}
use native.Mathlib.Omega.{arith}
use Rattle.parsing.specs.Words.{phrase_in}
use Rattle.parsing.proofs.Forms.{unended_form, long_form, blank_form, space_form, other_form, lone_form, letter_form}
use Rattle.parsing.proofs.form_of.Goals as goal

pub returns-then-not-ended : goal.returns-then-not-ended
returns-then-not-ended c =
    let s = c.args.line.now in
    sym (⊎_elim (λ w. unended_form s _ w) (λ w. long_form s _ w.1) c.then-not-ended.either)

pub returns-in_err-letter : goal.returns-in_err-letter
returns-in_err-letter c =
    ap phrase_in c.from_residual.ensures
    ∙ blank_form c.args.line.now _ c.if-not-ended.false c.if-line-gt-LONGEST_LINE.false c.in_err-letter.ensures.cases

pub returns-then-letter-eq32 : goal.returns-then-letter-eq32
returns-then-letter-eq32 c =
    space_form c.args.line.now _ c.if-not-ended.false c.if-line-gt-LONGEST_LINE.false _ _ c.in_ok-letter.ensures.cases.0 c.if-letter-eq32.true

pub returns-in-None : goal.returns-in-None
returns-in-None c =
    lone_form c.args.line.now _ c.if-not-ended.false c.if-line-gt-LONGEST_LINE.false _ _ c.in_ok-letter.ensures.cases.0 c.if-letter-eq32.false c.in-None.ensures.cases

pub returns-in-Some-eq32-default : goal.returns-in-Some-eq32-default
returns-in-Some-eq32-default c =
    c.numbered.ensures
    ∙ letter_form c.args.line.now _ c.if-not-ended.false c.if-line-gt-LONGEST_LINE.false _ _ c.in_ok-letter.ensures.cases.0 c.if-letter-eq32.false
    _ _ c.in-Some-eq32-default.ensures.cases.0 c.in-Some-eq32-default.field-0-0-test

pub returns-in-Some : goal.returns-in-Some
returns-in-Some c =
    other_form c.args.line.now _ c.if-not-ended.false c.if-line-gt-LONGEST_LINE.false _ _ c.in_ok-letter.ensures.cases.0 c.if-letter-eq32.false
    _ _ c.in-Some.ensures.cases.0 (omega arith)
