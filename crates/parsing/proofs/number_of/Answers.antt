-- The value, and whether all are digits, of what is left of the word.
use mathlib.Core.Path.{sym, ap, ◌∙◌}
use native.Mathlib.Omega.{arith}
use Rattle.model.specs.Lines.{is_digit}
use Rattle.parsing.specs.Words.{found}
use Rattle.parsing.proofs.Words.{not_bare, digit_bad, value_bad, reading_on, reading_ends}
use Rattle.parsing.proofs.number_of.Goals as goal

pub returns-then-not-is_bare : goal.returns-then-not-is_bare
returns-then-not-is_bare c = ap found (sym (not_bare _ (sym c.is_bare.ensures ∙ c.if-not-is_bare.true)))

pub returns-then-not-is_ascii_digit : goal.returns-then-not-is_ascii_digit
unfolding is_digit
returns-then-not-is_ascii_digit c =
    ap found (sym (digit_bad _ _ _ c.loop-b.invariant c.loop-b-test.true (sym c.is_ascii_digit.ensures.value ∙ c.if-not-is_ascii_digit.true)))

pub returns-then-value-gt-GREATEST : goal.returns-then-value-gt-GREATEST
returns-then-value-gt-GREATEST c =
    let e = c.from.ensures in
    ap found (sym (value_bad _ _ _ c.loop-b.invariant c.loop-b-test.true (omega arith)))

pub loop-b-preserved : goal.loop-b-preserved
unfolding is_digit
loop-b-preserved c =
    let e = c.from.ensures in
    rw c.from.ensures
    (reading_on _ _ _ c.loop-b.invariant c.loop-b-test.true (sym c.is_ascii_digit.ensures.value ∙ c.if-not-is_ascii_digit.false) (omega arith))

pub returns : goal.returns
returns c = ap found (sym (reading_ends _ _ _ c.loop-b.invariant c.loop-b-test.false))
