-- Before 15:05 anything may rest; from then on one side, and nothing void.
use mathlib.Core.Path.{sym, ◌∙◌}
use borrow.Author.Tests.{lt-ltb}
use Rattle.fixed_book.proofs.Readiness.{before_matching, two_sided, void_tells}
use Rattle.fixed_book.proofs.evening.rests_after_matching.Goals as goal

pub returns-then-d-lt-MATCHING_FROM : goal.returns-then-d-lt-MATCHING_FROM
returns-then-d-lt-MATCHING_FROM c =
    let early = c.if-d-lt-MATCHING_FROM.true in
    lt-ltb _ _ early ∙ before_matching _ _ early

pub returns-then-is_one_sided : goal.returns-then-is_one_sided
returns-then-is_one_sided c =
    void_tells _ _ c.if-d-lt-MATCHING_FROM.false (sym c.is_one_sided.ensures ∙ c.if-is_one_sided.true) c.reference_of.ensures
    c.has_void.ensures

pub returns-else-is_one_sided : goal.returns-else-is_one_sided
returns-else-is_one_sided c =
    c.if-is_one_sided.false ∙ two_sided _ _ c.if-d-lt-MATCHING_FROM.false (sym c.is_one_sided.ensures ∙ c.if-is_one_sided.false)
