-- `checks::book_checks::book_refusal` meets its contract: each return is a law of the rules. Assumes nothing.
use mathlib.Core.Path.{◌≡◌, sym, ◌∙◌}
use mathlib.Core.Bool.{false}
use Rattle.model.specs.Halts.{phase_now}
use Rattle.model.specs.Lists.{all}
use Rattle.model.specs.Book.{is_live}
use Rattle.model.specs.Entry.{base}
use Rattle.checks.specs.Checks.{outside_of}
use Rattle.checks.proofs.BookRules.{
  base_is_price,
  outside_is,
  book_range,
  book_full,
  book_issued,
  book_none,
  full_of,
  free_of,
}
use Rattle.checks.proofs.book_checks.book_refusal.Goals as goal
use Rattle.checks.proofs.book_checks.book_refusal.Goals.{After-is_outside, Else-free_from-rows}

pub is_outside-requires : goal.is_outside-requires
is_outside-requires c =
    let a = c.args in
    record { base_value = base_is_price a.d a.a a.rows.now c.requires.phase_value c.requires.own_value c.requires.other_value c.requires.ranked.stands c.requires.d_value c.base_of.ensures; price_value = c.requires.price_value }

tested : (c : After-is_outside) → c.is_outside.result ≡ outside_of c.args.a (phase_now c.args.d) (base c.args.d c.args.a.side c.args.rows.now)
tested c =
    let a = c.args in
    outside_is a.d a.a a.rows.now c.requires.phase_value c.requires.own_value c.requires.other_value c.base_of.ensures c.is_outside.ensures

pub returns-then-is_outside : goal.returns-then-is_outside
returns-then-is_outside c =
    book_range c.args.d c.args.a c.args.rows.now (sym (tested (goal.at.returns-then-is_outside c).After-is_outside) ∙ c.if-is_outside.true)

-- past the second test some place is free
some-free : (c : Else-free_from-rows) → all is_live c.args.rows.now ≡ false
some-free c =
    free_of c.args.rows.now c.requires.ranked c.free_from.ensures c.if-free_from-rows.false

pub returns-then-free_from-rows : goal.returns-then-free_from-rows
returns-then-free_from-rows c =
    book_full c.args.d c.args.a c.args.rows.now (sym (tested (goal.at.returns-then-free_from-rows c).After-is_outside) ∙ c.if-is_outside.false)
    (full_of c.args.rows.now c.requires.ranked c.free_from.ensures c.if-free_from-rows.true)

pub returns-then-d-eq-LAST_NUMBER : goal.returns-then-d-eq-LAST_NUMBER
returns-then-d-eq-LAST_NUMBER c =
    book_issued c.args.d c.args.a c.args.rows.now (sym (tested (goal.at.returns-then-d-eq-LAST_NUMBER c).After-is_outside) ∙ c.if-is_outside.false) (some-free (goal.at.returns-then-d-eq-LAST_NUMBER c).Else-free_from-rows) c.if-d-eq-LAST_NUMBER.true

pub returns : goal.returns
returns c =
    book_none c.args.d c.args.a c.args.rows.now (sym (tested (goal.at.returns c).After-is_outside) ∙ c.if-is_outside.false) (some-free (goal.at.returns c).Else-free_from-rows) c.if-d-eq-LAST_NUMBER.false
