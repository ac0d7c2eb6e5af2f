-- `checks::book_checks::base_of` meets its contract: each return is a law of the base. Assumes nothing.
use Rattle.checks.proofs.BookRules.{base_other, base_own, base_last}
use Rattle.checks.proofs.book_checks.base_of.Goals as goal

pub returns-then-other-ne0 : goal.returns-then-other-ne0
returns-then-other-ne0 c = base_other c.args.d c.args.own c.args.other c.if-other-ne0.true

pub returns-then-own-ne0 : goal.returns-then-own-ne0
returns-then-own-ne0 c =
    let a = c.args in
    base_own a.d a.own a.other c.if-other-ne0.false c.if-own-ne0.true

pub returns : goal.returns
returns c =
    let a = c.args in
    base_last a.d a.own a.other c.if-other-ne0.false c.if-own-ne0.false c.reference_of.ensures
