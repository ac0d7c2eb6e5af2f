-- The first test that fails gives its number.
use mathlib.Core.Path.{sym, ◌∙◌}
use borrow.Author.Tests.{eq-eqb, ne_eqb, le-leb, lt-leb}
use Rattle.model.specs.Refusals.{◌when◌, first_of}
use Rattle.held.proofs.Sizes.{band_only}
use Rattle.block_entries.specs.Rules.{asked_rules}
use Rattle.block_entries.proofs.checks.asked_refusal.Goals as goal

pub returns-then-a-gt1 : goal.returns-then-a-gt1
unfolding asked_rules first_of ◌when◌
returns-then-a-gt1 c =
    rw (lt-leb _ _ c.if-a-gt1.true)

pub returns-then-lacks_account : goal.returns-then-lacks_account
unfolding asked_rules first_of ◌when◌
returns-then-lacks_account c =
    rw (le-leb _ _ c.if-a-gt1.false, sym c.lacks_account.ensures ∙ c.if-lacks_account.true)

pub returns-then-not-is_long_hours : goal.returns-then-not-is_long_hours
unfolding asked_rules first_of ◌when◌
returns-then-not-is_long_hours c =
    rw (le-leb _ _ c.if-a-gt1.false, sym c.lacks_account.ensures ∙ c.if-lacks_account.false, sym c.is_long_hours.ensures ∙ c.if-not-is_long_hours.true)

pub returns-then-d-eq0 : goal.returns-then-d-eq0
unfolding asked_rules first_of ◌when◌
returns-then-d-eq0 c =
    rw (le-leb _ _ c.if-a-gt1.false, sym c.lacks_account.ensures ∙ c.if-lacks_account.false, sym c.is_long_hours.ensures ∙ c.if-not-is_long_hours.false, eq-eqb _ _ c.if-d-eq0.true)

pub returns-then-not-is_price : goal.returns-then-not-is_price
unfolding asked_rules first_of ◌when◌
returns-then-not-is_price c =
    rw (le-leb _ _ c.if-a-gt1.false, sym c.lacks_account.ensures ∙ c.if-lacks_account.false, sym c.is_long_hours.ensures ∙ c.if-not-is_long_hours.false, ne_eqb _ _ c.if-d-eq0.false, sym c.is_price.ensures ∙ c.if-not-is_price.true)

pub is_block-requires : goal.is_block-requires
is_block-requires c = sym c.is_price.ensures ∙ c.if-not-is_price.false

pub returns-then-not-is_block : goal.returns-then-not-is_block
unfolding asked_rules first_of ◌when◌
returns-then-not-is_block c =
    rw (le-leb _ _ c.if-a-gt1.false, sym c.lacks_account.ensures ∙ c.if-lacks_account.false, sym c.is_long_hours.ensures ∙ c.if-not-is_long_hours.false, ne_eqb _ _ c.if-d-eq0.false, sym c.is_price.ensures ∙ c.if-not-is_price.false, sym c.is_block.ensures ∙ c.if-not-is_block.true)

pub returns-then-not-in_band : goal.returns-then-not-in_band
unfolding asked_rules first_of ◌when◌
returns-then-not-in_band c =
    let price = sym c.is_price.ensures ∙ c.if-not-is_price.false in
    rw (le-leb _ _ c.if-a-gt1.false, sym c.lacks_account.ensures ∙ c.if-lacks_account.false, sym c.is_long_hours.ensures ∙ c.if-not-is_long_hours.false, ne_eqb _ _ c.if-d-eq0.false, price, sym c.is_block.ensures ∙ c.if-not-is_block.false, sym (band_only _ _ c.requires price c.in_band.ensures) ∙ c.if-not-in_band.true)

pub returns : goal.returns
unfolding asked_rules first_of ◌when◌
returns c =
    let price = sym c.is_price.ensures ∙ c.if-not-is_price.false in
    rw (le-leb _ _ c.if-a-gt1.false, sym c.lacks_account.ensures ∙ c.if-lacks_account.false, sym c.is_long_hours.ensures ∙ c.if-not-is_long_hours.false, ne_eqb _ _ c.if-d-eq0.false, price, sym c.is_block.ensures ∙ c.if-not-is_block.false, sym (band_only _ _ c.requires price c.in_band.ensures) ∙ c.if-not-in_band.false)
