-- The bound on shares first, then shares or money.
use mathlib.Core.Path.{◌∙◌}
use borrow.Author.Tests.{lt-leb}
use Rattle.held.proofs.Sizes.{too_many, enough_shares, by_money, money_fits}
use Rattle.held.proofs.forms.is_block.Goals as goal

pub returns-else-quantity-le-MOST_OF_A_BLOCK : goal.returns-else-quantity-le-MOST_OF_A_BLOCK
returns-else-quantity-le-MOST_OF_A_BLOCK c =
    lt-leb _ _ c.if-quantity-le-MOST_OF_A_BLOCK.false ∙ too_many _ _ c.if-quantity-le-MOST_OF_A_BLOCK.false

pub overflow_mul-result : goal.overflow_mul-result
overflow_mul-result c = record { fits = money_fits _ _ c.if-quantity-le-MOST_OF_A_BLOCK.true c.requires }

pub returns-then-quantity-ge-LEAST_SHARES : goal.returns-then-quantity-ge-LEAST_SHARES
returns-then-quantity-ge-LEAST_SHARES c =
    enough_shares _ _ c.if-quantity-le-MOST_OF_A_BLOCK.true c.if-quantity-ge-LEAST_SHARES.true

pub returns-else-quantity-ge-LEAST_SHARES : goal.returns-else-quantity-ge-LEAST_SHARES
returns-else-quantity-ge-LEAST_SHARES c = by_money _ _ c.if-quantity-le-MOST_OF_A_BLOCK.true c.if-quantity-ge-LEAST_SHARES.false
