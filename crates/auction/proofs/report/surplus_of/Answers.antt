-- The difference of two sums over a book fits.
use mathlib.Core.Path.{ap, ◌∙◌}
use lib.IntN.{ℤ}
use mir.Syntax.{w64}
use mir.Val.{to_z, of_z}
use mir.ValLaws.{to_z-of_z}
use Rattle.auction.proofs.Signed.{difference_fits, difference_is}
use Rattle.auction.proofs.report.surplus_of.Goals as goal

pub overflow_sub-result : goal.overflow_sub-result
overflow_sub-result c =
    rw (difference_is c.args.demand c.args.supply c.requires.0 c.requires.1)
    (difference_fits c.args.demand c.args.supply c.requires.0 c.requires.1)

pub returns : goal.returns
returns c =
    ap (λ (z : ℤ). to_z w64 (of_z w64 z)) (difference_is c.args.demand c.args.supply c.requires.0 c.requires.1)
    ∙ to_z-of_z w64 _ (difference_fits c.args.demand c.args.supply c.requires.0 c.requires.1)
