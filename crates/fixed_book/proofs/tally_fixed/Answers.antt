-- All trades are at the close, so the money is the close times the shares.
use Rattle.model.specs.Figures.{with_fixed_figures}
use Rattle.fixed_book.proofs.Tallying.{tallied}
use Rattle.fixed_book.proofs.tally_fixed.Goals as goal

pub returns : goal.returns
unfolding with_fixed_figures
returns c =
    let a = c.args in
    λ os e. tallied a.d a.close a.shares os e
