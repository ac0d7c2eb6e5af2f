-- One number more.
use Rattle.model.specs.Figures.{with_fixed_figures}
use Rattle.fixed_calls.proofs.Entries.{issued_one}
use Rattle.fixed_calls.proofs.entering.issued_fixed.Goals as goal

pub returns : goal.returns
unfolding with_fixed_figures
returns c = issued_one c.args.d
