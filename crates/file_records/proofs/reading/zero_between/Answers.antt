-- `file_records::reading::zero_between` meets its contract. Assumes nothing.
use mathlib.Core.Path.{◌∙◌}
use lib.ListN.{take}
use lib.Dec.{eqb}
use Rattle.std.proofs.Common.{rules, tests}
use Rattle.std.proofs.lemmas.Iterator.{YieldsList-from_slice}
use Rattle.std.proofs.lemmas.Iterator.Adapters.{YieldsList-from_skip}
use Rattle.std.proofs.lemmas.Iterator.Search.{all_from_yields_List}
use Rattle.file_records.proofs.Looking.{zeros_all}
use Rattle.file_records.proofs.reading.zero_between.Goals as goal

pub returns : goal.returns
returns c =
    all_from_yields_List (λ x. eqb x 0) _ _ _ c.all.ensures.ran
    (YieldsList-from_skip c.args.from (YieldsList-from_slice (take c.args.end c.args.b.now) (search rules)) (search rules))
    (λ x b q k. search (rules, tests))
    ∙ zeros_all _
