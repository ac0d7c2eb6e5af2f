-- `partners::join` meets its contract: two stores. Assumes nothing.
use Rattle.std.proofs.lemmas.List.{get_or_default}
use Rattle.model.specs.Blocks.{undeclared}
use Rattle.partners.proofs.Joining.{join_at}
use Rattle.partners.proofs.join.Goals as goal

pub returns : goal.returns
returns c =
    join_at c.args.rows.now c.args.partner.now _ _
    (get_or_default _ _ _ undeclared c.requires.p_in_bounds) (get_or_default _ _ _ undeclared c.requires.q_in_bounds)
