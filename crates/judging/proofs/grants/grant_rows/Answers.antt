-- `judging::grants::grant_rows` meets its contract: what is written and what is still to come is the whole. Assumes nothing.
use mathlib.Core.Path.{refl, sym, ◌∙◌}
use native.Mathlib.Omega.{arith}
use Rattle.model.specs.Book.{free}
use Rattle.judging.proofs.Granting.{granted_more, granted_all}
use Rattle.judging.proofs.grants.grant_rows.Goals as goal

pub loop-i-init : goal.loop-i-init
loop-i-init c = (refl, record { long = c.requires; within = omega arith; same = refl })

pub loop-i-preserved : goal.loop-i-preserved
unfolding free
loop-i-preserved c =
    let m = granted_more c.args.rows.now _ _ _ _ c.loop-i.invariant.1 (omega arith) refl c.grant_of.ensures c.volumes_past-v.ensures refl in
    (m.long ∙ sym c.loop-i.invariant.1.long ∙ c.loop-i.invariant.0, m)

pub shape_of-slate : goal.shape_of-slate
shape_of-slate c = c.loop-i.invariant.0

pub returns : goal.returns
returns c = granted_all c.args.rows.now _ _ _ _ c.loop-i.invariant.1 (omega arith)
