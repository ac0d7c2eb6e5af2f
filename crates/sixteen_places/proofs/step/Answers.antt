-- The book that is handed back is the call's. Assumes nothing.
use Rattle.std.proofs.Common.{ap, ◌∙◌, replicate}
use Rattle.model.specs.declared.Trade.{Trade}
use Rattle.model.specs.Calls.{Outcome}
use Rattle.lent.specs.declared.Answer.{Answer}
use Rattle.lent.specs.Calls.{call_of}
use Rattle.sixteen_places.proofs.step.Goals as goal

pub returns : goal.returns
returns g c =
    ap (λ (o : Outcome Answer). o.book) c.take_on_sixteen-handed.ensures
    ∙ ap (λ (t : Trade). (call_of c.args.event c.args.s.day c.args.s.book (replicate 16 t)).book) c.no_trade-trades.ensures
