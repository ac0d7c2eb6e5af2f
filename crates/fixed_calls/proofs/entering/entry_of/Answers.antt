-- Number, shares, prices and what is left.
use Rattle.fixed_calls.proofs.Entries.{entry_is}
use Rattle.fixed_calls.proofs.entering.entry_of.Goals as goal

pub returns : goal.returns
returns c =
    let a = c.args in
    entry_is a.d a.a a.made a.shares c.levels_of.ensures (c.rest_of.ensures a.a.price c.requires.priced)
