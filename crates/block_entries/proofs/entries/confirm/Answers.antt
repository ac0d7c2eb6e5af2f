-- The trade is written, the partner is taken out, and the figures are counted.
use mathlib.Core.Path.{ap, ◌∙◌}
use native.Mathlib.Omega.{arith}
use lib.ListN.{set}
use Rattle.std.proofs.lemmas.List.{get_or_default}
use Rattle.model.specs.Blocks.{undeclared}
use Rattle.model.specs.declared.Trade.{Trade}
use Rattle.held.specs.Meeting.{joining}
use Rattle.block_entries.proofs.Answers.{issued_shares, answer_confirmed}
use Rattle.block_entries.proofs.entries.confirm.Goals as goal

pub tally_blocks-next-requires : goal.tally_blocks-next-requires
tally_blocks-next-requires c =
    omega (arith, issued_shares c.args.d c.issued_one.ensures, c.requires.confirmable.shares)

pub returns : goal.returns
returns c =
    let a = c.args in
    let trade = c.join-trade.ensures ∙ ap (joining a.x) (get_or_default _ _ _ undeclared c.requires.place_in_bounds) in record { value = answer_confirmed a.d a.x _ c.requires.place_value c.issued_one.ensures c.tally_blocks-next.ensures; trades_after = c.put_trade.ensures ∙ ap (λ (t : Trade). set a.trades.now 0 t) trade; rows_after = c.take_out.ensures }
