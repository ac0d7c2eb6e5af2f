-- The trades by the partner of each place; those without one stay.
use mathlib.Core.Path.{ap, ◌∙◌}
use mathlib.Core.List.{List}
use Rattle.model.specs.declared.Trade.{Trade}
use Rattle.book.specs.Writing.{fitted}
use Rattle.book.specs.Deals.{dealt}
use Rattle.blocks.proofs.Confirmed.{by_partners, left_by_partners}
use Rattle.blocks.proofs.confirm_with.Goals as goal

pub returns : goal.returns
returns c =
    let rows = c.args.rows.now in
    let trades = c.args.trades.now in
    let same = by_partners rows c.requires.declared c.find_partners.ensures in record { value = c.write_confirmed-found.ensures.value ∙ ap dealt same; trades_after = c.write_confirmed-found.ensures.trades_after ∙ ap (λ (ts : List Trade). fitted ts trades) same; rows_after = left_by_partners rows c.requires.declared c.find_partners.ensures c.close_up.ensures }
