-- As many as there are confirmations by the partner of each place.
use mathlib.Core.Path.{ap, ◌∙◌}
use lib.ListN.{length}
use Rattle.book.specs.declared.Dealt.{Dealt}
use Rattle.book.specs.Deals.{dealt}
use Rattle.blocks.proofs.Confirmed.{by_partners}
use Rattle.blocks.proofs.count_with.Goals as goal

pub returns : goal.returns
unfolding dealt
returns c =
    ap (λ (r : Dealt). r.made) c.write_confirmed-found.ensures.value
    ∙ ap length (by_partners c.args.rows.now c.requires.declared c.find_partners.ensures)
