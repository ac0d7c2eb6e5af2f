-- The answers to a declaration that is held and to one that is confirmed, from the figures that they leave.
use mathlib.Core.Path.{◌≡◌, refl, ap, ◌∙◌}
use mathlib.Core.Bool.{true}
use mathlib.Core.List.{List, [], ◌∷◌}
use Rattle.model.specs.declared.Declaration.{Declaration}
use Rattle.model.specs.declared.Trade.{Trade}
use Rattle.model.specs.declared.Day.{Day}
use Rattle.model.specs.declared.BlockReply.TheVariants.{Held, Confirmed}
use Rattle.model.specs.declared.BlockAnswer.{BlockAnswer}
use Rattle.model.specs.Matching.{filled}
use Rattle.model.specs.Figures.{with_block_figures, tally_blocks, issue_block}
use Rattle.model.specs.Blocks.{fits}
use Rattle.held.specs.Meeting.{joining}
use Rattle.blocks.proofs.Entered.{joined_shares}
use Rattle.block_entries.specs.Entries.{held_answer, confirmed_answer}

pub answer_held : (d : Day) {next : Day} → next ≡ issue_block d → ◌≡◌ {A = BlockAnswer} (record { reply = Held next.blocks.issued; made = 0; day = next }) (held_answer d)
unfolding held_answer issue_block with_block_figures
answer_held d e = rw e

pub issued_shares : (d : Day) {next : Day} → next ≡ issue_block d → next.blocks.shares ≡ d.blocks.shares
unfolding issue_block with_block_figures
issued_shares d e = ap (λ (x : Day). x.blocks.shares) e

pub answer_confirmed :
    (d : Day) (x y : Declaration) {next tallied : Day}
    → fits x y ≡ true
    → next ≡ issue_block d
    → ((ts : List Trade) → filled ts ≡ x.quantity → tallied ≡ tally_blocks ts next)
    → ◌≡◌ {A = BlockAnswer} (record { reply = Confirmed tallied.blocks.issued; made = 1; day = tallied }) (confirmed_answer d x y)
unfolding confirmed_answer
answer_confirmed d x y {next} {tallied} f e t =
    let same : tallied ≡ tally_blocks (joining x y ∷ []) (issue_block d) = t (joining x y ∷ []) (joined_shares x y f) ∙ ap (tally_blocks (joining x y ∷ [])) e in
    rw same (unfold tally_blocks issue_block with_block_figures in refl)
