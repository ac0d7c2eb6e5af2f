-- What an accepted declaration comes to: the answers where it is held and where it is confirmed, and what is known before that.
use Rattle.std.specs.Prelude.{ℕ, ◌+◌, ◌^◌, ◌≤◌, ◌<◌, ◌≡◌, List, [], ◌∷◌, length}
use Rattle.model.specs.declared.Declaration.{Declaration}
use Rattle.model.specs.declared.AskedBlock.{AskedBlock}
use Rattle.model.specs.declared.Day.{Day}
use Rattle.model.specs.declared.BlockReply as BlockReply
use Rattle.model.specs.declared.BlockAnswer.{BlockAnswer}
use Rattle.model.specs.Figures.{next_block, issue_block, tally_blocks}
use Rattle.model.specs.Lists.{keep}
use Rattle.model.specs.Blocks.{is_held}
use Rattle.model.specs.Refusals.{first_of}
use Rattle.held.specs.Meeting.{joining}
use Rattle.block_entries.specs.Rules.{asked_rules}

unfoldable pub held_answer : Day → BlockAnswer
held_answer d = record { reply = BlockReply.TheVariants.Held (next_block d); made = 0; day = issue_block d }

-- it is confirmed with y
unfoldable pub confirmed_answer : Day → Declaration → Declaration → BlockAnswer
confirmed_answer d x y =
    record {
      reply = BlockReply.TheVariants.Confirmed (next_block d);
      made = 1;
      day = tally_blocks (joining x y ∷ []) (issue_block d);
    }

-- no rule refuses it before the lent list is looked at: the first free place is known, and a number is left
pub record Taken (d : Day) (a : AskedBlock) (held : List Declaration) (free : ℕ) : Type 0 where
  pub asked : first_of (asked_rules d a) ≡ 0
  pub place : free ≡ length (keep is_held held)
  pub room : free < length held
  pub number : d.blocks.issued < 999_999

-- its number and its shares can be counted
pub record Confirmable (d : Day) (x : Declaration) : Type 0 where
  pub issued : d.blocks.issued ≤ 999_999
  pub shares : d.blocks.shares + x.quantity < 2 ^ 64
