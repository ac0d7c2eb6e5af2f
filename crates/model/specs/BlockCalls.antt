-- A declaration of a block trade (3.6, 02: #108): its refusals in order, and what it does where none holds. None can be cancelled.
use Rattle.std.specs.Prelude.{ℕ, not, ◌||◌, List, [], ◌∷◌, ◌++◌, length, leb, ltb, eqb, if◌then◌else◌}
use Rattle.model.specs.declared.Order.{Order}
use Rattle.model.specs.declared.Declaration.{Declaration}
use Rattle.model.specs.declared.AskedBlock.{AskedBlock}
use Rattle.model.specs.declared.Trade.{Trade}
use Rattle.model.specs.declared.Day.{Day}
use Rattle.model.specs.declared.BlockReply as BlockReply
use Rattle.model.specs.declared.BlockAnswer.{BlockAnswer}
use Rattle.model.specs.Lists.{keep, all}
use Rattle.model.specs.Clock.{long_hours, confirming_from}
use Rattle.model.specs.Limits.{is_price, in_band}
use Rattle.model.specs.Figures.{next_block, issue_block, tally_blocks}
use Rattle.model.specs.Blocks.{is_held, is_block, confirmations, unnamed, held_in}
use Rattle.model.specs.Refusals.{Rule, ◌when◌, first_of, unsound, unsound_blocks}
use Rattle.model.specs.Calls.{written}

-- the declarations with this one behind all that came before it
unfoldable pub declaring : Day → AskedBlock → List Declaration → List Declaration
declaring d a held =
    keep is_held held
    ++ (record {
      side = a.side;
      account = a.account;
      counter = a.counter;
      quantity = a.quantity;
      price = a.price;
      agreement = a.agreement;
      number = next_block d;
    }
    ∷ [])

-- its confirmation: until 15:00 it is only held
unfoldable pub block_trades : Day → AskedBlock → List Declaration → List Trade
block_trades d a held = if leb confirming_from d.time then confirmations (declaring d a held) else []

unfoldable pub block_rules : Day → AskedBlock → List Order → List Declaration → ℕ → List Rule
block_rules d a main held room =
    15 when (unsound d main || unsound_blocks d held)
    ∷ 2 when (not (leb a.side 1))
    ∷ 3 when (eqb a.account 0 || eqb a.counter 0)
    ∷ 21 when (not (long_hours d.time))
    ∷ 23 when (eqb d.limited 0)
    ∷ 7 when (not (is_price a.price))
    ∷ 22 when (not (is_block a.price a.quantity))
    ∷ 8 when (not (in_band d.close a.price))
    ∷ 10 when (all is_held held)
    ∷ 11 when (eqb d.blocks.issued 999_999)
    ∷ 13 when (ltb room (length (block_trades d a held)))
    ∷ []

pub record BlockOutcome : Type 0 where
  pub answer : BlockAnswer
  pub held : List Declaration
  pub trades : List Trade

unfoldable pub block_entered : Day → AskedBlock → List Declaration → List Trade → BlockOutcome
block_entered d a held lent =
    let ts : List Trade = block_trades d a held in
    record {
      answer =
          record {
            reply =
                if eqb (length ts) 0
                then BlockReply.TheVariants.Held (next_block d)
                else BlockReply.TheVariants.Confirmed (next_block d);
            made = length ts;
            day = tally_blocks ts (issue_block d);
          };
      held = held_in (length held) (unnamed ts (declaring d a held));
      trades = written ts lent;
    }

-- the main book is only read
unfoldable pub block_call : Day → AskedBlock → List Order → List Declaration → List Trade → BlockOutcome
block_call d a main held lent =
    let n : ℕ = first_of (block_rules d a main held (length lent)) in
    if eqb n 0
    then block_entered d a held lent
    else
    record {
      answer = record { reply = BlockReply.TheVariants.Refused n; made = 0; day = d };
      held = held;
      trades = lent;
    }
