-- From a sound day no event is refused with 15: it is the first rule of each call, and no other has its number. Assumes nothing.
use Prim.Native.Nat.{ℕ}
use mathlib.Core.Path.{◌≡◌, refl, sym, ◌∙◌}
use mathlib.Core.Bool.{Bool, true, false, cond, ◌||◌}
use mathlib.Core.List.{List, [], ◌∷◌}
use lib.ListN.{length, get_or}
use lib.Dec.{eqb}
use borrow.Author.Tests.{eqb-false}
use Rattle.model.specs.declared.AskedFixed.{AskedFixed}
use Rattle.model.specs.declared.AskedBlock.{AskedBlock}
use Rattle.model.specs.declared.Day.{Day}
use Rattle.model.specs.declared.BlockReply as BlockReply
use Rattle.model.specs.declared.Event as MainEvent
use Rattle.model.specs.Books.{Books}
use Rattle.model.specs.Figures.{next_block}
use Rattle.model.specs.Refusals.{Rule, ◌when◌, first_of, unsound, unsound_fixed, unsound_blocks, unsound_books}
use Rattle.model.specs.FixedCalls.{fixed_rules, fixed_entered, fixed_cancel_rules}
use Rattle.model.specs.BlockCalls.{block_trades, block_rules, block_entered}
use Rattle.model.specs.AllCalls.{clock_all_rules}
use Rattle.model.specs.Replies.{order_numbers, block_numbers, cancel_numbers, move_numbers}
use Rattle.model.specs.Words.{Each}
use Rattle.model.proofs.Rules.{skip}
use Rattle.demands.specs.Running.{is_opening, answered_by}
use Rattle.demands.proofs.FirstRules.{not_given}
use Rattle.demands.proofs.Answers.{other, event_not_15}
use Rattle.demands.proofs.Pricings.{not_unsound}
use Rattle.fixed_demands.proofs.FixedCases.{fixed_cases, cancel_cases}
use Rattle.block_demands.proofs.Keepings.{block_cases}
use Rattle.day_demands.specs.Keeping.{SoundAll, Kept}
use Rattle.day_demands.specs.Running.{WholeDay, Event, Moves, Enters, Cancels, EntersFixed, CancelsFixed, Declares, answered}
use Rattle.day_demands.proofs.Outcomes.{move_cases}

-- no rule behind one that does not hold
behind : (b : Bool) → b ≡ false → (rs : List Rule) → Each (λ (r : Rule). r.number ≡ 15 → ⊥) rs → first_of (15 when b ∷ rs) ≡ 15 → ⊥
behind b f rs h e = not_given 15 rs (eqb-false 15 0 refl) h (sym (skip 15 rs f) ∙ e)

neither : {a b : Bool} → a ≡ false → b ≡ false → a || b ≡ false
neither e f = rw (e, f)

module _ (d : Day) (s : Books) (k : SoundAll d s) where
  main_sound : unsound d s.main ≡ false
  main_sound = not_unsound d s.main k.main

  fixed_not_15 : (a : AskedFixed) (room : ℕ) → first_of (fixed_rules d a s.main s.fixed room) ≡ 15 → ⊥
  unfolding fixed_rules ◌when◌
  fixed_not_15 a room =
      behind (unsound d s.main || unsound_fixed d s.fixed) (neither main_sound k.fixed) _
      (other 2 refl, (other 3 refl, (other 19 refl, (other 6 refl, (other 7 refl, (other 8 refl, (other 20 refl, (other 10 refl, (other 11 refl, (other 13 refl, tt))))))))))

  fixed_cancel_not_15 : (account number : ℕ) → first_of (fixed_cancel_rules d account number s.main s.fixed) ≡ 15 → ⊥
  unfolding fixed_cancel_rules ◌when◌
  fixed_cancel_not_15 account number =
      behind (unsound d s.main || unsound_fixed d s.fixed) (neither main_sound k.fixed) _ (other 19 refl, (other 12 refl, tt))

  block_not_15 : (a : AskedBlock) (room : ℕ) → first_of (block_rules d a s.main s.blocks room) ≡ 15 → ⊥
  unfolding block_rules ◌when◌
  block_not_15 a room =
      behind (unsound d s.main || unsound_blocks d s.blocks) (neither main_sound k.blocks) _
      (other 2 refl, (other 3 refl, (other 21 refl, (other 23 refl, (other 7 refl, (other 22 refl, (other 8 refl, (other 10 refl, (other 11 refl, (other 13 refl, tt))))))))))

  move_not_15 : (t room : ℕ) → first_of (clock_all_rules d t s room) ≡ 15 → ⊥
  unfolding clock_all_rules unsound_books ◌when◌
  move_not_15 t room =
      behind (unsound d s.main || unsound_fixed d s.fixed || unsound_blocks d s.blocks) (neither (neither main_sound k.fixed) k.blocks) _
      (other 1 refl, (other 13 refl, tt))

-- an accepted declaration tells no refusal
accepted_block : (number : ℕ) (b : Bool) → get_or (block_numbers (cond b (BlockReply.TheVariants.Held number) (BlockReply.TheVariants.Confirmed number))) 0 0 ≡ 15 → ⊥
unfolding block_numbers
accepted_block number true = eqb-false 0 15 refl
accepted_block number false = eqb-false 0 15 refl

pub never_15 : (e : Event) (s : WholeDay) → Kept s.day s.books → get_or (answered e s) 0 0 ≡ 15 → ⊥
unfolding answered answered_by is_opening order_numbers cancel_numbers move_numbers fixed_entered block_entered
never_15 (Moves t lent) s k =
    move_cases s.day t s.books lent (λ o. get_or (move_numbers o.answer.reply) 0 0 ≡ 15 → ⊥)
    (λ _. eqb-false 0 15 refl)
    (λ _. move_not_15 s.day s.books k.sound t (length lent))
never_15 (Enters a lent) s k =
    event_not_15 (MainEvent.TheVariants.Order a) refl lent (record { day = s.day; book = s.books.main }) k.sound.main
never_15 (Cancels account number) s k =
    event_not_15 (MainEvent.TheVariants.Cancel account number) refl [] (record { day = s.day; book = s.books.main }) k.sound.main
never_15 (EntersFixed a lent) s k =
    fixed_cases s.day a s.books.main s.books.fixed lent (λ o. get_or (order_numbers o.answer.reply) 0 0 ≡ 15 → ⊥)
    (λ _. eqb-false 0 15 refl)
    (λ _. fixed_not_15 s.day s.books k.sound a (length lent))
never_15 (CancelsFixed account number) s k =
    cancel_cases s.day account number s.books.main s.books.fixed (λ o. get_or (cancel_numbers o.reply) 0 0 ≡ 15 → ⊥)
    (λ _. eqb-false 0 15 refl)
    (λ _. fixed_cancel_not_15 s.day s.books k.sound account number)
never_15 (Declares a lent) s k =
    block_cases s.day a s.books.main s.books.blocks lent (λ o. get_or (block_numbers o.answer.reply) 0 0 ≡ 15 → ⊥)
    (λ _. accepted_block (next_block s.day) (eqb (length (block_trades s.day a s.books.blocks)) 0))
    (λ _. unfold block_numbers in block_not_15 s.day s.books k.sound a (length lent))
