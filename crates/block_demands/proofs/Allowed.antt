-- A declaration that no rule refuses: what that says of it and of the day, and that it may be held. Assumes nothing.
use Prim.Native.Nat.{ℕ, suc, ◌≤◌, ◌<◌}
use mathlib.Core.Path.{◌≡◌, refl}
use mathlib.Core.Logic.{⊎_elim}
use mathlib.Core.Bool.{Bool, true, false, ◌&&◌, ◌||◌}
use mathlib.Core.List.{List}
use native.Mathlib.Omega.{arith}
use lib.Dec.{leb, ltb, eqb}
use borrow.Author.Tests.{leb-true, eqb-false, ltb-true, lt-ltb, not-false}
use Rattle.model.specs.declared.Order.{Order}
use Rattle.model.specs.declared.AskedBlock.{AskedBlock}
use Rattle.model.specs.declared.Declaration.{Declaration}
use Rattle.model.specs.declared.Day.{Day}
use Rattle.model.specs.Lists.{all}
use Rattle.model.specs.Clock.{long_hours}
use Rattle.model.specs.Limits.{is_price, in_band}
use Rattle.model.specs.Figures.{next_block}
use Rattle.model.specs.Blocks.{is_held, is_block}
use Rattle.model.specs.Sound.{has_places, sound}
use Rattle.model.specs.Refusals.{◌when◌, first_of, unsound, unsound_blocks}
use Rattle.model.specs.BlockCalls.{block_rules}
use Rattle.model.specs.Words.{Price, Sound}
use Rattle.model.proofs.Bools.{and_left, and_right, not_both}
use Rattle.model.proofs.Rules.{Numbered, NoneHolds, none_holds}
use Rattle.soundness.specs.SoundDay.{InBand}
use Rattle.soundness.proofs.Says.{Says, says_le, says_and, says_or}
use Rattle.soundness.proofs.Clauses.{says_price, says_band}
use Rattle.soundness.proofs.SoundDays.{sound_day}
use Rattle.block_demands.specs.Held.{Block, Declares}
use Rattle.block_demands.proofs.Plain.{says_block}
use Rattle.block_demands.proofs.Lining.{coming}

pub record Allowed (d : Day) (a : AskedBlock) (main : List Order) (held : List Declaration) : Type 0 where
  pub main_sound : Sound d main
  pub held_sound : unsound_blocks d held ≡ false
  pub side : a.side ≤ 1
  pub account : a.account ≡ 0 → ⊥
  pub counter : a.counter ≡ 0 → ⊥
  pub from : 33_300 ≤ d.time
  pub until : d.time < 55_800
  pub limited : d.limited ≡ 1
  pub price : Price a.price
  pub size : Block a.price a.quantity
  pub band : InBand d.close a.price
  pub place : all is_held held ≡ false
  pub number : d.blocks.issued ≡ 999_999 → ⊥

-- a rule's number is not 0
pub real_number : (n : ℕ) → eqb n 0 ≡ false → n ≡ 0 → ⊥
real_number n e = eqb-false n 0 e

pub or_neither : (x y : Bool) → (x || y) ≡ false → (x ≡ false) × (y ≡ false)
or_neither true y e = absurd (not_both refl e)
or_neither false y e = (refl, e)

hours : (t : ℕ) → long_hours t ≡ true → (33_300 ≤ t) × (t < 55_800)
unfolding long_hours
hours t e =
    ⊎_elim
    (λ h. (h.0, omega (arith, h.1)))
    (λ h. (omega (arith, h.0), h.1))
    ((says_or (says_and (says_le 33_300 t) (says_lt t 41_400)) (says_and (says_le 46_800 t) (says_lt t 55_800))).0 e)
  where
    says_lt : (m n : ℕ) → Says (ltb m n) (m < n)
    says_lt m n = (ltb-true m n, lt-ltb m n)

main_of_lem : (d : Day) (main : List Order) → unsound d main ≡ false → Sound d main
unfolding unsound
main_of_lem d main e =
    let h : (has_places main && sound d main) ≡ true = not-false (has_places main && sound d main) e in
    (and_left (has_places main) (sound d main) h, and_right (has_places main) (sound d main) h)

module _ (d : Day) (a : AskedBlock) (main : List Order) (held : List Declaration) (room : ℕ) where
  pub block_numbers_lem : Numbered (block_rules d a main held room)
  unfolding block_rules ◌when◌
  block_numbers_lem = (real_number 15 refl, (real_number 2 refl, (real_number 3 refl, (real_number 21 refl, (real_number 23 refl, (real_number 7 refl, (real_number 22 refl, (real_number 8 refl, (real_number 10 refl, (real_number 11 refl, (real_number 13 refl, tt)))))))))))

  pub allowed : first_of (block_rules d a main held room) ≡ 0 → Allowed d a main held
  unfolding block_rules ◌when◌
  allowed z =
      let n : NoneHolds (block_rules d a main held room) = none_holds (block_rules d a main held room) block_numbers_lem z in
      let both-sound = or_neither (unsound d main) (unsound_blocks d held) n.0 in
      let s : Sound d main = main_of_lem d main both-sound.0 in
      let accounts = or_neither (eqb a.account 0) (eqb a.counter 0) n.1.1.0 in
      let open-hours = hours d.time (not-false (long_hours d.time) n.1.1.1.0) in
      let marked : d.limited ≡ 0 → ⊥ = eqb-false d.limited 0 n.1.1.1.1.0 in
      record {
        main_sound = s;
        held_sound = both-sound.1;
        side = leb-true a.side 1 (not-false (leb a.side 1) n.1.0);
        account = eqb-false a.account 0 accounts.0;
        counter = eqb-false a.counter 0 accounts.1;
        from = open-hours.0;
        until = open-hours.1;
        limited = omega (arith, marked, (sound_day d main s.1).limited);
        price = (says_price a.price).0 (not-false (is_price a.price) n.1.1.1.1.1.0);
        size = (says_block a.price a.quantity).0 (not-false (is_block a.price a.quantity) n.1.1.1.1.1.1.0);
        band = (says_band d.close a.price).0 (not-false (in_band d.close a.price) n.1.1.1.1.1.1.1.0);
        place = n.1.1.1.1.1.1.1.1.0;
        number = eqb-false d.blocks.issued 999_999 n.1.1.1.1.1.1.1.1.1.0;
      }

-- with its number it is one that a day may hold on which that number is issued
pub coming_declares :
    (d e : Day) (a : AskedBlock) (main : List Order) (held : List Declaration)
    → Allowed d a main held
    → e.close ≡ d.close
    → e.limited ≡ d.limited
    → e.blocks.issued ≡ suc d.blocks.issued
    → Declares e (coming d a)
unfolding coming next_block
coming_declares d e a main held k c m i =
    record {
      side = k.side;
      account = k.account;
      counter = k.counter;
      limited = omega (arith, m, k.limited);
      price = k.price;
      size = k.size;
      band = rw c k.band;
      numbered = omega arith;
      issued = omega (arith, i);
    }
