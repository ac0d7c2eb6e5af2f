-- A declaration that no rule refuses, as it would stand among those held: well formed, with a number above all of theirs, and from
-- 15:00 on its confirmation is the one with the earliest that it fits.
use Prim.Native.Nat.{suc, ◌*◌, ◌≤◌, ◌<◌}
use mathlib.Core.Path.{◌≡◌, refl}
use mathlib.Core.Bool.{true, false, ◌||◌}
use mathlib.Core.List.{List, [], ◌∷◌, ◌++◌}
use native.Mathlib.Omega.{arith}
use lib.Dec.{leb, eqb}
use borrow.Author.Tests.{le-leb, lt-leb, leb-true}
use Rattle.model.specs.declared.Declaration.{Declaration}
use Rattle.model.specs.declared.AskedBlock.{AskedBlock}
use Rattle.model.specs.declared.Day.{Day}
use Rattle.model.specs.Lists.{keep}
use Rattle.model.specs.Clock.{confirming_from, long_hours}
use Rattle.model.specs.Limits.{is_price, in_band}
use Rattle.model.specs.Figures.{next_block}
use Rattle.model.specs.Blocks.{is_held, is_block}
use Rattle.model.specs.BlockCalls.{declaring, block_trades}
use Rattle.model.specs.Words.{Each}
use Rattle.model.proofs.Bools.{and_left, and_right}
use Rattle.book.proofs.Lists.{each}
use Rattle.declarations.specs.Declared.{WellFormed}
use Rattle.blocks.specs.Ready.{BlocksReady}
use Rattle.held.specs.Meeting.{asking, meeting}
use Rattle.blocks.proofs.Meeting.{meets}

-- ---- what is asked

pub record AskedWell (d : Day) (a : AskedBlock) : Type 0 where
  pub side : leb a.side 1 ≡ true
  pub accounts : eqb a.account 0 || eqb a.counter 0 ≡ false
  pub hours : long_hours d.time ≡ true
  pub limited : eqb d.limited 0 ≡ false
  pub price : is_price a.price ≡ true
  pub size : is_block a.price a.quantity ≡ true
  pub band : in_band d.close a.price ≡ true

-- ---- as a declaration

module _ (d : Day) (a : AskedBlock) where
  pub new_number : (asking d a).number ≡ 0 → ⊥
  unfolding asking next_block
  new_number z = omega arith

  pub declaring_it : (held : List Declaration) → declaring d a held ≡ keep is_held held ++ (asking d a ∷ [])
  unfolding declaring asking
  declaring_it held = refl

  pub new_quantity : is_block a.price a.quantity ≡ true → (asking d a).quantity ≤ 100_000_000
  unfolding asking is_block
  new_quantity e = leb-true a.quantity 100_000_000 (and_right (leb 100_000 a.quantity || leb 100_000_000 (a.price * a.quantity)) _ e)

  module _ (w : AskedWell d a) (n : d.blocks.issued < 999_999) where
    pub new_formed : WellFormed (asking d a)
    unfolding asking next_block is_block is_price
    new_formed =
        let low = leb-true 1 a.price (and_left (leb 1 a.price) (leb a.price 999_999) w.price) in
        record {
          side = leb-true a.side 1 w.side;
          quantity = new_quantity w.size;
          price = leb-true a.price 999_999 (and_right (leb 1 a.price) (leb a.price 999_999) w.price);
          number = omega arith;
          none = λ z. absurd (omega arith);
          priced = λ _. low;
        }

module _ (d : Day) (a : AskedBlock) (held : List Declaration) (r : BlocksReady d held) where
  -- its number is above all others
  pub new_later : Each (λ y. y.number < (asking d a).number) held
  unfolding asking next_block
  new_later =
      each (λ y. y.number ≤ d.blocks.issued) (λ y. y.number < suc d.blocks.issued) held (λ y h. omega arith) r.numbered

  -- ---- its confirmation

  pub early_trades : d.time < 54_000 → block_trades d a held ≡ []
  unfolding block_trades confirming_from
  early_trades h = rw (lt-leb 54_000 d.time h)

  pub late_trades : AskedWell d a → d.blocks.issued < 999_999 → 54_000 ≤ d.time → block_trades d a held ≡ meeting (asking d a) held
  unfolding block_trades confirming_from
  late_trades w n h =
      rw (le-leb 54_000 d.time h, declaring_it d a held)
      (meets held r.declared.formed (r.undue h) (asking d a) (new_formed d a w n) (new_number d a))
