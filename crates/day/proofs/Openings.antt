-- What an opening comes to where it is refused, and where it is not. Assumes nothing.
use Prim.Native.Nat.{ℕ, ◌≤◌, ◌<◌}
use mathlib.Core.Path.{◌≡◌, refl}
use mathlib.Core.Bool.{Bool, true, false, ◌&&◌}
use mathlib.Core.List.{List}
use lib.ListN.{length, length-map}
use lib.Dec.{leb}
use borrow.Author.Tests.{le-leb, lt-leb}
use Rattle.model.specs.declared.OpenReply.TheVariants.{Refused, Opened}
use Rattle.model.specs.declared.Day.{Day}
use Rattle.model.specs.Limits.{is_price}
use Rattle.model.specs.Figures.{fresh_day}
use Rattle.model.specs.Sound.{is_mark, has_places}
use Rattle.model.specs.Refusals.{◌when◌, first_of}
use Rattle.model.specs.Calls.{open_rules, cleared, open_call}
use Rattle.model.specs.Blocks.{none_held}
use Rattle.model.specs.AllCalls.{open_all_rules, open_all_call}
use Rattle.book.specs.Books.{books_of}
use Rattle.book.specs.Promises.{open_left, open_all_left}
use Rattle.limits.proofs.Spans.{too_low, from_low}
use Rattle.model.specs.declared.Order.{Order}
use Rattle.model.specs.declared.Declaration.{Declaration}

module _ (close mark : ℕ) (rows : List Order) where
  abbrev may_open : Bool
  may_open = is_price close && is_mark mark && has_places rows

  pub open_refused : may_open ≡ false → open_left (Refused 14) rows ≡ open_call close mark rows
  unfolding open_call open_rules first_of ◌when◌
  open_refused e = rw e

  pub open_accepted :
      (d : Day) (after : List Order)
      → may_open ≡ true
      → d ≡ fresh_day close mark
      → after ≡ (cleared rows)
      → open_left (Opened d) after ≡ open_call close mark rows
  unfolding open_call open_rules first_of ◌when◌
  open_accepted d after e f g = rw (e, f, g)

-- over all lists
module _ (close mark : ℕ) (main fixed : List Order) (blocks : List Declaration) where
  abbrev may_open_all : Bool
  may_open_all =
      is_price close && is_mark mark && has_places main && has_places fixed && has_places blocks

  -- test after test
  pub all_unpriced : is_price close ≡ false → false ≡ may_open_all
  all_unpriced e = rw e

  module _ (p : is_price close ≡ true) where
    pub all_unmarked : 1 < mark → false ≡ may_open_all
    unfolding is_mark
    all_unmarked h = rw (p, lt-leb mark 1 h)

    module _ (m : mark ≤ 1) where
      pub all_no_book : has_places main ≡ false → false ≡ may_open_all
      unfolding is_mark
      all_no_book e = rw (p, le-leb mark 1 m, e)

      module _ (b : has_places main ≡ true) where
        pub all_no_line : has_places fixed ≡ false → false ≡ may_open_all
        unfolding is_mark
        all_no_line e = rw (p, le-leb mark 1 m, b, e)

        pub all_places : {r : Bool} → has_places fixed ≡ true → r ≡ has_places blocks → r ≡ may_open_all
        unfolding is_mark
        all_places f e = rw (p, le-leb mark 1 m, b, f) e

  pub all_too_few : length blocks < 1 → leb 1 (length blocks) ≡ has_places blocks
  unfolding has_places
  all_too_few h = too_low 1 4_096 (length blocks) h

  pub all_enough : 1 ≤ length blocks → leb (length blocks) 4_096 ≡ has_places blocks
  unfolding has_places
  all_enough h = from_low 1 4_096 (length blocks) h refl

  pub all_refused : may_open_all ≡ false → open_all_left (Refused 14) main fixed blocks ≡ open_all_call close mark (books_of main fixed blocks)
  unfolding open_all_call open_all_rules first_of ◌when◌
  all_refused e = rw e

  pub all_accepted :
      {d : Day} {main' fixed' : List Order} {blocks' : List Declaration}
      → may_open_all ≡ true
      → d ≡ fresh_day close mark
      → main' ≡ (cleared main)
      → fixed' ≡ (cleared fixed)
      → blocks' ≡ (none_held blocks)
      → open_all_left (Opened d) main' fixed' blocks' ≡ open_all_call close mark (books_of main fixed blocks)
  unfolding open_all_call open_all_rules first_of ◌when◌
  all_accepted e f g h k = rw (e, f, g, h, k)
