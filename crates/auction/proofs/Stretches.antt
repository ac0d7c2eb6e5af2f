-- Where the two sides of a book stand in its rows: all their orders have shares and a price.
use Prim.Native.Nat.{ℕ, ◌+◌, ◌≤◌}
use mathlib.Core.Path.{◌≡◌}
use mathlib.Core.List.{List}
use native.Mathlib.Omega.{arith}
use lib.ListN.{length, take}
use Rattle.model.specs.declared.Order.{Order}
use Rattle.model.specs.Book.{queue}
use Rattle.model.specs.Words.{Each, Price}
use Rattle.book.specs.Standing.{Ranked}
use Rattle.book.specs.Lines.{line}
use Rattle.book.proofs.Lists.{each, each_append}
use Rattle.book.proofs.Queues.{Stands, on_live, queue_stands}
use Rattle.book.proofs.Parts.{RankedParts, parts_of, parts_orders}
use Rattle.book.proofs.Lines.{first_line, second_line, rows_length}

-- the buys stand before `middle`, the sells from there up to `end`
pub record Stretches (rows : List Order) (middle end : ℕ) : Type 0 where
  pub buys : line 0 middle rows ≡ queue 0 rows
  pub sells : line middle end rows ≡ queue 1 rows
  pub full_buys : Each (λ o. 1 ≤ o.left) (take middle rows)
  pub full_sells : Each (λ o. 1 ≤ o.left) (take end rows)
  pub priced_buys : Each (λ o. Price o.price) (take middle rows)
  pub priced_sells : Each (λ o. Price o.price) (take end rows)
  pub short_buys : middle ≤ length rows
  pub short_sells : end ≤ length rows

module _ (rows : List Order) (ranked : Ranked rows) where
  abbrev book : List Order
  book = rows

  parts : RankedParts book
  parts = parts_of book ranked

  some_on : (side : ℕ) → Each (λ o. 1 ≤ o.left) (queue side book)
  some_on side =
      each (Stands side) (λ o. 1 ≤ o.left) (queue side book) (λ o k. k.0.some (on_live side o k.1))
      (queue_stands side book ranked.stands.fair)

  priced_on : (side : ℕ) → Each (λ o. Price o.price) (queue side book)
  priced_on side =
      each (Stands side) (λ o. Price o.price) (queue side book)
      (λ o k. record { low = k.0.priced (on_live side o k.1); high = k.0.price })
      (queue_stands side book ranked.stands.fair)

  pub stretches_of :
      {middle end : ℕ}
      → middle ≡ length (queue 0 book)
      → end ≡ length (queue 0 book) + length (queue 1 book)
      → Stretches rows middle end
  stretches_of e f =
      rw (e, f)
      (record {
        buys = first_line rows parts;
        sells = second_line rows parts;
        full_buys = rw first_take (some_on 0);
        full_sells = rw (parts_orders parts) (each_append (λ o. 1 ≤ o.left) (queue 0 book) (queue 1 book) (some_on 0) (some_on 1));
        priced_buys = rw first_take (priced_on 0);
        priced_sells =
            rw (parts_orders parts)
            (each_append (λ o. Price o.price) (queue 0 book) (queue 1 book) (priced_on 0) (priced_on 1));
        short_buys = omega (arith, rows_length rows parts);
        short_sells = omega (arith, rows_length rows parts);
      })
    where
      first_take : take (length (queue 0 book)) book ≡ queue 0 book
      first_take = unfold line in first_line rows parts
