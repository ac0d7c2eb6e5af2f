-- How many orders the line has: as many as stand before the first free place. Assumes nothing.
use Prim.Native.Nat.{ℕ, ◌+◌, ◌≤◌, ◌<◌}
use mathlib.Core.Path.{◌≡◌, sym, ap, ◌∙◌}
use mathlib.Core.Bool.{true, false, not}
use mathlib.Core.List.{List, []}
use native.Mathlib.Decide.{dec_lt}
use native.Mathlib.Omega.{arith}
use lib.ListN.{length, get_or, length-map}
use lib.Dec.{ltb}
use Rattle.model.specs.declared.Order.{Order}
use Rattle.model.specs.Lists.{keep, all}
use Rattle.model.specs.Book.{free, is_live}
use Rattle.model.specs.Arrival.{is_taken}
use Rattle.book.proofs.Lists.{length_keep}
use Rattle.book.proofs.Kept.{free_number}
use Rattle.book.proofs.Queues.{live_number}
use Rattle.book.proofs.Counting.{not_live}
use Rattle.arrivals.proofs.Lines.{in_line, taken_before, before_taken, all_taken}
use Rattle.fixed_book.specs.Ready.{Lined}
use Rattle.fixed_book.proofs.Sides.{live_taken}

abbrev number : Order → ℕ
number o = o.number

-- whether every place has an order
pub all_live : (book : List Order) → all is_live book ≡ not (ltb (length (keep is_live book)) (length book))
unfolding is_live is_taken
all_live book = all_taken number book

module _ (book : List Order) (l : Lined book) where
  pub live_before : (i : ℕ) → ((get_or book i free).number ≡ 0 → ⊥) → i < length (keep is_live book)
  live_before i n = rw (live_taken book) (taken_before number free free_number book (in_line number book l.arrived) i n)

  pub before_live : (i : ℕ) → i < length (keep is_live book) → (get_or book i free).number ≡ 0 → ⊥
  before_live i h = before_taken number free free_number book (in_line number book l.arrived) i (rw (live_taken book) at h)

module _ (rows : List Order) (l : Lined rows) where
  -- so many orders at least
  abbrev pub Counted : ℕ → Type 0
  Counted i = i ≤ length (keep is_live rows)

  module _ (i : ℕ) {o : Order} (e : o ≡ get_or rows i free) where
    it : get_or rows i free ≡ o
    it = sym (e)

    pub counted_next : is_live o ≡ true → Counted (i + 1)
    counted_next t =
        omega (arith, live_before rows l i (λ z. live_number o t (sym (ap number it) ∙ z)))

    pub counted_free : Counted i → is_live o ≡ false → i ≡ length (keep is_live rows)
    counted_free w f = elim (dec_lt i (length (keep is_live rows))) [
      | yes h ↦ absurd (before_live rows l i h (ap number it ∙ not_live o f))
      | no h ↦ omega arith
    ]

  pub counted_all : {i : ℕ} → Counted i → length rows ≤ i → i ≡ length (keep is_live rows)
  counted_all w h = omega (arith, length_keep is_live rows)
