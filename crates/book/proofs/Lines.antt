-- The orders of a side as they stand in the book, one place after the other.
use Prim.Native.Nat.{ℕ, ◌+◌, ◌-◌, ◌≤◌, ◌<◌}
use mathlib.Core.Path.{◌≡◌, sym, ap, ◌∙◌}
use mathlib.Core.List.{List, [], ◌∷◌, ◌++◌}
use native.Mathlib.Omega.{arith}
use native.Mathlib.Numerals.{add-one}
use lib.ListN.{length, get_or, take, drop, replicate, length-take, length-drop, drop_of_length-le}
use lib.Seq.{drop-cons, get_or-take, take-append_seam, drop-append_seam, take-append-add}
use Rattle.model.specs.declared.Order.{Order}
use Rattle.model.specs.Book.{free, queue, head_price, best}
use Rattle.book.specs.Standing.{Ranked}
use Rattle.book.specs.declared.Stretch.{Stretch}
use Rattle.book.specs.Lines.{line, StretchOf}
use Rattle.book.proofs.Parts.{Parts, RankedParts, parts_of, parts_length}

-- ---- one after the other

pub line_end : (at end : ℕ) (rows : List Order) → end ≤ at → line at end rows ≡ []
unfolding line
line_end at end rows h = drop_of_length-le (take end rows) {i = at} (omega (arith, length-take end rows))

pub line_cons :
    (at end : ℕ) (rows : List Order) {o : Order}
    → at < end
    → end ≤ length rows
    → o ≡ get_or rows at free
    → line at end rows ≡ o ∷ line (at + 1) end rows
unfolding line
line_cons at end rows {o} h k e =
    let n : ℕ = length (take end rows) in
    let inside : at < length (take end rows) =
    omega (arith, length-take end rows)
    in
    let it : get_or (take end rows) at free ≡ o =
    get_or-take end rows at free h ∙ sym e
    in
    drop-cons (take end rows) at free inside ∙ rw (it, add-one)

pub line_length : (at end : ℕ) (rows : List Order) → end ≤ length rows → length (line at end rows) ≡ end - at
unfolding line
line_length at end rows h =
    length-drop at (take end rows) ∙ omega (arith, length-take end rows)

-- ---- where the sides stand

module _ (rows : List Order) {buys sells : List Order} {spare : ℕ} (p : Parts rows buys sells spare) where
  pub first_line : line 0 (length buys) rows ≡ buys
  unfolding line
  first_line = ap (take (length buys)) p.made ∙ take-append_seam buys (sells ++ replicate spare free)

  pub second_line : line (length buys) (length buys + length sells) rows ≡ sells
  unfolding line
  second_line =
      ap (λ (l : List Order). drop (length buys) (take (length buys + length sells) l)) p.made
      ∙ ap (drop (length buys)) (take-append-add buys (sells ++ replicate spare free) (length sells))
      ∙ drop-append_seam buys (take (length sells) (sells ++ replicate spare free))
      ∙ take-append_seam sells (replicate spare free)

  pub rows_length : length rows ≡ length buys + (length sells + spare)
  rows_length = parts_length p

module _ (rows : List Order) (ranked : Ranked rows) where
  abbrev parts : RankedParts rows
  parts = parts_of rows ranked

  pub stretch_buys :
      (side : ℕ) {m : ℕ}
      → side ≡ 0
      → m ≡ length (queue 0 rows)
      → StretchOf side rows (record { from = 0; to = m })
  stretch_buys side z e =
      rw (z, e)
      (record { orders = first_line rows parts; some = omega arith; within = omega (arith, rows_length rows parts) })

  pub stretch_sells :
      (side : ℕ) {m n : ℕ}
      → side ≡ 1
      → m ≡ length (queue 0 rows)
      → n ≡ length (queue 0 rows) + length (queue 1 rows)
      → StretchOf side rows (record { from = m; to = n })
  stretch_sells side z e f =
      rw (z, e, f)
      (record { orders = second_line rows parts; some = omega arith; within = omega (arith, rows_length rows parts) })

-- ---- the best price

pub best_first :
    (side : ℕ) (rows : List Order) {r : Stretch} {o : Order}
    → StretchOf side rows r
    → r.from < r.to
    → o ≡ get_or rows r.from free
    → o.price ≡ best side rows
unfolding best head_price
best_first side rows {r} {o} s l e =
    ap head_price (sym (line_cons r.from r.to rows l s.within e) ∙ s.orders)

pub best_none : (side : ℕ) (rows : List Order) {r : Stretch} → StretchOf side rows r → r.to ≤ r.from → 0 ≡ best side rows
unfolding best head_price
best_none side rows {r} s l = ap head_price (sym (line_end r.from r.to rows l) ∙ s.orders)
