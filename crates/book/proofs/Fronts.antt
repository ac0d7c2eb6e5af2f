-- Shares off the front of the sides of a book in order: the places afterwards, and that trades which take a front off each side leave
-- just that book.
use Prim.Native.Nat.{ℕ, zero, suc, ◌+◌, ◌-◌, ◌≤◌, ◌<◌, min}
use mathlib.Core.Path.{◌≡◌, refl, sym, ap, ◌∙◌}
use mathlib.Core.Bool.{true}
use mathlib.Core.List.{List, [], ◌∷◌, ◌++◌, map, append_assoc, append-nil}
use native.Mathlib.Omega.{arith}
use native.Mathlib.Decide.{dec_lt}
use lib.ListN.{length, take, drop, replicate, length-append, length-replicate, replicate-append-replicate}
use lib.Seq.{take-append_seam, take-append-add, drop-append_seam, drop-append-add, drop_at}
use borrow.Author.Tests.{lt-ltb, le-ltb}
use Rattle.model.specs.declared.Order.{Order}
use Rattle.model.specs.declared.Trade.{Trade}
use Rattle.model.specs.Lists.{keep}
use Rattle.model.specs.Book.{free, is_live, queue, arranged}
use Rattle.model.specs.Matching.{less_by, filled_of, settle}
use Rattle.model.specs.Words.{Each}
use Rattle.book.specs.Standing.{Fair, Standing, Ranked}
use Rattle.book.specs.Lines.{line}
use Rattle.book.specs.Settling.{off_front, placed, FreeFrom}
use Rattle.book.proofs.Lists.{each, keep_true, keep_false, keep_all}
use Rattle.book.proofs.Queues.{Stands, number_live, on_live, queue_stands}
use Rattle.book.proofs.Settlements.{less_nothing}
use Rattle.book.proofs.Kept.{after}
use Rattle.book.proofs.Thinning.{free_gone, queue_settled}
use Rattle.book.proofs.Parts.{RankedParts, parts_of, take_frees, placed_fit}
use Rattle.book.proofs.Lines.{first_line, second_line, rows_length, line_length}

-- an order that loses all it has is gone, however much more is asked of it
pub less_some_more : (q v : ℕ) (o : Order) → q ≡ min v o.left → less_by q o ≡ less_by v o
unfolding less_by
less_some_more q v o e = elim (dec_lt v o.left) [
  | yes l ↦ let f : q ≡ v = omega arith in rw f
  | no l ↦
      let a : o.left ≤ q = omega arith in
      let b : o.left ≤ v = omega arith in
      rw (le-ltb q o.left a, le-ltb v o.left b)
]

pub off_short : (v : ℕ) (os : List Order) → length (off_front v os) ≤ length os
unfolding off_front
off_short v [] = omega arith
off_short v (o ∷ os) = elim (dec_lt v o.left) [
  | yes l ↦ rw (lt-ltb v o.left l) (omega arith)
  | no l ↦ rw (le-ltb v o.left (omega arith)) (omega (arith, off_short (v - o.left) os))
]

-- ---- what stands behind the orders

-- free places behind orders are free places anyway
pub placed_more : (n k : ℕ) (os : List Order) → length os + k ≤ n → placed n (os ++ replicate k free) ≡ placed n os
unfolding placed
placed_more n k os h =
    let long : length (os ++ replicate k free) ≡ length os + k = length-append os (replicate k free) ∙ ap (λ i. length os + i) (length-replicate k free) in
    let m : k + (n - (length os + k)) ≡ n - length os = omega arith in
    placed_fit n (os ++ replicate k free) (omega arith)
    ∙ rw long
    (append_assoc os (replicate k free) (replicate (n - (length os + k)) free)
    ∙ ap (λ (l : List Order). os ++ l) (replicate-append-replicate k (n - (length os + k)) free ∙ ap (λ i. replicate i free) m)
    ∙ sym (placed_fit n os (omega arith)))

module _ (rows : List Order) (ranked : Ranked rows) where
  abbrev buys : List Order
  buys = queue 0 rows

  abbrev sells : List Order
  sells = queue 1 rows

  abbrev parts : RankedParts rows
  parts = parts_of rows ranked

  abbrev spare : ℕ
  spare = length rows - (length buys + length sells)

  places : length rows ≡ length buys + (length sells + spare)
  places = rows_length rows parts

  pub free_behind : {end : ℕ} → end ≡ length buys + length sells → FreeFrom end rows
  free_behind {end} e =
      let long : length (buys ++ sells) ≡ length buys + length sells = length-append buys sells in
      let n : length rows - end ≡ spare = omega (arith, places) in
      ap (drop end) (parts.made ∙ sym (append_assoc buys sells (replicate spare free)))
      ∙ drop_at (buys ++ sells) (replicate spare free) end (long ∙ sym e)
      ∙ ap (λ i. replicate i free) (sym n)

  -- the first orders are the buys
  take_buys : {m : ℕ} → m ≡ length buys → take m rows ≡ buys
  take_buys e =
      ap (λ i. take i rows) e ∙ ap (take (length buys)) parts.made ∙ take-append_seam buys (sells ++ replicate spare free)

  module _ {m n : ℕ} (em : m ≡ length buys) (en : n ≡ length buys + length sells) where
    -- where the sides end, nothing stands behind them
    pub sides_end : (m ≤ n) × ((n ≤ length rows) × FreeFrom n rows)
    sides_end = (omega arith, (omega (arith, places), free_behind en))

    buys_line : line 0 m rows ≡ buys
    buys_line = ap (λ i. line 0 i rows) em ∙ first_line rows parts

    sells_line : line m n rows ≡ sells
    sells_line = ap (λ i. line i n rows) em ∙ ap (λ i. line (length buys) i rows) en ∙ second_line rows parts

    pub off_the_buys :
        (v : ℕ) {book : List Order}
        → book ≡ placed (length rows) (take 0 rows ++ (off_front v (line 0 m rows) ++ line m n rows))
        → book ≡ placed (length rows) (off_front v buys ++ sells)
    off_the_buys v e = e ∙ rw (buys_line, sells_line)

    pub off_the_sells :
        (v : ℕ) {book : List Order}
        → book ≡ placed (length rows) (take m rows ++ (off_front v (line m n rows) ++ line n n rows))
        → book ≡ placed (length rows) (buys ++ off_front v sells)
    off_the_sells v e =
        e ∙ rw (take_buys em, sells_line, line_none) (ap (λ (l : List Order). placed (length rows) (buys ++ l)) (append-nil (off_front v sells)))
      where
        line_none : line n n rows ≡ []
        line_none = nobody (line n n rows) (line_length n n rows (omega (arith, places)) ∙ omega arith)
          where
            nobody : (l : List Order) → length l ≡ 0 → l ≡ []
            nobody [] z = refl
            nobody (o ∷ l) z = absurd (omega arith)

    -- first the sells, and then the buys, which have not moved
    module _ (v : ℕ) (rows₁ : List Order) (e : rows₁ ≡ placed (length rows) (buys ++ off_front v sells)) where
      abbrev kept : List Order
      kept = off_front v sells

      kept_short : length kept ≤ length sells
      kept_short = off_short v sells

      long : length (buys ++ kept) ≡ length buys + length kept
      long = length-append buys kept

      abbrev rest : ℕ
      rest = length rows - (length buys + length kept)

      together : rows₁ ≡ buys ++ (kept ++ replicate rest free)
      unfolding placed
      together =
          e
          ∙ placed_fit (length rows) (buys ++ kept) (omega (arith, long, kept_short, places))
          ∙ rw long (append_assoc buys kept (replicate rest free))

      as_long : length rows₁ ≡ length rows
      as_long =
          ap length together
          ∙ length-append buys (kept ++ replicate rest free)
          ∙ ap (λ i. length buys + i) (length-append kept (replicate rest free) ∙ ap (λ i. length kept + i) (length-replicate rest free))
          ∙ omega (arith, kept_short, places)

      pub still_free : FreeFrom n rows₁
      still_free =
          let k : n ≡ length (buys ++ kept) + (n - (length buys + length kept)) = omega (arith, long, kept_short) in
          let r : rest - (n - (length buys + length kept)) ≡ length rows₁ - n = omega (arith, as_long, kept_short, places) in
          ap (drop n) (together ∙ sym (append_assoc buys kept (replicate rest free)))
          ∙ ap (λ i. drop i ((buys ++ kept) ++ replicate rest free)) k
          ∙ drop-append-add (buys ++ kept) (replicate rest free) (n - (length buys + length kept))
          ∙ drop_same (n - (length buys + length kept)) rest
          ∙ ap (λ i. replicate i free) r
        where
          drop_same : (i k : ℕ) → drop i (replicate k free) ≡ replicate (k - i) free
          drop_same zero k = let z : k - 0 ≡ k = omega arith in rw z
          drop_same (suc i) zero = let z : 0 - suc i ≡ 0 = omega arith in rw z
          drop_same (suc i) (suc k) = let z : suc k - suc i ≡ k - i = omega arith in rw z (drop_same i k)

      buys_then : line 0 m rows₁ ≡ buys
      unfolding line
      buys_then =
          ap (λ i. take i rows₁) em ∙ ap (take (length buys)) together ∙ take-append_seam buys (kept ++ replicate rest free)

      sells_then : line m n rows₁ ≡ kept ++ replicate (length sells - length kept) free
      unfolding line
      sells_then =
          let j : length sells ≡ length kept + (length sells - length kept) = omega (arith, kept_short) in
          let i : length sells - length kept ≤ rest = omega (arith, places, kept_short) in
          ap (λ (l : List Order). drop m (take n l)) together
          ∙ ap (λ k. drop m (take k (buys ++ (kept ++ replicate rest free)))) en
          ∙ ap (drop m) (take-append-add buys (kept ++ replicate rest free) (length sells))
          ∙ ap (λ k. drop k (buys ++ take (length sells) (kept ++ replicate rest free))) em
          ∙ drop-append_seam buys (take (length sells) (kept ++ replicate rest free))
          ∙ ap (λ k. take k (kept ++ replicate rest free)) j
          ∙ take-append-add kept (replicate rest free) (length sells - length kept)
          ∙ ap (λ (l : List Order). kept ++ l) (take_frees (length sells - length kept) rest i)

      pub off_both_sides :
          {book : List Order}
          → book ≡ placed (length rows₁) (take 0 rows₁ ++ (off_front v (line 0 m rows₁) ++ line m n rows₁))
          → book ≡ placed (length rows) (off_front v buys ++ kept)
      off_both_sides {book} f =
          f
          ∙ rw (as_long, buys_then, sells_then)
          (ap (placed (length rows)) (sym (append_assoc (off_front v buys) kept (replicate (length sells - length kept) free)))
          ∙ placed_more (length rows) (length sells - length kept) (off_front v buys ++ kept) fits)
        where
          fits : length (off_front v buys ++ kept) + (length sells - length kept) ≤ length rows
          fits = omega (arith, length-append (off_front v buys) kept, off_short v buys, kept_short, places)

-- ---- trades that take a front off each side

-- a queue when its first v shares have traded, who has none left still at its place
unfoldable pub less_front : ℕ → List Order → List Order
less_front v [] = []
less_front v (o ∷ os) = less_by v o ∷ less_front (v - o.left) os

-- nothing off
pub no_front :
    (ts : List Trade) (os : List Order)
    → Each (λ o. filled_of o.number ts ≡ 0) os
    → map (after ts) os ≡ less_front 0 os
unfolding less_front
no_front ts [] e = refl
no_front ts (o ∷ os) e =
    let z : 0 - o.left ≡ 0 = omega arith in
    let t : map (after ts) os ≡ less_front 0 os = no_front ts os e.1 in
    rw (e.0, z, t)

nothing_less : (os : List Order) → Each Fair os → less_front 0 os ≡ os
unfolding less_front
nothing_less [] f = refl
nothing_less (o ∷ os) f =
    let z : 0 - o.left ≡ 0 = omega arith in
    rw (less_nothing o f.0, z) (ap (λ (l : List Order). o ∷ l) (nothing_less os f.1))

module _ (v : ℕ) (o : Order) where
  less_number : v < o.left → (less_by v o).number ≡ o.number
  unfolding less_by
  less_number l = rw (lt-ltb v o.left l)

  less_none : o.left ≤ v → less_by v o ≡ free
  unfolding less_by
  less_none l = rw (le-ltb v o.left l)

all_live : (side : ℕ) (os : List Order) → Each (Stands side) os → keep is_live os ≡ os
all_live side os e =
    keep_all is_live os (each (Stands side) (λ x. is_live x ≡ true) os (λ x h. number_live x (on_live side x h.1)) e)

gone_front : (side v : ℕ) (os : List Order) → Each (Stands side) os → keep is_live (less_front v os) ≡ off_front v os
unfolding less_front off_front
gone_front side v [] e = unfold keep in refl
gone_front side v (o ∷ os) e = elim (dec_lt v o.left) [
  | yes l ↦
      let z : v - o.left ≡ 0 = omega arith in
      let some : is_live (less_by v o) ≡ true =
      number_live (less_by v o) (λ y. on_live side o e.0.1 (sym (less_number v o l) ∙ y))
      in
      rw (lt-ltb v o.left l)
      (keep_true is_live (less_by v o) (less_front (v - o.left) os) some
      ∙ ap (λ (t : List Order). less_by v o ∷ t)
      (ap (λ i. keep is_live (less_front i os)) z
      ∙ ap (keep is_live) (nothing_less os (each (Stands side) Fair os (λ x h. h.0) e.1))
      ∙ all_live side os e.1))
  | no l ↦
      let m : o.left ≤ v = omega arith in
      rw (le-ltb v o.left m)
      (keep_false is_live (less_by v o) (less_front (v - o.left) os) (ap is_live (less_none v o m) ∙ free_gone)
      ∙ gone_front side (v - o.left) os e.1)
]

module _ (book : List Order) (s : Standing book) where
  side_after :
      (side v : ℕ) (ts : List Trade)
      → map (after ts) (queue side book) ≡ less_front v (queue side book)
      → queue side (settle ts book) ≡ off_front v (queue side book)
  side_after side v ts e =
      queue_settled ts side book s ∙ ap (keep is_live) e ∙ gone_front side v (queue side book) (queue_stands side book s.fair)

  pub off_nothing : (side : ℕ) → off_front 0 (queue side book) ≡ queue side book
  off_nothing side =
      let on : Each (Stands side) (queue side book) = queue_stands side book s.fair in
      sym (gone_front side 0 (queue side book) on)
      ∙ ap (keep is_live) (nothing_less (queue side book) (each (Stands side) Fair (queue side book) (λ x h. h.0) on))
      ∙ all_live side (queue side book) on

  -- the book after them
  pub settled_placed :
      (n : ℕ) (ts : List Trade) (b v : ℕ)
      → map (after ts) (queue 0 book) ≡ less_front b (queue 0 book)
      → map (after ts) (queue 1 book) ≡ less_front v (queue 1 book)
      → arranged n (settle ts book) ≡ placed n (off_front b (queue 0 book) ++ off_front v (queue 1 book))
  unfolding arranged placed
  settled_placed n ts b v e f =
      rw (side_after 0 b ts e, side_after 1 v ts f)
      (ap (take n) (sym (append_assoc (off_front b (queue 0 book)) (off_front v (queue 1 book)) (replicate n free))))
