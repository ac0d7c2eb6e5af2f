-- The laws behind settling: orders moved up, places set free behind them, and shares taken off a front.
use Prim.Native.Nat.{ℕ, zero, suc, ◌+◌, ◌-◌, ◌≤◌, ◌<◌}
use mathlib.Core.Path.{◌≡◌, refl, sym, ap, ◌∙◌, subst}
use mathlib.Core.List.{List, [], ◌∷◌, ◌++◌, append_assoc}
use native.Mathlib.Omega.{arith}
use lib.ListN.{length, get_or, take, drop, set, replicate, length-append, length-set, take-append-drop, replicate-append-replicate}
use lib.Seq.{drop-drop, drop-append-add, drop-append-le, drop-set-lt, get_or-set_same, take-append_seam, take-nil, take-set-le, take-take, length-take-le}
use borrow.Author.Tests.{lt-ltb, le-ltb}
use borrow.Rule.Slice.PartMut.{put_mid}
use Rattle.std.specs.List.{between, copy_within}
use Rattle.std.proofs.lemmas.List.Edits.{length-between}
use Rattle.std.proofs.lemmas.Slice.{between_is}
use Rattle.model.specs.declared.Order.{Order}
use Rattle.model.specs.Book.{free}
use Rattle.model.specs.Matching.{less_by}
use Rattle.book.specs.Lines.{line}
use Rattle.book.specs.Settling.{off_front, placed, FreeFrom, CutAt}
use Rattle.book.proofs.Lines.{line_cons, line_end, line_length}
use Rattle.book.proofs.Parts.{placed_fit}

-- one order put at a place, and what stands before and behind it
module _ (rows : List Order) (place : ℕ) (o : Order) {rows' : List Order} (inside : place < length rows) (e : rows' ≡ set rows place o) where
  put_back : (n : ℕ) → place < n → drop n rows' ≡ drop n rows
  put_back n h =
      ap (λ (r : List Order). drop n r) e
      ∙ drop-set-lt n rows place o h

  put_long : length rows' ≡ length rows
  put_long = ap length e ∙ length-set rows place o

-- what two lists have in common from a place on they have from every later one on
later_same : (m n : ℕ) (xs ys : List Order) → m ≤ n → drop m xs ≡ drop m ys → drop n xs ≡ drop n ys
later_same m n xs ys h e =
    let k : n ≡ m + (n - m) = omega arith in
    ap (λ (i : ℕ). drop i xs) k
    ∙ sym (drop-drop (n - m) m xs)
    ∙ ap (drop (n - m)) e
    ∙ drop-drop (n - m) m ys
    ∙ ap (λ (i : ℕ). drop i ys) (sym k)

-- ---- orders moved up by one copy, and places filled

-- what a copy of the orders from `next` up to `end` to `place` leaves
moved_up :
    (rows : List Order) (place next end : ℕ)
    → copy_within rows next end place ≡ take place rows ++ (line next end rows ++ drop (place + (end - next)) rows)
unfolding line
moved_up rows place next end =
    append_assoc (take place rows) (take (end - next) (drop next rows)) (drop (place + (end - next)) rows)
    ∙ ap (λ (l : List Order). take place rows ++ (l ++ drop (place + (end - next)) rows)) (between_is rows next end)

-- and what the places from one up to another leave when each is free
filled :
    (rows part : List Order) (from to : ℕ)
    → from ≤ to
    → to ≤ length rows
    → part ≡ replicate (length (between from to rows)) free
    → put_mid from (to - from) rows part ≡ take from rows ++ (replicate (to - from) free ++ drop to rows)
filled rows part from to h short e =
    let n : length (between from to rows) ≡ to - from = length-between rows from to short in
    let j : from + (to - from) ≡ to = omega arith in
    rw (e, n)
    (ap (λ (l : List Order). take from rows ++ (replicate (to - from) free ++ l))
    (drop-drop (to - from) from rows ∙ ap (λ (i : ℕ). drop i rows) j))

-- ---- moved up, and free places behind

-- no place is given up
pub closed_nothing :
    (rows : List Order) (place next end : ℕ)
    → next ≤ end
    → end ≤ length rows
    → place ≡ next
    → rows ≡ take place rows ++ (line next end rows ++ (replicate (next - place) free ++ drop end rows))
unfolding line
closed_nothing rows place next end h short e =
    let z : next - next ≡ 0 = omega arith in
    sym (take-append-drop end rows)
    ∙ ap (λ (l : List Order). l ++ drop end rows) (sym (take-append-drop next (take end rows)))
    ∙ ap (λ (l : List Order). (l ++ drop next (take end rows)) ++ drop end rows) (take-take next end rows h)
    ∙ append_assoc (take next rows) (drop next (take end rows)) (drop end rows)
    ∙ rw (e, z)

module _ (rows rows₁ : List Order) (place next end : ℕ) (before : place ≤ next) (some : next ≤ end) (short : end ≤ length rows) (e : rows₁ ≡ copy_within rows next end place) where
  abbrev moved : ℕ
  moved = place + (end - next)

  abbrev stays : List Order
  stays = take place rows ++ line next end rows

  stays_length : length stays ≡ moved
  stays_length =
      length-append (take place rows) (line next end rows)
      ∙ omega (arith, length-take-le place rows (omega arith), line_length next end rows short)

  together : rows₁ ≡ stays ++ drop moved rows
  together = e ∙ moved_up rows place next end ∙ sym (append_assoc (take place rows) (line next end rows) (drop moved rows))

  pub closed_up :
      {part : List Order}
      → length rows₁ ≡ length rows
      → part ≡ replicate (length (between moved end rows₁)) free
      → put_mid moved (end - moved) rows₁ part ≡ take place rows ++ (line next end rows ++ (replicate (next - place) free ++ drop end rows))
  closed_up {part} long f =
      let n : end - moved ≡ next - place = omega arith in
      let k : end ≡ length stays + (end - moved) = omega (arith, stays_length) in
      let j : moved + (end - moved) ≡ end = omega arith in
      let first : take moved rows₁ ≡ stays =
      ap (take moved) together
      ∙ ap (λ (i : ℕ). take i (stays ++ drop moved rows)) (sym stays_length)
      ∙ take-append_seam stays (drop moved rows)
      in
      let last : drop end rows₁ ≡ drop end rows =
      ap (drop end) together
      ∙ ap (λ (i : ℕ). drop i (stays ++ drop moved rows)) k
      ∙ drop-append-add stays (drop moved rows) (end - moved)
      ∙ drop-drop (end - moved) moved rows
      ∙ ap (λ (i : ℕ). drop i rows) j
      in
      filled rows₁ part moved end (omega arith) (omega arith) f
      ∙ rw (first, last, n)
      (append_assoc (take place rows) (line next end rows) (replicate (next - place) free ++ drop end rows))

-- ---- shares off a front

pub record Ending (shares from to : ℕ) (rows : List Order) (left at : ℕ) : Type 0 where
  pub same : off_front shares (line from to rows) ≡ off_front left (line at to rows)
  pub least : from ≤ at
  pub most : at ≤ to

pub ending_start : (shares from to : ℕ) (rows : List Order) → from ≤ to → Ending shares from to rows shares from
ending_start shares from to rows h = record { same = refl; least = omega arith; most = h }

-- a line does not look before its first place
line_same :
    (at end : ℕ) (rows rows' : List Order)
    → drop at rows' ≡ drop at rows
    → line at end rows' ≡ line at end rows
unfolding line
line_same at end rows rows' e =
    cut_either at end rows' ∙ ap (take (end - at)) e ∙ sym (cut_either at end rows)
  where
    cut_either : (m n : ℕ) (l : List Order) → drop m (take n l) ≡ take (n - m) (drop m l)
    cut_either zero n l = let z : n - 0 ≡ n = omega arith in rw z
    cut_either (suc m) zero l = let z : 0 - suc m ≡ 0 = omega arith in rw z
    cut_either (suc m) (suc n) [] = sym (take-nil {A = Order} (suc n - suc m))
    cut_either (suc m) (suc n) (o ∷ l) =
        let z : suc n - suc m ≡ n - m = omega arith in
        cut_either m n l ∙ ap (λ (k : ℕ). take k (drop m l)) (sym z)

line_split :
    (at to end : ℕ) (rows : List Order)
    → at ≤ to
    → to ≤ end
    → end ≤ length rows
    → line at end rows ≡ line at to rows ++ line to end rows
unfolding line
line_split at to end rows a b c =
    ap (drop at) (sym (take-append-drop to (take end rows)))
    ∙ ap (λ (l : List Order). drop at (l ++ drop to (take end rows))) (take-take to end rows b)
    ∙ drop-append-le at (take to rows) (drop to (take end rows))
    (omega (arith, length-take-le to rows (omega arith)))

module _ (shares from to : ℕ) (rows : List Order) (short : to ≤ length rows) {left at : ℕ} (w : Ending shares from to rows left at) where
  module _ {o : Order} (inside : at < to) (e : o ≡ get_or rows at free) where
    off_one : line at to rows ≡ o ∷ line (at + 1) to rows
    off_one = line_cons at to rows inside short e

    -- the order there keeps some
    pub cut_here :
        {r : Order} {rows' : List Order}
        → left < o.left
        → r ≡ less_by left o
        → rows' ≡ set rows at r
        → CutAt shares from to rows rows' at
    unfolding off_front
    cut_here {r} {rows'} l f g =
        let within : at < length rows = omega arith in
        let it : r ≡ get_or rows' at free =
        sym
        (ap (λ (x : List Order). get_or x at free) g
        ∙ get_or-set_same rows at r free (omega arith))
        in
        let later : line (at + 1) to rows' ≡ line (at + 1) to rows =
        line_same (at + 1) to rows rows' (put_back rows at r within g (at + 1) (omega arith))
        in
        record {
          kept =
              line_cons at to rows' inside (omega (arith, put_long rows at r within g)) it
              ∙ ap (λ (os : List Order). r ∷ os) later
              ∙ sym (w.same ∙ ap (off_front left) off_one ∙ rw (lt-ltb left o.left l, f));
          before =
              ap (λ (x : List Order). take at x) g
              ∙ take-set-le at rows at r (omega arith);
          behind = put_back rows at r within g to inside;
          least = w.least;
          most = w.most;
        }

    pub ending_next : o.left ≤ left → Ending shares from to rows (left - o.left) (at + 1)
    unfolding off_front
    ending_next l =
        record {
          same = w.same ∙ ap (off_front left) off_one ∙ rw (le-ltb left o.left l);
          least = omega (arith, w.least);
          most = omega arith;
        }

  -- nobody keeps any
  pub cut_all : to ≤ at → CutAt shares from to rows rows to
  unfolding off_front
  cut_all h =
      let none : line at to rows ≡ [] = line_end at to rows h in
      let z : line to to rows ≡ [] = line_end to to rows (omega arith) in
      record {
        kept = z ∙ sym (w.same ∙ ap (off_front left) none);
        before = refl;
        behind = refl;
        least = omega (arith, w.least, w.most);
        most = omega arith;
      }

-- the rows were as they came
pub cut_from :
    {shares from to at : ℕ} {rows rows₀ rows' : List Order}
    → rows ≡ rows₀
    → CutAt shares from to rows rows' at
    → CutAt shares from to rows₀ rows' at
cut_from {shares} {from} {to} {at} {rows} {rows₀} {rows'} e c = subst (λ (r : List Order). CutAt shares from to r rows' at) e c

-- ---- and those behind moved up

module _ (rows rows' : List Order) {shares from to end at : ℕ} (wide : to ≤ end) (short : end ≤ length rows) (long : length rows' ≡ length rows) (frees : FreeFrom end rows) (c : CutAt shares from to rows rows' at) where
  abbrev orders : List Order
  orders = take from rows ++ (off_front shares (line from to rows) ++ line to end rows)

  orders_length : length orders ≡ from + ((to - at) + (end - to))
  orders_length =
      length-append (take from rows) (off_front shares (line from to rows) ++ line to end rows)
      ∙ omega (
        arith,
        length-take-le from rows (omega (arith, c.least, c.most)),
        length-append (off_front shares (line from to rows)) (line to end rows),
        ap length c.kept,
        line_length at to rows' (omega arith),
        line_length to end rows short,
      )

  pub taken_off :
      {book : List Order}
      → book ≡ take from rows' ++ (line at end rows' ++ (replicate (at - from) free ++ drop end rows'))
      → book ≡ placed (length rows) orders
  unfolding placed
  taken_off {book} e =
      let first : take from rows' ≡ take from rows =
      sym (take-take from at rows' c.least) ∙ ap (take from) c.before ∙ take-take from at rows c.least
      in
      let middle : line at end rows' ≡ off_front shares (line from to rows) ++ line to end rows =
      line_split at to end rows' c.most wide (omega arith)
      ∙ ap (λ (l : List Order). l ++ line to end rows') c.kept
      ∙ ap (λ (l : List Order). off_front shares (line from to rows) ++ l) (line_same to end rows rows' c.behind)
      in
      let last : drop end rows' ≡ replicate (length rows - end) free =
      later_same to end rows' rows wide c.behind ∙ frees
      in
      let n : (at - from) + (length rows - end) ≡ length rows - length orders = omega (arith, orders_length, c.least, c.most) in
      e
      ∙ rw (first, middle, last)
      (ap (λ (l : List Order). take from rows ++ ((off_front shares (line from to rows) ++ line to end rows) ++ l))
      (replicate-append-replicate (at - from) (length rows - end) free ∙ ap (λ (k : ℕ). replicate k free) n)
      ∙ sym (append_assoc (take from rows) (off_front shares (line from to rows) ++ line to end rows) (replicate (length rows - length orders) free))
      ∙ sym (placed_fit (length rows) orders (omega (arith, orders_length, c.least, c.most))))
