-- What is left of the line when the trades' shares have come off the first of either side is what the trades leave of its orders.
-- Assumes nothing.
use Prim.Native.Nat.{ℕ, ◌+◌, ◌-◌}
use mathlib.Core.Path.{◌≡◌, refl, sym, ap, ◌∙◌}
use mathlib.Core.Bool.{Bool, true, false, not}
use mathlib.Core.List.{List, [], ◌∷◌, map}
use mathlib.Core.Logic.{◌⊎◌, inl, inr}
use native.Mathlib.Omega.{arith}
use lib.Dec.{eqb}
use borrow.Author.Tests.{eq-eqb, ne_eqb, eqb-true, eqb-false, le-ltb}
use Rattle.model.specs.declared.Order.{Order}
use Rattle.model.specs.declared.Trade.{Trade}
use Rattle.model.specs.Lists.{keep}
use Rattle.model.specs.Book.{free, is_live, stands_on}
use Rattle.model.specs.Arrival.{in_places}
use Rattle.model.specs.Matching.{filled, less_by, settle}
use Rattle.model.specs.FixedBook.{is_void, matches, lined}
use Rattle.model.specs.Words.{Each}
use Rattle.book.specs.Standing.{Fair}
use Rattle.book.proofs.Lists.{keep_true, keep_false}
use Rattle.book.proofs.Kept.{after, Less, less_by_lem, free_left}
use Rattle.book.proofs.Thinning.{free_gone}
use Rattle.book.proofs.Fronts.{less_front}
use Rattle.book.proofs.Queues.{Place, place_of, on_side}
use Rattle.fixed_book.specs.Ready.{Lined}
use Rattle.fixed_book.specs.Leaving.{left_over}
use Rattle.fixed_book.specs.Line.{Tidy}
use Rattle.fixed_book.proofs.Sides.{live_taken, closed}

-- nothing comes off a free place
pub less_free : (q : ℕ) → less_by q free ≡ free
unfolding less_by
less_free q = rw (le-ltb q free.left (omega (arith, free_left)))

pub free_side : free.side ≡ 0
unfolding free
free_side = refl

keep_alike :
    (p : Order → Bool) (x y : Order) (xs ys : List Order) → x ≡ y → keep p xs ≡ keep p ys → keep p (x ∷ xs) ≡ keep p (y ∷ ys)
unfolding keep
keep_alike p x y xs ys e f = rw (e, f)

-- ---- the line from an order on

module _ (close b s : ℕ) (o : Order) (os : List Order) where
  pub over_void : is_void close o ≡ true → left_over close b s (o ∷ os) ≡ free ∷ left_over close b s os
  unfolding left_over
  over_void e = rw e

  pub over_buy : is_void close o ≡ false → o.side ≡ 0 → left_over close b s (o ∷ os) ≡ less_by b o ∷ left_over close (b - o.left) s os
  unfolding left_over
  over_buy e z = rw (e, eq-eqb o.side 0 z)

  pub over_sell : is_void close o ≡ false → (o.side ≡ 0 → ⊥) → left_over close b s (o ∷ os) ≡ less_by s o ∷ left_over close b (s - o.left) os
  unfolding left_over
  over_sell e z = rw (e, ne_eqb o.side 0 z)

-- ---- the orders of a side that are not void

module _ (close : ℕ) where
  abbrev pub not_void : Order → Bool
  not_void o = not (is_void close o)

  abbrev pub on : ℕ → List Order → List Order
  on side os = keep (stands_on side) (keep not_void os)

  module _ (o : Order) (os : List Order) where
    out : is_void close o ≡ true → keep not_void (o ∷ os) ≡ keep not_void os
    out e = keep_false not_void o os (ap not e)

    in_line : is_void close o ≡ false → keep not_void (o ∷ os) ≡ o ∷ keep not_void os
    in_line e = keep_true not_void o os (ap not e)

    pub on_more : (side : ℕ) → is_void close o ≡ false → stands_on side o ≡ true → on side (o ∷ os) ≡ o ∷ on side os
    on_more side e t = ap (keep (stands_on side)) (in_line e) ∙ keep_true (stands_on side) o (keep not_void os) t

    pub on_same : (side : ℕ) → is_void close o ≡ false → stands_on side o ≡ false → on side (o ∷ os) ≡ on side os
    on_same side e t = ap (keep (stands_on side)) (in_line e) ∙ keep_false (stands_on side) o (keep not_void os) t

-- ---- trades that take a front off each side

module _ (close : ℕ) (ts : List Trade) where
  abbrev Merged : ℕ → ℕ → List Order → Type 0
  Merged b s os =
      map (after ts) (on close 0 os) ≡ less_front b (on close 0 os)
      → map (after ts) (on close 1 os) ≡ less_front s (on close 1 os)
      → keep is_live (map (after ts) (keep (not_void close) os)) ≡ keep is_live (left_over close b s os)

  module _ (o : Order) (os : List Order) (more : (b s : ℕ) → Merged b s os) (b s : ℕ) where
    abbrev Front : ℕ → ℕ → List Order → Type 0
    Front side v l = map (after ts) (on close side l) ≡ less_front v (on close side l)

    merge_void : is_void close o ≡ true → Merged b s (o ∷ os)
    merge_void e eb es =
        let fb : Front 0 b os = rw (out close o os e) at eb in
        let fs : Front 1 s os = rw (out close o os e) at es in
        ap (λ (l : List Order). keep is_live (map (after ts) l)) (out close o os e)
        ∙ more b s fb fs
        ∙ sym (ap (keep is_live) (over_void close b s o os e) ∙ keep_false is_live free (left_over close b s os) free_gone)

    merge_buy : is_void close o ≡ false → stands_on 0 o ≡ true → stands_on 1 o ≡ false → Merged b s (o ∷ os)
    unfolding less_front
    merge_buy e t u eb es =
        let both : map (after ts) (o ∷ on close 0 os) ≡ less_front b (o ∷ on close 0 os) = rw (on_more close o os 0 e t) at eb in
        let fs : Front 1 s os = rw (on_same close o os 1 e u) at es in
        let head : after ts o ≡ less_by b o = cc in
        let fb : Front 0 (b - o.left) os = cc in
        ap (λ (l : List Order). keep is_live (map (after ts) l)) (in_line close o os e)
        ∙ keep_alike is_live (after ts o) (less_by b o) (map (after ts) (keep (not_void close) os)) (left_over close (b - o.left) s os) head (more (b - o.left) s fb fs)
        ∙ sym (ap (keep is_live) (over_buy close b s o os e (on_side 0 o t)))

    merge_sell : is_void close o ≡ false → stands_on 0 o ≡ false → stands_on 1 o ≡ true → Merged b s (o ∷ os)
    unfolding less_front
    merge_sell e t u eb es =
        let both : map (after ts) (o ∷ on close 1 os) ≡ less_front s (o ∷ on close 1 os) = rw (on_more close o os 1 e u) at es in
        let fb : Front 0 b os = rw (on_same close o os 0 e t) at eb in
        let head : after ts o ≡ less_by s o = cc in
        let fs : Front 1 (s - o.left) os = cc in
        ap (λ (l : List Order). keep is_live (map (after ts) l)) (in_line close o os e)
        ∙ keep_alike is_live (after ts o) (less_by s o) (map (after ts) (keep (not_void close) os)) (left_over close b (s - o.left) os) head (more b (s - o.left) fb fs)
        ∙ sym (ap (keep is_live) (over_sell close b s o os e (λ z. omega (arith, z, on_side 1 o u))))

    merge_free : is_void close o ≡ false → stands_on 0 o ≡ false → stands_on 1 o ≡ false → o ≡ free → Merged b s (o ∷ os)
    merge_free e t u z eb es =
        let fb : Front 0 b os = rw (on_same close o os 0 e t) at eb in
        let fs : Front 1 s os = rw (on_same close o os 1 e u) at es in
        let nothing : b - o.left ≡ b = omega (arith, ap (λ (x : Order). x.left) z, free_left) in
        let head : after ts o ≡ less_by b o = ap (after ts) z ∙ less_free _ ∙ sym (ap (less_by b) z ∙ less_free b) in
        ap (λ (l : List Order). keep is_live (map (after ts) l)) (in_line close o os e)
        ∙ keep_alike is_live (after ts o) (less_by b o) (map (after ts) (keep (not_void close) os)) (left_over close b s os) head (more b s fb fs)
        ∙ ap (λ n. keep is_live (less_by b o ∷ left_over close n s os)) (sym nothing)
        ∙ sym (ap (keep is_live) (over_buy close b s o os e (ap (λ (x : Order). x.side) z ∙ free_side)))

    merge_one : Fair o → Merged b s (o ∷ os)
    merge_one f = go (is_void close o) refl (place_of o f)
      where
        go : (a : Bool) → is_void close o ≡ a → Place o → Merged b s (o ∷ os)
        go true e p = merge_void e
        go false e (inl p) = merge_buy e p.0 p.1
        go false e (inr (inl p)) = merge_sell e p.0 p.1
        go false e (inr (inr p)) = merge_free e p.0 p.1 (f.none p.2)

  merged : (os : List Order) → Each Fair os → (b s : ℕ) → Merged b s os
  merged [] f b s = λ eb es. unfold keep left_over in refl
  merged (o ∷ os) f b s = merge_one o os (merged os f.1) b s f.0

-- ---- the line at the close

module _ (close : ℕ) (book : List Order) (l : Lined book) where
  abbrev ts : List Trade
  ts = matches close (keep (λ (o : Order). not (is_void close o)) book)

  -- what is left of the line, and what the trades leave of its orders, in their places
  pub close_leaves :
      {v : ℕ} (n : ℕ)
      → v ≡ filled ts
      → lined n (left_over close v v book) ≡ lined n (settle ts (keep (λ o. not (is_void close o)) book))
  unfolding lined in_places settle
  close_leaves {v} n e =
      let k = closed close book l in
      let same : keep is_live (settle ts (keep (λ (o : Order). not (is_void close o)) book)) ≡ keep is_live (left_over close v v book) =
      rw e (merged close ts book l.fair (filled ts) (filled ts) k.buys k.sells)
      in
      rw (← live_taken (left_over close v v book), ← live_taken (settle ts (keep (λ (o : Order). not (is_void close o)) book)), same)

  pub settled_close :
      {v m n : ℕ} {left after : List Order}
      → v ≡ filled ts
      → left ≡ left_over close v v book
      → m ≡ n
      → after ≡ lined m left
      → after ≡ lined n (settle ts (keep (λ o. not (is_void close o)) book))
  settled_close {v} {m} {n} {left} e f g h =
      h ∙ ap (λ i. lined i left) g ∙ ap (lined n) f ∙ close_leaves n e

-- who is gone leaves a place of zeros
less_tidy : (q : ℕ) (o : Order) → Fair o → (less_by q o).number ≡ 0 → less_by q o ≡ free
less_tidy q o f z = go (less_by_lem q o)
  where
    go : (less_by q o ≡ free) ⊎ (Less o (less_by q o) × ((less_by q o).left + q ≡ o.left)) → less_by q o ≡ free
    go (inl e) = e
    go (inr (l, e)) =
        let gone : o ≡ free = f.none (l.number ∙ z) in
        absurd (omega (arith, l.some, l.left, ap (λ (x : Order). x.left) gone, free_left))

pub left_tidy : (close b s : ℕ) (book : List Order) → Each Fair book → Tidy (left_over close b s book)
left_tidy close b s [] f = unfold left_over in tt
left_tidy close b s (o ∷ os) f =
    go (is_void close o) refl (eqb o.side 0) refl (λ b s. left_tidy close b s os f.1)
  where
    go :
        (x : Bool)
        → is_void close o ≡ x
        → (y : Bool)
        → eqb o.side 0 ≡ y
        → ((b s : ℕ) → Tidy (left_over close b s os))
        → Tidy (left_over close b s (o ∷ os))
    go true e y d more = rw (over_void close b s o os e) (λ _. refl, more b s)
    go false e true d more = rw (over_buy close b s o os e (eqb-true o.side 0 d)) (less_tidy b o f.0, more (b - o.left) s)
    go false e false d more = rw (over_sell close b s o os e (eqb-false o.side 0 d)) (less_tidy s o f.0, more b (s - o.left))
