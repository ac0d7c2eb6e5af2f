-- A book of orders with numbers of their own is in order, place by place as the definition tests it, exactly when it is arranged.
use Prim.Native.Nat.{ℕ, suc, ◌+◌, ◌-◌, ◌*◌, ◌≤◌, ◌<◌}
use mathlib.Core.Path.{◌≡◌, refl, sym, ap, ◌∙◌}
use mathlib.Core.Bool.{Bool, true, false, cond, not}
use mathlib.Core.List.{List, [], ◌∷◌, ◌++◌}
use mathlib.Core.Logic.{◌⊎◌, inl, inr}
use native.Mathlib.Omega.{arith}
use lib.ListN.{length, replicate, length-append, length-replicate}
use lib.Dec.{eqb}
use borrow.Author.Tests.{eq-eqb, eqb-true, lt-ltb, ltb-true}
use Rattle.model.specs.declared.Order.{Order}
use Rattle.model.specs.Lists.{keep}
use Rattle.model.specs.Book.{free, is_live, stands_on, ahead, queue, arranged, may_follow, in_order}
use Rattle.model.proofs.Bools.{and_left, and_right, and_both, not_both}
use Rattle.model.specs.Words.{Each, Ordered}
use Rattle.book.specs.Standing.{Fair, Standing}
use Rattle.book.specs.Priority.{key}
use Rattle.book.specs.Seats.{seat, Seated}
use Rattle.book.proofs.Lists.{keep_true, keep_false}
use Rattle.book.proofs.Sorting.{by_key, Weakly, sort_weakly}
use Rattle.book.proofs.Queues.{Stands, Place, place_of, live_number, ahead_key, queue_keyed, key_most}
use Rattle.book.proofs.Parts.{Parts, arranged_is, arranged_parts}
use Rattle.book.proofs.Counting.{not_live, queues_fit}
use Rattle.book.proofs.Seating.{seat_on, seat_live, seat_none, seat_sell, seated}

-- ---- one place behind another

stands_own : (o : Order) → Fair o → is_live o ≡ true → Stands o.side o
unfolding stands_on
stands_own o f e = (f, and_both e (eq-eqb o.side o.side refl))

seat_most : (o : Order) → Fair o → seat o ≤ 4_000_000_000_000
seat_most o f = go (is_live o) refl
  where
    go : (b : Bool) → is_live o ≡ b → seat o ≤ 4_000_000_000_000
    go true e = omega (arith, seat_live o (live_number o e), key_most o f, f.side)
    go false e = omega (arith, seat_none o (not_live o e))

module _ (a b : Order) (fa : Fair a) (fb : Fair b) where
  seat_of_a : is_live a ≡ true → seat a ≡ a.side * 2_000_000_000_000 + key a
  seat_of_a e = seat_live a (live_number a e)

  seat_of_b : is_live b ≡ true → seat b ≡ b.side * 2_000_000_000_000 + key b
  seat_of_b e = seat_live b (live_number b e)

  -- on one side, ahead is the smaller key
  ahead_is : is_live a ≡ true → is_live b ≡ true → a.side ≡ b.side → ahead a.side a b ≡ by_key key a b
  ahead_is ea eb s = ahead_key a.side a b (stands_own a fa ea) (rw s (stands_own b fb eb))

  same_number : key a ≡ key b → b.number ≡ a.number
  unfolding key
  same_number e = omega (arith, fa.number, fb.number)

  follows_seat : may_follow a b ≡ true → seat a ≤ seat b
  unfolding may_follow by_key
  follows_seat e = go (is_live b) refl (is_live a) refl (eqb a.side b.side) refl e
    where
      go :
          (u : Bool)
          → is_live b ≡ u
          → (v : Bool)
          → is_live a ≡ v
          → (w : Bool)
          → eqb a.side b.side ≡ w
          → cond (not u) true (cond (not v) false (cond w (ahead a.side a b) (eqb a.side 0))) ≡ true
          → seat a ≤ seat b
      go false f v g w h e = omega (arith, seat_none b (not_live b f), seat_most a fa)
      go true f false g w h e = absurd (not_both e refl)
      go true f true g true h e =
          let s : a.side ≡ b.side = eqb-true a.side b.side h in
          let l : key a < key b = ltb-true (key a) (key b) (sym (ahead_is g f s) ∙ e) in
          omega (arith, seat_of_a g, seat_of_b f)
      go true f true g false h e =
          let z : a.side ≡ 0 = eqb-true a.side 0 e in
          let n : a.side ≡ b.side → ⊥ = λ s. not_both (eq-eqb a.side b.side s) h in
          omega (arith, seat_of_a g, seat_of_b f, key_most a fa, fb.side)

  seat_follows : (b.number ≡ a.number → a.number ≡ 0) → seat a ≤ seat b → may_follow a b ≡ true
  unfolding may_follow by_key
  seat_follows own l = go (is_live b) refl (is_live a) refl (eqb a.side b.side) refl
    where
      go :
          (u : Bool)
          → is_live b ≡ u
          → (v : Bool)
          → is_live a ≡ v
          → (w : Bool)
          → eqb a.side b.side ≡ w
          → cond (not u) true (cond (not v) false (cond w (ahead a.side a b) (eqb a.side 0))) ≡ true
      go false f v g w h = refl
      go true f false g w h =
          absurd (omega (arith, l, seat_none a (not_live a g), seat_of_b f, key_most b fb, fb.side))
      go true f true g true h =
          let s : a.side ≡ b.side = eqb-true a.side b.side h in
          let n : key a ≡ key b → ⊥ = λ e. live_number a g (own (same_number e)) in
          ahead_is g f s ∙ lt-ltb (key a) (key b) (omega (arith, l, seat_of_a g, seat_of_b f))
      go true f true g false h =
          let n : a.side ≡ b.side → ⊥ = λ s. not_both (eq-eqb a.side b.side s) h in
          eq-eqb a.side 0
          (omega (arith, l, seat_of_a g, seat_of_b f, key_most b fb, fa.side, fb.side))

-- ---- all of them

told_seated : (a : ℕ) (o : Order) (os : List Order) → Each Fair (o ∷ os) → a ≤ seat o → in_order (o ∷ os) ≡ true → Seated a (o ∷ os)
unfolding in_order
told_seated a o [] f l e = (l, tt)
told_seated a o (p ∷ ps) f l e = (
  l,
  told_seated (seat o) p ps f.1 (follows_seat o p f.0 f.1.0 (and_left (may_follow o p) (in_order (p ∷ ps)) e))
      (and_right (may_follow o p) (in_order (p ∷ ps)) e),
)

seated_told : (a : ℕ) (os : List Order) → Standing os → Seated a os → in_order os ≡ true
unfolding in_order
seated_told a [] s h = refl
seated_told a (o ∷ []) s h = refl
seated_told a (o ∷ p ∷ ps) s h =
    and_both (seat_follows o p s.fair.0 s.fair.1.0 s.apart.0.0 h.1.0)
    (seated_told (seat o) (p ∷ ps) (record { fair = s.fair.1; apart = s.apart.1 }) h.1)

-- ---- seats that never fall are those of an arranged book

-- the orders of a side
seated_weakly :
    (side a b : ℕ) (os : List Order)
    → Seated a os
    → (side * 2_000_000_000_000 + b ≤ a) ⊎ (b ≡ 0)
    → Weakly key b (keep (stands_on side) os)
unfolding keep
seated_weakly side a b [] s h = tt
seated_weakly side a b (o ∷ os) s h =
    go (stands_on side o) refl (λ c k. seated_weakly side (seat o) c os s.1 k)
  where
    after : (side * 2_000_000_000_000 + b ≤ a) ⊎ (b ≡ 0) → (side * 2_000_000_000_000 + b ≤ seat o) ⊎ (b ≡ 0)
    after (inl l) = inl (omega (arith, s.0))
    after (inr z) = inr z

    low : (side * 2_000_000_000_000 + b ≤ a) ⊎ (b ≡ 0) → seat o ≡ side * 2_000_000_000_000 + key o → b ≤ key o
    low (inl l) e = omega (arith, s.0)
    low (inr z) e = omega arith

    go :
        (t : Bool)
        → stands_on side o ≡ t
        → ((c : ℕ) → (side * 2_000_000_000_000 + c ≤ seat o) ⊎ (c ≡ 0) → Weakly key c (keep (stands_on side) os))
        → Weakly key b (cond t (o ∷ keep (stands_on side) os) (keep (stands_on side) os))
    go true e ih = (low h (seat_on side o e), ih (key o) (inl (omega (arith, seat_on side o e))))
    go false e ih = ih b (after h)

seated_queue : (side : ℕ) (os : List Order) → Each Fair os → Seated 0 os → queue side os ≡ keep (stands_on side) os
seated_queue side os f s = queue_keyed side os f ∙ sort_weakly key 0 (keep (stands_on side) os) (seated_weakly side 0 0 os s (inr refl))

-- ---- buys, sells and free places in a row

none_before : (side a : ℕ) (os : List Order) → Each Fair os → Seated a os → (side + 1) * 2_000_000_000_000 ≤ a → keep (stands_on side) os ≡ []
unfolding keep
none_before side a [] f s h = refl
none_before side a (o ∷ os) f s h =
    go (stands_on side o) refl (none_before side (seat o) os f.1 s.1 (omega (arith, s.0)))
  where
    go :
        (t : Bool)
        → stands_on side o ≡ t
        → keep (stands_on side) os ≡ []
        → cond t (o ∷ keep (stands_on side) os) (keep (stands_on side) os) ≡ []
    go true e ih = absurd (omega (arith, s.0, seat_on side o e, key_most o f.0))
    go false e ih = ih

seated_row :
    (a : ℕ) (os : List Order)
    → Each Fair os
    → Seated a os
    → (k : ℕ) × (os ≡ keep (stands_on 0) os ++ (keep (stands_on 1) os ++ replicate k free))
seated_row a [] f s = (0, unfold keep in refl)
seated_row a (o ∷ os) f s = go (place_of o f.0) (seated_row (seat o) os f.1 s.1)
  where
    go :
        Place o
        → (k : ℕ) × (os ≡ keep (stands_on 0) os ++ (keep (stands_on 1) os ++ replicate k free))
        → (k : ℕ) × (o ∷ os ≡ keep (stands_on 0) (o ∷ os) ++ (keep (stands_on 1) (o ∷ os) ++ replicate k free))
    go (inl p) ih = (
      ih.0,
      rw (keep_true (stands_on 0) o os p.0, keep_false (stands_on 1) o os p.1) (ap (λ (l : List Order). o ∷ l) ih.1),
    )
    go (inr (inl p)) ih =
        let none : keep (stands_on 0) os ≡ [] =
        none_before 0 (seat o) os f.1 s.1 (omega (arith, (seat_sell o (f.0, p.1)).0))
        in
        let rest : os ≡ keep (stands_on 1) os ++ replicate ih.0 free = ih.1 ∙ rw none in (
          ih.0,
          rw (keep_false (stands_on 0) o os p.0, keep_true (stands_on 1) o os p.1, none) (ap (λ (l : List Order). o ∷ l) rest),
        )
    go (inr (inr p)) ih =
        let at : seat o ≡ 4_000_000_000_000 = seat_none o p.2 in
        let no_buys : keep (stands_on 0) os ≡ [] = none_before 0 (seat o) os f.1 s.1 (omega arith) in
        let no_sells : keep (stands_on 1) os ≡ [] = none_before 1 (seat o) os f.1 s.1 (omega arith) in
        let rest : os ≡ replicate ih.0 free = ih.1 ∙ rw (no_buys, no_sells) in
        let it : o ≡ free = f.0.none p.2 in (
          suc ih.0,
          rw (keep_false (stands_on 0) o os p.0, keep_false (stands_on 1) o os p.1, no_buys, no_sells)
              (ap (λ (x : Order). x ∷ os) it ∙ ap (λ (l : List Order). free ∷ l) rest),
        )

-- ---- both ways

seated_ordered : (book : List Order) → Each Fair book → Seated 0 book → Ordered book
seated_ordered book f s =
    let row = seated_row 0 book f s in
    let long : length book ≡ length (keep (stands_on 0) book) + (length (keep (stands_on 1) book) + row.0) =
    ap length row.1
    ∙ length-append (keep (stands_on 0) book) (keep (stands_on 1) book ++ replicate row.0 free)
    ∙ ap (λ n. length (keep (stands_on 0) book) + n) (length-append (keep (stands_on 1) book) (replicate row.0 free) ∙ ap (λ n. length (keep (stands_on 1) book) + n) (length-replicate row.0 free))
    in
    let n : length book - (length (keep (stands_on 0) book) + length (keep (stands_on 1) book)) ≡ row.0 = omega arith in
    row.1
    ∙ sym (arranged_is (length book) book (queues_fit book f) ∙ rw (seated_queue 0 book f s, seated_queue 1 book f s, n))

pub told_ordered : (book : List Order) → Standing book → in_order book ≡ true → Ordered book
told_ordered [] s e = unfold arranged in refl
told_ordered (o ∷ os) s e =
    seated_ordered (o ∷ os) s.fair (told_seated 0 o os s.fair (omega arith) e)

pub ordered_told : (book : List Order) → Standing book → Ordered book → in_order book ≡ true
ordered_told book s o = seated_told 0 book s (seated parts)
  where
    fit : length (queue 0 book) + length (queue 1 book) ≤ length book
    fit = queues_fit book s.fair

    parts : Parts book (queue 0 book) (queue 1 book) (length book - (length (queue 0 book) + length (queue 1 book)))
    parts = rw (sym o) at (arranged_parts (length book) book fit s)
