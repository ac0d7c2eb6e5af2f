-- A new order at the lowest free place: it stands there as it would in front of the others, and has the same place in their queues.
use Prim.Native.Nat.{ℕ, suc, ◌≤◌, ◌<◌}
use mathlib.Core.Path.{◌≡◌, refl, sym, ap, ◌∙◌}
use mathlib.Core.Bool.{Bool, true, false, ◌&&◌}
use mathlib.Core.List.{List, [], ◌∷◌}
use native.Mathlib.Omega.{arith}
use lib.ListN.{length}
use lib.Dec.{ltb}
use borrow.Author.Tests.{ltb-true, ltb-false, lt-ltb, le-ltb}
use Rattle.model.specs.declared.Order.{Order}
use Rattle.model.specs.Lists.{keep, all}
use Rattle.model.specs.Book.{is_live, stands_on, queue}
use Rattle.model.proofs.Bools.{not_both}
use Rattle.model.specs.Words.{Each, Apart}
use Rattle.book.specs.Standing.{Fair, Standing}
use Rattle.book.specs.Priority.{key}
use Rattle.book.proofs.Lists.{both, keep_true, keep_false}
use Rattle.book.proofs.Sorting.{insert_by, sort_by, by_key}
use Rattle.book.proofs.Queues.{queue_keyed}
use Rattle.book.proofs.Kept.{New, Fresh, new_fresh}
use Rattle.demands.specs.Older.{rest}

-- ---- two insertions, either way round

abbrev ins : Order → List Order → List Order
ins x ys = insert_by (by_key key) x ys

insert_here : (x y : Order) (ys : List Order) → ltb (key y) (key x) ≡ false → ins x (y ∷ ys) ≡ x ∷ y ∷ ys
unfolding insert_by by_key
insert_here x y ys e = rw e

insert_later : (x y : Order) (ys : List Order) → ltb (key y) (key x) ≡ true → ins x (y ∷ ys) ≡ y ∷ ins x ys
unfolding insert_by by_key
insert_later x y ys e = rw e

insert_one : (x : Order) → ins x [] ≡ x ∷ []
unfolding insert_by
insert_one x = refl

-- the smaller goes first, wherever the two go
both_here :
    (x y : Order) (zs : List Order)
    → key x < key y
    → ins y zs ≡ y ∷ zs
    → ins x zs ≡ x ∷ zs
    → ins x (ins y zs) ≡ ins y (ins x zs)
both_here x y zs l e f =
    ap (ins x) e
    ∙ insert_here x y zs (le-ltb (key y) (key x) (omega arith))
    ∙ ap (λ (t : List Order). x ∷ t) (sym e)
    ∙ sym (ap (ins y) f ∙ insert_later y x zs (lt-ltb (key x) (key y) l))

ordered_swap : (x y : Order) (zs : List Order) → key x < key y → ins x (ins y zs) ≡ ins y (ins x zs)
ordered_swap x y [] l = both_here x y [] l (insert_one y) (insert_one x)
ordered_swap x y (z ∷ zs) l = go (ltb (key z) (key x)) refl (ltb (key z) (key y)) refl (ordered_swap x y zs l)
  where
    go :
        (a : Bool)
        → ltb (key z) (key x) ≡ a
        → (b : Bool)
        → ltb (key z) (key y) ≡ b
        → ins x (ins y zs) ≡ ins y (ins x zs)
        → ins x (ins y (z ∷ zs)) ≡ ins y (ins x (z ∷ zs))
    go true e true f ih =
        ap (ins x) (insert_later y z zs f)
        ∙ insert_later x z (ins y zs) e
        ∙ ap (λ (t : List Order). z ∷ t) ih
        ∙ sym (ap (ins y) (insert_later x z zs e) ∙ insert_later y z (ins x zs) f)
    go true e false f ih = absurd (omega (arith, ltb-true (key z) (key x) e, ltb-false (key z) (key y) f))
    go false e true f ih =
        ap (ins x) (insert_later y z zs f)
        ∙ insert_here x z (ins y zs) e
        ∙ ap (λ (t : List Order). x ∷ t) (sym (insert_later y z zs f))
        ∙ sym (ap (ins y) (insert_here x z zs e) ∙ insert_later y x (z ∷ zs) (lt-ltb (key x) (key y) l))
    go false e false f ih = both_here x y (z ∷ zs) l (insert_here y z zs f) (insert_here x z zs e)

swap : (x y : Order) (zs : List Order) → (key x ≡ key y → ⊥) → ins x (ins y zs) ≡ ins y (ins x zs)
swap x y zs n = go (ltb (key x) (key y)) refl
  where
    go : (b : Bool) → ltb (key x) (key y) ≡ b → ins x (ins y zs) ≡ ins y (ins x zs)
    go true e = ordered_swap x y zs (ltb-true (key x) (key y) e)
    go false e =
        let l : key y ≤ key x = ltb-false (key x) (key y) e in
        sym (ordered_swap y x zs (omega arith))

-- ---- the lowest free place

rest_live : (o p : Order) (ps : List Order) → is_live p ≡ true → rest o (p ∷ ps) ≡ p ∷ rest o ps
unfolding rest
rest_live o p ps e = rw e

rest_free : (o p : Order) (ps : List Order) → is_live p ≡ false → rest o (p ∷ ps) ≡ o ∷ ps
unfolding rest
rest_free o p ps e = rw e

pub rest_length : (o : Order) (book : List Order) → length (rest o book) ≡ length book
unfolding rest
rest_length o [] = refl
rest_length o (p ∷ ps) = go (is_live p) refl (rest_length o ps)
  where
    go : (b : Bool) → is_live p ≡ b → length (rest o ps) ≡ length ps → length (rest o (p ∷ ps)) ≡ suc (length ps)
    go true e ih = ap length (rest_live o p ps e) ∙ ap suc ih
    go false e ih = ap length (rest_free o p ps e)

rest_each : (P : Order → Type 0) (o : Order) (book : List Order) → P o → Each P book → Each P (rest o book)
unfolding rest
rest_each P o [] h e = tt
rest_each P o (p ∷ ps) h e = go (is_live p) refl (rest_each P o ps h e.1)
  where
    go : (b : Bool) → is_live p ≡ b → Each P (rest o ps) → Each P (rest o (p ∷ ps))
    go true f ih = rw (rest_live o p ps f) (e.0, ih)
    go false f ih = rw (rest_free o p ps f) (h, e.1)

rest_apart : (o : Order) (book : List Order) → Fresh o.number book → Apart book → Apart (rest o book)
unfolding rest
rest_apart o [] f a = tt
rest_apart o (p ∷ ps) f a = go (is_live p) refl (rest_apart o ps f.1 a.1)
  where
    go : (b : Bool) → is_live p ≡ b → Apart (rest o ps) → Apart (rest o (p ∷ ps))
    go true e ih =
        rw (rest_live o p ps e)
        (rest_each (λ (x : Order). x.number ≡ p.number → p.number ≡ 0) o ps (λ z. sym z ∙ f.0 (sym z)) a.0, ih)
    go false e ih = rw (rest_free o p ps e) (f.1, a.1)

pub rest_stands : (o : Order) (book : List Order) → Fair o → New o.number book → Standing book → Standing (rest o book)
rest_stands o book h w s =
    record {
      fair = rest_each Fair o book h s.fair;
      apart = rest_apart o book (new_fresh o.number book w) s.apart;
    }

-- ---- the orders of a side

abbrev on : ℕ → List Order → List Order
on side os = sort_by (by_key key) (keep (stands_on side) os)

on_next : (side : ℕ) (o : Order) (os : List Order) → stands_on side o ≡ true → on side (o ∷ os) ≡ ins o (on side os)
unfolding sort_by
on_next side o os e = ap (sort_by (by_key key)) (keep_true (stands_on side) o os e)

on_skip : (side : ℕ) (o : Order) (os : List Order) → stands_on side o ≡ false → on side (o ∷ os) ≡ on side os
on_skip side o os e = ap (sort_by (by_key key)) (keep_false (stands_on side) o os e)

nowhere : (side : ℕ) (o : Order) → is_live o ≡ false → stands_on side o ≡ false
unfolding stands_on
nowhere side o e = rw e

-- two orders that join a side, either way round
on_swap :
    (side : ℕ) (o p : Order) (xs ys : List Order)
    → (key p ≡ key o → ⊥)
    → on side xs ≡ on side (o ∷ ys)
    → on side (p ∷ xs) ≡ on side (o ∷ p ∷ ys)
on_swap side o p xs ys n ih = go (stands_on side p) refl (stands_on side o) refl
  where
    go :
        (t : Bool)
        → stands_on side p ≡ t
        → (u : Bool)
        → stands_on side o ≡ u
        → on side (p ∷ xs) ≡ on side (o ∷ p ∷ ys)
    go true f true g =
        on_next side p xs f
        ∙ ap (ins p) (ih ∙ on_next side o ys g)
        ∙ swap p o (on side ys) n
        ∙ sym (on_next side o (p ∷ ys) g ∙ ap (ins o) (on_next side p ys f))
    go true f false g =
        on_next side p xs f
        ∙ ap (ins p) (ih ∙ on_skip side o ys g)
        ∙ sym (on_skip side o (p ∷ ys) g ∙ on_next side p ys f)
    go false f true g =
        on_skip side p xs f
        ∙ ih
        ∙ on_next side o ys g
        ∙ sym (on_next side o (p ∷ ys) g ∙ ap (ins o) (on_skip side p ys f))
    go false f false g =
        on_skip side p xs f ∙ ih ∙ on_skip side o ys g ∙ sym (on_skip side o (p ∷ ys) g ∙ on_skip side p ys f)

on_rest :
    (side : ℕ) (o : Order) (book : List Order)
    → all is_live book ≡ false
    → Each (λ p. key p ≡ key o → ⊥) book
    → on side (rest o book) ≡ on side (o ∷ book)
unfolding all
on_rest side o [] r d = absurd (not_both refl r)
on_rest side o (p ∷ ps) r d = go (is_live p) refl r (λ q. on_rest side o ps q d.1)
  where
    go :
        (b : Bool)
        → is_live p ≡ b
        → (b && all is_live ps) ≡ false
        → (all is_live ps ≡ false → on side (rest o ps) ≡ on side (o ∷ ps))
        → on side (rest o (p ∷ ps)) ≡ on side (o ∷ p ∷ ps)
    go true e r ih = ap (on side) (rest_live o p ps e) ∙ on_swap side o p (rest o ps) ps d.0 (ih r)
    go false e r ih = ap (on side) (rest_free o p ps e) ∙ skip (stands_on side o) refl
      where
        past : on side (p ∷ ps) ≡ on side ps
        past = on_skip side p ps (nowhere side p e)

        skip : (t : Bool) → stands_on side o ≡ t → on side (o ∷ ps) ≡ on side (o ∷ p ∷ ps)
        skip true f = on_next side o ps f ∙ sym (on_next side o (p ∷ ps) f ∙ ap (ins o) past)
        skip false f = on_skip side o ps f ∙ sym (on_skip side o (p ∷ ps) f ∙ past)

-- ---- with a number of its own, in a book that is not full

own_key : (o p : Order) → Fair o → Fair p → (p.number ≡ o.number → ⊥) → key p ≡ key o → ⊥
unfolding key
own_key o p f g n e = n (omega (arith, f.number, g.number))

pub rest_queue :
    (side : ℕ) (o : Order) (book : List Order)
    → Standing book
    → Fair o
    → New o.number book
    → all is_live book ≡ false
    → queue side (rest o book) ≡ queue side (o ∷ book)
rest_queue side o book s f w e =
    queue_keyed side (rest o book) (rest_stands o book f w s).fair
    ∙ on_rest side o book e
    (both Fair (λ p. p.number ≡ o.number → ⊥) (λ p. key p ≡ key o → ⊥) book (λ p g x. own_key o p f g x) s.fair
    w.fresh)
    ∙ sym (queue_keyed side (o ∷ book) (f, s.fair))
