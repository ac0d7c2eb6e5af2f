-- How many orders there are: those of the two queues are the live ones, and a full book is one with as many as it has places.
use Prim.Native.Nat.{ℕ, ◌+◌, ◌≤◌, ◌<◌}
use mathlib.Core.Path.{◌≡◌, refl, sym, ap, ◌∙◌}
use mathlib.Core.Bool.{Bool, true, false, ◌&&◌}
use mathlib.Core.List.{List, [], ◌∷◌, map}
use mathlib.Core.Logic.{◌⊎◌, inl, inr}
use native.Mathlib.Decide.{ℕ_discrete}
use native.Mathlib.Omega.{arith}
use lib.ListN.{length}
use Rattle.model.specs.declared.Order.{Order}
use Rattle.model.specs.declared.Trade.{Trade}
use Rattle.model.specs.Lists.{keep, all}
use Rattle.model.specs.Book.{free, is_live, stands_on, queue}
use Rattle.model.specs.Matching.{settle}
use Rattle.model.proofs.Bools.{not_both}
use Rattle.model.specs.Words.{Each}
use Rattle.book.specs.Standing.{Fair}
use Rattle.book.proofs.Lists.{keep_true, keep_false, length_keep}
use Rattle.book.proofs.Queues.{Place, place_of, live_number, number_live, on_live, queue_length}
use Rattle.book.proofs.Kept.{Less, after, after_less, free_number}

-- how many orders a list has
abbrev pub orders : List Order → ℕ
orders os = length (keep is_live os)

pub not_live : (o : Order) → is_live o ≡ false → o.number ≡ 0
not_live o e = elim (ℕ_discrete o.number 0) [
  | yes z ↦ z
  | no n ↦ absurd (not_both (number_live o n) e)
]

number_gone : (o : Order) → o.number ≡ 0 → is_live o ≡ false
number_gone o z = go (is_live o) refl
  where
    go : (b : Bool) → is_live o ≡ b → b ≡ false
    go true e = absurd (live_number o e z)
    go false e = refl

both_sides : (os : List Order) → Each Fair os → length (keep (stands_on 0) os) + length (keep (stands_on 1) os) ≡ orders os
both_sides [] f = unfold keep in refl
both_sides (o ∷ os) f = go (place_of o f.0) (both_sides os f.1)
  where
    live : (side : ℕ) → stands_on side o ≡ true → keep is_live (o ∷ os) ≡ o ∷ keep is_live os
    live side e = keep_true is_live o os (number_live o (on_live side o e))

    go :
        Place o
        → length (keep (stands_on 0) os) + length (keep (stands_on 1) os) ≡ orders os
        → length (keep (stands_on 0) (o ∷ os)) + length (keep (stands_on 1) (o ∷ os)) ≡ orders (o ∷ os)
    go (inl k) ih =
        rw (keep_true (stands_on 0) o os k.0, keep_false (stands_on 1) o os k.1, live 0 k.0) (omega arith)
    go (inr (inl k)) ih =
        rw (keep_false (stands_on 0) o os k.0, keep_true (stands_on 1) o os k.1, live 1 k.1) (omega arith)
    go (inr (inr k)) ih =
        rw (
          keep_false (stands_on 0) o os k.0,
          keep_false (stands_on 1) o os k.1,
          keep_false is_live o os (number_gone o k.2),
        )
        ih

pub queues_orders : (os : List Order) → Each Fair os → length (queue 0 os) + length (queue 1 os) ≡ orders os
queues_orders os f = omega (arith, queue_length 0 os, queue_length 1 os, both_sides os f)

pub queues_fit : (os : List Order) → Each Fair os → length (queue 0 os) + length (queue 1 os) ≤ length os
queues_fit os f = omega (arith, queues_orders os f, length_keep is_live os)

-- ---- a full book

pub full : (os : List Order) → length os ≤ orders os → all is_live os ≡ true
unfolding all
full [] h = refl
full (o ∷ os) h = go (is_live o) refl (full os)
  where
    go : (b : Bool) → is_live o ≡ b → (length os ≤ orders os → all is_live os ≡ true) → (b && all is_live os) ≡ true
    go true e ih = ih (omega (arith, h, ap length (keep_true is_live o os e)))
    go false e ih = absurd (omega (arith, h, ap length (keep_false is_live o os e), length_keep is_live os))

pub not_full : (os : List Order) → orders os < length os → all is_live os ≡ false
unfolding all
not_full [] h = absurd (omega arith)
not_full (o ∷ os) h = go (is_live o) refl (not_full os)
  where
    go : (b : Bool) → is_live o ≡ b → (orders os < length os → all is_live os ≡ false) → (b && all is_live os) ≡ false
    go true e ih = ih (omega (arith, h, ap length (keep_true is_live o os e)))
    go false e ih = refl

pub has_room : (os : List Order) → all is_live os ≡ false → orders os < length os
unfolding all
has_room [] e = absurd (let z : ◌≡◌ {A = ℕ} 0 1 = cc in omega arith)
has_room (o ∷ os) e = go (is_live o) refl e (has_room os)
  where
    go :
        (b : Bool)
        → is_live o ≡ b
        → (b && all is_live os) ≡ false
        → (all is_live os ≡ false → orders os < length os)
        → orders (o ∷ os) < length (o ∷ os)
    go true f e ih = rw (keep_true is_live o os f) (omega (arith, ih e))
    go false f e ih = rw (keep_false is_live o os f) (omega (arith, length_keep is_live os))

-- trades make no order
pub fewer_orders : (ts : List Trade) (os : List Order) → orders (settle ts os) ≤ orders os
unfolding settle
fewer_orders ts [] = omega arith
fewer_orders ts (o ∷ os) = go (is_live o) refl (is_live (after ts o)) refl (fewer_orders ts os)
  where
    gone : o.number ≡ 0 → (after ts o ≡ free) ⊎ Less o (after ts o) → (after ts o).number ≡ 0
    gone z (inl e) = ap (λ (x : Order). x.number) e ∙ free_number
    gone z (inr l) = sym l.number ∙ z

    go :
        (a : Bool)
        → is_live o ≡ a
        → (b : Bool)
        → is_live (after ts o) ≡ b
        → orders (map (after ts) os) ≤ orders os
        → orders (after ts o ∷ map (after ts) os) ≤ orders (o ∷ os)
    go true e true f ih = rw (keep_true is_live o os e, keep_true is_live (after ts o) (map (after ts) os) f) (omega arith)
    go true e false f ih = rw (keep_true is_live o os e, keep_false is_live (after ts o) (map (after ts) os) f) (omega arith)
    go false e false f ih = rw (keep_false is_live o os e, keep_false is_live (after ts o) (map (after ts) os) f) ih
    go false e true f ih = absurd (live_number (after ts o) f (gone (not_live o e) (after_less ts o)))
