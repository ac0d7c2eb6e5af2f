-- The queues of orders that are changed or left out: trades and cancels do the same to a queue as to the book.
use Prim.Native.Nat.{ℕ}
use mathlib.Core.Path.{◌≡◌, refl, sym, ap, ◌∙◌}
use mathlib.Core.Bool.{Bool, true, false, cond, ◌&&◌, and-false}
use mathlib.Core.List.{List, [], ◌∷◌, map}
use mathlib.Core.Logic.{◌⊎◌, inl, inr}
use native.Mathlib.Omega.{arith}
use Rattle.model.specs.declared.Order.{Order}
use Rattle.model.specs.declared.Trade.{Trade}
use Rattle.model.specs.Lists.{keep}
use Rattle.model.specs.Book.{free, is_live, stands_on, queue}
use Rattle.model.specs.Matching.{settle}
use Rattle.model.specs.Words.{Each}
use Rattle.book.specs.Standing.{Fair, Standing}
use Rattle.book.specs.Priority.{key}
use Rattle.book.proofs.Lists.{every, keep_true, keep_false, keep_keep, keep_same, each_keep}
use Rattle.book.proofs.Sorting.{sort_by, by_key, thin_sort}
use Rattle.book.proofs.Queues.{number_live, on_live, same_stand, queue_keyed}
use Rattle.book.proofs.Kept.{Less, after, after_less, standing_settle}

-- ---- who stands on a side

pub free_nowhere : (side : ℕ) → stands_on side free ≡ false
unfolding stands_on is_live free
free_nowhere side = refl

pub free_gone : is_live free ≡ false
unfolding is_live free
free_gone = refl

same_key : (o p : Order) → Less o p → key p ≡ key o
unfolding key
same_key o p l = rw (l.side, l.price, l.number)

-- ---- orders changed one by one

module _ (side : ℕ) (f : Order → Order) (stays : (o : Order) → stands_on side (f o) ≡ (stands_on side o && is_live (f o))) where
  kept_on : (os : List Order) → keep (stands_on side) (map f os) ≡ keep is_live (map f (keep (stands_on side) os))
  unfolding keep
  kept_on [] = refl
  kept_on (o ∷ os) = go (stands_on side o) refl (is_live (f o)) refl (kept_on os)
    where
      go :
          (a : Bool)
          → stands_on side o ≡ a
          → (b : Bool)
          → is_live (f o) ≡ b
          → keep (stands_on side) (map f os) ≡ keep is_live (map f (keep (stands_on side) os))
          → keep (stands_on side) (f o ∷ map f os) ≡ keep is_live (map f (cond a (o ∷ keep (stands_on side) os) (keep (stands_on side) os)))
      go true e true g ih =
          keep_true (stands_on side) (f o) (map f os) (stays o ∙ rw (e, g))
          ∙ ap (λ (l : List Order). f o ∷ l) ih
          ∙ sym (keep_true is_live (f o) (map f (keep (stands_on side) os)) g)
      go true e false g ih =
          keep_false (stands_on side) (f o) (map f os) (stays o ∙ rw (e, g))
          ∙ ih
          ∙ sym (keep_false is_live (f o) (map f (keep (stands_on side) os)) g)
      go false e b g ih = keep_false (stands_on side) (f o) (map f os) (stays o ∙ rw e) ∙ ih

  -- what becomes of an order changes neither its key nor its side
  pub queue_changed :
      ((o : Order) → is_live (f o) ≡ true → key (f o) ≡ key o)
      → (os : List Order)
      → Each Fair os
      → Each Fair (map f os)
      → queue side (map f os) ≡ keep is_live (map f (queue side os))
  queue_changed same os h k =
      queue_keyed side (map f os) k
      ∙ ap (sort_by (by_key key)) (kept_on os)
      ∙ thin_sort key f is_live same (keep (stands_on side) os)
      ∙ ap (λ (l : List Order). keep is_live (map f l)) (sym (queue_keyed side os h))

-- ---- after trades

module _ (ts : List Trade) where
  live_key : (o : Order) → is_live (after ts o) ≡ true → key (after ts o) ≡ key o
  live_key o e = go (after_less ts o)
    where
      go : (after ts o ≡ free) ⊎ Less o (after ts o) → key (after ts o) ≡ key o
      go (inl z) = absurd (not_live (sym e ∙ ap is_live z ∙ free_gone))
        where
          not_live : true ≡ false → ⊥
          not_live w = let z : ◌≡◌ {A = ℕ} 0 1 = cc in omega arith
      go (inr l) = same_key o (after ts o) l

  live_on : (side : ℕ) (o : Order) → stands_on side (after ts o) ≡ (stands_on side o && is_live (after ts o))
  live_on side o = go (after_less ts o)
    where
      go : (after ts o ≡ free) ⊎ Less o (after ts o) → stands_on side (after ts o) ≡ (stands_on side o && is_live (after ts o))
      go (inl z) = ap (stands_on side) z ∙ free_nowhere side ∙ sym (rw (z, free_gone) (and-false (stands_on side o)))
      go (inr l) = sym (same_stand side o (after ts o) l.side l.number) ∙ sym (on (stands_on side o) refl)
        where
          on : (b : Bool) → stands_on side o ≡ b → (b && is_live (after ts o)) ≡ b
          on true e = number_live (after ts o) (λ z. on_live side o e (l.number ∙ z))
          on false e = refl

  -- the queue after trades: of each order what they leave
  pub queue_settled :
      (side : ℕ) (os : List Order)
      → Standing os
      → queue side (settle ts os) ≡ keep is_live (map (after ts) (queue side os))
  unfolding settle
  queue_settled side os s =
      queue_changed side (after ts) (live_on side) live_key os s.fair (standing_settle ts os s).fair

-- ---- without some of them

map_self : (os : List Order) → map (λ (o : Order). o) os ≡ os
map_self [] = refl
map_self (o ∷ os) = ap (λ (l : List Order). o ∷ l) (map_self os)

pub queue_kept :
    (side : ℕ) (p : Order → Bool) (os : List Order)
    → Each Fair os
    → queue side (keep p os) ≡ keep p (queue side os)
queue_kept side p os f =
    queue_keyed side (keep p os) (each_keep Fair p os f)
    ∙ ap (sort_by (by_key key)) (either os ∙ ap (keep p) (sym (map_self (keep (stands_on side) os))))
    ∙ thin_sort key (λ (o : Order). o) p (λ o e. refl) (keep (stands_on side) os)
    ∙ ap (keep p) (map_self (sort_by (by_key key) (keep (stands_on side) os)))
    ∙ ap (keep p) (sym (queue_keyed side os f))
  where
    swap : (o : Order) → (p o && stands_on side o) ≡ (stands_on side o && p o)
    swap o = go (p o) (stands_on side o)
      where
        go : (a b : Bool) → (a && b) ≡ (b && a)
        go true true = refl
        go true false = refl
        go false true = refl
        go false false = refl

    either : (xs : List Order) → keep (stands_on side) (keep p xs) ≡ keep p (keep (stands_on side) xs)
    either xs = keep_keep (stands_on side) p xs ∙ keep_same _ _ xs (every _ xs swap) ∙ sym (keep_keep p (stands_on side) xs)
