-- The queue of a side: priority is the smaller key, the keys of a sound book's queue rise, and nothing of the side is
-- missing.
use Prim.Native.Nat.{ℕ, ◌+◌, ◌-◌, ◌*◌, ◌≤◌, ◌<◌}
use mathlib.Core.Path.{◌≡◌, refl, sym, ap, ◌∙◌}
use mathlib.Core.Bool.{Bool, true, false, cond, not, ◌&&◌, ◌||◌}
use mathlib.Core.List.{List, [], ◌∷◌}
use mathlib.Core.Logic.{◌⊎◌, inl, inr}
use native.Mathlib.Decide.{ℕ_discrete}
use native.Mathlib.Omega.{arith}
use lib.ListN.{length}
use lib.Dec.{ltb, eqb}
use borrow.Author.Tests.{eq-eqb, ne_eqb, eqb-true, eqb-false, le-ltb, lt-ltb, ltb-true, ltb-false}
use Rattle.model.specs.declared.Order.{Order}
use Rattle.model.specs.Lists.{keep, total}
use Rattle.model.specs.Book.{is_live, stands_on, better, ahead, insert, in_priority, queue}
use Rattle.model.proofs.Bools.{and_left, and_right}
use Rattle.model.specs.Words.{Each, Apart}
use Rattle.book.specs.Standing.{Fair, Standing}
use Rattle.book.specs.Priority.{rank, key}
use Rattle.book.proofs.Lists.{both, each, each_keep, kept}
use Rattle.book.proofs.Sorting.{
  insert_by,
  sort_by,
  each_sort,
  total_sort,
  same_sort,
  by_key,
  Rising,
  Distinct,
  rising_sort,
}

-- ---- what standing on a side says

pub live_number : (o : Order) → is_live o ≡ true → o.number ≡ 0 → ⊥
unfolding is_live
live_number o e z =
    let f : not true ≡ true = ap not (sym (eq-eqb o.number 0 z)) ∙ e in
    let w : ◌≡◌ {A = ℕ} 0 1 = cc in
    omega arith

pub number_live : (o : Order) → (o.number ≡ 0 → ⊥) → is_live o ≡ true
unfolding is_live
number_live o n = rw (ne_eqb o.number 0 n)

pub on_live : (side : ℕ) (o : Order) → stands_on side o ≡ true → o.number ≡ 0 → ⊥
unfolding stands_on
on_live side o e = live_number o (and_left (is_live o) (eqb o.side side) e)

pub on_side : (side : ℕ) (o : Order) → stands_on side o ≡ true → o.side ≡ side
unfolding stands_on
on_side side o e = eqb-true o.side side (and_right (is_live o) (eqb o.side side) e)

pub same_stand :
    (side : ℕ) (o p : Order)
    → o.side ≡ p.side
    → o.number ≡ p.number
    → stands_on side o ≡ stands_on side p
unfolding stands_on is_live
same_stand side o p s n =
    ap (λ (x : ℕ). not (eqb x 0) && eqb o.side side) n ∙ ap (λ (x : ℕ). not (eqb p.number 0) && eqb x side) s

-- ---- where an order of the book stands
abbrev pub Place : Order → Type 0
Place o =
    ((stands_on 0 o ≡ true) × (stands_on 1 o ≡ false))
    ⊎ (((stands_on 0 o ≡ false) × (stands_on 1 o ≡ true)) ⊎ ((stands_on 0 o ≡ false) × (stands_on 1 o ≡ false) × (o.number ≡ 0)))

pub place_of : (o : Order) → Fair o → Place o
unfolding stands_on is_live
place_of o f = elim (ℕ_discrete o.number 0) [
  | yes z ↦ inr (inr (rw (eq-eqb o.number 0 z), rw (eq-eqb o.number 0 z), z))
  | no z ↦ elim (ℕ_discrete o.side 0) [
    | yes b ↦
        inl
        (rw (ne_eqb o.number 0 z, eq-eqb o.side 0 b), rw (ne_eqb o.number 0 z, ne_eqb o.side 1 (omega arith)))
    | no b ↦
        inr
        (inl (
          rw (ne_eqb o.number 0 z, ne_eqb o.side 0 b),
          rw (ne_eqb o.number 0 z, eq-eqb o.side 1 (omega (arith, f.side))),
        ))
  ]
]

-- ---- ahead is the smaller key

pub ltb_same : (a b c d : ℕ) → (a < b → c < d) → (b ≤ a → d ≤ c) → ltb a b ≡ ltb c d
ltb_same a b c d f g = go (ltb a b) refl
  where
    go : (t : Bool) → ltb a b ≡ t → t ≡ ltb c d
    go true e = sym (lt-ltb c d (f (ltb-true a b e)))
    go false e = sym (le-ltb c d (g (ltb-false a b e)))

-- the better price is the smaller rank
pub better_rank : (side p q : ℕ) → p ≤ 999_999 → q ≤ 999_999 → better side p q ≡ ltb (rank side p) (rank side q)
unfolding better rank
better_rank side p q hp hq = go (eqb side 0)
  where
    go : (b : Bool) → cond b (ltb q p) (ltb p q) ≡ ltb (cond b (1_000_000 - p) p) (cond b (1_000_000 - q) q)
    go true = ltb_same q p (1_000_000 - p) (1_000_000 - q) (λ h. omega arith) (λ h. omega arith)
    go false = refl

pub rank_apart : (side p q : ℕ) → p ≤ 999_999 → q ≤ 999_999 → rank side p ≡ rank side q → p ≡ q
unfolding rank
rank_apart side p q hp hq e = go (eqb side 0) e
  where
    go : (b : Bool) → cond b (1_000_000 - p) p ≡ cond b (1_000_000 - q) q → p ≡ q
    go true e = omega arith
    go false e = e

-- price before number, as one number
ranked :
    (r s m n : ℕ) (same : Bool)
    → (same ≡ true → r ≡ s)
    → (same ≡ false → r ≡ s → ⊥)
    → m ≤ 999_999
    → n ≤ 999_999
    → ltb r s || (same && ltb m n) ≡ ltb (r * 1_000_000 + m) (s * 1_000_000 + n)
ranked r s m n same f g hm hn = go (ltb r s) refl same f g
  where
    go :
        (a : Bool)
        → ltb r s ≡ a
        → (b : Bool)
        → (b ≡ true → r ≡ s)
        → (b ≡ false → r ≡ s → ⊥)
        → a || (b && ltb m n) ≡ ltb (r * 1_000_000 + m) (s * 1_000_000 + n)
    go true e b f g =
        let l : r < s = ltb-true r s e in
        sym (lt-ltb (r * 1_000_000 + m) (s * 1_000_000 + n) (omega arith))
    go false e true f g =
        let z : r ≡ s = f refl in
        ltb_same m n (r * 1_000_000 + m) (s * 1_000_000 + n) (λ h. omega arith) (λ h. omega arith)
    go false e false f g =
        let l : s ≤ r = ltb-false r s e in
        let far : r ≡ s → ⊥ = g refl in
        sym (le-ltb (r * 1_000_000 + m) (s * 1_000_000 + n) (omega arith))

-- an order that may stand on the side
abbrev pub Stands : ℕ → Order → Type 0
Stands side o = Fair o × (stands_on side o ≡ true)

pub key_on : (side : ℕ) (o : Order) → stands_on side o ≡ true → key o ≡ rank side o.price * 1_000_000 + o.number
unfolding key
key_on side o e = ap (λ (x : ℕ). rank x o.price * 1_000_000 + o.number) (on_side side o e)

pub ahead_key : (side : ℕ) (p o : Order) → Stands side p → Stands side o → ahead side p o ≡ by_key key p o
unfolding ahead by_key
ahead_key side p o hp ho =
    ap (λ (b : Bool). b || (eqb p.price o.price && ltb p.number o.number))
    (better_rank side p.price o.price hp.0.price ho.0.price)
    ∙ ranked (rank side p.price) (rank side o.price) p.number o.number (eqb p.price o.price)
    (λ e. ap (rank side) (eqb-true p.price o.price e))
    (λ e z. eqb-false p.price o.price e (rank_apart side p.price o.price hp.0.price ho.0.price z))
    hp.0.number ho.0.number
    ∙ sym
    (ap (λ (x : ℕ). ltb x (key o)) (key_on side p hp.1)
    ∙ ap (ltb (rank side p.price * 1_000_000 + p.number)) (key_on side o ho.1))

-- ---- the queue is a sort

insert_is : (side : ℕ) (o : Order) (ps : List Order) → insert side o ps ≡ insert_by (ahead side) o ps
unfolding insert insert_by
insert_is side o [] = refl
insert_is side o (p ∷ ps) = ap (λ (l : List Order). cond (ahead side p o) (p ∷ l) (o ∷ p ∷ ps)) (insert_is side o ps)

priority_is : (side : ℕ) (os : List Order) → in_priority side os ≡ sort_by (ahead side) os
unfolding in_priority sort_by
priority_is side [] = refl
priority_is side (o ∷ os) = ap (insert side o) (priority_is side os) ∙ insert_is side o (sort_by (ahead side) os)

pub queue_is : (side : ℕ) (book : List Order) → queue side book ≡ sort_by (ahead side) (keep (stands_on side) book)
unfolding queue
queue_is side book = priority_is side (keep (stands_on side) book)

pub stands : (side : ℕ) (book : List Order) → Each Fair book → Each (Stands side) (keep (stands_on side) book)
stands side book f =
    both Fair (λ o. stands_on side o ≡ true) (Stands side) (keep (stands_on side) book) (λ o a b. (a, b))
    (each_keep Fair (stands_on side) book f) (kept (stands_on side) book)

pub queue_keyed :
    (side : ℕ) (book : List Order) → Each Fair book → queue side book ≡ sort_by (by_key key) (keep (stands_on side) book)
queue_keyed side book f =
    queue_is side book
    ∙ same_sort (Stands side) (ahead side) (by_key key) (ahead_key side) (keep (stands_on side) book) (stands side book f)

-- ---- nothing is missing

-- what each order of the side has, each of the queue has
pub each_queue :
    (P : Order → Type 0) (side : ℕ) (book : List Order) → Each P (keep (stands_on side) book) → Each P (queue side book)
each_queue P side book e = rw (queue_is side book) (each_sort (ahead side) P (keep (stands_on side) book) e)

pub queue_stands : (side : ℕ) (book : List Order) → Each Fair book → Each (Stands side) (queue side book)
queue_stands side book f = each_queue (Stands side) side book (stands side book f)

pub total_queue :
    (f : Order → ℕ) (side : ℕ) (book : List Order) → total f (queue side book) ≡ total f (keep (stands_on side) book)
total_queue f side book = ap (total f) (queue_is side book) ∙ total_sort (ahead side) f (keep (stands_on side) book)

length_total : (os : List Order) → length os ≡ total (λ o. 1) os
unfolding total
length_total [] = refl
length_total (o ∷ os) = omega (arith, length_total os)

pub queue_length : (side : ℕ) (book : List Order) → length (queue side book) ≡ length (keep (stands_on side) book)
queue_length side book =
    length_total (queue side book) ∙ total_queue (λ o. 1) side book ∙ sym (length_total (keep (stands_on side) book))

-- ---- the keys rise, and are no larger than this

pub key_positive : (o : Order) → (o.number ≡ 0 → ⊥) → 0 < key o
unfolding key
key_positive o n = omega arith

pub key_most : (o : Order) → Fair o → key o ≤ 1_000_000_999_999
unfolding key rank
key_most o f = go (eqb o.side 0)
  where
    go : (b : Bool) → cond b (1_000_000 - o.price) o.price * 1_000_000 + o.number ≤ 1_000_000_999_999
    go true = omega (arith, f.number)
    go false = omega (arith, f.number, f.price)

key_number : (o y : Order) → Fair o → Fair y → key y ≡ key o → y.number ≡ o.number
unfolding key
key_number o y f g e = omega (arith, f.number, g.number)

pub distinct : (side : ℕ) (book : List Order) → Each Fair book → Apart book → Distinct key (keep (stands_on side) book)
unfolding keep
distinct side [] f a = tt
distinct side (o ∷ os) f a = go (stands_on side o) refl (distinct side os f.1 a.1)
  where
    apart : stands_on side o ≡ true → Each (λ y. key y ≡ key o → ⊥) os
    apart e =
        both Fair (λ y. y.number ≡ o.number → o.number ≡ 0) (λ y. key y ≡ key o → ⊥) os
        (λ y g n k. on_live side o e (n (key_number o y f.0 g k))) f.1 a.0

    go :
        (t : Bool)
        → stands_on side o ≡ t
        → Distinct key (keep (stands_on side) os)
        → Distinct key (cond t (o ∷ keep (stands_on side) os) (keep (stands_on side) os))
    go true e d = (each_keep (λ y. key y ≡ key o → ⊥) (stands_on side) os (apart e), d)
    go false e d = d

pub queue_rising : (side : ℕ) (book : List Order) → Standing book → Rising key 0 (queue side book)
queue_rising side book s =
    rw (queue_keyed side book s.fair)
    (rising_sort key 0 (keep (stands_on side) book)
    (each (λ o. stands_on side o ≡ true) (λ o. 0 < key o) (keep (stands_on side) book)
    (λ o e. key_positive o (on_live side o e)) (kept (stands_on side) book))
    (distinct side book s.fair s.apart))
