-- A book in priority order is its buys, its sells and free places, and the queues are these parts as they stand.
use Prim.Native.Nat.{ℕ, zero, suc, ◌+◌, ◌-◌, ◌≤◌}
use mathlib.Core.Path.{◌≡◌, refl, sym, ap, ◌∙◌}
use mathlib.Core.Bool.{Bool, true, false}
use mathlib.Core.List.{List, [], ◌∷◌, ◌++◌, append-nil, append_assoc}
use native.Mathlib.Omega.{arith}
use lib.ListN.{length, take, replicate, length-append, length-replicate}
use lib.Seq.{take-append-add, take-append_seam}
use Rattle.model.specs.declared.Order.{Order}
use Rattle.model.specs.Lists.{keep}
use Rattle.model.specs.Book.{free, stands_on, queue, arranged}
use Rattle.model.specs.Words.{Each, Ordered}
use Rattle.book.specs.Standing.{Fair, Standing, Ranked}
use Rattle.book.specs.Priority.{key}
use Rattle.book.proofs.Lists.{each, each_append, keep_all, keep_none, keep_append}
use Rattle.book.proofs.Sorting.{Rising, rising_weakly, sort_weakly}
use Rattle.book.proofs.Kept.{fair_free}
use Rattle.book.proofs.Thinning.{free_nowhere}
use Rattle.book.proofs.Counting.{queues_fit}
use Rattle.book.proofs.Queues.{Stands, on_side, queue_keyed, queue_stands, queue_rising}

-- ---- a sort leaves what rises as it is

-- where the orders of a side stand in priority already, they are its queue
pub queue_rises :
    (side a : ℕ) (os : List Order)
    → Each Fair os
    → Rising key a (keep (stands_on side) os)
    → queue side os ≡ keep (stands_on side) os
queue_rises side a os f r =
    queue_keyed side os f
    ∙ sort_weakly key a (keep (stands_on side) os) (rising_weakly key a (keep (stands_on side) os) r)

-- ---- who stands on neither or on the other side

pub each_same : {A : Type 0} (P : A → Type 0) (n : ℕ) (x : A) → P x → Each P (replicate n x)
each_same P zero x h = tt
each_same P (suc n) x h = (h, each_same P n x h)

pub fair_frees : (n : ℕ) → Each Fair (replicate n free)
fair_frees n = each_same Fair n free fair_free

pub keep_frees : (side n : ℕ) → keep (stands_on side) (replicate n free) ≡ []
keep_frees side n =
    keep_none (stands_on side) (replicate n free)
    (each_same (λ o. stands_on side o ≡ false) n free (free_nowhere side))

pub not_here : (side here : ℕ) (o : Order) → (side ≡ here → ⊥) → stands_on side o ≡ true → stands_on here o ≡ false
unfolding stands_on
not_here side here o n e = go (stands_on here o) refl
  where
    go : (b : Bool) → stands_on here o ≡ b → b ≡ false
    go false f = refl
    go true f = absurd (n (sym (on_side side o e) ∙ on_side here o f))

pub keep_others :
    (side here : ℕ) (os : List Order) → (side ≡ here → ⊥) → Each (Stands side) os → keep (stands_on here) os ≡ []
keep_others side here os n e =
    keep_none (stands_on here) os
    (each (Stands side) (λ o. stands_on here o ≡ false) os (λ o h. not_here side here o n h.1) e)

pub keep_own : (side : ℕ) (os : List Order) → Each (Stands side) os → keep (stands_on side) os ≡ os
keep_own side os e =
    keep_all (stands_on side) os (each (Stands side) (λ o. stands_on side o ≡ true) os (λ o h. h.1) e)

-- ---- the parts

pub record Parts (book buys sells : List Order) (spare : ℕ) : Type 0 where
  pub made : book ≡ buys ++ (sells ++ replicate spare free)
  pub buying : Each (Stands 0) buys
  pub selling : Each (Stands 1) sells
  pub buys_rise : Rising key 0 buys
  pub sells_rise : Rising key 0 sells

pub take_frees : (k n : ℕ) → k ≤ n → take k (replicate n free) ≡ replicate k free
take_frees zero n h = refl
take_frees (suc k) zero h = absurd (omega arith)
take_frees (suc k) (suc n) h = ap (λ (l : List Order). free ∷ l) (take_frees k n (omega arith))

-- the free places behind orders, where these fit
pub placed_fit :
    (n : ℕ) (os : List Order)
    → length os ≤ n
    → take n (os ++ replicate n free) ≡ os ++ replicate (n - length os) free
placed_fit n os h =
    let m : n ≡ length os + (n - length os) = omega arith in
    ap (λ (k : ℕ). take k (os ++ replicate n free)) m
    ∙ take-append-add os (replicate n free) (n - length os)
    ∙ ap (λ (l : List Order). os ++ l) (take_frees (n - length os) n (omega arith))

module _ (n : ℕ) (os : List Order) (fit : length (queue 0 os) + length (queue 1 os) ≤ n) where
  abbrev pub spare_in : ℕ
  spare_in = n - (length (queue 0 os) + length (queue 1 os))

  pub arranged_is : arranged n os ≡ queue 0 os ++ (queue 1 os ++ replicate spare_in free)
  unfolding arranged
  arranged_is =
      let long : length (queue 0 os ++ queue 1 os) ≡ length (queue 0 os) + length (queue 1 os) = length-append (queue 0 os) (queue 1 os) in
      ap (take n) (sym (append_assoc (queue 0 os) (queue 1 os) (replicate n free)))
      ∙ placed_fit n (queue 0 os ++ queue 1 os) (omega arith)
      ∙ rw long (append_assoc (queue 0 os) (queue 1 os) (replicate spare_in free))

  pub arranged_parts : Standing os → Parts (arranged n os) (queue 0 os) (queue 1 os) spare_in
  arranged_parts s =
      record {
        made = arranged_is;
        buying = queue_stands 0 os s.fair;
        selling = queue_stands 1 os s.fair;
        buys_rise = queue_rising 0 os s;
        sells_rise = queue_rising 1 os s;
      }

-- a book in order, as its parts
abbrev pub RankedParts : List Order → Type 0
RankedParts book =
    Parts book (queue 0 book) (queue 1 book) (length book - (length (queue 0 book) + length (queue 1 book)))

pub parts_of : (book : List Order) → Ranked book → RankedParts book
parts_of book r =
    let p = arranged_parts (length book) book (queues_fit book r.stands.fair) r.stands in
    record {
      made = r.ordered ∙ p.made;
      buying = p.buying;
      selling = p.selling;
      buys_rise = p.buys_rise;
      sells_rise = p.sells_rise;
    }

module _ {book buys sells : List Order} {spare : ℕ} (p : Parts book buys sells spare) where
  pub parts_length : length book ≡ length buys + (length sells + spare)
  parts_length =
      ap length p.made
      ∙ length-append buys (sells ++ replicate spare free)
      ∙ ap (λ n. length buys + n) (length-append sells (replicate spare free) ∙ ap (λ n. length sells + n) (length-replicate spare free))

  pub parts_orders : take (length buys + length sells) book ≡ buys ++ sells
  parts_orders =
      ap (take (length buys + length sells)) p.made
      ∙ take-append-add buys (sells ++ replicate spare free) (length sells)
      ∙ ap (λ (l : List Order). buys ++ l) (take-append_seam sells (replicate spare free))

  pub parts_fair : Each Fair book
  parts_fair =
      rw p.made
      (each_append Fair buys (sells ++ replicate spare free) (each (Stands 0) Fair buys (λ o h. h.0) p.buying)
      (each_append Fair sells (replicate spare free) (each (Stands 1) Fair sells (λ o h. h.0) p.selling) (fair_frees spare)))

  pub keep_parts :
      (f : Order → Bool)
      → keep f book ≡ keep f buys ++ (keep f sells ++ keep f (replicate spare free))
  keep_parts f =
      ap (keep f) p.made
      ∙ keep_append f buys (sells ++ replicate spare free)
      ∙ ap (λ (l : List Order). keep f buys ++ l) (keep_append f sells (replicate spare free))

  pub keep_buys : keep (stands_on 0) book ≡ buys
  keep_buys =
      keep_parts (stands_on 0)
      ∙ rw (keep_own 0 buys p.buying, keep_others 1 0 sells (λ e. omega arith) p.selling, keep_frees 0 spare) (append-nil buys)

  pub keep_sells : keep (stands_on 1) book ≡ sells
  keep_sells =
      keep_parts (stands_on 1)
      ∙ rw (keep_others 0 1 buys (λ e. omega arith) p.buying, keep_own 1 sells p.selling, keep_frees 1 spare) (append-nil sells)

  pub queue_buys : queue 0 book ≡ buys
  queue_buys = queue_rises 0 0 book parts_fair (rw keep_buys p.buys_rise) ∙ keep_buys

  pub queue_sells : queue 1 book ≡ sells
  queue_sells = queue_rises 1 0 book parts_fair (rw keep_sells p.sells_rise) ∙ keep_sells

  -- the same orders, from wherever they come
  pub parts_arranged : (os : List Order) → queue 0 os ≡ buys → queue 1 os ≡ sells → book ≡ arranged (length book) os
  parts_arranged os b s =
      let n : length book - (length buys + length sells) ≡ spare = omega (arith, parts_length) in
      let fit : length (queue 0 os) + length (queue 1 os) ≤ length book = rw (b, s) (omega (arith, parts_length)) in
      p.made ∙ sym (arranged_is (length book) os fit ∙ rw (b, s, n))

  pub parts_ordered : Ordered book
  parts_ordered = parts_arranged book queue_buys queue_sells
