-- Orders that stand keep standing: after trades, with a new order, without some of them, and when the book is cleared.
use Prim.Native.Nat.{ℕ, ◌+◌, ◌-◌, ◌≤◌, ◌<◌}
use mathlib.Core.Path.{◌≡◌, refl, sym, ap, ◌∙◌}
use mathlib.Core.Bool.{Bool, true, false, cond}
use mathlib.Core.List.{List, [], ◌∷◌, map}
use mathlib.Core.Logic.{◌⊎◌, inl, inr}
use native.Mathlib.Omega.{arith}
use lib.Dec.{ltb}
use borrow.Author.Tests.{ltb-true}
use Rattle.model.specs.declared.Order.{Order}
use Rattle.model.specs.declared.Trade.{Trade}
use Rattle.model.specs.Lists.{keep}
use Rattle.model.specs.Book.{free}
use Rattle.model.specs.Matching.{filled_of, less_by, settle}
use Rattle.model.specs.Calls.{cleared}
use Rattle.model.specs.Words.{Each, Apart}
use Rattle.book.specs.Standing.{Fair, Standing}
use Rattle.book.proofs.Lists.{each, every, each_keep, keep_true, keep_false}

pub fair_free : Fair free
unfolding free
fair_free =
    record {
      side = omega arith;
      price = omega arith;
      number = omega arith;
      left = omega arith;
      none = λ e. refl;
      some = λ n. absurd (n refl);
      priced = λ n. absurd (n refl);
    }

pub free_left : free.left ≡ 0
unfolding free
free_left = refl

pub free_number : free.number ≡ 0
unfolding free
free_number = refl

-- ---- one order more, and some fewer

-- no order of the book has the number, unless the number is 0
abbrev pub Fresh : ℕ → List Order → Type 0
Fresh n os = Each (λ (p : Order). p.number ≡ n → n ≡ 0) os

-- the number is a number, and no order of the book has it
pub record New (n : ℕ) (book : List Order) : Type 0 where
  pub real : n ≡ 0 → ⊥
  pub fresh : Each (λ (o : Order). o.number ≡ n → ⊥) book

pub new_fresh : (n : ℕ) (book : List Order) → New n book → Fresh n book
new_fresh n book w =
    each (λ (o : Order). o.number ≡ n → ⊥) (λ (o : Order). o.number ≡ n → n ≡ 0) book (λ o f e. absurd (f e))
    w.fresh

pub standing_with : (o : Order) (os : List Order) → Fair o → Fresh o.number os → Standing os → Standing (o ∷ os)
standing_with o os h f s = record { fair = (h, s.fair); apart = (f, s.apart) }

apart_keep : (p : Order → Bool) (os : List Order) → Apart os → Apart (keep p os)
apart_keep p [] a = unfold keep in tt
apart_keep p (o ∷ os) a = go (p o) refl (apart_keep p os a.1)
  where
    go : (b : Bool) → p o ≡ b → Apart (keep p os) → Apart (keep p (o ∷ os))
    go true e ih =
        rw (keep_true p o os e)
        (each_keep (λ (x : Order). x.number ≡ o.number → o.number ≡ 0) p os a.0, ih)
    go false e ih = rw (keep_false p o os e) ih

pub standing_keep : (p : Order → Bool) (os : List Order) → Standing os → Standing (keep p os)
standing_keep p os s = record { fair = each_keep Fair p os s.fair; apart = apart_keep p os s.apart }

-- ---- after trades

-- what is left of an order is free, or the same order with fewer shares
pub record Less (o p : Order) : Type 0 where
  pub side : o.side ≡ p.side
  pub price : o.price ≡ p.price
  pub number : o.number ≡ p.number
  pub left : p.left ≤ o.left
  pub some : 1 ≤ p.left

pub less_by_lem : (q : ℕ) (o : Order) → (less_by q o ≡ free) ⊎ (Less o (less_by q o) × ((less_by q o).left + q ≡ o.left))
unfolding less_by
less_by_lem q o = go (ltb q o.left) refl
  where
    go :
        (b : Bool)
        → ltb q o.left ≡ b
        → (cond b
        (record { side = o.side; account = o.account; left = o.left - q; price = o.price; number = o.number })
        free
        ≡ free)
        ⊎ (Less o
        (cond b
        (record { side = o.side; account = o.account; left = o.left - q; price = o.price; number = o.number })
        free)
        × ((cond b
        (record { side = o.side; account = o.account; left = o.left - q; price = o.price; number = o.number })
        free
        ).left
        + q
        ≡ o.left))
    go true e =
        let l : q < o.left = ltb-true q o.left e in
        inr (
          record { side = refl; price = refl; number = refl; left = omega arith; some = omega arith },
          omega arith,
        )
    go false e = inl refl

fair_less : (o p : Order) → Fair o → (p ≡ free) ⊎ Less o p → Fair p
fair_less o p h (inl e) = rw e fair_free
fair_less o p h (inr l) =
    record {
      side = omega (arith, h.side, l.side);
      price = omega (arith, h.price, l.price);
      number = omega (arith, h.number, l.number);
      left = omega (arith, h.left, l.left);
      none = λ e. absurd (gone e);
      some = λ n. l.some;
      priced = λ n. omega (arith, h.priced (λ e. n (sym l.number ∙ e)), l.price);
    }
  where
    gone : p.number ≡ 0 → ⊥
    gone e =
        let f : o ≡ free = h.none (l.number ∙ e) in
        let z : o.left ≡ 0 = ap (λ (x : Order). x.left) f ∙ free_left in
        omega (arith, l.left, l.some)

module _ (ts : List Trade) where
  -- an order after the trades
  abbrev pub after : Order → Order
  after o = less_by (filled_of o.number ts) o

  pub after_less : (o : Order) → (after o ≡ free) ⊎ Less o (after o)
  after_less o = go (less_by_lem (filled_of o.number ts) o)
    where
      go :
          (after o ≡ free) ⊎ (Less o (after o) × ((after o).left + filled_of o.number ts ≡ o.left))
          → (after o ≡ free) ⊎ Less o (after o)
      go (inl e) = inl e
      go (inr l) = inr l.0

  fairs : (os : List Order) → Each Fair os → Each Fair (map after os)
  fairs [] f = tt
  fairs (o ∷ os) f = (fair_less o (after o) f.0 (after_less o), fairs os f.1)

  fresh_after : (n : ℕ) (os : List Order) → Fresh n os → Fresh n (map after os)
  fresh_after n [] f = tt
  fresh_after n (p ∷ os) f = (go (after_less p), fresh_after n os f.1)
    where
      go : (after p ≡ free) ⊎ Less p (after p) → (after p).number ≡ n → n ≡ 0
      go (inl e) z = sym z ∙ ap (λ (x : Order). x.number) e ∙ free_number
      go (inr l) z = f.0 (l.number ∙ z)

  aparts : (os : List Order) → Apart os → Apart (map after os)
  aparts [] a = tt
  aparts (o ∷ os) a = (go (after_less o), aparts os a.1)
    where
      go : (after o ≡ free) ⊎ Less o (after o) → Fresh (after o).number (map after os)
      go (inl e) =
          let z : (after o).number ≡ 0 = ap (λ (x : Order). x.number) e ∙ free_number in
          every (λ (p : Order). p.number ≡ (after o).number → (after o).number ≡ 0) (map after os) (λ p h. z)
      go (inr l) = rw (sym l.number) (fresh_after o.number os a.0)

  pub standing_settle : (book : List Order) → Standing book → Standing (settle ts book)
  unfolding settle
  standing_settle book s =
      record { fair = fairs book s.fair; apart = aparts book s.apart }

  -- a number that no order had, none has afterwards
  pub fresh_settle : (n : ℕ) (book : List Order) → Fresh n book → Fresh n (settle ts book)
  unfolding settle
  fresh_settle n book f = fresh_after n book f

pub standing_cleared : (book : List Order) → Standing (cleared book)
unfolding cleared
standing_cleared book = record { fair = all_fair book; apart = all_apart book }
  where
    all_fair : (os : List Order) → Each Fair (map (λ (o : Order). free) os)
    all_fair [] = tt
    all_fair (o ∷ os) = (fair_free, all_fair os)

    all_apart : (os : List Order) → Apart (map (λ (o : Order). free) os)
    all_apart [] = tt
    all_apart (o ∷ os) = (
      every (λ (p : Order). p.number ≡ free.number → free.number ≡ 0) (map (λ (x : Order). free) os)
          (λ p e. free_number),
      all_apart os,
    )
