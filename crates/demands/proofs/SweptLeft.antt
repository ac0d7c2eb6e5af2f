-- What the trades of an order on entry leave: of the order itself, and of each order that it meets. Assumes nothing.
use Prim.Native.Nat.{ℕ, ◌+◌, ◌-◌, min}
use mathlib.Core.Path.{◌≡◌, refl, sym, ap, ◌∙◌}
use mathlib.Core.Bool.{Bool, true, false, cond, ◌||◌}
use mathlib.Core.List.{List, [], ◌∷◌}
use native.Mathlib.Omega.{arith}
use lib.Dec.{leb, eqb}
use borrow.Author.Tests.{eq-eqb, ne_eqb, eqb-true}
use Rattle.model.specs.declared.Order.{Order}
use Rattle.model.specs.declared.Asked.{Asked}
use Rattle.model.specs.declared.Taker.{Taker}
use Rattle.model.specs.declared.Day.{Day}
use Rattle.model.specs.Lists.{keep, among}
use Rattle.model.specs.Book.{queue, other}
use Rattle.model.specs.Matching.{five_best, at_five_best, trade_with, sweep, filled, is_in, filled_of}
use Rattle.model.specs.Figures.{next_number}
use Rattle.model.specs.Entry.{opposite, entry_trades}
use Rattle.model.proofs.Bools.{not_both}
use Rattle.model.specs.Words.{Each}
use Rattle.book.proofs.Lists.{each}
use Rattle.book.proofs.Kept.{New}
use Rattle.book.proofs.Settlements.{filled_nil, filled_more, filled_none, part, filled_cons}
use Rattle.matching.specs.Sweeping.{wants}
use Rattle.matching.proofs.Partners.{sweep_nil, sweep_cons}
use Rattle.matching.proofs.Fills.{is_with}
use Rattle.matching.proofs.EntryLaws.{taker, entry_cases, of_opposite}
use Rattle.demands.specs.Leaving.{left_in, Falls}
use Rattle.demands.proofs.Once.{Once, once_behind, once_first, once_keep, once_queue}

-- ---- one trade

module _ (t : Taker) (q : ℕ) (o : Order) where
  own_in : is_in t.number (trade_with t q o) ≡ true
  unfolding is_in trade_with
  own_in = go (eqb t.side 0)
    where
      mine : eqb t.number t.number ≡ true
      mine = eq-eqb t.number t.number refl

      last : (b : Bool) → b || true ≡ true
      last true = refl
      last false = refl

      go : (b : Bool) → eqb (cond b t.number o.number) t.number || eqb (cond b o.number t.number) t.number ≡ true
      go true = rw mine
      go false = rw mine (last (eqb o.number t.number))

  own_left : (o.number ≡ t.number → ⊥) → left_in t.number (trade_with t q o) ≡ q - o.left
  unfolding left_in trade_with
  own_left h = go (eqb t.side 0)
    where
      go :
          (b : Bool)
          → cond (eqb (cond b t.number o.number) t.number)
          (cond b (q - min q o.left) (o.left - min q o.left))
          (cond b (o.left - min q o.left) (q - min q o.left))
          ≡ q - o.left
      go true = rw (eq-eqb t.number t.number refl) (omega arith)
      go false = rw (ne_eqb o.number t.number h) (omega arith)

  met_left : (o.number ≡ t.number → ⊥) → left_in o.number (trade_with t q o) ≡ o.left - min q o.left
  unfolding left_in trade_with
  met_left h = go (eqb t.side 0)
    where
      go :
          (b : Bool)
          → cond (eqb (cond b t.number o.number) o.number)
          (cond b (q - min q o.left) (o.left - min q o.left))
          (cond b (o.left - min q o.left) (q - min q o.left))
          ≡ o.left - min q o.left
      go true = rw (ne_eqb t.number o.number (λ e. h (sym e)))
      go false = rw (eq-eqb o.number o.number refl)

  traded : (trade_with t q o).quantity ≡ min q o.left
  unfolding trade_with
  traded = refl

-- ---- a sweep

module _ (t : Taker) where
  own_falls :
      (q : ℕ) (os : List Order)
      → Each (λ (o : Order). o.number ≡ t.number → ⊥) os
      → Falls t.number q (sweep t q os)
  own_falls q [] e = rw (sweep_nil t q) tt
  own_falls q (o ∷ os) e = rw (sweep_cons t q o os) (go (wants t q o.price) (own_falls (q - o.left) os e.1))
    where
      go :
          (w : Bool)
          → Falls t.number (q - o.left) (sweep t (q - o.left) os)
          → Falls t.number q (cond w (trade_with t q o ∷ sweep t (q - o.left) os) [])
      go true h = (
        λ _. (omega (arith, own_left t q o e.0, traded t q o), rw (own_left t q o e.0) h),
        λ x. absurd (not_both (own_in t q o) x),
      )
      go false h = tt

  module _ (n : ℕ) (apart : n ≡ t.number → ⊥) where
    -- whom it does not meet
    unmet_falls :
        (q had : ℕ) (os : List Order)
        → Each (λ (o : Order). o.number ≡ n → ⊥) os
        → Falls n had (sweep t q os)
    unmet_falls q had [] e = rw (sweep_nil t q) tt
    unmet_falls q had (o ∷ os) e =
        rw (sweep_cons t q o os) (go (wants t q o.price) (unmet_falls (q - o.left) had os e.1))
      where
        go :
            (w : Bool)
            → Falls n had (sweep t (q - o.left) os)
            → Falls n had (cond w (trade_with t q o ∷ sweep t (q - o.left) os) [])
        go true h = (λ x. absurd (e.0 (eqb-true o.number n (sym (is_with t q n o apart) ∙ x))), λ _. h)
        go false h = tt

    met_falls : (q had : ℕ) (os : List Order) → Once n had os → Falls n had (sweep t q os)
    met_falls q had [] k = rw (sweep_nil t q) tt
    met_falls q had (o ∷ os) k =
        rw (sweep_cons t q o os) (go (wants t q o.price) (met_falls (q - o.left) had os (once_behind k)))
      where
        his : is_in n (trade_with t q o) ≡ true → o.number ≡ n
        his x = eqb-true o.number n (sym (is_with t q n o apart) ∙ x)

        first :
            is_in n (trade_with t q o) ≡ true
            → (left_in n (trade_with t q o) + (trade_with t q o).quantity ≡ had) × Falls n (left_in n (trade_with t q o)) (sweep t (q - o.left) os)
        first x =
            let e = his x in
            let l : left_in n (trade_with t q o) ≡ o.left - min q o.left =
            ap (λ (m : ℕ). left_in m (trade_with t q o)) (sym e) ∙ met_left t q o (λ z. apart (sym e ∙ z)) in (
              omega (arith, l, traded t q o, k.has.0 e),
              unmet_falls (q - o.left) (left_in n (trade_with t q o)) os (once_first k e),
            )

        go :
            (w : Bool)
            → Falls n had (sweep t (q - o.left) os)
            → Falls n had (cond w (trade_with t q o ∷ sweep t (q - o.left) os) [])
        go true h = (first, λ _. h)
        go false h = tt

  -- all its trades are its own
  own_filled : (q : ℕ) (os : List Order) → filled_of t.number (sweep t q os) ≡ filled (sweep t q os)
  own_filled q [] = rw (sweep_nil t q) (filled_none t.number ∙ sym filled_nil)
  own_filled q (o ∷ os) = rw (sweep_cons t q o os) (go (wants t q o.price) (own_filled (q - o.left) os))
    where
      mine : part t.number (trade_with t q o) ≡ (trade_with t q o).quantity
      mine = unfold part in rw (own_in t q o)

      go :
          (w : Bool)
          → filled_of t.number (sweep t (q - o.left) os) ≡ filled (sweep t (q - o.left) os)
          → filled_of t.number (cond w (trade_with t q o ∷ sweep t (q - o.left) os) []) ≡ filled (cond w (trade_with t q o ∷ sweep t (q - o.left) os) [])
      go true h =
          omega (arith, filled_cons t.number (trade_with t q o) (sweep t (q - o.left) os), filled_more (trade_with t q o) (sweep t (q - o.left) os), mine)
      go false h = filled_none t.number ∙ sym filled_nil

-- ---- an order on entry, in a book that stands

pub entry_own_filled : (d : Day) (a : Asked) (book : List Order) → filled_of (next_number d) (entry_trades d a book) ≡ filled (entry_trades d a book)
entry_own_filled d a book =
    entry_cases d a book (λ ts. filled_of (next_number d) ts ≡ filled ts) (filled_none (next_number d) ∙ sym filled_nil)
    (λ _. own_filled (taker d a book) a.quantity (opposite a book))

module _ (d : Day) (a : Asked) (book : List Order) where
  pub entry_own_falls : New (next_number d) book → Falls (next_number d) a.quantity (entry_trades d a book)
  entry_own_falls new =
      entry_cases d a book (λ ts. Falls (next_number d) a.quantity ts) tt
      (λ _.
      own_falls (taker d a book) a.quantity (opposite a book)
      (of_opposite a book (λ (o : Order). o.number ≡ next_number d → ⊥)
      (each (λ (o : Order). o.number ≡ next_number d → ⊥) _ book (λ o h _. h) new.fresh)))

  once_opposite : (n had : ℕ) → Once n had book → Once n had (opposite a book)
  unfolding opposite at_five_best
  once_opposite n had k = go (leb 3 a.kind) (once_queue (other a.side) book k)
    where
      os : List Order
      os = queue (other a.side) book

      go : (b : Bool) → Once n had os → Once n had (cond b (keep (λ (o : Order). among (five_best os) o.price) os) os)
      go true h = once_keep (λ (o : Order). among (five_best os) o.price) os h
      go false h = h

  pub entry_falls : (n had : ℕ) → (n ≡ next_number d → ⊥) → Once n had book → Falls n had (entry_trades d a book)
  entry_falls n had apart k =
      entry_cases d a book (λ ts. Falls n had ts) tt
      (λ _. met_falls (taker d a book) n apart a.quantity had (opposite a book) (once_opposite n had k))
