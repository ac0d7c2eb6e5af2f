-- An order on entry: its prices through the best prices as numbers, and its trades as one sweep.
use Rattle.std.specs.Prelude.{if◌then◌else◌}
use Prim.Native.Nat.{ℕ, ◌+◌, ◌≤◌}
use mathlib.Core.Path.{◌≡◌, refl, sym, ap, ◌∙◌}
use mathlib.Core.Bool.{Bool, true, false, cond, and-false}
use mathlib.Core.List.{List, []}
use native.Mathlib.Numerals.{add-one}
use lib.ListN.{length}
use lib.Dec.{leb, eqb}
use borrow.Author.Tests.{eq-eqb, ne_eqb}
use Rattle.model.specs.declared.Order.{Order}
use Rattle.model.specs.declared.Asked.{Asked}
use Rattle.model.specs.declared.Trade.{Trade}
use Rattle.model.specs.declared.Taker.{Taker}
use Rattle.model.specs.declared.Day.{Day}
use Rattle.model.specs.Clock.{continuous}
use Rattle.model.specs.Halts.{phase_now}
use Rattle.model.specs.Book.{queue, best, other}
use Rattle.model.specs.Matching.{sweep, at_five_best, filled, last_price}
use Rattle.model.specs.Figures.{next_number}
use Rattle.model.specs.Entry.{best_within, entry_price, opposite, entry_trades, rest_price}
use Rattle.book.specs.Standing.{Standing, Ranked}
use Rattle.book.specs.Writing.{fitted}
use Rattle.book.proofs.Written.{fitted_nil}
use Rattle.matching.specs.declared.Swept.{Swept}
use Rattle.matching.specs.Sweeping.{at_best, comes_to}
use Rattle.matching.specs.Entering.{best_for, entry_at, rest_at, most_prices}
use Rattle.matching.proofs.Cuts.{five_best_lem, unbounded}

-- ---- the prices

module _ (a : Asked) (book : List Order) where
  pub entry_price_lem : entry_price a book ≡ entry_at a (best a.side book) (best (other a.side) book)
  unfolding entry_price best_within entry_at best_for
  entry_price_lem = refl

  pub rest_price_lem :
      (ts : List Trade)
      → rest_price a ts book
      ≡ rest_at a (best a.side book) (best (other a.side) book) (filled ts) (last_price 0 ts)
  unfolding rest_price best_within rest_at best_for
  rest_price_lem ts =
      ap
      (λ (p : ℕ).
      cond (eqb a.kind 3) 0
      (cond (eqb a.kind 4) (cond (eqb (filled ts) 0) (best_within a a.side book) (last_price 0 ts)) p))
      entry_price_lem

  -- ---- the orders that it may trade with

  -- those at five prices, or at as many as the book can have
  pub opposite_best :
      (most : ℕ)
      → Standing book
      → length book ≤ most
      → opposite a book ≡ at_best (if leb 3 a.kind then 5 else most) (queue (other a.side) book)
  unfolding opposite
  opposite_best most s h = go (leb 3 a.kind)
    where
      go :
          (b : Bool)
          → cond b (at_five_best (queue (other a.side) book)) (queue (other a.side) book)
          ≡ at_best (cond b 5 most) (queue (other a.side) book)
      go true = sym (five_best_lem (queue (other a.side) book))
      go false = sym (unbounded (other a.side) most book s h)

-- ---- the trades

module _ (d : Day) (a : Asked) (book : List Order) (phase : ℕ) (now : phase ≡ phase_now d) where
  pub other_phase : (phase ≡ 4 → ⊥) → entry_trades d a book ≡ []
  unfolding entry_trades continuous
  other_phase n = rw (ne_eqb (phase_now d) 4 (λ e. n (now ∙ e)))

  pub no_price : entry_price a book ≡ 0 → entry_trades d a book ≡ []
  unfolding entry_trades
  no_price e = rw (eq-eqb (entry_price a book) 0 e, and-false)

  pub as_sweep :
      phase ≡ 4
      → (entry_price a book ≡ 0 → ⊥)
      → entry_trades d a book
      ≡ sweep (record { side = a.side; number = next_number d; limit = entry_price a book }) a.quantity
      (opposite a book)
  unfolding entry_trades continuous
  as_sweep p n = rw (eq-eqb (phase_now d) 4 (sym now ∙ p), ne_eqb (entry_price a book) 0 n)

  -- ---- what `enter_trades` gives

  -- the tally, and the trade list
  abbrev Entered : Swept → List Trade → List Trade → Type 0
  Entered s l₀ l = (s ≡ comes_to (entry_trades d a book)) × (l ≡ fitted (entry_trades d a book) l₀)

  none_entered : (s : Swept) (l : List Trade) → entry_trades d a book ≡ [] → s ≡ comes_to [] → Entered s l l
  none_entered s l z e =
      (e ∙ ap comes_to (sym z), sym (ap (λ (ts : List Trade). fitted ts l) z ∙ fitted_nil l))

  pub outside : (s : Swept) (l : List Trade) → (phase ≡ 4 → ⊥) → s ≡ comes_to [] → Entered s l l
  outside s l n = none_entered s l (other_phase n)

  module _ {own opp : ℕ} (eo : own ≡ best a.side book) (ex : opp ≡ best (other a.side) book) (price : ℕ) (p : price ≡ entry_at a own opp) where
    priced : price ≡ entry_price a book
    priced = p ∙ ap (λ (n : ℕ). entry_at a n opp) eo ∙ ap (λ (n : ℕ). entry_at a (best a.side book) n) ex ∙ sym (entry_price_lem a book)

    pub unpriced : (s : Swept) (l : List Trade) → price ≡ 0 → s ≡ comes_to [] → Entered s l l
    unpriced s l z = none_entered s l (no_price (sym priced ∙ z))

    pub entered :
        (most : ℕ) (s : Swept) (l₀ l : List Trade) (t : Taker)
        → Ranked book
        → phase ≡ 4
        → (price ≡ 0 → ⊥)
        → t ≡ record { side = a.side; number = d.issued + 1; limit = price }
        → most ≡ most_prices a.kind
        → (s ≡ comes_to (sweep t a.quantity (at_best most (queue (other a.side) book))))
        × (l ≡ fitted (sweep t a.quantity (at_best most (queue (other a.side) book))) l₀)
        → Entered s l₀ l
    unfolding next_number most_prices
    entered most s l₀ l t ranked f n e m r =
        let all : sweep t a.quantity (at_best most (queue (other a.side) book)) ≡ entry_trades d a book =
        ap (λ (k : ℕ). sweep t a.quantity (at_best k (queue (other a.side) book))) m
        ∙ ap (sweep t a.quantity) (sym (opposite_best a book 4_096 ranked.stands ranked.few))
        ∙ ap (λ (x : Taker). sweep x a.quantity (opposite a book))
        (e
        ∙ ap
        (λ (x : ℕ). record { side = a.side; number = d.issued + 1; limit = x })
        priced
        ∙ ap
        (λ (x : ℕ). record { side = a.side; number = x; limit = entry_price a book })
        (add-one d.issued))
        ∙ sym (as_sweep f (λ z. n (priced ∙ z)))
        in
        (r.0 ∙ ap comes_to all, r.1 ∙ ap (λ (ts : List Trade). fitted ts l₀) all)
