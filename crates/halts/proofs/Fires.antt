-- Whether trades reach a threshold, one price and one trade after the other. Assumes nothing.
use Prim.Native.Nat.{ℕ, ◌+◌, ◌-◌, ◌*◌, ◌≤◌, ◌<◌}
use mathlib.Core.Path.{◌≡◌, sym, ap, ◌∙◌}
use mathlib.Core.Bool.{Bool, true, false}
use mathlib.Core.List.{List, ◌∷◌}
use native.Mathlib.Numerals.{add-one}
use lib.ListN.{length, drop, get_or, drop_of_length-le}
use lib.Seq.{drop-cons}
use lib.Dec.{leb}
use borrow.Author.Tests.{le-leb, lt-leb}
use Rattle.model.specs.declared.Trade.{Trade}
use Rattle.model.specs.declared.Day.{Day}
use Rattle.model.specs.Lists.{any}
use Rattle.model.specs.Figures.{open_price}
use Rattle.model.specs.Halts.{away, reach}
use Rattle.book.proofs.Lists.{each_drop}
use Rattle.halts.specs.Priced.{Priced}
use Rattle.model.specs.Matching.{no_trade}

-- ---- one price

module _ (percent opened p : ℕ) where
  pub away_up : (100 + percent) * opened ≤ 100 * p → leb ((100 + percent) * opened) (100 * p) ≡ away percent opened p
  unfolding away
  away_up h = rw (le-leb ((100 + percent) * opened) (100 * p) h)

  pub away_down : 100 * p < (100 + percent) * opened → leb (100 * p) ((100 - percent) * opened) ≡ away percent opened p
  unfolding away
  away_down h = rw (lt-leb ((100 + percent) * opened) (100 * p) h)

-- ---- trades, one after the other

module _ (percent : ℕ) (d : Day) (ts : List Trade) (i : ℕ) where
  module _ (h : i < length ts) where
    abbrev here : Trade
    here = get_or ts i no_trade

    begins : drop i ts ≡ here ∷ drop (i + 1) ts
    begins = drop-cons ts i no_trade h ∙ ap (λ (k : ℕ). here ∷ drop k ts) (sym (add-one i))

    pub price_at : Priced d ts → here.price ≤ 999_999
    price_at p = (rw begins at (each_drop (λ (x : Trade). x.price ≤ 999_999) i ts p.trades)).0

    module _ {b : Bool} (a : b ≡ away percent d.first here.price) where
      pub reach_here : b ≡ true → true ≡ reach percent (drop i ts) d
      unfolding reach any open_price
      reach_here y = rw (begins, ← a, y)

      pub reach_later : b ≡ false → reach percent (drop i ts) d ≡ reach percent (drop (i + 1) ts) d
      unfolding reach any open_price
      reach_later y = rw (begins, ← a, y)

  pub reach_none : length ts ≤ i → reach percent (drop i ts) d ≡ false
  unfolding reach any
  reach_none h = rw (drop_of_length-le ts h)
