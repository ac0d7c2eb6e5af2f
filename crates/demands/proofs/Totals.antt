-- The day's totals through a cancel, through the trades of an order, and through those of one auction after the other. Assumes nothing.
use Prim.Native.Nat.{ℕ, ◌*◌}
use mathlib.Core.Path.{◌≡◌, refl, sym, ◌∙◌}
use mathlib.Core.Bool.{Bool, true, false, cond}
use mathlib.Core.List.{List, [], ◌∷◌, ◌++◌}
use native.Mathlib.Omega.{arith}
use lib.ListN.{length, take, drop}
use lib.Seq.{take_at}
use lib.Dec.{eqb}
use borrow.Author.Tests.{eqb-true, ne_eqb}
use Rattle.model.specs.declared.Order.{Order}
use Rattle.model.specs.declared.Asked.{Asked}
use Rattle.model.specs.declared.Trade.{Trade}
use Rattle.model.specs.declared.Day.{Day}
use Rattle.model.specs.Lists.{total}
use Rattle.model.specs.Clock.{passed}
use Rattle.model.specs.Matching.{filled, first_price, last_price}
use Rattle.model.specs.Figures.{at, issue, money, tally}
use Rattle.model.specs.Halts.{fired}
use Rattle.model.specs.Screen.{update}
use Rattle.model.specs.Entry.{entry_trades}
use Rattle.model.specs.Calls.{written, entered, order_call, cancel_call}
use Rattle.model.specs.ClockCall.{auction_trades, Held, auction, resume, lapse, pass, start, moved, clock_call}
use Rattle.model.specs.Words.{Each, Price, Sound}
use Rattle.model.proofs.Seconds.{pass_cases, through_keeps}
use Rattle.book.specs.Standing.{Standing}
use Rattle.book.proofs.Kept.{standing_cleared}
use Rattle.pairing.proofs.Auctions.{afterwards_stands}
use Rattle.demands.specs.Totalling.{Totals}
use Rattle.demands.proofs.Cases.{order_cases, cancel_cases, clock_cases}
use Rattle.demands.proofs.Entered.{allowed, entered_prices}
use Rattle.demands.proofs.Moved.{auction_proper}
use Rattle.demands.proofs.Pricings.{sound_stands}
use Rattle.demands.proofs.Tallied.{Proper, total_append, proper_none, proper_append}
use Rattle.demands.proofs.SameFigures.{SameFigures, same_update, same_fired, same_resumed}

abbrev pub Prices : List Trade → Type 0
Prices ts = Each (λ (t : Trade). Price t.price) ts

-- ---- trades behind others

pub last_append : (p : ℕ) (ts us : List Trade) → last_price p (ts ++ us) ≡ last_price (last_price p ts) us
unfolding last_price
last_append p [] us = refl
last_append p (t ∷ ts) us = last_append t.price ts us

first_append :
    (p : ℕ) (ts us : List Trade)
    → Prices ts
    → cond (eqb (cond (eqb p 0) (first_price 0 ts) p) 0) (first_price 0 us) (cond (eqb p 0) (first_price 0 ts) p)
    ≡ cond (eqb p 0) (first_price 0 (ts ++ us)) p
unfolding first_price
first_append p ts us h = go (eqb p 0) refl ts h
  where
    go :
        (b : Bool)
        → eqb p 0 ≡ b
        → (ts : List Trade)
        → Prices ts
        → cond (eqb (cond b (first_price 0 ts) p) 0) (first_price 0 us) (cond b (first_price 0 ts) p)
        ≡ cond b (first_price 0 (ts ++ us)) p
    go true e [] h = refl
    go true e (t ∷ ts) h = rw (ne_eqb t.price 0 (λ z. omega (arith, h.0.low)))
    go false e ts h = rw e

pub totals_join :
    (d e f : Day) (ts us : List Trade) → Prices ts → Totals d e ts → Totals e f us → Totals d f (ts ++ us)
unfolding filled money
totals_join d e f ts us h k m =
    record {
      shares = omega (arith, k.shares, m.shares, total_append (λ t. t.quantity) ts us);
      turnover = omega (arith, k.turnover, m.turnover, total_append (λ t. t.price * t.quantity) ts us);
      first = m.first ∙ rw k.first (first_append d.first ts us h);
      last = m.last ∙ rw k.last (sym (last_append d.last ts us));
    }

totals_tally : (d : Day) (ts : List Trade) → Totals d (tally ts d) ts
unfolding tally
totals_tally d ts = record { shares = refl; turnover = refl; first = refl; last = refl }

-- ---- no trade yet

pub totals_none : (d : Day) → Totals d d []
unfolding filled money total first_price last_price
totals_none d =
    record { shares = omega arith; turnover = omega arith; first = go (eqb d.first 0) refl; last = refl }
  where
    go : (b : Bool) → eqb d.first 0 ≡ b → d.first ≡ cond b 0 d.first
    go true e = eqb-true d.first 0 e
    go false e = refl

-- what fires changes none of them, nor does the screen
totals_same : (d e f : Day) (ts : List Trade) → SameFigures e f → Totals d e ts → Totals d f ts
totals_same d e f ts x k =
    record {
      shares = x.shares ∙ k.shares;
      turnover = x.turnover ∙ k.turnover;
      first = x.first ∙ k.first;
      last = x.last ∙ k.last;
    }

totals_updated :
    (d e : Day) (book : List Order) (ts : List Trade) → Totals d e ts → Totals d (update ts book e) ts
totals_updated d e book ts = totals_same d e (update ts book e) ts (same_update ts book e)

-- ---- a cancel, and an order

pub cancel_totals : (d : Day) (account number : ℕ) (book : List Order) → Totals d (cancel_call d account number book).answer.day []
cancel_totals d account number book =
    cancel_cases d account number book (λ o. Totals d o.answer.day []) (λ _. totals_updated d d _ [] (totals_none d)) (λ _. totals_none d)

pub entered_totals :
    (d : Day) (a : Asked) (book : List Order)
    → let ts : List Trade = entry_trades d a book in Totals d (fired d.time ts (tally ts (issue d))) ts
unfolding tally issue
entered_totals d a book =
    totals_same d _ _ _ (same_fired d.time (entry_trades d a book) (tally (entry_trades d a book) (issue d)))
    (record { shares = refl; turnover = refl; first = refl; last = refl })

pub order_totals :
    (d : Day) (a : Asked) (book : List Order) (lent : List Trade)
    → Totals d (order_call d a book lent).answer.day (take (order_call d a book lent).answer.made (order_call d a book lent).trades)
unfolding entered written
order_totals d a book lent =
    order_cases d a book lent (λ o. Totals d o.answer.day (take o.answer.made o.trades))
    (λ _.
    rw (take_at (entry_trades d a book) (drop (length (entry_trades d a book)) lent) (length (entry_trades d a book)) refl)
    (totals_updated d _ _ _ (entered_totals d a book)))
    (λ _. totals_none d)

pub order_prices :
    (d : Day) (a : Asked) (book : List Order) (lent : List Trade)
    → Sound d book
    → Prices (take (order_call d a book lent).answer.made (order_call d a book lent).trades)
unfolding entered written
order_prices d a book lent s =
    order_cases d a book lent (λ o. Prices (take o.answer.made o.trades))
    (λ z.
    rw (take_at (entry_trades d a book) (drop (length (entry_trades d a book)) lent) (length (entry_trades d a book)) refl)
    (entered_prices d a book s (allowed d a book lent z)))
    (λ _. tt)

-- ---- a move of the clock

-- the figures so far, in the middle of a move
record SoFar (d : Day) (h : Held) : Type 0 where
  stands : Standing h.book
  proper : Proper h.trades
  totals : Totals d h.day h.trades

module _ (d : Day) where
  auction_totals : (h : Held) → SoFar d h → SoFar d (auction h)
  unfolding auction
  auction_totals h k =
      let ts = auction_trades h.day h.book in
      record {
        stands = afterwards_stands h.book k.stands h.day;
        proper = proper_append h.trades ts k.proper (auction_proper h k.stands);
        totals = totals_join d h.day (tally ts h.day) h.trades ts k.proper.priced k.totals (totals_tally h.day ts);
      }

  pass_totals : (s : ℕ) (h : Held) → SoFar d h → SoFar d (pass s h)
  unfolding resume lapse
  pass_totals s h k =
      let a = auction_totals h k in
      pass_cases (SoFar d) s h (λ _. a)
      (λ _.
      record {
        stands = a.stands;
        proper = a.proper;
        totals = totals_same d (auction h).day (resume s h).day (auction h).trades (same_resumed s h) a.totals;
      })
      (λ _. record { stands = standing_cleared (auction h).book; proper = a.proper; totals = a.totals })
      (λ _ _ _. k)

  module _ (book : List Order) (s : Sound d book) where
    so_far : (t : ℕ) → SoFar d (moved d t book)
    unfolding moved
    so_far t = through_keeps (SoFar d) pass_totals (passed d.time t) (start d book) begun
      where
        begun : SoFar d (start d book)
        begun = unfold start in record { stands = sound_stands d book s; proper = proper_none; totals = totals_none d }

    pub moved_proper : (t : ℕ) → Proper (moved d t book).trades
    moved_proper t = (so_far t).proper

    pub moved_totals : (t : ℕ) → Totals d (at t (moved d t book).day) (moved d t book).trades
    unfolding at
    moved_totals t =
        let k = (so_far t).totals in
        record { shares = k.shares; turnover = k.turnover; first = k.first; last = k.last }

    pub clock_prices :
        (t : ℕ) (lent : List Trade) → Prices (take (clock_call d t book lent).answer.made (clock_call d t book lent).trades)
    unfolding written
    clock_prices t lent =
        clock_cases d t book lent (λ o. Prices (take o.answer.made o.trades))
        (λ _.
        rw (take_at (moved d t book).trades (drop (length (moved d t book).trades) lent) (length (moved d t book).trades) refl)
        (moved_proper t).priced)
        (λ _. tt)

    pub clock_totals :
        (t : ℕ) (lent : List Trade)
        → Totals d (clock_call d t book lent).answer.day (take (clock_call d t book lent).answer.made (clock_call d t book lent).trades)
    unfolding written
    clock_totals t lent =
        clock_cases d t book lent (λ o. Totals d o.answer.day (take o.answer.made o.trades))
        (λ _.
        rw (take_at (moved d t book).trades (drop (length (moved d t book).trades) lent) (length (moved d t book).trades) refl)
        (totals_updated d (at t (moved d t book).day) (moved d t book).book (moved d t book).trades (moved_totals t)))
        (λ _. totals_none d)
