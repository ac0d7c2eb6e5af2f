-- A move of the clock and the auctions on its way: its trades are those of the first one, on the day and the book as they stood before
-- the move; and up to the close it leaves the book as it was, or as that auction leaves it. Assumes nothing.
use Prim.Native.Nat.{ℕ, suc, ◌≤◌, ◌<◌}
use mathlib.Core.Path.{◌≡◌, refl, sym, ap, ◌∙◌}
use mathlib.Core.Logic.{◌⊎◌, inl, inr}
use mathlib.Core.Bool.{Bool, true, false, cond, ◌||◌}
use mathlib.Core.List.{List, [], ◌∷◌, ◌++◌, append-nil}
use native.Mathlib.Omega.{arith}
use lib.ListN.{length}
use lib.Dec.{eqb}
use borrow.Author.Tests.{ne_eqb}
use Rattle.model.specs.declared.Order.{Order}
use Rattle.model.specs.declared.Trade.{Trade}
use Rattle.model.specs.declared.Day.{Day}
use Rattle.model.specs.Lists.{any}
use Rattle.model.specs.Clock.{passed}
use Rattle.model.specs.Book.{arranged}
use Rattle.model.specs.Matching.{settle}
use Rattle.model.specs.ClockCall.{auction_trades, Held, auction, resume, pass, through, start, moved}
use Rattle.model.proofs.Bools.{not_both}
use Rattle.model.proofs.Seconds.{pass_quiet, pass_cases, through_seconds}
use Rattle.book.specs.Standing.{Standing}
use Rattle.book.proofs.Kept.{standing_settle}
use Rattle.book.proofs.Settlements.{settle_none}
use Rattle.book.proofs.Arranging.{arranged_length, same_arranged, arranged_buys, arranged_sells}
use Rattle.pairing.proofs.Auctions.{uncrossed_none, settled_fit, afterwards, afterwards_stands, afterwards_uncrossed}
use Rattle.pairing.proofs.Moves.{pass_due, quiet_through}
use Rattle.demands.specs.Pricing.{is_auction}

-- ---- its trades

module _ (s : ℕ) (h : Held) where
  quiet_second : is_auction s h.day ≡ false → pass s h ≡ h
  unfolding is_auction
  quiet_second e = go (eqb s 33_900) refl (eqb s h.day.halt) refl (eqb s 54_000) refl e
    where
      go :
          (a : Bool)
          → eqb s 33_900 ≡ a
          → (b : Bool)
          → eqb s h.day.halt ≡ b
          → (c : Bool)
          → eqb s 54_000 ≡ c
          → (a || b || c) ≡ false
          → pass s h ≡ h
      go true x b y c z f = absurd (not_both refl f)
      go false x true y c z f = absurd (not_both refl f)
      go false x false y true z f = absurd (not_both refl f)
      go false x false y false z f = pass_quiet s h x y z

  something_due : is_auction s h.day ≡ true → (s ≡ 33_900 → ⊥) → (s ≡ h.day.halt → ⊥) → (s ≡ 54_000 → ⊥) → ⊥
  unfolding is_auction
  something_due e a b c = not_both e (rw (ne_eqb s 33_900 a, ne_eqb s h.day.halt b, ne_eqb s 54_000 c))

through_trades :
    (ss : List ℕ) (h : Held)
    → Standing h.book
    → (through ss h).trades ≡ h.trades ++ cond (any (λ s. is_auction s h.day) ss) (auction_trades h.day h.book) []
unfolding through any
through_trades [] h k = sym (append-nil h.trades)
through_trades (s ∷ ss) h k = go (is_auction s h.day) refl (through_trades ss h k)
  where
    later : Bool
    later = any (λ s. is_auction s h.day) ss

    go :
        (b : Bool)
        → is_auction s h.day ≡ b
        → (through ss h).trades ≡ h.trades ++ cond later (auction_trades h.day h.book) []
        → (through ss (pass s h)).trades ≡ h.trades ++ cond (b || later) (auction_trades h.day h.book) []
    go true e f =
        let a = pass_due h k s (something_due s h e) in quiet_through ss (pass s h) a.quiet ∙ a.trades
    go false e f = rw (quiet_second s h e) f

pub moved_trades :
    (d : Day) (t : ℕ) (book : List Order)
    → Standing book
    → (moved d t book).trades ≡ cond (any (λ s. is_auction s d) (passed d.time t)) (auction_trades d book) []
unfolding moved start
moved_trades d t book k = through_trades (passed d.time t) (start d book) k

-- ---- its book, up to the close

module _ (d : Day) (book : List Order) (k : Standing book) where
  abbrev ts : List Trade
  ts = auction_trades d book

  abbrev left : List Order
  left = afterwards book k d

  -- another auction leaves it as it is
  left_again : arranged (length book) left ≡ left
  left_again =
      let settled = standing_settle ts book k in
      let fit = settled_fit book k d in
      same_arranged (length book) left (settle ts book) (arranged_buys (length book) (settle ts book) settled fit)
      (arranged_sells (length book) (settle ts book) settled fit)

  still_left : (e : Day) → arranged (length left) (settle (auction_trades e left) left) ≡ left
  still_left e =
      let stands = afterwards_stands book k d in
      ap (λ (us : List Trade). arranged (length left) (settle us left)) (uncrossed_none left stands e (afterwards_uncrossed book k d))
      ∙ ap (arranged (length left)) (settle_none left stands.fair)
      ∙ ap (λ (n : ℕ). arranged n left) (arranged_length (length book) (settle ts book))
      ∙ left_again

  -- an auction was held, and trades that came to nothing since
  pub record Traded (h : Held) : Type 0 where
    pub orders : h.book ≡ left
    pub trades : h.trades ≡ ts

  abbrev Either : Held → Type 0
  Either h = (h ≡ start d book) ⊎ Traded h

  first : Traded (auction (start d book))
  unfolding auction start
  first = record { orders = refl; trades = refl }

  again : (h : Held) → Traded h → Traded (auction h)
  unfolding auction
  again h x =
      record {
        orders =
            ap (λ (os : List Order). arranged (length os) (settle (auction_trades h.day os) os)) x.orders ∙ still_left h.day;
        trades =
            ap (λ (os : List Order). h.trades ++ auction_trades h.day os) x.orders
            ∙ ap (λ (us : List Trade). h.trades ++ us) (uncrossed_none left (afterwards_stands book k d) h.day (afterwards_uncrossed book k d))
            ∙ append-nil h.trades
            ∙ x.trades;
      }

  resumes : (s : ℕ) (h : Held) → Traded (auction h) → Traded (resume s h)
  unfolding resume
  resumes s h x = record { orders = x.orders; trades = x.trades }

  step : (s : ℕ) → (s ≡ 54_000 → ⊥) → (h : Held) → Either h → Either (pass s h)
  step s n h (inl e) =
      rw e
      (pass_cases Either s (start d book) (λ _. inr first) (λ _. inr (resumes s (start d book) first)) (λ z. absurd (n z)) (λ _ _ _. inl refl))
  step s n h (inr x) =
      pass_cases Either s h (λ _. inr (again h x)) (λ _. inr (resumes s h (again h x))) (λ z. absurd (n z)) (λ _ _ _. inr x)

  pub up_to_close : (t : ℕ) → d.time ≤ t → t < 54_000 → Either (moved d t book)
  unfolding moved
  up_to_close t l c =
      through_seconds (λ _ h. Either h) t (λ s h m e. step (suc s) (λ z. omega (arith, z)) h e) d.time (start d book) l (inl refl)
