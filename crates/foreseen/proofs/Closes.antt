-- The close after a move: the price of its trades, which are those of the first auction on the way, or the close before where it has
-- none. Assumes nothing.
use Prim.Native.Nat.{ℕ, ◌≤◌}
use mathlib.Core.Path.{◌≡◌, refl, sym, ap, ◌∙◌}
use mathlib.Core.Logic.{⊎_elim}
use mathlib.Core.Bool.{Bool, true, false}
use mathlib.Core.List.{List, [], ◌∷◌, ◌++◌}
use native.Mathlib.Omega.{arith}
use lib.ListN.{get_or}
use lib.Dec.{eqb}
use borrow.Author.Tests.{ne_eqb, eqb-true, eqb-false}
use Rattle.model.specs.declared.Order.{Order}
use Rattle.model.specs.declared.Trade.{Trade}
use Rattle.model.specs.declared.Day.{Day}
use Rattle.model.specs.Lists.{total}
use Rattle.model.specs.Clock.{passed}
use Rattle.model.specs.Matching.{filled, last_price}
use Rattle.model.specs.Figures.{tally, reference, close_price}
use Rattle.model.specs.Halts.{halting, resumed}
use Rattle.model.specs.Auction.{left_by, auction_price}
use Rattle.model.specs.ClockCall.{auction_trades, Held, auction, resume, lapse, pass, start, moved}
use Rattle.model.proofs.Seconds.{pass_cases, through_keeps}
use Rattle.book.specs.declared.Dealt.{Dealt}
use Rattle.book.specs.Deals.{dealt}
use Rattle.book.specs.Standing.{Ranked}
use Rattle.halts.proofs.Kept.{resume_cases}
use Rattle.pairing.proofs.Auctions.{Traded, auction_cases}
use Rattle.moves.specs.Stops.{next_stop}
use Rattle.moves.proofs.AuctionHeld.{price_found}
use Rattle.moves.proofs.Stopping.{moved_none, moved_trades}
use Rattle.foreseen.specs.declared.Foreseen.{Foreseen}
use Rattle.foreseen.specs.Foreseen.{foreseen}

last_append : (p : ℕ) (ts us : List Trade) → last_price p (ts ++ us) ≡ last_price (last_price p ts) us
unfolding last_price
last_append p [] us = refl
last_append p (t ∷ ts) us = last_append t.price ts us

-- the last price so far is that of the trades so far, and the previous close stays
record Priced (d : Day) (h : Held) : Type 0 where
  close : h.day.close ≡ d.close
  last : h.day.last ≡ last_price d.last h.trades

module _ (d : Day) where
  after_auction_lem : (h : Held) → Priced d h → Priced d (auction h)
  unfolding auction tally
  after_auction_lem h p =
      let ts : List Trade = auction_trades h.day h.book in
      record {
        close = p.close;
        last = ap (λ (q : ℕ). last_price q ts) p.last ∙ sym (last_append d.last h.trades ts);
      }

  pass_priced : (s : ℕ) (h : Held) → Priced d h → Priced d (pass s h)
  unfolding resume lapse halting resumed
  pass_priced s h p =
      let a : Priced d (auction h) = after_auction_lem h p in
      let over : Priced d (record { day = resumed (auction h).day; book = (auction h).book; trades = (auction h).trades }) =
      record { close = a.close; last = a.last } in
      pass_cases (Priced d) s h (λ _. a)
      (λ _.
      resume_cases (λ k. Priced d (record { day = k; book = (auction h).book; trades = (auction h).trades })) s h over
      (λ _ _. record { close = a.close; last = a.last }))
      (λ _. record { close = a.close; last = a.last })
      (λ _ _ _. p)

  moved_priced : (t : ℕ) (book : List Order) → Priced d (moved d t book)
  unfolding moved start last_price
  moved_priced t book =
      through_keeps (Priced d) pass_priced (passed d.time t) (start d book) (record { close = refl; last = refl })

-- ---- as the code finds it

module _ (d : Day) (t : ℕ) (book : List Order) (s : Ranked book) (l : d.time ≤ t) {stop close : ℕ} (e : stop ≡ next_stop d.halt d.time t) (c : close ≡ reference d) where
  -- nothing trades: the close stays
  none_foreseen : (moved d t book).trades ≡ [] → record { trades = 0; close = close } ≡ foreseen d t book
  unfolding foreseen close_price reference last_price
  none_foreseen n =
      let p = moved_priced d t book in
      let k : (moved d t book).day.last ≡ d.last = p.last ∙ ap (λ (ts : List Trade). last_price d.last ts) n in
      rw (n, k, p.close, c)

  pub no_stop : stop ≡ 0 → record { trades = 0; close = close } ≡ foreseen d t book
  no_stop z = none_foreseen (moved_none d t book s l e z)

  module _ (n : stop ≡ 0 → ⊥) {r : Dealt} (f : r ≡ dealt (auction_trades d book)) where
    trades_are : (moved d t book).trades ≡ auction_trades d book
    trades_are = moved_trades d t book s l e n

    sold : r.shares ≡ filled (auction_trades d book)
    unfolding dealt
    sold = ap (λ (x : Dealt). x.shares) f

    pub no_share : r.shares ≡ 0 → record { trades = 0; close = close } ≡ foreseen d t book
    no_share z =
        none_foreseen
        (trades_are
        ∙ ⊎_elim (λ (k : Traded book s.stands d). absurd (omega (arith, k.some, sold, z))) (λ k. k.1) (auction_cases book s.stands d))

    pub some_shares :
        {price : ℕ}
        → (r.shares ≡ 0 → ⊥)
        → price ≡ get_or (left_by book close) 0 0
        → record { trades = r.made; close = price } ≡ foreseen d t book
    unfolding foreseen close_price reference dealt
    some_shares z g =
        let p = moved_priced d t book in
        let at : _ ≡ auction_price d book = price_found d book c g in
        let k : Traded book s.stands d =
        ⊎_elim (λ x. x) (λ x. absurd (z (sold ∙ ap filled x.1 ∙ none_filled))) (auction_cases book s.stands d) in
        let m : (moved d t book).day.last ≡ auction_price d book =
        p.last ∙ ap (λ (ts : List Trade). last_price d.last ts) trades_are ∙ k.last d.last in
        let w : eqb (auction_price d book) 0 ≡ false =
        ne_eqb (auction_price d book) 0 (λ y. omega (arith, k.qualifies.price.low)) in
        rw (f, trades_are, m, w, at)
      where
        none_filled : filled [] ≡ 0
        none_filled = unfold filled total in refl

-- ---- and it is a price

pub moved_close :
    (d : Day) (t : ℕ) (book : List Order) → Ranked book → d.time ≤ t → reference d ≤ 999_999 → close_price (moved d t book).day ≤ 999_999
unfolding foreseen
moved_close d t book s l r = go (eqb (next_stop d.halt d.time t) 0) refl
  where
    sold_of : (dealt (auction_trades d book)).shares ≡ 0 → filled (auction_trades d book) ≡ 0
    sold_of z = unfold dealt in z

    none_of : auction_trades d book ≡ [] → (dealt (auction_trades d book)).shares ≡ 0
    none_of e = unfold dealt filled total in rw e

    same : {x : Foreseen} → x ≡ foreseen d t book → x.close ≤ 999_999 → close_price (moved d t book).day ≤ 999_999
    same e h = rw (sym (ap (λ (y : Foreseen). y.close) e)) h

    go : (b : Bool) → eqb (next_stop d.halt d.time t) 0 ≡ b → close_price (moved d t book).day ≤ 999_999
    go true e = same (no_stop d t book s l refl refl (eqb-true (next_stop d.halt d.time t) 0 e)) r
    go false e =
        let n = eqb-false (next_stop d.halt d.time t) 0 e in
        ⊎_elim
        (λ (k : Traded book s.stands d).
        same
        (some_shares d t book s l refl refl n refl (λ z. omega (arith, k.some, sold_of z)) refl)
        (rw (price_found d book refl refl) k.qualifies.price.high))
        (λ k. same (no_share d t book s l refl refl n refl (none_of k.1)) r)
        (auction_cases book s.stands d)
