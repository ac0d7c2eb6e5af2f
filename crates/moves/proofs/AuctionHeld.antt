-- A stop's auction, as the code holds it: its trades, the book after them, room for them in the day's figures and in the lent list, and
-- what comes of it at each kind of stop. Assumes nothing.
use Prim.Native.Nat.{ℕ, ◌+◌, ◌-◌, ◌*◌, ◌^◌, ◌≤◌, ◌<◌}
use mathlib.Core.Path.{◌≡◌, refl, sym, ap, ◌∙◌}
use mathlib.Core.Logic.{⊎_elim}
use mathlib.Core.Bool.{Bool, true, false, cond}
use mathlib.Core.List.{List, [], ◌++◌, append-nil}
use native.Mathlib.Nat.{mul-le-mul_right, mul-add}
use native.Mathlib.Omega.{arith}
use lib.Dec.{eqb}
use borrow.Author.Tests.{eq-eqb, ne_eqb, eqb-false}
use lib.ListN.{replicate, length, length-append, length-drop, take, drop, get_or, drop_of_length-le}
use lib.Seq.{length-take-le, take_all, take-append-le, drop-append-le, take-append-add, drop-append-add, drop_at, drop-drop}
use Rattle.model.specs.declared.Order.{Order}
use Rattle.model.specs.declared.Trade.{Trade}
use Rattle.model.specs.declared.Day.{Day}
use Rattle.model.specs.Lists.{total}
use Rattle.model.specs.Book.{free, arranged}
use Rattle.model.specs.Matching.{filled, first_price, settle}
use Rattle.model.specs.Figures.{money, tally, reference, open_price}
use Rattle.model.specs.Halts.{halting, fired, resumed}
use Rattle.model.specs.Auction.{volume, left_by, auction_price}
use Rattle.model.specs.Sound.{crosses}
use Rattle.model.specs.Pairing.{trades_at}
use Rattle.model.specs.Calls.{cleared}
use Rattle.model.specs.ClockCall.{auction_trades, Held, auction, resume, lapse, pass, start}
use Rattle.model.proofs.Bools.{not_false_true}
use Rattle.model.specs.Words.{Each}
use Rattle.book.specs.Standing.{Standing, Ranked}
use Rattle.book.specs.Writing.{fitted}
use Rattle.book.proofs.Lists.{each}
use Rattle.book.proofs.Arranging.{cleared_frees, arranged_length}
use Rattle.book.proofs.Written.{fitted_nil, fitted_all, fitted_trades}
use Rattle.pairing.proofs.Auctioned.{volume_filled}
use Rattle.pairing.proofs.Auctions.{uncrossed_none, auction_trades_are, auction_priced, auction_money, auction_shares, auction_cases}
use Rattle.pairing.proofs.Moves.{pass_due}
use Rattle.halts.specs.Priced.{Priced}
use Rattle.book.specs.declared.Dealt.{Dealt}
use Rattle.book.specs.Deals.{dealt}
use Rattle.moves.specs.declared.Passage.{Passage}
use Rattle.moves.specs.Stops.{is_stop}
use Rattle.moves.specs.Moving.{so_far, Underway, Reached}
use Rattle.moves.proofs.NextStop.{stop_due}

-- ---- its trades

-- the price that the code found
pub price_found : (d : Day) (book : List Order) {r p : ℕ} → r ≡ reference d → p ≡ get_or (left_by book r) 0 0 → p ≡ auction_price d book
unfolding auction_price
price_found d book e f = f ∙ ap (λ (r : ℕ). get_or (left_by book r) 0 0) e

module _ (d : Day) (book : List Order) (s : Standing book) {r p : ℕ} (er : r ≡ reference d) (ep : p ≡ get_or (left_by book r) 0 0) where
  pub trades_found : trades_at p book ≡ auction_trades d book
  trades_found = ap (λ (q : ℕ). trades_at q book) (price_found d book er ep) ∙ sym (auction_trades_are book s d)

  -- as many as were counted, and as many shares as the volume has
  pub dealt_found :
      {n v : ℕ}
      → n ≡ length (trades_at p book)
      → v ≡ volume book p
      → record { made = n; shares = v } ≡ dealt (auction_trades d book)
  unfolding dealt
  dealt_found e f =
      rw (sym trades_found, e, f) (ap (λ (q : ℕ). record { made = length (trades_at p book); shares = q }) (sym (volume_filled p book s)))

module _ (d : Day) (book : List Order) (s : Standing book) {c : Bool} (e : c ≡ crosses book) (n : c ≡ false) where
  none : auction_trades d book ≡ []
  none = uncrossed_none book s d (sym e ∙ n)

  -- none are made, and none are written
  pub none_dealt : record { made = 0; shares = 0 } ≡ dealt (auction_trades d book)
  unfolding dealt filled total
  none_dealt = rw none

  pub none_written : (lent : List Trade) → lent ≡ fitted (auction_trades d book) lent
  none_written lent = rw none (sym (fitted_nil lent))

pub made_of : (d : Day) (book : List Order) {r : Dealt} → r ≡ dealt (auction_trades d book) → r.made ≡ length (auction_trades d book)
unfolding dealt
made_of d book e = rw e

-- ---- the book after them

pub auction_settled :
    (d : Day) (rows : List Order) (s : Standing rows) {after : List Order} {r : Dealt}
    → r ≡ dealt (auction_trades d rows)
    → ((p : ℕ) → volume rows p ≡ r.shares → after ≡ arranged (length rows) (settle (trades_at p rows) rows))
    → after ≡ arranged (length rows) (settle (auction_trades d rows) rows)
unfolding dealt
auction_settled d rows s {after} {r} e f =
    let book = rows in
    let p = auction_price d rows in
    f (auction_price d rows)
    (sym (volume_filled (auction_price d rows) rows s)
    ∙ ap filled (sym (auction_trades_are rows s d))
    ∙ sym (ap (λ (x : Dealt). x.shares) e))
    ∙ ap (λ (ts : List Trade). arranged (length rows) (settle ts rows)) (sym (auction_trades_are rows s d))

-- ---- room in the day's figures

module _ (h : Held) (u : Underway h) where
  abbrev ts : List Trade
  ts = auction_trades h.day h.book

  pub sold_room : 2 * (h.day.shares + filled ts) ≤ 1_000_000 * 999_999
  sold_room = omega (arith, u.shares, auction_shares h.book u.ranked.stands h.day)

  price_room : auction_price h.day h.book ≤ 999_999
  price_room =
      ⊎_elim (λ k. k.qualifies.price.high) (λ k. omega (arith, k.0)) (auction_cases h.book u.ranked.stands h.day)

  pub paid_room : h.day.turnover + money ts ≤ 999_999 * (h.day.shares + filled ts)
  paid_room =
      omega (
        arith,
        u.most,
        auction_money h.book u.ranked.stands h.day,
        mul-le-mul_right (filled ts) price_room,
        mul-add 999_999 h.day.shares (filled ts),
      )

  -- each trade is at the auction's price, and so is the open where it is the first
  pub prices_fit_lem : Each (λ (t : Trade). t.price ≤ 999_999) ts
  prices_fit_lem =
      each (λ (t : Trade). t.price ≡ auction_price h.day h.book) (λ (t : Trade). t.price ≤ 999_999) ts
      (λ t e. omega (arith, e, price_room)) (auction_priced h.book u.ranked.stands h.day)

  pub opened_fit : (tally ts h.day).first ≤ 999_999
  unfolding tally
  opened_fit = go (eqb h.day.first 0)
    where
      go : (b : Bool) → cond b (first_price 0 ts) h.day.first ≤ 999_999
      go true = ⊎_elim (λ k. omega (arith, k.first 0, price_room)) (λ k. rw k.1 (unfold first_price in omega arith)) (auction_cases h.book u.ranked.stands h.day)
      go false = u.opened

  figures_fit_lem : (h.day.shares + filled ts < 2 ^ 64) × (h.day.turnover + money ts < 2 ^ 64)
  figures_fit_lem = (omega (arith, sold_room), omega (arith, sold_room, paid_room))

-- ---- what it comes to, at the front of a list

module _ (d : Day) (rows : List Order) (lent : List Trade) (fits : length (auction_trades d rows) ≤ length lent) where
  abbrev new : List Trade
  new = auction_trades d rows

  pub start_ranked : Underway (start d rows) → Ranked rows
  unfolding start
  start_ranked u = u.ranked

  module _ {n : ℕ} {after : List Trade} (en : n ≡ length new) (ea : after ≡ fitted new lent) (kept : length after ≡ length lent) where
    -- the trades are read back from the list
    back : (take n after) ≡ new
    back =
        ap (λ (k : ℕ). (take k after)) en
        ∙ ap (λ (l : List Trade). (take (length new) l)) ea
        ∙ fitted_trades new lent fits

    -- and past them nothing has changed
    past_them : drop n after ≡ drop n lent
    past_them =
        ap (drop n) ea
        ∙ ap (λ (l : List Trade). drop n l) (fitted_all new lent (omega (arith, fits)))
        ∙ drop_at new (drop (length new) lent) n (sym en)
        ∙ ap (λ (k : ℕ). drop k lent) (sym en)

    pub held_fits :
        Underway (start d rows)
        → (d.shares + filled (take n after) < 2 ^ 64) × (d.turnover + money (take n after) < 2 ^ 64)
    unfolding start
    held_fits u = rw back (figures_fit_lem (start d rows) u)

    module _ {day : Day} (ed : day ≡ tally (take n after) d) where
      tallied : day ≡ tally new d
      tallied = ed ∙ ap (λ (l : List Trade). tally l d) back

      -- after an auction
      pub held :
          {rows₁ : List Order}
          → rows₁ ≡ arranged (length rows) (settle new rows)
          → Reached (auction (start d rows)) lent (record { day = day; made = n }) rows₁ after
      unfolding auction start
      held f = record { state = rw (tallied, f, back); within = omega (arith, kept, en, fits); past = past_them }

      -- and with the lapse
      pub closed :
          {rows₁ : List Order}
          → rows₁ ≡ (cleared rows)
          → Reached (lapse (auction (start d rows))) lent (record { day = day; made = n }) rows₁ after
      unfolding lapse auction start
      closed {rows₁} f =
          let g : rows₁ ≡ cleared (arranged (length rows) (settle new rows)) =
          f ∙ cleared_same
          in
          record { state = rw (tallied, g, back); within = omega (arith, kept, en, fits); past = past_them }
        where
          -- as many places are free
          cleared_same : cleared rows ≡ cleared (arranged (length rows) (settle new rows))
          cleared_same =
              cleared_frees rows
              ∙ ap (λ (k : ℕ). replicate k free) (sym (arranged_length (length rows) (settle new rows)))
              ∙ sym (cleared_frees (arranged (length rows) (settle new rows)))

-- ---- the end of a halt

module _ (d : Day) (rows : List Order) (lent : List Trade) {p : Passage} {rows₁ : List Order} {after : List Trade} (r : Reached (auction (start d rows)) lent p rows₁ after) where
  abbrev h : Held
  h = start d rows

  ended_back : (take p.made after) ≡ auction_trades h.day h.book
  unfolding auction start
  ended_back = ap (λ (k : Held). k.trades) r.state

  ended_day : p.day ≡ tally (auction_trades h.day h.book) h.day
  unfolding auction start
  ended_day = ap (λ (k : Held). k.day) r.state

  module _ {over : Day} (eo : over ≡ resumed p.day) where
    over_is : over ≡ resumed (auction h).day
    over_is = eo ∙ ap (λ (k : Held). resumed k.day) r.state

    -- the open is a price, and so is the auction's
    pub ended_priced : Underway h → Priced over (take p.made after)
    unfolding start
    ended_priced u =
        rw (eo, ended_day, ended_back)
        (record { opened = unfold open_price resumed halting in opened_fit h u; trades = prices_fit_lem h u })

    module _ (s : ℕ) where
      -- at 14:57 nothing fires
      pub ended_close : s ≡ 53_820 → Reached (resume s h) lent (record { day = over; made = p.made }) rows₁ after
      unfolding resume
      ended_close e =
          record {
            state = rw (over_is, eq-eqb s 53_820 e, ap (λ (k : Held). k.book) r.state, ap (λ (k : Held). k.trades) r.state);
            within = r.within;
            past = r.past;
          }

      -- at any other end the auction's price may
      pub ended_else :
          {day : Day}
          → (s ≡ 53_820 → ⊥)
          → day ≡ fired s (take p.made after) over
          → Reached (resume s h) lent (record { day = day; made = p.made }) rows₁ after
      unfolding resume
      ended_else {day} n ed =
          let g : day ≡ fired s (auction_trades h.day h.book) (resumed (auction h).day) =
          ed ∙ ap (λ (ts : List Trade). fired s ts over) ended_back ∙ ap (fired s (auction_trades h.day h.book)) over_is
          in
          record {
            state = rw (g, ne_eqb s 53_820 n, ap (λ (k : Held). k.book) r.state, ap (λ (k : Held). k.trades) r.state);
            within = r.within;
            past = r.past;
          }

-- ---- by what is due

module _ (s : ℕ) (d : Day) (rows : List Order) where
  abbrev from : Held
  from = start d rows

  module _ {lent : List Trade} {p : Passage} {rows₁ : List Order} {after : List Trade} where
    pub reached_opening : s ≡ 33_900 → Reached (auction from) lent p rows₁ after → Reached (pass s from) lent p rows₁ after
    unfolding pass
    reached_opening e r = rw (eq-eqb s 33_900 e) r

    module _ (n : s ≡ 33_900 → ⊥) where
      pub reached_end : s ≡ d.halt → Reached (resume s from) lent p rows₁ after → Reached (pass s from) lent p rows₁ after
      unfolding pass start
      reached_end e r = rw (ne_eqb s 33_900 n, eq-eqb s d.halt e) r

      pub reached_close :
          is_stop d.halt s ≡ true
          → (s ≡ d.halt → ⊥)
          → Reached (lapse (auction from)) lent p rows₁ after
          → Reached (pass s from) lent p rows₁ after
      unfolding pass start
      reached_close e m r = rw (ne_eqb s 33_900 n, ne_eqb s d.halt m, closing) r
        where
          closing : eqb s 54_000 ≡ true
          closing = not_false_true (λ f. stop_due from s (unfold start in e) n (unfold start in m) (eqb-false s 54_000 f))

-- ---- and after the trades so far

-- what a stop does is the same, whatever trades came before
behind :
    (s : ℕ) (d : Day) (book : List Order) (ts : List Trade)
    → pass s (record { day = d; book = book; trades = ts })
    ≡ record { day = (pass s (start d book)).day; book = (pass s (start d book)).book; trades = ts ++ (pass s (start d book)).trades }
unfolding pass auction resume lapse start
behind s d book ts = go (eqb s 33_900) (eqb s d.halt) (eqb s 54_000)
  where
    h : Held
    h = record { day = d; book = book; trades = ts }

    k : Held
    k = record { day = d; book = book; trades = [] }

    go :
        (x y z : Bool)
        → cond x (auction h) (cond y (resume s h) (cond z (lapse (auction h)) h))
        ≡ record {
          day = (cond x (auction k) (cond y (resume s k) (cond z (lapse (auction k)) k))).day;
          book = (cond x (auction k) (cond y (resume s k) (cond z (lapse (auction k)) k))).book;
          trades = ts ++ (cond x (auction k) (cond y (resume s k) (cond z (lapse (auction k)) k))).trades;
        }
    go true y z = refl
    go false true z = refl
    go false false true = refl
    go false false false = rw (append-nil ts)

module _ (p : Passage) (s : ℕ) (rows : List Order) (lent : List Trade) (w : p.made ≤ length lent) where
  pub next_underway : Underway (so_far p rows lent) → Underway (start p.day rows)
  unfolding start
  next_underway u = record { ranked = u.ranked; shares = u.shares; most = u.most; opened = u.opened }

  abbrev old : List Trade
  old = take p.made lent

  -- what is left of the list, and what is left after that
  abbrev rest : List Trade
  rest = take (length lent - p.made) (drop p.made lent)

  abbrev beyond : List Trade
  beyond = drop (length lent - p.made) (drop p.made lent)

  old_long : length old ≡ p.made
  old_long = length-take-le p.made lent w

  rest_is : rest ≡ drop p.made lent
  rest_is = take_all (length lent - p.made) (drop p.made lent) (omega (arith, length-drop p.made lent))

  beyond_is : beyond ≡ []
  beyond_is =
      drop_of_length-le (drop p.made lent) {i = length lent - p.made} (omega (arith, length-drop p.made lent))

  -- the stop's trades have room in what is left
  pub next_fits :
      Underway (so_far p rows lent)
      → is_stop p.day.halt s ≡ true
      → length (pass s (so_far p rows lent)).trades ≤ length lent
      → length (auction_trades p.day rows) ≤ length rest
  next_fits u e f =
      let a : (pass s (so_far p rows lent)).trades ≡ old ++ auction_trades p.day rows =
      (pass_due (so_far p rows lent) u.ranked.stands s (stop_due (so_far p rows lent) s e)).trades in
      omega (
        arith,
        ap length a,
        length-append old (auction_trades p.day rows),
        old_long,
        ap length rest_is,
        length-drop p.made lent,
      )

  module _ {q : Passage} {rows₁ : List Order} {part : List Trade} (k : length part ≡ length rest) (r : Reached (pass s (start p.day rows)) rest q rows₁ part) where
    pub sum_fits : p.made + q.made ≤ length lent
    sum_fits = omega (arith, r.within, ap length rest_is, length-drop p.made lent)

    abbrev after : List Trade
    after = old ++ (part ++ beyond)

    all_back : (take (p.made + q.made) after) ≡ old ++ (take q.made part)
    all_back =
        ap (λ (n : ℕ). (take (n + q.made) after)) (sym old_long)
        ∙ (take-append-add old (part ++ beyond) q.made)
        ∙ ap (λ (l : List Trade). (old ++ l)) (take-append-le q.made part beyond r.within)

    past_all : drop (p.made + q.made) after ≡ drop (p.made + q.made) lent
    past_all =
        ap (λ (n : ℕ). drop (n + q.made) after) (sym old_long)
        ∙ drop-append-add old (part ++ beyond) q.made
        ∙ drop-append-le q.made part beyond r.within
        ∙ ap (λ (l : List Trade). l ++ beyond) r.past
        ∙ ap (λ (l : List Trade). drop q.made rest ++ l) beyond_is
        ∙ append-nil (drop q.made rest)
        ∙ ap (drop q.made) rest_is
        ∙ drop-drop q.made p.made lent

    pub then_held : Reached (pass s (so_far p rows lent)) lent (record { day = q.day; made = p.made + q.made }) rows₁ after
    then_held =
        record {
          state =
              ap (λ (l : List Trade). record { day = q.day; book = rows₁; trades = l }) all_back
              ∙ ap (λ (h : Held). record { day = h.day; book = h.book; trades = old ++ h.trades }) r.state
              ∙ sym (behind s p.day rows old);
          within = omega (arith, length-append old (part ++ beyond), length-append part beyond, old_long, r.within);
          past = past_all;
        }
