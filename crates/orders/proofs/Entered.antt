-- An order that no rule refuses: its trades are read back from the list, the day's figures have room for them, the book is settled,
-- and what is left of the order joins it. Assumes nothing.
use Rattle.std.specs.Prelude.{if◌then◌else◌}
use Prim.Native.Nat.{ℕ, ◌+◌, ◌-◌, ◌*◌, ◌^◌, ◌≤◌, ◌<◌}
use mathlib.Core.Path.{◌≡◌, sym, ap, ◌∙◌}
use mathlib.Core.Logic.{⊎_elim}
use mathlib.Core.Bool.{Bool, true, false, ◌||◌}
use mathlib.Core.List.{List, [], ◌∷◌}
use native.Mathlib.Omega.{arith}
use native.Mathlib.Nat.{mul-le-mul_right, mul-add}
use native.Mathlib.Numerals.{add-one}
use lib.ListN.{length, take}
use lib.Dec.{eqb}
use borrow.Author.Tests.{eq-eqb, ne_eqb, eqb-true, eqb-false}
use Rattle.model.specs.declared.Order.{Order}
use Rattle.model.specs.declared.Asked.{Asked}
use Rattle.model.specs.declared.Trade.{Trade}
use Rattle.model.specs.declared.Day.{Day}
use Rattle.model.specs.declared.Remainder.{Remainder}
use Rattle.model.specs.declared.OrderReply.TheVariants.{Accepted}
use Rattle.model.specs.Lists.{all, total}
use Rattle.model.specs.Book.{is_live, queue, best, other, arranged}
use Rattle.model.specs.Matching.{filled, levels, last_price, settle}
use Rattle.model.specs.Figures.{next_number, issue, money, tally}
use Rattle.model.specs.Halts.{halting, fired}
use Rattle.model.specs.Entry.{entry_trades, rest_price}
use Rattle.model.specs.Screen.{update}
use Rattle.model.specs.Calls.{written, ended, joined, entered}
use Rattle.model.proofs.Bools.{true_or_false}
use Rattle.model.specs.Words.{Each, Ordered}
use Rattle.book.specs.Standing.{Standing, Ranked}
use Rattle.book.specs.Writing.{fitted}
use Rattle.book.proofs.Written.{fitted_trades, fitted_written}
use Rattle.book.proofs.Kept.{New, standing_settle}
use Rattle.book.proofs.Counting.{queues_orders, fewer_orders, not_full}
use Rattle.book.proofs.Arranging.{arranged_buys, arranged_sells, arranged_length, arranged_ranked, arranged_again, arranged_with}
use Rattle.figures.specs.Figures.{Publishable}
use Rattle.halts.proofs.Kept.{fired_cases}
use Rattle.soundness.specs.SoundDay.{EveningDay}
use Rattle.soundness.proofs.EveningClauses.{fixed_paid}
use Rattle.soundness.proofs.SoundDays.{next_new}
use Rattle.matching.specs.declared.Swept.{Swept}
use Rattle.matching.specs.Sweeping.{comes_to}
use Rattle.matching.specs.Entering.{rest_at}
use Rattle.matching.specs.Settling.{SweptBy}
use Rattle.matching.proofs.Entries.{rest_price_lem}
use Rattle.matching.proofs.EntryLaws.{entry_filled, entry_swept, orders_then}
use Rattle.matching.proofs.EntryKept.{traded_bound, fair_rest, entered_standing, entered_fits}
use Rattle.book.specs.Promises.{call_left}
use Rattle.orders.specs.Taken.{Taken, Joins, RoomFor}

-- ---- where what is left goes

module _ (a : Asked) (number q p : ℕ) (book : List Order) where
  pub join_nothing : {n : ℕ} → length book ≡ n → Ordered book → q ≡ 0 → book ≡ arranged n (joined a number q p book)
  unfolding joined
  join_nothing h o z = rw (eq-eqb q 0 z, sym h) o

  pub join_withdrawn : {n : ℕ} → length book ≡ n → Ordered book → (q ≡ 0 → ⊥) → p ≡ 0 → book ≡ arranged n (joined a number q p book)
  unfolding joined
  join_withdrawn h o n z = rw (ne_eqb q 0 n, eq-eqb p 0 z, sym h) o

  pub join_rests :
      (q ≡ 0 → ⊥)
      → (p ≡ 0 → ⊥)
      → record { side = a.side; account = a.account; left = q; price = p; number = number } ∷ book ≡ joined a number q p book
  unfolding joined
  join_rests n m = rw (ne_eqb q 0 n, ne_eqb p 0 m)

  -- what rests joins the orders, wherever they stand
  joined_arranged :
      (n : ℕ)
      → Standing book
      → length (queue 0 book) + length (queue 1 book) ≤ n
      → arranged n (joined a number q p (arranged n book)) ≡ arranged n (joined a number q p book)
  unfolding joined
  joined_arranged n s fit = go (eqb q 0 || eqb p 0)
    where
      o : Order
      o = record { side = a.side; account = a.account; left = q; price = p; number = number }

      go :
          (b : Bool)
          → arranged n (if b then arranged n book else o ∷ arranged n book) ≡ arranged n (if b then book else o ∷ book)
      go true = arranged_again n book s fit
      go false = arranged_with n book s fit o

-- ---- what it comes to

-- the price of the rest, from the best prices that were handed in
pub rest_found :
    (a : Asked) (book : List Order) (filled last : ℕ) {own opp p : ℕ}
    → own ≡ best a.side book
    → opp ≡ best (other a.side) book
    → p ≡ rest_at a own opp filled last
    → p ≡ rest_at a (best a.side book) (best (other a.side) book) filled last
rest_found a book filled last {own} {opp} eo ex ep =
    ep
    ∙ ap (λ (n : ℕ). rest_at a n opp filled last) eo
    ∙ ap (λ (n : ℕ). rest_at a (best a.side book) n filled last) ex

-- money is at most the highest price for each share
pub money_within : (m : ℕ) (ts : List Trade) → Each (λ r. r.price ≤ m) ts → money ts ≤ m * filled ts
unfolding money filled total
money_within m [] e = omega arith
money_within m (t ∷ ts) (h, e) =
    let r : money ts ≤ m * filled ts = money_within m ts e in
    let p : t.price * t.quantity ≤ m * t.quantity = mul-le-mul_right t.quantity h in
    let s : m * (t.quantity + filled ts) ≡ m * t.quantity + m * filled ts = mul-add m t.quantity (filled ts) in
    omega arith

module _ (d : Day) (a : Asked) (rows : List Order) (lent : List Trade) where
  abbrev book : List Order
  book = rows

  abbrev ts : List Trade
  ts = entry_trades d a book

  module _ (fits : length ts ≤ length lent) {s : Swept} {trades : List Trade} (e : s ≡ comes_to ts) (w : trades ≡ fitted ts lent) where
    made : s.trades ≡ length ts
    unfolding comes_to
    made = rw e

    pub sold : s.filled ≡ filled ts
    unfolding comes_to
    sold = rw e

    at_prices_lem : s.levels ≡ levels ts
    unfolding comes_to
    at_prices_lem = rw e

    last : s.last ≡ last_price 0 ts
    unfolding comes_to
    last = rw e

    -- the trades that were made are read back from the list
    pub back : (take s.trades trades) ≡ ts
    back =
        ap (λ (n : ℕ). (take n trades)) made
        ∙ ap (λ (l : List Trade). (take (length ts) l)) w
        ∙ fitted_trades ts lent fits

    -- the price at which what is left rests, as the code found it
    module _ {p : ℕ} (ep : p ≡ rest_at a (best a.side book) (best (other a.side) book) s.filled s.last) where
      rests_at : p ≡ rest_price a ts book
      rests_at =
          ep
          ∙ ap (λ (f : ℕ). rest_at a (best a.side book) (best (other a.side) book) f s.last) sold
          ∙ ap (λ (l : ℕ). rest_at a (best a.side book) (best (other a.side) book) (filled ts) l) last
          ∙ sym (rest_price_lem a book ts)

    module _ (t : Taken d a book (length lent)) where
      stands : Standing book
      stands = t.ready.ranked.stands

      new : New (next_number d) book
      new = next_new d book t.ready.sound

      -- ---- nothing overflows on the way

      pub filled_fits : s.filled ≤ a.quantity
      filled_fits = omega (arith, sold, entry_filled d a book)

      pub count_fits : length trades ≡ length lent → s.trades ≤ length trades
      count_fits k = omega (arith, made, t.fits)

      few : filled ts ≤ 1_000_000
      few = omega (arith, entry_filled d a book, t.quantity)

      priced : Each (λ (r : Trade). r.price ≤ 999_999) ts
      priced = traded_bound d a book stands t.price

      -- nothing has traded, or the open is a price
      opened : d.first ≤ 999_999
      opened =
          ⊎_elim (λ z. omega (arith, t.ready.sound.untraded (eqb-true d.shares 0 z)))
          (λ n. (t.ready.sound.traded (eqb-false d.shares 0 n)).0.high)
          (true_or_false (eqb d.shares 0))

      pub room_for : RoomFor d (take s.trades trades)
      room_for =
          let m : money ts ≤ 999_999 * filled ts = money_within 999_999 ts priced in
          rw back
          (record {
            time = t.ready.sound.time;
            issued = omega (arith, t.number);
            shares = omega (arith, few, t.ready.sound.shares, t.ready.sound.issued);
            money = omega (arith, few, t.ready.sound.shares, t.ready.sound.issued, t.ready.sound.most);
            opened = opened;
            priced = priced;
          })

      -- what is published then are numbers of 64 bits
      pub then_publishable :
          {next : Day}
          → next ≡ fired d.time (take s.trades trades) (tally (take s.trades trades) (issue d))
          → Publishable next
      unfolding halting tally issue
      then_publishable e =
          let m : money ts ≤ 999_999 * filled ts = money_within 999_999 ts priced in
          let v : EveningDay d = t.ready.evening in
          let p : d.fixed.money ≤ 999_999 * d.fixed.shares = fixed_paid d book t.ready.sound v in
          let b : d.shares + filled ts + d.fixed.shares + d.blocks.shares < 2 ^ 64 =
          omega (arith, few, t.ready.sound.shares, t.ready.sound.issued, v.fixed_shares, v.fixed_issued, v.blocks_shares, v.blocks_issued) in
          let c : d.turnover + money ts + d.fixed.money < 2 ^ 64 =
          omega (arith, few, t.ready.sound.shares, t.ready.sound.issued, t.ready.sound.most, v.fixed_shares, v.fixed_issued) in
          rw (e, back)
          (fired_cases Publishable d.time ts (tally ts (issue d)) (λ _. record { shares = λ _. b; money = λ _. c }) (λ _. record { shares = λ _. b; money = λ _. c }))

      -- ---- the book after the trades

      settled_stands : Standing (settle ts book)
      settled_stands = standing_settle ts book stands

      settled_fit : length (queue 0 (settle ts book)) + length (queue 1 (settle ts book)) < length rows
      settled_fit =
          omega (
            arith,
            queues_orders (settle ts book) settled_stands.fair,
            fewer_orders ts book,
            queues_orders book stands.fair,
            t.room,
          )

      module _ (rows₁ : List Order) (es : (us : List Trade) → SweptBy a.side us book → filled us ≡ s.filled → rows₁ ≡ arranged (length rows) (settle us book)) where
        settled : rows₁ ≡ arranged (length rows) (settle ts book)
        settled = es ts (entry_swept d a book stands new) (sym sold)

        within : length (queue 0 (settle ts book)) + length (queue 1 (settle ts book)) ≤ length rows
        within = omega (arith, settled_fit)

        pub then_ranked : Ranked rows₁
        then_ranked =
            rw settled
            (arranged_ranked (length rows) (settle ts book) settled_stands within (omega (arith, t.ready.ranked.few)))

        then_long : length rows₁ ≡ length rows
        then_long =
            ap length settled
            ∙ arranged_length (length rows) (settle ts book)

        -- what is left of the order may join it
        pub then_joins :
            {p : ℕ}
            → p ≡ rest_at a (best a.side book) (best (other a.side) book) s.filled s.last
            → Joins a (d.issued + 1) (a.quantity - s.filled) p rows₁
        unfolding next_number
        then_joins {p} ep =
            record {
              fair =
                  λ n m.
                  rw (sold, rests_at ep, add-one d.issued)
                  (fair_rest d a book stands t.price (next_number d) t.side t.quantity (omega (arith, t.number, next)) new
                  (λ z. n (ap (λ (f : ℕ). a.quantity - f) sold ∙ z))
                  (λ z. m (rests_at ep ∙ z)));
              real = λ z. omega arith;
              room =
                  omega (
                    arith,
                    ap (λ (b : List Order). length (queue 0 b)) settled,
                    ap (λ (b : List Order). length (queue 1 b)) settled,
                    ap length (arranged_buys (length rows) (settle ts book) settled_stands within),
                    ap length (arranged_sells (length rows) (settle ts book) settled_stands within),
                    settled_fit,
                    then_long,
                  );
            }
          where
            next : next_number d ≡ d.issued + 1
            next = unfold next_number in sym (add-one d.issued)

        -- ---- and what it all comes to

        module _
            (rows₂ : List Order) {p : ℕ}
            (ep : p ≡ rest_at a (best a.side book) (best (other a.side) book) s.filled s.last)
            (eb : rows₂ ≡ arranged (length rows₁) (joined a (d.issued + 1) (a.quantity - s.filled) p rows₁))
          where
            -- the book then
            left_book : rows₂ ≡ arranged (length book) (joined a (next_number d) (a.quantity - filled ts) (rest_price a ts book) (settle ts book))
            unfolding next_number
            left_book =
                let n = add-one d.issued in
                let p' : p ≡ rest_price a ts book = rests_at ep in
                let b' : rows₂ ≡ arranged (length book) (joined a (d.issued + 1) (a.quantity - s.filled) p (settle ts book)) =
                eb
                ∙ ap (λ (k : ℕ). arranged k (joined a (d.issued + 1) (a.quantity - s.filled) p rows₁)) then_long
                ∙ ap (λ (b : List Order). arranged (length rows) (joined a (d.issued + 1) (a.quantity - s.filled) p b)) settled
                ∙ joined_arranged a (d.issued + 1) (a.quantity - s.filled) p (settle ts book) (length rows) settled_stands within
                in
                cc sold

            pub left_ranked : Ranked rows₂
            left_ranked =
                let few : next_number d ≤ 999_999 = unfold next_number in omega (arith, t.number) in
                let free : all is_live book ≡ false = not_full book (omega (arith, queues_orders book stands.fair, t.room)) in
                rw left_book
                (arranged_ranked (length book) (orders_then d a book (next_number d))
                (entered_standing d a book stands t.price (next_number d) t.side t.quantity few new)
                (entered_fits d a book stands t.price (next_number d) t.side t.quantity few new free)
                t.ready.ranked.few)

            pub entered_is :
                {rem : Remainder} {counted day : Day}
                → rem ≡ ended (a.quantity - s.filled) p
                → counted ≡ fired d.time (take s.trades trades) (tally (take s.trades trades) (issue d))
                → day ≡ update (take s.trades trades) rows₂ counted
                → call_left
                (record {
                  reply =
                      Accepted (record { number = d.issued + 1; filled = s.filled; levels = s.levels; remainder = rem });
                  made = s.trades;
                  day = day;
                })
                rows₂
                trades
                ≡ entered d a book lent
            unfolding entered next_number
            entered_is {rem} {counted} {day} em ec ed =
                let n = add-one d.issued in
                let p' : p ≡ rest_price a ts book = rests_at ep in
                let b' = left_book in
                let t' : trades ≡ written ts lent = w ∙ fitted_written ts lent fits in
                let c' : counted ≡ fired d.time ts (tally ts (issue d)) =
                ec ∙ ap (λ (l : List Trade). fired d.time l (tally l (issue d))) back in
                let d' : day ≡ update ts rows₂ counted =
                ed ∙ ap (λ (l : List Trade). update l rows₂ counted) back
                in
                cc (made, sold, at_prices_lem)
