-- An order that no rule but 13 refuses: what it does to the line, the trade list and the day is what the definition says. Assumes nothing.
use Prim.Native.Nat.{ℕ, ◌+◌, ◌-◌, ◌*◌, ◌^◌, ◌≤◌, ◌<◌}
use mathlib.Core.Path.{◌≡◌, sym, ap, ◌∙◌}
use mathlib.Core.Bool.{Bool, true, false, not}
use mathlib.Core.List.{List, []}
use native.Mathlib.Decide.{ℕ_discrete}
use native.Mathlib.Nat.{mul-le-mul_right}
use native.Mathlib.Omega.{arith}
use lib.ListN.{length, get_or, set, length-map, length-set}
use lib.Seq.{set-set, set-get_or}
use lib.Dec.{ltb}
use borrow.Author.Tests.{le-leb, lt-leb, le-ltb, ltb-false}
use Rattle.model.specs.declared.Order.{Order}
use Rattle.model.specs.declared.AskedFixed.{AskedFixed}
use Rattle.model.specs.declared.Trade.{Trade}
use Rattle.model.specs.declared.Day.{Day}
use Rattle.model.specs.declared.Entry.{Entry}
use Rattle.model.specs.declared.OrderReply as OrderReply
use Rattle.model.specs.declared.OrderAnswer.{OrderAnswer}
use Rattle.model.specs.Lists.{keep, total}
use Rattle.model.specs.Clock.{matching_from}
use Rattle.model.specs.Book.{free, is_live}
use Rattle.model.specs.Matching.{filled, levels, settle}
use Rattle.model.specs.Figures.{money, reference, close_price, next_fixed, with_fixed_figures, issue_fixed, tally_fixed}
use Rattle.model.specs.FixedBook.{is_void, matches, lined}
use Rattle.model.specs.Calls.{written, ended}
use Rattle.model.specs.FixedCalls.{arriving, fixed_trades, fixed_entered}
use Rattle.model.specs.Words.{Each}
use Rattle.book.specs.declared.Dealt.{Dealt}
use Rattle.book.specs.Deals.{dealt}
use Rattle.book.specs.Promises.{call_left, order_refused}
use Rattle.book.specs.Standing.{Fair}
use Rattle.book.specs.Writing.{fitted}
use Rattle.book.proofs.Lists.{each_at}
use Rattle.book.proofs.Settlements.{settle_none, filled_nil}
use Rattle.book.proofs.Written.{fitted_written}
use Rattle.fixed_book.specs.Ready.{Lined}
use Rattle.fixed_book.specs.Asked.{Fine, incoming}
use Rattle.fixed_book.proofs.Counting.{live_before}
use Rattle.fixed_book.proofs.Sides.{closing_few}
use Rattle.fixed_book.proofs.Tallying.{matched_at}
use Rattle.fixed_book.proofs.Arriving.{arriving_fair, arrives_at, arriving_lined, entry_matches, entry_settles, entry_fills}
use Rattle.fixed_calls.specs.Rules.{Welcome, welcomed}
use Rattle.fixed_calls.specs.Entries.{entry_of}
use Rattle.fixed_calls.proofs.AskedRules.{asked_fine}
use Rattle.fixed_calls.proofs.Entries.{one_level}

-- ---- the lent list

-- a line has no more trades than places
pub enough_places :
    (rows : List Order) (places close : ℕ)
    → Lined rows
    → length rows ≤ places
    → false ≡ ltb places (length (matches close (keep (λ o. not (is_void close o)) rows)))
enough_places rows places close l h =
    sym
    (le-ltb places (length (matches close (keep (λ (o : Order). not (is_void close o)) rows)))
    (omega (arith, closing_few close rows l)))

pub counted_places : (places : ℕ) (ts : List Trade) {c : Dealt} → c ≡ dealt ts → ltb places c.made ≡ ltb places (length ts)
unfolding dealt
counted_places places ts e = ap (λ (x : Dealt). ltb places x.made) e

-- ---- the order in its place

module _ (d : Day) (a : AskedFixed) (rows : List Order) (place : ℕ) (w : Welcome d a rows place) where
  abbrev book : List Order
  book = rows

  pub fine : Fine d a
  fine = asked_fine d a w.asked

  pub inside : place < length rows
  inside = omega (arith, w.free)

  pub number_fits : d.fixed.issued + 1 < 2 ^ 64
  number_fits = omega (arith, w.numbers)

  pub priced : a.price ≡ 0 → ⊥
  priced z = omega (arith, z, fine.price.low)

  room : length (keep is_live book) < length book
  room = omega (arith, w.behind, w.free)

  module _ {o : Order} (eo : o ≡ incoming d a) {rows₁ : List Order} (er : rows₁ ≡ set rows place o) where
    pub put_long : length rows₁ ≡ length rows
    put_long = ap length er ∙ length-set rows place o

    -- the line with the order behind it
    line_then : rows₁ ≡ lined (length book) (arriving d a book)
    line_then =
        er
        ∙ ap (λ (x : Order). set book place x) eo
        ∙ ap (λ n. set book n (incoming d a)) w.behind
        ∙ arrives_at d a book w.ready fine w.numbers room

    pub lined_then : Lined rows₁
    lined_then = rw line_then (arriving_lined d a book w.ready fine w.numbers room)

    -- ---- before 15:05
    module _ (early : d.time < 54_300) where
      no_trades_lem : fixed_trades d a book ≡ []
      unfolding fixed_trades matching_from
      no_trades_lem = rw (lt-leb 54_300 d.time early)

      same_day : tally_fixed [] (issue_fixed d) ≡ issue_fixed d
      unfolding tally_fixed with_fixed_figures issue_fixed money filled total
      same_day =
          let s : d.fixed.shares + 0 ≡ d.fixed.shares = omega arith in
          let m : d.fixed.money + 0 ≡ d.fixed.money = omega arith in
          rw (s, m)

      same_line : rows₁ ≡ lined (length book) (settle [] (arriving d a book))
      same_line =
          line_then ∙ ap (lined (length book)) (sym (settle_none (arriving d a book) (arriving_fair d a book w.ready fine w.numbers room)))

      no_levels_lem : levels [] ≡ 0
      no_levels_lem = one_level 0 [] tt

      pub rests :
          {entry : Entry} {day : Day}
          → entry ≡ entry_of d a 0 0
          → day ≡ issue_fixed d
          → (lent : List Trade)
          → call_left (record { reply = OrderReply.TheVariants.Accepted entry; made = 0; day = day }) rows₁ lent ≡ welcomed d a book lent
      unfolding welcomed fixed_entered written entry_of
      rests {entry} {day} ee ed lent =
          let none : ltb (length lent) 0 ≡ false = le-ltb (length lent) 0 (omega arith) in
          rw (no_trades_lem, none, ee, ed, same_line, same_day, filled_nil, no_levels_lem)

    -- ---- from 15:05 on
    module _ (late : 54_300 ≤ d.time) {close : ℕ} (ec : close ≡ reference d) where
      at_close : close ≡ close_price d
      unfolding close_price
      at_close = ec

      -- the trades of the line
      abbrev ts : List Trade
      ts = matches close (keep (λ (o : Order). not (is_void close o)) rows₁)

      trades_match : ts ≡ matches (close_price d) (arriving d a book)
      trades_match =
          ap (λ c. matches c (keep (λ (o : Order). not (is_void c o)) rows₁)) at_close
          ∙ ap (λ (l : List Order). matches (close_price d) (keep (λ (o : Order). not (is_void (close_price d) o)) l)) line_then
          ∙ entry_matches d a book w.ready fine w.numbers room late

      trades_are : ts ≡ fixed_trades d a book
      unfolding fixed_trades matching_from
      trades_are = rw (le-leb 54_300 d.time late) trades_match

      pub fills : {c : Dealt} → c ≡ dealt ts → c.shares ≤ a.quantity
      unfolding dealt
      fills e =
          rw e (omega (arith, ap filled trades_match, entry_fills d a book w.ready fine w.numbers room late))

      pub figures_fit_lem :
          {c : Dealt} {day : Day}
          → c ≡ dealt ts
          → day ≡ issue_fixed d
          → (day.fixed.shares + c.shares < 2 ^ 64) × (day.fixed.money + close * c.shares < 2 ^ 64)
      unfolding issue_fixed with_fixed_figures
      figures_fit_lem {c} {day} e ed =
          let q : c.shares ≤ a.quantity = fills e in
          let f = w.ready.day in
          let p : close_price d ≤ 999_999 = w.ready.price in
          let so_far : d.fixed.money ≤ 999_999 * d.fixed.shares = rw f.money (mul-le-mul_right d.fixed.shares p) in
          let more : close * c.shares ≤ 999_999 * c.shares = rw at_close (mul-le-mul_right c.shares p) in
          rw ed (
            omega (arith, fine.most, f.shares, w.numbers),
            omega (arith, fine.most, f.shares, w.numbers),
          )

      -- 13: the order leaves again
      nobody : get_or book place free ≡ free
      nobody =
          (each_at Fair book free w.ready.lined.fair place w.free
          ).none (elim (ℕ_discrete (get_or book place free).number 0) [
            | yes z ↦ z
            | no n ↦ absurd (omega (arith, live_before book w.ready.lined place n, w.behind))
          ])

      pub leaves_again :
          {p : Order} {rows₂ : List Order} {r : OrderAnswer} {lacks : Bool} (lent : List Trade)
          → p ≡ free
          → rows₂ ≡ set rows₁ place p
          → r ≡ order_refused d 13
          → lacks ≡ ltb (length lent) (length ts)
          → lacks ≡ true
          → call_left r rows₂ lent ≡ welcomed d a book lent
      unfolding welcomed
      leaves_again {p} {rows₂} {r} {lacks} lent ep e₂ e el short =
          let back : rows₂ ≡ book =
          e₂
          ∙ ap (λ (l : List Order). set l place p) er
          ∙ set-set book place o p
          ∙ ap (set book place) (ep ∙ sym nobody)
          ∙ set-get_or book place free
          in
          let told : ltb (length lent) (length (fixed_trades d a book)) ≡ true =
          ap (λ (l : List Trade). ltb (length lent) (length l)) (sym trades_are)
          ∙ sym el
          ∙ short
          in
          rw (told, back, e)

      -- accepted
      module _ {c : Dealt} (e : c ≡ dealt ts) where
        made_are : c.made ≡ length (fixed_trades d a book)
        unfolding dealt
        made_are = ap (λ (x : Dealt). x.made) e ∙ ap length trades_are

        shares_are : c.shares ≡ filled (fixed_trades d a book)
        unfolding dealt
        shares_are = ap (λ (x : Dealt). x.shares) e ∙ ap filled trades_are

        one_price_lem : Each (λ t. t.price ≡ close) (fixed_trades d a book)
        one_price_lem = rw (sym trades_are) (matched_at close (keep (λ (o : Order). not (is_void close o)) rows₁))

        entry_then :
            entry_of d a c.made c.shares
            ≡ record {
              number = next_fixed d;
              filled = filled (fixed_trades d a book);
              levels = levels (fixed_trades d a book);
              remainder = ended (a.quantity - filled (fixed_trades d a book)) a.price;
            }
        unfolding entry_of
        entry_then = rw (made_are, shares_are, one_level close (fixed_trades d a book) one_price_lem)

        book_then :
            (rows₂ : List Order)
            → rows₂ ≡ lined (length rows₁) (settle ts (keep (λ o. not (is_void close o)) rows₁))
            → rows₂ ≡ lined (length book) (settle (fixed_trades d a book) (arriving d a book))
        book_then rows₂ g =
            g
            ∙ ap (λ n. lined n (settle ts (keep (λ (o : Order). not (is_void close o)) rows₁))) (put_long)
            ∙ ap (λ (l : List Trade). lined (length book) (settle l (keep (λ (o : Order). not (is_void close o)) rows₁))) trades_are
            ∙ ap (λ x. lined (length book) (settle (fixed_trades d a book) (keep (λ (o : Order). not (is_void x o)) rows₁))) at_close
            ∙ ap (λ (l : List Order). lined (length book) (settle (fixed_trades d a book) (keep (λ (o : Order). not (is_void (close_price d) o)) l))) line_then
            ∙ entry_settles d a book w.ready fine w.numbers room late (fixed_trades d a book) (length book)

        day_then_lem :
            {issued day : Day}
            → issued ≡ issue_fixed d
            → ((os : List Order) → filled (matches close os) ≡ c.shares → day ≡ tally_fixed (matches close os) issued)
            → day ≡ tally_fixed (fixed_trades d a book) (issue_fixed d)
        unfolding dealt
        day_then_lem {issued} {day} g h =
            h (keep (λ (o : Order). not (is_void close o)) rows₁) (sym (ap (λ (x : Dealt). x.shares) e))
            ∙ ap (λ (l : List Trade). tally_fixed l issued) trades_are
            ∙ ap (tally_fixed (fixed_trades d a book)) g

        pub matched_entry :
            (rows₂ : List Order) (lent : List Trade) {entry : Entry} {issued day : Day} {out : List Trade} {lacks : Bool}
            → lacks ≡ ltb (length lent) (length ts)
            → lacks ≡ false
            → out ≡ fitted ts lent
            → rows₂ ≡ lined (length rows₁) (settle ts (keep (λ o. not (is_void close o)) rows₁))
            → entry ≡ entry_of d a c.made c.shares
            → issued ≡ issue_fixed d
            → ((os : List Order) → filled (matches close os) ≡ c.shares → day ≡ tally_fixed (matches close os) issued)
            → call_left (record { reply = OrderReply.TheVariants.Accepted entry; made = c.made; day = day }) rows₂ out ≡ welcomed d a book lent
        unfolding welcomed fixed_entered
        matched_entry rows₂ lent {entry} {issued} {day} {out} {lacks} el long eo' eb ee ei ed =
            let fit : length ts ≤ length lent = ltb-false (length lent) (length ts) (sym el ∙ long) in
            let told : ltb (length lent) (length (fixed_trades d a book)) ≡ false =
            ap (λ (l : List Trade). ltb (length lent) (length l)) (sym trades_are)
            ∙ sym el
            ∙ long
            in
            let list : out ≡ written (fixed_trades d a book) lent =
            eo' ∙ fitted_written ts lent fit ∙ ap (λ (l : List Trade). written l lent) trades_are
            in
            rw (told, ee, entry_then, made_are, list, book_then rows₂ eb, day_then_lem ei ed)
