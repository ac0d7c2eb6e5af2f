-- What no rule refuses of an order, and then the day and the book after it, sound but for the screen. Assumes nothing.
use Prim.Native.Nat.{ℕ, suc, ◌+◌, ◌-◌, ◌*◌, ◌≤◌, ◌<◌}
use mathlib.Core.Path.{◌≡◌, refl, ap, ◌∙◌}
use mathlib.Core.Logic.{inr, ⊎_elim}
use mathlib.Core.Bool.{Bool, true, false, cond, not, ◌&&◌, ◌||◌}
use mathlib.Core.List.{List, ◌∷◌}
use native.Mathlib.Omega.{arith}
use native.Mathlib.Nat.{lt_of_not-le}
use lib.ListN.{length}
use lib.Dec.{leb, eqb}
use borrow.Author.Tests.{leb-true, eqb-false, eq-eqb, not-false}
use Rattle.model.specs.declared.Order.{Order}
use Rattle.model.specs.declared.Asked.{Asked}
use Rattle.model.specs.declared.Trade.{Trade}
use Rattle.model.specs.declared.Day.{Day}
use Rattle.model.specs.Lists.{all, total}
use Rattle.model.specs.Clock.{takes_orders, continuous}
use Rattle.model.specs.Limits.{is_price, in_band}
use Rattle.model.specs.Book.{is_live, queue, arranged}
use Rattle.model.specs.Matching.{filled, settle}
use Rattle.model.specs.Figures.{next_number, issue, tally}
use Rattle.model.specs.Halts.{reach, halt_end, halting, fires, fired}
use Rattle.model.specs.Entry.{entry_trades, rest_price}
use Rattle.model.specs.Refusals.{◌when◌, first_of}
use Rattle.model.specs.Calls.{order_rules, joined}
use Rattle.model.proofs.Bools.{and_left, and_right, and_true, not_both}
use Rattle.model.proofs.HaltEnds.{continuous_hours, ends}
use Rattle.model.specs.Words.{Each, Price, Sized, Sound}
use Rattle.book.specs.Standing.{Standing}
use Rattle.book.proofs.Lists.{each}
use Rattle.book.proofs.Kept.{New, free_number}
use Rattle.halts.proofs.Kept.{fired_cases}
use Rattle.soundness.specs.SoundDay.{InBand, Rests, Place, Empty, SoundDay, EveningDay}
use Rattle.soundness.proofs.Clauses.{says_price, says_band}
use Rattle.soundness.proofs.Sizes.{says_quantity, sized_most}
use Rattle.soundness.proofs.SoundDays.{sound_day, sound_halt, sound_evening, next_new}
use Rattle.matching.proofs.EntryLaws.{entry_filled, remainder, orders_then}
use Rattle.matching.proofs.EntryKept.{entered_standing, entered_fits, entered_shares}
use Rattle.matching.proofs.AfterEntry.{entered_uncrossed}
use Rattle.demands.specs.Refusing.{NoneOf}
use Rattle.demands.proofs.FirstRules.{gives_none}
use Rattle.demands.proofs.Refusals.{order_numbers_lem}
use Rattle.demands.proofs.Pricings.{sound_stands}
use Rattle.demands.proofs.Wholes.{Traded, Whole, timely_of}
use Rattle.demands.proofs.Hours.{none_early, none_late, then_continuous, phase_unhalted, now_continuous}
use Rattle.demands.proofs.SameFigures.{same_whole, same_halting}
use Rattle.demands.proofs.Evenings.{evening_early}
use Rattle.demands.proofs.HaltDays.{halt_waits, halt_begins}
use Rattle.demands.proofs.Firing.{fires_unlimited, fires_some, traded_now, mark_set}
use Rattle.demands.proofs.Tallied.{traded_tally}
use Rattle.demands.proofs.Settled.{Later, settle_places}
use Rattle.demands.proofs.BeforeScreens.{BeforeScreen}
use Rattle.demands.proofs.Arranged.{arranged_before}
use Rattle.demands.proofs.EntryPrices.{trades_have, rest_has, entry_proper}

-- ---- an order that no rule refuses

pub record Allowed (d : Day) (a : Asked) (book : List Order) : Type 0 where
  pub side : a.side ≤ 1
  pub kind : a.kind ≤ 4
  pub account : a.account ≡ 0 → ⊥
  pub hours : takes_orders d.time ≡ true
  pub sized : Sized a.side a.quantity a.balance
  pub most : a.quantity ≤ 1_000_000
  pub price : Price a.price
  pub band : d.limited ≡ 1 → InBand d.close a.price
  pub place : all is_live book ≡ false
  pub number : d.issued ≡ 999_999 → ⊥

module _ (d : Day) (a : Asked) (book : List Order) (lent : List Trade) where
  in_form : not (leb a.side 1 && leb a.kind 4) ≡ false → (a.side ≤ 1) × (a.kind ≤ 4)
  in_form e =
      let h = not-false (leb a.side 1 && leb a.kind 4) e in (
        leb-true a.side 1 (and_left (leb a.side 1) (leb a.kind 4) h),
        leb-true a.kind 4 (and_right (leb a.side 1) (leb a.kind 4) h),
      )

  in_band_lem : (eqb d.limited 1 && not (in_band d.close a.price)) ≡ false → d.limited ≡ 1 → InBand d.close a.price
  in_band_lem e l = (says_band d.close a.price).0 (not-false (in_band d.close a.price) (and_true (eq-eqb d.limited 1 l) e))

  pub allowed : first_of (order_rules d a book (length lent)) ≡ 0 → Allowed d a book
  unfolding order_rules ◌when◌
  allowed z =
      let n : NoneOf (order_rules d a book (length lent)) =
      gives_none (order_rules d a book (length lent)) (order_numbers_lem d a book lent) z in
      let form = in_form n.1.0 in
      let size = (says_quantity a.side a.quantity a.balance).0 (not-false _ n.1.1.1.1.1.0) in
      record {
        side = form.0;
        kind = form.1;
        account = eqb-false a.account 0 n.1.1.0;
        hours = not-false (takes_orders d.time) n.1.1.1.0;
        sized = size;
        most = sized_most a.side a.quantity a.balance size;
        price = (says_price a.price).0 (not-false (is_price a.price) n.1.1.1.1.1.1.0);
        band = in_band_lem n.1.1.1.1.1.1.1.0;
        place = n.1.1.1.1.1.1.1.1.1.0;
        number = eqb-false d.issued 999_999 n.1.1.1.1.1.1.1.1.1.1.0;
      }

-- ---- the day and the book after it

module _ (d : Day) (a : Asked) (book : List Order) (s : Sound d book) (k : Allowed d a book) where
  abbrev ts : List Trade
  ts = entry_trades d a book

  -- with its number and its trades, before what they fire
  abbrev next : Day
  next = tally ts (issue d)

  abbrev left : ℕ
  left = a.quantity - filled ts

  abbrev at : ℕ
  at = rest_price a ts book

  -- the orders then, which are arranged in the book
  abbrev orders : List Order
  orders = orders_then d a book (next_number d)

  day : SoundDay d book
  day = sound_day d book s.1

  stands : Standing book
  stands = sound_stands d book s

  new : New (next_number d) book
  new = next_new d book day

  issued_fits : suc d.issued ≤ 999_999
  issued_fits = omega (arith, k.number, day.issued)

  later : Later d next
  unfolding tally issue next_number
  later = record { close = refl; limited = refl; issued = omega arith }

  -- what holds of every resting order's price
  resting :
      (P : ℕ → Type 0)
      → ((o : Order) → Rests d o → P o.price)
      → Each (λ (o : Order). (o.number ≡ 0 → ⊥) → P o.price) book
  resting P h =
      each (Place d) (λ (o : Order). (o.number ≡ 0 → ⊥) → P o.price) book
      (λ o p n. ⊎_elim (λ e. absurd (n (ap (λ (x : Order). x.number) e ∙ free_number))) (h o) p)
      day.places

  rest_place : (left ≡ 0 → ⊥) → (at ≡ 0 → ⊥) → Place next (remainder d a book (next_number d))
  unfolding tally issue next_number
  rest_place q p =
      inr
      (record {
        side = k.side;
        account = k.account;
        some = omega arith;
        left = omega (arith, k.most);
        price = rest_has Price d a book k.price (resting Price (λ o r. r.price)) p;
        band = λ m.
            rest_has (InBand d.close) d a book (k.band (omega (arith, day.limited))) (resting (InBand d.close) (λ o r. r.band m)) p;
        numbered = omega arith;
        issued = omega arith;
      })

  entered_places : Each (Place next) orders
  unfolding joined
  entered_places = go (eqb left 0) refl (eqb at 0) refl
    where
      settled : Each (Place next) (settle ts book)
      settled = settle_places d next later ts book day.places

      go :
          (b : Bool)
          → eqb left 0 ≡ b
          → (c : Bool)
          → eqb at 0 ≡ c
          → Each (Place next) (cond (b || c) (settle ts book) (remainder d a book (next_number d) ∷ settle ts book))
      go true x c y = settled
      go false x true y = settled
      go false x false y = (rest_place (eqb-false left 0 x) (eqb-false at 0 y), settled)

  pub orders_stand : Standing orders
  unfolding next_number
  orders_stand = entered_standing d a book stands k.price.high (next_number d) k.side k.most issued_fits new

  -- no number is higher than the new one
  pub orders_highest : Each (λ (o : Order). o.number ≤ next_number d) orders
  unfolding tally issue next_number
  orders_highest =
      each (Place next) (λ (o : Order). o.number ≤ suc d.issued) orders
      (λ o p. ⊎_elim (λ e. omega (arith, ap (λ (x : Order). x.number) e, free_number)) (λ r. r.issued) p)
      entered_places

  -- each has a place
  pub orders_fit : length (queue 0 orders) + length (queue 1 orders) ≤ length book
  unfolding next_number
  orders_fit = entered_fits d a book stands k.price.high (next_number d) k.side k.most issued_fits new k.place

  shares_fit_lem : 2 * next.shares + total (λ (o : Order). o.left) orders ≤ 1_000_000 * next.issued
  unfolding tally issue next_number
  shares_fit_lem = go (eqb at 0) (entered_shares d a book stands k.price.high new)
    where
      go :
          (b : Bool)
          → total (λ (o : Order). o.left) orders + filled ts ≡ total (λ (o : Order). o.left) book + cond b 0 left
          → 2 * (d.shares + filled ts) + total (λ (o : Order). o.left) orders ≤ 1_000_000 * suc d.issued
      go true e = omega (arith, entry_filled d a book, k.most, day.shares)
      go false e = omega (arith, entry_filled d a book, k.most, day.shares)

  pub entered_prices : Each (λ (t : Trade). Price t.price) ts
  entered_prices = trades_have Price d a book k.price (resting Price (λ o r. r.price))

  entered_figures : Traded next
  unfolding issue
  entered_figures =
      traded_tally (issue d) ts
      (record { untraded = day.untraded; traded = day.traded; least = day.least; most = day.most })
      (entry_proper d a book stands.fair entered_prices)

  entered_whole : Whole next orders
  unfolding tally issue next_number
  entered_whole =
      record {
        close = day.close;
        limited = day.limited;
        issued = issued_fits;
        places = entered_places;
        apart = orders_stand.apart;
        shares = shares_fit_lem;
        figures = entered_figures;
      }

  -- ---- what they fire

  early : d.time < 33_300 → Empty orders
  early l = absurd (not_both k.hours (none_early d.time l))

  late : 54_000 ≤ d.time → Empty orders
  late l = absurd (not_both k.hours (none_late d.time l))

  -- no order is taken after the close
  evening : (e : Day) → e.fixed ≡ d.fixed → e.blocks ≡ d.blocks → EveningDay e
  evening e f b =
      evening_early d e f b (sound_evening d book s.1) (lt_of_not-le (λ l. not_both k.hours (none_late d.time (omega arith))))

  abbrev Then : Day → Type 0
  Then e = BeforeScreen e (arranged (length book) orders)

  not_fired : Then next
  unfolding tally issue
  not_fired =
      arranged_before next book orders s.0 entered_whole
      (record {
        time = day.time;
        early = early;
        late = late;
        uncrossed = λ x y z.
            entered_uncrossed d a book stands (phase_unhalted d z ∙ then_continuous d.time k.hours x y) (next_number d) k.side k.kind
            ((timely_of d book day).uncrossed x y z);
      })
      (halt_waits d next (sound_halt d book s.1)
      (record { thirty = refl; sixty = refl; limited = refl; shares = omega arith }) refl (omega arith) (sound_halt d book s.1).ahead)
      (evening next refl refl)
      orders_fit

  begun : fires ts next ≡ true → Then (halting (halt_end d.time) 1 (cond (reach 60 ts next) 1 next.used60) next)
  unfolding halting tally issue continuous
  begun f =
      let now = continuous_hours d.time (now_continuous d (traded_now d a book (fires_some ts next f))).0 in
      let e = halting (halt_end d.time) 1 (cond (reach 60 ts next) 1 next.used60) next in
      arranged_before e book orders s.0
      (same_whole next e (same_halting (halt_end d.time) 1 (cond (reach 60 ts next) 1 next.used60) next) orders entered_whole)
      (record {
        time = day.time;
        early = early;
        late = late;
        uncrossed = λ x y z. absurd (omega (arith, z, (ends d.time now).ahead));
      })
      (halt_begins e now refl refl
      (mark_set (reach 60 ts next) next.used60 (sound_halt d book s.1).sixty)
      (fires_unlimited ts next f)
      (λ z. fires_some ts next f ((entry_proper d a book stands.fair entered_prices).some (omega (arith, z)))))
      (evening e refl refl)
      orders_fit

  pub entered_before : Then (fired d.time ts next)
  entered_before = fired_cases Then d.time ts next (λ _. not_fired) begun
