-- The fixed-price book stays sound: with an order that comes in, without one that is cancelled, when it is matched at 15:05, when it lapses at
-- 15:30, and through what happens to the main book alone. Assumes nothing.
use Prim.Native.Nat.{ℕ, suc, ◌+◌, ◌*◌, ◌≤◌, ◌<◌}
use mathlib.Core.Path.{◌≡◌, refl, sym, ap, ◌∙◌}
use mathlib.Core.Logic.{inl, inr, ⊎_elim}
use mathlib.Core.Bool.{Bool, false, not, and-false}
use mathlib.Core.List.{List, [], ◌∷◌, ◌++◌}
use native.Mathlib.Nat.{mul-add, mul-zero}
use native.Mathlib.Decide.{dec_le}
use native.Mathlib.Omega.{arith}
use lib.ListN.{length, length-append}
use borrow.Author.Tests.{le-leb, lt-leb}
use Rattle.model.specs.declared.Order.{Order}
use Rattle.model.specs.declared.AskedFixed.{AskedFixed}
use Rattle.model.specs.declared.Trade.{Trade}
use Rattle.model.specs.declared.Day.{Day}
use Rattle.model.specs.declared.OrderAnswer.{OrderAnswer}
use Rattle.model.specs.Lists.{keep, total}
use Rattle.model.specs.Clock.{matching_from}
use Rattle.model.specs.Book.{free, is_live, stands_on}
use Rattle.model.specs.Matching.{filled, settle}
use Rattle.model.specs.Figures.{money, reference, close_price, next_fixed, with_fixed_figures, with_block_figures, issue_fixed, tally_fixed}
use Rattle.model.specs.FixedBook.{is_void, matches, lined}
use Rattle.model.specs.Refusals.{unsound, unsound_fixed}
use Rattle.model.specs.Calls.{Outcome, is_own}
use Rattle.model.specs.FixedCalls.{arriving, fixed_trades, fixed_entered, fixed_call, fixed_cancel_call}
use Rattle.model.specs.Words.{Each}
use Rattle.book.specs.Standing.{Standing}
use Rattle.book.proofs.Lists.{each, each_keep, each_append, length_keep, keep_none, none_kept, total_keep}
use Rattle.book.proofs.Kept.{free_number}
use Rattle.book.proofs.Settlements.{filled_nil, settle_none}
use Rattle.book.proofs.Sorting.{Rising}
use Rattle.book.proofs.Counting.{orders, has_room, fewer_orders}
use Rattle.soundness.specs.SoundDay.{Rests, Place, EveningDay}
use Rattle.soundness.specs.Ready.{Ready}
use Rattle.soundness.proofs.Readiness.{ready_if}
use Rattle.soundness.proofs.SoundDays.{standing}
use Rattle.arrivals.proofs.Lines.{taken, taken_all, rising_with}
use Rattle.arrivals.proofs.Places.{kept_rises}
use Rattle.fixed_demands.specs.FixedDay.{of_fixed, FixedDay}
use Rattle.fixed_demands.proofs.FixedClauses.{fixed_day_lem, fixed_places, fixed_sound}
use Rattle.fixed_demands.proofs.Allowed.{Allowed, allowed, cancellable}
use Rattle.fixed_demands.proofs.FixedCases.{fixed_cases, cancel_cases}
use Rattle.fixed_demands.proofs.Lining.{nr, live_taken, rising_apart, settled_rises, taken_total, lined_places}
use Rattle.fixed_demands.proofs.FixedPlaces.{Later, places_later, places_settled, untaken_none, settled_right, book_line, lined_day}
use Rattle.fixed_demands.proofs.OtherFigures.{figures_sound}
use Rattle.fixed_demands.proofs.Matched.{matches_money, settled_total, one_side_left}

total_with : (f : Order → ℕ) (os : List Order) (o : Order) → total f (os ++ (o ∷ [])) ≡ total f os + f o
unfolding total
total_with f [] o = omega arith
total_with f (p ∷ os) o = omega (arith, total_with f os o)

-- ---- an order that comes in

module _ (d : Day) (a : AskedFixed) (main book : List Order) (room : ℕ) (k : Allowed d a main book room) where
  abbrev ready : Ready d main
  ready = ready_if d main k.sound

  abbrev evening : EveningDay d
  evening = ready.evening

  abbrev day : FixedDay d book
  day = fixed_day_lem d book k.fixed_sound

  abbrev new : Order
  new = record { side = a.side; account = a.account; left = a.quantity; price = a.price; number = next_fixed d }

  abbrev os : List Order
  os = arriving d a book

  abbrev ts : List Trade
  ts = fixed_trades d a book

  abbrev pub next : Day
  next = tally_fixed ts (issue_fixed d)

  next_later : Later d next
  unfolding tally_fixed issue_fixed with_fixed_figures next_fixed
  next_later = record { close = refl; limited = refl; issued = omega arith }

  new_rests : Rests (of_fixed next) new
  unfolding tally_fixed issue_fixed with_fixed_figures next_fixed
  new_rests =
      record {
        side = k.side;
        account = k.account;
        some = k.some;
        left = k.most;
        price = k.price;
        band = λ n. k.band (omega (arith, ready.sound.limited, n));
        numbered = omega arith;
        issued = omega arith;
      }

  pub arriving_places : Each (Place (of_fixed next)) os
  unfolding arriving
  arriving_places =
      each_append (Place (of_fixed next)) (keep is_live book) (new ∷ [])
      (each_keep (Place (of_fixed next)) is_live book (places_later d next next_later book day.places))
      (inr new_rests, tt)

  below_next : Each (λ o. nr o < nr new) (taken nr book)
  unfolding next_fixed
  below_next =
      each (Place (of_fixed d)) (λ o. nr o < nr new) (taken nr book)
      (λ o p. ⊎_elim (λ e. omega (arith, ap nr e, free_number)) (λ (r : Rests (of_fixed d) o). omega (arith, r.issued)) p)
      (each_keep (Place (of_fixed d)) _ book day.places)

  arriving_line : Rising nr 0 os
  unfolding arriving next_fixed
  arriving_line = rw (live_taken book) (rising_with nr 0 (taken nr book) new (book_line d book day).rises (omega arith) below_next)

  pub arriving_rises : Rising nr 0 (taken nr os)
  arriving_rises = rw (taken_all nr os arriving_line) arriving_line

  few : suc d.fixed.issued ≤ 999_999
  few = omega (arith, evening.fixed_issued, k.number)

  pub arriving_stands : Standing os
  unfolding tally_fixed issue_fixed with_fixed_figures next_fixed
  arriving_stands = standing (of_fixed next) os few arriving_places (rising_apart 0 os arriving_rises)

  pub arriving_fit : orders os ≤ length book
  unfolding arriving
  arriving_fit =
      omega (
        arith,
        has_room book k.place,
        ap length (live_taken os),
        ap length (taken_all nr os arriving_line),
        length-append (keep is_live book) (new ∷ []),
      )

  pub arriving_total : total (λ (o : Order). o.left) os ≡ total (λ (o : Order). o.left) book + a.quantity
  unfolding arriving
  arriving_total =
      total_with (λ (o : Order). o.left) (keep is_live book) new
      ∙ ap (λ n. n + a.quantity)
      (ap (total (λ (o : Order). o.left)) (live_taken book) ∙ taken_total (λ (o : Order). o.left) book (untaken_none d book day.places))

  -- ---- its trades

  pub late : 54_300 ≤ d.time → ts ≡ matches (close_price d) os
  unfolding fixed_trades matching_from
  late l = rw (le-leb 54_300 d.time l)

  pub early : d.time < 54_300 → ts ≡ []
  unfolding fixed_trades matching_from
  early l = rw (lt-leb 54_300 d.time l)

  -- either way the orders have less by what was bought and what was sold, and all money is at the close
  less_by_fills : total (λ (o : Order). o.left) (settle ts os) + 2 * filled ts ≡ total (λ (o : Order). o.left) os
  less_by_fills = elim (dec_le 54_300 d.time) [
    | yes l ↦ rw (late l) (settled_total os arriving_stands (close_price d))
    | no l ↦ rw (early (omega arith), settle_none os arriving_stands.fair) (omega (arith, filled_nil))
  ]

  paid : money ts ≡ close_price d * filled ts
  paid = elim (dec_le 54_300 d.time) [
    | yes l ↦ rw (late l) (matches_money os arriving_stands (close_price d))
    | no l ↦ rw (early (omega arith)) none_paid
  ]
    where
      none_paid : money [] ≡ close_price d * filled []
      none_paid = unfold money total filled in sym (mul-zero (close_price d))

  -- ---- the day then

  pub entered_figures : EveningDay next
  unfolding tally_fixed issue_fixed with_fixed_figures next_fixed close_price reference
  entered_figures =
      record {
        fixed_issued = few;
        fixed_shares = omega (arith, less_by_fills, arriving_total, day.sums, k.most);
        fixed_money =
            ap (λ n. n + money ts) evening.fixed_money
            ∙ ap (λ n. close_price d * d.fixed.shares + n) paid
            ∙ sym (mul-add (close_price d) d.fixed.shares (filled ts));
        none_yet = λ l. omega (arith, evening.none_yet l, ap filled (early l), filled_nil);
        blocks_issued = evening.blocks_issued;
        blocks_shares = evening.blocks_shares;
      }

  -- the new one has a limit on the right side of the close
  pub arriving_right : 54_300 ≤ d.time → Each (λ o. is_void (close_price d) o ≡ false) os
  unfolding arriving is_void
  arriving_right l =
      each_append (λ o. is_void (close_price d) o ≡ false) (keep is_live book) (new ∷ [])
      (each_keep (λ o. is_void (close_price d) o ≡ false) is_live book (day.none_void l))
      (rw (k.right l) (and-false (is_live new)), tt)

  pub entered_day : FixedDay next (lined (length book) (settle ts os))
  unfolding tally_fixed issue_fixed with_fixed_figures next_fixed close_price reference
  entered_day =
      lined_day next (length book) (settle ts os)
      (places_settled next ts os arriving_places)
      (settled_rises ts 0 os arriving_rises)
      (omega (arith, fewer_orders ts os, arriving_fit))
      k.hours.from
      k.hours.until
      (λ l. rw (late l) (one_side_left os arriving_stands (close_price d)))
      (λ l. settled_right (close_price d) ts os (arriving_right l))
      (omega (arith, less_by_fills, arriving_total, day.sums, k.most))

  pub entered_kept : (unsound next main ≡ false) × (unsound_fixed next (lined (length book) (settle ts os)) ≡ false)
  unfolding tally_fixed issue_fixed with_fixed_figures with_block_figures next_fixed
  entered_kept = (
    figures_sound next.fixed d.blocks d main k.hours.until entered_figures k.sound,
    fixed_sound next (lined (length book) (settle ts os)) (lined_places book (settle ts os) (fixed_places d book k.fixed_sound)) entered_day,
  )

-- the day and the book of an order, refused or not
pub fixed_order_kept :
    (d : Day) (a : AskedFixed) (main book : List Order) (lent : List Trade)
    → unsound d main ≡ false
    → unsound_fixed d book ≡ false
    → let o : Outcome OrderAnswer = fixed_call d a main book lent in (unsound o.answer.day main ≡ false) × (unsound_fixed o.answer.day o.book ≡ false)
fixed_order_kept d a main book lent s f =
    fixed_cases d a main book lent (λ o. (unsound o.answer.day main ≡ false) × (unsound_fixed o.answer.day o.book ≡ false))
    (λ z. unfold fixed_entered in entered_kept d a main book (length lent) (allowed d a main book (length lent) z))
    (λ _. (s, f))

-- ---- some of them left out

nobody_kept : (side : ℕ) (p : Order → Bool) (os : List Order) → keep (stands_on side) os ≡ [] → keep (stands_on side) (keep p os) ≡ []
nobody_kept side p os e =
    keep_none (stands_on side) (keep p os) (each_keep (λ o. stands_on side o ≡ false) p os (none_kept (stands_on side) os e))

thinned_day :
    (d : Day) (book : List Order) (p : Order → Bool)
    → FixedDay d book
    → 33_300 ≤ d.time
    → d.time < 55_800
    → FixedDay d (lined (length book) (keep p book))
thinned_day d book p f from until =
    lined_day d (length book) (keep p book)
    (each_keep (Place (of_fixed d)) p book f.places)
    (kept_rises nr free free_number p book (book_line d book f))
    (omega (arith, length_keep is_live (keep p book), length_keep p book))
    from
    until
    (λ l. ⊎_elim (λ e. inl (nobody_kept 0 p book e)) (λ e. inr (nobody_kept 1 p book e)) (f.one_sided l))
    (λ l. each_keep (λ o. is_void (close_price d) o ≡ false) p book (f.none_void l))
    (omega (arith, f.sums, total_keep (λ (o : Order). o.left) p book))

-- the book of a cancel, refused or not
pub fixed_cancel_kept :
    (d : Day) (account number : ℕ) (main book : List Order)
    → unsound_fixed d book ≡ false
    → unsound_fixed d (fixed_cancel_call d account number main book).book ≡ false
fixed_cancel_kept d account number main book s =
    cancel_cases d account number main book (λ o. unsound_fixed d o.book ≡ false)
    (λ z.
    let k = cancellable d account number main book z in
    let others : Order → Bool = λ o. not (is_own account number o) in
    fixed_sound d (lined (length book) (keep others book)) (lined_places book (keep others book) (fixed_places d book s))
    (thinned_day d book others (fixed_day_lem d book s) k.hours.from k.hours.until))
    (λ _. s)
