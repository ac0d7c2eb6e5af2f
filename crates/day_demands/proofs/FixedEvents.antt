-- The fixed-price book over each event: an order, a cancel, and a move over all lists, which matches it at 15:05 and lets it lapse at
-- 15:30. Whoever rests is one of the accepted, and the shares add up. Assumes nothing.
use Prim.Native.Nat.{ℕ, ◌+◌, ◌*◌, ◌≤◌}
use mathlib.Core.Path.{◌≡◌, refl, ap}
use mathlib.Core.Logic.{inl}
use mathlib.Core.Bool.{Bool, false, not}
use mathlib.Core.List.{List, [], ◌∷◌, ◌++◌}
use native.Mathlib.Omega.{arith}
use lib.ListN.{length, take, drop}
use lib.Seq.{take_at}
use Rattle.model.specs.declared.Order.{Order}
use Rattle.model.specs.declared.AskedFixed.{AskedFixed}
use Rattle.model.specs.declared.Trade.{Trade}
use Rattle.model.specs.declared.Day.{Day}
use Rattle.model.specs.declared.Fixed.{Fixed}
use Rattle.model.specs.declared.OrderAnswer.{OrderAnswer}
use Rattle.model.specs.Lists.{keep, total, from}
use Rattle.model.specs.Clock.{matching_from, day_end}
use Rattle.model.specs.Book.{free, is_live}
use Rattle.model.specs.Books.{Books}
use Rattle.model.specs.Matching.{filled, settle}
use Rattle.model.specs.Figures.{money, close_price, next_fixed, issue_fixed, tally_fixed, with_fixed_figures}
use Rattle.model.specs.FixedBook.{is_void, lined}
use Rattle.model.specs.Refusals.{unsound_fixed}
use Rattle.model.specs.Calls.{Outcome, written, cleared, is_own}
use Rattle.model.specs.ClockCall.{moved}
use Rattle.model.specs.FixedCalls.{FixedCancelOutcome, arriving, fixed_trades, fixed_entered, fixed_call, fixed_cancel_call}
use Rattle.model.specs.AfterClose.{After}
use Rattle.model.specs.AllCalls.{moved_on}
use Rattle.model.specs.Words.{Sound}
use Rattle.book.proofs.Lists.{each_keep, each_append}
use Rattle.book.proofs.Kept.{free_number}
use Rattle.arrivals.proofs.Places.{places_each}
use Rattle.demands.specs.Running.{Owner, Is}
use Rattle.demands.proofs.Elements.{some_right}
use Rattle.demands.proofs.Fresh.{cleared_empty, empty_total}
use Rattle.demands.proofs.Issued.{counts_none}
use Rattle.demands.proofs.Owned.{Known, Owned, free_known, more, settle_owned, cleared_owned}
use Rattle.fixed_demands.specs.Moving.{Passes, Misses, valid, matched_trades, matched_book, Evening}
use Rattle.fixed_demands.proofs.Evenings.{evening}
use Rattle.fixed_demands.proofs.FixedCases.{fixed_cases, cancel_cases}
use Rattle.day_demands.specs.Running.{Fate, fixed_owners, entered_by, cancelled_by}
use Rattle.day_demands.proofs.BlockEvents.{by_second}
use Rattle.day_demands.proofs.Conserving.{cancelled_adds, matched_adds, entered_adds}
use Rattle.day_demands.proofs.OtherThrough.{resting, FixedThrough, fixed_still}

-- ---- who rests

module _ (ws : List Owner) where
  lined_owned : (n : ℕ) (os : List Order) → Owned ws os → Owned ws (lined n os)
  unfolding lined
  lined_owned n os = places_each (λ (o : Order). o.number) free free_number (Known ws) n os (free_known ws)

  pub kept_owned : (p : Order → Bool) (book : List Order) → Owned ws book → Owned ws (lined (length book) (keep p book))
  kept_owned p book w = lined_owned (length book) (keep p book) (each_keep (Known ws) p book w)

  matched_owned : (close : ℕ) (book : List Order) → Owned ws book → Owned ws (matched_book close book)
  matched_owned close book w =
      lined_owned (length book) (settle (matched_trades close book) (valid close book))
      (settle_owned ws (matched_trades close book) (valid close book) (each_keep (Known ws) (λ o. not (is_void close o)) book w))

-- an order with its owner behind the others
module _ (ws : List Owner) (d : Day) (a : AskedFixed) (book : List Order) (w : Owned ws book) where
  abbrev newest : Owner
  newest = record { number = next_fixed d; account = a.account; side = a.side }

  abbrev known : List Owner
  known = ws ++ (newest ∷ [])

  arriving_owned : Owned known (arriving d a book)
  unfolding arriving
  arriving_owned =
      each_append (Known known) (keep is_live book) _ (each_keep (Known known) is_live book (more ws (newest ∷ []) book w))
      (λ n. some_right (Is _) ws (newest ∷ []) (inl (record { number = refl; account = refl; side = refl })), tt)

  entered_owned : (ts : List Trade) → Owned known (lined (length book) (settle ts (arriving d a book)))
  entered_owned ts = lined_owned known (length book) (settle ts (arriving d a book)) (settle_owned known ts (arriving d a book) arriving_owned)

-- ---- an order

pub fixed_enters :
    (d : Day) (a : AskedFixed) (main book : List Order) (lent : List Trade)
    → let o : Outcome OrderAnswer = fixed_call d a main book lent in
    FixedThrough d.fixed o.answer.day.fixed book o.book (take o.answer.made o.trades) (fixed_owners a o.answer.reply)
    (entered_by a o.answer.reply)
unfolding fixed_entered issue_fixed tally_fixed with_fixed_figures written fixed_owners entered_by next_fixed from
fixed_enters d a main book lent =
    fixed_cases d a main book lent
    (λ o.
    FixedThrough d.fixed o.answer.day.fixed book o.book (take o.answer.made o.trades) (fixed_owners a o.answer.reply)
    (entered_by a o.answer.reply))
    (λ z.
    let ts = fixed_trades d a book in
    rw (take_at ts (drop (length ts) lent) (length ts) refl)
    (record {
      counts = record { order = refl; count = omega arith };
      owned = λ ws w. entered_owned ws d a book w ts;
      shares = refl;
      money = refl;
      adds_up = omega (arith, entered_adds d a main book (length lent) z);
    }))
    (λ _. fixed_still d.fixed book)

-- ---- a cancel

pub fixed_cancels :
    (d : Day) (account number : ℕ) (main book : List Order)
    → Sound d main
    → unsound_fixed d book ≡ false
    → let o : FixedCancelOutcome = fixed_cancel_call d account number main book in
    FixedThrough d.fixed d.fixed book o.book [] [] (cancelled_by o.reply)
unfolding cancelled_by filled total
fixed_cancels d account number main book s u =
    cancel_cases d account number main book (λ o. FixedThrough d.fixed d.fixed book o.book [] [] (cancelled_by o.reply))
    (λ _.
    let still = fixed_still d.fixed book in
    record {
      counts = still.counts;
      owned = λ ws w. kept_owned (ws ++ []) (λ o. not (is_own account number o)) book (more ws [] book w);
      shares = still.shares;
      money = still.money;
      adds_up = omega (arith, cancelled_adds d main book s u (is_own account number));
    })
    (λ _. fixed_still d.fixed book)

-- ---- a move

none_rests : (book : List Order) → resting (cleared book) ≡ 0
none_rests book = empty_total (cleared book) (cleared_empty book)

module _ (d : Day) (t : ℕ) (s : Books) (l : d.time ≤ t) (k : Sound d s.main) (u : unsound_fixed d s.fixed ≡ false) where
  abbrev h : After
  h = moved_on d t s

  abbrev close : ℕ
  close = close_price (moved d t s.main).day

  abbrev fate : Fate
  fate = record { entered = 0; cancelled = 0; void = h.void; lapsed = h.lapsed }

  abbrev Result : Type 0
  Result = FixedThrough d.fixed h.day.fixed s.fixed h.books.fixed h.fixed [] fate

  -- 15:05, or no trade
  record Halfway (before : List Order) : Type 0 where
    issued : h.day.fixed.issued ≡ d.fixed.issued
    shares : h.day.fixed.shares ≡ d.fixed.shares + filled h.fixed
    money : h.day.fixed.money ≡ d.fixed.money + money h.fixed
    adds : 2 * filled h.fixed + resting before + h.void ≡ resting s.fixed
    owned : (ws : List Owner) → Owned ws s.fixed → Owned ws before

  matched : Passes matching_from d.time t → Halfway (matched_book close s.fixed)
  matched p =
      let m = (evening d t s l).matched p in
      record {
        issued = ap (λ (f : Fixed). f.issued) m.figures;
        shares = rw m.trades (ap (λ (f : Fixed). f.shares) m.figures);
        money = rw m.trades (ap (λ (f : Fixed). f.money) m.figures);
        adds = rw (m.trades, m.void) (matched_adds d s.main s.fixed k u close);
        owned = λ ws w. matched_owned ws close s.fixed w;
      }

  unmatched : Misses matching_from d.time t → Halfway s.fixed
  unfolding filled money total
  unmatched n =
      let m = (evening d t s l).unmatched n in
      record {
        issued = ap (λ (f : Fixed). f.issued) m.figures;
        shares = rw m.trades (omega (arith, ap (λ (f : Fixed). f.shares) m.figures));
        money = rw m.trades (omega (arith, ap (λ (f : Fixed). f.money) m.figures));
        adds = rw (m.trades, m.void) (omega arith);
        owned = λ ws w. w;
      }

  -- 15:30, or nothing lapses
  lapsed : (before : List Order) → Halfway before → h.books.fixed ≡ cleared s.fixed → h.lapsed ≡ resting before → Result
  lapsed before k e n =
      record {
        counts = counts_none d.fixed.issued h.day.fixed.issued k.issued;
        owned = λ ws w. more ws [] h.books.fixed (rw e (cleared_owned ws s.fixed));
        shares = k.shares;
        money = k.money;
        adds_up = omega (arith, k.adds, n, ap resting e, none_rests s.fixed);
      }

  unlapsed : (before : List Order) → Halfway before → h.books.fixed ≡ before → h.lapsed ≡ 0 → Result
  unlapsed before k e n =
      record {
        counts = counts_none d.fixed.issued h.day.fixed.issued k.issued;
        owned = λ ws w. more ws [] h.books.fixed (rw e (k.owned ws w));
        shares = k.shares;
        money = k.money;
        adds_up = omega (arith, k.adds, n, ap resting e);
      }

  pub fixed_moves : Result
  fixed_moves =
      let v : Evening d t s h = evening d t s l in
      by_second matching_from d.time t
      (λ p.
      by_second day_end d.time t
      (λ q. let k = v.lapsed_matched p q in lapsed (matched_book close s.fixed) (matched p) k.fixed k.lapsed)
      (λ n. unlapsed (matched_book close s.fixed) (matched p) (v.fixed_then p n) (v.unlapsed n)))
      (λ m.
      by_second day_end d.time t
      (λ q. let k = v.lapsed m q in lapsed s.fixed (unmatched m) k.fixed k.lapsed)
      (λ n. unlapsed s.fixed (unmatched m) (v.fixed_same m n) (v.unlapsed n)))
