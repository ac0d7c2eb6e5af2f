-- The fixed-price book stays sound through each call that is not its own: an order and a cancel of the main book, a declaration, a move of the
-- clock. Assumes nothing.
use Prim.Native.Nat.{ℕ, suc, ◌-◌, ◌≤◌, ◌<◌}
use mathlib.Core.Path.{◌≡◌, refl, sym, ap, ◌∙◌, subst}
use mathlib.Core.Logic.{◌⊎◌, inl, inr, ⊎_elim}
use mathlib.Core.Bool.{true, false, not}
use mathlib.Core.List.{List}
use native.Mathlib.Nat.{le_refl}
use native.Mathlib.Decide.{dec_le, dec_lt, ℕ_discrete}
use native.Mathlib.Omega.{arith}
use lib.ListN.{length}
use lib.Dec.{ltb}
use borrow.Author.Tests.{le-ltb, ne_eqb, not-false, ltb-false}
use Rattle.model.specs.declared.Order.{Order}
use Rattle.model.specs.declared.Declaration.{Declaration}
use Rattle.model.specs.declared.Asked.{Asked}
use Rattle.model.specs.declared.AskedBlock.{AskedBlock}
use Rattle.model.specs.declared.Trade.{Trade}
use Rattle.model.specs.declared.Day.{Day}
use Rattle.model.specs.declared.Fixed.{Fixed}
use Rattle.model.specs.declared.Blocks.{Blocks}
use Rattle.model.specs.declared.Row.{Row}
use Rattle.model.specs.declared.OrderAnswer.{OrderAnswer}
use Rattle.model.specs.Lists.{all}
use Rattle.model.specs.Clock.{is_time, row, later_rows, holding, row_at, takes_orders, matching_from, day_end, passed}
use Rattle.model.specs.Figures.{at, issue, tally, reference, close_price, with_fixed_figures, with_block_figures, issue_block, tally_blocks}
use Rattle.model.specs.Halts.{halting, fired}
use Rattle.model.specs.Screen.{update}
use Rattle.model.specs.Sound.{has_places, fixed_fits}
use Rattle.model.specs.Refusals.{◌when◌, first_of, unsound, unsound_fixed}
use Rattle.model.specs.Calls.{Outcome, cleared, order_rules, entered, order_call, CancelOutcome, cancel_rules, cancel_call}
use Rattle.model.specs.Lists.{all}
use Rattle.model.specs.ClockCall.{Held, start, moved}
use Rattle.model.specs.BlockCalls.{BlockOutcome, block_rules, block_entered, block_call}
use Rattle.model.specs.AfterClose.{After}
use Rattle.model.specs.Books.{Books}
use Rattle.model.specs.AllCalls.{ClockAllOutcome, moved_on, clock_all_rules, clock_all_call}
use Rattle.model.proofs.Bools.{not_both}
use Rattle.model.proofs.HaltEnds.{LedTo, led_told, Ends, ends}
use Rattle.model.proofs.Rules.{NoneHolds, none_holds}
use Rattle.model.proofs.Seconds.{pass_quiet, through_quiet}
use Rattle.halts.proofs.Kept.{fired_cases}
use Rattle.soundness.specs.SoundDay.{HaltDay}
use Rattle.soundness.specs.Ready.{Ready}
use Rattle.soundness.proofs.Readiness.{ready_if}
use Rattle.fixed_demands.specs.FixedDay.{FixedFigures, FixedDay}
use Rattle.fixed_demands.specs.Moving.{Passes, Misses, Evening}
use Rattle.fixed_demands.proofs.MainPart.{moved_others, main_part}
use Rattle.fixed_demands.proofs.Evenings.{matched_long, evening}
use Rattle.fixed_demands.proofs.FixedClauses.{says_fixed_figures, fixed_day_lem, fixed_places, fixed_sound, evening_fixed}
use Rattle.fixed_demands.proofs.EmptyLists.{free_day, cleared_empty, cleared_places}
use Rattle.fixed_demands.proofs.Allowed.{neither, all_numbered}
use Rattle.fixed_demands.proofs.FixedCases.{by_number}
use Rattle.fixed_demands.proofs.KeptMoved.{FivePastDays, five_past_figures, five_past_kept, Waits, main_figures, main_kept}

-- ---- a call that leaves the book, and of the day all that it reads

-- a second that is not left is not passed
stays : (c t : ℕ) → Misses c t t
stays c t = elim (dec_lt t c) [ yes l ↦ inl l | no l ↦ inr (omega arith) ]

same_book : (d e : Day) (book : List Order) → Waits d e → e.time ≡ d.time → unsound_fixed d book ≡ false → unsound_fixed e book ≡ false
same_book d e book w t s =
    fixed_sound e book (fixed_places d book s)
    (main_kept d e w book (subst (Misses 54_300 d.time) (sym t) (stays 54_300 d.time)) (subst (Misses 55_800 d.time) (sym t) (stays 55_800 d.time)) (fixed_day_lem d book s))

-- ---- an order of the main book: none is taken from 15:00 on, so the close moves before that only

after_hours : (t : ℕ) → 54_000 ≤ t → row_at t ≡ row 54_000 0 false false
unfolding row_at later_rows holding
after_hours t h =
    rw (
      le-ltb t 33_300 (omega arith),
      le-ltb t 33_600 (omega arith),
      le-ltb t 33_900 (omega arith),
      le-ltb t 34_200 (omega arith),
      le-ltb t 41_400 (omega arith),
      le-ltb t 46_800 (omega arith),
      le-ltb t 53_820 (omega arith),
      le-ltb t 54_000 h,
    )

none_late : (t : ℕ) → 54_000 ≤ t → takes_orders t ≡ false
unfolding takes_orders
none_late t h = ap (λ (r : Row). r.orders) (after_hours t h)

module _ (d : Day) (a : Asked) (main book : List Order) (lent : List Trade) where
  abbrev rule : ℕ
  rule = first_of (order_rules d a main (length lent))

  in_time : rule ≡ 0 → d.time < 54_000
  unfolding order_rules ◌when◌ all
  in_time z =
      let n : NoneHolds (order_rules d a main (length lent)) =
      none_holds (order_rules d a main (length lent)) (all_numbered (order_rules d a main (length lent)) refl) z in
      elim (dec_lt d.time 54_000) [
        | yes l ↦ l
        | no l ↦ absurd (not_both (not-false (takes_orders d.time) n.1.1.1.0) (none_late d.time (omega arith)))
      ]

  -- of the day it changes neither how it began, nor the time, nor the other lists' figures
  order_waits : d.time < 54_000 → (ts : List Trade) (after : List Order) → Waits d (update ts after (fired d.time ts (tally ts (issue d))))
  unfolding update tally issue halting
  order_waits l ts after =
      fired_cases (λ e. Waits d (update ts after e)) d.time ts (tally ts (issue d))
      (λ _. record { previous = refl; limited = refl; fixed = refl; later = le_refl d.time; at_close = λ h. absurd (omega arith) })
      (λ _. record { previous = refl; limited = refl; fixed = refl; later = le_refl d.time; at_close = λ h. absurd (omega arith) })

  order_time : (ts : List Trade) (after : List Order) → (update ts after (fired d.time ts (tally ts (issue d)))).time ≡ d.time
  unfolding update tally issue halting
  order_time ts after = fired_cases (λ e. (update ts after e).time ≡ d.time) d.time ts (tally ts (issue d)) (λ _. refl) (λ _. refl)

  pub order_kept : unsound_fixed d book ≡ false → unsound_fixed (order_call d a main lent).answer.day book ≡ false
  unfolding order_call entered
  order_kept s =
      by_number (λ (o : Outcome OrderAnswer). unsound_fixed o.answer.day book ≡ false) rule _ _
      (λ z. same_book d _ book (order_waits (in_time z) _ _) (order_time _ _) s)
      (λ _. s)

-- ---- a cancel of the main book, and a declaration

pub cancel_kept :
    (d : Day) (account number : ℕ) (main book : List Order)
    → unsound_fixed d book ≡ false
    → unsound_fixed (cancel_call d account number main).answer.day book ≡ false
unfolding cancel_call update close_price reference
cancel_kept d account number main book s =
    by_number (λ (o : CancelOutcome). unsound_fixed o.answer.day book ≡ false) (first_of (cancel_rules d account number main)) _ _
    (λ z. same_book d _ book (record { previous = refl; limited = refl; fixed = refl; later = le_refl d.time; at_close = λ _. refl }) refl s)
    (λ _. s)

pub declared_kept :
    (d : Day) (a : AskedBlock) (main book : List Order) (held : List Declaration) (lent : List Trade)
    → unsound_fixed d book ≡ false
    → unsound_fixed (block_call d a main held lent).answer.day book ≡ false
unfolding block_call block_entered tally_blocks issue_block with_block_figures close_price reference
declared_kept d a main book held lent s =
    by_number (λ (o : BlockOutcome). unsound_fixed o.answer.day book ≡ false) (first_of (block_rules d a main held (length lent))) _ _
    (λ z. same_book d _ book (record { previous = refl; limited = refl; fixed = refl; later = le_refl d.time; at_close = λ _. refl }) refl s)
    (λ _. s)

-- ---- a move of the clock

pub passes_or_misses : (c old new : ℕ) → Passes c old new ⊎ Misses c old new
passes_or_misses c old new = elim (dec_lt old c) [
  | yes l ↦ elim (dec_le c new) [
    | yes h ↦ inl (record { before = l; reached = h })
    | no h ↦ inr (inl (omega arith))
  ]
  | no l ↦ inr (inr (omega arith))
]

-- from 15:00 on no halt runs, and the main book is at rest
none_runs : (d : Day) → HaltDay d → 54_000 ≤ d.time → d.halt ≡ 0
none_runs d k l = elim (ℕ_discrete d.halt 0) [
  | yes z ↦ z
  | no n ↦
      let r : LedTo d.halt d.time = led_told d.halt d.time (k.led n) in
      let e : Ends r.0 d.halt = subst (Ends r.0) r.3 (ends r.0 r.2) in
      absurd (omega (arith, k.ahead n, e.latest))
]

pub moved_late : (d : Day) (t : ℕ) (main : List Order) → HaltDay d → 54_000 ≤ d.time → moved d t main ≡ start d main
unfolding moved passed start
moved_late d t main k l =
    through_quiet (suc d.time) (t - d.time) (start d main)
    (λ s a b.
    pass_quiet s (start d main) (ne_eqb s 33_900 (omega arith)) (ne_eqb s d.halt (omega (arith, none_runs d k l))) (ne_eqb s 54_000 (omega arith)))

module _ (d : Day) (t : ℕ) (s : Books) where
  abbrev m : Held
  m = moved d t s.main

  abbrev h : After
  h = moved_on d t s

  abbrev next : Day
  next = update h.auctions h.books.main (at t h.day)

  -- of the day but for the other lists' figures, what the main book's own move leaves
  next_part : {A : Type 0} (F : Day → A) → ((f : Fixed) (b : Blocks) → F (with_fixed_figures f (with_block_figures b m.day)) ≡ F m.day) → F h.day ≡ F m.day
  next_part F e = ap F (main_part d t s).day ∙ e h.day.fixed h.day.blocks

  next_close : next.close ≡ d.close
  unfolding update at with_fixed_figures with_block_figures
  next_close = next_part (λ x. x.close) (λ f b. refl) ∙ (moved_others d t s.main).close

  next_limited : next.limited ≡ d.limited
  unfolding update at with_fixed_figures with_block_figures
  next_limited = next_part (λ x. x.limited) (λ f b. refl) ∙ (moved_others d t s.main).limited

  next_price : close_price next ≡ close_price m.day
  unfolding update at with_fixed_figures with_block_figures close_price reference
  next_price = next_part (λ x. close_price x) (λ f b. refl)

  module _ (r : Ready d s.main) (f : FixedDay d s.fixed) (l : d.time ≤ t) where
    abbrev figures : FixedFigures d
    figures = evening_fixed d r.evening

    abbrev steps : Evening d t s h
    steps = evening d t s l

    -- 15:05 is passed
    five_past_lem : Passes 54_300 d.time t → FivePastDays (close_price m.day) s.fixed d next
    unfolding update at matching_from
    five_past_lem p =
        let k = (steps.matched p).figures in
        record {
          previous = next_close;
          limited = next_limited;
          before = p.before;
          reached = p.reached;
          at_close = next_price;
          issued = ap (λ (x : Fixed). x.issued) k;
          shares = ap (λ (x : Fixed). x.shares) k;
          money = ap (λ (x : Fixed). x.money) k;
        }

    -- it is not
    waits : Misses 54_300 d.time t → Waits d next
    unfolding update at matching_from
    waits n =
        record {
          previous = next_close;
          limited = next_limited;
          fixed = (steps.unmatched n).figures;
          later = l;
          at_close = λ h. next_price ∙ (unfold start in ap (λ (x : Held). close_price x.day) (moved_late d t s.main r.halt (omega arith)));
        }

    -- the figures of the fixed-price book
    pub moved_figures : FixedFigures next
    moved_figures =
        ⊎_elim (λ p. five_past_figures (close_price m.day) s.fixed d next figures f (five_past_lem p)) (λ n. main_figures d next (waits n) figures)
        (passes_or_misses 54_300 d.time t)

    -- 15:30 is passed
    lapsed : Passes 55_800 d.time t → h.books.fixed ≡ cleared s.fixed
    unfolding day_end matching_from
    lapsed p = ⊎_elim (λ q. (steps.lapsed_matched q p).fixed) (λ n. (steps.lapsed n p).fixed) (passes_or_misses 54_300 d.time t)

    pub end_kept : Passes 55_800 d.time t → FixedDay next h.books.fixed
    end_kept p = rw (lapsed p) (free_day (cleared s.fixed) (cleared_empty s.fixed) next moved_figures)

    pub moved_day : FixedDay next h.books.fixed
    unfolding update at day_end matching_from
    moved_day = ⊎_elim end_kept (λ n. ⊎_elim (matched n) (same n) (passes_or_misses 54_300 d.time t)) (passes_or_misses 55_800 d.time t)
      where
        matched : Misses 55_800 d.time t → Passes 54_300 d.time t → FixedDay next h.books.fixed
        matched n p =
            rw (steps.fixed_then p n)
            (five_past_kept (close_price m.day) s.fixed d next figures f (five_past_lem p) (⊎_elim (λ u. u) (λ u. absurd (omega (arith, p.before))) n))

        same : Misses 55_800 d.time t → Misses 54_300 d.time t → FixedDay next h.books.fixed
        same n u = rw (steps.fixed_same u n) (main_kept d next (waits u) s.fixed u n f)

    -- as many places as before
    pub moved_places : has_places s.fixed ≡ true → has_places h.books.fixed ≡ true
    unfolding has_places day_end matching_from
    moved_places q = ⊎_elim (λ p. rw (lapsed p) (cleared_places s.fixed q)) (λ n. ⊎_elim (matched n) (same n) (passes_or_misses 54_300 d.time t)) (passes_or_misses 55_800 d.time t)
      where
        matched : Misses 55_800 d.time t → Passes 54_300 d.time t → has_places h.books.fixed ≡ true
        matched n p = rw (steps.fixed_then p n, matched_long (close_price m.day) s.fixed) q

        same : Misses 55_800 d.time t → Misses 54_300 d.time t → has_places h.books.fixed ≡ true
        same n u = rw (steps.fixed_same u n) q

  pub move_kept :
      (lent : List Trade)
      → unsound d s.main ≡ false
      → unsound_fixed d s.fixed ≡ false
      → let o : ClockAllOutcome = clock_all_call d t s lent in
      (fixed_fits o.answer.day ≡ true) × (unsound_fixed o.answer.day o.books.fixed ≡ false)
  unfolding clock_all_call
  move_kept lent u f =
      let r : Ready d s.main = ready_if d s.main u in
      let k : FixedDay d s.fixed = fixed_day_lem d s.fixed f in
      by_number (λ (o : ClockAllOutcome). (fixed_fits o.answer.day ≡ true) × (unsound_fixed o.answer.day o.books.fixed ≡ false))
      (first_of (clock_all_rules d t s (length lent))) _ _
      (λ z.
      let l : d.time ≤ t = onward z in (
        (says_fixed_figures next).1 (moved_figures r k l),
        fixed_sound next h.books.fixed (moved_places r k l (fixed_places d s.fixed f)) (moved_day r k l),
      ))
      (λ _. ((says_fixed_figures d).1 (evening_fixed d r.evening), f))
    where
      onward : first_of (clock_all_rules d t s (length lent)) ≡ 0 → d.time ≤ t
      onward z = unfold clock_all_rules ◌when◌ all in
          let n : NoneHolds (clock_all_rules d t s (length lent)) =
          none_holds (clock_all_rules d t s (length lent)) (all_numbered (clock_all_rules d t s (length lent)) refl) z in
          ltb-false t d.time (neither (not (is_time t)) (ltb t d.time) n.1.0).1
