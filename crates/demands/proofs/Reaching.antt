-- What the trades of a run that may fire reach, and the thresholds that are used then: each exactly where one of them reached it, from the
-- day's open. Assumes nothing.
use Prim.Native.Nat.{ℕ, ◌≤◌, ◌<◌}
use mathlib.Core.Path.{◌≡◌, refl, sym, ap, subst, ◌∙◌}
use mathlib.Core.Logic.{◌⊎◌, inl, inr, ⊎_elim}
use mathlib.Core.Bool.{Bool, true, false, cond, not, ◌&&◌}
use mathlib.Core.List.{List, [], ◌∷◌, ◌++◌}
use native.Mathlib.Omega.{arith}
use lib.ListN.{length, take, drop}
use lib.Seq.{take_at}
use lib.Dec.{leb, ltb, eqb}
use borrow.Author.Tests.{leb-true, le-leb, ltb-true, lt-ltb, eq-eqb, ne_eqb, eqb-false}
use Rattle.model.specs.declared.Order.{Order}
use Rattle.model.specs.declared.Asked.{Asked}
use Rattle.model.specs.declared.Trade.{Trade}
use Rattle.model.specs.declared.Day.{Day}
use Rattle.model.specs.declared.Event as Event
use Rattle.model.specs.Matching.{first_price}
use Rattle.model.specs.Figures.{at, open_price, issue, tally}
use Rattle.model.specs.Halts.{reach, halt_end, halting, fires}
use Rattle.model.specs.Screen.{update}
use Rattle.model.specs.Entry.{entry_trades}
use Rattle.model.specs.Calls.{written, entered, order_call}
use Rattle.model.specs.ClockCall.{moved, clock_call}
use Rattle.model.specs.Session.{Desk}
use Rattle.model.proofs.Bools.{not_both, and_left, and_right}
use Rattle.model.specs.Words.{Some, Sound}
use Rattle.halts.proofs.Kept.{fired_cases}
use Rattle.soundness.specs.SoundDay.{HaltDay}
use Rattle.soundness.proofs.SoundDays.{sound_halt}
use Rattle.demands.specs.Running.{is_opening, Call, stepped_by, stepped, trades_of_event, after}
use Rattle.demands.specs.Halting.{Away, Reached, Another, ends_halt, firing_by, firing_in}
use Rattle.demands.proofs.Elements.{some_map, some_left, some_right, some_either}
use Rattle.demands.proofs.Cases.{order_cases, cancel_cases, clock_cases}
use Rattle.demands.proofs.Answers.{event_sound}
use Rattle.demands.proofs.Moved.{in_time}
use Rattle.demands.proofs.Totals.{Prices}
use Rattle.demands.proofs.RunTotals.{event_prices, event_totals, run_totals}
use Rattle.demands.proofs.Marks.{Onward, event_onward, run_onward}
use Rattle.demands.proofs.Starting.{says_reach, says_fires}
use Rattle.demands.proofs.Ending.{Second, Same, move_either}

-- who is 60% away is 30% away
reached_less : (opened : ℕ) (ts : List Trade) → Reached 60 opened ts → Reached 30 opened ts
reached_less opened ts = some_map (λ t h. less t.price h) ts
  where
    less : (p : ℕ) → Away 60 opened p → Away 30 opened p
    less p h = ⊎_elim (λ x. inl (omega (arith, x))) (λ x. inr (omega (arith, x))) h

-- from one day to a later one, with the trades that may fire
pub record Reaches (d e : Day) (ts : List Trade) : Type 0 where
  pub thirty_by : e.used30 ≡ 1 → (d.used30 ≡ 1) ⊎ ((d.limited ≡ 0) × Reached 30 (open_price e) ts)
  pub sixty_by : e.used60 ≡ 1 → (d.used60 ≡ 1) ⊎ ((d.limited ≡ 0) × Reached 60 (open_price e) ts)
  pub thirty : d.limited ≡ 0 → Reached 30 (open_price e) ts → e.used30 ≡ 1
  pub sixty : d.limited ≡ 0 → Reached 60 (open_price e) ts → e.used60 ≡ 1

-- without any
none_reached : (d : Day) → Reaches d d []
none_reached d = record { thirty_by = inl; sixty_by = inl; thirty = λ _ r. absurd r; sixty = λ _ r. absurd r }

reaches_updated : (us : List Trade) (book : List Order) (d e : Day) (ts : List Trade) → Reaches d e ts → Reaches d (update us book e) ts
unfolding update open_price
reaches_updated us book d e ts k =
    record { thirty_by = k.thirty_by; sixty_by = k.sixty_by; thirty = k.thirty; sixty = k.sixty }

-- ---- an order

module _ (d : Day) (a : Asked) (book : List Order) (s : Sound d book) (lent : List Trade) where
  abbrev ts : List Trade
  ts = entry_trades d a book

  abbrev next : Day
  next = tally ts (issue d)

  not_fired : fires ts next ≡ false → Reaches d next ts
  unfolding tally issue open_price
  not_fired e =
      let h = sound_halt d book s.1 in
      record {
        thirty_by = inl;
        sixty_by = inl;
        thirty = λ l r.
            let n : d.used30 ≡ 0 → ⊥ = λ z. not_both ((says_fires ts next).1 (l, inl (z, r))) e in omega (arith, n, h.thirty);
        sixty = λ l r.
            let n : d.used60 ≡ 0 → ⊥ = λ z. not_both ((says_fires ts next).1 (l, inr (z, r))) e in omega (arith, n, h.sixty);
      }

  fired_now : fires ts next ≡ true → Reaches d (halting (halt_end d.time) 1 (cond (reach 60 ts next) 1 next.used60) next) ts
  unfolding tally issue open_price halting
  fired_now f =
      let k = (says_fires ts next).0 f in
      record {
        thirty_by = λ _. inr (k.0, ⊎_elim (λ x. x.1) (λ x. reached_less (open_price next) ts x.1) k.1);
        sixty_by = λ u. by k.0 (reach 60 ts next) refl u;
        thirty = λ _ _. refl;
        sixty = λ _ r. rw ((says_reach 60 ts next).1 r);
      }
    where
      by : d.limited ≡ 0 → (b : Bool) → reach 60 ts next ≡ b → cond b 1 d.used60 ≡ 1 → (d.used60 ≡ 1) ⊎ ((d.limited ≡ 0) × Reached 60 (open_price next) ts)
      by l true e u = inr (l, (says_reach 60 ts next).0 e)
      by l false e u = inl u

  order_reaches :
      Reaches d (order_call d a book lent).answer.day (take (order_call d a book lent).answer.made (order_call d a book lent).trades)
  unfolding entered written
  order_reaches =
      order_cases d a book lent (λ o. Reaches d o.answer.day (take o.answer.made o.trades))
      (λ _.
      rw (take_at ts (drop (length ts) lent) (length ts) refl)
      (reaches_updated ts _ d _ ts (fired_cases (λ e. Reaches d e ts) d.time ts next not_fired fired_now)))
      (λ _. none_reached d)

-- ---- a move of the clock

module _ (d : Day) (book : List Order) (s : Sound d book) (t : ℕ) where
  abbrev then : Day
  then = at t (moved d t book).day

  ends_told : ends_halt d t ≡ true → (d.halt ≡ 0 → ⊥) × (d.halt ≤ t) × (d.halt < 53_820)
  unfolding ends_halt
  ends_told e =
      let first = not (eqb d.halt 0) && leb d.halt t in
      let x = and_left first (ltb d.halt 53_820) e in
      let n = and_left (not (eqb d.halt 0)) (leb d.halt t) x in (
        λ z. not_both n (ap not (eq-eqb d.halt 0 z)),
        leb-true d.halt t (and_right (not (eqb d.halt 0)) (leb d.halt t) x),
        ltb-true d.halt 53_820 (and_right first (ltb d.halt 53_820) e),
      )

  told_ends : (d.halt ≡ 0 → ⊥) → d.halt ≤ t → d.halt < 53_820 → ends_halt d t ≡ true
  unfolding ends_halt
  told_ends n m c = rw (ne_eqb d.halt 0 n, le-leb d.halt t m, lt-ltb d.halt 53_820 c)

  halt : HaltDay d
  halt = sound_halt d book s.1

  -- no threshold is used by it
  unused : Same d book s t → (b : Bool) → ends_halt d t ≡ b → Reaches d then (cond b (moved d t book).trades [])
  unused k false e =
      record {
        thirty_by = λ u. inl (sym k.thirty ∙ u);
        sixty_by = λ u. inl (sym k.sixty ∙ u);
        thirty = λ _ r. absurd r;
        sixty = λ _ r. absurd r;
      }
  unused k true e =
      let h = ends_told e in
      record {
        thirty_by = λ u. inl (sym k.thirty ∙ u);
        sixty_by = λ u. inl (sym k.sixty ∙ u);
        thirty = λ _ _. k.thirty ∙ halt.uses h.0;
        sixty = λ l r.
            let n : d.used60 ≡ 0 → ⊥ =
            λ z. k.not_fired (record { ran = h.0; reached = h.1; before = h.2; fires = (l, inr (z, r)) })
            in
            k.sixty ∙ omega (arith, n, halt.sixty);
      }

  -- the auction at the end of a halt has fired
  fired_again : Second d book s t × Another d t then → Reaches d then (cond (ends_halt d t) (moved d t book).trades [])
  fired_again (c, x) =
      rw (told_ends c.ran c.reached c.before)
      (record {
        thirty_by = λ _. inl (halt.uses c.ran);
        sixty_by = λ _.
            inr (c.fires.0, ⊎_elim (λ y. absurd (omega (arith, y.0, halt.uses c.ran))) (λ y. y.1) c.fires.1);
        thirty = λ _ _. x.thirty;
        sixty = λ _ _. x.sixty;
      })

  move_reaches :
      (lent : List Trade)
      → Reaches d (clock_call d t book lent).answer.day
      (cond (ends_halt d t) (take (clock_call d t book lent).answer.made (clock_call d t book lent).trades) [])
  unfolding written
  move_reaches lent =
      clock_cases d t book lent (λ o. Reaches d o.answer.day (cond (ends_halt d t) (take o.answer.made o.trades) []))
      (λ z.
      rw (take_at (moved d t book).trades (drop (length (moved d t book).trades) lent) (length (moved d t book).trades) refl)
      (reaches_updated (moved d t book).trades (moved d t book).book d then (cond (ends_halt d t) (moved d t book).trades [])
      (⊎_elim (λ k. unused k (ends_halt d t) refl) fired_again (move_either d book s t (in_time d t book lent z).0))))
      (λ _. nothing (ends_halt d t))
    where
      nothing : (b : Bool) → Reaches d d (cond b [] [])
      nothing true = none_reached d
      nothing false = none_reached d

-- ---- an event

event_reaches :
    (e : Event.Event) → is_opening e ≡ false → (lent : List Trade) (s : Desk)
    → Sound s.day s.book
    → Reaches s.day (stepped_by e lent s).day (firing_by e lent s)
unfolding is_opening stepped_by firing_by trades_of_event
event_reaches (Event.TheVariants.Open close mark) o lent s k = absurd (not_both refl o)
event_reaches (Event.TheVariants.Clock t) o lent s k = move_reaches s.day s.book k t lent
event_reaches (Event.TheVariants.Order a) o lent s k = order_reaches s.day a s.book k lent
event_reaches (Event.TheVariants.Cancel account number) o lent s k =
    cancel_cases s.day account number s.book (λ o. Reaches s.day o.answer.day [])
    (λ _. reaches_updated [] _ s.day s.day [] (none_reached s.day))
    (λ _. none_reached s.day)

-- ---- once it has traded a day keeps its open

first_some : (P : Trade → Type 0) (p : ℕ) (ts : List Trade) → Prices ts → Some P ts → cond (eqb p 0) (first_price 0 ts) p ≡ 0 → ⊥
unfolding first_price
first_some P p [] h r = absurd r
first_some P p (t ∷ ts) h r = go (eqb p 0) refl
  where
    go : (b : Bool) → eqb p 0 ≡ b → cond b t.price p ≡ 0 → ⊥
    go true e z = omega (arith, h.0.low, z)
    go false e z = eqb-false p 0 e z

event_opened :
    (P : Trade → Type 0) (e : Event.Event) → is_opening e ≡ false → (lent : List Trade) (s : Desk)
    → Sound s.day s.book
    → Some P (firing_by e lent s)
    → (stepped_by e lent s).day.first ≡ 0
    → ⊥
unfolding firing_by
event_opened P e o lent s k r z = traded (of_event e r)
  where
    traded : Some P (trades_of_event e lent s) → ⊥
    traded r =
        first_some P s.day.first (trades_of_event e lent s) (event_prices e o lent s k) r (sym (event_totals e o lent s k).first ∙ z)

    of_move : (b : Bool) (ts : List Trade) → Some P (cond b ts []) → Some P ts
    of_move true ts r = r
    of_move false ts r = absurd r

    of_event : (e : Event.Event) → Some P (firing_by e lent s) → Some P (trades_of_event e lent s)
    of_event (Event.TheVariants.Open close mark) r = absurd r
    of_event (Event.TheVariants.Clock t) r = of_move (ends_halt s.day t) (trades_of_event (Event.TheVariants.Clock t) lent s) r
    of_event (Event.TheVariants.Order a) r = r
    of_event (Event.TheVariants.Cancel account number) r = absurd r

run_opened : (cs : List Call) (s : Desk) → Sound s.day s.book → (s.day.first ≡ 0 → ⊥) → open_price (after cs s).day ≡ open_price s.day
unfolding open_price
run_opened cs s k n = (run_totals cs s k).first ∙ rw (ne_eqb s.day.first 0 n)

-- ---- a run

module _ (c : Call) (cs : List Call) (s : Desk) (k : Sound s.day s.book) where
  abbrev mid : Desk
  mid = stepped c s

  abbrev end : Day
  end = (after cs mid).day

  -- what the first call traded on entry, and what those after it did
  abbrev mine : List Trade
  mine = firing_by c.event c.lent s

  abbrev theirs : List Trade
  theirs = firing_in cs mid

  still : Sound mid.day mid.book
  still = event_sound c.event c.within c.lent s k

  now : Reaches s.day mid.day mine
  now = event_reaches c.event c.within c.lent s k

  same_open : (percent opened : ℕ) → Reached percent opened mine → open_price end ≡ open_price mid.day
  same_open percent opened r =
      run_opened cs mid still
      (event_opened (λ (t : Trade). Away percent opened t.price) c.event c.within c.lent s k r)

  to_end : (percent : ℕ) → Reached percent (open_price mid.day) mine → Reached percent (open_price end) mine
  to_end percent r = subst (λ (o : ℕ). Reached percent o mine) (sym (same_open percent (open_price mid.day) r)) r

  to_mid : (percent : ℕ) → Reached percent (open_price end) mine → Reached percent (open_price mid.day) mine
  to_mid percent r = subst (λ (o : ℕ). Reached percent o mine) (same_open percent (open_price end) r) r

  from_mine : (percent : ℕ) → Reached percent (open_price mid.day) mine → Reached percent (open_price end) (mine ++ theirs)
  from_mine percent r = some_left (λ (t : Trade). Away percent (open_price end) t.price) mine theirs (to_end percent r)

  from_theirs : (percent : ℕ) → Reached percent (open_price end) theirs → Reached percent (open_price end) (mine ++ theirs)
  from_theirs percent r = some_right (λ (t : Trade). Away percent (open_price end) t.price) mine theirs r

  either : (percent : ℕ) → Reached percent (open_price end) (mine ++ theirs) → Reached percent (open_price end) mine ⊎ Reached percent (open_price end) theirs
  either percent r = some_either (λ (t : Trade). Away percent (open_price end) t.price) mine theirs r

  joined : Reaches mid.day end theirs → Reaches s.day end (mine ++ theirs)
  joined later =
      let limited : mid.day.limited ≡ s.day.limited = (event_onward c.event c.within c.lent s).limited in
      let onward : Onward mid.day end = run_onward cs mid in
      record {
        thirty_by = λ u.
            ⊎_elim (λ v. ⊎_elim inl (λ x. inr (x.0, from_mine 30 x.1)) (now.thirty_by v))
            (λ x. inr (sym limited ∙ x.0, from_theirs 30 x.1)) (later.thirty_by u);
        sixty_by = λ u.
            ⊎_elim (λ v. ⊎_elim inl (λ x. inr (x.0, from_mine 60 x.1)) (now.sixty_by v))
            (λ x. inr (sym limited ∙ x.0, from_theirs 60 x.1)) (later.sixty_by u);
        thirty = λ l r. ⊎_elim (λ x. onward.thirty (now.thirty l (to_mid 30 x))) (later.thirty (limited ∙ l)) (either 30 r);
        sixty = λ l r. ⊎_elim (λ x. onward.sixty (now.sixty l (to_mid 60 x))) (later.sixty (limited ∙ l)) (either 60 r);
      }

pub run_reaches : (cs : List Call) (s : Desk) → Sound s.day s.book → Reaches s.day (after cs s).day (firing_in cs s)
unfolding after firing_in
run_reaches [] s k = none_reached s.day
run_reaches (c ∷ cs) s k = joined c cs s k (run_reaches cs (stepped c s) (event_sound c.event c.within c.lent s k))
