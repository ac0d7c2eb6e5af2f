-- The marks of the two thresholds over a run: none goes back, so each counts how often its threshold fired. Assumes nothing.
use Prim.Native.Nat.{ℕ, ◌+◌, ◌≤◌}
use mathlib.Core.Path.{◌≡◌, refl, ◌∙◌}
use mathlib.Core.Bool.{Bool, true, false, cond, not, ◌&&◌}
use mathlib.Core.List.{List, [], ◌∷◌}
use native.Mathlib.Omega.{arith}
use lib.Dec.{eqb}
use borrow.Author.Tests.{eqb-true, eqb-false}
use Rattle.model.specs.declared.Order.{Order}
use Rattle.model.specs.declared.Trade.{Trade}
use Rattle.model.specs.declared.Day.{Day}
use Rattle.model.specs.declared.Event as Event
use Rattle.model.specs.Clock.{passed}
use Rattle.model.specs.Figures.{at, issue, tally}
use Rattle.model.specs.Halts.{reach, halting, fired, resumed}
use Rattle.model.specs.Screen.{update}
use Rattle.model.specs.Calls.{entered}
use Rattle.model.specs.ClockCall.{Held, auction, lapse, pass, start, moved}
use Rattle.model.specs.Session.{Desk}
use Rattle.model.proofs.Bools.{not_both}
use Rattle.model.proofs.Seconds.{pass_cases, through_keeps}
use Rattle.model.specs.Words.{Sound}
use Rattle.halts.proofs.Kept.{fired_cases, resume_cases}
use Rattle.soundness.specs.SoundDay.{HaltDay}
use Rattle.soundness.proofs.SoundDays.{sound_halt}
use Rattle.demands.specs.Running.{is_opening, Call, stepped_by, stepped, after}
use Rattle.demands.specs.Halting.{firings}
use Rattle.demands.proofs.Cases.{order_cases, cancel_cases, clock_cases}
use Rattle.demands.proofs.Answers.{event_sound}

-- ---- a mark that is set stays set, and a limited day stays one

pub record Onward (d e : Day) : Type 0 where
  pub thirty : d.used30 ≡ 1 → e.used30 ≡ 1
  pub sixty : d.used60 ≡ 1 → e.used60 ≡ 1
  pub limited : e.limited ≡ d.limited

onward_itself : (d : Day) → Onward d d
onward_itself d = record { thirty = λ u. u; sixty = λ u. u; limited = refl }

onward_updated : (ts : List Trade) (book : List Order) (d e : Day) → Onward d e → Onward d (update ts book e)
unfolding update
onward_updated ts book d e k = record { thirty = k.thirty; sixty = k.sixty; limited = k.limited }

-- the marks as a halt that begins leaves them
set_onward : (end : ℕ) (b : Bool) (d e : Day) → Onward d e → Onward d (halting end 1 (cond b 1 e.used60) e)
unfolding halting
set_onward end b d e k = record { thirty = λ _. refl; sixty = λ u. go b (k.sixty u); limited = k.limited }
  where
    go : (b : Bool) → e.used60 ≡ 1 → cond b 1 e.used60 ≡ 1
    go true u = refl
    go false u = u

module _ (d : Day) where
  pass_onward : (s : ℕ) (h : Held) → Onward d h.day → Onward d (pass s h).day
  unfolding auction lapse tally resumed halting
  pass_onward s h k =
      let a : Onward d (auction h).day = record { thirty = k.thirty; sixty = k.sixty; limited = k.limited } in
      let o : Onward d (resumed (auction h).day) = record { thirty = k.thirty; sixty = k.sixty; limited = k.limited } in
      pass_cases (λ x. Onward d x.day) s h (λ _. a)
      (λ _. resume_cases (Onward d) s h o (λ _ _. set_onward _ (reach 60 _ (resumed (auction h).day)) d (resumed (auction h).day) o))
      (λ _. a)
      (λ _ _ _. k)

  moved_onward : (t : ℕ) (book : List Order) → Onward d (at t (moved d t book).day)
  unfolding moved start at
  moved_onward t book =
      let k = through_keeps (λ x. Onward d x.day) pass_onward (passed d.time t) (start d book) (onward_itself d) in
      record { thirty = k.thirty; sixty = k.sixty; limited = k.limited }

  entered_onward : (ts : List Trade) → Onward d (fired d.time ts (tally ts (issue d)))
  unfolding tally issue
  entered_onward ts =
      let n = tally ts (issue d) in
      let k : Onward d n = record { thirty = λ u. u; sixty = λ u. u; limited = refl } in
      fired_cases (Onward d) d.time ts n (λ _. k) (λ _. set_onward _ (reach 60 ts n) d n k)

pub event_onward : (e : Event.Event) → is_opening e ≡ false → (lent : List Trade) (s : Desk) → Onward s.day (stepped_by e lent s).day
unfolding is_opening stepped_by entered
event_onward (Event.TheVariants.Open close mark) o lent s = absurd (not_both refl o)
event_onward (Event.TheVariants.Clock t) o lent s =
    clock_cases s.day t s.book lent (λ x. Onward s.day x.answer.day) (λ _. onward_updated _ _ _ _ (moved_onward s.day t s.book)) (λ _. onward_itself s.day)
event_onward (Event.TheVariants.Order a) o lent s =
    order_cases s.day a s.book lent (λ x. Onward s.day x.answer.day) (λ _. onward_updated _ _ _ _ (entered_onward s.day _)) (λ _. onward_itself s.day)
event_onward (Event.TheVariants.Cancel account number) o lent s =
    cancel_cases s.day account number s.book (λ x. Onward s.day x.answer.day) (λ _. onward_updated _ _ _ _ (onward_itself s.day))
    (λ _. onward_itself s.day)

-- ---- so it counts

one_more : (m n : ℕ) → m ≤ 1 → n ≤ 1 → (m ≡ 1 → n ≡ 1) → m + cond (eqb m 0 && not (eqb n 0)) 1 0 ≡ n
one_more m n a b k = go (eqb m 0) refl (eqb n 0) refl
  where
    go : (x : Bool) → eqb m 0 ≡ x → (y : Bool) → eqb n 0 ≡ y → m + cond (x && not y) 1 0 ≡ n
    go true e true f = omega (arith, eqb-true m 0 e, eqb-true n 0 f)
    go true e false f = omega (arith, eqb-true m 0 e, eqb-false n 0 f)
    go false e y f = let z : m ≡ 1 = omega (arith, eqb-false m 0 e) in omega (arith, k z)

-- a mark that is 0 or 1 on sound days, and never goes back
module _ (mark : Day → ℕ) (most : (d : Day) → HaltDay d → mark d ≤ 1) (back : (d e : Day) → Onward d e → mark d ≡ 1 → mark e ≡ 1) where
  pub run_fires : (cs : List Call) (s : Desk) → Sound s.day s.book → mark s.day + firings mark cs s ≡ mark (after cs s).day
  unfolding firings after
  run_fires [] s k = omega arith
  run_fires (c ∷ cs) s k =
      let k' = event_sound c.event c.within c.lent s k in
      let e =
      one_more (mark s.day) (mark (stepped c s).day) (most s.day (sound_halt _ _ k.1))
      (most (stepped c s).day (sound_halt _ _ k'.1))
      (back s.day (stepped c s).day (event_onward c.event c.within c.lent s))
      in
      omega (arith, e, run_fires cs (stepped c s) k')

pub run_onward : (cs : List Call) (s : Desk) → Onward s.day (after cs s).day
unfolding after
run_onward [] s = onward_itself s.day
run_onward (c ∷ cs) s =
    let k = event_onward c.event c.within c.lent s in
    let l = run_onward cs (stepped c s) in
    record { thirty = λ u. l.thirty (k.thirty u); sixty = λ u. l.sixty (k.sixty u); limited = l.limited ∙ k.limited }
