-- Each event's day has its time by the two cases of its call. Assumes nothing.
use Prim.Native.Nat.{ℕ}
use mathlib.Core.Path.{◌≡◌, refl, sym, ap}
use native.Mathlib.Omega.{arith}
use Rattle.model.specs.declared.ClockReply.TheVariants.{Refused, Moved}
use Rattle.model.specs.Figures.{at, issue, tally}
use Rattle.model.specs.Halts.{runs, phase_now}
use Rattle.model.specs.Screen.{update}
use Rattle.model.specs.Calls.{entered}
use Rattle.demands.specs.Timing.{Timing}
use Rattle.demands.proofs.SameFigures.{fired_time}
use Rattle.demands.proofs.Cases.{is_moved, phase_of, order_cases, cancel_cases, clock_cases}

pub timing : Timing
unfolding entered tally issue at update phase_now runs
timing = record {
  order_stays = λ d a book lent. order_cases d a book lent (λ o. o.answer.day.time ≡ d.time) (λ _. fired_time _ _ _) (λ _. refl);
  cancel_stays = λ d account number book. cancel_cases d account number book (λ o. o.answer.day.time ≡ d.time) (λ _. refl) (λ _. refl);
  clock_moves = λ d t book lent phase made.
      clock_cases d t book lent
      (λ o. o.answer.reply ≡ Moved phase made → (o.answer.day.time ≡ t) × (phase ≡ phase_now o.answer.day))
      (λ _ e. (refl, sym (ap phase_of e)))
      (λ _ e. let z : ◌≡◌ {A = ℕ} 0 1 = ap is_moved e in absurd (omega arith));
  clock_stays = λ d t book lent n.
      clock_cases d t book lent (λ o. o.answer.reply ≡ Refused n → o.answer.day.time ≡ d.time)
      (λ _ e. let z : ◌≡◌ {A = ℕ} 1 0 = ap is_moved e in absurd (omega arith))
      (λ _ _. refl);
}
