-- A run from an accepted opening: each threshold fires once, and on a limited day nothing of a halt shows. Assumes nothing.
use mathlib.Core.Path.{◌≡◌, ap, ◌∙◌}
use mathlib.Core.Logic.{⊎_elim}
use mathlib.Core.List.{List}
use native.Mathlib.Omega.{arith}
use Rattle.model.specs.declared.Day.{Day}
use Rattle.model.specs.Figures.{fresh_day}
use Rattle.model.specs.Session.{Desk}
use Rattle.model.specs.Words.{Sound}
use Rattle.soundness.specs.SoundDay.{HaltDay}
use Rattle.soundness.proofs.SoundDays.{sound_halt}
use Rattle.demands.specs.Running.{Call, after, Fresh}
use Rattle.demands.specs.Halting.{OnceADay, NoHalt}
use Rattle.demands.proofs.Runs.{run_sound, fresh_sound, is_fresh}
use Rattle.demands.proofs.HaltDays.{none_runs}
use Rattle.demands.proofs.Hours.{phase_unhalted}
use Rattle.demands.proofs.Marks.{run_fires, run_onward}
use Rattle.demands.proofs.Reaching.{run_reaches}

module _ (cs : List Call) (s : Desk) (f : Fresh s) where
  sound : Sound s.day s.book
  sound = fresh_sound s f

  halt : HaltDay (after cs s).day
  halt = sound_halt (after cs s).day (after cs s).book (run_sound cs s sound).1

  unused : (s.day.used30 ≡ 0) × (s.day.used60 ≡ 0)
  unfolding fresh_day
  unused = (ap (λ (d : Day). d.used30) (is_fresh s f), ap (λ (d : Day). d.used60) (is_fresh s f))

  pub once_a_day : OnceADay cs s
  once_a_day =
      let reaches = run_reaches cs s sound in
      let thirty = run_fires (λ d. d.used30) (λ d k. k.thirty) (λ d e k. k.thirty) cs s sound in
      let sixty = run_fires (λ d. d.used60) (λ d k. k.sixty) (λ d e k. k.sixty) cs s sound in
      record {
        thirty = omega (arith, thirty, unused.0);
        sixty = omega (arith, sixty, unused.1);
        thirty_once = omega (arith, thirty, unused.0, halt.thirty);
        sixty_once = omega (arith, sixty, unused.1, halt.sixty);
        thirty_exactly = (λ u. ⊎_elim (λ v. absurd (omega (arith, v, unused.0))) (λ x. x) (reaches.thirty_by u), λ x. reaches.thirty x.0 x.1);
        sixty_exactly = (λ u. ⊎_elim (λ v. absurd (omega (arith, v, unused.1))) (λ x. x) (reaches.sixty_by u), λ x. reaches.sixty x.0 x.1);
        both = halt.thirty_first;
      }

  pub limited_none : s.day.limited ≡ 1 → NoHalt (after cs s).day
  limited_none l =
      let d = (after cs s).day in
      let n : d.used30 ≡ 1 → ⊥ = λ u. (halt.unlimited u).0 ((run_onward cs s).limited ∙ l) in
      let thirty : d.used30 ≡ 0 = omega (arith, halt.thirty, n) in
      let m : d.used60 ≡ 1 → ⊥ = λ u. n (halt.thirty_first u) in
      let z : d.halt ≡ 0 = none_runs d (λ r. n (halt.uses r)) in
      record { halt = z; thirty = thirty; sixty = omega (arith, halt.sixty, m); phase = phase_unhalted d z }
