-- The main book's move leaves the figures of the other lists, so what is published after it are numbers of 64 bits. Assumes nothing.
use Prim.Native.Nat.{ℕ, ◌+◌, ◌*◌, ◌^◌, ◌≤◌, ◌<◌}
use mathlib.Core.Path.{◌≡◌, refl}
use mathlib.Core.List.{List}
use native.Mathlib.Omega.{arith}
use Rattle.model.specs.declared.Order.{Order}
use Rattle.model.specs.declared.Day.{Day}
use Rattle.model.specs.Clock.{passed}
use Rattle.model.specs.Figures.{at, tally}
use Rattle.model.specs.Halts.{halting, resumed}
use Rattle.model.specs.ClockCall.{Held, auction, resume, lapse, pass, start, moved}
use Rattle.model.proofs.Seconds.{pass_cases, through_keeps}
use Rattle.figures.specs.Figures.{Publishable}
use Rattle.halts.proofs.Kept.{resume_cases}
use Rattle.soundness.specs.SoundDay.{EveningDay}
use Rattle.soundness.specs.Ready.{Ready}
use Rattle.soundness.proofs.EveningClauses.{fixed_paid}
use Rattle.moves.specs.Moving.{Underway}
use Rattle.moves.proofs.Stopping.{start_underway, through_underway}

-- a day with the figures of the other lists as they were
pub record OthersStay (d then : Day) : Type 0 where
  pub fixed : then.fixed ≡ d.fixed
  pub blocks : then.blocks ≡ d.blocks

module _ (d : Day) where
  pass_others : (s : ℕ) (h : Held) → OthersStay d h.day → OthersStay d (pass s h).day
  unfolding auction resume lapse tally halting resumed
  pass_others s h o =
      let same : OthersStay d (auction h).day = record { fixed = o.fixed; blocks = o.blocks } in
      pass_cases (λ k. OthersStay d k.day) s h (λ _. same)
      (λ _. resume_cases (OthersStay d) s h (record { fixed = o.fixed; blocks = o.blocks }) (λ _ _. record { fixed = o.fixed; blocks = o.blocks }))
      (λ _. same)
      (λ _ _ _. o)

  pub moved_others : (t : ℕ) (book : List Order) → OthersStay d (moved d t book).day
  unfolding moved start
  moved_others t book =
      through_keeps (λ k. OthersStay d k.day) pass_others (passed d.time t) (start d book) (record { fixed = refl; blocks = refl })

module _ (d : Day) (t : ℕ) (book : List Order) (r : Ready d book) where
  abbrev then : Day
  then = (moved d t book).day

  moved_underway : Underway (moved d t book)
  unfolding moved
  moved_underway = through_underway (passed d.time t) (start d book) (start_underway d book r)

  pub moved_publishable : {day : Day} → day ≡ at t then → Publishable day
  unfolding at
  moved_publishable e =
      let o = moved_others d t book in
      let v : EveningDay d = r.evening in
      let u = moved_underway in
      let p : d.fixed.money ≤ 999_999 * d.fixed.shares = fixed_paid d book r.sound v in
      let a : then.shares + d.fixed.shares + d.blocks.shares < 2 ^ 64 =
      omega (arith, u.shares, v.fixed_shares, v.fixed_issued, v.blocks_shares, v.blocks_issued) in
      let b : then.turnover + d.fixed.money < 2 ^ 64 = omega (arith, u.shares, u.most, v.fixed_shares, v.fixed_issued) in
      rw (e, o.fixed, o.blocks) (record { shares = λ _. a; money = λ _. b })
