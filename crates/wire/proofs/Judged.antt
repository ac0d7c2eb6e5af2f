-- The judge on bytes: refused by a length, or the call; its reply; and no two differing outcomes meet its promise. Assumes nothing.
use Prim.Native.Nat.{ℕ}
use mathlib.Core.Path.{◌≡◌, refl, sym, ap, ◌∙◌}
use mathlib.Core.Logic.{⊎_elim}
use mathlib.Core.Bool.{true}
use mathlib.Core.List.{List}
use lib.ListN.{length}
use borrow.Author.Tests.{eq-eqb, ne_eqb}
use Rattle.model.specs.declared.Day.{Day}
use Rattle.records.specs.Layout.{day_in, book_in}
use Rattle.judge.specs.declared.Verdict.{Verdict}
use Rattle.judge.specs.declared.Verdict.TheVariants.{Refused}
use Rattle.judge.specs.Judging.{judge_call, verdict_numbers}
use Rattle.judge.proofs.Rightness.{by_fifteen}
use Rattle.byte_judge.specs.Claims.{claims_in}
use Rattle.wire.specs.Exports.{has_day}
use Rattle.wire.specs.Verdicts.{judge_on, VerdictLeft, verdict_left, verdict_leaves, JudgePromise}
use Rattle.wire.proofs.Refused.{Unread, too_many_unsound, Answered}

module _ (day book claims : List ℕ) (price : ℕ) where
  pub judge_unread : Unread day book → Refused 15 ≡ judge_on day price book claims
  unfolding judge_on
  judge_unread u =
      ⊎_elim (λ h. rw (ne_eqb (length day) _ h))
      (λ h. rw (eq-eqb (length day) _ h.0, by_fifteen (day_in day) price (book_in book) (claims_in claims) (too_many_unsound (day_in day) book h.1)))
      u

  pub judge_read :
      {d : Day} {v : Verdict}
      → has_day day ≡ true
      → d ≡ day_in day
      → v ≡ judge_call d price (book_in book) (claims_in claims)
      → v ≡ judge_on day price book claims
  unfolding judge_on
  judge_read h e f = rw h (f ∙ rw e)

  pub judge_answered :
      (reply : List ℕ) {v : Verdict} {row reply' : List ℕ} {r : ℕ}
      → v ≡ judge_on day price book claims
      → row ≡ verdict_numbers v
      → Answered row reply r reply'
      → verdict_left r reply' ≡ verdict_leaves (judge_on day price book claims) reply
  unfolding verdict_leaves
  judge_answered reply {v} {row} {reply'} {r} e f a =
      let n : row ≡ verdict_numbers (judge_on day price book claims) = f ∙ ap verdict_numbers e in
      let told : Answered (verdict_numbers (judge_on day price book claims)) reply r reply' = rw n at a in
      rw (told.0, told.1)

-- `flemorix_judge`
pub judge_determined :
    (price : ℕ) (day book claims reply : List ℕ) (r s : ℕ) (reply₁ reply₂ : List ℕ)
    → JudgePromise day book claims reply price r reply₁
    → JudgePromise day book claims reply price s reply₂
    → (r ≡ s) × (reply₁ ≡ reply₂)
judge_determined price day book claims reply r s reply₁ reply₂ e f =
    let g = e ∙ sym f in (ap (λ (o : VerdictLeft). o.returns) g, ap (λ (o : VerdictLeft). o.reply) g)
