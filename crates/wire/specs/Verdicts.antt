-- The judge on bytes: what it leaves in memory, and what it promises. Day, book and claims are only read.
use Rattle.std.specs.Prelude.{ℕ, ◌≡◌, List, if◌then◌else◌}
use Rattle.records.specs.Layout.{day_in, book_in, returned, replied}
use Rattle.judge.specs.declared.Verdict.{Verdict}
use Rattle.judge.specs.declared.Verdict.TheVariants.{Refused}
use Rattle.judge.specs.Judging.{judge_call, verdict_numbers}
use Rattle.byte_judge.specs.Claims.{claims_in}
use Rattle.wire.specs.Exports.{has_day}

unfoldable pub judge_on : List ℕ → ℕ → List ℕ → List ℕ → Verdict
judge_on day price book claims =
    if has_day day then judge_call (day_in day) price (book_in book) (claims_in claims) else Refused 15

pub record VerdictLeft : Type 0 where
  pub returns : ℕ
  pub reply : List ℕ

abbrev pub verdict_left : ℕ → List ℕ → VerdictLeft
verdict_left r reply = record { returns = r; reply = reply }

unfoldable pub verdict_leaves : Verdict → List ℕ → VerdictLeft
verdict_leaves v reply = record { returns = returned (verdict_numbers v); reply = replied (verdict_numbers v) reply }

abbrev pub JudgePromise : List ℕ → List ℕ → List ℕ → List ℕ → ℕ → ℕ → List ℕ → Type 0
JudgePromise day book claims reply price r reply' =
    verdict_left r reply' ≡ verdict_leaves (judge_on day price book claims) reply
