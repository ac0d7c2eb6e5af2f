-- What the judge promises: of the day, the book, the claims and the price, its verdict is the definition's. It can change nothing.
use Rattle.std.specs.Prelude.{ℕ, ◌≡◌, List}
use Rattle.model.specs.declared.Day.{Day}
use Rattle.judge.specs.declared.Claim.{Claim}
use Rattle.judge.specs.declared.Verdict.{Verdict}
use Rattle.judge.specs.Judging.{judge_call}
use Rattle.model.specs.declared.Order.{Order}

abbrev pub JudgePromise : Day → List Order → List Claim → ℕ → Verdict → Type 0
JudgePromise d rows claims price verdict = verdict ≡ judge_call d price rows claims
