-- The judge's verdict on the front of the claims. Assumes nothing.
use mathlib.Core.Path.{sym, ap}
use lib.Seq.{length-take-le}
use Rattle.judge.specs.declared.Verdict.{Verdict}
use Rattle.judge.specs.Judging.{verdict_numbers}
use Rattle.model.specs.Lines.{reply_line}
use Rattle.printing.proofs.Printed.{put_as}
use Rattle.floor_desk.proofs.asking.answer_verdict.Goals as goal

pub slice_bounds-judge_call-end : goal.slice_bounds-judge_call-end
slice_bounds-judge_call-end c =
    sym (length-take-le c.args.noted c.args.claims.now c.requires.0)

pub returns : goal.returns
returns c = put_as (ap (λ (v : Verdict). reply_line 74 (verdict_numbers v)) c.judge_call-told.ensures) c.put_verdict.ensures
