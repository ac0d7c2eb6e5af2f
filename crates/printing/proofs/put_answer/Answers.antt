-- By the refusal's number, which stands first.
use Rattle.printing.proofs.Printed.{put_as}
use Rattle.printing.proofs.Replied.{accepted_line, refused_line_lem}
use Rattle.printing.proofs.put_answer.Goals as goal

pub returns-then-refusal-eq0 : goal.returns-then-refusal-eq0
returns-then-refusal-eq0 c =
    put_as (accepted_line c.args.letter c.args.numbers.now c.requires.0 c.if-refusal-eq0.true) c.put_reply.ensures

pub returns : goal.returns
returns c =
    put_as (refused_line_lem c.args.letter c.args.numbers.now c.requires.0 c.if-refusal-eq0.false) c.put_refusal.ensures
