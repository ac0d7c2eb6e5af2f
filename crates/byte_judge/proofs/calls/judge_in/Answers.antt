-- `byte_judge::calls::judge_in` meets its contract: loaded and judged. Assumes nothing.
use Rattle.byte_judge.proofs.Reading.{rows_judged}
use Rattle.byte_judge.specs.Claims.{claims_in}
use Rattle.byte_judge.proofs.calls.judge_in.Goals as goal

pub returns : goal.returns
returns c =
    let a = c.args in
    rows_judged a.d a.book.now c.load_book.new.rows (claims_in a.claims.now) a.price c.load_book.ensures c.judge_rows.ensures
