-- `day_files::count_records` meets its contract: the invariant is `Counting`. Assumes nothing.
use mathlib.Core.Path.{refl}
use native.Mathlib.Omega.{arith}
use Rattle.std.proofs.lemmas.Result.{err_from_is_err_and}
use Rattle.day_files.proofs.Counting.{counting_start, counting_next, counting_refused, counting_tail, counting_end}
use Rattle.day_files.proofs.count_records.Goals as goal

pub loop-done-init : goal.loop-done-init
loop-done-init c = counting_start _

pub returns-in_err-total : goal.returns-in_err-total
returns-in_err-total c =
    let p = err_from_is_err_and c.from_residual.result c.from_residual.ensures.1 in
    rw (p.1, p.2) (counting_refused c.args.file.now c.loop-done.invariant c.loop-done-test.true refl c.in_err-total.ensures)

pub overflow_add-total : goal.overflow_add-total
overflow_add-total c =
    let k = counting_next c.args.file.now c.loop-done.invariant c.loop-done-test.true refl c.in_ok-total.ensures in
    record { fits = omega (arith, k.0, c.loop-done.invariant.few) }

pub loop-done-preserved : goal.loop-done-preserved
loop-done-preserved c =
    (counting_next c.args.file.now c.loop-done.invariant c.loop-done-test.true refl c.in_ok-total.ensures).1

pub returns-then-whole-file : goal.returns-then-whole-file
returns-then-whole-file c = counting_tail _ c.loop-done.invariant c.loop-done-test.false c.if-whole-file.true

pub returns : goal.returns
returns c = counting_end _ c.loop-done.invariant c.loop-done-test.false c.if-whole-file.false
