-- All places passed so far have an order.
use mathlib.Core.Path.{◌≡◌, refl, sym, ◌∙◌}
use native.Mathlib.Omega.{arith}
use lib.ListN.{length}
use Rattle.model.specs.Book.{free}
use Rattle.fixed_book.proofs.Counting.{counted_next, counted_free, counted_all}
use Rattle.fixed_book.proofs.line.orders_in.Goals as goal

pub returns-then-not-is_live : goal.returns-then-not-is_live
unfolding free
returns-then-not-is_live c =
    counted_free c.args.rows.now c.requires _ refl c.loop-i.invariant
    (sym c.is_live.ensures ∙ c.if-not-is_live.true)

pub loop-i-preserved : goal.loop-i-preserved
unfolding free
loop-i-preserved c =
    counted_next c.args.rows.now c.requires _ refl (sym c.is_live.ensures ∙ c.if-not-is_live.false)

pub returns : goal.returns
returns c =
    let all : c.loop-i.i ≡ length c.args.rows.now = omega arith in
    sym all ∙ counted_all c.args.rows.now c.requires c.loop-i.invariant (omega arith)
