-- Those looked at so far stand first, with free places behind them (`Closing`).
use mathlib.Core.Path.{◌≡◌, sym, ap, ◌∙◌}
use native.Mathlib.Omega.{arith}
use lib.ListN.{length, length-map}
use Rattle.model.specs.FixedBook.{lined}
use Rattle.fixed_book.proofs.Closing.{closing_start, up_to, closing_long, closing_next, closing_end}
use Rattle.fixed_book.proofs.line.line_up.Goals as goal

pub loop-i-init : goal.loop-i-init
loop-i-init c = closing_start _

pub bring_up-to-requires : goal.bring_up-to-requires
bring_up-to-requires c =
    record { from_in_bounds = omega arith; to_le_from = up_to c.args.rows.now c.loop-i.invariant }

pub loop-i-preserved : goal.loop-i-preserved
loop-i-preserved c =
    let rows₀ = c.args.rows.now in
    let long : length c.loop-i.rows ≡ length rows₀ =
    closing_long rows₀ c.loop-i.invariant
    in
    closing_next rows₀ c.loop-i.invariant (omega arith) c.requires c.bring_up-to.ensures

pub shape_of-rows : goal.shape_of-rows
shape_of-rows c =
    let rows₀ = c.args.rows.now in
    let long : length c.loop-i.rows ≡ length rows₀ =
    closing_long rows₀ c.loop-i.invariant
    in
    long

pub returns : goal.returns
returns c =
    let rows₀ = c.args.rows.now in
    let long : length c.loop-i.rows ≡ length rows₀ =
    closing_long rows₀ c.loop-i.invariant
    in
    closing_end rows₀ c.loop-i.invariant (omega arith)
