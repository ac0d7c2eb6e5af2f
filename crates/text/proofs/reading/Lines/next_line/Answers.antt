-- The first newline from a place on, if there is one. Assumes nothing.
use Prim.Native.Nat.{◌-◌}
use mathlib.Core.Path.{◌≡◌, sym, ap, ◌∙◌}
use native.Mathlib.Omega.{arith}
use lib.Dec.{eqb}
use lib.ListN.{length, drop, length-drop}
use lib.Seq.{take_all}
use Rattle.std.specs.List.{position}
use Rattle.text.proofs.Chunks.{newline_first, newline_missing, beyond}
use Rattle.text.proofs.reading.Lines.next_line.Goals as goal
use Rattle.text.proofs.reading.Lines.next_line.Goals.{In_ok-get}

-- what is looked through is the chunk from the place on
rest_is : (c : In_ok-get) → c.in_ok-get.field-0.now ≡ drop c.args.self.at c.args.self.chunk.now
rest_is c =
    let h = c.in_ok-get.ensures.lookup in
    h.0.2 ∙ take_all (length c.args.self.chunk.now - c.args.self.at) (drop c.args.self.at c.args.self.chunk.now) (omega (arith, length-drop c.args.self.at c.args.self.chunk.now))

pub returns-in_err-get : goal.returns-in_err-get
returns-in_err-get c = c.from_residual.ensures ∙ sym (beyond _ _ (omega (arith, c.in_err-get.ensures.lookup)))

pub returns-in_err-length : goal.returns-in_err-length
returns-in_err-length c =
    c.from_residual-in_err-length.ensures
    ∙ sym (newline_missing _ _ (ap (position (λ b. eqb b 10)) (sym (rest_is (goal.at.returns-in_err-length c).In_ok-get)) ∙ sym c.newline_in.ensures ∙ c.in_err-length.was))

pub returns : goal.returns
returns c =
    sym (newline_first _ _ _ (ap (position (λ b. eqb b 10)) (sym (rest_is (goal.at.returns c).In_ok-get)) ∙ sym c.newline_in.ensures ∙ c.in_ok-length.was))
