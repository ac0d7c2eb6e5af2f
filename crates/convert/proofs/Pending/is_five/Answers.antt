-- What the line with its balance asks for tells what the line is; more than 77 bytes leave no room for one. Assumes nothing.
use Prim.Native.Nat.{ℕ}
use mathlib.Core.Path.{◌≡◌, sym, ap, ◌∙◌}
use mathlib.Core.Bool.{true}
use mathlib.Core.List.{[], ◌∷◌, ◌++◌}
use native.Mathlib.Omega.{arith}
use lib.ListN.{length, take}
use borrow.Author.Rules.{rules}
use Rattle.model.specs.Lines.{line_command}
use Rattle.convert.specs.Promises.{text_of, is_order}
use Rattle.convert.proofs.OneLine.{long_none, is_five}
use Rattle.convert.proofs.Pendings.{all_kept}
use Rattle.convert.proofs.Pending.is_five.Goals as goal
use Rattle.convert.proofs.Pending.is_five.Goals.{After-min}

-- what is read is the line
whole : (c : After-min) → take c.min.result c.args.self.now.bytes ≡ text_of c.args.self.now
whole c = ap (λ (k : ℕ). take k c.args.self.now.bytes) c.min.ensures ∙ all_kept _ _ (search rules)

pub returns-in-Some : goal.returns-in-Some
returns-in-Some c =
    let w = c.in-Some.ensures in
    let e = whole (goal.at.returns-in-Some c).After-min in
    c.is_order.ensures
    ∙ ap is_order (c.command_of.ensures ∙ ap (λ s. line_command (record { text = s; ended = true })) (c.deref.ensures.0 ∙ w.0 ∙ ap (λ s. s ++ 32 ∷ 48 ∷ []) e))
    ∙ is_five (text_of c.args.self.now) (omega (arith, w.1, ap length e))

pub returns-in-None : goal.returns-in-None
returns-in-None c =
    let e = whole (goal.at.returns-in-None c).After-min in
    sym (long_none (text_of c.args.self.now) (omega (arith, c.in-None.ensures, ap length e)))
