-- A space, a minus sign where it is due, and the digits of the size. Assumes nothing.
use mathlib.Core.Path.{ap, ◌∙◌}
use mathlib.Core.List.{List, ◌∷◌}
use Prim.Native.Nat.{ℕ}
use lib.IntN.{nat_abs}
use mir.Syntax.{w64}
use mir.ValLaws.{to_z-of_z}
use Rattle.printing.proofs.Printed.{and_then, put_as}
use Rattle.floor_printing.proofs.Signing.{minus_signed, plus_signed}
use Rattle.floor_printing.proofs.put_signed.Goals as goal

pub returns-then-z-lt0 : goal.returns-then-z-lt0
returns-then-z-lt0 c =
    put_as (ap (λ (l : List ℕ). 32 ∷ l) (minus_signed c.args.z c.ranges.z c.if-z-lt0.true (c.unsigned_abs-n.ensures.value ∙ ap nat_abs (to_z-of_z w64 _ c.ranges.z))))
    (and_then (and_then c.put_byte-p.ensures c.put_byte-q.ensures) c.put_digits.ensures)

pub returns : goal.returns
returns c =
    put_as (ap (λ (l : List ℕ). 32 ∷ l) (plus_signed c.args.z c.ranges.z c.if-z-lt0.false (c.unsigned_abs-n.ensures.value ∙ ap nat_abs (to_z-of_z w64 _ c.ranges.z))))
    c.put_number.ensures
