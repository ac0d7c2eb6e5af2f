-- By what is carried: nothing but that the line is too long, or all of the tail.
use Prim.Native.Nat.{ℕ, ◌-◌, ◌≤◌}
use mathlib.Core.Path.{◌≡◌, refl, sym}
use mathlib.Core.List.{List}
use mathlib.Core.Logic.{⊎_elim}
use native.Mathlib.Omega.{arith}
use lib.ListN.{length, take, drop, length-drop}
use lib.Seq.{length-take-le}
use Rattle.text.proofs.Carrying.{carried_long, carried_grown, carried_whole}
use Rattle.text.proofs.reading.carry_over.Goals as goal

-- the tail has as many bytes as stand there
tail_size : (buf : List ℕ) (start end : ℕ) → start ≤ end → end ≤ length buf → length (take (end - start) (drop start buf)) ≡ end - start
tail_size buf start end h k = length-take-le (end - start) (drop start buf) (rw length-drop (omega arith))

pub returns-then-rest-gt-LONGEST_LINE : goal.returns-then-rest-gt-LONGEST_LINE
returns-then-rest-gt-LONGEST_LINE c =
    let t = tail_size c.args.buf.now c.args.start c.args.end c.requires.0 c.requires.1 in
    ⊎_elim
    (λ w. carried_long _ _ _ _ w refl)
    (λ w. carried_grown _ _ _ _ w.0 (omega (arith, t, w.1)) refl)
    c.if-rest-gt-LONGEST_LINE.either

pub returns-else-rest-gt-LONGEST_LINE : goal.returns-else-rest-gt-LONGEST_LINE
returns-else-rest-gt-LONGEST_LINE c =
    let t = tail_size c.args.buf.now c.args.start c.args.end c.requires.0 c.requires.1 in
    carried_whole _ _ _ _ _ c.if-rest-gt-LONGEST_LINE.false.0 (sym t) c.if-rest-gt-LONGEST_LINE.false.1 c.to_front.ensures
