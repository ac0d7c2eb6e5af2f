-- Place by place: the test that is still to be made, with the numbers used so far, is the whole test.
use mathlib.Core.Path.{◌≡◌}
use lib.ListN.{length}
use Rattle.soundness.proofs.Numbers.{Tested}
use Rattle.soundness.proofs.places.places_with.Given as goal

abbrev pub invariant-loop-o : goal.invariant-loop-o
invariant-loop-o l = (length l.used ≡ length l.initial.used) × Tested l.day l.rows l.used l.o-index
