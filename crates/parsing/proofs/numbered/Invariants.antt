-- The words read so far are numbers, and stand at the front of the values.
use Prim.Native.Nat.{ℕ, ◌≤◌}
use mathlib.Core.Path.{◌≡◌}
use mathlib.Core.List.{List, map}
use lib.ListN.{length, take}
use denote.Ref.{Bor}
use Rattle.parsing.proofs.Words.{Numbers}
use Rattle.parsing.proofs.numbered.Given as goal

abbrev pub invariant-loop-word : goal.invariant-loop-word
invariant-loop-word l =
    (l.count ≤ 6) × (length l.values ≡ 6) × Numbers (map (λ (w : Bor (List ℕ)). w.now) l.yielded) (take l.count l.values)
