-- A test as a number, and what is told at the front of a buffer.
use Rattle.std.specs.Prelude.{ℕ, ◌≤◌, Bool, List, length, if◌then◌else◌}
use Rattle.printing.specs.Printing.{Wrote}

abbrev pub mark : Bool → ℕ
mark t = if t then 1 else 0

pub record Tells (text said said' : List ℕ) (next : ℕ) : Type 0 where
  pub put : Wrote said 0 text said' next
  pub room : next ≤ length said
