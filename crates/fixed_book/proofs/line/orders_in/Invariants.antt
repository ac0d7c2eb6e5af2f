-- All places passed so far have an order.
use Prim.Native.Nat.{◌≤◌}
use lib.ListN.{length}
use Rattle.model.specs.Lists.{keep}
use Rattle.model.specs.Book.{is_live}
use Rattle.fixed_book.proofs.line.orders_in.Given as goal

abbrev pub invariant-loop-i : goal.invariant-loop-i
invariant-loop-i l = l.i ≤ length (keep is_live l.rows)
