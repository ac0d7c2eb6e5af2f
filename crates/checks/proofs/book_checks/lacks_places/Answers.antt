-- `checks::book_checks::lacks_places` meets its contract: as many places as the book has are enough; else the trades are counted.
-- Assumes nothing.
use mathlib.Core.Path.{ap}
use Prim.Native.Nat.{ℕ}
use lib.Dec.{ltb}
use Rattle.model.specs.Entry.{entry_trades}
use Rattle.checks.proofs.BookRules.{list_holds_entry, counted_trades}
use Rattle.checks.proofs.book_checks.lacks_places.Goals as goal

pub returns-then-rows-places : goal.returns-then-rows-places
returns-then-rows-places c =
    let a = c.args in
    list_holds_entry a.d a.a a.rows.now a.places c.if-rows-places.true

pub returns : goal.returns
returns c =
    let a = c.args in
    ap (λ (n : ℕ). ltb a.places n) (counted_trades (entry_trades a.d a.a a.rows.now) c.enter_trades-counted.ensures.value)
