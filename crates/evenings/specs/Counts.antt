-- How many blocks a move will confirm, and how many fixed-price trades it will have.
use Rattle.std.specs.Prelude.{ℕ, List, not, length, if◌then◌else◌}
use Rattle.model.specs.declared.Order.{Order}
use Rattle.model.specs.declared.Declaration.{Declaration}
use Rattle.model.specs.Lists.{keep}
use Rattle.model.specs.FixedBook.{is_void, matches}
use Rattle.model.specs.Blocks.{confirmations}
use Rattle.moves.specs.Stops.{passes}

-- where it passes 15:00
unfoldable pub confirmed_ahead : ℕ → ℕ → List Declaration → ℕ
confirmed_ahead old new held = if passes 54_000 old new then length (confirmations held) else 0

-- where it passes 15:05, at this close
unfoldable pub matched_ahead : ℕ → ℕ → ℕ → List Order → ℕ
matched_ahead close old new book =
    if passes 54_300 old new then length (matches close (keep (λ o. not (is_void close o)) book)) else 0
