-- Which of some prices a list with so many places is given.
use Rattle.std.specs.Prelude.{ℕ, min, List, length, get_or}
use Rattle.auction.specs.declared.Run.{Run}

-- from the first on as many as fit, and the next one due, or 0
unfoldable pub run_within : ℕ → List ℕ → Run
run_within places ps =
    record { first = get_or ps 0 0; count = min places (length ps); next = get_or ps places 0 }
