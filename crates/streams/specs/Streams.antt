-- What a read brought lies in the buffer, after what was kept, which stays.
use Rattle.std.specs.Prelude.{ℕ, ◌≤◌, ◌<◌, ◌≡◌, List, Option, length, take}
use Rattle.std.specs.List.{between}
use Rattle.std.specs.Io.KnownBytes.{Consumes, Keeps, IsAtEnd}
use Rattle.streams.specs.declared.Input.{Input}
use Rattle.streams.specs.declared.Input.TheVariants.{Failed, Ended, Bytes}

abbrev pub Filled : ℕ → List ℕ → List ℕ → Input → Type 0
Filled kept before after Failed = Unit {0}
Filled kept before after Ended = Unit {0}
Filled kept before after (Bytes n) = (kept ≤ n) × (n ≤ length after) × (take kept after ≡ take kept before)

-- where it is known what the reader has to give, `before` and `after` the read: what was brought is the first of that, and
-- nothing is left where it has ended and there was room
abbrev pub Reads : Option (List ℕ) → Option (List ℕ) → ℕ → List ℕ → Input → Type 0
Reads before after kept buf Failed = Keeps before after
Reads before after kept buf Ended = kept < length buf → IsAtEnd after
Reads before after kept buf (Bytes n) = Consumes before after (between kept n buf)
