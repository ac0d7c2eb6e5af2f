-- What the converter promises of a chunk.
use Rattle.std.specs.Prelude.{ℕ, ◌*◌, ◌≡◌, Bool, true, false, List, Option, Some, None, is_some, leb, length, take}
use Rattle.model.specs.declared.Command.{Command}
use Rattle.model.specs.declared.Command.TheVariants.{Malformed, Asks}
use Rattle.model.specs.declared.Event.TheVariants.{Open, Clock, Order, Cancel}
use Rattle.printing.specs.Printing.{Wrote}
use Rattle.convert.specs.declared.Pending.{Pending}
use Rattle.convert.specs.Chunkwise.{converted_from, line_after, remembered}

unfoldable pub is_order : Command → Bool
is_order Malformed = false
is_order (Asks (Open close mark)) = false
is_order (Asks (Clock t)) = false
is_order (Asks (Order a)) = true
is_order (Asks (Cancel account number)) = false

-- the bytes of the line that has not ended
abbrev pub text_of : Pending → List ℕ
text_of p = take p.kept p.bytes

-- the chunk's conversion is put at a place, and the line that has not ended then is remembered
pub record Converts (line chunk before : List ℕ) (at : ℕ) (after : List ℕ) (next : ℕ) (pending : Pending) : Type 0 where
  pub text : Wrote before at (converted_from line chunk) after next
  pub rest : text_of pending ≡ remembered (line_after line chunk)

-- at the front of an output that has three bytes for each byte of the chunk; any other stays
pub record Answers (line : Pending) (chunk before after : List ℕ) (r : Option ℕ) (pending : Pending) : Type 0 where
  pub fits : is_some r ≡ leb (3 * length chunk) (length before)
  pub done : (next : ℕ) → r ≡ Some next → Converts (text_of line) chunk before 0 after next pending
  pub refused : r ≡ None → (after ≡ before) × (pending ≡ line)
