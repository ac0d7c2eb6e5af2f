-- One line, answered in any memory.
use Rattle.std.specs.Prelude.{ℕ, ◌≡◌, Bool, true, false, ◌&&◌, List, eqb, leb, length, Option, None, Some}
use Rattle.model.specs.Lines.{Line, line_command}
use Rattle.desk.specs.declared.Desk.{Desk}
use Rattle.desk.specs.declared.Answered.{Answered}
use Rattle.desk.specs.Desks.{Answering}
use Rattle.model.specs.declared.Order.{Order}
use Rattle.model.specs.declared.Trade.{Trade}

-- the memory that the program lends: 1,024 places, 2,048 trades, and an output that holds the longest answer
unfoldable pub fits : ℕ → ℕ → ℕ → Bool
fits places trades output = eqb places 1_024 && (eqb trades 2_048 && leb 262_254 output)

-- in such memory the line is answered at the output's front; any other memory is left as it is
pub record OneLine (l : Line) (desk : Desk) (rows : List Order) (trades : List Trade) (out : List ℕ) (rows' : List Order) (trades' : List Trade) (out' : List ℕ) (r : Option Answered) : Type 0 where
  pub given :
      fits (length rows) (length trades) (length out) ≡ true
      → (a : Answered) × (r ≡ Some a) × Answering (line_command l) desk rows trades out 0 rows' trades' out' a
  pub unfit :
      fits (length rows) (length trades) (length out) ≡ false
      → (r ≡ None) × (rows' ≡ rows) × (trades' ≡ trades) × (out' ≡ out)
