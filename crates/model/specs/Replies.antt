-- This paper's numbers for each case of each reply: the refusal's number first, 0 where the call is accepted, then the
-- values; a refused call returns its number and zeros.
use Rattle.std.specs.Prelude.{ℕ, List, [], ◌∷◌, ℤ, pos}
use Rattle.model.specs.declared.Entry.{Entry}
use Rattle.model.specs.declared.Remainder.{Remainder}
use Rattle.model.specs.declared.Remainder.TheVariants.{Nothing, Rests, Withdrawn}
use Rattle.model.specs.declared.OpenReply as OpenReply
use Rattle.model.specs.declared.OrderReply as OrderReply
use Rattle.model.specs.declared.BlockReply as BlockReply
use Rattle.model.specs.declared.CancelReply as CancelReply
use Rattle.model.specs.declared.ClockReply as ClockReply
use Rattle.model.specs.declared.MoveReply as MoveReply
use Rattle.model.specs.declared.ReportReply as ReportReply
use Rattle.model.specs.declared.ListReply as ListReply

unfoldable pub resting_of : Remainder → ℕ
resting_of Nothing = 0
resting_of (Rests q) = q
resting_of (Withdrawn q) = 0

unfoldable pub withdrawn_of : Remainder → ℕ
withdrawn_of Nothing = 0
withdrawn_of (Rests q) = 0
withdrawn_of (Withdrawn q) = q

-- number, filled, resting, withdrawn, levels
unfoldable pub entry_numbers : Entry → List ℕ
entry_numbers e =
    e.number ∷ e.filled ∷ resting_of e.remainder ∷ withdrawn_of e.remainder ∷ e.levels ∷ []

unfoldable pub open_numbers : OpenReply.OpenReply → List ℕ
open_numbers (OpenReply.TheVariants.Refused n) = n ∷ []
open_numbers (OpenReply.TheVariants.Opened d) = 0 ∷ []

unfoldable pub order_numbers : OrderReply.OrderReply → List ℕ
order_numbers (OrderReply.TheVariants.Refused n) = n ∷ 0 ∷ 0 ∷ 0 ∷ 0 ∷ 0 ∷ []
order_numbers (OrderReply.TheVariants.Accepted e) = 0 ∷ entry_numbers e

-- number, and how many confirmations: 0 where it is held, 1 where it is confirmed
unfoldable pub block_numbers : BlockReply.BlockReply → List ℕ
block_numbers (BlockReply.TheVariants.Refused n) = n ∷ 0 ∷ 0 ∷ []
block_numbers (BlockReply.TheVariants.Held number) = 0 ∷ number ∷ 0 ∷ []
block_numbers (BlockReply.TheVariants.Confirmed number) = 0 ∷ number ∷ 1 ∷ []

-- the shares withdrawn
unfoldable pub cancel_numbers : CancelReply.CancelReply → List ℕ
cancel_numbers (CancelReply.TheVariants.Refused n) = n ∷ 0 ∷ []
cancel_numbers (CancelReply.TheVariants.Withdrawn q) = 0 ∷ q ∷ []

-- the phase of the new time, and how many trades
unfoldable pub clock_numbers : ClockReply.ClockReply → List ℕ
clock_numbers (ClockReply.TheVariants.Refused n) = n ∷ 0 ∷ 0 ∷ []
clock_numbers (ClockReply.TheVariants.Moved phase trades) = 0 ∷ phase ∷ trades ∷ []

-- the same over all lists: behind the trades of the main book the blocks confirmed and the fixed-price trades, then the void and
-- the lapsed fixed-price shares
unfoldable pub move_numbers : MoveReply.MoveReply → List ℕ
move_numbers (MoveReply.TheVariants.Refused n) = n ∷ 0 ∷ 0 ∷ 0 ∷ 0 ∷ 0 ∷ 0 ∷ []
move_numbers (MoveReply.TheVariants.Moved m) =
    0 ∷ m.phase ∷ m.trades ∷ m.confirmed ∷ m.fixed ∷ m.void ∷ m.lapsed ∷ []

-- price, volume, surplus, which has a sign
unfoldable pub report_numbers : ReportReply.ReportReply → List ℤ
report_numbers (ReportReply.TheVariants.Refused n) = pos n ∷ pos 0 ∷ pos 0 ∷ pos 0 ∷ []
report_numbers (ReportReply.TheVariants.Priced price volume surplus) = pos 0 ∷ pos price ∷ pos volume ∷ surplus ∷ []

-- how many are written, and the next one due
unfoldable pub list_numbers : ListReply.ListReply → List ℕ
list_numbers (ListReply.TheVariants.Refused n) = n ∷ 0 ∷ 0 ∷ []
list_numbers (ListReply.TheVariants.Listed count next) = 0 ∷ count ∷ next ∷ []
