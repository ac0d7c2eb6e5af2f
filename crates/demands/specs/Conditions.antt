-- Which of the three conditions on an auction price matters: the second, with a volume of at least 1, gives the other two. For
-- every price of every sound book.
use Rattle.std.specs.Prelude.{ℕ, ◌≤◌, ◌≡◌, true, ◌&&◌, List, leb}
use Rattle.model.specs.declared.Order.{Order}
use Rattle.model.specs.declared.Day.{Day}
use Rattle.model.specs.Auction.{volume, most_trades, better_fill, one_side_fills, qualifies, qualifying, least_difference}
use Rattle.model.specs.Words.{Price, NoGap, Sound}

pub record OneTest (book : List Order) : Type 0 where
  -- 2 gives 1 and 3
  pub gives_all :
      (p : ℕ)
      → Price p
      → 1 ≤ volume book p
      → better_fill book p ≡ true
      → (most_trades book p ≡ true) × (one_side_fills book p ≡ true)
  -- so a price qualifies exactly when at least one share trades there and the second condition holds
  pub alone : (p : ℕ) → Price p → qualifies book p ≡ (leb 1 (volume book p) && better_fill book p)
  -- between two qualifying prices every price qualifies
  pub no_gap : NoGap (qualifying book)
  -- and between two with the smallest absolute surplus every one has it
  pub least_no_gap : NoGap (least_difference book)

pub record Conditions : Type 0 where
  pub one_test : (d : Day) (book : List Order) → Sound d book → OneTest book
