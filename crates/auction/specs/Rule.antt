-- The price rule (3.5.2): what it says of the list of all prices that qualify, and of the one that is left.
use Rattle.std.specs.Prelude.{ℕ, ◌≡◌, ◌↔◌, true, false, List, [], length}
use Rattle.model.specs.declared.Order.{Order}
use Rattle.model.specs.Lists.{among}
use Rattle.model.specs.Auction.{qualifying, least_difference, left_by}
use Rattle.model.specs.Sound.{crosses}
use Rattle.model.specs.Words.{Rising, NoGap, Qualifies}

-- the list has every price that qualifies, each once, rising, and no other; it is empty exactly when no buy reaches a sell;
-- otherwise the tie rules leave exactly one price of it, whatever the reference price
pub record PriceRule (book : List Order) : Type 0 where
  pub names : (p : ℕ) → (among (qualifying book) p ≡ true) ↔ Qualifies book p
  pub rising : Rising (qualifying book)
  pub no_gap : NoGap (qualifying book)
  pub empty : (qualifying book ≡ []) ↔ (crosses book ≡ false)
  pub least_no_gap : NoGap (least_difference book)
  pub one : (ref : ℕ) → crosses book ≡ true → length (left_by book ref) ≡ 1
  pub none : (ref : ℕ) → crosses book ≡ false → left_by book ref ≡ []
  pub among_them : (ref p : ℕ) → among (left_by book ref) p ≡ true → Qualifies book p
