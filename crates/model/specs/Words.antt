-- The words in which statements are made, as plain facts: of lists, of a day and its book, of quantities, of an auction's price, and
-- of what an auction grants.
use Rattle.std.specs.Prelude.{ℕ, ◌+◌, ◌≤◌, ◌<◌, ◌≡◌, ◌⊎◌, true, List, [], ◌∷◌, length, get_or, eqb}
use Rattle.model.specs.declared.Order.{Order}
use Rattle.model.specs.declared.Day.{Day}
use Rattle.model.specs.Lists.{keep, total, among}
use Rattle.model.specs.Book.{arranged}
use Rattle.model.specs.Auction.{volume, buys_above, sells_below, buys_at, sells_at}
use Rattle.model.specs.Pairing.{Share}
use Rattle.model.specs.Sound.{has_places, sound}

-- ---- lists

-- every element has the property
abbrev pub Each : {A : Type 0} → (A → Type 0) → List A → Type 0
Each P [] = Unit {0}
Each P (x ∷ xs) = P x × Each P xs

-- one of the elements has it
abbrev pub Some : {A : Type 0} → (A → Type 0) → List A → Type 0
Some P [] = ⊥
Some P (x ∷ xs) = P x ⊎ Some P xs

abbrev pub Rising : List ℕ → Type 0
Rising ps = (i j : ℕ) → i < j → j < length ps → get_or ps i 0 < get_or ps j 0

-- every number of the list between two of its numbers is in it too
abbrev pub NoGap : List ℕ → Type 0
NoGap ps = (p q r : ℕ) → among ps p ≡ true → among ps r ≡ true → p ≤ q → q ≤ r → among ps q ≡ true

-- ---- a day and its book

-- whole fen
pub record Price (p : ℕ) : Type 0 where
  pub low : 1 ≤ p
  pub high : p ≤ 999_999

-- one number, one live order
abbrev pub Apart : List Order → Type 0
Apart [] = Unit {0}
Apart (o ∷ os) = Each (λ p. p.number ≡ o.number → o.number ≡ 0) os × Apart os

-- buys from best to worst, then sells the same, free places last
abbrev pub Ordered : List Order → Type 0
Ordered book = book ≡ arranged (length book) book

-- 1 to 4,096 places, and a sound day: refusal 15 is not given
abbrev pub Sound : Day → List Order → Type 0
Sound d book = (has_places book ≡ true) × (sound d book ≡ true)

-- ---- what the test of an order's quantity says of its side, quantity and balance

abbrev pub InSize : ℕ → Type 0
InSize q = (100 ≤ q) × (q ≤ 1_000_000)

-- all that an account with fewer than 100 shares has
abbrev pub OddLot : ℕ → ℕ → Type 0
OddLot q balance = (1 ≤ q) × (q ≤ 99) × (q ≡ balance)

-- side 0 buys, any other sells
pub record Sized (side q balance : ℕ) : Type 0 where
  pub buy : side ≡ 0 → InSize q × (balance ≡ 0)
  pub sell : (side ≡ 0 → ⊥) → InSize q ⊎ OddLot q balance

-- ---- the auction's price (3.5.2), spelled out

module _ (book : List Order) where
  -- 1: no price has more volume
  abbrev pub Most : ℕ → Type 0
  Most p = (q : ℕ) → Price q → volume book q ≤ volume book p

  -- 2: buys above p and sells below p can all fill within that volume
  abbrev pub BetterFills : ℕ → Type 0
  BetterFills p = (buys_above book p ≤ volume book p) × (sells_below book p ≤ volume book p)

  -- 3: within it, all buys at exactly p, or all sells at exactly p, fill too
  abbrev pub OneFills : ℕ → Type 0
  OneFills p =
      (buys_above book p + buys_at book p ≤ volume book p) ⊎ (sells_below book p + sells_at book p ≤ volume book p)

  pub record Qualifies (p : ℕ) : Type 0 where
    pub price : Price p
    pub trades : 1 ≤ volume book p
    pub most : Most p
    pub better : BetterFills p
    pub one_side : OneFills p

-- ---- what an auction grants

unfoldable pub held : List Share → ℕ
held ss = total (λ s. s.left) ss

-- what a list of shares grants to the order with this number
unfoldable pub granted : ℕ → List Share → ℕ
granted n ss = held (keep (λ s. eqb s.number n) ss)
