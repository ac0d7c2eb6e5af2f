-- What is proved of the judge, as statements: each can be read without its proof.
use Rattle.std.specs.Prelude.{ℕ, ◌+◌, ◌≤◌, ◌≡◌, ◌↔◌, true, List, [], ◌∷◌, ◌++◌, map}
use Rattle.model.specs.declared.Order.{Order}
use Rattle.model.specs.declared.Trade.{Trade}
use Rattle.model.specs.declared.Day.{Day}
use Rattle.model.specs.Book.{is_live}
use Rattle.model.specs.Auction.{qualifying, auction_price}
use Rattle.model.specs.Refusals.{unsound}
use Rattle.model.specs.ClockCall.{auction_trades}
use Rattle.model.specs.Words.{Each, Sound}
use Rattle.judge.specs.declared.Claim.{Claim}
use Rattle.judge.specs.declared.Verdict.{Verdict}
use Rattle.judge.specs.declared.Verdict.TheVariants.{Refused, Yes}
use Rattle.judge.specs.Judging.{has_order, claimed_for, granted_to, judge_call}
use Rattle.judge.specs.Promises.{JudgePromise}

-- a trade joins a live buy with a live sell for at least one share
pub record Joins (book : List Order) (c : Claim) : Type 0 where
  pub some : 1 ≤ c.shares
  pub buy : has_order 0 book c.buyer ≡ true
  pub sell : has_order 1 book c.seller ≡ true

-- the price is the one that is left, every trade joins, and each live order's fills add up to what priority grants it
pub record Right (d : Day) (price : ℕ) (book : List Order) (cs : List Claim) : Type 0 where
  pub left : price ≡ auction_price d book
  pub joined : Each (Joins book) cs
  pub granted : Each (λ o. is_live o ≡ true → claimed_for o cs ≡ granted_to price book o) book

-- a trade of ours as a claim
unfoldable pub our_claim : Trade → Claim
our_claim t = record { shares = t.quantity; buyer = t.buyer; seller = t.seller }

pub record Judging : Type 0 where
  -- 15 exactly where the day is not sound, and no other refusal
  pub refused :
      (d : Day) (price : ℕ) (book : List Order) (cs : List Claim) (n : ℕ)
      → (judge_call d price book cs ≡ Refused n) ↔ ((n ≡ 15) × (unsound d book ≡ true))
  -- yes exactly when price, trades and fills are right
  pub exactly :
      (d : Day) (price : ℕ) (book : List Order) (cs : List Claim)
      → Sound d book
      → (judge_call d price book cs ≡ Yes) ↔ Right d price book cs
  -- our own auction's trades always get a yes
  pub own :
      (d : Day) (book : List Order)
      → Sound d book
      → judge_call d (auction_price d book) book (map our_claim (auction_trades d book)) ≡ Yes
  -- with no price left, yes only for price 0 and no trades
  pub none_left :
      (d : Day) (price : ℕ) (book : List Order) (cs : List Claim)
      → Sound d book
      → qualifying book ≡ []
      → (judge_call d price book cs ≡ Yes) ↔ ((price ≡ 0) × (cs ≡ []))
  -- the order of the list is free, and so is how the shares of two orders are cut into trades
  pub any_order :
      (d : Day) (price : ℕ) (book : List Order) (cs ds : List Claim) (a b : Claim)
      → judge_call d price book (cs ++ (a ∷ b ∷ ds)) ≡ judge_call d price book (cs ++ (b ∷ a ∷ ds))
  pub any_cut :
      (d : Day) (price : ℕ) (book : List Order) (m n buyer seller : ℕ) (cs : List Claim)
      → 1 ≤ m
      → 1 ≤ n
      → judge_call d price book (record { shares = m + n; buyer = buyer; seller = seller } ∷ cs)
      ≡ judge_call d price book
      (record { shares = m; buyer = buyer; seller = seller } ∷ record { shares = n; buyer = buyer; seller = seller } ∷ cs)
  -- but nothing else is: two lists that get a yes have the same price and fill every order alike
  pub fixed :
      (d : Day) (p q : ℕ) (book : List Order) (cs ds : List Claim)
      → judge_call d p book cs ≡ Yes
      → judge_call d q book ds ≡ Yes
      → (p ≡ q) × Each (λ o. is_live o ≡ true → claimed_for o cs ≡ claimed_for o ds) book
  -- any rows of any numbers get an answer, and one alone
  pub answered :
      (d : Day) (rows : List Order) (claims : List Claim) (price : ℕ)
      → (v : Verdict) × JudgePromise d rows claims price v × ((w : Verdict) → JudgePromise d rows claims price w → w ≡ v)
  -- and no sum that passes the width of a number comes round to a yes: what is claimed in all for an order is no more than it has
  pub never_round :
      (d : Day) (rows : List Order) (claims : List Claim) (price : ℕ)
      → JudgePromise d rows claims price Yes
      → Each (λ o. is_live o ≡ true → (claimed_for o claims ≤ o.left) × (o.left ≤ 1_000_000)) rows
