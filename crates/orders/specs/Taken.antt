-- An order that no rule refuses, what is left of it, and room for its trades in the day's figures.
use Rattle.std.specs.Prelude.{ℕ, ◌+◌, ◌^◌, ◌≤◌, ◌<◌, ◌≡◌, List, length}
use Rattle.model.specs.declared.Order.{Order}
use Rattle.model.specs.declared.Asked.{Asked}
use Rattle.model.specs.declared.Trade.{Trade}
use Rattle.model.specs.declared.Day.{Day}
use Rattle.model.specs.Book.{queue}
use Rattle.model.specs.Matching.{filled}
use Rattle.model.specs.Figures as figures
use Rattle.model.specs.Entry.{entry_trades}
use Rattle.model.specs.Words.{Each}
use Rattle.book.specs.Standing.{Fair}
use Rattle.soundness.specs.Ready.{Ready}

-- an order that no rule refuses, with a trade list of so many places
pub record Taken (d : Day) (a : Asked) (book : List Order) (places : ℕ) : Type 0 where
  pub ready : Ready d book
  pub side : a.side ≤ 1
  pub quantity : a.quantity ≤ 1_000_000
  pub price : a.price ≤ 999_999
  pub number : d.issued < 999_999
  pub room : length (queue 0 book) + length (queue 1 book) < length book
  pub fits : length (entry_trades d a book) ≤ places

-- what rests of an order, q shares at p, may join the book
pub record Joins (a : Asked) (number q p : ℕ) (book : List Order) : Type 0 where
  pub fair :
      (q ≡ 0 → ⊥)
      → (p ≡ 0 → ⊥)
      → Fair (record { side = a.side; account = a.account; left = q; price = p; number = number })
  pub real : number ≡ 0 → ⊥
  pub room : length (queue 0 book) + length (queue 1 book) < length book

-- one number and these trades more: no figure of the day overflows, and their prices can be measured from its open
pub record RoomFor (d : Day) (ts : List Trade) : Type 0 where
  pub time : d.time ≤ 86_399
  pub issued : d.issued + 1 < 2 ^ 64
  pub shares : d.shares + filled ts < 2 ^ 64
  pub money : d.turnover + figures.money ts < 2 ^ 64
  pub opened : d.first ≤ 999_999
  pub priced : Each (λ (t : Trade). t.price ≤ 999_999) ts
