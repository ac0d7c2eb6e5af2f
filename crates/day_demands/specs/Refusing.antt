-- Demand 1 for the calls of the fixed-price book and of block trades, and for the two calls over all lists: a refusal is given exactly
-- when its rule says, a refused call leaves all that it was lent as it was, and a long trade list never lacks room.
use Rattle.std.specs.Prelude.{ℕ, ◌+◌, ◌≤◌, ◌≡◌, List, length}
use Rattle.model.specs.declared.Order.{Order}
use Rattle.model.specs.declared.Declaration.{Declaration}
use Rattle.model.specs.declared.AskedFixed.{AskedFixed}
use Rattle.model.specs.declared.AskedBlock.{AskedBlock}
use Rattle.model.specs.declared.Trade.{Trade}
use Rattle.model.specs.declared.Day.{Day}
use Rattle.model.specs.declared.OpenReply as OpenReply
use Rattle.model.specs.declared.OrderReply as OrderReply
use Rattle.model.specs.declared.BlockReply as BlockReply
use Rattle.model.specs.declared.CancelReply as CancelReply
use Rattle.model.specs.declared.MoveReply as MoveReply
use Rattle.model.specs.Books.{Books}
use Rattle.model.specs.FixedCalls.{fixed_rules, fixed_call, fixed_cancel_rules, fixed_cancel_call}
use Rattle.model.specs.BlockCalls.{block_rules, block_call}
use Rattle.model.specs.AllCalls.{open_all_rules, open_all_call, clock_all_rules, clock_all_call}
use Rattle.demands.specs.Refusing.{RefusesBy}

-- for any day, lists and numbers
pub record OthersRefusal : Type 0 where
  pub opening :
      (close mark : ℕ) (s : Books)
      → RefusesBy OpenReply.TheVariants.Refused (open_all_rules close mark s) (open_all_call close mark s).reply
  pub clock :
      (d : Day) (t : ℕ) (s : Books) (lent : List Trade)
      → RefusesBy MoveReply.TheVariants.Refused (clock_all_rules d t s (length lent)) (clock_all_call d t s lent).answer.reply
  pub fixed :
      (d : Day) (a : AskedFixed) (main book : List Order) (lent : List Trade)
      → RefusesBy OrderReply.TheVariants.Refused (fixed_rules d a main book (length lent)) (fixed_call d a main book lent).answer.reply
  pub fixed_cancel :
      (d : Day) (account number : ℕ) (main book : List Order)
      → RefusesBy CancelReply.TheVariants.Refused (fixed_cancel_rules d account number main book)
      (fixed_cancel_call d account number main book).reply
  pub block :
      (d : Day) (a : AskedBlock) (main : List Order) (held : List Declaration) (lent : List Trade)
      → RefusesBy BlockReply.TheVariants.Refused (block_rules d a main held (length lent)) (block_call d a main held lent).answer.reply

-- a refused call leaves the lists, the day that is handed back, its screen with it, and the trade list as they were. The main book is
-- only read by the calls of the other two lists, and a cancel of a fixed-price order hands no day back.
pub record OthersUntouched : Type 0 where
  pub opening :
      (close mark n : ℕ) (s : Books)
      → (open_all_call close mark s).reply ≡ OpenReply.TheVariants.Refused n
      → (open_all_call close mark s).books ≡ s
  pub clock :
      (d : Day) (t : ℕ) (s : Books) (lent : List Trade) (n : ℕ)
      → (clock_all_call d t s lent).answer.reply ≡ MoveReply.TheVariants.Refused n
      → ((clock_all_call d t s lent).answer.day ≡ d)
      × ((clock_all_call d t s lent).answer.made ≡ 0)
      × ((clock_all_call d t s lent).books ≡ s)
      × ((clock_all_call d t s lent).trades ≡ lent)
  pub fixed :
      (d : Day) (a : AskedFixed) (main book : List Order) (lent : List Trade) (n : ℕ)
      → (fixed_call d a main book lent).answer.reply ≡ OrderReply.TheVariants.Refused n
      → ((fixed_call d a main book lent).answer.day ≡ d)
      × ((fixed_call d a main book lent).answer.made ≡ 0)
      × ((fixed_call d a main book lent).book ≡ book)
      × ((fixed_call d a main book lent).trades ≡ lent)
  pub fixed_cancel :
      (d : Day) (account number n : ℕ) (main book : List Order)
      → (fixed_cancel_call d account number main book).reply ≡ CancelReply.TheVariants.Refused n
      → (fixed_cancel_call d account number main book).book ≡ book
  pub block :
      (d : Day) (a : AskedBlock) (main : List Order) (held : List Declaration) (lent : List Trade) (n : ℕ)
      → (block_call d a main held lent).answer.reply ≡ BlockReply.TheVariants.Refused n
      → ((block_call d a main held lent).answer.day ≡ d)
      × ((block_call d a main held lent).answer.made ≡ 0)
      × ((block_call d a main held lent).held ≡ held)
      × ((block_call d a main held lent).trades ≡ lent)

-- a trade list as long as the fixed-price book has room for every order there, one place is enough for a declaration, and one as long
-- as all lists together for every move: 13 is not given
pub record OthersNeverLacking : Type 0 where
  pub fixed :
      (d : Day) (a : AskedFixed) (main book : List Order) (lent : List Trade)
      → length book ≤ length lent
      → (fixed_call d a main book lent).answer.reply ≡ OrderReply.TheVariants.Refused 13
      → ⊥
  pub block :
      (d : Day) (a : AskedBlock) (main : List Order) (held : List Declaration) (lent : List Trade)
      → 1 ≤ length lent
      → (block_call d a main held lent).answer.reply ≡ BlockReply.TheVariants.Refused 13
      → ⊥
  pub clock :
      (d : Day) (t : ℕ) (s : Books) (lent : List Trade)
      → length s.main + length s.fixed + length s.blocks ≤ length lent
      → (clock_all_call d t s lent).answer.reply ≡ MoveReply.TheVariants.Refused 13
      → ⊥
