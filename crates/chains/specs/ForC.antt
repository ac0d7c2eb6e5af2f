-- What a C author may rely on, said of the slices alone.
use Rattle.std.specs.Prelude.{ℕ, ◌≤◌, ◌≡◌, List, [], ◌∷◌, ◌++◌, length, drop, eqb, if◌then◌else◌}
use Rattle.model.specs.declared.Asked.{Asked}
use Rattle.model.specs.Lists.{from}
use Rattle.model.specs.Words.{Each, Some}
use Rattle.demands.specs.Owning.{TakesOut}
use Rattle.demands.specs.Chains.{Link, Chained, last_left}
use Rattle.records.specs.Layout.{book_in, number_in}
use Rattle.wire.specs.Promises.{OpenPromise, ClockPromise, OrderPromise, CancelPromise, ListPromise}
use Rattle.chains.specs.Bytes.{Slice, Memory, Asks, Clock, Order, Cancel, Report, Prices, Reply, Gives, Promise, door, OpenedOn}

-- the number that a call returned
unfoldable pub returned_by : (a : Asks) → Gives a → ℕ
returned_by (Clock time trades reply) g = g.answer.returns
returned_by (Order a w trades reply) g = g.answer.returns
returned_by (Cancel account number reply) g = g.returns
returned_by (Report reply) g = g.returns
returned_by (Prices asked prices reply) g = g.answer.returns

-- the second number in a reply buffer: of an order its number, of a cancel the shares withdrawn
abbrev pub second : Slice → ℕ
second buffer = number_in (drop 8 buffer.bytes)

-- a buffer that holds two numbers
abbrev pub HoldsTwo : Slice → Type 0
HoldsTwo buffer = 16 ≤ length buffer.bytes

-- an order has such a buffer
abbrev pub OrderHoldsTwo : Asks → Type 0
OrderHoldsTwo (Clock time trades reply) = Unit {0}
OrderHoldsTwo (Order a w trades reply) = HoldsTwo reply
OrderHoldsTwo (Cancel account number reply) = Unit {0}
OrderHoldsTwo (Report reply) = Unit {0}
OrderHoldsTwo (Prices asked prices reply) = Unit {0}

-- the numbers that the replies of the accepted orders of a chain tell, in turn
unfoldable pub told_by : (a : Asks) → Gives a → List ℕ
told_by (Clock time trades reply) g = []
told_by (Order a w trades reply) g = if eqb g.answer.returns 0 then second g.answer.buffer ∷ [] else []
told_by (Cancel account number reply) g = []
told_by (Report reply) g = []
told_by (Prices asked prices reply) g = []

unfoldable pub told_in : List (Link door) → List ℕ
told_in [] = []
told_in (l ∷ ls) = told_by l.asks l.gives ++ told_in ls

-- a call of the chain was an order of this account that was accepted and told this number
abbrev pub AcceptedAs : ℕ → ℕ → (a : Asks) → Gives a → Type 0
AcceptedAs account number (Clock time trades reply) g = ⊥
AcceptedAs account number (Order a w trades reply) g =
    (a.account ≡ account) × (g.answer.returns ≡ 0) × (HoldsTwo reply → second g.answer.buffer ≡ number)
AcceptedAs account number (Cancel account' number' reply) g = ⊥
AcceptedAs account number (Report reply) g = ⊥
AcceptedAs account number (Prices asked prices reply) g = ⊥

-- a cancel that returns 0 takes one order out of the book's bytes: the one with this number and account, which an order of the chain
-- was accepted under. Its reply tells the shares.
pub record TakesItsOwn (ls : List (Link door)) (account number : ℕ) (reply : Slice) (g : Reply) (book book' : Slice) : Type 0 where
  pub shares : ℕ
  pub takes_out : TakesOut account number shares (book_in book.bytes) (book_in book'.bytes)
  pub tells : HoldsTwo reply → second g.buffer ≡ shares
  pub accepted : Some (λ (l : Link door). AcceptedAs account number l.asks l.gives) ls

pub record ForC : Type 0 where
  -- ---- after an opening that returned 0, in any chain of calls on the same day and book

  -- no call returns 15, report and price list included
  pub never_15 :
      (m : Memory)
      → OpenedOn m
      → (ls : List (Link door))
      → Chained door m ls
      → Each (λ (l : Link door). returned_by l.asks l.gives ≡ 15 → ⊥) ls
  -- the numbers of the accepted orders are 1, 2, 3 and on
  pub numbered :
      (m : Memory)
      → OpenedOn m
      → (ls : List (Link door))
      → Chained door m ls
      → Each (λ (l : Link door). OrderHoldsTwo l.asks) ls
      → told_in ls ≡ from 1 (length (told_in ls))
  -- a cancel that is accepted takes out the order that was accepted under that number for that account
  pub cancels_its_own :
      (m : Memory)
      → OpenedOn m
      → (ls : List (Link door))
      → Chained door m ls
      → (account number : ℕ) (reply : Slice) (g : Reply) (n : Memory)
      → Promise (Cancel account number reply) (last_left door m ls) g n
      → g.returns ≡ 0
      → TakesItsOwn ls account number reply g (last_left door m ls).book n.book
  -- ---- at any time, on any slices: a call that returns another number than 0 leaves every byte of every slice but the reply

  pub open_refused :
      (day book reply day' book' reply' : Slice) (close mark r : ℕ)
      → OpenPromise day.bytes book.bytes reply.bytes close mark r day'.bytes book'.bytes reply'.bytes
      → (r ≡ 0 → ⊥)
      → (day'.bytes ≡ day.bytes) × (book'.bytes ≡ book.bytes)
  pub clock_refused :
      (day book trades reply day' book' trades' reply' : Slice) (time r : ℕ)
      → ClockPromise day.bytes book.bytes trades.bytes reply.bytes time r day'.bytes book'.bytes trades'.bytes reply'.bytes
      → (r ≡ 0 → ⊥)
      → (day'.bytes ≡ day.bytes) × (book'.bytes ≡ book.bytes) × (trades'.bytes ≡ trades.bytes)
  pub order_refused :
      (day book trades reply day' book' trades' reply' : Slice) (a : Asked) (r : ℕ)
      → OrderPromise day.bytes book.bytes trades.bytes reply.bytes a r day'.bytes book'.bytes trades'.bytes reply'.bytes
      → (r ≡ 0 → ⊥)
      → (day'.bytes ≡ day.bytes) × (book'.bytes ≡ book.bytes) × (trades'.bytes ≡ trades.bytes)
  pub cancel_refused :
      (day book reply day' book' reply' : Slice) (account number r : ℕ)
      → CancelPromise day.bytes book.bytes reply.bytes account number r day'.bytes book'.bytes reply'.bytes
      → (r ≡ 0 → ⊥)
      → (day'.bytes ≡ day.bytes) × (book'.bytes ≡ book.bytes)
  pub list_refused :
      (day book prices reply prices' reply' : Slice) (asked r : ℕ)
      → ListPromise day.bytes book.bytes prices.bytes reply.bytes asked r prices'.bytes reply'.bytes
      → (r ≡ 0 → ⊥)
      → prices'.bytes ≡ prices.bytes
