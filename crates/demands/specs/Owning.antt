-- Demand 2: a cancel takes out only the live order with that number and account, and no event touches an order that its
-- trades do not name.
use Rattle.std.specs.Prelude.{ℕ, suc, ◌≤◌, ◌<◌, ◌≡◌, false, List, [], ◌∷◌, ◌++◌, length, get_or, take, drop}
use Rattle.model.specs.declared.Order.{Order}
use Rattle.model.specs.declared.Asked.{Asked}
use Rattle.model.specs.declared.Trade.{Trade}
use Rattle.model.specs.declared.Day.{Day}
use Rattle.model.specs.declared.OrderAnswer.{OrderAnswer}
use Rattle.model.specs.declared.ClockAnswer.{ClockAnswer}
use Rattle.model.specs.declared.CancelReply as CancelReply
use Rattle.model.specs.Book.{free}
use Rattle.model.specs.Matching.{is_in}
use Rattle.model.specs.Calls.{Outcome, order_call, cancel_call}
use Rattle.model.specs.ClockCall.{clock_call}
use Rattle.model.specs.Words.{Each, Sound}

-- one place has the number and the account, and no other has the number; that one is taken out, those behind it move up by one
-- place, and the last place becomes free
pub record TakesOut (account number shares : ℕ) (book after : List Order) : Type 0 where
  pub place : ℕ
  pub inside : place < length book
  pub real : number ≡ 0 → ⊥
  pub its_number : (get_or book place free).number ≡ number
  pub its_account : (get_or book place free).account ≡ account
  pub its_shares : (get_or book place free).left ≡ shares
  pub some : 1 ≤ shares
  pub only : (i : ℕ) → i < length book → (get_or book i free).number ≡ number → i ≡ place
  pub taken_out : after ≡ take place book ++ (drop (suc place) book ++ (free ∷ []))

-- an order stands at one place of a book, and no other place has its number
pub record StandsOnce (o : Order) (book : List Order) : Type 0 where
  pub place : ℕ
  pub inside : place < length book
  pub there : get_or book place free ≡ o
  pub only : (i : ℕ) → i < length book → (get_or book i free).number ≡ o.number → i ≡ place

-- where an order rests and none of these trades names its number, it stands afterwards once, as it was
abbrev pub Stays : List Trade → List Order → List Order → Type 0
Stays ts book after =
    (i : ℕ)
    → i < length book
    → ((get_or book i free).number ≡ 0 → ⊥)
    → Each (λ (t : Trade). is_in (get_or book i free).number t ≡ false) ts
    → StandsOnce (get_or book i free) after

pub record OwnOnly : Type 0 where
  pub cancel :
      (d : Day) (account number shares : ℕ) (book : List Order)
      → Sound d book
      → (cancel_call d account number book).answer.reply ≡ CancelReply.TheVariants.Withdrawn shares
      → TakesOut account number shares book (cancel_call d account number book).book
  pub order :
      (d : Day) (a : Asked) (book : List Order) (lent : List Trade)
      → Sound d book
      → let o : Outcome OrderAnswer = order_call d a book lent in Stays (take o.answer.made o.trades) book o.book
  -- up to the close, at which all that rests lapses
  pub clock :
      (d : Day) (t : ℕ) (book : List Order) (lent : List Trade)
      → Sound d book
      → t < 54_000
      → let o : Outcome ClockAnswer = clock_call d t book lent in Stays (take o.answer.made o.trades) book o.book
