-- Demand 2, what is left after each fill: the left numbers that an event's trades give for an order fall from what it had by what
-- each trade fills, and the last of them is what stands in the book afterwards.
use Rattle.std.specs.Prelude.{ℕ, ◌+◌, ◌≤◌, ◌<◌, ◌≡◌, true, false, List, [], ◌∷◌, length, get_or, take, eqb, if◌then◌else◌}
use Rattle.model.specs.declared.Order.{Order}
use Rattle.model.specs.declared.Asked.{Asked}
use Rattle.model.specs.declared.Trade.{Trade}
use Rattle.model.specs.declared.Day.{Day}
use Rattle.model.specs.declared.Entry.{Entry}
use Rattle.model.specs.declared.OrderReply as OrderReply
use Rattle.model.specs.declared.OrderAnswer.{OrderAnswer}
use Rattle.model.specs.declared.ClockAnswer.{ClockAnswer}
use Rattle.model.specs.Book.{free}
use Rattle.model.specs.Matching.{is_in}
use Rattle.model.specs.Entry.{rest_price}
use Rattle.model.specs.Replies.{resting_of, withdrawn_of}
use Rattle.model.specs.Calls.{Outcome, order_call}
use Rattle.model.specs.ClockCall.{clock_call}
use Rattle.model.specs.Words.{Each, Sound}
use Rattle.demands.specs.Owning.{StandsOnce}

-- what a trade leaves of the order with this number, which has part in it
unfoldable pub left_in : ℕ → Trade → ℕ
left_in n t = if eqb t.buyer n then t.buyerleft else t.sellerleft

-- the left numbers of its trades fall from what it had, each by what the trade fills
abbrev pub Falls : ℕ → ℕ → List Trade → Type 0
Falls n had [] = Unit {0}
Falls n had (t ∷ ts) =
    (is_in n t ≡ true → (left_in n t + t.quantity ≡ had) × Falls n (left_in n t) ts)
    × (is_in n t ≡ false → Falls n had ts)

-- the last of them, or what it had where it has part in no trade
unfoldable pub last_left : ℕ → ℕ → List Trade → ℕ
last_left n had [] = had
last_left n had (t ∷ ts) = last_left n (if is_in n t then left_in n t else had) ts

-- an order of which q are left stands once, with q shares, or, where nothing is left, at no place
pub record Stands (q : ℕ) (o : Order) (after : List Order) : Type 0 where
  pub some :
      (q ≡ 0 → ⊥)
      → StandsOnce (record { side = o.side; account = o.account; left = q; price = o.price; number = o.number }) after
  pub none : q ≡ 0 → Each (λ (p : Order). p.number ≡ o.number → ⊥) after

-- of every resting order
abbrev pub EachFalls : List Trade → List Order → Type 0
EachFalls ts book = Each (λ (o : Order). (o.number ≡ 0 → ⊥) → Falls o.number o.left ts) book

abbrev pub EachStands : List Trade → List Order → List Order → Type 0
EachStands ts book after =
    (i : ℕ)
    → i < length book
    → ((get_or book i free).number ≡ 0 → ⊥)
    → Stands (last_left (get_or book i free).number (get_or book i free).left ts) (get_or book i free) after

-- of the order that comes in: the last number is what rests of it or is withdrawn; what rests stands behind all others of its
-- side at its price, and where nothing rests it stands at no place
pub record Incoming (a : Asked) (e : Entry) (ts : List Trade) (book after : List Order) : Type 0 where
  pub falls : Falls e.number a.quantity ts
  pub last : last_left e.number a.quantity ts ≡ resting_of e.remainder + withdrawn_of e.remainder
  pub stands :
      Stands (resting_of e.remainder)
      (record { side = a.side; account = a.account; left = a.quantity; price = rest_price a ts book; number = e.number })
      after
  pub behind :
      (n : resting_of e.remainder ≡ 0 → ⊥) (i : ℕ)
      → i < length after
      → ((get_or after i free).number ≡ 0 → ⊥)
      → (get_or after i free).side ≡ a.side
      → (get_or after i free).price ≡ rest_price a ts book
      → i ≤ (stands.some n).place

pub record Leaving : Type 0 where
  pub order :
      (d : Day) (a : Asked) (book : List Order) (lent : List Trade)
      → Sound d book
      → let o : Outcome OrderAnswer = order_call d a book lent in
      EachFalls (take o.answer.made o.trades) book × EachStands (take o.answer.made o.trades) book o.book
  pub incoming :
      (d : Day) (a : Asked) (book : List Order) (lent : List Trade) (e : Entry)
      → Sound d book
      → let o : Outcome OrderAnswer = order_call d a book lent in
      o.answer.reply ≡ OrderReply.TheVariants.Accepted e → Incoming a e (take o.answer.made o.trades) book o.book
  pub clock :
      (d : Day) (t : ℕ) (book : List Order) (lent : List Trade)
      → Sound d book
      → let o : Outcome ClockAnswer = clock_call d t book lent in EachFalls (take o.answer.made o.trades) book
  -- up to the close, at which what is left lapses
  pub clock_stands :
      (d : Day) (t : ℕ) (book : List Order) (lent : List Trade)
      → Sound d book
      → t < 54_000
      → let o : Outcome ClockAnswer = clock_call d t book lent in EachStands (take o.answer.made o.trades) book o.book
