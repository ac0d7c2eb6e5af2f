-- The fixed-price book by itself: its calls leave the main book's figures and the screen, a cancel takes out only the live order with that number
-- and account, an order that comes in takes from the others what its trades say and nothing else, and shares and money join the published
-- totals at 15:30.
use Rattle.std.specs.Prelude.{ℕ, suc, ◌+◌, ◌-◌, ◌≤◌, ◌<◌, ◌≡◌, false, List, [], ◌∷◌, ◌++◌, length, get_or, take, drop}
use Rattle.model.specs.declared.Order.{Order}
use Rattle.model.specs.declared.AskedFixed.{AskedFixed}
use Rattle.model.specs.declared.Trade.{Trade}
use Rattle.model.specs.declared.Screen.{Screen}
use Rattle.model.specs.declared.Fixed.{Fixed}
use Rattle.model.specs.declared.Day.{Day}
use Rattle.model.specs.declared.Entry.{Entry}
use Rattle.model.specs.declared.OrderReply as OrderReply
use Rattle.model.specs.declared.OrderAnswer.{OrderAnswer}
use Rattle.model.specs.declared.CancelReply as CancelReply
use Rattle.model.specs.Clock.{day_end}
use Rattle.model.specs.Book.{free}
use Rattle.model.specs.Matching.{filled, is_in, filled_of, less_by}
use Rattle.model.specs.Figures.{money, with_fixed_figures, published_shares, published_turnover}
use Rattle.model.specs.Screen.{screen_of}
use Rattle.model.specs.Calls.{Outcome}
use Rattle.model.specs.FixedCalls.{fixed_call, fixed_cancel_call}
use Rattle.model.specs.Words.{Each}

-- ---- a place of the book

-- one place has the number and the account, and no other has the number; that one is taken out, those behind it move up by one
-- place, and the last place becomes free
pub record TakesOut (account number shares : ℕ) (book after : List Order) : Type 0 where
  pub place : ℕ
  pub inside : place < length book
  pub real : number ≡ 0 → ⊥
  pub its_number : (get_or book place free).number ≡ number
  pub its_account : (get_or book place free).account ≡ account
  pub its_shares : (get_or book place free).left ≡ shares
  pub some : 1 ≤ shares
  pub only : (i : ℕ) → i < length book → (get_or book i free).number ≡ number → i ≡ place
  pub taken_out : after ≡ take place book ++ (drop (suc place) book ++ (free ∷ []))

-- an order stands at one place of a book, and no other place has its number
pub record StandsOnce (o : Order) (book : List Order) : Type 0 where
  pub place : ℕ
  pub inside : place < length book
  pub there : get_or book place free ≡ o
  pub only : (i : ℕ) → i < length book → (get_or book i free).number ≡ o.number → i ≡ place

-- where an order rests and these trades do not fill it whole, it stands afterwards once, less what they fill of it
abbrev pub StaysLess : List Trade → List Order → List Order → Type 0
StaysLess ts book after =
    (i : ℕ)
    → i < length book
    → ((get_or book i free).number ≡ 0 → ⊥)
    → filled_of (get_or book i free).number ts < (get_or book i free).left
    → StandsOnce (less_by (filled_of (get_or book i free).number ts) (get_or book i free)) after

-- where none of these trades names its number, it stands as it was
abbrev pub Stays : List Trade → List Order → List Order → Type 0
Stays ts book after =
    (i : ℕ)
    → i < length book
    → ((get_or book i free).number ≡ 0 → ⊥)
    → Each (λ (t : Trade). is_in (get_or book i free).number t ≡ false) ts
    → StandsOnce (get_or book i free) after

-- ---- two screens that differ in shares and turnover at most
pub record SameButTotals (s t : Screen) : Type 0 where
  pub last : t.last ≡ s.last
  pub high : t.high ≡ s.high
  pub low : t.low ≡ s.low
  pub buys : t.buys ≡ s.buys
  pub sells : t.sells ≡ s.sells
  pub price : t.price ≡ s.price
  pub volume : t.volume ≡ s.volume
  pub surplus : t.surplus ≡ s.surplus

pub record SeparateFixed : Type 0 where
  -- an order, refused or not: the main book is only read, and the day is the same but for the figures of the fixed-price book. A cancel
  -- hands back no day.
  pub order :
      (d : Day) (a : AskedFixed) (main book : List Order) (lent : List Trade)
      → let e : Day = (fixed_call d a main book lent).answer.day in e ≡ with_fixed_figures e.fixed d
  -- one that is taken counts as one number, with the shares and the money of the trades that it writes
  pub counts :
      (d : Day) (a : AskedFixed) (main book : List Order) (lent : List Trade) (e : Entry)
      → let o : Outcome OrderAnswer = fixed_call d a main book lent in
      o.answer.reply ≡ OrderReply.TheVariants.Accepted e
      → (o.answer.day.fixed.issued ≡ suc d.fixed.issued)
      × (o.answer.day.fixed.shares ≡ d.fixed.shares + filled (take o.answer.made o.trades))
      × (o.answer.day.fixed.money ≡ d.fixed.money + money (take o.answer.made o.trades))
  -- refused calls leave everything
  pub refused :
      (d : Day) (a : AskedFixed) (main book : List Order) (lent : List Trade) (n : ℕ)
      → let o : Outcome OrderAnswer = fixed_call d a main book lent in
      o.answer.reply ≡ OrderReply.TheVariants.Refused n
      → (o.answer.day ≡ d) × (o.answer.made ≡ 0) × (o.book ≡ book) × (o.trades ≡ lent)
  pub cancel_refused :
      (d : Day) (account number : ℕ) (main book : List Order) (n : ℕ)
      → (fixed_cancel_call d account number main book).reply ≡ CancelReply.TheVariants.Refused n
      → (fixed_cancel_call d account number main book).book ≡ book
  -- a cancel takes out its own order
  pub takes_out :
      (d : Day) (account number shares : ℕ) (main book : List Order)
      → (fixed_cancel_call d account number main book).reply ≡ CancelReply.TheVariants.Withdrawn shares
      → TakesOut account number shares book (fixed_cancel_call d account number main book).book
  -- an order that is taken: the others, and what rests of it
  pub stays_less :
      (d : Day) (a : AskedFixed) (main book : List Order) (lent : List Trade) (e : Entry)
      → let o : Outcome OrderAnswer = fixed_call d a main book lent in
      o.answer.reply ≡ OrderReply.TheVariants.Accepted e
      → StaysLess (take o.answer.made o.trades) book o.book
  pub stays :
      (d : Day) (a : AskedFixed) (main book : List Order) (lent : List Trade) (e : Entry)
      → let o : Outcome OrderAnswer = fixed_call d a main book lent in
      o.answer.reply ≡ OrderReply.TheVariants.Accepted e
      → Stays (take o.answer.made o.trades) book o.book
  pub rests :
      (d : Day) (a : AskedFixed) (main book : List Order) (lent : List Trade) (e : Entry)
      → let o : Outcome OrderAnswer = fixed_call d a main book lent in
      o.answer.reply ≡ OrderReply.TheVariants.Accepted e
      → e.filled < a.quantity
      → StandsOnce
      (record { side = a.side; account = a.account; left = a.quantity - e.filled; price = a.price; number = e.number })
      o.book
  -- shares and money are published from 15:30 on; last, high and low price, levels and the auction's figures never read them
  pub screen_before :
      (d : Day) (f : Fixed) (book : List Order) (high low : ℕ)
      → d.time < day_end
      → screen_of (with_fixed_figures f d) book high low ≡ screen_of d book high low
  pub screen :
      (d : Day) (f : Fixed) (book : List Order) (high low : ℕ)
      → SameButTotals (screen_of d book high low) (screen_of (with_fixed_figures f d) book high low)
  pub joined :
      (d : Day)
      → day_end ≤ d.time
      → (published_shares d ≡ d.shares + d.fixed.shares + d.blocks.shares)
      × (published_turnover d ≡ d.turnover + d.fixed.money)
