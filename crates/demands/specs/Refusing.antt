-- Demand 1: a refusal is given exactly when its rule says, and a refused call leaves all that it was lent as it was; and a long
-- trade list never lacks room.
use Rattle.std.specs.Prelude.{ℕ, ◌≤◌, ◌≡◌, ◌↔◌, true, false, List, ◌∷◌, ◌++◌, length}
use Rattle.model.specs.declared.Order.{Order}
use Rattle.model.specs.declared.Asked.{Asked}
use Rattle.model.specs.declared.Trade.{Trade}
use Rattle.model.specs.declared.Day.{Day}
use Rattle.model.specs.declared.OpenReply as OpenReply
use Rattle.model.specs.declared.OrderReply as OrderReply
use Rattle.model.specs.declared.CancelReply as CancelReply
use Rattle.model.specs.declared.ClockReply as ClockReply
use Rattle.model.specs.declared.ReportReply as ReportReply
use Rattle.model.specs.declared.ListReply as ListReply
use Rattle.model.specs.Refusals.{Rule, first_of}
use Rattle.model.specs.Calls.{open_rules, open_call, order_rules, order_call, cancel_rules, cancel_call}
use Rattle.model.specs.ClockCall.{clock_rules, clock_call}
use Rattle.model.specs.AuctionCalls.{report_rules, report_call, list_rules, list_call}
use Rattle.model.specs.Words.{Each}

-- none of the rules holds
abbrev pub NoneOf : List Rule → Type 0
NoneOf rs = Each (λ (r : Rule). r.holds ≡ false) rs

-- the rules are some that do not hold, then one that does and has this number, then any others
pub record FirstIs (n : ℕ) (rs : List Rule) : Type 0 where
  pub before : List Rule
  pub rule : Rule
  pub behind : List Rule
  pub order : rs ≡ before ++ (rule ∷ behind)
  pub passed : NoneOf before
  pub holds : rule.holds ≡ true
  pub number : rule.number ≡ n

-- every rule has a number that is not 0
abbrev pub Numbers : List Rule → Type 0
Numbers rs = Each (λ (r : Rule). r.number ≡ 0 → ⊥) rs

-- the number that a list of rules gives
pub record FirstHolds (rs : List Rule) : Type 0 where
  pub first_holds : (n : ℕ) → (n ≡ 0 → ⊥) → (first_of rs ≡ n) ↔ FirstIs n rs
  pub none_holds : (first_of rs ≡ 0) ↔ NoneOf rs

-- a reply is the refusal n exactly when rule n holds and no rule before it does; it is no refusal exactly when none holds
pub record RefusesBy {Reply : Type 0} (refused : ℕ → Reply) (rules : List Rule) (reply : Reply) : Type 0 where
  pub refuses : (n : ℕ) → (reply ≡ refused n) ↔ FirstIs n rules
  pub accepts : ((n : ℕ) → reply ≡ refused n → ⊥) ↔ NoneOf rules

-- the six calls, for any day, book, lists and numbers
pub record EachRefusal : Type 0 where
  pub opening :
      (close mark : ℕ) (book : List Order)
      → RefusesBy OpenReply.TheVariants.Refused (open_rules close mark book) (open_call close mark book).reply
  pub order :
      (d : Day) (a : Asked) (book : List Order) (lent : List Trade)
      → RefusesBy OrderReply.TheVariants.Refused (order_rules d a book (length lent)) (order_call d a book lent).answer.reply
  pub cancel :
      (d : Day) (account number : ℕ) (book : List Order)
      → RefusesBy CancelReply.TheVariants.Refused (cancel_rules d account number book)
      (cancel_call d account number book).answer.reply
  pub clock :
      (d : Day) (t : ℕ) (book : List Order) (lent : List Trade)
      → RefusesBy ClockReply.TheVariants.Refused (clock_rules d t book (length lent)) (clock_call d t book lent).answer.reply
  pub report :
      (d : Day) (book : List Order) → RefusesBy ReportReply.TheVariants.Refused (report_rules d book) (report_call d book)
  pub list :
      (d : Day) (asked : ℕ) (book : List Order) (lent : List ℕ)
      → RefusesBy ListReply.TheVariants.Refused (list_rules d book) (list_call d asked book lent).reply

-- a refused call leaves the book, the day that is handed back, its screen with it, and the lent list as they were. The two auction
-- calls hand no day back, the report is lent no list, and the auction calls cannot change the book.
pub record Untouched : Type 0 where
  pub opening :
      (close mark n : ℕ) (book : List Order)
      → (open_call close mark book).reply ≡ OpenReply.TheVariants.Refused n
      → (open_call close mark book).book ≡ book
  pub order :
      (d : Day) (a : Asked) (book : List Order) (lent : List Trade) (n : ℕ)
      → (order_call d a book lent).answer.reply ≡ OrderReply.TheVariants.Refused n
      → ((order_call d a book lent).answer.day ≡ d)
      × ((order_call d a book lent).answer.made ≡ 0)
      × ((order_call d a book lent).book ≡ book)
      × ((order_call d a book lent).trades ≡ lent)
  pub cancel :
      (d : Day) (account number n : ℕ) (book : List Order)
      → (cancel_call d account number book).answer.reply ≡ CancelReply.TheVariants.Refused n
      → ((cancel_call d account number book).answer.day ≡ d) × ((cancel_call d account number book).book ≡ book)
  pub clock :
      (d : Day) (t : ℕ) (book : List Order) (lent : List Trade) (n : ℕ)
      → (clock_call d t book lent).answer.reply ≡ ClockReply.TheVariants.Refused n
      → ((clock_call d t book lent).answer.day ≡ d)
      × ((clock_call d t book lent).answer.made ≡ 0)
      × ((clock_call d t book lent).book ≡ book)
      × ((clock_call d t book lent).trades ≡ lent)
  pub list :
      (d : Day) (asked n : ℕ) (book : List Order) (lent : List ℕ)
      → (list_call d asked book lent).reply ≡ ListReply.TheVariants.Refused n
      → (list_call d asked book lent).prices ≡ lent

-- a trade list as long as the book has room for every event: 13 is not given
pub record NeverLacking : Type 0 where
  pub order :
      (d : Day) (a : Asked) (book : List Order) (lent : List Trade)
      → length book ≤ length lent
      → (order_call d a book lent).answer.reply ≡ OrderReply.TheVariants.Refused 13
      → ⊥
  pub clock :
      (d : Day) (t : ℕ) (book : List Order) (lent : List Trade)
      → length book ≤ length lent
      → (clock_call d t book lent).answer.reply ≡ ClockReply.TheVariants.Refused 13
      → ⊥
