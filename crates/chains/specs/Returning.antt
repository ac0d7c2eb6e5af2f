-- When a call from C returns which number: its rules in the paper's order, read off the slices. A day of another length is 15 before
-- anything else, at an opening 14.
use Rattle.std.specs.Prelude.{ℕ, ◌/◌, ◌≡◌, ◌↔◌, not, List, ◌∷◌, length}
use Rattle.model.specs.declared.Asked.{Asked}
use Rattle.model.specs.Refusals.{Rule, ◌when◌}
use Rattle.model.specs.Calls.{open_rules, order_rules, cancel_rules}
use Rattle.model.specs.ClockCall.{clock_rules}
use Rattle.model.specs.AuctionCalls.{report_rules, list_rules}
use Rattle.demands.specs.Refusing.{NoneOf, FirstIs}
use Rattle.records.specs.Layout.{day_in, book_in}
use Rattle.wire.specs.Exports.{has_day}
use Rattle.wire.specs.Promises.{Bytes, OpenPromise, ClockPromise, OrderPromise, CancelPromise, ReportPromise, ListPromise}

-- n is returned exactly when rule n holds and no rule before it does; 0 exactly when none holds
pub record Exactly (r : ℕ) (rules : List Rule) : Type 0 where
  pub refuses : (n : ℕ) → (n ≡ 0 → ⊥) → (r ≡ n) ↔ FirstIs n rules
  pub accepts : (r ≡ 0) ↔ NoneOf rules

-- a day of another length first
abbrev pub with_day : ℕ → Bytes → List Rule → List Rule
with_day n day rules = n when (not (has_day day)) ∷ rules

-- for any bytes in any slices
pub record Returning : Type 0 where
  pub opening :
      (day book reply day' book' reply' : Bytes) (close mark r : ℕ)
      → OpenPromise day book reply close mark r day' book' reply'
      → Exactly r (with_day 14 day (open_rules close mark (book_in book)))
  pub clock :
      (day book trades reply day' book' trades' reply' : Bytes) (time r : ℕ)
      → ClockPromise day book trades reply time r day' book' trades' reply'
      → Exactly r (with_day 15 day (clock_rules (day_in day) time (book_in book) (length trades / 48)))
  pub order :
      (day book trades reply day' book' trades' reply' : Bytes) (a : Asked) (r : ℕ)
      → OrderPromise day book trades reply a r day' book' trades' reply'
      → Exactly r (with_day 15 day (order_rules (day_in day) a (book_in book) (length trades / 48)))
  pub cancel :
      (day book reply day' book' reply' : Bytes) (account number r : ℕ)
      → CancelPromise day book reply account number r day' book' reply'
      → Exactly r (with_day 15 day (cancel_rules (day_in day) account number (book_in book)))
  pub report :
      (day book reply reply' : Bytes) (r : ℕ)
      → ReportPromise day book reply r reply'
      → Exactly r (with_day 15 day (report_rules (day_in day) (book_in book)))
  pub list :
      (day book prices reply prices' reply' : Bytes) (asked r : ℕ)
      → ListPromise day book prices reply asked r prices' reply'
      → Exactly r (with_day 15 day (list_rules (day_in day) (book_in book)))
