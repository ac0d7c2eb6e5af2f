-- The number that a call from C returns is the first of its rules that holds, a day of another length before all of them. Assumes
-- nothing.
use Prim.Native.Nat.{ℕ}
use mathlib.Core.Path.{◌≡◌, refl, sym, ap, subst, ◌∙◌}
use mathlib.Core.Bool.{Bool, true, false, cond}
use mathlib.Core.List.{List}
use native.Mathlib.Omega.{arith}
use lib.ListN.{length}
use lib.Dec.{eqb}
use borrow.Author.Tests.{eqb-true}
use Rattle.model.specs.declared.Order.{Order}
use Rattle.model.specs.declared.Asked.{Asked}
use Rattle.model.specs.declared.Trade.{Trade}
use Rattle.model.specs.declared.Day.{Day}
use Rattle.model.specs.declared.OrderAnswer.{OrderAnswer}
use Rattle.model.specs.declared.ClockAnswer.{ClockAnswer}
use Rattle.model.specs.declared.ReportReply.{ReportReply}
use Rattle.model.specs.Refusals.{Rule, ◌when◌, first_of}
use Rattle.model.specs.Calls.{Outcome, OpenOutcome, CancelOutcome, open_rules, open_call, order_rules, entered, order_call, cancel_rules, cancel_call}
use Rattle.model.specs.Auction.{auction_price}
use Rattle.model.specs.ClockCall.{clock_rules, clock_call}
use Rattle.model.specs.AuctionCalls.{ListOutcome, report_rules, report_at, report_call, list_rules, list_call}
use Rattle.model.specs.Replies.{open_numbers, order_numbers, cancel_numbers, clock_numbers, list_numbers}
use Rattle.model.proofs.Rules.{hit, skip}
use Rattle.demands.specs.Refusing.{Numbers}
use Rattle.demands.specs.Histories.{Reported}
use Rattle.demands.proofs.FirstRules.{first_holds}
use Rattle.demands.proofs.Refusals.{open_numbers_lem, order_numbers_lem, cancel_numbers_lem, clock_numbers_lem, report_numbers_lem, list_numbers_lem}
use Rattle.demands.proofs.Chains.{priced}
use Rattle.records.specs.Layout.{day_in, book_in, trades_in, prices_in, returned}
use Rattle.records.proofs.Back.{length_trades_in}
use Rattle.replies.specs.Words.{word, report_words}
use Rattle.model.specs.Replies as replies
use Rattle.wire.specs.Exports.{has_day, BookLeft, open_on, open_leaves, TradeLeft, trade_leaves, order_leaves, clock_leaves, cancel_leaves, report_on, ReportLeft, report_leaves, list_on, ListLeft, list_leaves}
use Rattle.wire.specs.Promises.{Bytes}
use Rattle.chains.specs.Bytes.{numbers_in}
use Rattle.chains.specs.Returning.{Exactly, with_day, Returning}
use Rattle.chains.proofs.ForC.{told_refusal}

-- ---- a reply's first number is the first rule that holds

by_first : {A : Type 0} (f : A → ℕ) (n : ℕ) (x y : A) → f x ≡ 0 → f y ≡ n → f (cond (eqb n 0) x y) ≡ n
by_first {A} f n x y e g = go (eqb n 0) refl
  where
    go : (b : Bool) → eqb n 0 ≡ b → f (cond b x y) ≡ n
    go true z = e ∙ sym (eqb-true n 0 z)
    go false z = g

open_first : (close mark : ℕ) (book : List Order) → returned (open_numbers (open_call close mark book).reply) ≡ first_of (open_rules close mark book)
unfolding open_call open_numbers
open_first close mark book =
    by_first (λ (o : OpenOutcome). returned (open_numbers o.reply)) (first_of (open_rules close mark book)) _ _ refl refl

order_first :
    (d : Day) (a : Asked) (book : List Order) (lent : List Trade)
    → returned (order_numbers (order_call d a book lent).answer.reply) ≡ first_of (order_rules d a book (length lent))
unfolding order_call entered order_numbers
order_first d a book lent =
    by_first (λ (o : Outcome OrderAnswer). returned (order_numbers o.answer.reply)) (first_of (order_rules d a book (length lent))) _ _ refl
    refl

clock_first :
    (d : Day) (t : ℕ) (book : List Order) (lent : List Trade)
    → returned (clock_numbers (clock_call d t book lent).answer.reply) ≡ first_of (clock_rules d t book (length lent))
unfolding clock_call clock_numbers
clock_first d t book lent =
    by_first (λ (o : Outcome ClockAnswer). returned (clock_numbers o.answer.reply)) (first_of (clock_rules d t book (length lent))) _ _ refl
    refl

cancel_first :
    (d : Day) (account number : ℕ) (book : List Order)
    → returned (cancel_numbers (cancel_call d account number book).answer.reply) ≡ first_of (cancel_rules d account number book)
unfolding cancel_call cancel_numbers
cancel_first d account number book =
    by_first (λ (o : CancelOutcome). returned (cancel_numbers o.answer.reply)) (first_of (cancel_rules d account number book)) _ _ refl refl

priced_first : (p : ℕ) (book : List Order) → returned (report_words (report_at p book)) ≡ 0
unfolding numbers_in
priced_first p book = told_refusal (Reported (report_at p book)) ∙ priced p book

report_first : (d : Day) (book : List Order) → returned (report_words (report_call d book)) ≡ first_of (report_rules d book)
unfolding report_call report_words replies.report_numbers word
report_first d book =
    by_first (λ (r : ReportReply). returned (report_words r)) (first_of (report_rules d book)) _ _ (priced_first (auction_price d book) book) refl

list_first :
    (d : Day) (asked : ℕ) (book : List Order) (lent : List ℕ)
    → returned (list_numbers (list_call d asked book lent).reply) ≡ first_of (list_rules d book)
unfolding list_call list_numbers
list_first d asked book lent =
    by_first (λ (o : ListOutcome). returned (list_numbers o.reply)) (first_of (list_rules d book)) _ _ refl refl

-- ---- exactly

module _ {r : ℕ} (rules : List Rule) (k : Numbers rules) (n : ℕ) (real : n ≡ 0 → ⊥) (day : Bytes) where
  exactly : r ≡ first_of (with_day n day rules) → Exactly r (with_day n day rules)
  unfolding ◌when◌
  exactly p =
      let f = first_holds (with_day n day rules) (real, k) in
      record {
        refuses = λ m z. (λ e. (f.first_holds m z).0 (sym p ∙ e), λ x. p ∙ (f.first_holds m z).1 x);
        accepts = (λ e. f.none_holds.0 (sym p ∙ e), λ x. p ∙ f.none_holds.1 x);
      }

  -- by whether there is room for a day
  by_day : (has_day day ≡ false → r ≡ n) → (has_day day ≡ true → r ≡ first_of rules) → Exactly r (with_day n day rules)
  by_day f t = exactly (go (has_day day) refl)
    where
      go : (b : Bool) → has_day day ≡ b → r ≡ first_of (with_day n day rules)
      go true e = t e ∙ sym (skip n rules (rw e refl))
      go false e = f e ∙ sym (hit n rules (rw e refl))

fourteen : ◌≡◌ {A = ℕ} 14 0 → ⊥
fourteen e = omega (arith, e)

fifteen : ◌≡◌ {A = ℕ} 15 0 → ⊥
fifteen e = omega (arith, e)

pub returning : Returning
unfolding open_leaves open_on open_numbers clock_leaves order_leaves trade_leaves clock_numbers order_numbers cancel_leaves cancel_numbers report_leaves report_on report_words replies.report_numbers word list_leaves list_on list_numbers
returning =
    record {
      opening = λ day book reply day' book' reply' close mark r p.
          let e = ap (λ (x : BookLeft). x.returns) p in
          by_day (open_rules close mark (book_in book)) (open_numbers_lem close mark (book_in book)) 14 fourteen day (λ h. rw h at e)
          (λ h. (rw h at e) ∙ open_first close mark (book_in book));
      clock = λ day book trades reply day' book' trades' reply' time r p.
          let e = ap (λ (x : TradeLeft). x.returns) p in
          subst (λ (n : ℕ). Exactly r (with_day 15 day (clock_rules (day_in day) time (book_in book) n))) (length_trades_in trades)
          (by_day (clock_rules (day_in day) time (book_in book) (length (trades_in trades))) (clock_numbers_lem (day_in day) time (book_in book) (trades_in trades)) 15
          fifteen
          day
          (λ h. rw h at e)
          (λ h. (rw h at e) ∙ clock_first (day_in day) time (book_in book) (trades_in trades)));
      order = λ day book trades reply day' book' trades' reply' a r p.
          let e = ap (λ (x : TradeLeft). x.returns) p in
          subst (λ (n : ℕ). Exactly r (with_day 15 day (order_rules (day_in day) a (book_in book) n))) (length_trades_in trades)
          (by_day (order_rules (day_in day) a (book_in book) (length (trades_in trades))) (order_numbers_lem (day_in day) a (book_in book) (trades_in trades)) 15
          fifteen
          day
          (λ h. rw h at e)
          (λ h. (rw h at e) ∙ order_first (day_in day) a (book_in book) (trades_in trades)));
      cancel = λ day book reply day' book' reply' account number r p.
          let e = ap (λ (x : BookLeft). x.returns) p in
          by_day (cancel_rules (day_in day) account number (book_in book)) (cancel_numbers_lem (day_in day) account number (book_in book)) 15 fifteen day
          (λ h. rw h at e)
          (λ h. (rw h at e) ∙ cancel_first (day_in day) account number (book_in book));
      report = λ day book reply reply' r p.
          let e = ap (λ (x : ReportLeft). x.returns) p in
          by_day (report_rules (day_in day) (book_in book)) (report_numbers_lem (day_in day) (book_in book)) 15 fifteen day (λ h. rw h at e)
          (λ h. (rw h at e) ∙ report_first (day_in day) (book_in book));
      list = λ day book prices reply prices' reply' asked r p.
          let e = ap (λ (x : ListLeft). x.returns) p in
          by_day (list_rules (day_in day) (book_in book)) (list_numbers_lem (day_in day) asked (book_in book) (prices_in prices)) 15 fifteen day
          (λ h. rw h at e)
          (λ h. (rw h at e) ∙ list_first (day_in day) asked (book_in book) (prices_in prices));
    }
