-- Demand 1 for each of the six calls: the first rule that holds is the refusal, and a refused call leaves all as it was.
-- Assumes nothing.
use Prim.Native.Nat.{ℕ, min}
use mathlib.Core.Path.{◌≡◌, refl, ap}
use mathlib.Core.Bool.{Bool, true, false, cond}
use mathlib.Core.List.{List}
use native.Mathlib.Omega.{arith}
use lib.ListN.{length, get_or}
use lib.IntN.{pos}
use lib.Dec.{eqb}
use borrow.Author.Tests.{eqb-false}
use Rattle.model.specs.declared.Order.{Order}
use Rattle.model.specs.declared.Asked.{Asked}
use Rattle.model.specs.declared.Trade.{Trade}
use Rattle.model.specs.declared.Day.{Day}
use Rattle.model.specs.declared.OpenReply as OpenReply
use Rattle.model.specs.declared.OrderReply as OrderReply
use Rattle.model.specs.declared.CancelReply as CancelReply
use Rattle.model.specs.declared.ClockReply as ClockReply
use Rattle.model.specs.declared.ReportReply as ReportReply
use Rattle.model.specs.declared.ListReply as ListReply
use Rattle.model.specs.declared.OrderAnswer.{OrderAnswer}
use Rattle.model.specs.declared.ClockAnswer.{ClockAnswer}
use Rattle.model.specs.Figures.{fresh_day, at}
use Rattle.model.specs.Refusals.{◌when◌, first_of}
use Rattle.model.specs.Lists.{keep, total}
use Rattle.model.specs.Halts.{phase_now}
use Rattle.model.specs.Auction.{volume, surplus, auction_price}
use Rattle.model.specs.Calls.{Outcome, OpenOutcome, CancelOutcome, is_own, open_rules, open_call, order_rules, entered, order_call, cancel_rules, cancel_call}
use Rattle.model.specs.ClockCall.{moved, clock_rules, clock_call}
use Rattle.model.specs.AuctionCalls.{ListOutcome, due, report_rules, report_at, report_call, list_rules, list_call}
use Rattle.demands.specs.Refusing.{Numbers, RefusesBy, EachRefusal, Untouched}
use Rattle.demands.proofs.FirstRules.{refuses_by}

-- a number that is not 0, for the lists of rules
pub real : (n : ℕ) → eqb n 0 ≡ false → n ≡ 0 → ⊥
real n = eqb-false n 0

-- an outcome by a test, seen through one of its parts
pub part : {A B : Type 0} (f : A → B) (b : Bool) (x y : A) → f (cond b x y) ≡ cond b (f x) (f y)
part f true x y = refl
part f false x y = refl

-- an outcome by a test that is refused is the second one
pub second :
    {A B : Type 0} (f : A → B) (b : Bool) (x y : A) (r : B) → (f x ≡ r → ⊥) → f (cond b x y) ≡ r → cond b x y ≡ y
second f true x y r n e = absurd (n e)
second f false x y r n e = refl

-- ---- the first rule that holds is the refusal

module _ (close mark : ℕ) (book : List Order) where
  pub open_numbers_lem : Numbers (open_rules close mark book)
  unfolding open_rules ◌when◌
  open_numbers_lem = (real 14 refl, tt)

  open_apart : (n : ℕ) → OpenReply.TheVariants.Opened (fresh_day close mark) ≡ OpenReply.TheVariants.Refused n → ⊥
  open_apart n e = let z : ◌≡◌ {A = ℕ} 0 1 = cc in omega arith

  pub open_refuses : RefusesBy OpenReply.TheVariants.Refused (open_rules close mark book) (open_call close mark book).reply
  unfolding open_call
  open_refuses =
      refuses_by OpenReply.TheVariants.Refused (open_rules close mark book) (open_call close mark book).reply
      (OpenReply.TheVariants.Opened (fresh_day close mark)) open_numbers_lem (λ m n (e : OpenReply.TheVariants.Refused m ≡ OpenReply.TheVariants.Refused n). cc)
      open_apart (part (λ (o : OpenOutcome). o.reply) (eqb (first_of (open_rules close mark book)) 0) _ _)

  open_left_lem :
      (n : ℕ)
      → (open_call close mark book).reply ≡ OpenReply.TheVariants.Refused n
      → open_call close mark book ≡ record { reply = OpenReply.TheVariants.Refused (first_of (open_rules close mark book)); book = book }
  unfolding open_call
  open_left_lem n = second (λ (o : OpenOutcome). o.reply) (eqb (first_of (open_rules close mark book)) 0) _ _ (OpenReply.TheVariants.Refused n) (open_apart n)

module _ (d : Day) (a : Asked) (book : List Order) (lent : List Trade) where
  pub order_numbers_lem : Numbers (order_rules d a book (length lent))
  unfolding order_rules ◌when◌
  order_numbers_lem = (real 15 refl, (real 2 refl, (real 3 refl, (real 4 refl, (real 5 refl, (real 6 refl, (real 7 refl, (real 8 refl, (real 9 refl, (real 10 refl, (real 11 refl, (real 13 refl, tt))))))))))))

  pub order_apart : (n : ℕ) → (entered d a book lent).answer.reply ≡ OrderReply.TheVariants.Refused n → ⊥
  unfolding entered
  order_apart n e = let z : ◌≡◌ {A = ℕ} 0 1 = cc in omega arith

  pub order_refuses : RefusesBy OrderReply.TheVariants.Refused (order_rules d a book (length lent)) (order_call d a book lent).answer.reply
  unfolding order_call
  order_refuses =
      refuses_by OrderReply.TheVariants.Refused (order_rules d a book (length lent)) (order_call d a book lent).answer.reply
      (entered d a book lent).answer.reply order_numbers_lem (λ m n (e : OrderReply.TheVariants.Refused m ≡ OrderReply.TheVariants.Refused n). cc)
      order_apart (part (λ (o : Outcome OrderAnswer). o.answer.reply) (eqb (first_of (order_rules d a book (length lent))) 0) _ _)

  order_left :
      (n : ℕ)
      → (order_call d a book lent).answer.reply ≡ OrderReply.TheVariants.Refused n
      → order_call d a book lent ≡ record {
        answer = record { reply = OrderReply.TheVariants.Refused (first_of (order_rules d a book (length lent))); made = 0; day = d };
        book = book;
        trades = lent;
      }
  unfolding order_call
  order_left n = second (λ (o : Outcome OrderAnswer). o.answer.reply) (eqb (first_of (order_rules d a book (length lent))) 0) _ _ (OrderReply.TheVariants.Refused n) (order_apart n)

module _ (d : Day) (account number : ℕ) (book : List Order) where
  pub cancel_numbers_lem : Numbers (cancel_rules d account number book)
  unfolding cancel_rules ◌when◌
  cancel_numbers_lem = (real 15 refl, (real 4 refl, (real 12 refl, tt)))

  cancel_apart : (n : ℕ) → CancelReply.TheVariants.Withdrawn (total (λ o. o.left) (keep (is_own account number) book)) ≡ CancelReply.TheVariants.Refused n → ⊥
  cancel_apart n e = let z : ◌≡◌ {A = ℕ} 0 1 = cc in omega arith

  pub cancel_refuses : RefusesBy CancelReply.TheVariants.Refused (cancel_rules d account number book) (cancel_call d account number book).answer.reply
  unfolding cancel_call
  cancel_refuses =
      refuses_by CancelReply.TheVariants.Refused (cancel_rules d account number book) (cancel_call d account number book).answer.reply
      (CancelReply.TheVariants.Withdrawn (total (λ o. o.left) (keep (is_own account number) book))) cancel_numbers_lem (λ m n (e : CancelReply.TheVariants.Refused m ≡ CancelReply.TheVariants.Refused n). cc)
      cancel_apart (part (λ (o : CancelOutcome). o.answer.reply) (eqb (first_of (cancel_rules d account number book)) 0) _ _)

  cancel_left_lem :
      (n : ℕ)
      → (cancel_call d account number book).answer.reply ≡ CancelReply.TheVariants.Refused n
      → cancel_call d account number book ≡ record {
        answer = record { reply = CancelReply.TheVariants.Refused (first_of (cancel_rules d account number book)); day = d };
        book = book;
      }
  unfolding cancel_call
  cancel_left_lem n = second (λ (o : CancelOutcome). o.answer.reply) (eqb (first_of (cancel_rules d account number book)) 0) _ _ (CancelReply.TheVariants.Refused n) (cancel_apart n)

module _ (d : Day) (t : ℕ) (book : List Order) (lent : List Trade) where
  pub clock_numbers_lem : Numbers (clock_rules d t book (length lent))
  unfolding clock_rules ◌when◌
  clock_numbers_lem = (real 15 refl, (real 1 refl, (real 13 refl, tt)))

  pub clock_apart : (n : ℕ) → ClockReply.TheVariants.Moved (phase_now (at t (moved d t book).day)) (length (moved d t book).trades) ≡ ClockReply.TheVariants.Refused n → ⊥
  clock_apart n e = let z : ◌≡◌ {A = ℕ} 0 1 = cc in omega arith

  pub clock_refuses : RefusesBy ClockReply.TheVariants.Refused (clock_rules d t book (length lent)) (clock_call d t book lent).answer.reply
  unfolding clock_call
  clock_refuses =
      refuses_by ClockReply.TheVariants.Refused (clock_rules d t book (length lent)) (clock_call d t book lent).answer.reply
      (ClockReply.TheVariants.Moved (phase_now (at t (moved d t book).day)) (length (moved d t book).trades)) clock_numbers_lem (λ m n (e : ClockReply.TheVariants.Refused m ≡ ClockReply.TheVariants.Refused n). cc)
      clock_apart (part (λ (o : Outcome ClockAnswer). o.answer.reply) (eqb (first_of (clock_rules d t book (length lent))) 0) _ _)

  clock_left :
      (n : ℕ)
      → (clock_call d t book lent).answer.reply ≡ ClockReply.TheVariants.Refused n
      → clock_call d t book lent ≡ record {
        answer = record { reply = ClockReply.TheVariants.Refused (first_of (clock_rules d t book (length lent))); made = 0; day = d };
        book = book;
        trades = lent;
      }
  unfolding clock_call
  clock_left n = second (λ (o : Outcome ClockAnswer). o.answer.reply) (eqb (first_of (clock_rules d t book (length lent))) 0) _ _ (ClockReply.TheVariants.Refused n) (clock_apart n)

module _ (d : Day) (book : List Order) where
  pub report_numbers_lem : Numbers (report_rules d book)
  unfolding report_rules ◌when◌
  report_numbers_lem = (real 15 refl, tt)

  report_apart : (n : ℕ) → report_at (auction_price d book) book ≡ ReportReply.TheVariants.Refused n → ⊥
  unfolding report_at
  report_apart n = go (eqb (auction_price d book) 0)
    where
      go :
          (b : Bool)
          → cond b (ReportReply.TheVariants.Priced 0 0 (pos 0))
          (ReportReply.TheVariants.Priced (auction_price d book) (volume book (auction_price d book)) (surplus book (auction_price d book)))
          ≡ ReportReply.TheVariants.Refused n
          → ⊥
      go true e = let z : ◌≡◌ {A = ℕ} 0 1 = cc in omega arith
      go false e = let z : ◌≡◌ {A = ℕ} 0 1 = cc in omega arith

  pub report_refuses : RefusesBy ReportReply.TheVariants.Refused (report_rules d book) (report_call d book)
  unfolding report_call
  report_refuses =
      refuses_by ReportReply.TheVariants.Refused (report_rules d book) (report_call d book)
      (report_at (auction_price d book) book) report_numbers_lem (λ m n (e : ReportReply.TheVariants.Refused m ≡ ReportReply.TheVariants.Refused n). cc)
      report_apart refl

module _ (d : Day) (asked : ℕ) (book : List Order) (lent : List ℕ) where
  pub list_numbers_lem : Numbers (list_rules d book)
  unfolding list_rules ◌when◌
  list_numbers_lem = (real 15 refl, tt)

  list_apart : (n : ℕ) → ListReply.TheVariants.Listed (min (length lent) (length (due asked book))) (get_or (due asked book) (length lent) 0) ≡ ListReply.TheVariants.Refused n → ⊥
  list_apart n e = let z : ◌≡◌ {A = ℕ} 0 1 = cc in omega arith

  pub list_refuses : RefusesBy ListReply.TheVariants.Refused (list_rules d book) (list_call d asked book lent).reply
  unfolding list_call
  list_refuses =
      refuses_by ListReply.TheVariants.Refused (list_rules d book) (list_call d asked book lent).reply
      (ListReply.TheVariants.Listed (min (length lent) (length (due asked book))) (get_or (due asked book) (length lent) 0)) list_numbers_lem (λ m n (e : ListReply.TheVariants.Refused m ≡ ListReply.TheVariants.Refused n). cc)
      list_apart (part (λ (o : ListOutcome). o.reply) (eqb (first_of (list_rules d book)) 0) _ _)

  list_left_lem :
      (n : ℕ)
      → (list_call d asked book lent).reply ≡ ListReply.TheVariants.Refused n
      → list_call d asked book lent ≡ record { reply = ListReply.TheVariants.Refused (first_of (list_rules d book)); prices = lent }
  unfolding list_call
  list_left_lem n = second (λ (o : ListOutcome). o.reply) (eqb (first_of (list_rules d book)) 0) _ _ (ListReply.TheVariants.Refused n) (list_apart n)

-- ---- the six calls together

pub each_refusal : EachRefusal
each_refusal =
    record {
      opening = open_refuses;
      order = order_refuses;
      cancel = cancel_refuses;
      clock = clock_refuses;
      report = report_refuses;
      list = list_refuses;
    }

pub untouched : Untouched
untouched =
    record {
      opening = λ close mark n book r. ap (λ (o : OpenOutcome). o.book) (open_left_lem close mark book n r);
      order = λ d a book lent n r.
          let e = order_left d a book lent n r in (
            ap (λ (o : Outcome OrderAnswer). o.answer.day) e,
            ap (λ (o : Outcome OrderAnswer). o.answer.made) e,
            ap (λ (o : Outcome OrderAnswer). o.book) e,
            ap (λ (o : Outcome OrderAnswer). o.trades) e,
          );
      cancel = λ d account number n book r.
          let e = cancel_left_lem d account number book n r in
          (ap (λ (o : CancelOutcome). o.answer.day) e, ap (λ (o : CancelOutcome). o.book) e);
      clock = λ d t book lent n r.
          let e = clock_left d t book lent n r in (
            ap (λ (o : Outcome ClockAnswer). o.answer.day) e,
            ap (λ (o : Outcome ClockAnswer). o.answer.made) e,
            ap (λ (o : Outcome ClockAnswer). o.book) e,
            ap (λ (o : Outcome ClockAnswer). o.trades) e,
          );
      list = λ d asked n book lent r. ap (λ (o : ListOutcome). o.prices) (list_left_lem d asked book lent n r);
    }
