-- A fixed-price order and its cancel (3.7, 02: #107): its refusals in order, and what it does where none holds.
use Rattle.std.specs.Prelude.{ℕ, ◌-◌, not, ◌&&◌, ◌||◌, List, [], ◌∷◌, ◌++◌, length, leb, ltb, eqb, if◌then◌else◌}
use Rattle.model.specs.declared.Order.{Order}
use Rattle.model.specs.declared.AskedFixed.{AskedFixed}
use Rattle.model.specs.declared.Trade.{Trade}
use Rattle.model.specs.declared.Day.{Day}
use Rattle.model.specs.declared.OrderReply as OrderReply
use Rattle.model.specs.declared.OrderAnswer.{OrderAnswer}
use Rattle.model.specs.declared.CancelReply as CancelReply
use Rattle.model.specs.Lists.{keep, all, any}
use Rattle.model.specs.Clock.{long_hours, matching_from}
use Rattle.model.specs.Limits.{is_price, is_quantity, in_band}
use Rattle.model.specs.Book.{is_live}
use Rattle.model.specs.Matching.{filled, levels, settle}
use Rattle.model.specs.Figures.{close_price, next_fixed, issue_fixed, tally_fixed}
use Rattle.model.specs.Auction.{shares_of}
use Rattle.model.specs.FixedBook.{wrong_side, matches, lined}
use Rattle.model.specs.Refusals.{Rule, ◌when◌, first_of, unsound, unsound_fixed}
use Rattle.model.specs.Calls.{Outcome, written, ended, is_own}

-- ---- an order

-- the orders with this one behind all that came before it
unfoldable pub arriving : Day → AskedFixed → List Order → List Order
arriving d a book =
    keep is_live book
    ++ (record { side = a.side; account = a.account; left = a.quantity; price = a.price; number = next_fixed d } ∷ [])

-- its trades: until 15:05 it only rests
unfoldable pub fixed_trades : Day → AskedFixed → List Order → List Trade
fixed_trades d a book = if leb matching_from d.time then matches (close_price d) (arriving d a book) else []

-- quantity and band rules are those of the main book; 19 stands in place of 4, and 20 in place of 9
unfoldable pub fixed_rules : Day → AskedFixed → List Order → List Order → ℕ → List Rule
fixed_rules d a main book room =
    15 when (unsound d main || unsound_fixed d book)
    ∷ 2 when (not (leb a.side 1))
    ∷ 3 when (eqb a.account 0)
    ∷ 19 when (not (long_hours d.time))
    ∷ 6 when (not (is_quantity a.side a.quantity a.balance))
    ∷ 7 when (not (is_price a.price))
    ∷ 8 when (eqb d.limited 1 && not (in_band d.close a.price))
    ∷ 20 when (leb matching_from d.time && wrong_side a.side a.price (close_price d))
    ∷ 10 when (all is_live book)
    ∷ 11 when (eqb d.fixed.issued 999_999)
    ∷ 13 when (ltb room (length (fixed_trades d a book)))
    ∷ []

unfoldable pub fixed_entered : Day → AskedFixed → List Order → List Trade → Outcome OrderAnswer
fixed_entered d a book lent =
    let ts : List Trade = fixed_trades d a book in
    record {
      answer =
          record {
            reply =
                OrderReply.TheVariants.Accepted
                (record {
                  number = next_fixed d;
                  filled = filled ts;
                  levels = levels ts;
                  remainder = ended (a.quantity - filled ts) a.price;
                });
            made = length ts;
            day = tally_fixed ts (issue_fixed d);
          };
      book = lined (length book) (settle ts (arriving d a book));
      trades = written ts lent;
    }

-- the main book is only read
unfoldable pub fixed_call : Day → AskedFixed → List Order → List Order → List Trade → Outcome OrderAnswer
fixed_call d a main book lent =
    let n : ℕ = first_of (fixed_rules d a main book (length lent)) in
    if eqb n 0
    then fixed_entered d a book lent
    else
    record {
      answer = record { reply = OrderReply.TheVariants.Refused n; made = 0; day = d };
      book = book;
      trades = lent;
    }

-- ---- a cancel: it changes this book alone, and the screen shows nothing of it, so the day stays

pub record FixedCancelOutcome : Type 0 where
  pub reply : CancelReply.CancelReply
  pub book : List Order

unfoldable pub fixed_cancel_rules : Day → ℕ → ℕ → List Order → List Order → List Rule
fixed_cancel_rules d account number main book =
    15 when (unsound d main || unsound_fixed d book)
    ∷ 19 when (not (long_hours d.time))
    ∷ 12 when (not (any (is_own account number) book))
    ∷ []

unfoldable pub fixed_cancel_call : Day → ℕ → ℕ → List Order → List Order → FixedCancelOutcome
fixed_cancel_call d account number main book =
    let n : ℕ = first_of (fixed_cancel_rules d account number main book) in
    if eqb n 0
    then
    record {
      reply = CancelReply.TheVariants.Withdrawn (shares_of (is_own account number) book);
      book = lined (length book) (keep (λ o. not (is_own account number o)) book);
    }
    else record { reply = CancelReply.TheVariants.Refused n; book = book }
