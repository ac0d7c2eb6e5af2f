-- What an accepted cancel of a fixed-price order and an accepted move over all lists give, and a move by whether it is refused. Assumes
-- nothing.
use Prim.Native.Nat.{ℕ}
use mathlib.Core.Path.{◌≡◌}
use mathlib.Core.Bool.{not}
use mathlib.Core.List.{List}
use lib.ListN.{length}
use Rattle.model.specs.declared.Order.{Order}
use Rattle.model.specs.declared.Trade.{Trade}
use Rattle.model.specs.declared.Day.{Day}
use Rattle.model.specs.declared.CancelReply as CancelReply
use Rattle.model.specs.declared.MoveReply as MoveReply
use Rattle.model.specs.Lists.{keep}
use Rattle.model.specs.Books.{Books}
use Rattle.model.specs.Auction.{shares_of}
use Rattle.model.specs.FixedBook.{lined}
use Rattle.model.specs.Figures.{at}
use Rattle.model.specs.Halts.{phase_now}
use Rattle.model.specs.Screen.{update}
use Rattle.model.specs.Refusals.{first_of}
use Rattle.model.specs.Calls.{written, is_own}
use Rattle.model.specs.FixedCalls.{FixedCancelOutcome}
use Rattle.model.specs.AfterClose.{After}
use Rattle.model.specs.AllCalls.{ClockAllOutcome, moved_on, move_trades, clock_all_rules, clock_all_call}
use Rattle.demands.proofs.Cases.{by_number}

abbrev pub withdrawn : ℕ → ℕ → List Order → FixedCancelOutcome
withdrawn account number book =
    record {
      reply = CancelReply.TheVariants.Withdrawn (shares_of (is_own account number) book);
      book = lined (length book) (keep (λ o. not (is_own account number o)) book);
    }

module _ (d : Day) (t : ℕ) (s : Books) (lent : List Trade) where
  abbrev move_rule : ℕ
  move_rule = first_of (clock_all_rules d t s (length lent))

  abbrev pub moved_all : ClockAllOutcome
  moved_all =
      let h : After = moved_on d t s in
      record {
        answer =
            record {
              reply =
                  MoveReply.TheVariants.Moved
                  (record {
                    phase = phase_now (at t h.day);
                    trades = length h.auctions;
                    confirmed = length h.confirmed;
                    fixed = length h.fixed;
                    void = h.void;
                    lapsed = h.lapsed;
                  });
              made = length (move_trades h);
              day = update h.auctions h.books.main (at t h.day);
            };
        books = h.books;
        trades = written (move_trades h) lent;
      }

  pub move_cases :
      (P : ClockAllOutcome → Type 0)
      → (move_rule ≡ 0 → P moved_all)
      → ((move_rule ≡ 0 → ⊥) → P (record { answer = record { reply = MoveReply.TheVariants.Refused move_rule; made = 0; day = d }; books = s; trades = lent }))
      → P (clock_all_call d t s lent)
  unfolding clock_all_call
  move_cases P = by_number P move_rule _ _
