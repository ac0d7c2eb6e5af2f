-- A call from C that returns 0 was made on a sound day, and has written what the definitions' call writes. Assumes nothing.
use Prim.Native.Nat.{ℕ}
use mathlib.Core.Path.{◌≡◌, refl, ap, ◌∙◌}
use mathlib.Core.Bool.{true}
use mathlib.Core.List.{List, ◌∷◌}
use lib.ListN.{length}
use borrow.Author.Tests.{not-false}
use Rattle.model.specs.declared.Order.{Order}
use Rattle.model.specs.declared.Asked.{Asked}
use Rattle.model.specs.declared.Day.{Day}
use Rattle.model.specs.declared.Entry.{Entry}
use Rattle.model.specs.declared.OrderReply as OrderReply
use Rattle.model.specs.declared.ClockReply as ClockReply
use Rattle.model.specs.Refusals.{Rule, ◌when◌, unsound}
use Rattle.model.specs.Calls.{order_rules, order_call}
use Rattle.model.specs.ClockCall.{clock_rules, clock_call}
use Rattle.model.specs.AuctionCalls.{list_rules, ListOutcome}
use Rattle.model.specs.Words.{Sound}
use Rattle.demands.specs.Refusing.{NoneOf}
use Rattle.demands.proofs.Demands.{entering, pricing}
use Rattle.demands.proofs.Pricings.{sound_if}
use Rattle.demands.proofs.Refusals.{each_refusal}
use Rattle.records.proofs.Back.{length_trades_in}
use Rattle.records.specs.Layout.{day_in, book_in, trades_in, prices_in}
use Rattle.wire.specs.Exports.{has_day, TradeLeft, ListLeft, list_leaves}
use Rattle.wire.specs.Promises.{Bytes, ClockPromise, OrderPromise, ListPromise}
use Rattle.chains.specs.Returning.{Exactly, with_day}
use Rattle.chains.specs.Writing.{OrderWrote, ClockWrote, ListWrote, Writing}
use Rattle.chains.proofs.Bytes.{clock_left, order_left, list_on_lem}
use Rattle.chains.proofs.Returning.{returning}

-- ---- 0 is returned on a sound day alone, in a slice of a day's length

module _ (day : Bytes) (d : Day) (book : List Order) (rules : List Rule) where
  begun : Exactly 0 (with_day 15 day (15 when (unsound d book) ∷ rules)) → (has_day day ≡ true) × Sound d book
  unfolding ◌when◌
  begun e = let n = e.accepts.0 refl in (not-false (has_day day) n.0, sound_if d book n.1.0)

-- ---- a reply that begins with 0 is no refusal, where no rule holds

accepted_entry : (r : OrderReply.OrderReply) → ((n : ℕ) → r ≡ OrderReply.TheVariants.Refused n → ⊥) → (e : Entry) × (r ≡ OrderReply.TheVariants.Accepted e)
accepted_entry (OrderReply.TheVariants.Refused n) h = absurd (h n refl)
accepted_entry (OrderReply.TheVariants.Accepted e) h = (e, refl)

accepted_move :
    (r : ClockReply.ClockReply) → ((n : ℕ) → r ≡ ClockReply.TheVariants.Refused n → ⊥)
    → (phase : ℕ) × ((made : ℕ) × (r ≡ ClockReply.TheVariants.Moved phase made))
accepted_move (ClockReply.TheVariants.Refused n) h = absurd (h n refl)
accepted_move (ClockReply.TheVariants.Moved phase made) h = (phase, (made, refl))

module _ (day book trades : Bytes) where
  order_wrote :
      (reply day' book' trades' reply' : Bytes) (a : Asked)
      → OrderPromise day book trades reply a 0 day' book' trades' reply'
      → OrderWrote day book trades trades' a
  unfolding order_rules
  order_wrote reply day' book' trades' reply' a p =
      let x = returning.order day book trades reply day' book' trades' reply' a 0 p in
      let b = begun day (day_in day) (book_in book) _ x in
      let n : NoneOf (order_rules (day_in day) a (book_in book) (length (trades_in trades))) =
      rw (length_trades_in trades) (x.accepts.0 refl).1 in
      let e = accepted_entry (order_call (day_in day) a (book_in book) (trades_in trades)).answer.reply ((each_refusal.order (day_in day) a (book_in book) (trades_in trades)).accepts.1 n) in
      record {
        sound = b.1;
        entry = e.0;
        reply = e.1;
        accepted = entering.accepted (day_in day) a (book_in book) (trades_in trades) e.0 e.1;
        trades_bytes = ap (λ (l : TradeLeft). l.trades) (p ∙ order_left day book trades reply b.0 a);
      }

  clock_wrote :
      (reply day' book' trades' reply' : Bytes) (time : ℕ)
      → ClockPromise day book trades reply time 0 day' book' trades' reply'
      → ClockWrote day book trades trades' time
  unfolding clock_rules
  clock_wrote reply day' book' trades' reply' time p =
      let x = returning.clock day book trades reply day' book' trades' reply' time 0 p in
      let b = begun day (day_in day) (book_in book) _ x in
      let n : NoneOf (clock_rules (day_in day) time (book_in book) (length (trades_in trades))) =
      rw (length_trades_in trades) (x.accepts.0 refl).1 in
      let e = accepted_move (clock_call (day_in day) time (book_in book) (trades_in trades)).answer.reply ((each_refusal.clock (day_in day) time (book_in book) (trades_in trades)).accepts.1 n) in
      record {
        sound = b.1;
        phase = e.0;
        made = e.1.0;
        reply = e.1.1;
        auctions = pricing.clock_trades (day_in day) (book_in book) b.1 time (trades_in trades);
        trades_bytes = ap (λ (l : TradeLeft). l.trades) (p ∙ clock_left day book trades reply b.0 time);
      }

list_wrote :
    (day book prices reply prices' reply' : Bytes) (asked : ℕ)
    → ListPromise day book prices reply asked 0 prices' reply'
    → ListWrote day book prices prices' asked
unfolding list_rules list_leaves
list_wrote day book prices reply prices' reply' asked p =
    let b = begun day (day_in day) (book_in book) _ (returning.list day book prices reply prices' reply' asked 0 p) in
    record {
      sound = b.1;
      listing = pricing.listing (day_in day) (book_in book) b.1;
      called = pricing.called (day_in day) (book_in book) b.1 asked (prices_in prices);
      prices_bytes = ap (λ (l : ListLeft). l.prices) (p ∙ ap (λ (o : ListOutcome). list_leaves o prices reply) (list_on_lem day book b.0 asked prices));
    }

pub writing : Writing
writing = record { order = order_wrote; clock = clock_wrote; list = list_wrote }
