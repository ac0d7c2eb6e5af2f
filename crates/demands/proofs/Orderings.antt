-- A sound book is in priority order, and so is what every call leaves, in as many places. Assumes that the calls keep a sound day
-- sound.
use Prim.Native.Nat.{ℕ}
use mathlib.Core.Path.{◌≡◌, refl, ◌∙◌}
use mathlib.Core.List.{List}
use lib.ListN.{length, length-map}
use Rattle.model.specs.declared.Order.{Order}
use Rattle.model.specs.declared.Asked.{Asked}
use Rattle.model.specs.declared.Trade.{Trade}
use Rattle.model.specs.declared.Day.{Day}
use Rattle.model.specs.declared.OrderAnswer.{OrderAnswer}
use Rattle.model.specs.declared.ClockAnswer.{ClockAnswer}
use Rattle.model.specs.Clock.{passed}
use Rattle.model.specs.Book.{free}
use Rattle.model.specs.Matching.{settle}
use Rattle.model.specs.Calls.{Outcome, CancelOutcome, cleared, entered, order_call, cancel_call}
use Rattle.model.specs.ClockCall.{auction_trades, Held, auction, resume, lapse, pass, start, moved, clock_call}
use Rattle.model.specs.Words.{Ordered, Sound}
use Rattle.model.proofs.Seconds.{pass_cases, through_keeps}
use Rattle.soundness.proofs.SoundDays.{sound_ordered}
use Rattle.book.proofs.Arranging.{arranged_length}
use Rattle.demands.specs.Keeping.{Keeping}
use Rattle.demands.specs.Ordering.{Ordering}
use Rattle.demands.proofs.Cases.{order_cases, cancel_cases, clock_cases}

in_order_lem : (d : Day) (book : List Order) → Sound d book → Ordered book
in_order_lem d book s = sound_ordered d book s.1

-- ---- as many places

pub order_places : (d : Day) (a : Asked) (book : List Order) (lent : List Trade) → length (order_call d a book lent).book ≡ length book
unfolding entered
order_places d a book lent =
    order_cases d a book lent (λ (x : Outcome OrderAnswer). length x.book ≡ length book)
    (λ z. arranged_length (length book) _)
    (λ n. refl)

pub cancel_places : (d : Day) (account number : ℕ) (book : List Order) → length (cancel_call d account number book).book ≡ length book
cancel_places d account number book =
    cancel_cases d account number book (λ (x : CancelOutcome). length x.book ≡ length book)
    (λ z. arranged_length (length book) _)
    (λ n. refl)

pass_places : (n s : ℕ) (h : Held) → length h.book ≡ n → length (pass s h).book ≡ n
unfolding auction resume lapse cleared
pass_places n s h e =
    let a = arranged_length (length h.book) (settle (auction_trades h.day h.book) h.book) in
    pass_cases (λ k. length k.book ≡ n) s h (λ _. a ∙ e) (λ _. a ∙ e) (λ _. length-map (auction h).book (λ (_ : Order). free) ∙ a ∙ e) (λ _ _ _. e)

pub clock_places : (d : Day) (t : ℕ) (book : List Order) (lent : List Trade) → length (clock_call d t book lent).book ≡ length book
unfolding moved start
clock_places d t book lent =
    clock_cases d t book lent (λ (x : Outcome ClockAnswer). length x.book ≡ length book)
    (λ z. through_keeps (λ k. length k.book ≡ length book) (pass_places (length book)) (passed d.time t) (start d book) refl)
    (λ n. refl)

pub ordering : Keeping → Ordering
ordering k =
    record {
      sound = in_order_lem;
      order = λ d a book lent s. in_order_lem _ _ (k.order_kept d a book lent s);
      cancel = λ d account number book s. in_order_lem _ _ (k.cancel_kept d account number book s);
      clock = λ d t book lent s. in_order_lem _ _ (k.clock_kept d t book lent s);
      order_places = order_places;
      cancel_places = cancel_places;
      clock_places = clock_places;
    }
