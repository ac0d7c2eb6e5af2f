-- High and low stand in the screen alone, and soundness does not bound them: those that are read from bytes are numbers of 64 bits, and
-- an event's trades keep them so. Assumes nothing.
use Prim.Native.Nat.{ℕ, max, min}
use mathlib.Core.Path.{◌≡◌, refl, sym, ap, subst}
use mathlib.Core.Bool.{Bool, true, false, cond}
use mathlib.Core.List.{List, [], ◌∷◌}
use native.Mathlib.Omega.{arith}
use lib.ListN.{take}
use lib.Dec.{eqb}
use Rattle.model.specs.declared.Order.{Order}
use Rattle.model.specs.declared.Asked.{Asked}
use Rattle.model.specs.declared.Trade.{Trade}
use Rattle.model.specs.declared.Screen.{Screen}
use Rattle.model.specs.declared.Day.{Day}
use Rattle.model.specs.declared.OrderReply as OrderReply
use Rattle.model.specs.declared.CancelReply as CancelReply
use Rattle.model.specs.declared.ClockReply as ClockReply
use Rattle.model.specs.Matching.{first_price, highest, lowest}
use Rattle.model.specs.Figures.{no_screen, fresh_day}
use Rattle.model.specs.Screen.{screen_of, high_with, low_with}
use Rattle.model.specs.Calls.{order_call, cancel_call}
use Rattle.model.specs.ClockCall.{clock_call}
use Rattle.model.specs.Words.{Sound}
use Rattle.demands.specs.Screening.{Counted}
use Rattle.demands.proofs.Totals.{Prices, order_prices, clock_prices}
use Rattle.demands.proofs.Screenings.{screening}
use Rattle.demands.proofs.Refusals.{untouched}
use Rattle.octets.specs.Numbers.{AllBytes, parts}
use Rattle.records.specs.Layout.{Word, numbers, day_in}
use Rattle.records.proofs.Back.{numbers_fit}

pub record WordRange (d : Day) : Type 0 where
  pub high : Word d.screen.high
  pub low : Word d.screen.low

pub range_in : (b : List ℕ) → AllBytes b → WordRange (day_in b)
unfolding day_in numbers parts
range_in b s = record { high = numbers_fit 39 9 b s; low = numbers_fit 39 10 b s }

pub fresh_range : (close mark : ℕ) → WordRange (fresh_day close mark)
unfolding fresh_day no_screen
fresh_range close mark = record { high = omega arith; low = omega arith }

-- ---- with more trades

highest_word : (p : ℕ) (ts : List Trade) → Word p → Prices ts → Word (highest p ts)
unfolding highest
highest_word p [] h e = h
highest_word p (t ∷ ts) h e =
    let m : Word (max p t.price) = omega (arith, h, e.0.high) in highest_word (max p t.price) ts m e.1

lowest_word : (p : ℕ) (ts : List Trade) → Word p → Prices ts → Word (lowest p ts)
unfolding lowest
lowest_word p [] h e = h
lowest_word p (t ∷ ts) h e =
    let m : Word (min p t.price) = omega (arith, h, e.0.high) in lowest_word (min p t.price) ts m e.1

first_word : (ts : List Trade) → Prices ts → Word (first_price 0 ts)
unfolding first_price
first_word [] e = omega arith
first_word (t ∷ ts) e = omega (arith, e.0.high)

either : (b : Bool) (p q : ℕ) → Word p → Word q → Word (cond b p q)
either true p q h k = h
either false p q h k = k

counted_range :
    (before : Day) (ts : List Trade) (d : Day) (book : List Order) → Prices ts → WordRange before → Counted before ts d book → WordRange d
unfolding high_with low_with screen_of
counted_range before ts d book e r k =
    record {
      high =
          subst Word (sym (ap (λ (s : Screen). s.high) k))
          (highest_word _ ts (either (eqb before.screen.last 0) _ _ (first_word ts e) r.high) e);
      low =
          subst Word (sym (ap (λ (s : Screen). s.low) k))
          (lowest_word _ ts (either (eqb before.screen.last 0) _ _ (first_word ts e) r.low) e);
    }

same_range : (d e : Day) → d ≡ e → WordRange e → WordRange d
same_range d e p r = subst WordRange (sym p) r

-- ---- after an event

pub order_range :
    (d : Day) (a : Asked) (book : List Order) (lent : List Trade)
    → Sound d book
    → WordRange d
    → WordRange (order_call d a book lent).answer.day
order_range d a book lent s r = go (order_call d a book lent).answer.reply refl
  where
    go : (x : OrderReply.OrderReply) → (order_call d a book lent).answer.reply ≡ x → WordRange (order_call d a book lent).answer.day
    go (OrderReply.TheVariants.Refused n) e = same_range _ d (untouched.order d a book lent n e).0 r
    go (OrderReply.TheVariants.Accepted y) e =
        counted_range d (take (order_call d a book lent).answer.made (order_call d a book lent).trades) _ (order_call d a book lent).book
        (order_prices d a book lent s) r (screening.order d a book lent y e)

pub cancel_range : (d : Day) (account number : ℕ) (book : List Order) → WordRange d → WordRange (cancel_call d account number book).answer.day
cancel_range d account number book r = go (cancel_call d account number book).answer.reply refl
  where
    go : (x : CancelReply.CancelReply) → (cancel_call d account number book).answer.reply ≡ x → WordRange (cancel_call d account number book).answer.day
    go (CancelReply.TheVariants.Refused n) e = same_range _ d (untouched.cancel d account number n book e).0 r
    go (CancelReply.TheVariants.Withdrawn q) e =
        counted_range d [] _ (cancel_call d account number book).book tt r (screening.cancel d account number q book e)

pub clock_range :
    (d : Day) (t : ℕ) (book : List Order) (lent : List Trade)
    → Sound d book
    → WordRange d
    → WordRange (clock_call d t book lent).answer.day
clock_range d t book lent s r = go (clock_call d t book lent).answer.reply refl
  where
    go : (x : ClockReply.ClockReply) → (clock_call d t book lent).answer.reply ≡ x → WordRange (clock_call d t book lent).answer.day
    go (ClockReply.TheVariants.Refused n) e = same_range _ d (untouched.clock d t book lent n e).0 r
    go (ClockReply.TheVariants.Moved phase made) e =
        counted_range d (take (clock_call d t book lent).answer.made (clock_call d t book lent).trades) _ (clock_call d t book lent).book
        (clock_prices d book s t lent) r (screening.clock d t book lent phase made e)
