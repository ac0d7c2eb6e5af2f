-- Every call keeps a sound day sound, accepted or refused: the day that it leaves fits its book, and its updated screen fits both.
-- Assumes nothing.
use Prim.Native.Nat.{ℕ}
use mathlib.Core.Path.{◌≡◌, refl}
use mathlib.Core.Bool.{not}
use mathlib.Core.List.{List, []}
use Rattle.model.specs.declared.Order.{Order}
use Rattle.model.specs.declared.Asked.{Asked}
use Rattle.model.specs.declared.Trade.{Trade}
use Rattle.model.specs.declared.Day.{Day}
use Rattle.model.specs.Figures.{at, issue, tally}
use Rattle.model.specs.Halts.{fired}
use Rattle.model.specs.Screen.{update}
use Rattle.model.specs.Entry.{entry_trades}
use Rattle.model.specs.Calls.{is_own, entered, order_call, cancel_call}
use Rattle.model.specs.ClockCall.{moved, clock_call}
use Rattle.model.specs.Words.{Sound}
use Rattle.soundness.proofs.SoundDays.{sound_day}
use Rattle.demands.specs.Totalling.{Totals}
use Rattle.demands.proofs.Cases.{order_cases, cancel_cases, clock_cases}
use Rattle.demands.proofs.Pricings.{sound_stands}
use Rattle.demands.proofs.Wholes.{whole_of}
use Rattle.demands.proofs.SameFigures.{entered_screen, moved_screen}
use Rattle.demands.proofs.BeforeScreens.{BeforeScreen, before_updated, then_sound}
use Rattle.demands.proofs.Tallied.{Proper, proper_none}
use Rattle.demands.proofs.Screened.{sound_shown, update_fits}
use Rattle.demands.proofs.Cancelled.{kept_before}
use Rattle.demands.proofs.EntryPrices.{entry_proper}
use Rattle.demands.proofs.Entered.{allowed, entered_prices, entered_before}
use Rattle.demands.proofs.Moved.{in_time, moved_before}
use Rattle.demands.proofs.Totals.{totals_none, entered_totals, moved_proper, moved_totals}

-- from a sound day, over an event with these trades, to a day that has its totals and still the old screen
pub updated_sound :
    (d e : Day) (before book : List Order) (ts : List Trade)
    → Sound d before
    → Proper ts
    → Totals d e ts
    → e.screen ≡ d.screen
    → BeforeScreen e book
    → Sound (update ts book e) book
updated_sound d e before book ts s p t same b =
    then_sound (update ts book e) book (before_updated ts book e book b)
    (update_fits d e ts book (whole_of d before (sound_day d before s.1)).figures p.some (sound_shown d before s) t same)

pub cancel_kept :
    (d : Day) (account number : ℕ) (book : List Order)
    → Sound d book
    → Sound (cancel_call d account number book).answer.day (cancel_call d account number book).book
cancel_kept d account number book s =
    cancel_cases d account number book (λ o. Sound o.answer.day o.book)
    (λ _. updated_sound d d book _ [] s proper_none (totals_none d) refl (kept_before (λ o. not (is_own account number o)) d book s))
    (λ _. s)

pub order_kept :
    (d : Day) (a : Asked) (book : List Order) (lent : List Trade)
    → Sound d book
    → Sound (order_call d a book lent).answer.day (order_call d a book lent).book
unfolding entered
order_kept d a book lent s =
    order_cases d a book lent (λ o. Sound o.answer.day o.book)
    (λ z.
    let k = allowed d a book lent z in
    let ts = entry_trades d a book in
    updated_sound d (fired d.time ts (tally ts (issue d))) book _ ts s
    (entry_proper d a book (sound_stands d book s).fair (entered_prices d a book s k)) (entered_totals d a book) (entered_screen d ts)
    (entered_before d a book s k))
    (λ _. s)

pub clock_kept :
    (d : Day) (t : ℕ) (book : List Order) (lent : List Trade)
    → Sound d book
    → Sound (clock_call d t book lent).answer.day (clock_call d t book lent).book
clock_kept d t book lent s =
    clock_cases d t book lent (λ o. Sound o.answer.day o.book)
    (λ z.
    let l = in_time d t book lent z in
    updated_sound d (at t (moved d t book).day) book (moved d t book).book (moved d t book).trades s (moved_proper d book s t)
    (moved_totals d book s t) screen (moved_before d book s t l.0 l.1))
    (λ _. s)
  where
    screen : (at t (moved d t book).day).screen ≡ d.screen
    screen = unfold at in moved_screen d t book
