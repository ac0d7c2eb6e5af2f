-- Every fixed-price trade is at the close: nothing trades before 15:05, and from then on the close stands. Assumes nothing.
use Prim.Native.Nat.{ℕ, ◌≤◌}
use mathlib.Core.Path.{◌≡◌, refl, ap, ◌∙◌}
use mathlib.Core.Logic.{◌⊎◌, inl, inr}
use mathlib.Core.Bool.{Bool, true, false, cond}
use mathlib.Core.List.{List, []}
use native.Mathlib.Omega.{arith}
use lib.ListN.{length, take, drop}
use lib.Seq.{take_at}
use lib.Dec.{leb}
use borrow.Author.Tests.{leb-true}
use Rattle.model.specs.declared.Order.{Order}
use Rattle.model.specs.declared.Asked.{Asked}
use Rattle.model.specs.declared.AskedFixed.{AskedFixed}
use Rattle.model.specs.declared.Trade.{Trade}
use Rattle.model.specs.declared.Day.{Day}
use Rattle.model.specs.Clock.{matching_from}
use Rattle.model.specs.Books.{Books}
use Rattle.model.specs.Figures.{at, reference, close_price, with_fixed_figures, with_block_figures, issue_fixed, tally_fixed}
use Rattle.model.specs.Screen.{update}
use Rattle.model.specs.FixedBook.{arrivals, matches}
use Rattle.model.specs.Calls.{written, order_call, cancel_call}
use Rattle.model.specs.ClockCall.{Held, start, moved}
use Rattle.model.specs.FixedCalls.{arriving, fixed_trades, fixed_entered, fixed_call}
use Rattle.model.specs.AfterClose.{After}
use Rattle.model.specs.AllCalls.{moved_on}
use Rattle.model.specs.Words.{Each}
use Rattle.model.proofs.Bools.{not_both}
use Rattle.pairing.proofs.Turns.{pairs}
use Rattle.pairing.proofs.Grants.{pairs_at}
use Rattle.soundness.proofs.SoundDays.{sound_halt}
use Rattle.demands.proofs.Cases.{order_cases, cancel_cases}
use Rattle.demands.proofs.Hours.{none_late}
use Rattle.demands.proofs.Entered.{allowed}
use Rattle.demands.proofs.Times.{timing}
use Rattle.fixed_demands.specs.Moving.{Passes}
use Rattle.fixed_demands.proofs.MainPart.{main_part}
use Rattle.fixed_demands.proofs.Evenings.{evening}
use Rattle.fixed_demands.proofs.KeptCalls.{moved_late}
use Rattle.fixed_demands.proofs.FixedCases.{fixed_cases}
use Rattle.day_demands.specs.Keeping.{Kept}
use Rattle.day_demands.specs.Running.{
  WholeDay,
  Event,
  Moves,
  Enters,
  Cancels,
  EntersFixed,
  CancelsFixed,
  Declares,
  stepped,
  no_trades,
  moved_by,
  traded_by,
}
use Rattle.day_demands.proofs.Outcomes.{move_cases}
use Rattle.day_demands.proofs.MainThrough.{Beside}
use Rattle.day_demands.proofs.MainEvents.{fixed_beside, block_beside}
use Rattle.day_demands.proofs.BlockEvents.{by_second}
use Rattle.day_demands.proofs.Steps.{in_time, moved_series}

-- ---- the close from 15:05 on

beside_close : (d e : Day) → Beside d e → close_price e ≡ close_price d
unfolding with_fixed_figures with_block_figures close_price reference
beside_close d e b = ap close_price b

-- after a move it is that of the main book's move
move_close : (d : Day) (t : ℕ) (s : Books) → close_price (moved_on d t s).day ≡ close_price (moved d t s.main).day
unfolding with_fixed_figures with_block_figures close_price reference
move_close d t s = ap close_price (main_part d t s).day

updated_close : (ts : List Trade) (book : List Order) (t : ℕ) (d : Day) → close_price (update ts book (at t d)) ≡ close_price d
unfolding update at close_price reference
updated_close ts book t d = refl

module _ (s : WholeDay) (k : Kept s.day s.books) where
  order_close : (a : Asked) (lent : List Trade) → 54_300 ≤ s.day.time → close_price (order_call s.day a s.books.main lent).answer.day ≡ close_price s.day
  order_close a lent l =
      order_cases s.day a s.books.main lent (λ o. close_price o.answer.day ≡ close_price s.day)
      (λ z. absurd (not_both (allowed s.day a s.books.main lent z).hours (none_late s.day.time (omega arith))))
      (λ _. refl)

  cancel_close : (account number : ℕ) → close_price (cancel_call s.day account number s.books.main).answer.day ≡ close_price s.day
  unfolding update close_price reference
  cancel_close account number =
      cancel_cases s.day account number s.books.main (λ o. close_price o.answer.day ≡ close_price s.day) (λ _. refl) (λ _. refl)

  clock_close : (t : ℕ) (lent : List Trade) → 54_300 ≤ s.day.time → close_price (stepped (Moves t lent) s).day ≡ close_price s.day
  unfolding stepped
  clock_close t lent l =
      move_cases s.day t s.books lent (λ o. close_price o.answer.day ≡ close_price s.day)
      (λ _.
      updated_close _ _ t (moved_on s.day t s.books).day
      ∙ move_close s.day t s.books
      ∙ ap (λ (h : Held). close_price h.day) (moved_late s.day t s.books.main (sound_halt s.day s.books.main k.sound.main.1) (omega arith))
      ∙ (unfold start in refl))
      (λ _. refl)

  pub event_close : (e : Event) → 54_300 ≤ s.day.time → close_price (stepped e s).day ≡ close_price s.day
  unfolding stepped
  event_close (Moves t lent) l = clock_close t lent l
  event_close (Enters a lent) l = order_close a lent l
  event_close (Cancels account number) l = cancel_close account number
  event_close (EntersFixed a lent) l = beside_close s.day _ (fixed_beside s.day a s.books.main s.books.fixed lent)
  event_close (CancelsFixed account number) l = refl
  event_close (Declares a lent) l = beside_close s.day _ (block_beside s.day a s.books.main s.books.blocks lent)

-- ---- time goes on

beside_time : (d e : Day) → Beside d e → e.time ≡ d.time
unfolding with_fixed_figures with_block_figures
beside_time d e b = ap (λ (x : Day). x.time) b

pub event_later : (s : WholeDay) (e : Event) → s.day.time ≤ (stepped e s).day.time
unfolding stepped
event_later s (Moves t lent) =
    move_cases s.day t s.books lent (λ o. s.day.time ≤ o.answer.day.time)
    (λ z. unfold update at in (in_time s.day t s.books lent z).0)
    (λ _. omega arith)
event_later s (Enters a lent) = omega (arith, timing.order_stays s.day a s.books.main lent)
event_later s (Cancels account number) = omega (arith, timing.cancel_stays s.day account number s.books.main)
event_later s (EntersFixed a lent) =
    omega (arith, beside_time s.day _ (fixed_beside s.day a s.books.main s.books.fixed lent))
event_later s (CancelsFixed account number) = omega arith
event_later s (Declares a lent) =
    omega (arith, beside_time s.day _ (block_beside s.day a s.books.main s.books.blocks lent))

-- ---- an event's own trades

-- at this day's close, and none before 15:05
pub record Priced (d : Day) (ts : List Trade) : Type 0 where
  pub prices : Each (λ (t : Trade). t.price ≡ close_price d) ts
  pub late : (ts ≡ []) ⊎ (54_300 ≤ d.time)

none_priced : (d : Day) → Priced d []
none_priced d = record { prices = tt; late = inl refl }

matches_priced : (close : ℕ) (os : List Order) → Each (λ (t : Trade). t.price ≡ close) (matches close os)
unfolding matches pairs
matches_priced close os = pairs_at close (arrivals 0 os) (arrivals 1 os)

module _ (d : Day) (a : AskedFixed) (main book : List Order) (lent : List Trade) where
  order_priced : Priced (fixed_entered d a book lent).answer.day (fixed_trades d a book)
  unfolding fixed_entered fixed_trades issue_fixed tally_fixed with_fixed_figures close_price reference matching_from
  order_priced = go (leb 54_300 d.time) refl
    where
      go :
          (b : Bool)
          → leb 54_300 d.time ≡ b
          → Priced (fixed_entered d a book lent).answer.day (cond b (matches (close_price d) (arriving d a book)) [])
      go true e = record { prices = matches_priced (close_price d) (arriving d a book); late = inr (leb-true 54_300 d.time e) }
      go false e = none_priced _

  pub fixed_priced :
      Priced (fixed_call d a main book lent).answer.day (take (fixed_call d a main book lent).answer.made (fixed_call d a main book lent).trades)
  fixed_priced =
      fixed_cases d a main book lent (λ o. Priced o.answer.day (take o.answer.made o.trades))
      (λ _. made order_priced)
      (λ _. none_priced d)
    where
      made :
          Priced (fixed_entered d a book lent).answer.day (fixed_trades d a book)
          → Priced (fixed_entered d a book lent).answer.day (take (fixed_entered d a book lent).answer.made (fixed_entered d a book lent).trades)
      made p = unfold fixed_entered written in
          rw (take_at (fixed_trades d a book) (drop (length (fixed_trades d a book)) lent) (length (fixed_trades d a book)) refl) p

module _ (d : Day) (t : ℕ) (s : Books) (l : d.time ≤ t) where
  abbrev h : After
  h = moved_on d t s

  pub move_priced : Priced (update h.auctions h.books.main (at t h.day)) h.fixed
  move_priced =
      let v = evening d t s l in
      by_second matching_from d.time t
      (λ p.
      let close : close_price (update h.auctions h.books.main (at t h.day)) ≡ close_price (moved d t s.main).day =
      updated_close h.auctions h.books.main t h.day ∙ move_close d t s
      in
      record { prices = rw ((v.matched p).trades, close) (matches_priced _ _); late = inr (now p) })
      (λ n. rw (v.unmatched n).trades (none_priced _))
    where
      now : Passes matching_from d.time t → 54_300 ≤ (update h.auctions h.books.main (at t h.day)).time
      now p = unfold update at matching_from in p.reached

pub event_priced : (s : WholeDay) (e : Event) → Priced (stepped e s).day (traded_by e s).fixed
unfolding stepped traded_by no_trades
event_priced s (Moves t lent) =
    move_cases s.day t s.books lent (λ o. Priced o.answer.day (moved_by o.answer.reply o.trades).fixed)
    (λ z. rw (moved_series s.day t s.books lent) (move_priced s.day t s.books (in_time s.day t s.books lent z).0))
    (λ _. unfold moved_by no_trades in none_priced s.day)
event_priced s (Enters a lent) = none_priced _
event_priced s (Cancels account number) = none_priced _
event_priced s (EntersFixed a lent) = fixed_priced s.day a s.books.main s.books.fixed lent
event_priced s (CancelsFixed account number) = none_priced _
event_priced s (Declares a lent) = none_priced _
