-- The main book over each event: its own orders and cancels, a move over all lists, and the calls of the other lists, which leave it.
-- Assumes nothing.
use Prim.Native.Nat.{ℕ}
use mathlib.Core.Path.{◌≡◌, refl, ap, ◌∙◌}
use mathlib.Core.Logic.{inl}
use mathlib.Core.List.{List, []}
use lib.ListN.{take}
use Rattle.model.specs.declared.Order.{Order}
use Rattle.model.specs.declared.Declaration.{Declaration}
use Rattle.model.specs.declared.Asked.{Asked}
use Rattle.model.specs.declared.AskedFixed.{AskedFixed}
use Rattle.model.specs.declared.AskedBlock.{AskedBlock}
use Rattle.model.specs.declared.Trade.{Trade}
use Rattle.model.specs.declared.Day.{Day}
use Rattle.model.specs.declared.OrderAnswer.{OrderAnswer}
use Rattle.model.specs.declared.Event as Event
use Rattle.model.specs.Books.{Books}
use Rattle.model.specs.Figures.{at, with_fixed_figures, with_block_figures, issue_fixed, tally_fixed, issue_block, tally_blocks}
use Rattle.model.specs.Screen.{update}
use Rattle.model.specs.Calls.{Outcome, CancelOutcome, order_call, cancel_call}
use Rattle.model.specs.ClockCall.{Held, moved}
use Rattle.model.specs.FixedCalls.{fixed_entered, fixed_call}
use Rattle.model.specs.BlockCalls.{block_entered, block_call}
use Rattle.model.specs.AfterClose.{After}
use Rattle.model.specs.AllCalls.{moved_on}
use Rattle.model.specs.Session.{Desk}
use Rattle.model.specs.Words.{Sound}
use Rattle.demands.specs.Totalling.{Totals}
use Rattle.demands.specs.Running.{is_opening, stepped_by, accepted_by, owners_by}
use Rattle.demands.proofs.SameFigures.{moved_screen}
use Rattle.demands.proofs.Totals.{order_totals, order_prices, cancel_totals, moved_proper, moved_totals}
use Rattle.demands.proofs.Issued.{event_counts, moved_issued, counts_none}
use Rattle.demands.proofs.Owned.{more, event_owned, moved_owned}
use Rattle.demands.proofs.Screenings.{updated_counted, order_follows, cancel_follows}
use Rattle.demands.proofs.ScreenRuns.{follows_goes}
use Rattle.fixed_demands.specs.Moving.{MainPart}
use Rattle.fixed_demands.proofs.MainPart.{main_part}
use Rattle.fixed_demands.proofs.FixedCases.{fixed_cases}
use Rattle.block_demands.proofs.Keepings.{block_cases}
use Rattle.day_demands.proofs.MainThrough.{MainThrough, Beside}

-- ---- its own calls

module _ (d : Day) (book : List Order) (s : Sound d book) where
  pub main_over_order :
      (a : Asked) (lent : List Trade)
      → let o : Outcome OrderAnswer = order_call d a book lent in
      MainThrough d o.answer.day book o.book (take o.answer.made o.trades) (owners_by a o.answer.reply)
  unfolding is_opening stepped_by accepted_by
  main_over_order a lent =
      let o = order_call d a book lent in
      let ts = take o.answer.made o.trades in
      let e = Event.TheVariants.Order a in
      let desk : Desk = record { day = d; book = book } in
      record {
        prices = order_prices d a book lent s;
        totals = order_totals d a book lent;
        goes = follows_goes d o.answer.day book o.book ts s (order_totals d a book lent) (order_follows d a book lent);
        counts = event_counts e refl lent desk;
        owned = λ ws h. event_owned ws e refl lent desk h;
      }

  pub main_over_cancel :
      (account number : ℕ)
      → let o : CancelOutcome = cancel_call d account number book in MainThrough d o.answer.day book o.book [] []
  unfolding is_opening stepped_by accepted_by
  main_over_cancel account number =
      let o = cancel_call d account number book in
      let e = Event.TheVariants.Cancel account number in
      let desk : Desk = record { day = d; book = book } in
      record {
        prices = tt;
        totals = cancel_totals d account number book;
        goes = follows_goes d o.answer.day book o.book [] s (cancel_totals d account number book) (cancel_follows d account number book);
        counts = event_counts e refl [] desk;
        owned = λ ws h. event_owned ws e refl [] desk h;
      }

-- ---- a move over all lists

module _ (d : Day) (t : ℕ) (s : Books) (k : Sound d s.main) where
  abbrev h : After
  h = moved_on d t s

  abbrev m : Held
  m = moved d t s.main

  part : MainPart m h
  part = main_part d t s

  -- the day before its screen is updated
  abbrev then : Day
  then = at t h.day

  pub then_totals : Totals d then h.auctions
  unfolding at with_fixed_figures with_block_figures
  then_totals =
      let w = moved_totals d s.main k t in
      rw part.trades
      (record {
        shares = ap (λ (x : Day). x.shares) part.day ∙ w.shares;
        turnover = ap (λ (x : Day). x.turnover) part.day ∙ w.turnover;
        first = ap (λ (x : Day). x.first) part.day ∙ w.first;
        last = ap (λ (x : Day). x.last) part.day ∙ w.last;
      })

  pub then_screen : then.screen ≡ d.screen
  unfolding at with_fixed_figures with_block_figures
  then_screen = ap (λ (x : Day). x.screen) part.day ∙ moved_screen d t s.main

  then_issued : then.issued ≡ d.issued
  unfolding at with_fixed_figures with_block_figures
  then_issued = ap (λ (x : Day). x.issued) part.day ∙ moved_issued d t s.main

  pub main_over_move : MainThrough d (update h.auctions h.books.main then) s.main h.books.main h.auctions []
  main_over_move =
      let ts = h.auctions in
      let book = h.books.main in
      let w = updated_totals in
      record {
        prices = rw part.trades (moved_proper d s.main k t).priced;
        totals = w;
        goes = follows_goes d (update ts book then) s.main book ts k w (inl (updated_counted d then ts book then_screen));
        counts = counts_none d.issued (update ts book then).issued updated_issued;
        owned = λ ws o. more ws [] book (rw part.book (moved_owned ws d t s.main o));
      }
    where
      updated_totals : Totals d (update h.auctions h.books.main then) h.auctions
      updated_totals = unfold update in
          let w = then_totals in record { shares = w.shares; turnover = w.turnover; first = w.first; last = w.last }

      updated_issued : (update h.auctions h.books.main then).issued ≡ d.issued
      updated_issued = unfold update in then_issued

-- ---- the calls of the other lists

pub fixed_beside :
    (d : Day) (a : AskedFixed) (main book : List Order) (lent : List Trade) → Beside d (fixed_call d a main book lent).answer.day
unfolding fixed_entered issue_fixed tally_fixed with_fixed_figures with_block_figures
fixed_beside d a main book lent = fixed_cases d a main book lent (λ o. Beside d o.answer.day) (λ _. refl) (λ _. refl)

pub block_beside :
    (d : Day) (a : AskedBlock) (main : List Order) (held : List Declaration) (lent : List Trade)
    → Beside d (block_call d a main held lent).answer.day
unfolding block_entered issue_block tally_blocks with_fixed_figures with_block_figures
block_beside d a main held lent = block_cases d a main held lent (λ o. Beside d o.answer.day) (λ _. refl) (λ _. refl)

-- and each leaves the other's figures
pub fixed_blocks :
    (d : Day) (a : AskedFixed) (main book : List Order) (lent : List Trade) → (fixed_call d a main book lent).answer.day.blocks ≡ d.blocks
unfolding fixed_entered issue_fixed tally_fixed with_fixed_figures
fixed_blocks d a main book lent = fixed_cases d a main book lent (λ o. o.answer.day.blocks ≡ d.blocks) (λ _. refl) (λ _. refl)

pub block_fixed :
    (d : Day) (a : AskedBlock) (main : List Order) (held : List Declaration) (lent : List Trade)
    → (block_call d a main held lent).answer.day.fixed ≡ d.fixed
unfolding block_entered issue_block tally_blocks with_block_figures
block_fixed d a main held lent = block_cases d a main held lent (λ o. o.answer.day.fixed ≡ d.fixed) (λ _. refl) (λ _. refl)
