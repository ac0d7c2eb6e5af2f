-- The stops on the way, one by one: each leaves the next one room, and the first auction among them has all their trades.
-- Assumes nothing.
use Prim.Native.Nat.{ℕ, ◌+◌, ◌*◌, ◌≤◌}
use mathlib.Core.Path.{◌≡◌, refl, ap, ◌∙◌}
use mathlib.Core.Logic.{⊎_elim}
use mathlib.Core.List.{List, [], ◌∷◌, ◌++◌}
use native.Mathlib.Omega.{arith}
use lib.ListN.{length, length-append}
use lib.Dec.{eqb}
use borrow.Author.Tests.{eqb-true, eqb-false}
use Rattle.model.specs.declared.Order.{Order}
use Rattle.model.specs.declared.Day.{Day}
use Rattle.model.specs.Lists.{total}
use Rattle.model.specs.Clock.{passed}
use Rattle.model.specs.Book.{free}
use Rattle.model.specs.Matching.{settle, filled}
use Rattle.model.specs.Figures.{tally}
use Rattle.model.specs.Halts.{halting, resumed}
use Rattle.model.specs.Calls.{cleared}
use Rattle.model.specs.ClockCall.{auction_trades, Held, auction, resume, lapse, pass, through, start, moved}
use Rattle.model.proofs.Bools.{true_or_false}
use Rattle.model.proofs.Seconds.{pass_cases, through_keeps}
use Rattle.book.specs.Standing.{Ranked}
use Rattle.book.proofs.Kept.{free_left, standing_settle}
use Rattle.book.proofs.Arranging.{cleared_ranked, arranged_ranked, total_arranged}
use Rattle.halts.proofs.Kept.{resume_cases}
use Rattle.pairing.proofs.Auctions.{auction_shares, settled_fit, afterwards}
use Rattle.pairing.proofs.Moves.{pass_due, quiet_through}
use Rattle.soundness.specs.Ready.{Ready}
use Rattle.moves.specs.Stops.{next_stop}
use Rattle.moves.specs.Moving.{Underway}
use Rattle.moves.proofs.NextStop.{stop_due, stop_there, through_none, through_next}
use Rattle.moves.proofs.AuctionHeld.{paid_room, opened_fit}

-- ---- the book after an auction

-- no share rests in a book that is cleared
cleared_none : (book : List Order) → total (λ (o : Order). o.left) (cleared book) ≡ 0
unfolding cleared total free
cleared_none [] = refl
cleared_none (o ∷ os) = rw (free_left, cleared_none os)

module _ (d : Day) (book : List Order) (r : Ranked book) where
  after_ranked : Ranked (afterwards book r.stands d)
  after_ranked =
      arranged_ranked (length book) (settle (auction_trades d book) book)
      (standing_settle (auction_trades d book) book r.stands)
      (settled_fit book r.stands d)
      r.few

  after_less : total (λ (o : Order). o.left) (afterwards book r.stands d) + 2 * filled (auction_trades d book) ≡ total (λ (o : Order). o.left) book
  after_less =
      ap (λ (n : ℕ). n + 2 * filled (auction_trades d book))
      (total_arranged (length book) (settle (auction_trades d book) book)
      (standing_settle (auction_trades d book) book r.stands)
      (settled_fit book r.stands d)
      (λ (o : Order). o.left)
      free_left)
      ∙ auction_shares book r.stands d

-- ---- a stop leaves the next one room

pub start_underway : (d : Day) (book : List Order) → Ready d book → Underway (start d book)
unfolding start
start_underway d book r =
    record {
      ranked = r.ranked;
      shares = omega (arith, r.sound.shares, r.sound.issued);
      most = r.sound.most;
      opened =
          ⊎_elim (λ z. omega (arith, r.sound.untraded (eqb-true d.shares 0 z))) (λ n. (r.sound.traded (eqb-false d.shares 0 n)).0.high)
          (true_or_false (eqb d.shares 0));
    }

module _ (h : Held) (u : Underway h) where
  auction_underway : Underway (auction h)
  unfolding auction
  auction_underway =
      record {
        ranked = after_ranked h.day h.book u.ranked;
        shares = unfold tally in omega (arith, u.shares, after_less h.day h.book u.ranked);
        most = unfold tally in paid_room h u;
        opened = opened_fit h u;
      }

  -- a halt changes none of these figures
  halt_underway :
      (end used30 used60 : ℕ) (k : Held)
      → Underway k
      → Underway (record { day = halting end used30 used60 k.day; book = k.book; trades = k.trades })
  unfolding halting
  halt_underway end used30 used60 k w =
      record { ranked = w.ranked; shares = w.shares; most = w.most; opened = w.opened }

  resume_underway : (s : ℕ) → Underway (resume s h)
  resume_underway s =
      let over : Underway (record { day = resumed (auction h).day; book = (auction h).book; trades = (auction h).trades }) =
      unfold resumed in halt_underway 0 (auction h).day.used30 (auction h).day.used60 (auction h) auction_underway
      in
      resume_cases (λ d. Underway (record { day = d; book = (resume s h).book; trades = (resume s h).trades })) s h (unfold resume in over)
      (λ _ _. unfold resume in halt_underway _ _ _ (record { day = resumed (auction h).day; book = (auction h).book; trades = (auction h).trades }) over)

  lapse_underway : Underway (lapse (auction h))
  unfolding lapse
  lapse_underway =
      record {
        ranked = cleared_ranked (auction h).book auction_underway.ranked.few;
        shares = omega (arith, auction_underway.shares, cleared_none (auction h).book);
        most = auction_underway.most;
        opened = auction_underway.opened;
      }

pub pass_underway : (s : ℕ) (h : Held) → Underway h → Underway (pass s h)
pass_underway s h u =
    pass_cases Underway s h (λ _. auction_underway h u) (λ _. resume_underway h u s) (λ _. lapse_underway h u) (λ _ _ _. u)

pub through_underway : (ss : List ℕ) (h : Held) → Underway h → Underway (through ss h)
through_underway ss h u = through_keeps Underway pass_underway ss h u

-- ---- the trades on the way

-- none is lost
pub pass_grows : (s : ℕ) (h : Held) → length h.trades ≤ length (pass s h).trades
unfolding auction resume lapse
pass_grows s h =
    let more : length h.trades ≤ length (h.trades ++ auction_trades h.day h.book) =
    omega (arith, length-append h.trades (auction_trades h.day h.book))
    in
    pass_cases (λ k. length h.trades ≤ length k.trades) s h (λ _. more) (λ _. more) (λ _. more) (λ _ _ _. omega arith)

pub through_grows : (ss : List ℕ) (h : Held) → length h.trades ≤ length (through ss h).trades
through_grows ss h =
    through_keeps (λ k. length h.trades ≤ length k.trades) (λ s k l. omega (arith, l, pass_grows s k)) ss h (omega arith)

-- there are none, or they are those of the first auction
module _ (d : Day) (t : ℕ) (book : List Order) (r : Ranked book) (l : d.time ≤ t) {stop : ℕ} (e : stop ≡ next_stop d.halt d.time t) where
  pub moved_none : stop ≡ 0 → (moved d t book).trades ≡ []
  unfolding moved start
  moved_none z = ap (λ (h : Held). h.trades) (through_none (start d book) d.time t e l z)

  pub moved_trades : (stop ≡ 0 → ⊥) → (moved d t book).trades ≡ auction_trades d book
  unfolding moved start
  moved_trades n =
      let a = pass_due (start d book) r.stands stop (stop_due (start d book) stop (stop_there (start d book) d.time t e n).2) in
      ap (λ (k : Held). k.trades) (through_next (start d book) d.time t e n)
      ∙ quiet_through (passed stop t) (pass stop (start d book)) a.quiet
      ∙ a.trades
