-- The clock: both books hold the same auctions, with the same trades, and are cleared alike.
use Prim.Native.Nat.{ℕ}
use mathlib.Core.Path.{◌≡◌, refl, ap, ◌∙◌}
use mathlib.Core.List.{List, [], ◌∷◌}
use lib.ListN.{length}
use lib.Dec.{eqb}
use Rattle.model.specs.declared.Order.{Order}
use Rattle.model.specs.declared.Trade.{Trade}
use Rattle.model.specs.declared.Day.{Day}
use Rattle.model.specs.Clock.{passed}
use Rattle.model.specs.Figures.{at}
use Rattle.model.specs.Refusals.{first_of}
use Rattle.model.specs.ClockCall.{Held, auction_trades, auction, resume, lapse, pass, through, start, moved, clock_rules, clock_call}
use Rattle.model.specs.Words.{Sound}
use Rattle.demands.specs.Older.{older_auction, older_resume, older_pass, older_through, older_moved, older_clock_rules, older_clock_call}
use Rattle.demands.proofs.SameQueues.{auctioned_alike, update_alike}
use Rattle.demands.proofs.Twins.{either, Twin, Agree, twin_length, twin_alike, settled_twin, cleared_twin}
use Rattle.demands.proofs.OlderSound.{older_sound, newer_sound}

-- the same day and the same trades so far, and the books twins
record Meet (n : ℕ) (h k : Held) : Type 0 where
  day : h.day ≡ k.day
  book : Twin n h.book k.book
  trades : h.trades ≡ k.trades

module _ {n : ℕ} {h k : Held} (m : Meet n h k) where
  auctioned : auction_trades h.day h.book ≡ auction_trades k.day k.book
  auctioned =
      ap (λ (d : Day). auction_trades d h.book) m.day ∙ auctioned_alike h.book k.book (twin_alike m.book) k.day

  auction_meets : Meet n (older_auction h) (auction k)
  unfolding older_auction auction
  auction_meets =
      record {
        day = rw (auctioned, m.day);
        book = rw (auctioned, twin_length m.book) (settled_twin (auction_trades k.day k.book) m.book);
        trades = rw (auctioned, m.trades);
      }

  resume_meets : (s : ℕ) → Meet n (older_resume s h) (resume s k)
  unfolding older_resume resume
  resume_meets s =
      let a = auction_meets in record { day = rw (auctioned, a.day); book = a.book; trades = a.trades }

  lapse_meets : Meet n (lapse (older_auction h)) (lapse (auction k))
  unfolding lapse
  lapse_meets = let a = auction_meets in record { day = a.day; book = cleared_twin a.book; trades = a.trades }

  pass_meets : (s : ℕ) → Meet n (older_pass s h) (pass s k)
  unfolding older_pass pass
  pass_meets s =
      let e : eqb s h.day.halt ≡ eqb s k.day.halt = ap (λ (d : Day). eqb s d.halt) m.day in
      rw e
      (either (Meet n) (eqb s 33_900) (λ _. auction_meets)
      (either (Meet n) (eqb s k.day.halt) (λ _. resume_meets s) (either (Meet n) (eqb s 54_000) (λ _. lapse_meets) m)))

through_meets : {n : ℕ} (ss : List ℕ) {h k : Held} → Meet n h k → Meet n (older_through ss h) (through ss k)
unfolding older_through through
through_meets [] m = m
through_meets (s ∷ ss) m = through_meets ss (pass_meets m s)

-- ---- the call

module _ {n : ℕ} {o c : List Order} (d : Day) (time : ℕ) (t : Twin n o c) (s : Sound d c) where
  moved_alike : Meet n (older_moved d time o) (moved d time c)
  unfolding older_moved moved start
  moved_alike = through_meets (passed d.time time) (record { day = refl; book = t; trades = refl })

  same_refusal : (room : ℕ) → first_of (older_clock_rules d time o room) ≡ first_of (clock_rules d time c room)
  unfolding older_clock_rules clock_rules
  same_refusal room = rw (older_sound d t s, newer_sound d t s, moved_alike.trades)

  pub older_clock : (lent : List Trade) → Agree n (older_clock_call d time o lent) (clock_call d time c lent)
  unfolding older_clock_call clock_call
  older_clock lent =
      rw (same_refusal (length lent))
      (either (Agree n) (eqb (first_of (clock_rules d time c (length lent))) 0)
      (λ e.
      record {
        answer = rw (moved_alike.trades, moved_alike.day, update_alike _ _ (twin_alike moved_alike.book) (moved d time c).trades (at time (moved d time c).day));
        book = moved_alike.book;
        trades = rw moved_alike.trades;
      })
      (record { answer = refl; book = t; trades = refl }))
