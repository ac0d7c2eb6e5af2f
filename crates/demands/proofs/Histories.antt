-- Every history goes alike in the older and the new book: one event, and then all of them. Assumes that the calls keep a sound day
-- sound.
use Prim.Native.Nat.{ℕ}
use mathlib.Core.Path.{◌≡◌, refl, ap}
use mathlib.Core.Bool.{false}
use mathlib.Core.List.{List, [], ◌∷◌}
use lib.ListN.{length}
use Rattle.model.specs.declared.Trade.{Trade}
use Rattle.model.specs.declared.Event as Event
use Rattle.model.specs.declared.ClockAnswer.{ClockAnswer}
use Rattle.model.specs.declared.OrderAnswer.{OrderAnswer}
use Rattle.model.specs.declared.CancelAnswer.{CancelAnswer}
use Rattle.model.specs.Calls.{order_call, cancel_call}
use Rattle.model.specs.ClockCall.{clock_call}
use Rattle.model.specs.AuctionCalls.{ListOutcome}
use Rattle.model.specs.Session.{Desk}
use Rattle.model.proofs.Bools.{not_both}
use Rattle.soundness.proofs.SoundDays.{sound_day, day_stands, sound_ordered}
use Rattle.model.specs.Words.{Sound}
use Rattle.demands.specs.Keeping.{Keeping}
use Rattle.demands.specs.Running.{is_opening}
use Rattle.demands.specs.Histories.{AnyCall, Happens, Reports, Lists, Cancelled, Reported, Listed, present, event_seen, seen, event_desk, stepped, all_seen, after}
use Rattle.demands.specs.Older.{older_order_call, older_cancel_call, older_clock_call, older, SameHistory, SameHistories}
use Rattle.demands.proofs.Twins.{Twin, Agree}
use Rattle.demands.proofs.OlderReports.{older_report, older_list}
use Rattle.demands.proofs.OlderCancels.{Freed, older_cancel}
use Rattle.demands.proofs.OlderClocks.{older_clock}
use Rattle.demands.proofs.OlderOrders.{older_order_lem}

-- the older desk s and the present one p: the same day, which is sound, and the books twins
record Pair (n : ℕ) (s p : Desk) : Type 0 where
  day : s.day ≡ p.day
  book : Twin n s.book p.book
  sound : Sound p.day p.book

-- what is seen of an event is the same, and the desks are a pair again
record Step (n : ℕ) (v : AnyCall) (s p : Desk) : Type 0 where
  seen_alike : seen older v s ≡ seen present v p
  again : Pair n (stepped older v s) (stepped present v p)

record EventStep (n : ℕ) (e : Event.Event) (lent : List Trade) (s p : Desk) : Type 0 where
  seen_alike : event_seen older e lent s ≡ event_seen present e lent p
  again : Pair n (event_desk older e lent s) (event_desk present e lent p)

module _ (k : Keeping) where
  event_step :
      {n : ℕ} (e : Event.Event) → is_opening e ≡ false → (lent : List Trade) {s p : Desk} → Pair n s p → EventStep n e lent s p
  unfolding older present is_opening event_seen event_desk
  event_step (Event.TheVariants.Open close mark) o lent m = absurd (not_both refl o)
  event_step {n} (Event.TheVariants.Clock time) o lent {s} {p} m =
      let r : Agree n (older_clock_call s.day time s.book lent) (clock_call p.day time p.book lent) =
      rw m.day (older_clock p.day time m.book m.sound lent)
      in
      record {
        seen_alike = rw (r.answer, r.trades);
        again =
            record {
              day = ap (λ (x : ClockAnswer). x.day) r.answer;
              book = r.book;
              sound = k.clock_kept p.day time p.book lent m.sound;
            };
      }
  event_step {n} (Event.TheVariants.Order a) o lent {s} {p} m =
      let sound = k.order_kept p.day a p.book lent m.sound in
      let r : Agree n (older_order_call s.day a s.book lent) (order_call p.day a p.book lent) =
      rw m.day (older_order_lem p.day a lent m.book m.sound sound)
      in
      record {
        seen_alike = rw (r.answer, r.trades);
        again = record { day = ap (λ (x : OrderAnswer). x.day) r.answer; book = r.book; sound = sound };
      }
  event_step {n} (Event.TheVariants.Cancel account number) o lent {s} {p} m =
      let r : Freed n (older_cancel_call s.day account number s.book) (cancel_call p.day account number p.book) =
      rw m.day (older_cancel p.day account number m.book m.sound)
      in
      record {
        seen_alike = ap (λ (x : CancelAnswer). Cancelled x.reply) r.answer;
        again =
            record {
              day = ap (λ (x : CancelAnswer). x.day) r.answer;
              book = r.book;
              sound = k.cancel_kept p.day account number p.book m.sound;
            };
      }

  step : {n : ℕ} (v : AnyCall) {s p : Desk} → Pair n s p → Step n v s p
  unfolding older present seen stepped
  step {n} (Happens c) {s} {p} m =
      let h = event_step c.event c.within c.lent m in
      record { seen_alike = h.seen_alike; again = h.again }
  step {n} Reports {s} {p} m =
      record { seen_alike = rw m.day (ap Reported (older_report p.day m.book m.sound)); again = m }
  step {n} (Lists asked lent) {s} {p} m =
      record {
        seen_alike =
            rw m.day
            (ap (λ (x : ListOutcome). Listed x.reply x.prices) (older_list p.day m.book m.sound asked lent));
        again = m;
      }

  all_alike : {n : ℕ} (vs : List AnyCall) {s p : Desk} → Pair n s p → all_seen older vs s ≡ all_seen present vs p
  unfolding all_seen
  all_alike [] m = refl
  all_alike (v ∷ vs) m =
      let h = step v m in
      rw (h.seen_alike, all_alike vs h.again)

  still_pair : {n : ℕ} (vs : List AnyCall) {s p : Desk} → Pair n s p → Pair n (after older vs s) (after present vs p)
  unfolding after
  still_pair [] m = m
  still_pair (v ∷ vs) m = still_pair vs (step v m).again

  -- from any sound desk
  pub same_history : (vs : List AnyCall) (s : Desk) → Sound s.day s.book → SameHistory vs s
  same_history vs s h =
      let m : Pair (length s.book) s s =
      record {
        day = refl;
        book =
            record {
              stands = day_stands s.day s.book (sound_day s.day s.book h.1);
              long = refl;
              made = sound_ordered s.day s.book h.1;
            };
        sound = h;
      }
      in
      let e = still_pair vs m in
      record { seen_alike = all_alike vs m; days = e.day; books = e.book.made }

  pub same_histories : SameHistories
  same_histories =
      record {
        same = λ close mark places d vs e. same_history vs _ (k.fresh close mark places d e);
      }
