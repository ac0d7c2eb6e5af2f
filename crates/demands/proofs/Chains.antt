-- A chain of calls at a door that keeps step goes as the definitions' history does, and a history from an accepted opening is told
-- by the run of its events. Assumes nothing.
use Prim.Native.Nat.{ℕ}
use mathlib.Core.Path.{◌≡◌, refl, sym, ap, ◌∙◌}
use mathlib.Core.Bool.{Bool, true, false, cond}
use mathlib.Core.List.{List, [], ◌∷◌}
use lib.ListN.{get_or}
use lib.IntN.{pos}
use lib.Dec.{eqb}
use borrow.Author.Tests.{eqb-false}
use Rattle.model.specs.declared.Event as Event
use Rattle.model.specs.declared.Order.{Order}
use Rattle.model.specs.declared.Trade.{Trade}
use Rattle.model.specs.declared.Day.{Day}
use Rattle.model.specs.declared.ReportReply.TheVariants.{Priced}
use Rattle.model.specs.Auction.{volume, surplus}
use Rattle.model.specs.Refusals.{◌when◌, first_of}
use Rattle.model.specs.AuctionCalls.{report_rules, report_at, report_call, list_rules, list_call}
use Rattle.model.specs.Replies.{list_numbers}
use Rattle.model.specs.Session.{Desk}
use Rattle.model.specs.Words.{Each, Sound}
use Rattle.demands.specs.Running.{stepped_by, answered_by, Fresh}
use Rattle.demands.specs.Running as run
use Rattle.demands.specs.Histories.{AnyCall, Happens, Reports, Lists, Seen, Reported, present, event_seen, seen, event_desk, stepped, all_seen, after}
use Rattle.demands.specs.Chains.{Door, Link, Chained, last_left, calls_of, Shown, KeepsStep, refusal_of, events_of, Told, FromOpening}
use Rattle.demands.proofs.Answers.{event_sound, event_not_15}
use Rattle.demands.proofs.Pricings.{not_unsound}
use Rattle.demands.proofs.Runs.{fresh_sound, running}
use Rattle.demands.proofs.HaltRuns.{once_a_day, limited_none}

-- ---- the two ways in which a step of the definitions is written

pub same_desk : (e : Event.Event) (lent : List Trade) (s : Desk) → event_desk present e lent s ≡ stepped_by e lent s
unfolding event_desk present stepped_by
same_desk (Event.TheVariants.Open close mark) lent s = refl
same_desk (Event.TheVariants.Clock t) lent s = refl
same_desk (Event.TheVariants.Order a) lent s = refl
same_desk (Event.TheVariants.Cancel account number) lent s = refl

same_refusal : (e : Event.Event) (lent : List Trade) (s : Desk) → refusal_of (event_seen present e lent s) ≡ get_or (answered_by e lent s) 0 0
unfolding refusal_of event_seen present answered_by
same_refusal (Event.TheVariants.Open close mark) lent s = refl
same_refusal (Event.TheVariants.Clock t) lent s = refl
same_refusal (Event.TheVariants.Order a) lent s = refl
same_refusal (Event.TheVariants.Cancel account number) lent s = refl

-- ---- a sound day stays sound, and 15 is not told

pub step_sound : (v : AnyCall) (s : Desk) → Sound s.day s.book → Sound (stepped present v s).day (stepped present v s).book
unfolding stepped
step_sound (Happens c) s k =
    let e = same_desk c.event c.lent s in rw e (event_sound c.event c.within c.lent s k)
step_sound Reports s k = k
step_sound (Lists asked lent) s k = k

pub priced : (p : ℕ) (book : List Order) → refusal_of (Reported (report_at p book)) ≡ 0
unfolding refusal_of report_at
priced p book = go (eqb p 0)
  where
    go : (b : Bool) → refusal_of (Reported (cond b (Priced 0 0 (pos 0)) (Priced p (volume book p) (surplus book p)))) ≡ 0
    go true = refl
    go false = refl

module _ (d : Day) (book : List Order) (k : Sound d book) where
  report_not_15 : refusal_of (seen present Reports (record { day = d; book = book })) ≡ 15 → ⊥
  unfolding seen present report_call report_rules first_of ◌when◌
  report_not_15 = rw (not_unsound d book k, priced) (eqb-false 0 15 refl)

  list_not_15 : (asked : ℕ) (lent : List ℕ) → refusal_of (seen present (Lists asked lent) (record { day = d; book = book })) ≡ 15 → ⊥
  unfolding refusal_of seen present list_call list_rules list_numbers first_of ◌when◌
  list_not_15 asked lent = rw (not_unsound d book k) (eqb-false 0 15 refl)

not_15 : (v : AnyCall) (s : Desk) → Sound s.day s.book → refusal_of (seen present v s) ≡ 15 → ⊥
unfolding seen
not_15 (Happens c) s k e =
    event_not_15 c.event c.within c.lent s k (sym (same_refusal c.event c.lent s) ∙ e)
not_15 Reports s k e = report_not_15 s.day s.book k e
not_15 (Lists asked lent) s k e = list_not_15 s.day s.book k asked lent e

all_not_15 : (vs : List AnyCall) (s : Desk) → Sound s.day s.book → Each (λ (x : Seen). refusal_of x ≡ 15 → ⊥) (all_seen present vs s)
unfolding all_seen
all_not_15 [] s k = tt
all_not_15 (v ∷ vs) s k = (not_15 v s k, all_not_15 vs (stepped present v s) (step_sound v s k))

-- ---- reports and price lists change nothing

ends : (vs : List AnyCall) (s : Desk) → after present vs s ≡ run.after (events_of vs) s
unfolding after run.after events_of stepped
ends [] s = refl
ends (Happens c ∷ vs) s =
    ends vs (event_desk present c.event c.lent s) ∙ ap (run.after (events_of vs)) (same_desk c.event c.lent s)
ends (Reports ∷ vs) s = ends vs s
ends (Lists asked lent ∷ vs) s = ends vs s

pub told : (s : Desk) → Fresh s → (vs : List AnyCall) → Told vs s
told s f vs =
    record {
      never_unsound = all_not_15 vs s (fresh_sound s f);
      ends = ends vs s;
      running = running s f (events_of vs);
      once_a_day = once_a_day (events_of vs) s f;
      limited_none = λ l. rw (ends vs s) (limited_none (events_of vs) s f l);
    }

-- ---- a chain

module _ (D : Door) (Holds : D.Memory → Type 0) (k : KeepsStep D Holds) where
  chain_shows :
      (ls : List (Link D)) (m : D.Memory)
      → Holds m
      → Sound (D.desk m).day (D.desk m).book
      → Chained D m ls
      → Shown D ls (all_seen present (calls_of D ls) (D.desk m))
  unfolding all_seen calls_of
  chain_shows [] m h s c = tt
  chain_shows (l ∷ ls) m h s (p, c) =
      let e = k.leaves l.asks m l.gives l.left h s p in
      let t = step_sound (D.call l.asks) (D.desk m) s in (
        k.shows l.asks m l.gives l.left h s p,
        rw e at (chain_shows ls l.left (k.holds l.asks m l.gives l.left h s p) (rw e t) c),
      )

  chain_ends :
      (ls : List (Link D)) (m : D.Memory)
      → Holds m
      → Sound (D.desk m).day (D.desk m).book
      → Chained D m ls
      → D.desk (last_left D m ls) ≡ after present (calls_of D ls) (D.desk m)
  unfolding after calls_of last_left
  chain_ends [] m h s c = refl
  chain_ends (l ∷ ls) m h s (p, c) =
      let e = k.leaves l.asks m l.gives l.left h s p in
      let t = step_sound (D.call l.asks) (D.desk m) s in
      chain_ends ls l.left (k.holds l.asks m l.gives l.left h s p) (rw e t) c
      ∙ ap (after present (calls_of D ls)) e

  pub chain_holds :
      (ls : List (Link D)) (m : D.Memory)
      → Holds m
      → Sound (D.desk m).day (D.desk m).book
      → Chained D m ls
      → Holds (last_left D m ls)
  unfolding last_left
  chain_holds [] m h s c = h
  chain_holds (l ∷ ls) m h s (p, c) =
      let e = k.leaves l.asks m l.gives l.left h s p in
      let t = step_sound (D.call l.asks) (D.desk m) s in
      chain_holds ls l.left (k.holds l.asks m l.gives l.left h s p) (rw e t) c

  pub from_opening : (m : D.Memory) → Holds m → Fresh (D.desk m) → (ls : List (Link D)) → Chained D m ls → FromOpening D m ls
  from_opening m h f ls c =
      let s = fresh_sound (D.desk m) f in
      record {
        runs = record { shown = chain_shows ls m h s c; ends = chain_ends ls m h s c };
        told = told (D.desk m) f (calls_of D ls);
      }
