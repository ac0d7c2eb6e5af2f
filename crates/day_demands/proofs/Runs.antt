-- Any run from a sound day over all lists: it stays sound, no reply is 15, each list goes on with its own trades and orders, and every
-- fixed-price trade is at the close in the end. Assumes nothing.
use Prim.Native.Nat.{ℕ, ◌≤◌}
use mathlib.Core.Path.{◌≡◌, refl, sym, ◌∙◌}
use mathlib.Core.Logic.{⊎_elim}
use mathlib.Core.List.{List, [], ◌∷◌}
use native.Mathlib.Omega.{arith}
use lib.ListN.{get_or}
use Rattle.model.specs.declared.Trade.{Trade}
use Rattle.model.specs.Figures.{close_price}
use Rattle.model.specs.Words.{Each}
use Rattle.book.proofs.Lists.{each, each_append}
use Rattle.day_demands.specs.Keeping.{Kept}
use Rattle.day_demands.specs.Running.{WholeDay, Event, stepped, Series, no_trades, traded_by, Owners, nobody, Fate, nothing, answers, after, trades_in, accepted_in, shares_in}
use Rattle.day_demands.proofs.NeverUnsound.{never_15}
use Rattle.day_demands.proofs.MainThrough.{main_then}
use Rattle.day_demands.proofs.OtherThrough.{fixed_then, blocks_then}
use Rattle.day_demands.proofs.Steps.{Through, still, through}
use Rattle.day_demands.proofs.AtClose.{event_close, event_later, event_priced}
use Rattle.day_demands.proofs.Keepings.{event_kept}

-- ---- any run from a sound day

-- all that a run made, series by series
abbrev pub series_in : List Event → WholeDay → Series
series_in es s =
    record {
      main = trades_in (λ r. r.main) es s;
      confirmed = trades_in (λ r. r.confirmed) es s;
      fixed = trades_in (λ r. r.fixed) es s;
    }

abbrev pub owners_in : List Event → WholeDay → Owners
owners_in es s =
    record {
      main = accepted_in (λ w. w.main) es s;
      fixed = accepted_in (λ w. w.fixed) es s;
      blocks = accepted_in (λ w. w.blocks) es s;
    }

abbrev pub fate_in : List Event → WholeDay → Fate
fate_in es s =
    record {
      entered = shares_in (λ f. f.entered) es s;
      cancelled = shares_in (λ f. f.cancelled) es s;
      void = shares_in (λ f. f.void) es s;
      lapsed = shares_in (λ f. f.lapsed) es s;
    }

pub run_kept : (es : List Event) (s : WholeDay) → Kept s.day s.books → Kept (after es s).day (after es s).books
unfolding after
run_kept [] s k = k
run_kept (e ∷ es) s k = run_kept es (stepped e s) (event_kept e s k)

pub run_never_15 : (es : List Event) (s : WholeDay) → Kept s.day s.books → Each (λ (ns : List ℕ). get_or ns 0 0 ≡ 15 → ⊥) (answers es s)
unfolding answers
run_never_15 [] s k = tt
run_never_15 (e ∷ es) s k = (never_15 e s k, run_never_15 es (stepped e s) (event_kept e s k))

pub run_through : (es : List Event) (s : WholeDay) → Kept s.day s.books → Through s (after es s) (series_in es s) (owners_in es s) (fate_in es s)
unfolding after trades_in accepted_in shares_in no_trades nobody nothing
run_through [] s k = still s k
run_through (e ∷ es) s k =
    let x = through s k e in
    let y = run_through es (stepped e s) (event_kept e s k) in
    record {
      main = main_then _ _ _ _ _ _ _ _ _ _ x.main y.main;
      fixed = fixed_then _ _ _ _ _ _ _ _ _ _ _ _ x.fixed y.fixed;
      blocks = blocks_then _ _ _ _ _ _ _ _ _ _ x.blocks y.blocks;
    }

-- ---- every fixed-price trade is at the close in the end

close_stands : (es : List Event) (s : WholeDay) → Kept s.day s.books → 54_300 ≤ s.day.time → close_price (after es s).day ≡ close_price s.day
unfolding after
close_stands [] s k l = refl
close_stands (e ∷ es) s k l =
    close_stands es (stepped e s) (event_kept e s k) (omega (arith, l, event_later s e)) ∙ event_close s k e l

pub run_at_close :
    (es : List Event) (s : WholeDay)
    → Kept s.day s.books
    → Each (λ (t : Trade). t.price ≡ close_price (after es s).day) (trades_in (λ r. r.fixed) es s)
unfolding after trades_in
run_at_close [] s k = tt
run_at_close (e ∷ es) s k =
    let ts = (traded_by e s).fixed in
    let m = event_kept e s k in
    let p = event_priced s e in
    let end = close_price (after es (stepped e s)).day in
    each_append (λ (t : Trade). t.price ≡ end) ts (trades_in (λ r. r.fixed) es (stepped e s))
    (⊎_elim (λ z. rw z tt)
    (λ l. each (λ (t : Trade). t.price ≡ close_price (stepped e s).day) (λ (t : Trade). t.price ≡ end) ts (λ t x. x ∙ sym (close_stands es (stepped e s) m l)) p.prices)
    p.late)
    (run_at_close es (stepped e s) m)
