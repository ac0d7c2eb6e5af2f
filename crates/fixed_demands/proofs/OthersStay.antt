-- A fixed-price order that is taken: the others stand afterwards less what its trades fill of them, and what is left of it stands too.
-- Assumes nothing.
use Rattle.std.specs.Prelude.{if◌then◌else◌}
use Prim.Native.Nat.{ℕ, suc, ◌-◌, ◌≤◌, ◌<◌}
use mathlib.Core.Path.{◌≡◌, refl, sym, ap, ◌∙◌, subst}
use mathlib.Core.Logic.{inl}
use mathlib.Core.Bool.{Bool, true, false, ◌||◌, or-true}
use mathlib.Core.List.{List, [], ◌∷◌}
use native.Mathlib.Decide.{dec_le}
use native.Mathlib.Omega.{arith}
use lib.ListN.{length, get_or, take, drop, replicate}
use lib.Seq.{take_at}
use lib.Dec.{eqb}
use borrow.Author.Tests.{eq-eqb, lt-ltb}
use Rattle.model.specs.declared.Order.{Order}
use Rattle.model.specs.declared.AskedFixed.{AskedFixed}
use Rattle.model.specs.declared.Trade.{Trade}
use Rattle.model.specs.declared.Day.{Day}
use Rattle.model.specs.declared.Entry.{Entry}
use Rattle.model.specs.declared.OrderReply as OrderReply
use Rattle.model.specs.declared.OrderAnswer.{OrderAnswer}
use Rattle.model.specs.Lists.{keep, total}
use Rattle.model.specs.Book.{free, is_live}
use Rattle.model.specs.Arrival.{is_taken}
use Rattle.model.specs.Matching.{filled, is_in, filled_of, less_by, settle}
use Rattle.model.specs.Figures.{next_fixed}
use Rattle.model.specs.FixedBook.{lined}
use Rattle.model.specs.Calls.{Outcome, written}
use Rattle.model.specs.FixedCalls.{arriving, fixed_trades, fixed_entered, fixed_call}
use Rattle.model.specs.Words.{Each, Some}
use Rattle.book.specs.Standing.{Fair}
use Rattle.book.proofs.Lists.{each, each_at, keep_all, keep_none}
use Rattle.book.proofs.Kept.{free_number}
use Rattle.book.proofs.Settlements.{filled_nil, filled_none, less_nothing}
use Rattle.book.proofs.Counting.{orders, fewer_orders}
use Rattle.book.proofs.Queues.{number_live}
use Rattle.soundness.proofs.Readiness.{ready_if}
use Rattle.arrivals.proofs.Lines.{taken, InLine, is_taken_lem, one_place}
use Rattle.arrivals.proofs.Places.{places_fit}
use Rattle.fixed_demands.specs.SeparateFixed.{StandsOnce, StaysLess, Stays}
use Rattle.fixed_demands.proofs.FixedClauses.{fixed_day_lem}
use Rattle.fixed_demands.proofs.Allowed.{Allowed, allowed}
use Rattle.fixed_demands.proofs.Lining.{nr, live_taken}
use Rattle.fixed_demands.proofs.FixedPlaces.{book_line, book_stands}
use Rattle.fixed_demands.proofs.KeptFixed.{next, arriving_fit, early, entered_day}
use Rattle.fixed_demands.proofs.Entering.{by_time}
use Rattle.fixed_demands.proofs.Entered.{taken_call, its_reply}
use Rattle.fixed_demands.proofs.Among.{some_at, some_place, kept_some, some_first, some_second, some_map}

-- an order of some stands once where these are lined up
lined_once :
    (n : ℕ) (os : List Order)
    → InLine nr (lined n os)
    → orders os ≤ n
    → (x : Order)
    → (x.number ≡ 0 → ⊥)
    → Some (λ (y : Order). y ≡ x) os
    → StandsOnce x (lined n os)
unfolding lined
lined_once n os l fit x live h =
    let fits : length (taken nr os) ≤ n = omega (arith, ap length (live_taken os)) in
    let there : Some (λ (y : Order). y ≡ x) (lined n os) =
    subst (Some (λ (y : Order). y ≡ x)) (sym (places_fit nr free free_number n os fits))
    (some_first (λ (y : Order). y ≡ x) (taken nr os) (replicate (n - length (taken nr os)) free) (kept_some (is_taken nr) x os (is_taken_lem nr x live) h)) in
    let r = some_place (lined n os) free x there in
    record {
      place = r.0;
      inside = r.1;
      there = r.2;
      only = λ i k e. one_place nr free free_number (lined n os) l i r.0 (λ z. live (sym e ∙ z)) (e ∙ sym (ap nr r.2));
    }

-- less some of its shares it is still the same order
less_number : (q : ℕ) (o : Order) → q < o.left → (less_by q o).number ≡ o.number
unfolding less_by
less_number q o h = rw (lt-ltb q o.left h)

module _ (d : Day) (a : AskedFixed) (main book : List Order) (room : ℕ) (k : Allowed d a main book room) where
  abbrev os : List Order
  os = arriving d a book

  abbrev ts : List Trade
  ts = fixed_trades d a book

  abbrev after : List Order
  after = lined (length book) (settle ts os)

  -- one of those that came, where something is left of it
  one_stays : (o : Order) → (o.number ≡ 0 → ⊥) → Some (λ (y : Order). y ≡ o) os → filled_of o.number ts < o.left → StandsOnce (less_by (filled_of o.number ts) o) after
  unfolding settle
  one_stays o live h l =
      lined_once (length book) (settle ts os) (book_line (next d a main book room k) after (entered_day d a main book room k))
      (omega (arith, fewer_orders ts os, arriving_fit d a main book room k)) (less_by (filled_of o.number ts) o)
      (λ z. live (sym (less_number (filled_of o.number ts) o l) ∙ z))
      (some_map (λ (x : Order). less_by (filled_of x.number ts) x) o os h)

  -- who rested is one of them
  came : (i : ℕ) → i < length book → ((get_or book i free).number ≡ 0 → ⊥) → Some (λ (y : Order). y ≡ get_or book i free) os
  unfolding arriving
  came i l live =
      some_first (λ (y : Order). y ≡ get_or book i free) (keep is_live book) _
      (kept_some is_live (get_or book i free) book (number_live (get_or book i free) live) (some_at book free i l))

  rested : StaysLess ts book after
  rested i l live h = one_stays (get_or book i free) live (came i l live) h

  unnamed : Stays ts book after
  unnamed i l live h =
      let o : Order = get_or book i free in
      let fair : Fair o = each_at Fair book free (book_stands d book (fixed_day_lem d book k.fixed_sound) (ready_if d main k.sound).evening.fixed_issued).fair i l in
      let none : filled_of o.number ts ≡ 0 = not_in o.number ts h in
      let s : StandsOnce (less_by (filled_of o.number ts) o) after = rested i l live (omega (arith, fair.some live)) in
      subst (λ (x : Order). StandsOnce x after) (ap (λ q. less_by q o) none ∙ less_nothing o fair) s
    where
      not_in : (n : ℕ) (rs : List Trade) → Each (λ (t : Trade). is_in n t ≡ false) rs → filled_of n rs ≡ 0
      not_in n rs e = unfold filled_of filled total in rw (keep_none (is_in n) rs e)

  -- ---- what is left of it

  abbrev new : Order
  new = record { side = a.side; account = a.account; left = a.quantity; price = a.price; number = next_fixed d }

  -- all its trades name it
  named : (t : Trade) → (if eqb a.side 0 then t.buyer else t.seller) ≡ next_fixed d → is_in (next_fixed d) t ≡ true
  unfolding is_in
  named t e = go (eqb a.side 0) e
    where
      go : (b : Bool) → (if b then t.buyer else t.seller) ≡ next_fixed d → (eqb t.buyer (next_fixed d) || eqb t.seller (next_fixed d)) ≡ true
      go true x = rw (eq-eqb t.buyer (next_fixed d) x)
      go false x = rw (eq-eqb t.seller (next_fixed d) x) (or-true (eqb t.buyer (next_fixed d)))

  its_fills : filled_of (next_fixed d) ts ≡ filled ts
  its_fills = elim (dec_le 54_300 d.time) [
    | yes l ↦ all_in ts (each (λ (t : Trade). (if eqb a.side 0 then t.buyer else t.seller) ≡ suc d.fixed.issued) (λ (t : Trade). is_in (next_fixed d) t ≡ true) ts (λ t e. named t (unfold next_fixed in e)) (by_time d a main book room k l).own)
    | no l ↦ rw (early d a main book room k (omega arith)) (filled_none (next_fixed d) ∙ sym filled_nil)
  ]
    where
      all_in : (rs : List Trade) → Each (λ (t : Trade). is_in (next_fixed d) t ≡ true) rs → filled_of (next_fixed d) rs ≡ filled rs
      all_in rs e = unfold filled_of in rw (keep_all (is_in (next_fixed d)) rs e)

  left_stands : filled ts < a.quantity → StandsOnce (record { side = a.side; account = a.account; left = a.quantity - filled ts; price = a.price; number = next_fixed d }) after
  left_stands l =
      subst (λ (x : Order). StandsOnce x after) less
      (one_stays new (λ z. unfold next_fixed in omega arith) (unfold arriving in some_second (λ (y : Order). y ≡ new) (keep is_live book) (new ∷ []) (inl refl)) (omega (arith, its_fills)))
    where
      less : less_by (filled_of (next_fixed d) ts) new ≡ record { side = a.side; account = a.account; left = a.quantity - filled ts; price = a.price; number = next_fixed d }
      less = unfold less_by in rw (its_fills, lt-ltb (filled ts) a.quantity l)

-- ---- the call

module _ (d : Day) (a : AskedFixed) (main book : List Order) (lent : List Trade) (e : Entry) (r : (fixed_call d a main book lent).answer.reply ≡ OrderReply.TheVariants.Accepted e) where
  abbrev o : Outcome OrderAnswer
  o = fixed_call d a main book lent

  k : Allowed d a main book (length lent)
  k = allowed d a main book (length lent) (taken_call d a main book lent e r).0

  -- the trades that it writes are its trades
  pub written_trades : take o.answer.made o.trades ≡ fixed_trades d a book
  unfolding fixed_entered written
  written_trades = rw (taken_call d a main book lent e r).1 (take_at (fixed_trades d a book) (drop (length (fixed_trades d a book)) lent) (length (fixed_trades d a book)) refl)

  book_then : o.book ≡ lined (length book) (settle (fixed_trades d a book) (arriving d a book))
  unfolding fixed_entered
  book_then = rw (taken_call d a main book lent e r).1

  pub stays_less : StaysLess (take o.answer.made o.trades) book o.book
  stays_less = rw (written_trades, book_then) (rested d a main book (length lent) k)

  pub stays : Stays (take o.answer.made o.trades) book o.book
  stays = rw (written_trades, book_then) (unnamed d a main book (length lent) k)

  pub rests : e.filled < a.quantity → StandsOnce (record { side = a.side; account = a.account; left = a.quantity - e.filled; price = a.price; number = e.number }) o.book
  rests l =
      let same = its_reply d a main book lent e r in
      let f : e.filled ≡ filled (fixed_trades d a book) = sym (ap (λ (x : Entry). x.filled) same) in
      let n : e.number ≡ next_fixed d = sym (ap (λ (x : Entry). x.number) same) in
      rw (f, n, book_then) (left_stands d a main book (length lent) k (omega arith))
