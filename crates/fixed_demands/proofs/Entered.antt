-- The reply of a fixed-price order that is taken: its number, what was filled and what rests, and one price at most. Assumes nothing.
use Prim.Native.Nat.{ℕ, ◌-◌, ◌≤◌}
use mathlib.Core.Path.{◌≡◌, refl, sym, ap, ◌∙◌}
use mathlib.Core.List.{List, [], ◌∷◌, map}
use native.Mathlib.Decide.{dec_le, ℕ_discrete}
use native.Mathlib.Omega.{arith}
use lib.ListN.{length}
use borrow.Author.Tests.{eq-eqb, ne_eqb}
use Rattle.model.specs.declared.Order.{Order}
use Rattle.model.specs.declared.AskedFixed.{AskedFixed}
use Rattle.model.specs.declared.Trade.{Trade}
use Rattle.model.specs.declared.Day.{Day}
use Rattle.model.specs.declared.Entry.{Entry}
use Rattle.model.specs.declared.OrderReply as OrderReply
use Rattle.model.specs.declared.OrderAnswer.{OrderAnswer}
use Rattle.model.specs.Lists.{keep, once, different}
use Rattle.model.specs.Clock.{matching_from}
use Rattle.model.specs.Matching.{filled, levels}
use Rattle.model.specs.Figures.{next_fixed}
use Rattle.model.specs.Refusals.{first_of}
use Rattle.model.specs.Calls.{Outcome, ended}
use Rattle.model.specs.Replies.{resting_of, withdrawn_of}
use Rattle.model.specs.FixedCalls.{fixed_trades, fixed_rules, fixed_entered, fixed_call}
use Rattle.model.specs.Words.{Each}
use Rattle.book.proofs.Lists.{each}
use Rattle.book.proofs.Settlements.{filled_nil}
use Rattle.matching.proofs.Prices.{once_again}
use Rattle.fixed_demands.specs.FixedPrice.{WithinLimits, Entered}
use Rattle.fixed_demands.proofs.Allowed.{Allowed, allowed}
use Rattle.fixed_demands.proofs.FixedCases.{fixed_cases}
use Rattle.fixed_demands.proofs.KeptFixed.{early}
use Rattle.fixed_demands.proofs.Entering.{by_time}

-- ---- one price

alike : (p : ℕ) (ps : List ℕ) → Each (λ r. r ≡ p) ps → length (once (p ∷ ps)) ≤ 1
alike p [] e = unfold once keep in omega arith
alike p (r ∷ ps) e = rw (once_again p r ps e.0) (alike p ps e.1)

one_level : (p : ℕ) (ts : List Trade) → Each (λ (t : Trade). t.price ≡ p) ts → levels ts ≤ 1
unfolding levels different
one_level p [] e = unfold once in omega arith
one_level p (t ∷ ts) e = alike t.price (map (λ (r : Trade). r.price) ts) (prices ts e.1)
  where
    prices : (rs : List Trade) → Each (λ (r : Trade). r.price ≡ p) rs → Each (λ q. q ≡ t.price) (map (λ (r : Trade). r.price) rs)
    prices [] h = tt
    prices (r ∷ rs) h = (h.0 ∙ sym e.0, prices rs h.1)

-- ---- what rests

rests_all : (q p : ℕ) → (p ≡ 0 → ⊥) → (resting_of (ended q p) ≡ q) × (withdrawn_of (ended q p) ≡ 0)
unfolding ended resting_of withdrawn_of
rests_all q p n = elim (ℕ_discrete q 0) [
  | yes z ↦ rw (eq-eqb q 0 z) (sym z, refl)
  | no m ↦ rw (ne_eqb q 0 m, ne_eqb p 0 n) (refl, refl)
]

module _ (d : Day) (a : AskedFixed) (main book : List Order) (room : ℕ) (k : Allowed d a main book room) where
  abbrev ts : List Trade
  ts = fixed_trades d a book

  never_more : filled ts ≤ a.quantity
  never_more = elim (dec_le 54_300 d.time) [
    | yes l ↦ omega (arith, (by_time d a main book room k l).in_all)
    | no l ↦ rw (early d a main book room k (omega arith)) (omega (arith, filled_nil))
  ]

  one_price_lem : levels ts ≤ 1
  one_price_lem = elim (dec_le 54_300 d.time) [
    | yes l ↦ one_level _ ts (each (WithinLimits _ _) (λ (t : Trade). t.price ≡ _) ts (λ t w. w.price) (by_time d a main book room k l).limits)
    | no l ↦ rw (early d a main book room k (omega arith)) (unfold levels different once in omega arith)
  ]

-- ---- the call

module _ (d : Day) (a : AskedFixed) (main book : List Order) (lent : List Trade) (e : Entry) where
  abbrev made : Entry
  made =
      record {
        number = next_fixed d;
        filled = filled (fixed_trades d a book);
        levels = levels (fixed_trades d a book);
        remainder = ended (a.quantity - filled (fixed_trades d a book)) a.price;
      }

  -- it was taken: no rule refuses it, and this is what it gives
  pub taken_call :
      (fixed_call d a main book lent).answer.reply ≡ OrderReply.TheVariants.Accepted e
      → (first_of (fixed_rules d a main book (length lent)) ≡ 0) × (fixed_call d a main book lent ≡ fixed_entered d a book lent)
  taken_call =
      fixed_cases d a main book lent
      (λ o. o.answer.reply ≡ OrderReply.TheVariants.Accepted e → (first_of (fixed_rules d a main book (length lent)) ≡ 0) × (o ≡ fixed_entered d a book lent))
      (λ z r. (z, refl))
      (λ _ r. let z : ◌≡◌ {A = ℕ} 0 1 = cc in absurd (omega arith))

  -- and this its reply
  pub its_reply : (fixed_call d a main book lent).answer.reply ≡ OrderReply.TheVariants.Accepted e → made ≡ e
  unfolding fixed_entered
  its_reply r =
      let f : OrderReply.TheVariants.Accepted made ≡ OrderReply.TheVariants.Accepted e = sym (ap (λ (o : Outcome OrderAnswer). o.answer.reply) (taken_call r).1) ∙ r in
      cc

  pub entered : (fixed_call d a main book lent).answer.reply ≡ OrderReply.TheVariants.Accepted e → Entered d a main book lent e
  unfolding matching_from next_fixed fixed_entered
  entered r =
      let t = taken_call r in
      let same : made ≡ e = its_reply r in
      let k : Allowed d a main book (length lent) = allowed d a main book (length lent) t.0 in
      let rest = rests_all (a.quantity - filled (fixed_trades d a book)) a.price (λ z. omega (arith, k.price.low)) in
      record {
        number = sym (ap (λ (x : Entry). x.number) same);
        early = early d a main book (length lent) k;
        late = by_time d a main book (length lent) k;
        trades = ap (λ (o : Outcome OrderAnswer). o.trades) t.1;
        shares = sym (ap (λ (x : Entry). x.filled) same);
        adds_up = rw (← same) (omega (arith, rest.0, never_more d a main book (length lent) k));
        none_withdrawn = rw (← same) rest.1;
        one_price = rw (← same) (one_price_lem d a main book (length lent) k);
      }
