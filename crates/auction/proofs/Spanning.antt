-- The qualifying prices are none, or all from one end to the other.
use Prim.Native.Nat.{ℕ, suc, ◌+◌, ◌-◌, ◌≤◌, ◌<◌}
use mathlib.Core.Path.{◌≡◌, refl, sym, ap, ◌∙◌}
use mathlib.Core.Logic.{◌⊎◌, inl, inr, ⊎_elim}
use mathlib.Core.List.{List, []}
use native.Mathlib.Decide.{dec_lt}
use native.Mathlib.Omega.{arith}
use lib.ListN.{length, get_or}
use Rattle.model.specs.declared.Order.{Order}
use Rattle.model.specs.Lists.{from}
use Rattle.model.specs.Auction.{qualifying}
use Rattle.auction.specs.declared.Span.{Span}
use Rattle.auction.specs.Spans.{ends, turn_of}
use Rattle.model.specs.Words.{Qualifies}
use Rattle.auction.proofs.Runs.{run_length, run_at}
use Rattle.auction.proofs.Turning.{Turns, turn_law, between_turns, turned_qualifies}

-- the qualifying prices are those from lo to hi
pub record Spans (os : List Order) (lo hi : ℕ) : Type 0 where
  pub from_1 : 1 ≤ lo
  pub some : lo ≤ hi
  pub to_999999 : hi ≤ 999_999
  pub list : qualifying os ≡ from lo (hi + 1 - lo)
  pub each : (p : ℕ) → lo ≤ p → p ≤ hi → Qualifies os p

run_ends : (a k : ℕ) → record { lo = a; hi = a + k } ≡ ends (from a (suc k))
unfolding ends
run_ends a k =
    let e : length (from a (suc k)) - 1 ≡ k = omega (arith, run_length a (suc k)) in
    let f : a ≡ get_or (from a (suc k)) 0 0 = omega (arith, run_at a (suc k) 0 0 (omega arith)) in
    let g : a + k ≡ get_or (from a (suc k)) (length (from a (suc k)) - 1) 0 =
    rw e (sym (run_at a (suc k) k 0 (omega arith))) in
    λ i. record { lo = f i; hi = g i }

no_ends : (a : ℕ) → record { lo = 0; hi = 0 } ≡ ends (from a 0)
unfolding ends from
no_ends a = refl

module _ (os : List Order) {lo end : ℕ} (s : lo ≡ turn_of os 1) (b : end ≡ turn_of os 0) where
  sells_turn : Turns os 1 lo
  sells_turn = rw s (turn_law os 1)

  buys_turn : Turns os 0 end
  buys_turn = rw b (turn_law os 0)

  -- what the search answers, where some price qualifies and where none does
  pub some_span : lo < end → record { lo = lo; hi = end - 1 } ≡ ends (qualifying os)
  some_span h =
      let e : end - lo ≡ suc (end - 1 - lo) = omega arith in
      let f : lo + (end - 1 - lo) ≡ end - 1 = omega arith in
      rw (between_turns os sells_turn buys_turn, e) (rw f at (run_ends lo (end - 1 - lo)))

  pub no_span : end ≤ lo → record { lo = 0; hi = 0 } ≡ ends (qualifying os)
  no_span h =
      let e : end - lo ≡ 0 = omega arith in
      rw (between_turns os sells_turn buys_turn, e) (no_ends lo)

-- none qualifies, or those from lo to hi do
abbrev pub SpanCases : List Order → ℕ → ℕ → Type 0
SpanCases os lo hi = ((lo ≡ 0) × (hi ≡ 0) × (qualifying os ≡ [])) ⊎ Spans os lo hi

pub turns_span : (os : List Order) {lo end : ℕ} → Turns os 1 lo → Turns os 0 end → lo < end → Spans os lo (end - 1)
turns_span os {lo} {end} s b h =
    let e : end - lo ≡ end - 1 + 1 - lo = omega arith in
    record {
      from_1 = s.from_1;
      some = omega arith;
      to_999999 = omega (arith, b.to_1000000);
      list = between_turns os s b ∙ ap (from lo) e;
      each = λ p k l.
          turned_qualifies os p
          (record { low = omega (arith, s.from_1); high = omega (arith, b.to_1000000) })
          (s.after p k (omega (arith, b.to_1000000)))
          (b.before p (omega (arith, s.from_1)) (omega arith));
    }

pub turns_none : (os : List Order) {lo end : ℕ} → Turns os 1 lo → Turns os 0 end → end ≤ lo → qualifying os ≡ []
unfolding from
turns_none os {lo} {end} s b h =
    let e : end - lo ≡ 0 = omega arith in
    between_turns os s b ∙ ap (from lo) e

pub span_cases : (os : List Order) {s : Span} → s ≡ ends (qualifying os) → SpanCases os s.lo s.hi
span_cases os {s} e =
    let lo = turn_of os 1 in
    let end = turn_of os 0 in
    elim (dec_lt lo end) [
      | yes h ↦
          let f : s ≡ record { lo = lo; hi = end - 1 } = e ∙ sym (some_span os refl refl h) in
          rw f (inr (turns_span os (turn_law os 1) (turn_law os 0) h))
      | no h ↦
          let k : end ≤ lo = omega arith in
          let f : s ≡ record { lo = 0; hi = 0 } = e ∙ sym (no_span os refl refl k) in
          rw f (inl (refl, refl, turns_none os (turn_law os 1) (turn_law os 0) k))
    ]

-- every book has its span
pub span_law : (os : List Order) → SpanCases os (ends (qualifying os)).lo (ends (qualifying os)).hi
span_law os = span_cases os refl

pub spanned : (os : List Order) {s : Span} → s ≡ ends (qualifying os) → (s.lo ≡ 0 → ⊥) → Spans os s.lo s.hi
spanned os e h = ⊎_elim (λ k. absurd (h k.0)) (λ k. k) (span_cases os e)
