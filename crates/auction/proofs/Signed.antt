-- The signed surplus: the difference of two sums over a book fits an i64, and the report that is put together of it.
use Prim.Native.Nat.{ℕ, zero, suc, ◌+◌, ◌≤◌, min}
use mathlib.Core.Path.{◌≡◌, refl, ap, ap₂, ◌∙◌}
use mathlib.Core.List.{List}
use native.Mathlib.Omega.{arith}
use native.Mathlib.Decide.{dec_lt}
use borrow.Author.Tests.{lt-ltb, le-ltb, eq-eqb, ne_eqb}
use lib.IntN.{ℤ, pos, ◌-ℤ◌, sub_ℕ}
use lib.Signed.{mag}
use mir.Syntax.{w64}
use mir.Val.{SFits, to_z, of_z}
use mir.ValLaws.{to_z_pos, to_z-of_z}
use Rattle.model.specs.declared.Order.{Order}
use Rattle.model.specs.declared.ReportReply.TheVariants.{Priced}
use Rattle.model.specs.Auction.{demand, supply, volume, surplus}
use Rattle.model.specs.AuctionCalls.{report_at}
use Rattle.book.specs.Standing.{Ranked}
use Rattle.auction.specs.declared.Interest.{Interest}
use Rattle.auction.specs.Interest.{interest_at}
use Rattle.auction.proofs.Sides.{demand_bound, supply_bound, pass_buys, pass_sells}

-- ---- the difference
difference : (a b : ℕ) → pos a -ℤ pos b ≡ sub_ℕ a b
difference a zero = rw (le-ltb a 0 (omega arith)) (ap pos (omega arith))
difference a (suc b) = refl

sub_mag : (a b : ℕ) → mag (sub_ℕ a b) ≤ a + b
sub_mag a b = elim (dec_lt a b) [
  | yes h ↦ rw (lt-ltb a b h) (omega arith)
  | no h ↦ rw (le-ltb a b (omega arith)) (omega arith)
]

pub difference_fits : (a b : ℕ) → a ≤ 4_096_000_000 → b ≤ 4_096_000_000 → SFits w64 (sub_ℕ a b)
difference_fits a b h k = record { sfits = omega (arith, sub_mag a b) }

pub difference_is : (a b : ℕ) → a ≤ 4_096_000_000 → b ≤ 4_096_000_000 → to_z w64 a -ℤ to_z w64 b ≡ sub_ℕ a b
difference_is a b h k = ap₂ ◌-ℤ◌ (to_z_pos w64 a (omega arith)) (to_z_pos w64 b (omega arith)) ∙ difference a b

-- ---- the report
module _ (os : List Order) (p : ℕ) where
  pub report_none : p ≡ 0 → Priced 0 0 (pos 0) ≡ report_at p os
  unfolding report_at
  report_none z = rw (eq-eqb p 0 z)

  module _ {r : Interest} (e : r ≡ interest_at os p p) where
    pub both_small : Ranked os → (r.demand ≤ 4_096_000_000) × (r.supply ≤ 4_096_000_000)
    both_small b = (
      omega (arith, pass_buys os p p e, demand_bound os p b),
      omega (arith, pass_sells os p p e, supply_bound os p b),
    )

    pub report_some :
        Ranked os
        → (p ≡ 0 → ⊥)
        → {v : ℕ} {z : ℤ}
        → v ≡ min r.demand r.supply
        → z ≡ sub_ℕ r.demand r.supply
        → Priced p v (to_z w64 (of_z w64 z)) ≡ report_at p os
    unfolding report_at volume surplus
    report_some b n {v} {z} hv hz =
        let f = both_small b in
        let d = pass_buys os p p e in
        let s = pass_sells os p p e in
        let w : to_z w64 (of_z w64 z) ≡ sub_ℕ (demand os p) (supply os p) =
        ap (λ (y : ℤ). to_z w64 (of_z w64 y)) hz
        ∙ to_z-of_z w64 (sub_ℕ r.demand r.supply) (difference_fits r.demand r.supply f.0 f.1)
        ∙ ap₂ sub_ℕ d s in
        let u : v ≡ min (demand os p) (supply os p) = hv ∙ ap₂ min d s in
        rw (ne_eqb p 0 n) (ap₂ (Priced p) u w)
