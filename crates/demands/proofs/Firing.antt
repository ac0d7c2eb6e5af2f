-- What fires: on an unlimited day, by a trade, and on entry in continuous trading alone. Assumes nothing.
use Prim.Native.Nat.{ℕ, ◌≤◌}
use mathlib.Core.Path.{◌≡◌, refl}
use mathlib.Core.Bool.{Bool, true, false, cond, and-false}
use mathlib.Core.List.{List, []}
use native.Mathlib.Omega.{arith}
use lib.Dec.{eqb}
use borrow.Author.Tests.{eqb-true, eqb-false}
use Rattle.model.specs.declared.Order.{Order}
use Rattle.model.specs.declared.Asked.{Asked}
use Rattle.model.specs.declared.Trade.{Trade}
use Rattle.model.specs.declared.Day.{Day}
use Rattle.model.specs.Lists.{any}
use Rattle.model.specs.Halts.{phase_now, reach, fires}
use Rattle.model.specs.Entry.{entry_trades}
use Rattle.model.proofs.Bools.{and_left, not_both}
use Rattle.matching.proofs.Entries.{other_phase}

module _ (ts : List Trade) (d : Day) where
  pub fires_unlimited : fires ts d ≡ true → d.limited ≡ 0
  unfolding fires
  fires_unlimited e = eqb-true d.limited 0 (and_left (eqb d.limited 0) _ e)

  -- without a trade nothing is reached
  pub none_fires : ts ≡ [] → fires ts d ≡ false
  unfolding fires reach any
  none_fires e = rw (e, and-false (eqb d.used30 0), and-false (eqb d.used60 0), and-false (eqb d.limited 0))

  pub fires_some : fires ts d ≡ true → ts ≡ [] → ⊥
  fires_some e z = not_both e (none_fires z)

-- an order trades on entry in continuous trading alone
pub traded_now : (d : Day) (a : Asked) (book : List Order) → (entry_trades d a book ≡ [] → ⊥) → phase_now d ≡ 4
traded_now d a book n = go (eqb (phase_now d) 4) refl
  where
    go : (b : Bool) → eqb (phase_now d) 4 ≡ b → phase_now d ≡ 4
    go true e = eqb-true (phase_now d) 4 e
    go false e = absurd (n (other_phase d a book (phase_now d) refl (eqb-false (phase_now d) 4 e)))

-- a mark stays a mark
pub mark_set : (b : Bool) (used : ℕ) → used ≤ 1 → cond b 1 used ≤ 1
mark_set true used h = omega arith
mark_set false used h = h
