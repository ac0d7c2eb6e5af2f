-- Which side a taker meets, whether it trades with an order, and the trade with it.
use Prim.Native.Nat.{ℕ, ◌-◌, ◌≤◌, min}
use mathlib.Core.Path.{◌≡◌, refl, ap, ◌∙◌}
use mathlib.Core.Bool.{Bool, true, false, cond, ◌&&◌}
use mathlib.Core.List.{List, [], ◌∷◌}
use native.Mathlib.Omega.{arith}
use lib.Dec.{ltb, eqb}
use borrow.Author.Tests.{le-ltb}
use Rattle.model.specs.declared.Order.{Order}
use Rattle.model.specs.declared.Trade.{Trade}
use Rattle.model.specs.declared.Taker.{Taker}
use Rattle.model.specs.Book.{other}
use Rattle.model.specs.Matching.{meets, trade_with, sweep}
use Rattle.matching.specs.Sweeping.{wants}

-- ---- the other side

pub other_small : (side : ℕ) {r : ℕ} → r ≡ other side → r ≤ 1
unfolding other
other_small side e = rw e (go (eqb side 0))
  where
    go : (b : Bool) → cond b 1 0 ≤ 1
    go true = omega arith
    go false = omega arith

-- ---- whether it trades

-- it may trade at this price
abbrev allows : Taker → ℕ → Bool
allows t p = meets t.side t.limit p

pub wants_nothing : (t : Taker) (q p : ℕ) → q ≡ 0 → wants t q p ≡ false
unfolding wants
wants_nothing t q p e =
    let l : q ≤ 0 = omega arith in
    rw (le-ltb 0 q l)

-- a trade is for some shares, at a price that the limit allows
pub wants_allows : (t : Taker) (q p : ℕ) → wants t q p ≡ true → allows t p ≡ true
unfolding wants
wants_allows t q p e = go (ltb 0 q) (allows t p) e
  where
    go : (a b : Bool) → a && b ≡ true → b ≡ true
    go true b e = e
    go false b e = let z : ◌≡◌ {A = ℕ} 0 1 = cc in absurd (omega arith)

-- ---- the sweep, one order at a time

pub sweep_nil : (t : Taker) (q : ℕ) → sweep t q [] ≡ []
unfolding sweep
sweep_nil t q = refl

pub sweep_cons :
    (t : Taker) (q : ℕ) (o : Order) (os : List Order)
    → sweep t q (o ∷ os) ≡ cond (wants t q o.price) (trade_with t q o ∷ sweep t (q - o.left) os) []
unfolding sweep wants
sweep_cons t q o os = refl

pub sweep_none :
    (t : Taker) (q : ℕ) (o : Order) (os : List Order) → wants t q o.price ≡ false → sweep t q (o ∷ os) ≡ []
sweep_none t q o os e = sweep_cons t q o os ∙ rw e

pub sweep_one :
    (t : Taker) (q : ℕ) (o : Order) (os : List Order)
    → wants t q o.price ≡ true
    → sweep t q (o ∷ os) ≡ trade_with t q o ∷ sweep t (q - o.left) os
sweep_one t q o os e = sweep_cons t q o os ∙ rw e

-- who wants nothing trades nothing
pub sweep_spent : (t : Taker) (os : List Order) → sweep t 0 os ≡ []
sweep_spent t [] = sweep_nil t 0
sweep_spent t (o ∷ os) = sweep_none t 0 o os (wants_nothing t 0 o.price refl)

-- ---- the trade

module _ (t : Taker) (q : ℕ) (o : Order) where
  -- it takes no more than what is left
  pub trade_takes : (r : Trade) → r ≡ trade_with t q o → r.quantity ≤ q
  unfolding trade_with
  trade_takes r e =
      let n : r.quantity ≡ min q o.left = ap (λ (x : Trade). x.quantity) e in
      omega arith
