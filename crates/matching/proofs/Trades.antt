-- What every trade of a sweep is: within the limit, at the price of the resting order that it names, for no more than that
-- order has; and how many they are, at how many prices, for how many shares.
use Prim.Native.Nat.{ℕ, suc, ◌-◌, ◌≤◌}
use mathlib.Core.Path.{◌≡◌, refl, ap, ◌∙◌}
use mathlib.Core.Bool.{Bool, true, false, cond}
use mathlib.Core.List.{List, [], ◌∷◌, map}
use mathlib.Core.Logic.{inl, inr}
use native.Mathlib.Omega.{arith}
use lib.ListN.{length, take, length-take}
use lib.Dec.{eqb}
use Rattle.model.specs.declared.Order.{Order}
use Rattle.model.specs.declared.Trade.{Trade}
use Rattle.model.specs.declared.Taker.{Taker}
use Rattle.model.specs.Lists.{keep, total, among, once}
use Rattle.model.specs.Matching.{meets, trade_with, sweep, filled, levels}
use Rattle.model.specs.Words.{Each, Some}
use Rattle.book.proofs.Lists.{each, kept}
use Rattle.matching.specs.Sweeping.{wants, at_best}
use Rattle.matching.proofs.Prices.{different_few}
use Rattle.matching.proofs.Cuts.{prices_of}
use Rattle.matching.proofs.Partners.{sweep_nil, sweep_cons, wants_allows}

-- ---- each trade

-- an element that has the property is one that has it
some_more :
    {A B : Type 0} (P : A → B → Type 0) (x : A) (os xs : List A)
    → Each (λ o. (r : B) → P o r → Some (λ p. P p r) xs) os
    → Each (λ o. (r : B) → P o r → Some (λ p. P p r) (x ∷ xs)) os
some_more P x [] xs e = tt
some_more P x (o ∷ os) xs e = (λ r h. inr (e.0 r h), some_more P x os xs e.1)

pub some_each :
    {B A : Type 0} (P : A → B → Type 0) (xs : List A)
    → Each (λ x. (r : B) → P x r → Some (λ y. P y r) xs) xs
some_each P [] = tt
some_each P (x ∷ xs) = (λ r h. inl h, some_more P x xs xs (some_each P xs))

-- the trade is one of the taker with this order
pub record Deal (t : Taker) (o : Order) (r : Trade) : Type 0 where
  pub price : r.price ≡ o.price
  pub quantity : r.quantity ≤ o.left
  pub buyer : r.buyer ≡ cond (eqb t.side 0) t.number o.number
  pub seller : r.seller ≡ cond (eqb t.side 0) o.number t.number
  pub allowed : meets t.side t.limit r.price ≡ true

deal : (t : Taker) (q : ℕ) (o : Order) → wants t q o.price ≡ true → Deal t o (trade_with t q o)
unfolding trade_with
deal t q o w =
    record {
      price = refl;
      quantity = omega arith;
      buyer = refl;
      seller = refl;
      allowed = wants_allows t q o.price w;
    }

all_paid :
    (ps : List ℕ) (ts : List Trade)
    → Each (λ r. among ps r.price ≡ true) ts
    → Each (λ p. among ps p ≡ true) (map (λ (r : Trade). r.price) ts)
all_paid ps [] e = tt
all_paid ps (r ∷ ts) e = (e.0, all_paid ps ts e.1)

module _ (t : Taker) where
  -- a fact of each trade, from each order that it may be with
  pub each_trade :
      (P : Trade → Type 0) (q : ℕ) (os : List Order)
      → Each (λ o. (r : Trade) → Deal t o r → P r) os
      → Each P (sweep t q os)
  each_trade P q [] e = rw (sweep_nil t q) tt
  each_trade P q (o ∷ os) e =
      rw (sweep_cons t q o os) (go (wants t q o.price) refl (each_trade P (q - o.left) os e.1))
    where
      go :
          (w : Bool)
          → wants t q o.price ≡ w
          → Each P (sweep t (q - o.left) os)
          → Each P (cond w (trade_with t q o ∷ sweep t (q - o.left) os) [])
      go true v h = (e.0 (trade_with t q o) (deal t q o v), h)
      go false v h = tt

  -- ---- how much

  -- no more is filled than was wanted
  pub filled_within : (q : ℕ) (os : List Order) → filled (sweep t q os) ≤ q
  filled_within q [] = rw (sweep_nil t q) (unfold filled total in omega arith)
  filled_within q (o ∷ os) = rw (sweep_cons t q o os) (go (wants t q o.price) (filled_within (q - o.left) os))
    where
      go :
          (w : Bool)
          → filled (sweep t (q - o.left) os) ≤ q - o.left
          → filled (cond w (trade_with t q o ∷ sweep t (q - o.left) os) []) ≤ q
      go true h = unfold filled total trade_with in omega arith
      go false h = unfold filled total in omega arith

  -- no more trades than orders
  pub count_within : (q : ℕ) (os : List Order) → length (sweep t q os) ≤ length os
  count_within q [] = rw (sweep_nil t q) (omega arith)
  count_within q (o ∷ os) = rw (sweep_cons t q o os) (go (wants t q o.price) (count_within (q - o.left) os))
    where
      go :
          (w : Bool)
          → length (sweep t (q - o.left) os) ≤ length os
          → length (cond w (trade_with t q o ∷ sweep t (q - o.left) os) []) ≤ suc (length os)
      go true h = omega arith
      go false h = omega arith

  -- at no more prices than were allowed
  pub levels_within : (q n : ℕ) (os : List Order) → levels (sweep t q (at_best n os)) ≤ n
  unfolding levels at_best
  levels_within q n os =
      let ps : List ℕ = take n (once (prices_of os)) in
      let best : List Order = keep (λ (o : Order). among ps o.price) os in
      let all : Each (λ r. among ps r.price ≡ true) (sweep t q best) =
      each_trade (λ r. among ps r.price ≡ true) q best
      (each (λ (o : Order). among ps o.price ≡ true) (λ o. (r : Trade) → Deal t o r → among ps r.price ≡ true) best
      (λ o h r d. ap (among ps) d.price ∙ h)
      (kept (λ (o : Order). among ps o.price) os))
      in
      omega (
        arith,
        different_few ps (map (λ (r : Trade). r.price) (sweep t q best)) (all_paid ps (sweep t q best) all),
        length-take n (once (prices_of os)),
      )
