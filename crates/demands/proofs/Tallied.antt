-- The day's figures with trades added: they stay in their bounds. Assumes nothing.
use Prim.Native.Nat.{ℕ, ◌+◌, ◌*◌, ◌≤◌}
use mathlib.Core.Path.{◌≡◌, refl}
use mathlib.Core.Bool.{Bool, true, false, cond}
use mathlib.Core.List.{List, [], ◌∷◌, ◌++◌}
use native.Mathlib.Nat.{mul-le-mul_right}
use native.Mathlib.Omega.{arith}
use lib.Dec.{eqb}
use borrow.Author.Tests.{eqb-true, eqb-false}
use Rattle.model.specs.declared.Trade.{Trade}
use Rattle.model.specs.declared.Day.{Day}
use Rattle.model.specs.Lists.{total}
use Rattle.model.specs.Matching.{filled, first_price, last_price}
use Rattle.model.specs.Figures.{money, tally}
use Rattle.model.specs.Words.{Each, Price}
use Rattle.book.proofs.Lists.{each_append}
use Rattle.matching.proofs.EntryLaws.{last_has}
use Rattle.demands.proofs.Wholes.{Traded}

-- ---- trades

pub total_append : (f : Trade → ℕ) (ts us : List Trade) → total f (ts ++ us) ≡ total f ts + total f us
unfolding total
total_append f [] us = omega arith
total_append f (t ∷ ts) us = omega (arith, total_append f ts us)

-- trades at prices; where nothing was filled there is none
pub record Proper (ts : List Trade) : Type 0 where
  pub priced : Each (λ (t : Trade). Price t.price) ts
  pub some : filled ts ≡ 0 → ts ≡ []

pub proper_none : Proper []
proper_none = record { priced = tt; some = λ _. refl }

pub proper_append : (ts us : List Trade) → Proper ts → Proper us → Proper (ts ++ us)
unfolding filled
proper_append ts us p q =
    record {
      priced = each_append (λ (t : Trade). Price t.price) ts us p.priced q.priced;
      some = λ z.
          let n = total_append (λ (t : Trade). t.quantity) ts us in
          rw (p.some (omega (arith, z, n)), q.some (omega (arith, z, n)));
    }

-- ---- money

worth : (p q : ℕ) → Price p → (q ≤ p * q) × (p * q ≤ 999_999 * q)
worth p q h = (
  let l : 1 * q ≤ p * q = mul-le-mul_right q h.low in omega arith,
  mul-le-mul_right q h.high,
)

money_bounds :
    (ts : List Trade)
    → Each (λ (t : Trade). Price t.price) ts
    → (filled ts ≤ money ts) × (money ts ≤ 999_999 * filled ts)
unfolding money filled total
money_bounds [] h = (omega arith, omega arith)
money_bounds (t ∷ ts) h =
    let a = worth t.price t.quantity h.0 in
    let b = money_bounds ts h.1 in
    (omega arith, omega arith)

first_has : (P : ℕ → Type 0) (p : ℕ) (ts : List Trade) → Each (λ (t : Trade). P t.price) ts → (ts ≡ [] → ⊥) → P (first_price p ts)
unfolding first_price
first_has P p [] h n = absurd (n refl)
first_has P p (t ∷ ts) h n = h.0

-- ---- the figures

module _ (d : Day) (ts : List Trade) (k : Traded d) (p : Proper ts) where
  none_first : d.shares + filled ts ≡ 0 → cond (eqb d.first 0) (first_price 0 ts) d.first ≡ 0
  unfolding first_price
  none_first z =
      let s : d.shares ≡ 0 = omega arith in
      let e : ts ≡ [] = p.some (omega arith) in
      rw ((k.untraded s).0, e)

  none_last : d.shares + filled ts ≡ 0 → last_price d.last ts ≡ 0
  unfolding last_price
  none_last z =
      let s : d.shares ≡ 0 = omega arith in
      let e : ts ≡ [] = p.some (omega arith) in
      rw (e, (k.untraded s).1)

  none_filled : ts ≡ [] → filled ts ≡ 0
  unfolding filled total
  none_filled e = rw e

  some_first : (d.shares + filled ts ≡ 0 → ⊥) → Price (cond (eqb d.first 0) (first_price 0 ts) d.first)
  some_first n = go (eqb d.first 0) refl
    where
      go : (b : Bool) → eqb d.first 0 ≡ b → Price (cond b (first_price 0 ts) d.first)
      go true e =
          let z : d.first ≡ 0 = eqb-true d.first 0 e in
          first_has Price 0 ts p.priced
          (λ f.
          let s : d.shares ≡ 0 → ⊥ = λ (y : d.shares ≡ 0). n (omega (arith, none_filled f)) in
          let l = (k.traded s).0.low in
          omega arith)
      go false e =
          let z : d.first ≡ 0 → ⊥ = eqb-false d.first 0 e in (k.traded (λ y. z (k.untraded y).0)).0

  some_last : (d.shares + filled ts ≡ 0 → ⊥) → Price (last_price d.last ts)
  unfolding last_price
  some_last n = go (eqb (filled ts) 0) refl
    where
      go : (b : Bool) → eqb (filled ts) 0 ≡ b → Price (last_price d.last ts)
      go true e =
          let z : filled ts ≡ 0 = eqb-true (filled ts) 0 e in
          rw (p.some z) (k.traded (λ y. n (omega arith))).1
      go false e = last_has Price d.last ts p.priced (eqb-false (filled ts) 0 e)

  pub traded_tally : Traded (tally ts d)
  unfolding tally
  traded_tally =
      let m = money_bounds ts p.priced in
      record {
        untraded = λ z. (none_first z, none_last z);
        traded = λ n. (some_first n, some_last n);
        least = omega (arith, m.0, k.least);
        most = omega (arith, m.1, k.most);
      }
