-- Buys and sells: when the best prices say that every buy is below every sell, and how trades and a new order keep it so.
use Prim.Native.Nat.{ℕ, ◌≤◌, ◌<◌, min, max}
use mathlib.Core.Path.{◌≡◌, refl, sym, ap, ◌∙◌}
use mathlib.Core.Bool.{Bool, true, false, cond, not, ◌&&◌}
use mathlib.Core.List.{List, [], ◌∷◌}
use mathlib.Core.Logic.{◌⊎◌, inl, inr}
use native.Mathlib.Omega.{arith}
use lib.Dec.{leb, eqb}
use borrow.Author.Tests.{ne_eqb, eqb-true, eqb-false, leb-false, lt-leb, le-ltb}
use Rattle.model.specs.declared.Order.{Order}
use Rattle.model.specs.declared.Trade.{Trade}
use Rattle.model.specs.Book.{stands_on, other, best, free}
use Rattle.model.specs.Matching.{meets, within, filled_of, less_by, settle}
use Rattle.model.specs.Sound.{crosses}
use Rattle.model.specs.Words.{Each}
use Rattle.book.specs.Standing.{Fair, Standing}
use Rattle.book.specs.Priority.{rank}
use Rattle.book.proofs.Lists.{both, each, every}
use Rattle.book.proofs.Queues.{on_side, on_live, same_stand}
use Rattle.book.proofs.Kept.{Less, after, after_less, free_number}
use Rattle.book.proofs.Best.{on_each, best_has, best_first, has_best}

-- every sell is above a price, every buy below it
abbrev pub SellsAbove : ℕ → List Order → Type 0
SellsAbove p os = Each (λ (s : Order). stands_on 1 s ≡ true → p < s.price) os

abbrev pub BuysBelow : ℕ → List Order → Type 0
BuysBelow p os = Each (λ (b : Order). stands_on 0 b ≡ true → b.price < p) os

-- every buy is below every sell
abbrev pub Uncrossed : List Order → Type 0
Uncrossed book =
    Each
    (λ (b : Order). stands_on 0 b ≡ true → SellsAbove b.price book)
    book

buy_best : (p q : ℕ) → p ≤ 999_999 → rank 0 q ≤ rank 0 p → p ≤ q
unfolding rank
buy_best p q hp l = omega arith

sell_best : (p q : ℕ) → rank 1 q ≤ rank 1 p → q ≤ p
unfolding rank
sell_best p q l = l

module _ (book : List Order) where
  apart_best : crosses book ≡ false → (best 0 book ≡ 0 → ⊥) → (best 1 book ≡ 0 → ⊥) → best 0 book < best 1 book
  unfolding crosses
  apart_best c n m =
      leb-false (best 1 book) (best 0 book)
      (sym (rw (ne_eqb (best 0 book) 0 n, ne_eqb (best 1 book) 0 m)) ∙ c)

  pub uncrossed : Standing book → crosses book ≡ false → Uncrossed book
  uncrossed s c =
      both (λ b. stands_on 0 b ≡ true → rank 0 (best 0 book) ≤ rank 0 b.price) Near
      (λ b. stands_on 0 b ≡ true → SellsAbove b.price book) book
      (λ b l h t. sells b (l t) h.0 (h.1 t))
      (best_first 0 book s)
      (both Fair (λ b. stands_on 0 b ≡ true → best 0 book ≡ 0 → ⊥) Near book (λ b f n. (f.price, n)) s.fair
      (has_best 0 book s.fair))
    where
      Near : Order → Type 0
      Near b = (b.price ≤ 999_999) × (stands_on 0 b ≡ true → best 0 book ≡ 0 → ⊥)

      sells :
          (b : Order)
          → rank 0 (best 0 book) ≤ rank 0 b.price
          → b.price ≤ 999_999
          → (best 0 book ≡ 0 → ⊥)
          → SellsAbove b.price book
      sells b l h n =
          both (λ r. stands_on 1 r ≡ true → rank 1 (best 1 book) ≤ rank 1 r.price)
          (λ r. stands_on 1 r ≡ true → best 1 book ≡ 0 → ⊥)
          (λ r. stands_on 1 r ≡ true → b.price < r.price) book
          (λ r k m t.
          let low : best 0 book < best 1 book = apart_best c n (m t) in
          let buys : b.price ≤ best 0 book = buy_best b.price (best 0 book) h l in
          let over : best 1 book ≤ r.price = sell_best r.price (best 1 book) (k t) in
          omega arith)
          (best_first 1 book s)
          (has_best 1 book s.fair)

  pub not_crossed : Uncrossed book → crosses book ≡ false
  unfolding crosses
  not_crossed u = go (eqb (best 0 book) 0) refl (eqb (best 1 book) 0) refl
    where
      go :
          (a : Bool)
          → eqb (best 0 book) 0 ≡ a
          → (b : Bool)
          → eqb (best 1 book) 0 ≡ b
          → not a && not b && leb (best 1 book) (best 0 book) ≡ false
      go true e b f = refl
      go false e true f = refl
      go false e false f =
          let below : SellsAbove (best 0 book) book =
          best_has 0 book (λ p. SellsAbove p book)
          (on_each (λ b. SellsAbove b.price book) 0 book u)
          (eqb-false (best 0 book) 0 e)
          in
          let low : best 0 book < best 1 book =
          best_has 1 book (λ p. best 0 book < p) (on_each (λ r. best 0 book < r.price) 1 book below)
          (eqb-false (best 1 book) 0 f)
          in
          lt-leb (best 1 book) (best 0 book) low

-- ---- after trades

module _ (ts : List Trade) where
  -- an order that stands after the trades stood before, at the same price
  pub stood :
      (side : ℕ) (o : Order)
      → stands_on side (after ts o) ≡ true
      → Less o (after ts o) × (stands_on side o ≡ true)
  stood side o e = go (after_less ts o)
    where
      go : (after ts o ≡ free) ⊎ Less o (after ts o) → Less o (after ts o) × (stands_on side o ≡ true)
      go (inl z) = absurd (on_live side (after ts o) e (ap (λ (x : Order). x.number) z ∙ free_number))
      go (inr l) = (l, same_stand side o (after ts o) l.side l.number ∙ e)

  gone : (o : Order) → o.left ≤ filled_of o.number ts → after ts o ≡ free
  unfolding less_by
  gone o h = rw (le-ltb (filled_of o.number ts) o.left h)

  -- what holds for the prices of a side, or of those orders that are not wholly filled, holds after the trades
  pub settle_others :
      (side : ℕ) (P : ℕ → Type 0) (os : List Order)
      → Each (λ o. stands_on side o ≡ true → P o.price ⊎ (o.left ≤ filled_of o.number ts)) os
      → Each (λ o. stands_on side o ≡ true → P o.price) (settle ts os)
  unfolding settle
  settle_others side P [] e = tt
  settle_others side P (o ∷ os) e = (λ t. go t (stood side o t), settle_others side P os e.1)
    where
      pick :
          stands_on side (after ts o) ≡ true
          → o.price ≡ (after ts o).price
          → P o.price ⊎ (o.left ≤ filled_of o.number ts)
          → P (after ts o).price
      pick t same (inl p) = rw (sym same) p
      pick t same (inr l) =
          absurd (on_live side (after ts o) t (ap (λ (x : Order). x.number) (gone o l) ∙ free_number))

      go : stands_on side (after ts o) ≡ true → Less o (after ts o) × (stands_on side o ≡ true) → P (after ts o).price
      go t s = pick t s.0.price (e.0 s.1)

  pub settle_prices :
      (side : ℕ) (P : ℕ → Type 0) (os : List Order)
      → Each (λ o. stands_on side o ≡ true → P o.price) os
      → Each (λ o. stands_on side o ≡ true → P o.price) (settle ts os)
  settle_prices side P os e =
      settle_others side P os
      (each (λ o. stands_on side o ≡ true → P o.price)
      (λ o. stands_on side o ≡ true → P o.price ⊎ (o.left ≤ filled_of o.number ts)) os
      (λ o f t. inl (f t))
      e)

  pub uncrossed_settle : (book : List Order) → Uncrossed book → Uncrossed (settle ts book)
  uncrossed_settle book u =
      settle_prices 0 (λ p. SellsAbove p (settle ts book)) book
      (each (λ (b : Order). stands_on 0 b ≡ true → SellsAbove b.price book)
      (λ (b : Order). stands_on 0 b ≡ true → SellsAbove b.price (settle ts book))
      book
      (λ b f t. settle_prices 1 (λ p. b.price < p) book (f t))
      u)

-- ---- with a new order

-- nobody of the other side meets the price
abbrev pub Unmet : ℕ → ℕ → List Order → Type 0
Unmet side price os = Each (λ (o : Order). stands_on (other side) o ≡ true → meets side price o.price ≡ false) os

unmet_buy :
    (price : ℕ) (os : List Order)
    → Unmet 0 price os
    → SellsAbove price os
unfolding other meets
unmet_buy price os u =
    each (λ (o : Order). stands_on 1 o ≡ true → leb o.price price ≡ false)
    (λ (o : Order). stands_on 1 o ≡ true → price < o.price) os
    (λ o f t. leb-false o.price price (f t))
    u

unmet_sell :
    (price : ℕ) (os : List Order)
    → Unmet 1 price os
    → BuysBelow price os
unfolding other meets
unmet_sell price os u =
    each (λ (o : Order). stands_on 0 o ≡ true → leb price o.price ≡ false)
    (λ (o : Order). stands_on 0 o ≡ true → o.price < price) os
    (λ o f t. leb-false price o.price (f t))
    u

module _ (x : Order) (book : List Order) (unmet : Unmet x.side x.price book) where
  -- as a buy it is below every sell, as a sell above every buy
  below : stands_on 0 x ≡ true → SellsAbove x.price book
  below t = unmet_buy x.price book (rw (sym (on_side 0 x t)) unmet)

  above : stands_on 1 x ≡ true → BuysBelow x.price book
  above t = unmet_sell x.price book (rw (sym (on_side 1 x t)) unmet)

  one_side : stands_on 0 x ≡ true → stands_on 1 x ≡ true → ⊥
  one_side a b = omega (arith, on_side 0 x a, on_side 1 x b)

  -- the fact for every buy, whichever side x is on
  above_each :
      (b : Bool)
      → stands_on 1 x ≡ b
      → Each (λ (o : Order). stands_on 0 o ≡ true → stands_on 1 x ≡ true → o.price < x.price) book
  above_each true e =
      each (λ (o : Order). stands_on 0 o ≡ true → o.price < x.price)
      (λ (o : Order). stands_on 0 o ≡ true → stands_on 1 x ≡ true → o.price < x.price) book
      (λ o f t u. f t)
      (above e)
  above_each false e =
      every (λ (o : Order). stands_on 0 o ≡ true → stands_on 1 x ≡ true → o.price < x.price) book
      (λ o t u. absurd (let z : ◌≡◌ {A = ℕ} 0 1 = cc in omega arith))

  pub uncrossed_with : Uncrossed book → Uncrossed (x ∷ book)
  uncrossed_with u = (
    λ t. (λ v. absurd (one_side t v), below t),
    both (λ (b : Order). stands_on 0 b ≡ true → SellsAbove b.price book)
        (λ (b : Order). stands_on 0 b ≡ true → stands_on 1 x ≡ true → b.price < x.price)
        (λ (b : Order). stands_on 0 b ≡ true → SellsAbove b.price (x ∷ book))
        book
        (λ b f g t. (g t, f t))
        u
        (above_each (stands_on 1 x) refl),
  )

-- ---- prices that nobody meets

buy_unmet :
    (price : ℕ) (os : List Order)
    → SellsAbove price os
    → Unmet 0 price os
unfolding other meets
buy_unmet price os u =
    each (λ (o : Order). stands_on 1 o ≡ true → price < o.price)
    (λ (o : Order). stands_on 1 o ≡ true → leb o.price price ≡ false) os
    (λ o f t. lt-leb o.price price (f t))
    u

sell_unmet :
    (price : ℕ) (os : List Order)
    → BuysBelow price os
    → Unmet 1 price os
unfolding other meets
sell_unmet price os u =
    each (λ (o : Order). stands_on 0 o ≡ true → o.price < price)
    (λ (o : Order). stands_on 0 o ≡ true → leb price o.price ≡ false) os
    (λ o f t. lt-leb price o.price (f t))
    u

-- the own best price, where every buy is below every sell
pub best_unmet :
    (side : ℕ) (book : List Order)
    → side ≤ 1
    → (best side book ≡ 0 → ⊥)
    → Uncrossed book
    → Unmet side (best side book) book
best_unmet side book h n u = go (eqb side 0) refl
  where
    buys : (best 0 book ≡ 0 → ⊥) → Unmet 0 (best 0 book) book
    buys n =
        buy_unmet (best 0 book) book
        (best_has 0 book (λ p. SellsAbove p book)
        (on_each (λ b. SellsAbove b.price book) 0 book u)
        n)

    sells : (best 1 book ≡ 0 → ⊥) → Unmet 1 (best 1 book) book
    sells n =
        sell_unmet (best 1 book) book
        (each (λ (b : Order). stands_on 0 b ≡ true → SellsAbove b.price book)
        (λ (b : Order). stands_on 0 b ≡ true → b.price < best 1 book) book
        (λ b f t. best_has 1 book (λ p. b.price < p) (on_each (λ s. b.price < s.price) 1 book (f t)) n)
        u)

    go : (b : Bool) → eqb side 0 ≡ b → Unmet side (best side book) book
    go true e =
        let z : side ≡ 0 = eqb-true side 0 e in
        rw z (buys (λ m. n (ap (λ (x : ℕ). best x book) z ∙ m)))
    go false e =
        let far : side ≡ 0 → ⊥ = eqb-false side 0 e in
        let z : side ≡ 1 = omega arith in
        rw z (sells (λ m. n (ap (λ (x : ℕ). best x book) z ∙ m)))

unmet_within_one : (side limit p q : ℕ) → meets side p q ≡ false → meets side (within side limit p) q ≡ false
unfolding meets within
unmet_within_one side limit p q e = go (eqb side 0) e
  where
    go :
        (b : Bool)
        → cond b (leb q p) (leb p q) ≡ false
        → cond b (leb q (cond b (min p limit) (max p limit))) (leb (cond b (min p limit) (max p limit)) q) ≡ false
    go true e = lt-leb q (min p limit) (omega (arith, leb-false q p e))
    go false e = lt-leb (max p limit) q (omega (arith, leb-false p q e))

-- the limit where it is beyond a limit
pub unmet_within : (side limit p : ℕ) (os : List Order) → Unmet side p os → Unmet side (within side limit p) os
unmet_within side limit p os u =
    each (λ (o : Order). stands_on (other side) o ≡ true → meets side p o.price ≡ false)
    (λ (o : Order). stands_on (other side) o ≡ true → meets side (within side limit p) o.price ≡ false) os
    (λ o f t. unmet_within_one side limit p o.price (f t))
    u

-- after trades nobody meets what nobody met
pub unmet_settle :
    (ts : List Trade) (side p : ℕ) (book : List Order)
    → Unmet side p book
    → Unmet side p (settle ts book)
unmet_settle ts side p book u = settle_prices ts (other side) (λ q. meets side p q ≡ false) book u
