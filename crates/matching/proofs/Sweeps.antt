-- The laws behind `sweep`: at every turn of either loop the trades made since the loop began, with those still to come, are those
-- that were to come then.
use Prim.Native.Nat.{ℕ, suc, ◌+◌, ◌-◌, ◌≤◌, ◌<◌, ◌^◌}
use mathlib.Core.Path.{◌≡◌, refl, sym, ap, ◌∙◌}
use mathlib.Core.Bool.{true, false}
use mathlib.Core.List.{List, [], ◌∷◌}
use native.Mathlib.Numerals.{add-one}
use native.Mathlib.Omega.{arith}
use lib.ListN.{length, set, length-set}
use lib.Seq.{sets}
use borrow.Author.Tests.{eq-eqb, ne_eqb}
use Rattle.model.specs.declared.Order.{Order}
use Rattle.model.specs.declared.Trade.{Trade}
use Rattle.model.specs.declared.Taker.{Taker}
use Rattle.model.specs.Book.{queue, other}
use Rattle.model.specs.Matching.{trade_with, sweep}
use Rattle.model.specs.Words.{Each}
use Rattle.book.specs.Standing.{Standing}
use Rattle.book.specs.Writing.{fitted}
use Rattle.book.proofs.Lists.{each}
use Rattle.book.proofs.Queues.{Stands, on_live, queue_stands}
use Rattle.book.proofs.Written.{sets_fitted}
use Rattle.matching.specs.declared.Swept.{Swept}
use Rattle.matching.specs.Sweeping.{at_best, swept, comes_to, wants, one_price, one_trade}
use Rattle.matching.proofs.Cuts.{cut_same, cut_levels, same_nil, levels_none, levels_cons, cut_here, cut_away, cut_from, cut_best, queue_worsens}
use Rattle.matching.proofs.Partners.{sweep_nil, sweep_none, sweep_one, trade_takes}
use Rattle.matching.proofs.Tallies.{with_trade, counted, counted_none, counted_one, unswept, nothing_yet, sweep_counts}

-- ---- the steps of a tally

trade_price : (t : Taker) (q : ℕ) (o : Order) → (trade_with t q o).price ≡ o.price
unfolding trade_with
trade_price t q o = refl

-- a trade at the last price
trade_at : (s : Swept) (r : Trade) → r.price ≡ s.last → with_trade s r ≡ one_trade s r
unfolding with_trade one_trade
trade_at s r e = rw (eq-eqb r.price s.last e, e)

-- a trade at a new price: the price first, and then the trade
price_first : (s : Swept) (r : Trade) → (r.price ≡ s.last → ⊥) → with_trade s r ≡ with_trade (one_price s r.price) r
unfolding with_trade one_price
price_first s r n = rw (ne_eqb r.price s.last n, eq-eqb r.price r.price refl)

-- ---- what holds at every turn

-- the orders that a taker may meet
abbrev pub against : Taker → List Order → List Order
against t rows = queue (other t.side) rows

-- the trades still to come: at the last price, and at as many more as are left
abbrev pub coming : Taker → ℕ → Swept → ℕ → List Order → List Trade
coming t most s left os = sweep t left (cut_same (most - s.levels) s.last os)

-- the next order begins another price
abbrev pub NewPrice : ℕ → List Order → Type 0
NewPrice p [] = Unit {0}
NewPrice p (o ∷ os) = o.price ≡ p → ⊥

module _ (t : Taker) (most : ℕ) where
  -- from one point of the way to a later one: a tally, the quantity left, the orders from there on, and the trade list
  pub record Same
      (s₀ : Swept) (left₀ : ℕ) (os₀ : List Order) (out₀ : List Trade)
      (s : Swept) (left : ℕ) (os : List Order) (out : List Trade) : Type 0 where
    pub adds_up : counted s (coming t most s left os) ≡ counted s₀ (coming t most s₀ left₀ os₀)
    pub laid :
        sets out s.trades (coming t most s left os)
        ≡ sets out₀ s₀.trades (coming t most s₀ left₀ os₀)
    pub long : length out ≡ length out₀
    pub filled : s.filled + left ≡ s₀.filled + left₀
    pub count : s.trades + length os ≡ s₀.trades + length os₀

  pub here : {s : Swept} {left : ℕ} {os : List Order} {out : List Trade} → Same s left os out s left os out
  here = record { adds_up = refl; laid = refl; long = refl; filled = refl; count = refl }

  pub then :
      {s₀ s₁ s₂ : Swept} {left₀ left₁ left₂ : ℕ} {os₀ os₁ os₂ : List Order} {out₀ out₁ out₂ : List Trade}
      → Same s₀ left₀ os₀ out₀ s₁ left₁ os₁ out₁
      → Same s₁ left₁ os₁ out₁ s₂ left₂ os₂ out₂
      → Same s₀ left₀ os₀ out₀ s₂ left₂ os₂ out₂
  then a b =
      record {
        adds_up = b.adds_up ∙ a.adds_up;
        laid = b.laid ∙ a.laid;
        long = b.long ∙ a.long;
        filled = b.filled ∙ a.filled;
        count = b.count ∙ a.count;
      }

  module _ (s : Swept) (left : ℕ) (out : List Trade) where
    -- nobody is left
    pub nobody : {os : List Order} → os ≡ [] → coming t most s left os ≡ []
    nobody z =
        ap (coming t most s left) z ∙ ap (sweep t left) (same_nil (most - s.levels) s.last) ∙ sweep_nil t left

    module _ {os behind : List Order} {o : Order} (e : os ≡ o ∷ behind) where
      -- a price is new, and the prices are used up
      pub no_price : NewPrice s.last os → most ≤ s.levels → coming t most s left os ≡ []
      no_price n h =
          let fresh : o.price ≡ s.last → ⊥ = rw e at n in
          let z : most - s.levels ≡ 0 = omega arith in
          ap (coming t most s left) e
          ∙ ap (λ (k : ℕ). sweep t left (cut_same k s.last (o ∷ behind))) z
          ∙ ap (sweep t left) (cut_away 0 s.last o behind fresh ∙ levels_none (o ∷ behind))
          ∙ sweep_nil t left

      -- a price is new: quantity or limit is spent, or the price is counted
      module _ (n : NewPrice s.last os) (h : s.levels < most) where
        first_new : cut_same (most - s.levels) s.last os ≡ o ∷ cut_same (most - (s.levels + 1)) o.price behind
        first_new =
            let fresh : o.price ≡ s.last → ⊥ = rw e at n in
            let one : most - s.levels ≡ suc (most - (s.levels + 1)) = omega arith in
            ap (cut_same (most - s.levels) s.last) e
            ∙ ap (λ (k : ℕ). cut_same k s.last (o ∷ behind)) one
            ∙ cut_away (suc (most - (s.levels + 1))) s.last o behind fresh
            ∙ levels_cons (most - (s.levels + 1)) o behind

        pub spent_new : wants t left o.price ≡ false → coming t most s left os ≡ []
        spent_new w =
            ap (sweep t left) first_new ∙ sweep_none t left o (cut_same (most - (s.levels + 1)) o.price behind) w

        abbrev more : List Trade
        more = sweep t (left - o.left) (cut_same (most - (s.levels + 1)) o.price behind)

        module _ (w : wants t left o.price ≡ true) where
          now_coming : coming t most s left os ≡ trade_with t left o ∷ more
          now_coming =
              ap (sweep t left) first_new ∙ sweep_one t left o (cut_same (most - (s.levels + 1)) o.price behind) w

          then_coming : coming t most (one_price s o.price) left os ≡ trade_with t left o ∷ more
          unfolding one_price
          then_coming =
              ap (λ (l : List Order). sweep t left (cut_same (most - (s.levels + 1)) o.price l)) e
              ∙ ap (sweep t left) (cut_here (most - (s.levels + 1)) o.price o behind refl)
              ∙ sweep_one t left o (cut_same (most - (s.levels + 1)) o.price behind) w

          far : (trade_with t left o).price ≡ s.last → ⊥
          far g =
              let fresh : o.price ≡ s.last → ⊥ = rw e at n in
              fresh (sym (trade_price t left o) ∙ g)

          tallied :
              counted (one_price s o.price) (coming t most (one_price s o.price) left os)
              ≡ counted s (coming t most s left os)
          tallied =
              ap (counted (one_price s o.price)) then_coming
              ∙ counted_one (one_price s o.price) (trade_with t left o) more
              ∙ ap (λ (x : ℕ). counted (with_trade (one_price s x) (trade_with t left o)) more) (sym (trade_price t left o))
              ∙ ap (λ (x : Swept). counted x more) (sym (price_first s (trade_with t left o) far))
              ∙ sym (counted_one s (trade_with t left o) more)
              ∙ ap (counted s) (sym now_coming)

          pub price_opens : {s' : Swept} → s' ≡ one_price s o.price → Same s left os out s' left os out
          unfolding one_price
          price_opens f =
              rw f
              (record {
                adds_up = tallied;
                laid = ap (λ (ts : List Trade). sets out s.trades ts) (then_coming ∙ sym now_coming);
                long = refl;
                filled = refl;
                count = refl;
              })

      -- with the next trade the counts fit
      module _ {r : Trade} (q : r ≡ trade_with t left o) where
        less : r.quantity ≤ left
        less = trade_takes t left o r q

        pub one_more :
            {s₀ : Swept} {left₀ : ℕ} {os₀ : List Order} {out₀ : List Trade}
            → Same s₀ left₀ os₀ out₀ s left os out
            → s₀ ≡ comes_to []
            → length os₀ < 2 ^ 64
            → left₀ < 2 ^ 64
            → (s.trades + 1 < 2 ^ 64) × (s.filled + r.quantity < 2 ^ 64)
        one_more {s₀} a z long some =
            let none : s₀ ≡ unswept = z ∙ nothing_yet in
            let no_trades_lem : s₀.trades ≡ 0 = ap (λ (x : Swept). x.trades) none in
            let no_shares : s₀.filled ≡ 0 = ap (λ (x : Swept). x.filled) none in
            (omega (arith, a.count, ap length e), omega (arith, a.filled, less))

      -- at the last price: quantity or limit is spent, or the next trade is made
      module _ (same : o.price ≡ s.last) where
        first_same : cut_same (most - s.levels) s.last os ≡ o ∷ cut_same (most - s.levels) s.last behind
        first_same = ap (cut_same (most - s.levels) s.last) e ∙ cut_here (most - s.levels) s.last o behind same

        pub spent_same : wants t left o.price ≡ false → coming t most s left os ≡ []
        spent_same w =
            ap (sweep t left) first_same ∙ sweep_none t left o (cut_same (most - s.levels) s.last behind) w

        module _ {r : Trade} (q : r ≡ trade_with t left o) where
          left_then : left - o.left ≡ left - r.quantity
          unfolding trade_with
          left_then = rw q (omega arith)

          turn : wants t left o.price ≡ true → coming t most s left os ≡ r ∷ coming t most s (left - r.quantity) behind
          turn w =
              ap (sweep t left) first_same
              ∙ sweep_one t left o (cut_same (most - s.levels) s.last behind) w
              ∙ ap (λ (x : Trade). x ∷ sweep t (left - o.left) (cut_same (most - s.levels) s.last behind)) (sym q)
              ∙ ap (λ (k : ℕ). r ∷ sweep t k (cut_same (most - s.levels) s.last behind)) left_then

          at_last : r.price ≡ s.last
          at_last = ap (λ (x : Trade). x.price) q ∙ trade_price t left o ∙ same

          tallied_one :
              wants t left o.price ≡ true
              → counted (one_trade s r) (coming t most s (left - r.quantity) behind) ≡ counted s (coming t most s left os)
          tallied_one w =
              sym (ap (λ (x : Swept). counted x (coming t most s (left - r.quantity) behind)) (trade_at s r at_last))
              ∙ sym (counted_one s r (coming t most s (left - r.quantity) behind))
              ∙ ap (counted s) (sym (turn w))

          pub trade_made :
              {s' : Swept} {out' : List Trade}
              → wants t left o.price ≡ true
              → out' ≡ set out s.trades r
              → s' ≡ one_trade s r
              → Same s left os out s' (left - r.quantity) behind out'
          unfolding one_trade
          trade_made w lay add =
              rw (lay, add)
              (record {
                adds_up = tallied_one w;
                laid =
                    ap
                    (λ (n : ℕ).
                    sets (set out s.trades r) n (coming t most s (left - r.quantity) behind))
                    (add-one s.trades)
                    ∙ ap (λ (ts : List Trade). sets out s.trades ts) (sym (turn w));
                long = length-set out s.trades r;
                filled = omega (arith, less q);
                count = omega (arith, ap length e);
              })

-- ---- where it ends

module _ (t : Taker) (most quantity : ℕ) (rows : List Order) (lent : List Trade) (standing : Standing rows) where
  abbrev side : ℕ
  side = other t.side

  priced : Each (λ (o : Order). o.price ≡ 0 → ⊥) (against t rows)
  priced =
      each (Stands side) (λ (o : Order). o.price ≡ 0 → ⊥) (against t rows)
      (λ o h z. omega (arith, h.0.priced (on_live side o h.1), z))
      (queue_stands side rows standing.fair)

  best : cut_levels most (against t rows) ≡ at_best most (against t rows)
  best = cut_best side 0 most (against t rows) (queue_worsens side rows standing)

  first : coming t most unswept quantity (against t rows) ≡ sweep t quantity (cut_levels most (against t rows))
  first =
      let z : most - 0 ≡ most = omega arith in
      ap (λ (n : ℕ). sweep t quantity (cut_same n 0 (against t rows))) z
      ∙ ap (sweep t quantity) (cut_from most (against t rows) priced)

  -- the first price is new
  pub first_price_lem : {s : Swept} {os : List Order} → s ≡ comes_to [] → os ≡ against t rows → NewPrice s.last os
  first_price_lem z e = rw (z, nothing_yet, e) (go (against t rows) priced)
    where
      go : (os : List Order) → Each (λ (o : Order). o.price ≡ 0 → ⊥) os → NewPrice 0 os
      go [] f = tt
      go (o ∷ os) f = f.0

  pub outcome :
      {s₀ s : Swept} {left : ℕ} {os₀ os : List Order} {out : List Trade}
      → s₀ ≡ comes_to []
      → os₀ ≡ against t rows
      → Same t most s₀ quantity os₀ lent s left os out
      → coming t most s left os ≡ []
      → (s ≡ comes_to (swept t most quantity rows)) × (out ≡ fitted (swept t most quantity rows) lent)
  outcome {s₀} {s} {left} {os₀} {os} {out} z e a done =
      let begin : s₀ ≡ unswept = z ∙ nothing_yet in
      let whole : coming t most s₀ quantity os₀ ≡ sweep t quantity (cut_levels most (against t rows)) = rw (begin, e) first in
      let none : s₀.trades ≡ 0 = ap (λ (x : Swept). x.trades) begin in (
        sym (counted_none s)
            ∙ ap (counted s) (sym done)
            ∙ a.adds_up
            ∙ ap (λ (x : Swept). counted x (coming t most s₀ quantity os₀)) begin
            ∙ ap (counted unswept) whole
            ∙ sweep_counts t quantity most side rows standing priced
            ∙ ap (λ (q : List Order). comes_to (sweep t quantity q)) best,
        ap (λ (ts : List Trade). sets out s.trades ts) (sym done)
            ∙ a.laid
            ∙ ap (λ (n : ℕ). sets lent n (coming t most s₀ quantity os₀)) none
            ∙ ap (λ (ts : List Trade). sets lent 0 ts) (whole ∙ ap (sweep t quantity) best)
            ∙ sets_fitted (swept t most quantity rows) lent,
      )

-- ---- the next order begins another price

pub no_next : (p : ℕ) {os : List Order} → os ≡ [] → NewPrice p os
no_next p e = rw e tt

pub next_new : (p q : ℕ) {os behind : List Order} {o : Order} → os ≡ o ∷ behind → p ≡ q → (o.price ≡ q → ⊥) → NewPrice p os
next_new p q e f n = rw (e, f) n

pub price_last : (s s' : Swept) (p : ℕ) → s' ≡ one_price s p → s'.last ≡ p
unfolding one_price
price_last s s' p e = ap (λ (x : Swept). x.last) e

pub trade_last : (s s' : Swept) (r : Trade) → s' ≡ one_trade s r → (s'.last ≡ s.last) × (s'.levels ≡ s.levels)
unfolding one_trade
trade_last s s' r e = (ap (λ (x : Swept). x.last) e, ap (λ (x : Swept). x.levels) e)

pub fewer : (s s' s'' : Swept) (p most : ℕ) → s' ≡ one_price s p → s''.levels ≡ s'.levels → s.levels < most → most - s''.levels < most - s.levels
unfolding one_price
fewer s s' s'' p most e f h =
    let g : s'.levels ≡ s.levels + 1 = ap (λ (x : Swept). x.levels) e in
    omega arith
