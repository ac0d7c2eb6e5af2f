-- The book after an order in continuous trading, for every kind: nobody meets the price at which it rests, so that buys stay
-- below sells; and the book still stands.
use Prim.Native.Nat.{ℕ, ◌-◌, ◌≤◌, ◌<◌}
use mathlib.Core.Path.{◌≡◌, refl, sym, ap, ◌∙◌, subst}
use mathlib.Core.Bool.{Bool, true, false, cond, ◌||◌}
use mathlib.Core.List.{List, ◌∷◌}
use mathlib.Core.Logic.{◌⊎◌, inl, inr}
use native.Mathlib.Omega.{arith}
use lib.Dec.{leb, eqb}
use borrow.Author.Tests.{ne_eqb, eqb-true, eqb-false, lt-leb}
use Rattle.model.specs.declared.Order.{Order}
use Rattle.model.specs.declared.Asked.{Asked}
use Rattle.model.specs.declared.Trade.{Trade}
use Rattle.model.specs.declared.Taker.{Taker}
use Rattle.model.specs.declared.Day.{Day}
use Rattle.model.specs.Clock.{continuous}
use Rattle.model.specs.Halts.{phase_now}
use Rattle.model.specs.Book.{queue, best, other}
use Rattle.model.specs.Matching.{meets, within, sweep, filled, filled_of, last_price, settle}
use Rattle.model.specs.Entry.{best_within, entry_price, opposite, entry_trades, rest_price}
use Rattle.model.specs.Sound.{crosses}
use Rattle.model.specs.Calls.{joined}
use Rattle.model.specs.Words.{Each}
use Rattle.book.specs.Standing.{Standing}
use Rattle.book.specs.Priority.{rank}
use Rattle.book.proofs.Lists.{each, each_append}
use Rattle.book.proofs.Best.{each_on}
use Rattle.book.proofs.Crossing.{
  Uncrossed,
  uncrossed,
  not_crossed,
  uncrossed_settle,
  Unmet,
  uncrossed_with,
  best_unmet,
  unmet_within,
  unmet_settle,
  settle_others,
}
use Rattle.book.proofs.Settlements.{filled_nil}
use Rattle.matching.proofs.Cuts.{cut_levels, cut_best, Worsens, prices_of, queue_worsens}
use Rattle.matching.proofs.Tallies.{worsens_levels}
use Rattle.matching.proofs.Trades.{Deal, each_trade}
use Rattle.matching.proofs.Leftovers.{Gone, left_over_lem, Front, cut_front}
use Rattle.matching.proofs.Entries.{as_sweep, no_price}
use Rattle.matching.proofs.EntryLaws.{meets_through, last_has, entry_allowed, only_five, taker, remainder, orders_then}

-- ---- prices that do not meet

-- a price beyond a limit does not meet a price within it
beyond_unmet : (side l m p : ℕ) → meets side l m ≡ true → meets side l p ≡ false → meets side m p ≡ false
beyond_unmet side l m p e f = go (meets side m p) refl
  where
    go : (b : Bool) → meets side m p ≡ b → b ≡ false
    go true g = let z : ◌≡◌ {A = ℕ} 0 1 = cc (meets_through side l m p e g, f) in absurd (omega arith)
    go false g = refl

-- a worse price of the other side does not meet
worse_unmet : (side m p : ℕ) → rank (other side) m < rank (other side) p → meets side m p ≡ false
unfolding meets other rank
worse_unmet side m p l = go (eqb side 0) l
  where
    go :
        (b : Bool)
        → cond (eqb (cond b 1 0) 0) (1_000_000 - m) m < cond (eqb (cond b 1 0) 0) (1_000_000 - p) p
        → cond b (leb p m) (leb m p) ≡ false
    go true l = lt-leb p m l
    go false l = lt-leb m p (omega arith)

module _ (d : Day) (a : Asked) (book : List Order) (standing : Standing book) (now : phase_now d ≡ continuous) where
  abbrev ts : List Trade
  ts = entry_trades d a book

  -- the other side, in priority
  abbrev against : List Order
  against = queue (other a.side) book

  swept : (entry_price a book ≡ 0 → ⊥) → ts ≡ sweep (taker d a book) a.quantity (opposite a book)
  swept n = as_sweep d a book (phase_now d) refl (now ∙ unfold continuous in refl) n

  -- the order does not meet the price, or is wholly filled
  abbrev Away : ℕ → Order → Type 0
  Away p o = (meets a.side p o.price ≡ false) ⊎ (o.left ≤ filled_of o.number ts)

  -- so that nobody in the settled book meets it
  settled : (p : ℕ) → Each (Away p) against → Unmet a.side p (settle ts book)
  settled p e =
      settle_others ts (other a.side) (λ q. meets a.side p q ≡ false) book
      (each_on (Away p) (other a.side) book e)

  -- ---- the whole other side was open to it: nobody meets its price any more

  whole_side : leb 3 a.kind ≡ false → opposite a book ≡ against
  unfolding opposite
  whole_side e = rw e

  pub limit_unmet :
      leb 3 a.kind ≡ false
      → (entry_price a book ≡ 0 → ⊥)
      → filled ts < a.quantity
      → Unmet a.side (entry_price a book) (settle ts book)
  limit_unmet k n left =
      let t : Taker = taker d a book in
      let all : ts ≡ sweep t a.quantity against = swept n ∙ ap (sweep t a.quantity) (whole_side k) in
      let few : filled (sweep t a.quantity against) < a.quantity = rw (sym all) left in
      settled (entry_price a book)
      (subst (λ (us : List Trade). Each (Gone t us) against) (sym all)
      (left_over_lem t 0 a.quantity against (queue_worsens (other a.side) book standing) few))

  -- ---- five prices were: nobody meets the price of its last trade any more

  pub last_unmet :
      3 ≤ a.kind
      → (entry_price a book ≡ 0 → ⊥)
      → entry_price a book ≡ a.price
      → filled ts < a.quantity
      → (filled ts ≡ 0 → ⊥)
      → Unmet a.side (last_price 0 ts) (settle ts book)
  last_unmet k n same left traded =
      let t : Taker = taker d a book in
      let cut : List Order = cut_levels 5 against in
      let w : Worsens (other a.side) 0 (prices_of against) = queue_worsens (other a.side) book standing in
      let front : Front (other a.side) cut against = cut_front (other a.side) 0 5 against w in
      let all : ts ≡ sweep t a.quantity cut =
      swept n ∙ ap (sweep t a.quantity) (only_five a book k ∙ sym (cut_best (other a.side) 0 5 against w))
      in
      let few : filled (sweep t a.quantity cut) < a.quantity = rw (sym all) left in
      let swept_cut : Each (Gone t ts) cut =
      subst (λ (us : List Trade). Each (Gone t us) cut) (sym all)
      (left_over_lem t 0 a.quantity cut (worsens_levels (other a.side) 0 5 against w) few)
      in
      let near : meets a.side a.price (last_price 0 ts) ≡ true =
      last_has (λ x. meets a.side a.price x ≡ true) 0 ts (entry_allowed d a book) traded
      in
      settled (last_price 0 ts)
      (rw (sym front.whole)
      (each_append (Away (last_price 0 ts)) cut front.behind
      (each (Gone t ts) (Away (last_price 0 ts)) cut (λ o g. limit_away near o g) swept_cut)
      (each (λ o. Each (λ x. rank (other a.side) x.price < rank (other a.side) o.price) cut) (Away (last_price 0 ts)) front.behind
      (λ o h. behind_away cut all o h)
      front.worse)))
    where
      limit_away :
          meets a.side a.price (last_price 0 ts) ≡ true
          → (o : Order)
          → Gone (taker d a book) ts o
          → Away (last_price 0 ts) o
      limit_away near o (inl e) =
          inl
          (beyond_unmet a.side a.price (last_price 0 ts) o.price near
          (ap (λ (l : ℕ). meets a.side l o.price) (sym same) ∙ e))
      limit_away near o (inr l) = inr l

      behind_away :
          (cut : List Order)
          → ts ≡ sweep (taker d a book) a.quantity cut
          → (o : Order)
          → Each (λ x. rank (other a.side) x.price < rank (other a.side) o.price) cut
          → Away (last_price 0 ts) o
      behind_away cut all o h =
          inl
          (worse_unmet a.side (last_price 0 ts) o.price
          (last_has (λ x. rank (other a.side) x < rank (other a.side) o.price) 0 ts
          (rw all
          (each_trade (taker d a book) (λ r. rank (other a.side) r.price < rank (other a.side) o.price) a.quantity cut
          (each (λ x. rank (other a.side) x.price < rank (other a.side) o.price)
          (λ x. (r : Trade) → Deal (taker d a book) x r → rank (other a.side) r.price
          < rank (other a.side) o.price)
          cut
          (λ x l r f. rw f.price l)
          h)))
          traded))

  -- ---- its own side's best: nobody met that before

  own_unmet :
      a.side ≤ 1
      → Uncrossed book
      → (best_within a a.side book ≡ 0 → ⊥)
      → Unmet a.side (best_within a a.side book) (settle ts book)
  unfolding best_within
  own_unmet h u n = go (eqb (best a.side book) 0) refl n
    where
      go :
          (b : Bool)
          → eqb (best a.side book) 0 ≡ b
          → (cond b 0 (within a.side a.price (best a.side book)) ≡ 0 → ⊥)
          → Unmet a.side (cond b 0 (within a.side a.price (best a.side book))) (settle ts book)
      go true e n = absurd (n refl)
      go false e n =
          unmet_settle ts a.side (within a.side a.price (best a.side book)) book
          (unmet_within a.side a.price (best a.side book) book
          (best_unmet a.side book h (eqb-false (best a.side book) 0 e) u))

  -- ---- for every kind

  plain_entry : a.kind ≡ 4 → entry_price a book ≡ a.price
  unfolding entry_price
  plain_entry e =
      let one : a.kind ≡ 1 → ⊥ = λ z. omega arith in
      let two : a.kind ≡ 2 → ⊥ = λ z. omega arith in
      rw (ne_eqb a.kind 1 one, ne_eqb a.kind 2 two)

  -- who traded had a price
  priced : (filled ts ≡ 0 → ⊥) → entry_price a book ≡ 0 → ⊥
  priced traded z = traded (ap filled (no_price d a book (phase_now d) refl z) ∙ filled_nil)

  -- nobody meets the price at which the remainder rests
  pub rest_unmet :
      a.side ≤ 1
      → a.kind ≤ 4
      → Uncrossed book
      → filled ts < a.quantity
      → (rest_price a ts book ≡ 0 → ⊥)
      → Unmet a.side (rest_price a ts book) (settle ts book)
  unfolding rest_price
  rest_unmet side kind u left n = go (eqb a.kind 3) refl (eqb a.kind 4) refl (eqb (filled ts) 0) refl n
    where
      go :
          (b : Bool)
          → eqb a.kind 3 ≡ b
          → (c : Bool)
          → eqb a.kind 4 ≡ c
          → (e : Bool)
          → eqb (filled ts) 0 ≡ e
          → (cond b 0 (cond c (cond e (best_within a a.side book) (last_price 0 ts)) (entry_price a book)) ≡ 0 → ⊥)
          → Unmet a.side
          (cond b 0 (cond c (cond e (best_within a a.side book) (last_price 0 ts)) (entry_price a book)))
          (settle ts book)
      go true x c y e z n = absurd (n refl)
      go false x true y true z n = own_unmet side u n
      go false x true y false z n =
          let four : a.kind ≡ 4 = eqb-true a.kind 4 y in
          let traded : filled ts ≡ 0 → ⊥ = eqb-false (filled ts) 0 z in
          last_unmet (omega arith) (priced traded) (plain_entry four) left traded
      go false x false y e z n =
          let three : a.kind ≡ 3 → ⊥ = eqb-false a.kind 3 x in
          let four : a.kind ≡ 4 → ⊥ = eqb-false a.kind 4 y in
          let low : a.kind < 3 = omega arith in
          limit_unmet (lt-leb 3 a.kind low) n left

  -- a book in which buys did not reach sells is still one
  pub entered_uncrossed :
      (number : ℕ)
      → a.side ≤ 1
      → a.kind ≤ 4
      → crosses book ≡ false
      → crosses (orders_then d a book number) ≡ false
  unfolding joined
  entered_uncrossed number side kind c =
      go (eqb (a.quantity - filled ts) 0) refl (eqb (rest_price a ts book) 0) refl
    where
      u : Uncrossed book
      u = uncrossed book standing c

      go :
          (b : Bool)
          → eqb (a.quantity - filled ts) 0 ≡ b
          → (e : Bool)
          → eqb (rest_price a ts book) 0 ≡ e
          → crosses (cond (b || e) (settle ts book) (remainder d a book number ∷ settle ts book)) ≡ false
      go true x e y = not_crossed (settle ts book) (uncrossed_settle ts book u)
      go false x true y = not_crossed (settle ts book) (uncrossed_settle ts book u)
      go false x false y =
          let some : a.quantity - filled ts ≡ 0 → ⊥ = eqb-false (a.quantity - filled ts) 0 x in
          not_crossed (remainder d a book number ∷ settle ts book)
          (uncrossed_with (remainder d a book number) (settle ts book)
          (rest_unmet side kind u (omega arith) (eqb-false (rest_price a ts book) 0 y))
          (uncrossed_settle ts book u))
