-- The trades of an order that came in take what they fill off the front of the other side, and nothing off its own: the book
-- afterwards.
use Prim.Native.Nat.{ℕ, ◌+◌, ◌-◌, ◌≤◌, min}
use mathlib.Core.Path.{◌≡◌, refl, sym, ap, ◌∙◌, subst}
use mathlib.Core.Bool.{Bool, true, false}
use mathlib.Core.List.{List, [], ◌∷◌, ◌++◌, map, nil≢cons, head-eq_of_cons-eq, tail-eq_of_cons-eq}
use native.Mathlib.Decide.{dec_lt}
use native.Mathlib.Omega.{arith}
use borrow.Author.Tests.{eq-eqb, ne_eqb}
use Rattle.model.specs.declared.Order.{Order}
use Rattle.model.specs.declared.Trade.{Trade}
use Rattle.model.specs.declared.Taker.{Taker}
use Rattle.model.specs.Book.{stands_on, queue, other, arranged}
use Rattle.model.specs.Matching.{less_by, trade_with, sweep, is_in, filled, filled_of, settle}
use Rattle.model.specs.Words.{Each}
use Rattle.book.specs.Standing.{Standing}
use Rattle.book.specs.Settling.{off_front, placed}
use Rattle.book.proofs.Lists.{both, each, every, each_keep, each_parts, map_same}
use Rattle.book.proofs.Sorting.{Distinct}
use Rattle.book.proofs.Settlements.{filled_nil, filled_more, part, filled_none, filled_cons}
use Rattle.book.proofs.Best.{on_each}
use Rattle.book.proofs.Numbers.{times, times_other, none_bears, queue_own}
use Rattle.book.proofs.Kept.{after}
use Rattle.book.proofs.Fronts.{less_front, less_some_more, no_front, off_nothing, settled_placed}
use Rattle.matching.specs.Sweeping.{wants, at_best}
use Rattle.matching.specs.Settling.{SweptBy}
use Rattle.matching.proofs.Cuts.{cut_levels, cut_best, Worsens, prices_of, queue_worsens}
use Rattle.matching.proofs.Leftovers.{Front, cut_front}
use Rattle.matching.proofs.Partners.{sweep_nil, sweep_none, sweep_one, sweep_spent}
use Rattle.matching.proofs.Fills.{is_with, fills_none}

empty_front : (os : List Order) → map (after []) os ≡ less_front (filled []) os
empty_front os =
    no_front [] os (every (λ (o : Order). filled_of o.number [] ≡ 0) os (λ o. filled_none o.number))
    ∙ ap (λ v. less_front v os) (sym filled_nil)

module _ (t : Taker) where
  -- the first partner's trade, before those with the others
  module _ (q : ℕ) (o : Order) (os met : List Order) (mine : o.number ≡ t.number → ⊥) (alone : Each (λ p. p.number ≡ o.number → ⊥) met) where
    abbrev first : Trade
    first = trade_with t q o

    abbrev others : List Trade
    others = sweep t (q - o.left) met

    quantity : first.quantity ≡ min q o.left
    unfolding trade_with
    quantity = refl

    -- who is not filled takes nothing from the next
    spent : q ≤ o.left → filled others ≡ 0
    spent h =
        let z : q - o.left ≡ 0 = omega arith in
        ap (λ n. filled (sweep t n met)) z ∙ ap filled (sweep_spent t met) ∙ filled_nil

    whole : filled (first ∷ others) ≡ min q o.left + filled others
    whole = filled_more first others ∙ ap (λ n. n + filled others) quantity

    its_own : part o.number first ≡ min q o.left
    unfolding part
    its_own = rw (is_with t q o.number o mine, eq-eqb o.number o.number refl) quantity

    head_less_lem : after (first ∷ others) o ≡ less_by (filled (first ∷ others)) o
    head_less_lem =
        let f : filled_of o.number (first ∷ others) ≡ min q o.left =
        omega (arith, filled_cons o.number first others, fills_none t (q - o.left) o.number met mine alone, its_own)
        in
        less_some_more (filled_of o.number (first ∷ others)) (filled (first ∷ others)) o (elim (dec_lt q o.left) [
          | yes l ↦ omega (arith, f, whole, spent (omega arith))
          | no l ↦ omega (arith, f, whole)
        ])

    rest_off : filled others ≡ filled (first ∷ others) - o.left
    rest_off = elim (dec_lt q o.left) [
      | yes l ↦ omega (arith, whole, spent (omega arith))
      | no l ↦ omega (arith, whole)
    ]

    not_its : (p : Order) → (p.number ≡ t.number → ⊥) → (p.number ≡ o.number → ⊥) → after (first ∷ others) p ≡ after others p
    unfolding part
    not_its p a b =
        let z : is_in p.number first ≡ false = is_with t q p.number o a ∙ ne_eqb o.number p.number (λ e. b (sym e)) in
        let y : filled_of p.number (first ∷ others) ≡ filled_of p.number others = filled_cons p.number first others ∙ rw z (omega arith) in
        ap (λ n. less_by n p) y

    sweep_turn :
        Each (λ p. p.number ≡ t.number → ⊥) os
        → Each (λ p. p.number ≡ o.number → ⊥) os
        → map (after others) os ≡ less_front (filled others) os
        → map (after (first ∷ others)) (o ∷ os) ≡ less_front (filled (first ∷ others)) (o ∷ os)
    unfolding less_front
    sweep_turn f d ih =
        let tail : map (after (first ∷ others)) os ≡ less_front (filled (first ∷ others) - o.left) os =
        map_same (after (first ∷ others)) (after others) os
        (both (λ p. p.number ≡ t.number → ⊥) (λ p. p.number ≡ o.number → ⊥) (λ p. after (first ∷ others) p ≡ after others p) os not_its f d)
        ∙ ih
        ∙ ap (λ n. less_front n os) rest_off
        in
        ap (λ (x : Order). x ∷ map (after (first ∷ others)) os) head_less_lem
        ∙ ap (λ (l : List Order). less_by (filled (first ∷ others)) o ∷ l) tail

  sweep_front :
      (q : ℕ) (met behind os : List Order)
      → met ++ behind ≡ os
      → Distinct (λ o. o.number) os
      → Each (λ o. o.number ≡ t.number → ⊥) os
      → map (after (sweep t q met)) os ≡ less_front (filled (sweep t q met)) os
  sweep_front q [] behind os e d f = rw (sweep_nil t q) (empty_front os)
  sweep_front q (m ∷ met) behind [] e d f = absurd (nil≢cons (sym e))
  sweep_front q (m ∷ met) behind (o ∷ os) e d f =
      go (wants t q o.price) refl (sweep_front (q - o.left) met behind os (tail-eq_of_cons-eq e) d.1 f.1)
    where
      same : m ≡ o
      same = head-eq_of_cons-eq e

      alone : Each (λ p. p.number ≡ o.number → ⊥) met
      alone = (each_parts (λ p. p.number ≡ o.number → ⊥) met behind (rw (sym (tail-eq_of_cons-eq e)) at d.0)).0

      AtFront : List Trade → Type 0
      AtFront ts = map (after ts) (o ∷ os) ≡ less_front (filled ts) (o ∷ os)

      go :
          (w : Bool)
          → wants t q o.price ≡ w
          → map (after (sweep t (q - o.left) met)) os ≡ less_front (filled (sweep t (q - o.left) met)) os
          → map (after (sweep t q (m ∷ met))) (o ∷ os) ≡ less_front (filled (sweep t q (m ∷ met))) (o ∷ os)
      go false w ih =
          let none : sweep t q (m ∷ met) ≡ [] = ap (λ (x : Order). sweep t q (x ∷ met)) same ∙ sweep_none t q o met w in
          subst AtFront (sym none) (empty_front (o ∷ os))
      go true w ih =
          let all : sweep t q (m ∷ met) ≡ trade_with t q o ∷ sweep t (q - o.left) met = ap (λ (x : Order). sweep t q (x ∷ met)) same ∙ sweep_one t q o met w in
          subst AtFront (sym all) (sweep_turn q o os met f.0 alone f.1 d.0 ih)

  -- the trades with a book, for a taker whose number no order of it has
  module _ (q n : ℕ) (book : List Order) (standing : Standing book) (fresh : Each (λ (o : Order). o.number ≡ t.number → ⊥) book) where
    abbrev against : List Order
    against = queue (other t.side) book

    abbrev made : List Trade
    made = sweep t q (at_best n against)

    fresh_in : (side : ℕ) → Each (λ o. o.number ≡ t.number → ⊥) (queue side book)
    fresh_in side =
        on_each (λ o. o.number ≡ t.number → ⊥) side book
        (each (λ o. o.number ≡ t.number → ⊥) (λ o. stands_on side o ≡ true → o.number ≡ t.number → ⊥) book (λ o h s. h) fresh)

    -- the other side
    other_front : map (after made) against ≡ less_front (filled made) against
    other_front =
        let w : Worsens (other t.side) 0 (prices_of against) = queue_worsens (other t.side) book standing in
        let front : Front (other t.side) (cut_levels n against) against = cut_front (other t.side) 0 n against w in
        rw (sym (cut_best (other t.side) 0 n against w))
        (sweep_front q (cut_levels n against) front.behind against front.whole
        (queue_own book standing (other t.side))
        (fresh_in (other t.side)))

    -- its own side: nobody there trades
    own_front : (side : ℕ) → (side ≡ other t.side → ⊥) → map (after made) (queue side book) ≡ less_front 0 (queue side book)
    unfolding at_best
    own_front side away =
        no_front made (queue side book)
        (both (λ o. o.number ≡ t.number → ⊥) (λ o. times o.number against ≡ 0) (λ o. filled_of o.number made ≡ 0) (queue side book)
        (λ o a b.
        fills_none t q o.number (at_best n against) a
        (each_keep (λ x. x.number ≡ o.number → ⊥) _ against (none_bears o.number against b)))
        (fresh_in side)
        (times_other book standing side (other t.side) away))

-- ---- the book afterwards

module _ (side : ℕ) (book : List Order) (standing : Standing book) where
  module _ (ts : List Trade) (s : SweptBy side ts book) where
    off_other_lem :
        (opposite : ℕ)
        → other side ≡ opposite
        → map (after ts) (queue opposite book) ≡ less_front (filled ts) (queue opposite book)
    off_other_lem opposite e =
        let here : other s.taker.side ≡ opposite = ap other s.its_side ∙ e in
        rw (sym here, s.trades) (other_front s.taker s.quantity s.prices book standing s.fresh)

    off_own : (own : ℕ) → (own ≡ other side → ⊥) → map (after ts) (queue own book) ≡ less_front 0 (queue own book)
    off_own own e =
        rw s.trades
        (own_front s.taker s.quantity s.prices book standing s.fresh own (λ z. e (z ∙ ap other s.its_side)))

  module _ (n shares : ℕ) {book' : List Order} where
    pub buy_entered :
        side ≡ 0
        → book' ≡ placed n (queue 0 book ++ off_front shares (queue 1 book))
        → (ts : List Trade)
        → SweptBy side ts book
        → filled ts ≡ shares
        → book' ≡ arranged n (settle ts book)
    buy_entered z e ts s f =
        let sells : other side ≡ 1 = unfold other in rw (eq-eqb side 0 z) in
        e
        ∙ rw (sym f)
        (ap (λ (l : List Order). placed n (l ++ off_front (filled ts) (queue 1 book))) (sym (off_nothing book standing 0))
        ∙ sym (settled_placed book standing n ts 0 (filled ts) (off_own ts s 0 (λ y. omega (arith, y, sells))) (off_other_lem ts s 1 sells)))

    pub sell_entered :
        (side ≡ 0 → ⊥)
        → book' ≡ placed n (off_front shares (queue 0 book) ++ queue 1 book)
        → (ts : List Trade)
        → SweptBy side ts book
        → filled ts ≡ shares
        → book' ≡ arranged n (settle ts book)
    sell_entered z e ts s f =
        let buys : other side ≡ 0 = unfold other in rw (ne_eqb side 0 z) in
        e
        ∙ rw (sym f)
        (ap (λ (l : List Order). placed n (off_front (filled ts) (queue 0 book) ++ l)) (sym (off_nothing book standing 1))
        ∙ sym (settled_placed book standing n ts (filled ts) 0 (off_other_lem ts s 0 buys) (off_own ts s 1 (λ y. omega (arith, y, buys)))))
