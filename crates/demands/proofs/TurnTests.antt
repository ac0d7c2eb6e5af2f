-- A book's price list and the price that is left, from two numbers: where the sells turn and where the buys do. Each is tested
-- at itself and one fen below, not at 999,999 prices.
use Rattle.std.specs.Prelude.{if◌then◌else◌}
use Prim.Native.Nat.{ℕ, ◌+◌, ◌-◌, ◌≤◌, ◌<◌}
use mathlib.Core.Path.{◌≡◌, refl, ap, ◌∙◌}
use mathlib.Core.Bool.{Bool, true, false, not, ◌&&◌, ◌||◌}
use mathlib.Core.List.{List, [], ◌∷◌}
use native.Mathlib.Nat.{le_refl}
use native.Mathlib.Decide.{dec_lt, ℕ_discrete}
use native.Mathlib.Omega.{arith}
use borrow.Author.Tests.{leb-true, lt-ltb, le-ltb, eq-eqb, ne_eqb, not-true}
use lib.Dec.{leb, ltb, eqb}
use Rattle.model.specs.declared.Order.{Order}
use Rattle.model.specs.Lists.{from}
use Rattle.model.specs.Auction.{qualifying, left_by}
use Rattle.auction.specs.Spans.{turned, flatter, nearest_in}
use Rattle.model.proofs.Bools.{not_both, and_left, and_right}
use Rattle.auction.proofs.Turning.{Turns, turned_up, unturned_down, between_turns}
use Rattle.auction.proofs.Spanning.{turns_span, turns_none}
use Rattle.auction.proofs.Ties.{flattest_one, flattest_many, left_is, none_left, nearest_same}

-- ---- a turning point, tested at it and one fen below
unfoldable pub turn_test : List Order → ℕ → ℕ → Bool
turn_test os side r =
    (leb 1 r && leb r 1_000_000)
    && (eqb r 1 || not (turned os side (r - 1)))
    && (eqb r 1_000_000 || turned os side r)

or_else : (a b : Bool) → a || b ≡ true → a ≡ false → b ≡ true
or_else true b e f = absurd (not_both refl f)
or_else false b e f = e

turn_tested : (os : List Order) (side r : ℕ) → turn_test os side r ≡ true → Turns os side r
unfolding turn_test
turn_tested os side r e =
    let a : Bool = leb 1 r && leb r 1_000_000 in
    let b : Bool = eqb r 1 || not (turned os side (r - 1)) in
    let c : Bool = eqb r 1_000_000 || turned os side r in
    let ab = and_left (a && b) c e in
    let ranged = and_left a b ab in
    let low : 1 ≤ r = leb-true 1 r (and_left (leb 1 r) (leb r 1_000_000) ranged) in
    let high : r ≤ 1_000_000 = leb-true r 1_000_000 (and_right (leb 1 r) (leb r 1_000_000) ranged) in
    record {
      from_1 = low;
      ordered = le_refl r;
      to_1000000 = high;
      before = λ p h k.
          unturned_down os side {q = r - 1} (omega arith)
          (not-true (turned os side (r - 1)) (or_else (eqb r 1) (not (turned os side (r - 1))) (and_right a b ab) (ne_eqb r 1 (omega arith))));
      after = λ p h k.
          turned_up os side h
          (or_else (eqb r 1_000_000) (turned os side r) (and_right (a && b) c e) (ne_eqb r 1_000_000 (omega arith)));
    }

-- ---- the price left, by the two turning points
unfoldable pub left_from : List Order → ℕ → ℕ → ℕ → List ℕ
left_from os ref lo end =
    if ltb lo end
    then
    (if eqb lo (end - 1)
    then lo
    else nearest_in ref (flatter os lo (lo + 1)) (flatter os (end - 1) (end - 1 - 1)))
    ∷ []
    else []

left_from_lem : (os : List Order) (ref lo end : ℕ) → Turns os 1 lo → Turns os 0 end → left_by os ref ≡ left_from os ref lo end
unfolding left_from
left_from_lem os ref lo end s b = elim (dec_lt lo end) [
  | yes h ↦ rw (lt-ltb lo end h) (elim (ℕ_discrete lo (end - 1)) [
    | yes e ↦
        let k = turns_span os s b h in
        rw (eq-eqb lo (end - 1) e) (left_is os k ref (flattest_one os k e) ∙ ap (λ p. p ∷ []) (nearest_same ref lo))
    | no e ↦
        let k = turns_span os s b h in
        let l : lo < end - 1 = omega arith in
        rw (ne_eqb lo (end - 1) e) (left_is os k ref (flattest_many os k l))
  ])
  | no h ↦ rw (le-ltb lo end (omega arith)) (none_left os ref (turns_none os s b (omega arith)))
]

-- ---- both, by the tests
module _ (os : List Order) (lo end : ℕ) (sells : turn_test os 1 lo ≡ true) (buys : turn_test os 0 end ≡ true) where
  pub tested_list : qualifying os ≡ from lo (end - lo)
  tested_list = between_turns os (turn_tested os 1 lo sells) (turn_tested os 0 end buys)

  pub tested_left : (ref : ℕ) → left_by os ref ≡ left_from os ref lo end
  tested_left ref = left_from_lem os ref lo end (turn_tested os 1 lo sells) (turn_tested os 0 end buys)
