-- The two turning points, the search for one, and the qualifying prices between them.
use Prim.Native.Nat.{ℕ, zero, suc, ◌+◌, ◌-◌, ◌≤◌, ◌<◌}
use mathlib.Core.Path.{◌≡◌, refl, sym, ◌∙◌}
use mathlib.Core.Bool.{Bool, true, false}
use mathlib.Core.List.{List}
use native.Mathlib.Nat.{le_refl, le_trans}
use native.Mathlib.Decide.{dec_lt, ℕ_discrete}
use native.Mathlib.Omega.{arith}
use borrow.Author.Tests.{leb-true, le-leb, ne_eqb, not-false}
use lib.Dec.{leb}
use Rattle.model.specs.Words.{Price, Qualifies}
use Rattle.model.specs.declared.Order.{Order}
use Rattle.model.specs.Lists.{keep, from}
use Rattle.model.specs.Auction.{prices, demand, supply, qualifies, qualifying}
use Rattle.auction.specs.Spans.{covered, turned, turn_of}
use Rattle.model.proofs.Bools.{not_both, not_true_false, not_false_true, and_left, and_right, and_both}
use Rattle.auction.proofs.Runs.{keep_run, run_at}
use Rattle.auction.proofs.Conditions.{SellsCover, BuysCover, sells_cover_up, buys_cover_down, qualifies_clears, clears_qualifies, test_told, told_test}

-- ---- the test
covered_yes : (a b : ℕ) → 1 ≤ a → b ≤ a → covered a b ≡ true
covered_yes a b h k = and_both (le-leb 1 a h) (le-leb b a k)

covered_some : (a b : ℕ) → covered a b ≡ true → 1 ≤ a
covered_some a b e = leb-true 1 a (and_left (leb 1 a) (leb b a) e)

covered_all : (a b : ℕ) → covered a b ≡ true → b ≤ a
covered_all a b e = leb-true b a (and_right (leb 1 a) (leb b a) e)

-- ---- each side
module _ (os : List Order) (p : ℕ) where
  pub sells_turned : turned os 1 p ≡ true → SellsCover os p
  unfolding turned
  sells_turned e =
      record {
        some = covered_some (supply os p) (demand os (p + 1)) e;
        cover = covered_all (supply os p) (demand os (p + 1)) e;
      }

  pub turned_sells : SellsCover os p → turned os 1 p ≡ true
  unfolding turned
  turned_sells s = covered_yes (supply os p) (demand os (p + 1)) s.some s.cover

  pub buys_unturned : turned os 0 p ≡ false → BuysCover os p
  unfolding turned
  buys_unturned e =
      let t = not-false (covered (demand os p) (supply os (p - 1))) e in
      record {
        some = covered_some (demand os p) (supply os (p - 1)) t;
        cover = covered_all (demand os p) (supply os (p - 1)) t;
      }

  pub unturned_buys : BuysCover os p → turned os 0 p ≡ false
  unfolding turned
  unturned_buys s = rw (covered_yes (demand os p) (supply os (p - 1)) s.some s.cover)

  -- any other side counts as 1
  turned_else : (side : ℕ) → (side ≡ 0 → ⊥) → turned os side p ≡ turned os 1 p
  unfolding turned
  turned_else side h = rw (ne_eqb side 0 h)

  -- a price qualifies where the sells have turned and the buys have not
  pub turned_qualifies : Price p → turned os 1 p ≡ true → turned os 0 p ≡ false → Qualifies os p
  turned_qualifies k s b = clears_qualifies os (record { price = k; sells = sells_turned s; buys = buys_unturned b })

  pub qualifies_sells : Qualifies os p → turned os 1 p ≡ true
  qualifies_sells k = turned_sells (qualifies_clears os k).sells

  pub qualifies_buys : Qualifies os p → turned os 0 p ≡ false
  qualifies_buys k = unturned_buys (qualifies_clears os k).buys

-- once turned, a side stays so as the price rises
pub turned_up : (os : List Order) (side : ℕ) {p q : ℕ} → p ≤ q → turned os side p ≡ true → turned os side q ≡ true
turned_up os side {p} {q} h e = elim (ℕ_discrete side 0) [
  | yes z ↦ rw z (not_false_true (λ f. not_both (rw z at e) (unturned_buys os p (buys_cover_down os h (buys_unturned os q f)))))
  | no z ↦ turned_else os q side z ∙ turned_sells os q (sells_cover_up os h (sells_turned os p (sym (turned_else os p side z) ∙ e)))
]

pub unturned_down : (os : List Order) (side : ℕ) {p q : ℕ} → p ≤ q → turned os side q ≡ false → turned os side p ≡ false
unturned_down os side h e = not_true_false (λ t. not_both (turned_up os side h t) e)

-- ---- a search for the point: it lies from lo to hi
pub record Bracket (os : List Order) (side lo hi : ℕ) : Type 0 where
  pub from_1 : 1 ≤ lo
  pub ordered : lo ≤ hi
  pub to_1000000 : hi ≤ 1_000_000
  pub before : (p : ℕ) → 1 ≤ p → p < lo → turned os side p ≡ false
  pub after : (p : ℕ) → hi ≤ p → p ≤ 999_999 → turned os side p ≡ true

-- r is where a side turns
abbrev pub Turns : List Order → ℕ → ℕ → Type 0
Turns os side r = Bracket os side r r

module _ (os : List Order) (side : ℕ) where
  bracket_start : Bracket os side 1 1_000_000
  bracket_start =
      record {
        from_1 = omega arith;
        ordered = omega arith;
        to_1000000 = omega arith;
        before = λ p h k. absurd (omega arith);
        after = λ p h k. absurd (omega arith);
      }

  bracket_up :
      {lo hi mid : ℕ}
      → Bracket os side lo hi
      → lo ≤ mid
      → mid < hi
      → turned os side mid ≡ false
      → Bracket os side (mid + 1) hi
  bracket_up b h k e =
      record {
        from_1 = omega arith;
        ordered = omega arith;
        to_1000000 = b.to_1000000;
        before = λ p l l'. unturned_down os side (omega arith) e;
        after = b.after;
      }

  bracket_down :
      {lo hi mid : ℕ}
      → Bracket os side lo hi
      → lo ≤ mid
      → mid < hi
      → turned os side mid ≡ true
      → Bracket os side lo mid
  bracket_down b h k e =
      record {
        from_1 = b.from_1;
        ordered = h;
        to_1000000 = omega arith;
        before = b.before;
        after = λ p l l'. turned_up os side l e;
      }

  bracket_turns : {lo hi : ℕ} → Bracket os side lo hi → hi ≤ lo → Turns os side lo
  bracket_turns b h =
      record {
        from_1 = b.from_1;
        ordered = le_refl _;
        to_1000000 = omega arith;
        before = b.before;
        after = λ p l l'. b.after p (le_trans h l) l';
      }

  -- the first of the prices at which it has turned
  turns_kept : {r : ℕ} → Turns os side r → keep (turned os side) prices ≡ from r (1_000_000 - r)
  unfolding prices
  turns_kept {r} t =
      keep_run (turned os side) 1 999_999 r (1_000_000 - r)
      (record {
        low = t.from_1;
        high = omega (arith, t.to_1000000);
        before = t.before;
        inside = λ p h k. t.after p h (omega arith);
        after = λ p h k. absurd (omega (arith, t.to_1000000));
      })

  pub turns_is : {r : ℕ} → Turns os side r → r ≡ turn_of os side
  unfolding turn_of from
  turns_is {r} t = rw (turns_kept t) (elim (dec_lt r 1_000_000) [
    | yes h ↦ omega (arith, run_at r (1_000_000 - r) 0 1_000_000 (omega arith))
    | no h ↦
        let e : r ≡ 1_000_000 = omega (arith, t.to_1000000) in
        rw e
  ])

-- ---- each side has a turning point
-- a search from lo on, n prices far
search_turn : (os : List Order) (side n lo hi : ℕ) → lo + n ≡ hi → Bracket os side lo hi → (r : ℕ) × Turns os side r
search_turn os side zero lo hi e b = (lo, bracket_turns os side b (omega arith))
search_turn os side (suc n) lo hi e b = go (turned os side lo) refl (search_turn os side n (lo + 1) hi (omega arith))
  where
    go :
        (t : Bool)
        → turned os side lo ≡ t
        → (Bracket os side (lo + 1) hi → (r : ℕ) × Turns os side r)
        → (r : ℕ) × Turns os side r
    go true t more = (lo, bracket_turns os side (bracket_down os side b (le_refl lo) (omega arith) t) (le_refl lo))
    go false t more = more (bracket_up os side b (le_refl lo) (omega arith) t)

pub turn_law : (os : List Order) (side : ℕ) → Turns os side (turn_of os side)
turn_law os side =
    let r = search_turn os side 999_999 1 1_000_000 refl (bracket_start os side) in
    rw (← turns_is os side r.1) r.1

-- ---- the qualifying prices are those from the sells' point up to the buys'
pub between_turns : (os : List Order) {lo end : ℕ} → Turns os 1 lo → Turns os 0 end → qualifying os ≡ from lo (end - lo)
unfolding qualifying prices
between_turns os {lo} {end} s b =
    keep_run (qualifies os) 1 999_999 lo (end - lo)
    (record {
      low = s.from_1;
      high = omega (arith, s.to_1000000, b.to_1000000);
      before = λ p h k. not_true_false (λ t. not_both (qualifies_sells os p (test_told os (price p h (omega (arith, s.to_1000000))) t)) (s.before p h k));
      inside = λ p h k.
          told_test os
          (turned_qualifies os p (price p (omega (arith, s.from_1)) (omega (arith, b.to_1000000))) (s.after p h (omega (arith, b.to_1000000)))
          (b.before p (omega (arith, s.from_1)) (omega arith)));
      after = λ p h k.
          not_true_false
          (λ t. not_both (b.after p (omega arith) (omega arith)) (qualifies_buys os p (test_told os (price p (omega (arith, s.from_1)) (omega arith)) t)));
    })
  where
    price : (p : ℕ) → 1 ≤ p → p ≤ 999_999 → Price p
    price p h k = record { low = h; high = k }
