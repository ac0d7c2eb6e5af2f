-- One changed byte is always noticed: in a block with the right check any other value of any byte makes the check wrong. Assumes nothing.
use Prim.Native.Nat.{ℕ, zero, suc, ◌+◌, ◌-◌, ◌*◌, ◌/◌, ◌%◌, ◌≤◌, ◌<◌}
use mathlib.Core.Path.{◌≡◌, refl, sym, ap, ◌∙◌}
use mathlib.Core.Bool.{Bool, true, false, not, ◌||◌}
use mathlib.Core.List.{List, [], ◌∷◌}
use native.Mathlib.Omega.{arith}
use native.Mathlib.Nat.{mul-add, mul-mod_left, mul-div_left, mul-le-mul_left, mul-le-mul_right}
use lib.ListN.{length, get_or, set, take, drop, length-drop}
use lib.Seq.{take-set-le, take-set-lt, drop-set-lt, drop-set-add, get_or-take, get_or-drop, length-take-le}
use lib.Dec.{eqb, ltb}
use borrow.Author.Tests.{eqb-true, eqb-false, ne_eqb, eq-eqb, ltb-true, ltb-false}
use Rattle.model.specs.Lists.{all, from}
use Rattle.model.proofs.Bools.{and_left, and_right}
use Rattle.octets.specs.Numbers.{worth}
use Rattle.file_blocks.specs.Blocks.{weighed, check_of, check_in, right_check}
use Rattle.file_blocks.specs.Changed.{Another}

-- ---- 65,521 is no product of a position and a difference

-- a test that is computed for each of the numbers from n on says it of each
tried : (p : ℕ → Bool) (n k : ℕ) → all p (from n k) ≡ true → (d : ℕ) → n ≤ d → d < n + k → p d ≡ true
unfolding all from
tried p n zero e d l h = absurd (omega arith)
tried p n (suc k) e d l h = go (eqb n d) refl (λ m. tried p (suc n) k (and_right (p n) _ e) d m (omega arith))
  where
    go : (t : Bool) → eqb n d ≡ t → (suc n ≤ d → p d ≡ true) → p d ≡ true
    go true s more = rw (eqb-true n d s) at (and_left (p n) _ e)
    go false s more = let other : n ≡ d → ⊥ = eqb-false n d s in more (omega arith)

-- no divisor up to 255 has a cofactor up to 508
apart : ℕ → Bool
apart d = not (eqb (65_521 % d) 0) || ltb 508 (65_521 / d)

all_apart : all apart (from 1 255) ≡ true
unfolding all from apart
all_apart = refl

no_product :
    (position difference : ℕ) → position ≤ 508 → 1 ≤ difference → difference ≤ 255 → position * difference ≡ 65_521 → ⊥
unfolding apart
no_product position d h l k e =
    let rest : 65_521 % d ≡ 0 = rw e at (mul-mod_left position d) in
    let whole : 65_521 / d ≡ position = rw e at (mul-div_left position l) in
    let test : (not (eqb (65_521 % d) 0) || ltb 508 (65_521 / d)) ≡ true = tried apart 1 255 all_apart d l (omega arith) in
    let big : ltb 508 position ≡ true = rw (eq-eqb (65_521 % d) 0 rest, whole) at test in
    omega (arith, ltb-true 508 position big)

-- ---- the sum

-- one byte more or less at position weighs the difference times it
weighed_set :
    (p : ℕ) (b : List ℕ) (i v : ℕ)
    → i < length b
    → weighed p (set b i v) + (p + i) * get_or b i 0 ≡ weighed p b + (p + i) * v
unfolding weighed
weighed_set p [] i v h = absurd (omega arith)
weighed_set p (x ∷ b) zero v h = let e : p + 0 ≡ p = omega arith in rw e (omega arith)
weighed_set p (x ∷ b) (suc i) v h =
    let e : p + suc i ≡ suc p + i = omega arith in
    let ih : weighed (suc p) (set b i v) + (suc p + i) * get_or b i 0 ≡ weighed (suc p) b + (suc p + i) * v =
    weighed_set (suc p) b i v (omega arith) in
    rw e (omega arith)

-- two sums that differ by a product have different remainders
apart_sums :
    (s t position x v : ℕ)
    → 1 ≤ position
    → position ≤ 508
    → x < 256
    → v < x
    → t + position * x ≡ s + position * v
    → t % 65_521 ≡ s % 65_521
    → ⊥
apart_sums s t position x v l h k less e same =
    let d : ℕ = x - v in
    let split : position * x ≡ position * v + position * d =
    let w : x ≡ v + d = omega arith in ap (λ (n : ℕ). position * n) w ∙ mul-add position v d in
    let least : position * 1 ≤ position * d = mul-le-mul_left position (omega arith) in
    let most : position * d ≤ 508 * d = mul-le-mul_right d h in
    let sum : t + position * d ≡ s = omega arith in
    let product : position * d ≡ 65_521 = omega arith in
    no_product position d h (omega arith) (omega arith) product

-- ---- one block

module _ (b : List ℕ) (i v : ℕ) (a : Another b i v) (long : length b ≡ 512) where
  -- in front of the check the sum changes, and the check stays
  sum_changed : i < 508 → check_of (set b i v) ≡ check_of b → ⊥
  unfolding check_of
  sum_changed h e = go (ltb v (get_or b i 0)) refl
    where
      shorter : length (take 508 b) ≡ 508
      shorter = length-take-le 508 b (omega arith)

      sums :
          weighed 1 (take 508 (set b i v)) + (1 + i) * get_or b i 0 ≡ weighed 1 (take 508 b) + (1 + i) * v
      sums =
          rw (take-set-lt 508 b i v h)
          (rw (get_or-take 508 b i 0 h) at (weighed_set 1 (take 508 b) i v (omega (arith, shorter))))

      go : (t : Bool) → ltb v (get_or b i 0) ≡ t → ⊥
      go true s =
          apart_sums (weighed 1 (take 508 b)) (weighed 1 (take 508 (set b i v))) (1 + i) (get_or b i 0) v (omega arith) (omega arith)
          a.old (ltb-true _ _ s) sums e
      go false s =
          let more : get_or b i 0 ≤ v = ltb-false _ _ s in
          let other : v ≡ get_or b i 0 → ⊥ = a.other in
          apart_sums (weighed 1 (take 508 (set b i v))) (weighed 1 (take 508 b)) (1 + i) v (get_or b i 0) (omega arith) (omega arith)
          a.new (omega arith) (sym sums) (sym e)

  check_stays : i < 508 → check_in (set b i v) ≡ check_in b
  check_stays h = ap (λ (l : List ℕ). worth (take 4 l)) (drop-set-lt 508 b i v h)

-- what bytes are worth tells each of them
worth_tells : (b : List ℕ) (j v : ℕ) → j < length b → worth (set b j v) ≡ worth b → v ≡ get_or b j 0
unfolding worth
worth_tells [] j v h e = absurd (omega arith)
worth_tells (x ∷ b) zero v h e = omega arith
worth_tells (x ∷ b) (suc j) v h e = worth_tells b j v (omega arith) (omega arith)

module _ (b : List ℕ) (j v : ℕ) (a : Another b (508 + j) v) (long : length b ≡ 512) where
  -- in the check it is the other way round
  sum_stays : check_of (set b (508 + j) v) ≡ check_of b
  unfolding check_of
  sum_stays = ap (λ (l : List ℕ). weighed 1 l % 65_521) (take-set-le 508 b (508 + j) v (omega arith))

  check_changed : check_in (set b (508 + j) v) ≡ check_in b → ⊥
  check_changed e =
      let few : j < 4 = omega (arith, a.inside) in
      let four : length (take 4 (drop 508 b)) ≡ 4 = length-take-le 4 (drop 508 b) (rw length-drop (omega arith)) in
      let same : worth (set (take 4 (drop 508 b)) j v) ≡ worth (take 4 (drop 508 b)) =
      rw (drop-set-add 508 b j v, take-set-lt 4 (drop 508 b) j v few) at e in
      let told : v ≡ get_or (take 4 (drop 508 b)) j 0 = worth_tells _ j v (omega arith) same in
      a.other (rw (get_or-take 4 (drop 508 b) j 0 few, get_or-drop) at told)

pub block_noticed :
    (b : List ℕ) (i v : ℕ) → length b ≡ 512 → Another b i v → right_check b ≡ true → right_check (set b i v) ≡ false
unfolding right_check
block_noticed b i v long a right = go (ltb i 508) refl
  where
    same : check_in b ≡ check_of b
    same = eqb-true _ _ right

    late : (j : ℕ) → i ≡ 508 + j → eqb (check_in (set b i v)) (check_of (set b i v)) ≡ false
    late j e =
        ne_eqb _ _
        (λ (f : check_in (set b i v) ≡ check_of (set b i v)).
        let a' : Another b (508 + j) v = rw e at a in
        let f' : check_in (set b (508 + j) v) ≡ check_of (set b (508 + j) v) = rw e at f in
        check_changed b j v a' long (f' ∙ sum_stays b j v a' long ∙ sym same))

    go : (t : Bool) → ltb i 508 ≡ t → eqb (check_in (set b i v)) (check_of (set b i v)) ≡ false
    go true s =
        let h : i < 508 = ltb-true _ _ s in
        ne_eqb _ _
        (λ (f : check_in (set b i v) ≡ check_of (set b i v)).
        sum_changed b i v a long h (sym f ∙ check_stays b i v a long h ∙ same))
    go false s = let h : 508 ≤ i = ltb-false _ _ s in late (i - 508) (omega arith)
