-- What the functions that read a record look at, byte by byte: numbers, zeros, the record's tests. Assumes nothing.
use Prim.Native.Nat.{ℕ, suc, ◌+◌, ◌-◌, ◌*◌, ◌≤◌, ◌<◌}
use mathlib.Core.Path.{◌≡◌, refl, sym, ap, ap₂, ◌∙◌}
use mathlib.Core.Bool.{◌&&◌, ◌||◌}
use mathlib.Core.List.{List, [], ◌∷◌}
use native.Mathlib.Omega.{arith}
use lib.ListN.{length, get_or, take, drop, length-drop}
use lib.Seq.{drop-cons, get_or-take, get_or-drop, length-take-le, drop-drop, take-add, take-take, drop_at}
use lib.Dec.{leb, eqb}
use borrow.Author.Tests.{ne_eqb}
use Rattle.std.specs.Int.{w32, from_le_bytes}
use Rattle.std.specs.List.{list_all}
use Rattle.model.specs.Lists.{all}
use Rattle.model.specs.declared.Event.TheVariants.{Open, Clock, Order, Cancel}
use Rattle.octets.specs.Numbers.{worth}
use Rattle.file_records.specs.Records.{four_at, used, all_zero, is_record, event_in}

-- ---- numbers

pub drop_take : (n m : ℕ) (l : List ℕ) → n ≤ length l → drop n (take (n + m) l) ≡ take m (drop n l)
drop_take n m l h = rw (take-add n m l) (drop_at (take n l) (take m (drop n l)) n (length-take-le n l h))

-- a part that begins at a place
pub front : (b : List ℕ) (at n : ℕ) → at < length b → take (suc n) (drop at b) ≡ get_or b at 0 ∷ take n (drop (suc at) b)
front b at n h = rw (drop-cons b at 0 h)

pub four_worth :
    (b : List ℕ) (at : ℕ)
    → at + 4 ≤ length b
    → from_le_bytes w32 (get_or b at 0 ∷ get_or b (at + 1) 0 ∷ get_or b (at + 2) 0 ∷ get_or b (at + 3) 0 ∷ []) ≡ four_at b at
unfolding worth
four_worth b at h =
    let one : at + 1 ≡ suc at = omega arith in
    let two : at + 2 ≡ suc (suc at) = omega arith in
    let three : at + 3 ≡ suc (suc (suc at)) = omega arith in
    rw (
      one,
      two,
      three,
      front b at 3 (omega arith),
      front b (suc at) 2 (omega arith),
      front b (suc (suc at)) 1 (omega arith),
      front b (suc (suc (suc at))) 0 (omega arith),
    )
    (omega arith)

-- ---- zeros

module _ (b : List ℕ) (end : ℕ) (h : end ≤ length b) where
  pub next : (i : ℕ) → i < end → drop i (take end b) ≡ get_or b i 0 ∷ drop (suc i) (take end b)
  next i l =
      let long : length (take end b) ≡ end = length-take-le end b h in
      drop-cons (take end b) i 0 (omega arith) ∙ rw (get_or-take end b i 0 l)

pub zeros_all : (xs : List ℕ) → list_all (λ x. eqb x 0) xs ≡ all_zero xs
unfolding all_zero all
zeros_all [] = refl
zeros_all (x ∷ xs) = ap (λ t. eqb x 0 && t) (zeros_all xs)

-- ---- a record

module _ (b : List ℕ) (at : ℕ) where
  pub byte_within : (k : ℕ) → k < 20 → get_or (take 20 (drop at b)) k 0 ≡ get_or b (at + k) 0
  byte_within k l = get_or-take 20 (drop at b) k 0 l ∙ get_or-drop at b k 0

  pub first_within : get_or (take 20 (drop at b)) 0 0 ≡ get_or b at 0
  first_within = let e : at + 0 ≡ at = omega arith in byte_within 0 (omega arith) ∙ rw e

  pub four_within : (k : ℕ) → k + 4 ≤ 20 → at + 20 ≤ length b → four_at (take 20 (drop at b)) k ≡ four_at b (at + k)
  four_within k l h =
      let all : k + (20 - k) ≡ 20 = omega arith in
      let few : k ≤ length (drop at b) = rw length-drop (omega arith) in
      let part : drop k (take 20 (drop at b)) ≡ take (20 - k) (drop k (drop at b)) =
      rw all at (drop_take k (20 - k) (drop at b) few) in
      rw (part, take-take 4 (20 - k) (drop k (drop at b)) (omega arith), drop-drop k at b)

-- the record at a place, byte by byte
pub record_says :
    (b : List ℕ) (at : ℕ)
    → at + 20 ≤ length b
    → is_record (take 20 (drop at b))
    ≡ (leb 1 (get_or b at 0)
    && leb (get_or b at 0) 4
    && (eqb (get_or b at 0) 3 || (eqb (get_or b (at + 1) 0) 0 && eqb (get_or b (at + 2) 0) 0))
    && eqb (get_or b (at + 3) 0) 0
    && all_zero (drop (at + 4 + 4 * used (get_or b at 0)) (take (at + 20) b)))
unfolding is_record
record_says b at h =
    let rest : (n : ℕ) → drop (4 + n) (take 20 (drop at b)) ≡ drop (at + 4 + n) (take (at + 20) b) =
    λ n.
    let e : at + 4 + n ≡ at + (4 + n) = omega arith in
    rw (← drop_take at 20 b (omega arith), drop-drop (4 + n) at (take (at + 20) b), ← e) in
    rw (first_within b at, byte_within b at 1 (omega arith), byte_within b at 2 (omega arith), byte_within b at 3 (omega arith), rest (4 * used (get_or b at 0)))

-- ---- the event that a record tells

module _ (b : List ℕ) (at : ℕ) (h : at + 20 ≤ length b) {first second : ℕ}
    (f : first ≡ four_at b (at + 4))
    (s : second ≡ four_at b (at + 8)) where
  first_told : first ≡ four_at (take 20 (drop at b)) 4
  first_told = f ∙ sym (four_within b at 4 (omega arith) h)

  second_told : second ≡ four_at (take 20 (drop at b)) 8
  second_told = s ∙ sym (four_within b at 8 (omega arith) h)

  pub tells_open : get_or b at 0 ≡ 1 → Open first second ≡ event_in (take 20 (drop at b))
  unfolding event_in
  tells_open e = rw (first_within b at, e) (ap₂ Open first_told second_told)

  pub tells_clock : get_or b at 0 ≡ 2 → Clock first ≡ event_in (take 20 (drop at b))
  unfolding event_in
  tells_clock e = rw (first_within b at, e) (ap Clock first_told)

  pub tells_order :
      {side kind price balance : ℕ}
      → get_or b at 0 ≡ 3
      → side ≡ get_or b (at + 1) 0
      → kind ≡ get_or b (at + 2) 0
      → price ≡ four_at b (at + 12)
      → balance ≡ four_at b (at + 16)
      → Order (record { side = side; kind = kind; account = first; quantity = second; price = price; balance = balance })
      ≡ event_in (take 20 (drop at b))
  unfolding event_in
  tells_order e x y z w =
      rw (
        first_within b at,
        e,
        byte_within b at 1 (omega arith),
        byte_within b at 2 (omega arith),
        four_within b at 12 (omega arith) h,
        four_within b at 16 (omega arith) h,
        ← first_told,
        ← second_told,
        x,
        y,
        z,
        w,
      )

  pub tells_cancel :
      (get_or b at 0 ≡ 1 → ⊥)
      → (get_or b at 0 ≡ 2 → ⊥)
      → (get_or b at 0 ≡ 3 → ⊥)
      → Cancel first second ≡ event_in (take 20 (drop at b))
  unfolding event_in
  tells_cancel one two three =
      rw (first_within b at, ne_eqb _ 1 one, ne_eqb _ 2 two, ne_eqb _ 3 three) (ap₂ Cancel first_told second_told)
