-- Runs of records: read one after the other into a list, written one after the other into bytes, over the record and its size. Assumes nothing.
use Prim.Native.Nat.{ℕ, suc, ◌+◌, ◌*◌, ◌-◌, ◌≤◌, ◌<◌}
use mathlib.Core.Path.{◌≡◌, refl, sym, ◌∙◌}
use mathlib.Core.List.{List, ◌++◌, append-nil}
use native.Mathlib.Omega.{arith}
use native.Mathlib.Nat.{add-zero, zero-add, add_assoc, mul-suc, mul-zero, sub-zero}
use native.Mathlib.Numerals.{add-one}
use lib.ListN.{length, get_or, take, drop, set, length-set}
use lib.Seq.{sets, sets-eq, length-sets, drop-cons, drop-drop, drop-length, take_all, take-suc-set, append_snoc}
use Rattle.book.proofs.Lists.{sets_more}
use Rattle.octets.specs.Numbers.{parts, flat}
use Rattle.records.specs.Layout.{over}

place_next : (at size i : ℕ) → at + size * (i + 1) ≡ at + size * i + size
place_next at size i = rw (add-one, mul-suc) (sym (add_assoc at (size * i) size))

-- ---- reading

module _ {A : Type 0} (f : List ℕ → A) (size : ℕ) (b : List ℕ) (at : ℕ) where
  -- i records stand in the list, and those that follow would fill it
  pub record Loading (list₀ list : List A) (i : ℕ) : Type 0 where
    pub done : i ≤ length list₀
    pub long : length list ≡ length list₀
    pub same :
        take i list ++ parts f size (length list₀ - i) (drop (at + size * i) b) ≡ parts f size (length list₀) (drop at b)

  pub loading_start : (list : List A) → Loading list list 0
  loading_start list = record { done = omega arith; long = refl; same = rw (mul-zero, add-zero, sub-zero) }

  pub loading_next :
      (list₀ : List A) {list : List A} {i : ℕ} {v : A}
      → Loading list₀ list i
      → i < length list
      → v ≡ f (drop (at + size * i) b)
      → Loading list₀ (set list i v) (i + 1)
  unfolding parts
  loading_next list₀ {list} {i} {v} l h e =
      let m : length list₀ - i ≡ suc (length list₀ - (i + 1)) = omega (arith, l.long) in
      let p : drop (at + size * (i + 1)) b ≡ drop size (drop (at + size * i) b) =
      rw (place_next at size i) (sym (drop-drop size (at + size * i) b)) in
      let s = rw m at l.same in
      record {
        done = omega (arith, l.long);
        long = length-set list i v ∙ l.long;
        same = rw (add-one i, take-suc-set list i v h, append_snoc, ← add-one i, p, e) s;
      }

  pub loading_end :
      (list₀ : List A) {list : List A} {i : ℕ}
      → Loading list₀ list i
      → length list ≤ i
      → list ≡ parts f size (length list₀) (drop at b)
  unfolding parts
  loading_end list₀ {list} {i} l h =
      let z : length list₀ - i ≡ 0 = omega (arith, l.long) in
      let t : take i list ≡ list = take_all i list h in
      rw (z, t, append-nil) at l.same

-- ---- writing

pub sets_on : (l xs ys : List ℕ) (i n : ℕ) → length xs ≡ n → sets (sets l i xs) (i + n) ys ≡ sets l i (xs ++ ys)
sets_on l xs ys i n e = rw (← e) (sets_more l xs ys i)

module _ {A : Type 0} (f : A → List ℕ) (size : ℕ) (xs : List A) (b₀ : List ℕ) (at : ℕ) where
  -- i records are written, and those that follow bring the rest
  pub record Storing (b : List ℕ) (i : ℕ) : Type 0 where
    pub done : i ≤ length xs
    pub long : length b ≡ length b₀
    pub same : sets b (at + size * i) (flat f (drop i xs)) ≡ sets b₀ at (flat f xs)

  pub storing_start : Storing b₀ 0
  storing_start = record { done = omega arith; long = refl; same = rw (mul-zero, add-zero) }

  pub storing_next :
      (d : A) {b b' : List ℕ} {i : ℕ}
      → Storing b i
      → i < length xs
      → length (f (get_or xs i d)) ≡ size
      → b' ≡ sets b (at + size * i) (f (get_or xs i d))
      → Storing b' (i + 1)
  unfolding flat
  storing_next d {b} {b'} {i} s h n e =
      let g : flat f (drop i xs) ≡ f (get_or xs i d) ++ flat f (drop (i + 1) xs) = rw (drop-cons xs i d h, add-one) in
      let m :
      sets (sets b (at + size * i) (f (get_or xs i d))) (at + size * i + size) (flat f (drop (i + 1) xs))
      ≡ sets b (at + size * i) (f (get_or xs i d) ++ flat f (drop (i + 1) xs)) =
      sets_on b (f (get_or xs i d)) (flat f (drop (i + 1) xs)) (at + size * i) size n in
      record {
        done = omega arith;
        long = rw (e, length-sets) s.long;
        same = rw (e, place_next at size i, m, ← g) s.same;
      }

  pub storing_end : {b : List ℕ} {i : ℕ} → Storing b i → length xs ≤ i → b ≡ sets b₀ at (flat f xs)
  unfolding flat
  storing_end {b} {i} s h =
      let e : i ≡ length xs = omega (arith, s.done) in
      rw (e, drop-length) at s.same

-- a run that is stored from the front on
pub sets_over : (new old : List ℕ) → length new ≤ length old → sets old 0 new ≡ over new old
unfolding over
sets_over new old h = sets-eq new old 0 (rw zero-add h) ∙ rw zero-add
