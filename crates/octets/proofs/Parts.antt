-- Records in a row: how long they are, one row after another, and each read off the front again. Assumes nothing.
use Prim.Native.Nat.{ℕ, zero, suc, ◌+◌, ◌*◌, ◌≤◌}
use mathlib.Core.Path.{◌≡◌, refl, sym, ap, ◌∙◌}
use mathlib.Core.Bool.{Bool, true}
use mathlib.Core.List.{List, [], ◌∷◌, ◌++◌, map, append_assoc}
use native.Mathlib.Omega.{arith}
use native.Mathlib.Nat.{mul-zero, mul-suc, add_comm}
use lib.ListN.{length, drop, length-append}
use lib.Seq.{drop_at, drop-append-add}
use Rattle.model.specs.Lists.{all}
use Rattle.model.proofs.Bools.{and_left, and_right}
use Rattle.octets.specs.Numbers.{parts, flat}

pub length_flat :
    {A : Type 0} (f : A → List ℕ) (size : ℕ) → ((x : A) → length (f x) ≡ size) → (xs : List A) → length (flat f xs) ≡ size * length xs
unfolding flat
length_flat f size h [] = sym (mul-zero size)
length_flat f size h (x ∷ xs) = rw (length-append, h x, length_flat f size h xs, mul-suc) (add_comm size (size * length xs))

pub flat_append : {A : Type 0} (f : A → List ℕ) (xs ys : List A) → flat f (xs ++ ys) ≡ flat f xs ++ flat f ys
unfolding flat
flat_append f [] ys = refl
flat_append f (x ∷ xs) ys = rw (flat_append f xs ys) (sym (append_assoc (f x) (flat f xs) (flat f ys)))

pub flat_drop :
    {A : Type 0} (f : A → List ℕ) (size : ℕ)
    → ((x : A) → length (f x) ≡ size)
    → (k : ℕ) (xs : List A)
    → k ≤ length xs
    → flat f (drop k xs) ≡ drop (size * k) (flat f xs)
unfolding flat
flat_drop f size h zero xs l = rw mul-zero
flat_drop f size h (suc k) [] l = absurd (omega arith)
flat_drop f size h (suc k) (x ∷ xs) l =
    let m : size * suc k ≡ length (f x) + size * k = mul-suc size k ∙ add_comm (size * k) size ∙ rw (h x) in
    rw (m, drop-append-add) (flat_drop f size h k xs (omega arith))

pub length_parts : {A : Type 0} (f : List ℕ → A) (size n : ℕ) (b : List ℕ) → length (parts f size n b) ≡ n
unfolding parts
length_parts f size zero b = refl
length_parts f size (suc n) b = ap suc (length_parts f size n (drop size b))

-- what f reads off each that passes a test
module _ {A : Type 0} (g : A → List ℕ) (size : ℕ) (long : (x : A) → length (g x) ≡ size) where
  pub parts_flat :
      {B : Type 0} (p : A → Bool) (f : List ℕ → B) (h : A → B)
      → ((x : A) (rest : List ℕ) → p x ≡ true → f (g x ++ rest) ≡ h x)
      → (xs : List A) (rest : List ℕ)
      → all p xs ≡ true
      → parts f size (length xs) (flat g xs ++ rest) ≡ map h xs
  unfolding parts flat all
  parts_flat p f h same [] rest e = refl
  parts_flat p f h same (x ∷ xs) rest e =
      let front : f (g x ++ (flat g xs ++ rest)) ≡ h x = same x (flat g xs ++ rest) (and_left (p x) _ e) in
      rw (
        append_assoc (g x) (flat g xs) rest,
        front,
        drop_at (g x) (flat g xs ++ rest) size (long x),
        parts_flat p f h same xs rest (and_right (p x) _ e),
      )
