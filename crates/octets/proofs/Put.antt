-- A number's bytes written one by one, and bytes copied into others. Assumes nothing.
use Prim.Native.Nat.{ℕ, suc, ◌+◌, ◌-◌, ◌/◌, ◌%◌, ◌≤◌, ◌<◌}
use mathlib.Core.Path.{◌≡◌, ◌∙◌}
use mathlib.Core.List.{List, append_assoc, append-nil}
use native.Mathlib.Omega.{arith}
use native.Mathlib.Nat.{sub-zero}
use native.Mathlib.Numerals.{add-one}
use borrow.Rule.Slice.PartMut.{put_mid}
use lib.ListN.{length, set, replicate, length-set, length-replicate, drop_of_length-le}
use lib.Seq.{sets, sets-eq, drop-drop}
use Rattle.octets.specs.Numbers.{digits}
use Rattle.octets.proofs.Digits.{length_digits}

-- when i bytes of x are written, those of `rest` are still to come
pub record Writing (n x : ℕ) (bytes : List ℕ) (rest i : ℕ) : Type 0 where
  pub long : length bytes ≡ n
  pub same : sets bytes i (digits (n - i) rest) ≡ digits n x

module _ (n x : ℕ) where
  pub writing_start : Writing n x (replicate n 0) x 0
  writing_start =
      let long : length (digits n x) ≡ n = length_digits n x in
      let zeros : length (replicate {A = ℕ} n 0) ≡ n = length-replicate {A = ℕ} n 0 in
      record {
        long = zeros;
        same =
            rw sub-zero
            (sets-eq (digits n x) (replicate n 0) 0 (omega arith)
            ∙ rw (drop_of_length-le (replicate {A = ℕ} n 0) {i = 0 + length (digits n x)} (omega arith)) (append-nil (digits n x)));
      }

  pub writing_next :
      {bytes : List ℕ} {rest i : ℕ}
      → Writing n x bytes rest i
      → i < n
      → Writing n x (set bytes i (rest % 256)) (rest / 256) (i + 1)
  unfolding digits
  writing_next {bytes} {rest} {i} w h =
      let m : n - i ≡ suc (n - suc i) = omega arith in
      record {
        long = length-set bytes i (rest % 256) ∙ w.long;
        same = rw add-one (rw m at w.same);
      }

  pub writing_end : {bytes : List ℕ} {rest i : ℕ} → Writing n x bytes rest i → n ≤ i → bytes ≡ digits n x
  unfolding digits
  writing_end {bytes} {rest} {i} w h = let none : n - i ≡ 0 = omega arith in rw none at w.same

-- bytes that a call has copied to a part of others
pub copied :
    (out bytes : List ℕ) (at : ℕ) {part : List ℕ} {k : ℕ}
    → at + length bytes ≤ length out
    → k ≡ length bytes
    → part ≡ bytes
    → put_mid at k out part ≡ sets out at bytes
copied out bytes at h e f =
    rw (e, f, sets-eq bytes out at h, append_assoc, drop-drop)
