-- The line that has not ended, in its array of 80 bytes: a byte more after it, if there is room. Assumes nothing.
use Prim.Native.Nat.{ℕ, ◌+◌, ◌≤◌, ◌<◌}
use mathlib.Core.Path.{◌≡◌, sym, ap, ◌∙◌}
use mathlib.Core.List.{List, [], ◌∷◌, ◌++◌}
use native.Mathlib.Numerals.{add-one}
use native.Mathlib.Omega.{arith}
use lib.ListN.{length, take, set, length-append, length-take}
use lib.Seq.{take_all, take_at, take-suc-set, length-take-le}
use Rattle.std.specs.Prelude.{min}
use Rattle.std.proofs.lemmas.List.{take_min}
use Rattle.convert.specs.Chunkwise.{remembered}

module _ (bytes : List ℕ) (n : ℕ) (long : length bytes ≡ 80) where
  -- all that it holds is remembered
  pub all_remembered : take n bytes ≡ remembered (take n bytes)
  all_remembered = sym (take_all 80 (take n bytes) (omega (arith, length-take n bytes)))

  -- a count above 80 keeps all of them
  pub all_kept : take (min n 80) bytes ≡ take n bytes
  all_kept = ap (λ (k : ℕ). take (min n k) bytes) (sym long) ∙ take_min n bytes

  module _ (b : ℕ) where
    pub with_full : 80 ≤ n → take n bytes ≡ remembered (take n bytes ++ (b ∷ []))
    with_full h =
        let e : take n bytes ≡ bytes = take_all n bytes (omega arith) in
        rw e (sym (take_at bytes (b ∷ []) 80 long))

    pub with_room : n < 80 → take (n + 1) (set bytes n b) ≡ remembered (take n bytes ++ (b ∷ []))
    with_room h =
        let e : take (n + 1) (set bytes n b) ≡ take n bytes ++ (b ∷ []) = rw add-one (take-suc-set bytes n b (omega arith)) in
        let l : length (take n bytes) ≡ n = length-take-le n bytes (omega arith) in
        e ∙ sym (take_all 80 (take n bytes ++ (b ∷ [])) (rw length-append (omega arith)))
