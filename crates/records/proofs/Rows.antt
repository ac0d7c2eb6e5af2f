-- Runs of records in a lent list: the laws of a run, over what a record's bytes are. Assumes nothing.
use Prim.Native.Nat.{ℕ, ◌+◌, ◌*◌, ◌≤◌, ◌<◌}
use mathlib.Core.Path.{◌≡◌, refl, ap, ◌∙◌}
use mathlib.Core.List.{List}
use native.Mathlib.Omega.{arith}
use native.Mathlib.Nat.{zero-add}
use lib.ListN.{length, get_or, drop, set, length-set}
use lib.Seq.{sets}
use Rattle.octets.specs.Numbers.{parts, flat}
use Rattle.records.proofs.Runs.{
  Loading,
  loading_next,
  loading_end,
  Storing,
  storing_next,
  storing_end,
}

module _ {A : Type 0} (f : List ℕ → A) (size : ℕ) (b : List ℕ) (rows₀ : List A) where
  pub record Filling (rows : List A) (i : ℕ) : Type 0 where
    pub long : length rows ≡ length rows₀
    pub done : i ≤ length rows₀
    pub run : Loading f size b 0 rows₀ rows i

  pub filling_next :
      {rows rows' : List A} {i : ℕ} {x : A}
      → Filling rows i
      → i < length rows
      → x ≡ f (drop (size * i) b)
      → rows' ≡ set rows i x
      → Filling rows' (i + 1)
  filling_next {rows} {rows'} {i} {x} l h e w =
      let v : x ≡ f (drop (0 + size * i) b) = rw zero-add e in
      record {
        long = ap length w ∙ length-set rows i x ∙ l.long;
        done = omega (arith, l.long);
        run = rw w (loading_next f size b 0 rows₀ l.run h v);
      }

  pub filling_end : {rows : List A} {i : ℕ} → Filling rows i → length rows ≤ i → rows ≡ parts f size (length rows₀) b
  filling_end {rows} {i} l h = loading_end f size b 0 rows₀ l.run h

module _ {A : Type 0} (f : A → List ℕ) (size : ℕ) (rows : List A) (b₀ : List ℕ) where
  pub record Emptying (b : List ℕ) (i : ℕ) : Type 0 where
    pub done : i ≤ length rows
    pub long : length b ≡ length b₀
    pub run : Storing f size rows b₀ 0 b i

  pub emptying_next :
      {b b' : List ℕ} {i : ℕ} {x : A} (none : A)
      → Emptying b i
      → i < length rows
      → x ≡ get_or rows i none
      → length (f x) ≡ size
      → b' ≡ sets b (size * i) (f x)
      → Emptying b' (i + 1)
  emptying_next {b} {b'} {i} {x} none s h e n w =
      let n' : length (f (get_or rows i none)) ≡ size = rw e at n in
      let w' : b' ≡ sets b (0 + size * i) (f (get_or rows i none)) = rw zero-add (rw e at w) in
      let t = storing_next f size rows b₀ 0 none s.run h n' w' in
      record { done = omega arith; long = t.long; run = t }

  pub emptying_end : {b : List ℕ} {i : ℕ} → Emptying b i → length rows ≤ i → b ≡ sets b₀ 0 (flat f rows)
  emptying_end {b} {i} s h = storing_end f size rows b₀ 0 s.run h
