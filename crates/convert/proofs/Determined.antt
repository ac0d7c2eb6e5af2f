-- No two differing outcomes meet the promise of a chunk. Assumes nothing.
use Prim.Native.Nat.{ℕ}
use mathlib.Core.Path.{◌≡◌, refl, sym, ap, ◌∙◌}
use mathlib.Core.List.{List}
use Rattle.std.specs.Prelude.{Option, Some, None}
use Rattle.convert.specs.declared.Pending.{Pending}
use Rattle.convert.specs.Promises.{text_of, Answers}

pub record Same (out₁ out₂ : List ℕ) (r₁ r₂ : Option ℕ) (line₁ line₂ : Pending) : Type 0 where
  pub result : r₁ ≡ r₂
  pub bytes : out₁ ≡ out₂
  pub line : text_of line₁ ≡ text_of line₂

module _
    {line : Pending} {chunk out out₁ out₂ : List ℕ} {r₁ r₂ : Option ℕ} {line₁ line₂ : Pending}
    (a : Answers line chunk out out₁ r₁ line₁)
    (b : Answers line chunk out out₂ r₂ line₂) where
  pub chunk_determined : Same out₁ out₂ r₁ r₂ line₁ line₂
  chunk_determined = go r₁ r₂ refl refl
    where
      go : (s₁ s₂ : Option ℕ) → r₁ ≡ s₁ → r₂ ≡ s₂ → Same out₁ out₂ r₁ r₂ line₁ line₂
      go (Some n) (Some m) e f =
          let v = a.done n e in
          let w = b.done m f in
          record {
            result = e ∙ ap (λ (k : ℕ). Some k) (v.text.place ∙ sym w.text.place) ∙ sym f;
            bytes = v.text.bytes ∙ sym w.text.bytes;
            line = v.rest ∙ sym w.rest;
          }
      go None None e f =
          let v = a.refused e in
          let w = b.refused f in
          record { result = e ∙ sym f; bytes = v.0 ∙ sym w.0; line = ap text_of (v.1 ∙ sym w.1) }
      go (Some n) None e f = let p = a.fits in let q = b.fits in cc
      go None (Some m) e f = let p = a.fits in let q = b.fits in cc
