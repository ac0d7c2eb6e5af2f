-- A read that brought bytes: they stand after what was kept, and with that they are one chunk. Assumes nothing.
use Rattle.std.proofs.Common.{◌≡◌, ℕ, ◌+◌, ◌-◌, ◌≤◌, List, ◌++◌, arith, length, take, drop, sym, ap, subst, ◌∙◌, drop_at, length-take-le}
use Rattle.std.proofs.lemmas.List.{take-append-drop, take-append-le}
use Rattle.std.specs.List.{between}
use borrow.Rule.Slice.PartMut.{put_mid, post_of}
use lib.Seq.{take-take}
use Rattle.streams.specs.declared.Input.{Input}
use Rattle.streams.specs.declared.Input.TheVariants.{Bytes}
use Rattle.streams.specs.Streams.{Filled}

pub filled_with :
    {r : Input} {n : ℕ} (kept : ℕ) (before after : List ℕ)
    → r ≡ Bytes n
    → Filled kept before after r
    → (kept ≤ n) × (n ≤ length after) × (take kept after ≡ take kept before)
filled_with kept before after e f = subst (Filled kept before after) e f

-- what was read
abbrev pub read : ℕ → ℕ → List ℕ → List ℕ
read kept n after = drop kept (take n after)

pub read_on_lem :
    (kept n : ℕ) (before after : List ℕ)
    → (kept ≤ n) × (n ≤ length after) × (take kept after ≡ take kept before)
    → take n after ≡ take kept before ++ read kept n after
read_on_lem kept n before after f =
    sym (take-append-drop kept (take n after))
    ∙ ap (λ (l : List ℕ). l ++ read kept n after) (take-take kept n after f.0 ∙ f.2)

-- n bytes that were read into the part from `kept` on, as the whole buffer has them then
pub brought :
    (kept room n : ℕ) (before part : List ℕ)
    → kept ≤ length before
    → n ≤ length part
    → between kept (kept + n) (put_mid kept room before part) ≡ take n part
brought kept room n before part within fits =
    let same : (kept + n) - kept ≡ n = omega arith in
    let after = post_of kept room before in
    ap (take ((kept + n) - kept)) (drop_at (take kept before) (part ++ after) kept (length-take-le kept before within))
    ∙ ap (λ m. take m (part ++ after)) same
    ∙ take-append-le n part after fits
