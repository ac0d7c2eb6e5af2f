-- What the answer of reading a block says of the block. Assumes nothing.
use Rattle.std.proofs.Common.{Ok, Err}
use Prim.Native.Nat.{ℕ}
use mathlib.Core.Path.{◌≡◌, refl, sym, ◌∙◌}
use mathlib.Core.Bool.{Bool, true, false, cond}
use mathlib.Core.List.{List}
use native.Mathlib.Omega.{arith}
use lib.ListN.{length}
use lib.Dec.{eqb}
use borrow.Author.Tests.{eqb-true, eqb-false, eq-eqb}
use Rattle.model.specs.Refusals.{first_of}
use Rattle.file_blocks.specs.Blocks.{records_in, block_rules, read_block}

-- a block with records passes its tests, and has so many
pub says_records :
    (whole place n : ℕ) (b : List ℕ)
    → Ok n ≡ read_block whole place b
    → (first_of (block_rules whole place b) ≡ 0) × (n ≡ records_in b)
unfolding read_block
says_records whole place n b e = go (eqb (length b) 512) (eqb (first_of (block_rules whole place b)) 0) refl e
  where
    go :
        (s t : Bool)
        → eqb (first_of (block_rules whole place b)) 0 ≡ t
        → Ok n
        ≡ cond s (cond t (Ok (records_in b)) (Err (first_of (block_rules whole place b)))) (Err 26)
        → (first_of (block_rules whole place b) ≡ 0) × (n ≡ records_in b)
    go true true z f = (eqb-true _ 0 z, cc)
    go true false z f = let x : ◌≡◌ {A = ℕ} 0 1 = cc in absurd (omega arith)
    go false t z f = let x : ◌≡◌ {A = ℕ} 0 1 = cc in absurd (omega arith)

-- a refused block of 512 bytes has that refusal first
pub says_refused :
    (whole place n : ℕ) (b : List ℕ)
    → length b ≡ 512
    → Err n ≡ read_block whole place b
    → (n ≡ first_of (block_rules whole place b)) × (n ≡ 0 → ⊥)
unfolding read_block
says_refused whole place n b long e = go (eqb (first_of (block_rules whole place b)) 0) refl (rw (eq-eqb (length b) 512 long) at e)
  where
    go :
        (t : Bool)
        → eqb (first_of (block_rules whole place b)) 0 ≡ t
        → Err n
        ≡ cond t (Ok (records_in b)) (Err (first_of (block_rules whole place b)))
        → (n ≡ first_of (block_rules whole place b)) × (n ≡ 0 → ⊥)
    go true z f = let x : ◌≡◌ {A = ℕ} 0 1 = cc in absurd (omega arith)
    go false z f =
        let same : n ≡ first_of (block_rules whole place b) = cc in
        (same, λ (y : n ≡ 0). eqb-false _ 0 z (sym same ∙ y))
