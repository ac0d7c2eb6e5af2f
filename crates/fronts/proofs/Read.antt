-- Of a file that is read every block is good. Assumes nothing.
use Prim.Native.Nat.{ℕ, zero, suc, ◌≤◌}
use mathlib.Core.Path.{◌≡◌, refl, ap}
use mathlib.Core.Bool.{Bool, true, false, cond}
use mathlib.Core.List.{List}
use native.Mathlib.Omega.{arith}
use lib.Dec.{eqb}
use lib.ListN.{take, drop}
use borrow.Author.Tests.{eq-eqb, eqb-true}
use Rattle.model.specs.declared.Event.{Event}
use Rattle.model.specs.Refusals.{first_of}
use Rattle.file_blocks.specs.Blocks.{block_rules}
use Rattle.day_files.specs.Files.{Reading, whole_blocks, read_file, read_rules}
use Rattle.day_files.proofs.Changed.{read_means}
use Rattle.day_files.proofs.Unique.{Passing, all_passing}
use Rattle.fronts.specs.Good.{good_from, good_blocks}

pub good_most : (whole blocks place : ℕ) (rest : List ℕ) → good_from whole blocks place rest ≤ blocks
unfolding good_from
good_most whole zero place rest = omega arith
good_most whole (suc blocks) place rest =
    go (eqb (first_of (block_rules whole place (take 512 rest))) 0) (good_most whole blocks (suc place) (drop 512 rest))
  where
    go : (t : Bool) → good_from whole blocks (suc place) (drop 512 rest) ≤ blocks → cond t (suc (good_from whole blocks (suc place) (drop 512 rest))) 0 ≤ suc blocks
    go true h = omega arith
    go false h = omega arith

pub good_passing : (whole blocks place : ℕ) (rest : List ℕ) → Passing whole (good_from whole blocks place rest) place rest
unfolding good_from
good_passing whole zero place rest = tt
good_passing whole (suc blocks) place rest =
    go (eqb (first_of (block_rules whole place (take 512 rest))) 0) refl (good_passing whole blocks (suc place) (drop 512 rest))
  where
    go :
        (t : Bool)
        → eqb (first_of (block_rules whole place (take 512 rest))) 0 ≡ t
        → Passing whole (good_from whole blocks (suc place) (drop 512 rest)) (suc place) (drop 512 rest)
        → Passing whole (cond t (suc (good_from whole blocks (suc place) (drop 512 rest))) 0) place rest
    go true e h = (eqb-true _ 0 e, h)
    go false e h = tt

pub good_all : (whole blocks place : ℕ) (rest : List ℕ) → Passing whole blocks place rest → good_from whole blocks place rest ≡ blocks
unfolding good_from
good_all whole zero place rest p = refl
good_all whole (suc blocks) place rest p =
    rw (eq-eqb _ 0 p.0) (ap suc (good_all whole blocks (suc place) (drop 512 rest) p.1))

pub read_good : (file : List ℕ) (es : List Event) → read_file file ≡ Reading.Read es → good_blocks file ≡ whole_blocks file
unfolding good_blocks read_rules
read_good file es e =
    let n : ℕ = whole_blocks file in good_all n n 1 file (all_passing n n 1 file (read_means file es e).0).0
