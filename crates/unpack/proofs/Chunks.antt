-- Unpacked chunk by chunk, a file is unpacked as a whole, however it is cut into chunks. Assumes nothing.
use Prim.Native.Nat.{ℕ, suc, ◌+◌, ◌*◌}
use mathlib.Core.Path.{◌≡◌, refl, sym, ap, ◌∙◌}
use mathlib.Core.Bool.{Bool, true, false, cond}
use mathlib.Core.List.{List, [], ◌∷◌, ◌++◌, flatten, append_assoc, append-nil}
use native.Mathlib.Omega.{arith}
use native.Mathlib.Nat.{zero-add}
use lib.Dec.{eqb}
use lib.ListN.{drop}
use borrow.Author.Tests.{eqb-true, eqb-false}
use Rattle.day_files.specs.Files.{whole_blocks, read_rules, events_of}
use Rattle.file_scripts.specs.Scripts.{script_of}
use Rattle.fronts.specs.Good.{good_blocks, front_from, followed, look_from}
use Rattle.fronts.proofs.Cutting.{fits, behind, events_front, events_split, front_on, front_off, good_followed}
use Rattle.unpack.specs.Unpacking.{Unpacked, unpacked, given, unpacked_from, unpacked_chunks}
use Rattle.unpack.proofs.Put.{script_append}

same : {s t u v : List ℕ} → s ≡ t → u ≡ v → ◌≡◌ {A = Unpacked} (record { script = s; told = u }) (record { script = t; told = v })
same e f = rw (e, f)

module _ (passed : ℕ) (b more : List ℕ) where
  -- the blocks that are followed are good: the rest goes on behind them
  goes_on :
      (look_from passed b).refusal ≡ 0
      → unpacked_from passed (b ++ more)
      ≡ record {
        script = script_of (events_of (followed b) b) ++ (unpacked_from (passed + followed b) (drop (512 * followed b) b ++ more)).script;
        told = (unpacked_from (passed + followed b) (drop (512 * followed b) b ++ more)).told;
      }
  unfolding unpacked_from given
  goes_on e =
      let f = front_on passed b more e in
      let n : ℕ = followed b in
      let g : ℕ = (front_from (passed + n) (drop (512 * n) b ++ more)).good in
      let place : suc (passed + (n + g)) ≡ suc (passed + n + g) = omega arith in
      same
      (rw (f.1, events_split n g (b ++ more), events_front more n b (fits passed b more), behind passed b more) (script_append (events_of n b) (events_of g (drop (512 * n) b ++ more))))
      (rw (f.1, f.2, place))

  -- one is refused: the rest does not matter
  stops : ((look_from passed b).refusal ≡ 0 → ⊥) → unpacked_from passed (b ++ more) ≡ given passed (look_from passed b) b
  unfolding unpacked_from given
  stops e =
      let f = front_off passed b more e in
      same (rw (f.0, events_front more (look_from passed b).good b (good_followed passed b))) (rw (f.0, f.1))

chunks_are :
    (bs : List (List ℕ)) (passed : ℕ) (kept : List ℕ) → unpacked_chunks passed kept bs ≡ unpacked_from passed (kept ++ flatten bs)
unfolding unpacked_chunks flatten
chunks_are [] passed kept = ap (unpacked_from passed) (sym (append-nil kept))
chunks_are (b ∷ bs) passed kept =
    let read : List ℕ = kept ++ b in
    go (eqb (look_from passed read).refusal 0) refl (chunks_are bs (passed + followed read) (drop (512 * followed read) read))
    ∙ ap (unpacked_from passed) (append_assoc kept b (flatten bs))
  where
    go :
        (t : Bool)
        → eqb (look_from passed (kept ++ b)).refusal 0 ≡ t
        → unpacked_chunks (passed + followed (kept ++ b)) (drop (512 * followed (kept ++ b)) (kept ++ b)) bs
        ≡ unpacked_from (passed + followed (kept ++ b)) (drop (512 * followed (kept ++ b)) (kept ++ b) ++ flatten bs)
        → cond {A = Unpacked} t
        (record {
          script = script_of (events_of (followed (kept ++ b)) (kept ++ b)) ++ (unpacked_chunks (passed + followed (kept ++ b)) (drop (512 * followed (kept ++ b)) (kept ++ b)) bs).script;
          told = (unpacked_chunks (passed + followed (kept ++ b)) (drop (512 * followed (kept ++ b)) (kept ++ b)) bs).told;
        })
        (given passed (look_from passed (kept ++ b)) (kept ++ b))
        ≡ unpacked_from passed (kept ++ b ++ flatten bs)
    go true s more = rw more (sym (goes_on passed (kept ++ b) (flatten bs) (eqb-true _ 0 s)))
    go false s more = sym (stops passed (kept ++ b) (flatten bs) (eqb-false _ 0 s))

pub from_start : (file : List ℕ) → unpacked_from 0 file ≡ unpacked file
unfolding unpacked_from given front_from unpacked good_blocks read_rules whole_blocks
from_start file = same (rw zero-add) (rw (zero-add, zero-add))

-- however the file is cut into chunks
pub chunk_by_chunk : (bs : List (List ℕ)) → unpacked_chunks 0 [] bs ≡ unpacked (flatten bs)
chunk_by_chunk bs = chunks_are bs 0 [] ∙ from_start (flatten bs)
