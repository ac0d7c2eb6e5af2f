-- Rescued chunk by chunk, a file is rescued as a whole, however it is cut into chunks. Assumes nothing.
use Prim.Native.Nat.{ℕ, zero, suc, ◌+◌, ◌-◌, ◌*◌, ◌/◌, ◌≤◌}
use mathlib.Core.Path.{◌≡◌, refl, sym, ap, ◌∙◌}
use mathlib.Core.Bool.{Bool, true, false, cond}
use mathlib.Core.List.{List, [], ◌∷◌, ◌++◌, flatten, append_assoc, append-nil}
use native.Mathlib.Omega.{arith}
use native.Mathlib.Nat.{zero-add}
use lib.Dec.{eqb}
use lib.ListN.{length, take, drop, length-append, length-drop}
use lib.Seq.{drop-drop, take-add, take-append-le, drop-append-le}
use borrow.Author.Tests.{eqb-true, eqb-false}
use Rattle.model.specs.Lines.{reply}
use Rattle.octets.specs.Numbers.{AllBytes, flat}
use Rattle.octets.proofs.Parts.{flat_append}
use Rattle.day_files.specs.Files.{whole_blocks, events_of}
use Rattle.fronts.specs.Good.{good_from, good_blocks, front_from, look_from}
use Rattle.fronts.proofs.Read.{good_most}
use Rattle.fronts.proofs.Cutting.{behind, events_front, events_split, front_on, front_off, good_followed}
use Rattle.rescue.specs.Rescue.{Listed, list_from, rescued}
use Rattle.rescue.specs.Chunkwise.{Output, list_line, output, listed, rescued_from, blocks_listed, listed_chunks, rescued_chunks}
use Rattle.rescue.proofs.Kept.{kept_front}
use Rattle.rescue.proofs.Listing.{list_split}

same : {s t u v : List ℕ} → s ≡ t → u ≡ v → ◌≡◌ {A = Output} (record { file = s; told = u }) (record { file = t; told = v })
same e f = rw (e, f)

-- ---- listed

blocks_front : (more : List ℕ) (n place : ℕ) (b : List ℕ) → 512 * n ≤ length b → blocks_listed n place (b ++ more) ≡ blocks_listed n place b
unfolding blocks_listed
blocks_front more zero place b h = refl
blocks_front more (suc n) place b h =
    let t : take 512 (b ++ more) ≡ take 512 b = take-append-le 512 b more (omega arith) in
    let d : drop 512 (b ++ more) ≡ drop 512 b ++ more = drop-append-le 512 b more (omega arith) in
    rw (t, d, blocks_front more n (suc place) (drop 512 b) (rw length-drop (omega arith)))

module _ (behind records : ℕ) (b more : List ℕ) where
  abbrev m : ℕ
  m = length b / 512

  listed_on :
      listed behind records (b ++ more)
      ≡ record {
        file = [];
        told = flat list_line (blocks_listed m (suc behind) b) ++ (listed (behind + m) records (drop (512 * m) b ++ more)).told;
      }
  unfolding listed
  listed_on =
      let k : ℕ = length (drop (512 * m) b ++ more) / 512 in
      let all : length (b ++ more) / 512 ≡ m + k = rw (length-append, length-append, length-drop) (omega arith) in
      let d : drop (512 * m) (b ++ more) ≡ drop (512 * m) b ++ more = drop-append-le (512 * m) b more (omega arith) in
      let p : suc behind + m ≡ suc (behind + m) = omega arith in
      let split : list_from (length (b ++ more) / 512) (suc behind) (b ++ more)
      ≡ blocks_listed m (suc behind) b ++ list_from k (suc (behind + m)) (drop (512 * m) b ++ more) =
      ap (λ (j : ℕ). list_from j (suc behind) (b ++ more)) all
      ∙ list_split m k (suc behind) (b ++ more)
      ∙ rw (blocks_front more m (suc behind) b (omega arith), p, d) in
      same refl
      (ap (λ (l : List Listed). flat list_line l ++ reply 75 (records ∷ [])) split
      ∙ rw (flat_append list_line (blocks_listed m (suc behind) b) (list_from k (suc (behind + m)) (drop (512 * m) b ++ more)), append_assoc))

listed_file : (behind records : ℕ) (rest : List ℕ) → (listed behind records rest).file ≡ []
unfolding listed
listed_file passed records rest = refl

pub listed_are :
    (bs : List (List ℕ)) (behind records : ℕ) (kept : List ℕ) → listed_chunks behind records kept bs ≡ listed behind records (kept ++ flatten bs)
unfolding listed_chunks flatten
listed_are [] behind records kept = ap (listed behind records) (sym (append-nil kept))
listed_are (b ∷ bs) behind records kept =
    let read : List ℕ = kept ++ b in
    let n : ℕ = length read / 512 in
    rw (listed_are bs (behind + n) records (drop (512 * n) read))
    (same (listed_file (behind + n) records (drop (512 * n) read ++ flatten bs)) refl
    ∙ sym (listed_on behind records read (flatten bs))
    ∙ ap (listed behind records) (append_assoc kept b (flatten bs)))

-- ---- rescued

-- what so many good blocks give
abbrev kept_by : ℕ → ℕ → ℕ → List ℕ → Output
kept_by before records good rest =
    record {
      file = take (512 * good) rest;
      told = (listed (before + good) (records + length (events_of good rest)) (drop (512 * good) rest)).told;
    }

by_front : (before records : ℕ) (rest : List ℕ) → rescued_from before records rest ≡ kept_by before records (front_from before rest).good rest
unfolding rescued_from front_from
by_front before records rest = refl

module _ (before records : ℕ) (b more : List ℕ) where
  kept_short :
      (g : ℕ)
      → 512 * g ≤ length b
      → kept_by before records g (b ++ more)
      ≡ record {
        file = take (512 * g) b;
        told = (listed (before + g) (records + length (events_of g b)) (drop (512 * g) b ++ more)).told;
      }
  kept_short g h =
      same (take-append-le (512 * g) b more h)
      (rw (events_front more g b h, drop-append-le (512 * g) b more h))

  kept_joined :
      (n g : ℕ)
      → 512 * n ≤ length b
      → kept_by before records (n + g) (b ++ more)
      ≡ record {
        file = take (512 * n) b ++ (kept_by (before + n) (records + length (events_of n b)) g (drop (512 * n) b ++ more)).file;
        told = (kept_by (before + n) (records + length (events_of n b)) g (drop (512 * n) b ++ more)).told;
      }
  kept_joined n g h =
      let d : 512 * (n + g) ≡ 512 * n + 512 * g = omega arith in
      let rest : drop (512 * n) (b ++ more) ≡ drop (512 * n) b ++ more = drop-append-le (512 * n) b more h in
      let front : take (512 * n) (b ++ more) ≡ take (512 * n) b = take-append-le (512 * n) b more h in
      let place : before + (n + g) ≡ before + n + g = omega arith in
      let split : events_of (n + g) (b ++ more) ≡ events_of n b ++ events_of g (drop (512 * n) b ++ more) =
      events_split n g (b ++ more) ∙ rw (events_front more n b h, rest) in
      let events : length (events_of (n + g) (b ++ more)) ≡ length (events_of n b) + length (events_of g (drop (512 * n) b ++ more)) =
      ap length split ∙ length-append (events_of n b) (events_of g (drop (512 * n) b ++ more)) in
      let count : records + length (events_of (n + g) (b ++ more)) ≡ records + length (events_of n b) + length (events_of g (drop (512 * n) b ++ more)) = omega arith in
      let behind_all : drop (512 * (n + g)) (b ++ more) ≡ drop (512 * g) (drop (512 * n) b ++ more) =
      rw (d, ← drop-drop (512 * g) (512 * n) (b ++ more), rest) in
      same
      (rw (d, take-add (512 * n) (512 * g) (b ++ more), front, rest))
      (rw (place, count, behind_all))

-- one chunk
module _ (before records : ℕ) (read more : List ℕ) where
  abbrev good : ℕ
  good = (look_from before read).good

  abbrev so_far : ℕ
  so_far = records + length (events_of (look_from before read).good read)

  step_on :
      (o : Output)
      → (look_from before read).refusal ≡ 0
      → o ≡ rescued_from (before + good) so_far (drop (512 * good) read ++ more)
      → ◌≡◌ {A = Output} (record { file = take (512 * good) read ++ o.file; told = o.told }) (rescued_from before records (read ++ more))
  step_on o e is =
      let f = front_on before read more e in
      let g : ℕ = (front_from (before + good) (drop (512 * good) read ++ more)).good in
      let joined : (front_from before (read ++ more)).good ≡ good + g = rw (← f.0) at f.1 in
      rw (is, by_front (before + good) so_far (drop (512 * good) read ++ more))
      (sym
      (by_front before records (read ++ more)
      ∙ ap (λ (k : ℕ). kept_by before records k (read ++ more)) joined
      ∙ kept_joined before records read more good g (good_followed before read)))

  step_off :
      (o : Output)
      → ((look_from before read).refusal ≡ 0 → ⊥)
      → o ≡ listed (before + good) so_far (drop (512 * good) read ++ more)
      → ◌≡◌ {A = Output} (record { file = take (512 * good) read ++ o.file; told = o.told }) (rescued_from before records (read ++ more))
  step_off o e is =
      let f = front_off before read more e in
      rw (is, listed_file (before + good) so_far (drop (512 * good) read ++ more), append-nil)
      (sym
      (by_front before records (read ++ more)
      ∙ ap (λ (k : ℕ). kept_by before records k (read ++ more)) f.0
      ∙ kept_short before records read more good (good_followed before read)))

  step :
      (Kept-more list-more : Output)
      → Kept-more ≡ rescued_from (before + good) so_far (drop (512 * good) read ++ more)
      → list-more ≡ listed (before + good) so_far (drop (512 * good) read ++ more)
      → (t : Bool)
      → eqb (look_from before read).refusal 0 ≡ t
      → ◌≡◌ {A = Output}
      (record { file = take (512 * good) read ++ (cond t Kept-more list-more).file; told = (cond t Kept-more list-more).told })
      (rescued_from before records (read ++ more))
  step k l e f true s = step_on k (eqb-true _ 0 s) e
  step k l e f false s = step_off l (eqb-false _ 0 s) f

rescued_are :
    (bs : List (List ℕ)) (before records : ℕ) (kept : List ℕ)
    → rescued_chunks before records kept bs ≡ rescued_from before records (kept ++ flatten bs)
unfolding rescued_chunks flatten
rescued_are [] before records kept = ap (rescued_from before records) (sym (append-nil kept))
rescued_are (b ∷ bs) before records kept =
    let read : List ℕ = kept ++ b in
    let g : ℕ = (look_from before read).good in
    let now : ℕ = records + length (events_of g read) in
    step before records read (flatten bs) _ _ (rescued_are bs (before + g) now (drop (512 * g) read))
    (listed_are (drop (512 * g) read ∷ bs) (before + g) now []) (eqb (look_from before read).refusal 0) refl
    ∙ ap (rescued_from before records) (append_assoc kept b (flatten bs))

all_good : (file : List ℕ) → (front_from 0 file).good ≡ good_blocks file
unfolding front_from good_blocks whole_blocks
all_good file = rw zero-add

left_blocks : (file : List ℕ) → length (drop (512 * good_blocks file) file) / 512 ≡ whole_blocks file - good_blocks file
unfolding good_blocks whole_blocks
left_blocks file =
    let n : ℕ = length file / 512 in
    let g : ℕ = good_from n n 1 file in
    let few : g ≤ n = good_most n n 1 file in
    rw length-drop (omega arith)

whole_file : (file : List ℕ) → AllBytes file → kept_by 0 0 (good_blocks file) file ≡ output (rescued file)
unfolding output rescued listed
whole_file file bytes = same (sym (kept_front file bytes)) (rw (zero-add, zero-add, left_blocks file))

pub from_start : (file : List ℕ) → AllBytes file → rescued_from 0 0 file ≡ output (rescued file)
from_start file bytes =
    by_front 0 0 file ∙ ap (λ (g : ℕ). kept_by 0 0 g file) (all_good file) ∙ whole_file file bytes

-- however the file is cut into chunks
pub chunk_by_chunk : (bs : List (List ℕ)) → AllBytes (flatten bs) → rescued_chunks 0 0 [] bs ≡ output (rescued (flatten bs))
chunk_by_chunk bs bytes = rescued_are bs 0 0 [] ∙ from_start (flatten bs) bytes
