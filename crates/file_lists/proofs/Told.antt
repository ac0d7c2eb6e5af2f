-- The records of a list tell the events that are read. Assumes nothing.
use Prim.Native.Nat.{ℕ, zero, suc, ◌+◌, ◌*◌, ◌/◌, ◌≤◌}
use mathlib.Core.Path.{◌≡◌, refl, ap, ◌∙◌}
use mathlib.Core.Bool.{true}
use mathlib.Core.List.{List, [], ◌∷◌, ◌++◌, append_assoc}
use native.Mathlib.Omega.{arith}
use lib.ListN.{length, take, drop, length-take, length-drop}
use lib.Seq.{take_at, drop_at, take-take, length-take-le}
use lib.Dec.{leb, eqb}
use borrow.Author.Tests.{leb-true}
use Rattle.model.specs.Lists.{all}
use Rattle.model.specs.Words.{Each}
use Rattle.model.specs.declared.Event.{Event}
use Rattle.model.proofs.Bools.{and_left, and_right}
use Rattle.book.proofs.Lists.{each_append, each_take}
use Rattle.octets.specs.Numbers.{AllBytes, parts, flat}
use Rattle.octets.proofs.Digits.{bytes_take, bytes_drop}
use Rattle.records.specs.Layout.{over}
use Rattle.file_records.specs.Records.{byte, record_bytes, event_in, is_record, all_zero}
use Rattle.file_records.proofs.Recorded.{length_record, record_again, six}
use Rattle.file_blocks.specs.Blocks.{records_in, events_in, own_layout}
use Rattle.file_blocks.proofs.Unique.{passed}
use Rattle.day_files.specs.Files.{Reading, whole_blocks, read_rules, events_of, read_file}
use Rattle.day_files.proofs.Changed.{read_means}
use Rattle.day_files.proofs.Unique.{Passing, all_passing}
use Rattle.file_lists.specs.Lists.{listed, listed_from}

-- ---- the events of a file are those that their records tell

Told : Event → Type 0
Told e = event_in (record_bytes e) ≡ e

records_told :
    (n : ℕ) (b : List ℕ)
    → 20 * n ≤ length b
    → AllBytes b
    → all is_record (parts (take 20) 20 n b) ≡ true
    → Each Told (parts (λ r. event_in (take 20 r)) 20 n b)
unfolding parts all Told
records_told zero b h bytes e = tt
records_told (suc n) b h bytes e = (
  ap event_in
      (record_again (take 20 b) (length-take-le 20 b (omega arith)) (bytes_take 20 b bytes) (and_left (is_record (take 20 b)) _ e)),
  records_told n (drop 20 b) (rw length-drop (omega arith)) (bytes_drop 20 b bytes) (and_right (is_record (take 20 b)) _ e),
)

block_told : (b : List ℕ) → length b ≡ 512 → AllBytes b → own_layout b ≡ true → Each Told (events_in b)
unfolding events_in own_layout
block_told b long bytes own =
    let k =
    six (leb 1 (records_in b)) (leb (records_in b) 25) (eqb (byte b 6) 0) (eqb (byte b 7) 0)
    (all is_record (parts (take 20) 20 (records_in b) (drop 8 b))) (all_zero (drop (8 + 20 * records_in b) (take 508 b))) own in
    let few : records_in b ≤ 25 = leb-true _ _ k.1 in
    records_told (records_in b) (drop 8 b) (rw length-drop (omega arith)) (bytes_drop 8 b bytes) k.4

blocks_told :
    (whole blocks place : ℕ) (rest : List ℕ)
    → Passing whole blocks place rest
    → 512 * blocks ≤ length rest
    → AllBytes rest
    → Each Told (events_of blocks rest)
unfolding events_of
blocks_told whole zero place rest p h bytes = tt
blocks_told whole (suc blocks) place rest p h bytes =
    each_append Told (events_in (take 512 rest)) (events_of blocks (drop 512 rest))
    (block_told (take 512 rest) (length-take-le 512 rest (omega arith)) (bytes_take 512 rest bytes) (passed whole place (take 512 rest) p.0).own)
    (blocks_told whole blocks (suc place) (drop 512 rest) p.1 (rw length-drop (omega arith)) (bytes_drop 512 rest bytes))

file_told : (file : List ℕ) (es : List Event) → AllBytes file → read_file file ≡ Reading.Read es → Each Told es
unfolding read_rules whole_blocks
file_told file es bytes e =
    let n : ℕ = length file / 512 in
    let k = read_means file es e in
    rw (← k.1) (blocks_told n n 1 file (all_passing n n 1 file k.0).0 (omega arith) bytes)

-- ---- read off a list

row_told :
    (es : List Event) (rest : List ℕ) (n : ℕ)
    → Each Told es
    → n ≤ length es
    → parts (λ r. event_in (take 20 r)) 20 n (flat record_bytes es ++ rest) ≡ take n es
unfolding parts flat Told
row_told es rest zero t h = refl
row_told [] rest (suc n) t h = absurd (omega arith)
row_told (e ∷ es) rest (suc n) t h =
    rw (
      append_assoc (record_bytes e) (flat record_bytes es) rest,
      take_at (record_bytes e) (flat record_bytes es ++ rest) 20 (length_record e),
      t.0,
      drop_at (record_bytes e) (flat record_bytes es ++ rest) 20 (length_record e),
      row_told es rest n t.1 (omega arith),
    )

pub list_tells :
    (file list : List ℕ) (es : List Event)
    → AllBytes file
    → read_file file ≡ Reading.Read es
    → (n : ℕ)
    → n ≤ length es
    → 20 * n ≤ length list
    → parts (λ r. event_in (take 20 r)) 20 n (listed_from (read_file file) list) ≡ take n es
unfolding listed_from listed over
list_tells file list es bytes e n some room =
    let most : n ≤ length (take (length list / 20) es) = rw length-take (omega arith) in
    rw e (row_told (take (length list / 20) es) _ n (each_take Told (length list / 20) es (file_told file es bytes e)) most)
    ∙ take-take n (length list / 20) es (omega arith)
