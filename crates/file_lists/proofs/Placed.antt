-- Where a file that is read has each of its records. Assumes nothing.
use Prim.Native.Nat.{ℕ, zero, suc, ◌+◌, ◌-◌, ◌*◌, ◌/◌, ◌≤◌, ◌<◌}
use mathlib.Core.Path.{◌≡◌, refl, ap, ◌∙◌}
use mathlib.Core.Bool.{Bool, true, false}
use mathlib.Core.List.{List, [], ◌∷◌, ◌++◌, append_assoc}
use native.Mathlib.Omega.{arith}
use native.Mathlib.Nat.{mul-suc, add_comm}
use lib.ListN.{length, get_or, take, drop, length-take, length-drop}
use lib.Seq.{take_at, drop-drop, drop-append-le, drop-append-add, get_or-take, get_or-drop}
use lib.Dec.{ltb}
use borrow.Author.Tests.{ltb-true, ltb-false}
use Rattle.model.specs.declared.Event.{Event}
use Rattle.octets.specs.Numbers.{AllBytes, flat}
use Rattle.file_records.specs.Records.{record_bytes}
use Rattle.file_records.proofs.Recorded.{length_record}
use Rattle.file_blocks.specs.Blocks.{block_bytes}
use Rattle.file_blocks.proofs.Blocked.{length_block, behind}
use Rattle.day_files.specs.Files.{Reading, whole_blocks, blocks_from, file_bytes, read_rules, read_file}
use Rattle.day_files.proofs.Changed.{read_means}
use Rattle.day_files.proofs.Unique.{Again, all_passing, blocks_again, one_file}
use Rattle.file_lists.specs.Lists.{place_of, record_at}

-- ---- in a row, in a block, in blocks

-- record i of a row
row_at :
    (es : List Event) (d : Event) (rest : List ℕ) (i : ℕ)
    → i < length es
    → take 20 (drop (20 * i) (flat record_bytes es ++ rest)) ≡ record_bytes (get_or es i d)
unfolding flat
row_at [] d rest i h = absurd (omega arith)
row_at (e ∷ es) d rest zero h =
    rw (append_assoc (record_bytes e) (flat record_bytes es) rest)
    (take_at (record_bytes e) (flat record_bytes es ++ rest) 20 (length_record e))
row_at (e ∷ es) d rest (suc i) h =
    let m : 20 * suc i ≡ length (record_bytes e) + 20 * i = mul-suc 20 i ∙ add_comm (20 * i) 20 ∙ rw (length_record e) in
    rw (m, append_assoc (record_bytes e) (flat record_bytes es) rest, drop-append-add)
    (row_at es d rest i (omega arith))

block_at :
    (number : ℕ) (es : List Event) (d : Event) (rest : List ℕ) (i : ℕ)
    → length es ≤ 25
    → i < length es
    → take 20 (drop (8 + 20 * i) (block_bytes number es ++ rest)) ≡ record_bytes (get_or es i d)
block_at number es d rest i few h =
    let long : 8 ≤ length (block_bytes number es) = omega (arith, length_block number es few) in
    rw (
      ← drop-drop (20 * i) 8 (block_bytes number es ++ rest),
      drop-append-le 8 (block_bytes number es) rest long,
      behind number es few,
      append_assoc (flat record_bytes es) _ rest,
    )
    (row_at es d _ i h)

-- a block of 25 with others behind it: record i is in it, or behind it
module _ (number : ℕ) (es : List Event) (rest : List ℕ) (d : Event) (i : ℕ) where
  few : length (take 25 es) ≤ 25
  few = rw length-take (omega arith)

  here :
      i < length es
      → i < 25
      → take 20 (drop (place_of i) (block_bytes number (take 25 es) ++ rest)) ≡ record_bytes (get_or es i d)
  here h l =
      let p : place_of i ≡ 8 + 20 * i = omega arith in
      let there : i < length (take 25 es) = rw length-take (omega arith) in
      rw p (block_at number (take 25 es) d rest i few there) ∙ ap record_bytes (get_or-take 25 es i d l)

  later :
      25 ≤ i
      → take 20 (drop (place_of (i - 25)) rest) ≡ record_bytes (get_or (drop 25 es) (i - 25) d)
      → take 20 (drop (place_of i) (block_bytes number (take 25 es) ++ rest)) ≡ record_bytes (get_or es i d)
  later l e =
      let p : place_of i ≡ 512 + place_of (i - 25) = omega arith in
      let q : place_of i ≡ length (block_bytes number (take 25 es)) + place_of (i - 25) = p ∙ rw (length_block number (take 25 es) few) in
      let n : 25 + (i - 25) ≡ i = omega arith in
      rw (q, drop-append-add) (e ∙ ap record_bytes (rw n at (get_or-drop 25 es (i - 25) d)))

blocks_at :
    (blocks number : ℕ) (es : List Event) (d : Event) (i : ℕ)
    → length es ≤ 25 * blocks
    → i < length es
    → take 20 (drop (place_of i) (blocks_from blocks number es)) ≡ record_bytes (get_or es i d)
unfolding blocks_from
blocks_at zero number es d i most h = absurd (omega arith)
blocks_at (suc blocks) number es d i most h =
    go (ltb i 25) refl
    (λ l. blocks_at blocks (suc number) (drop 25 es) d (i - 25) (rw length-drop (omega arith)) (rw length-drop (omega (arith, l))))
  where
    rest : List ℕ
    rest = blocks_from blocks (suc number) (drop 25 es)

    go :
        (t : Bool)
        → ltb i 25 ≡ t
        → (25 ≤ i → take 20 (drop (place_of (i - 25)) rest) ≡ record_bytes (get_or (drop 25 es) (i - 25) d))
        → take 20 (drop (place_of i) (block_bytes number (take 25 es) ++ rest)) ≡ record_bytes (get_or es i d)
    go true t more = here number es rest d i h (ltb-true _ _ t)
    go false t more = later number es rest d i (ltb-false _ _ t) (more (ltb-false _ _ t))

-- ---- a file

module _ (file : List ℕ) (es : List Event) (bytes : AllBytes file) (e : read_file file ≡ Reading.Read es) where
  pub few_records : length es ≤ 25 * (length file / 512)
  unfolding read_rules whole_blocks
  few_records =
      let n : ℕ = length file / 512 in
      let k = read_means file es e in
      let p = all_passing n n 1 file k.0 in
      let r : Again n 1 file = blocks_again n n 1 file p.0 (omega arith) (omega arith) bytes in
      rw (← k.1) r.most

  pub placed : (d : Event) (i : ℕ) → i < length es → record_at file i ≡ record_bytes (get_or es i d)
  unfolding record_at file_bytes
  placed d i h =
      rw (one_file file es bytes e) (blocks_at ((length es + 24) / 25) 1 es d i (omega arith) h)
