-- A whole file, block after block: how many records there are when so many blocks have passed. Assumes nothing.
use Rattle.std.proofs.Common.{Ok, Err}
use Prim.Native.Nat.{ℕ, zero, suc, ◌+◌, ◌-◌, ◌*◌, ◌/◌, ◌≤◌, ◌<◌}
use mathlib.Core.Path.{◌≡◌, refl, sym, ap, ◌∙◌}
use mathlib.Core.List.{List}
use native.Mathlib.Omega.{arith}
use lib.ListN.{length, take, drop, length-append, length-drop}
use lib.Seq.{drop-drop, length-take-le}
use borrow.Author.Tests.{ne_eqb, lt-ltb, le-ltb}
use Rattle.model.specs.Refusals.{◌when◌, first_of}
use Rattle.model.proofs.Rules.{given_by}
use Rattle.octets.proofs.Parts.{length_parts}
use Rattle.file_records.specs.Records.{event_in}
use Rattle.file_blocks.specs.Blocks.{records_in, events_in, block_rules, read_block}
use Rattle.day_files.specs.Files.{Reading, whole_blocks, rules_from, read_rules, events_of, read_file, counted, count_file}
use Rattle.day_files.proofs.Changed.{block_passed}
use Rattle.file_blocks.proofs.Unique.{Passed, passed, counts}
use Rattle.file_blocks.proofs.Answered.{says_records, says_refused}

pub record Counting (file : List ℕ) (whole total done : ℕ) : Type 0 where
  pub blocks : whole ≡ length file / 512
  pub before : done ≤ whole
  pub few : total ≤ 25 * done
  pub tests : first_of (rules_from whole (whole - done) (suc done) (drop (512 * done) file)) ≡ first_of (read_rules file)
  pub records : total + length (events_of (whole - done) (drop (512 * done) file)) ≡ length (events_of whole file)

pub counting_start : (file : List ℕ) → Counting file (length file / 512) 0 0
unfolding read_rules whole_blocks
counting_start file =
    let z : length file / 512 - 0 ≡ length file / 512 = omega arith in
    record { blocks = refl; before = omega arith; few = omega arith; tests = rw z; records = rw z (omega arith) }

-- no test holds, or the first that does is the answer
reads_none : (file : List ℕ) → first_of (read_rules file) ≡ 0 → read_file file ≡ Reading.Read (events_of (whole_blocks file) file)
unfolding read_file
reads_none file e = rw e

reads_one : (file : List ℕ) {n : ℕ} → first_of (read_rules file) ≡ n → (n ≡ 0 → ⊥) → read_file file ≡ Reading.Refused n
unfolding read_file
reads_one file {n} e k = rw (e, ne_eqb n 0 k)

none_due :
    (file : List ℕ) {n : ℕ}
    → first_of (read_rules file) ≡ 0
    → n ≡ length (events_of (whole_blocks file) file)
    → Ok n ≡ count_file file
unfolding count_file counted
none_due file e f = ap Ok f ∙ ap counted (sym (reads_none file e))

one_due : (file : List ℕ) {n : ℕ} → first_of (read_rules file) ≡ n → (n ≡ 0 → ⊥) → Err n ≡ count_file file
unfolding count_file counted
one_due file e k = ap counted (sym (reads_one file e k))

-- the first refusal of a block is that of all from there on
pub refused_first :
    (whole blocks place n : ℕ) (rest : List ℕ)
    → n ≡ first_of (block_rules whole place (take 512 rest))
    → (n ≡ 0 → ⊥)
    → n ≡ first_of (rules_from whole (suc blocks) place rest)
unfolding rules_from
refused_first whole blocks place n rest e k = given_by (block_rules whole place (take 512 rest)) _ e k

module _ (file : List ℕ) {whole total done : ℕ} (k : Counting file whole total done) (l : done < whole) where
  rest : List ℕ
  rest = drop (512 * done) file

  part_long : length (take 512 (drop (512 * done) file)) ≡ 512
  part_long = length-take-le 512 (drop (512 * done) file) (rw length-drop (omega (arith, k.blocks)))

  one_more : whole - done ≡ suc (whole - (done + 1))
  one_more = omega arith

  -- the tests from here on are the block's and those behind it
  tests_here :
      first_of (rules_from whole (suc (whole - (done + 1))) (suc done) (drop (512 * done) file)) ≡ first_of (read_rules file)
  tests_here = rw one_more at k.tests

  behind : drop 512 (drop (512 * done) file) ≡ drop (512 * (done + 1)) file
  behind = let e : 512 * done + 512 ≡ 512 * (done + 1) = omega arith in rw (drop-drop 512 (512 * done) file, e)

  pub counting_next :
      {b : List ℕ} {count : ℕ}
      → b ≡ take (512 * done + 512 - 512 * done) (drop (512 * done) file)
      → Ok count ≡ read_block whole (done + 1) b
      → (count ≤ 25) × Counting file whole (total + count) (done + 1)
  unfolding events_of events_in
  counting_next {b} {count} e f =
      let whole_block : 512 * done + 512 - 512 * done ≡ 512 = omega arith in
      let same : b ≡ take 512 (drop (512 * done) file) = rw whole_block at e in
      let one : done + 1 ≡ suc done = omega arith in
      let s = says_records whole (suc done) count (take 512 (drop (512 * done) file)) (rw (same, one) at f) in
      let p : Passed whole (suc done) (take 512 (drop (512 * done) file)) = passed whole (suc done) _ s.0 in
      let few : records_in (take 512 (drop (512 * done) file)) ≤ 25 = (counts _ p.own).1 in
      let tests : first_of (rules_from whole (whole - (done + 1)) (suc (suc done)) (drop 512 (drop (512 * done) file))) ≡ first_of (read_rules file) =
      sym (block_passed whole (whole - (done + 1)) (suc done) (drop (512 * done) file) s.0) ∙ tests_here in
      let records :
      total + (count + length (events_of (whole - (done + 1)) (drop 512 (drop (512 * done) file)))) ≡ length (events_of whole file) =
      rw s.1 (rw (one_more, length-append, length_parts (λ (r : List ℕ). event_in (take 20 r)) 20 (records_in (take 512 (drop (512 * done) file))) (drop 8 (take 512 (drop (512 * done) file)))) at k.records) in (
        omega (arith, s.1),
        record {
          blocks = k.blocks;
          before = omega arith;
          few = omega (arith, k.few, s.1);
          tests = rw (one, ← one) (rw (behind, ← one) at tests);
          records = omega (arith, rw behind at records);
        },
      )

  pub counting_refused :
      {b : List ℕ} {n : ℕ}
      → b ≡ take (512 * done + 512 - 512 * done) (drop (512 * done) file)
      → Err n ≡ read_block whole (done + 1) b
      → Err n ≡ count_file file
  counting_refused {b} {n} e f =
      let whole_block : 512 * done + 512 - 512 * done ≡ 512 = omega arith in
      let same : b ≡ take 512 (drop (512 * done) file) = rw whole_block at e in
      let one : done + 1 ≡ suc done = omega arith in
      let s = says_refused whole (suc done) n (take 512 (drop (512 * done) file)) part_long (rw (same, one) at f) in
      one_due file
      (sym (refused_first whole (whole - (done + 1)) (suc done) n (drop (512 * done) file) s.0 s.1 ∙ tests_here)) s.1

-- behind the last block
pub tail_tests : (whole place : ℕ) (rest : List ℕ) → 0 < length rest → first_of (rules_from whole zero place rest) ≡ 26
unfolding rules_from first_of ◌when◌
tail_tests whole place rest h = rw (lt-ltb 0 (length rest) h)

pub no_tests : (whole place : ℕ) (rest : List ℕ) → length rest ≤ 0 → first_of (rules_from whole zero place rest) ≡ 0
unfolding rules_from first_of ◌when◌
no_tests whole place rest h = rw (le-ltb 0 (length rest) h)

module _ (file : List ℕ) {whole total done : ℕ} (k : Counting file whole total done) (l : whole ≤ done) where
  all_done : done ≡ whole
  all_done = omega (arith, k.before)

  none_left : whole - done ≡ 0
  none_left = omega arith

  tests_left : first_of (rules_from whole 0 (suc done) (drop (512 * done) file)) ≡ first_of (read_rules file)
  tests_left = rw none_left at k.tests

  pub counting_tail : 512 * whole < length file → Err 26 ≡ count_file file
  counting_tail t =
      let some : 0 < length (drop (512 * done) file) = rw (length-drop, all_done) (omega arith) in
      one_due file (sym tests_left ∙ tail_tests whole (suc done) (drop (512 * done) file) some) (λ z. omega arith)

  pub counting_end : length file ≤ 512 * whole → Ok total ≡ count_file file
  unfolding whole_blocks events_of
  counting_end t =
      let none : length (drop (512 * done) file) ≤ 0 = rw (length-drop, all_done) (omega arith) in
      let left : total + 0 ≡ length (events_of whole file) = rw none_left at k.records in
      let same : total ≡ length (events_of whole file) = omega arith in
      none_due file (sym tests_left ∙ no_tests whole (suc done) (drop (512 * done) file) none) (rw k.blocks at same)
