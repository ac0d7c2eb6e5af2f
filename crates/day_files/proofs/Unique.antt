-- A file that is read is the one that its events are written to. Assumes nothing.
use Prim.Native.Nat.{ℕ, zero, suc, ◌+◌, ◌*◌, ◌/◌, ◌≤◌, ◌<◌}
use mathlib.Core.Path.{◌≡◌, refl, sym, ap}
use mathlib.Core.Bool.{Bool, true, false, ◌||◌}
use mathlib.Core.Logic.{◌⊎◌, inl, inr, ⊎_elim}
use mathlib.Core.List.{List, [], ◌++◌, append-nil}
use native.Mathlib.Omega.{arith}
use lib.ListN.{length, take, drop, length-append, length-drop, drop_of_length-le}
use lib.Seq.{length-take-le, take_all, take-add, drop-drop, take_at, drop_at}
use lib.Dec.{eqb}
use borrow.Author.Tests.{eqb-true}
use Rattle.model.specs.Refusals.{first_of}
use Rattle.model.specs.declared.Event.{Event}
use Rattle.file_blocks.specs.Blocks.{block_bytes, records_in, events_in, block_rules}
use Rattle.day_files.specs.Files.{Reading, blocks_from, file_bytes, whole_blocks, rules_from, read_rules, events_of, read_file}
use Rattle.octets.specs.Numbers.{AllBytes}
use Rattle.octets.proofs.Digits.{bytes_take, bytes_drop}
use Rattle.file_blocks.proofs.Unique.{counted, block_again, counts, Passed, passed}
use Rattle.day_files.proofs.Changed.{block_passes, no_tail, read_means}

-- ---- blocks one after the other

-- so many blocks from a place on, each of which passes its tests
abbrev pub Passing : ℕ → ℕ → ℕ → List ℕ → Type 0
Passing whole zero place rest = Unit {0}
Passing whole (suc blocks) place rest =
    (first_of (block_rules whole place (take 512 rest)) ≡ 0) × Passing whole blocks (suc place) (drop 512 rest)

pub record Again (blocks place : ℕ) (rest : List ℕ) : Type 0 where
  pub bytes : blocks_from blocks place (events_of blocks rest) ≡ take (512 * blocks) rest
  pub most : length (events_of blocks rest) ≤ 25 * blocks
  pub least : 25 * blocks < length (events_of blocks rest) + 25

-- the events of the first block, and those behind it
halves :
    (e f : List Event) → length e ≤ 25 → (length e ≡ 25) ⊎ (f ≡ []) → (take 25 (e ++ f) ≡ e) × (drop 25 (e ++ f) ≡ f)
halves e f few (inl full) = (take_at e f 25 full, drop_at e f 25 full)
halves e f few (inr none) =
    (rw (none, append-nil) (take_all 25 e few), rw (none, append-nil) (drop_of_length-le e few))

either : (a b : Bool) → a || b ≡ true → (a ≡ true) ⊎ (b ≡ true)
either true b e = inl refl
either false b e = inr e

no_events : (blocks : ℕ) (rest : List ℕ) → blocks ≤ 0 → events_of blocks rest ≡ []
unfolding events_of
no_events zero rest h = refl
no_events (suc blocks) rest h = absurd (omega arith)

-- a block is full, or nothing stands behind it
full_or_last :
    (whole blocks place n : ℕ) (rest : List ℕ)
    → place + suc blocks ≤ suc whole
    → (eqb place whole || eqb n 25) ≡ true
    → (n ≡ 25) ⊎ (events_of blocks rest ≡ [])
full_or_last whole blocks place n rest h e =
    ⊎_elim
    (λ (t : eqb place whole ≡ true).
    let same : place ≡ whole = eqb-true _ _ t in
    let none : blocks ≤ 0 = omega arith in inr (no_events blocks rest none))
    (λ (t : eqb n 25 ≡ true). inl (eqb-true _ _ t))
    (either _ _ e)

-- the two lengths, with one block more
lengths :
    (blocks m n : ℕ)
    → 1 ≤ m
    → m ≤ 25
    → (m ≡ 25) ⊎ (n ≡ 0)
    → n ≤ 25 * blocks
    → 25 * blocks < n + 25
    → (m + n ≤ 25 * suc blocks) × (25 * suc blocks < m + n + 25)
lengths blocks m n l h (inl full) most least = (omega arith, omega arith)
lengths blocks m n l h (inr none) most least = (omega arith, omega arith)

module _
    (whole blocks place : ℕ) (rest : List ℕ)
    (e : first_of (block_rules whole place (take 512 rest)) ≡ 0)
    (last : place + suc blocks ≤ suc whole)
    (h : 512 * suc blocks ≤ length rest)
    (bytes : AllBytes rest)
    (r : Again blocks (suc place) (drop 512 rest)) where
  first : Passed whole place (take 512 rest)
  first = passed whole place (take 512 rest) e

  long_first : length (take 512 rest) ≡ 512
  long_first = length-take-le 512 rest (omega arith)

  count : length (events_in (take 512 rest)) ≡ records_in (take 512 rest)
  count = counted (take 512 rest) long_first (bytes_take 512 rest bytes)

  cut :
      (length (events_in (take 512 rest)) ≡ 25) ⊎ (events_of blocks (drop 512 rest) ≡ [])
  cut = full_or_last whole blocks place _ (drop 512 rest) last (rw count first.full)

  one_again : Again (suc blocks) place rest
  unfolding blocks_from events_of
  one_again =
      let c = counts (take 512 rest) first.own in
      let k = halves (events_in (take 512 rest)) (events_of blocks (drop 512 rest)) (omega (arith, count)) cut in
      let block : block_bytes place (events_in (take 512 rest)) ≡ take 512 rest =
      rw first.number at (block_again (take 512 rest) long_first (bytes_take 512 rest bytes) first.right first.own) in
      let m : 512 * suc blocks ≡ 512 + 512 * blocks = omega arith in
      let l =
      lengths blocks (length (events_in (take 512 rest))) (length (events_of blocks (drop 512 rest))) (omega (arith, count))
      (omega (arith, count)) (⊎_elim inl (λ z. inr (ap length z)) cut) r.most r.least in
      record {
        bytes = rw (k.0, k.1, block, r.bytes, m) (sym (take-add 512 (512 * blocks) rest));
        most = rw length-append l.0;
        least = rw length-append l.1;
      }

pub blocks_again :
    (whole blocks place : ℕ) (rest : List ℕ)
    → Passing whole blocks place rest
    → place + blocks ≤ suc whole
    → 512 * blocks ≤ length rest
    → AllBytes rest
    → Again blocks place rest
unfolding blocks_from events_of
blocks_again whole zero place rest p last h bytes = record { bytes = refl; most = omega arith; least = omega arith }
blocks_again whole (suc blocks) place rest p last h bytes =
    one_again whole blocks place rest p.0 last h bytes
    (blocks_again whole blocks (suc place) (drop 512 rest) p.1 (omega arith) (rw length-drop (omega arith))
    (bytes_drop 512 rest bytes))

-- ---- a file

-- where no test holds, every block passes and nothing stands behind the last
pub all_passing :
    (whole blocks place : ℕ) (rest : List ℕ)
    → first_of (rules_from whole blocks place rest) ≡ 0
    → Passing whole blocks place rest × (length (drop (512 * blocks) rest) ≡ 0)
all_passing whole zero place rest e = (tt, no_tail whole place rest e)
all_passing whole (suc blocks) place rest e =
    let k = block_passes whole blocks place rest e in
    let r = all_passing whole blocks (suc place) (drop 512 rest) k.1 in
    let m : 512 * suc blocks ≡ 512 + 512 * blocks = omega arith in
    ((k.0, r.0), rw (m, ← drop-drop (512 * blocks) 512 rest) r.1)

pub one_file :
    (file : List ℕ) (es : List Event) → AllBytes file → read_file file ≡ Reading.Read es → file ≡ file_bytes es
unfolding read_rules whole_blocks file_bytes
one_file file es bytes e =
    let n : ℕ = length file / 512 in
    let k = read_means file es e in
    let p = all_passing n n 1 file k.0 in
    let r : Again n 1 file = blocks_again n n 1 file p.0 (omega arith) (omega arith) bytes in
    let whole : length file ≤ 512 * n = omega (arith, rw length-drop at p.1) in
    let blocks : (length (events_of n file) + 24) / 25 ≡ n = omega (arith, r.most, r.least) in
    rw (← k.1, blocks, r.bytes, take_all (512 * n) file whole)
