-- What a rescue keeps: the blocks before the first refused one, byte for byte. Assumes nothing.
use Prim.Native.Nat.{ℕ, zero, suc, ◌+◌, ◌-◌, ◌*◌, ◌/◌, ◌%◌, ◌≤◌}
use mathlib.Core.Path.{◌≡◌, refl, sym, ap, ◌∙◌}
use mathlib.Core.Bool.{Bool, true, false, cond, ◌||◌}
use mathlib.Core.List.{List, [], ◌∷◌, map}
use native.Mathlib.Omega.{arith}
use lib.ListN.{length, take, drop, length-drop}
use lib.Seq.{take-take, drop-drop, length-take-le}
use lib.Dec.{ltb, eqb}
use borrow.Author.Tests.{eqb-false, eq-eqb, ne_eqb, ltb-false, le-ltb}
use Rattle.model.specs.Lists.{from}
use Rattle.model.specs.Refusals.{◌when◌, first_of}
use Rattle.model.specs.declared.Event.{Event}
use Rattle.octets.specs.Numbers.{AllBytes}
use Rattle.file_records.proofs.Looking.{drop_take}
use Rattle.file_blocks.specs.Blocks.{block_rules, records_in}
use Rattle.file_blocks.proofs.Unique.{Passed, passed}
use Rattle.day_files.specs.Files.{Reading, file_bytes, blocks_from, whole_blocks, rules_from, read_rules, events_of, read_file}
use Rattle.day_files.proofs.Changed.{read_means, block_passed}
use Rattle.day_files.proofs.Unique.{Passing, Again, blocks_again, all_passing, one_file}
use Rattle.fronts.specs.Good.{good_from, good_blocks}
use Rattle.fronts.proofs.Read.{good_most, good_passing, good_all}
use Rattle.rescue.specs.Rescue.{Listed, Rescued, list_from, rescued}
use Rattle.rescue.specs.Promises.{Rescuing}

-- ---- what is kept

module _ (file : List ℕ) (bytes : AllBytes file) where
  good_again : Again (good_blocks file) 1 file
  unfolding good_blocks whole_blocks
  good_again =
      let n : ℕ = length file / 512 in
      blocks_again n (good_from n n 1 file) 1 file (good_passing n n 1 file) (omega (arith, good_most n n 1 file))
      (omega (arith, good_most n n 1 file)) bytes

  pub kept_front : (rescued file).file ≡ take (512 * good_blocks file) file
  unfolding rescued file_bytes
  kept_front =
      let r : Again (good_blocks file) 1 file = good_again in
      let blocks : (length (events_of (good_blocks file) file) + 24) / 25 ≡ good_blocks file = omega (arith, r.most, r.least) in
      rw (blocks, r.bytes)

-- ---- the new file is read

-- blocks that pass in a longer file pass in one that ends behind them
full_before :
    (whole' whole place n : ℕ) → whole' ≤ whole → place ≤ whole' → (eqb place whole || eqb n 25) ≡ true → (eqb place whole' || eqb n 25) ≡ true
full_before whole' whole place n h l e = go (eqb place whole') refl
  where
    go : (t : Bool) → eqb place whole' ≡ t → (eqb place whole' || eqb n 25) ≡ true
    go true s = rw s
    go false s =
        let apart : place ≡ whole' → ⊥ = eqb-false _ _ s in
        let off : eqb place whole ≡ false = ne_eqb place whole (λ (z : place ≡ whole). apart (omega arith)) in
        let full : eqb n 25 ≡ true = rw off at e in
        rw (s, full)

pass_before :
    (whole' whole place : ℕ) (b : List ℕ)
    → whole' ≤ whole
    → place ≤ whole'
    → first_of (block_rules whole place b) ≡ 0
    → first_of (block_rules whole' place b) ≡ 0
unfolding block_rules first_of ◌when◌
pass_before whole' whole place b h l e =
    let p : Passed whole place b = passed whole place b e in
    rw (p.right, eq-eqb _ _ p.number, p.own, full_before whole' whole place (records_in b) h l p.full)

passing_before :
    (whole' whole blocks place : ℕ) (rest : List ℕ)
    → whole' ≤ whole
    → place + blocks ≡ suc whole'
    → 512 * blocks ≤ length rest
    → Passing whole blocks place rest
    → Passing whole' blocks place (take (512 * blocks) rest)
passing_before whole' whole zero place rest h l k p = tt
passing_before whole' whole (suc blocks) place rest h l k p =
    let m : 512 * suc blocks ≡ 512 + 512 * blocks = omega arith in
    let front : take 512 (take (512 * suc blocks) rest) ≡ take 512 rest = take-take 512 (512 * suc blocks) rest (omega arith) in
    let behind : drop 512 (take (512 * suc blocks) rest) ≡ take (512 * blocks) (drop 512 rest) =
    rw m (drop_take 512 (512 * blocks) rest (omega arith)) in (
      rw front (pass_before whole' whole place (take 512 rest) h (omega arith) p.0),
      rw behind
          (passing_before whole' whole blocks (suc place) (drop 512 rest) h (omega arith) (rw length-drop (omega arith)) p.1),
    )

ended : (whole place : ℕ) (rest : List ℕ) → length rest ≡ 0 → first_of (rules_from whole zero place rest) ≡ 0
unfolding rules_from first_of ◌when◌
ended whole place rest e = rw (le-ltb 0 (length rest) (omega arith))

-- blocks that pass, with nothing behind them
passing_none :
    (whole blocks place : ℕ) (rest : List ℕ)
    → Passing whole blocks place rest
    → length (drop (512 * blocks) rest) ≡ 0
    → first_of (rules_from whole blocks place rest) ≡ 0
passing_none whole zero place rest p e = ended whole place rest e
passing_none whole (suc blocks) place rest p e =
    let m : 512 * suc blocks ≡ 512 + 512 * blocks = omega arith in
    let r : length (drop (512 * blocks) (drop 512 rest)) ≡ 0 = rw (drop-drop (512 * blocks) 512 rest, ← m) e in
    block_passed whole blocks place rest p.0 ∙ passing_none whole blocks (suc place) (drop 512 rest) p.1 r

events_front :
    (blocks : ℕ) (rest : List ℕ) → 512 * blocks ≤ length rest → events_of blocks (take (512 * blocks) rest) ≡ events_of blocks rest
unfolding events_of
events_front zero rest h = refl
events_front (suc blocks) rest h =
    let m : 512 * suc blocks ≡ 512 + 512 * blocks = omega arith in
    let front : take 512 (take (512 * suc blocks) rest) ≡ take 512 rest = take-take 512 (512 * suc blocks) rest (omega arith) in
    let behind : drop 512 (take (512 * suc blocks) rest) ≡ take (512 * blocks) (drop 512 rest) =
    rw m (drop_take 512 (512 * blocks) rest (omega arith)) in
    rw (front, behind, events_front blocks (drop 512 rest) (rw length-drop (omega arith)))

read_passing :
    (file : List ℕ) (n : ℕ)
    → length file / 512 ≡ n
    → Passing n n 1 file
    → length (drop (512 * n) file) ≡ 0
    → read_file file ≡ Reading.Read (events_of n file)
unfolding read_file read_rules whole_blocks
read_passing file n e p none = rw (e, passing_none n n 1 file p none)

module _ (file : List ℕ) (bytes : AllBytes file) where
  kept_reads : read_file (rescued file).file ≡ Reading.Read (events_of (good_blocks file) file)
  unfolding good_blocks whole_blocks
  kept_reads =
      let whole : ℕ = length file / 512 in
      let good : ℕ = good_from whole whole 1 file in
      let most : good ≤ whole = good_most whole whole 1 file in
      let fits : 512 * good ≤ length file = omega arith in
      let front : List ℕ = take (512 * good) file in
      let long : length front ≡ 512 * good = length-take-le (512 * good) file fits in
      let p : Passing good good 1 front = passing_before good whole good 1 file most (omega arith) fits (good_passing whole whole 1 file) in
      rw (kept_front file bytes)
      (read_passing front good (omega arith) p (rw length-drop (omega arith)) ∙ ap Reading.Read (events_front good file fits))

-- ---- the list

list_none : (blocks place : ℕ) (rest : List ℕ) → list_from blocks place rest ≡ [] → (blocks ≡ 0) × (length rest ≡ 0)
unfolding list_from
list_none zero place rest e = (refl, go (ltb 0 (length rest)) refl e)
  where
    go :
        (t : Bool)
        → ltb 0 (length rest) ≡ t
        → cond {A = List Listed} t (record { place = place; sound = false; number = 0 } ∷ []) [] ≡ []
        → length rest ≡ 0
    go true s f = let z : ◌≡◌ {A = ℕ} 0 1 = cc in absurd (omega arith)
    go false s f = omega (arith, ltb-false 0 (length rest) s)
list_none (suc blocks) place rest e = let z : ◌≡◌ {A = ℕ} 0 1 = cc in absurd (omega arith)

none_listed : (place : ℕ) (rest : List ℕ) → length rest ≡ 0 → list_from 0 place rest ≡ []
unfolding list_from
none_listed place rest e = rw (le-ltb 0 (length rest) (omega arith))

all_three :
    (r : Rescued) (f : List ℕ) (n : ℕ) (l : List Listed)
    → r.file ≡ f
    → r.kept ≡ n
    → r.list ≡ l
    → r ≡ record { file = f; kept = n; list = l }
all_three r f n l p q s = rw (← p, ← q, ← s)

module _ (file : List ℕ) where
  undamaged_list : (es : List Event) → read_file file ≡ Reading.Read es → (good_blocks file ≡ whole_blocks file) × ((rescued file).list ≡ [])
  unfolding read_rules good_blocks rescued
  undamaged_list es e =
      let n : ℕ = whole_blocks file in
      let p = all_passing n n 1 file (read_means file es e).0 in
      let good : good_from n n 1 file ≡ n = good_all n n 1 file p.0 in
      let none : n - n ≡ 0 = omega arith in
      (good, rw (good, none) (none_listed (suc n) (drop (512 * n) file) p.1))

  listed_none : (rescued file).list ≡ [] → read_file file ≡ Reading.Read (events_of (whole_blocks file) file)
  unfolding good_blocks rescued whole_blocks
  listed_none e =
      let n : ℕ = whole_blocks file in
      let k = list_none (n - good_from n n 1 file) (suc (good_from n n 1 file)) (drop (512 * good_from n n 1 file) file) e in
      let same : good_from n n 1 file ≡ n = omega (arith, good_most n n 1 file, k.0) in
      read_passing file n refl (rw same at (good_passing n n 1 file)) (rw same at k.1)

  kept_events : (rescued file).file ≡ file_bytes (events_of (good_blocks file) file)
  unfolding rescued
  kept_events = refl

  kept_count : (rescued file).kept ≡ length (events_of (good_blocks file) file)
  unfolding rescued
  kept_count = refl

  undamaged :
      (es : List Event)
      → AllBytes file
      → read_file file ≡ Reading.Read es
      → rescued file ≡ record { file = file; kept = length es; list = [] }
  undamaged es bytes e =
      let k = undamaged_list es e in
      let events : events_of (good_blocks file) file ≡ es = rw k.0 (read_means file es e).1 in
      all_three (rescued file) file (length es) []
      (kept_events ∙ ap file_bytes events ∙ sym (one_file file es bytes e)) (kept_count ∙ ap length events) k.1

-- ---- the places of the list

listed_places : (n place : ℕ) (rest : List ℕ) → map (λ l. l.place) (list_from n place rest) ≡ from place (length (list_from n place rest))
unfolding list_from from
listed_places zero place rest = go (ltb 0 (length rest))
  where
    go :
        (t : Bool)
        → map (λ (l : Listed). l.place) (cond t (record { place = place; sound = false; number = 0 } ∷ []) [])
        ≡ from place (length (cond {A = List Listed} t (record { place = place; sound = false; number = 0 } ∷ []) []))
    go true = refl
    go false = refl
listed_places (suc n) place rest = ap (λ (l : List ℕ). place ∷ l) (listed_places n (suc place) (drop 512 rest))

listed_count : (n place : ℕ) (rest : List ℕ) → length (list_from n place rest) ≡ n + cond (ltb 0 (length (drop (512 * n) rest))) 1 0
unfolding list_from
listed_count zero place rest = go (ltb 0 (length rest))
  where
    go :
        (t : Bool)
        → length (cond {A = List Listed} t (record { place = place; sound = false; number = 0 } ∷ []) []) ≡ 0 + cond t 1 0
    go true = refl
    go false = refl
listed_count (suc n) place rest =
    let d : 512 * suc n ≡ 512 + 512 * n = omega arith in
    rw (d, ← drop-drop (512 * n) 512 rest) (ap suc (listed_count n (suc place) (drop 512 rest)) ∙ omega arith)

all_named :
    (file : List ℕ) → length (rescued file).list ≡ whole_blocks file - good_blocks file + cond (ltb 0 (length file % 512)) 1 0
unfolding rescued whole_blocks good_blocks
all_named file =
    let n : ℕ = length file / 512 in
    let g : ℕ = good_from n n 1 file in
    let few : g ≤ n = good_most n n 1 file in
    let tail : length (drop (512 * (n - g)) (drop (512 * g) file)) ≡ length file % 512 =
    rw (length-drop, length-drop) (omega arith) in
    listed_count (n - g) (suc g) (drop (512 * g) file) ∙ rw tail

pub rescuing : Rescuing
unfolding rescued good_blocks good_from whole_blocks events_of file_bytes blocks_from list_from
rescuing =
    record {
      undamaged = undamaged;
      empty = refl;
      front = kept_front;
      reads = kept_reads;
      named = λ file. listed_places (whole_blocks file - good_blocks file) (suc (good_blocks file)) (drop (512 * good_blocks file) file);
      all_named = all_named;
      all_kept = λ file. (listed_none file, λ e. (undamaged_list file _ e).1);
    }
