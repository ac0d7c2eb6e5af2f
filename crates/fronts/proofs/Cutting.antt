-- A file in two parts: the blocks of the first part that a whole block follows are judged by themselves, and the rest goes on
-- behind them. Assumes nothing.
use Prim.Native.Nat.{ℕ, zero, suc, ◌+◌, ◌-◌, ◌*◌, ◌/◌, ◌≤◌, ◌<◌}
use mathlib.Core.Path.{◌≡◌, refl, sym, ap, ◌∙◌}
use mathlib.Core.Bool.{Bool, true, false}
use mathlib.Core.List.{List, ◌++◌, append_assoc}
use native.Mathlib.Omega.{arith}
use lib.Dec.{eqb}
use lib.ListN.{length, take, drop, length-append, length-drop}
use lib.Seq.{drop-drop, take-append-le, drop-append-le}
use borrow.Author.Tests.{ne_eqb, eqb-true, eqb-false}
use Rattle.model.specs.declared.Event.{Event}
use Rattle.model.specs.Refusals.{first_of}
use Rattle.file_blocks.specs.Blocks.{events_in, block_rules}
use Rattle.day_files.specs.Files.{rules_from, events_of}
use Rattle.day_files.proofs.Changed.{block_passed}
use Rattle.day_files.proofs.Counting.{refused_first}
use Rattle.fronts.specs.Good.{good_from, refusal_from, front_from, followed, look_from}
use Rattle.fronts.proofs.Read.{good_most}
use Rattle.fronts.proofs.Walking.{good_pass, good_stop, refusal_pass, refusal_stop}

-- ---- what stands behind blocks changes nothing in them

part : (b more : List ℕ) (n : ℕ) → 512 * suc n ≤ length b → (take 512 (b ++ more) ≡ take 512 b) × (drop 512 (b ++ more) ≡ drop 512 b ++ more) × (512 * n ≤ length (drop 512 b))
part b more n h = (take-append-le 512 b more (omega arith), drop-append-le 512 b more (omega arith), rw length-drop (omega arith))

module _ (more : List ℕ) (whole : ℕ) where
  good_front : (n place : ℕ) (b : List ℕ) → 512 * n ≤ length b → good_from whole n place (b ++ more) ≡ good_from whole n place b
  unfolding good_from
  good_front zero place b h = refl
  good_front (suc n) place b h =
      let p = part b more n h in rw (p.0, p.1, good_front n (suc place) (drop 512 b) p.2)

  refusal_front : (n place : ℕ) (b : List ℕ) → 512 * n ≤ length b → refusal_from whole n place (b ++ more) ≡ refusal_from whole n place b
  unfolding refusal_from
  refusal_front zero place b h = refl
  refusal_front (suc n) place b h =
      let p = part b more n h in rw (p.0, p.1, refusal_front n (suc place) (drop 512 b) p.2)

pub events_front : (more : List ℕ) (n : ℕ) (b : List ℕ) → 512 * n ≤ length b → events_of n (b ++ more) ≡ events_of n b
unfolding events_of
events_front more zero b h = refl
events_front more (suc n) b h =
    let p = part b more n h in rw (p.0, p.1, events_front more n (drop 512 b) p.2)

pub events_split : (n k : ℕ) (rest : List ℕ) → events_of (n + k) rest ≡ events_of n rest ++ events_of k (drop (512 * n) rest)
unfolding events_of
events_split zero k rest = let z : 0 + k ≡ k = omega arith in rw z
events_split (suc n) k rest =
    let s : suc n + k ≡ suc (n + k) = omega arith in
    let d : 512 * suc n ≡ 512 + 512 * n = omega arith in
    rw (s, d, ← drop-drop (512 * n) 512 rest, append_assoc)
    (ap (λ (es : List Event). events_in (take 512 rest) ++ es) (events_split n k (drop 512 rest)))

-- ---- a block that is not the last

not_last : (whole place : ℕ) (b : List ℕ) → 1 ≤ place → place < whole → block_rules whole place b ≡ block_rules 0 place b
unfolding block_rules
not_last whole place b h l =
    rw (ne_eqb place whole (λ (z : place ≡ whole). omega arith), ne_eqb place 0 (λ (z : place ≡ 0). omega arith))

-- blocks that pass, with others behind them
record On (whole n m place : ℕ) (rest : List ℕ) : Type 0 where
  pub all : good_from 0 n place rest ≡ n
  pub good : good_from whole (n + m) place rest ≡ n + good_from whole m (place + n) (drop (512 * n) rest)
  pub tests : first_of (rules_from whole (n + m) place rest) ≡ first_of (rules_from whole m (place + n) (drop (512 * n) rest))

-- and blocks of which one is refused
record Off (whole n m place : ℕ) (rest : List ℕ) : Type 0 where
  pub good : good_from whole (n + m) place rest ≡ good_from 0 n place rest
  pub tests : first_of (rules_from whole (n + m) place rest) ≡ refusal_from 0 n place rest

module _ (whole m : ℕ) where
  step_on :
      (n place : ℕ) (rest : List ℕ)
      → first_of (block_rules 0 place (take 512 rest)) ≡ 0
      → block_rules whole place (take 512 rest) ≡ block_rules 0 place (take 512 rest)
      → On whole n m (suc place) (drop 512 rest)
      → On whole (suc n) m place rest
  step_on n place rest e same o =
      let s : suc n + m ≡ suc (n + m) = omega arith in
      let p : place + suc n ≡ suc place + n = omega arith in
      let d : 512 * suc n ≡ 512 + 512 * n = omega arith in
      let passes : first_of (block_rules whole place (take 512 rest)) ≡ 0 = rw same e in
      let more : n + good_from whole m (suc place + n) (drop (512 * n) (drop 512 rest)) ≡ good_from whole (n + m) (suc place) (drop 512 rest) = sym o.good in
      record {
        all = good_pass 0 n place rest e ∙ ap suc o.all;
        good = rw (s, p, d, ← drop-drop (512 * n) 512 rest, good_pass whole (n + m) place rest passes) (omega (arith, more));
        tests = rw (s, p, d, ← drop-drop (512 * n) 512 rest) (block_passed whole (n + m) place rest passes ∙ o.tests);
      }

  step_off :
      (n place : ℕ) (rest : List ℕ)
      → first_of (block_rules 0 place (take 512 rest)) ≡ 0
      → block_rules whole place (take 512 rest) ≡ block_rules 0 place (take 512 rest)
      → Off whole n m (suc place) (drop 512 rest)
      → Off whole (suc n) m place rest
  step_off n place rest e same o =
      let s : suc n + m ≡ suc (n + m) = omega arith in
      let passes : first_of (block_rules whole place (take 512 rest)) ≡ 0 = rw same e in
      record {
        good = rw (s, good_pass whole (n + m) place rest passes, good_pass 0 n place rest e) (ap suc o.good);
        tests = rw (s, refusal_pass 0 n place rest e) (block_passed whole (n + m) place rest passes ∙ o.tests);
      }

  stop_off :
      (n place : ℕ) (rest : List ℕ)
      → (first_of (block_rules 0 place (take 512 rest)) ≡ 0 → ⊥)
      → block_rules whole place (take 512 rest) ≡ block_rules 0 place (take 512 rest)
      → Off whole (suc n) m place rest
  stop_off n place rest e same =
      let s : suc n + m ≡ suc (n + m) = omega arith in
      let stops : first_of (block_rules whole place (take 512 rest)) ≡ 0 → ⊥ = rw same e in
      record {
        good = rw (s, good_stop whole (n + m) place rest stops, good_stop 0 n place rest e);
        tests =
            rw (s, refusal_stop 0 n place rest e)
            (sym (refused_first whole (n + m) place (first_of (block_rules whole place (take 512 rest))) rest refl stops) ∙ ap first_of same);
      }

  on : (n place : ℕ) (rest : List ℕ) → 1 ≤ place → (1 ≤ n → place + n ≤ whole) → refusal_from 0 n place rest ≡ 0 → On whole n m place rest
  unfolding good_from
  on zero place rest h l e =
      let z : 0 + m ≡ m = omega arith in
      let p : place + 0 ≡ place = omega arith in
      let g : 0 + good_from whole m place rest ≡ good_from whole m place rest = omega arith in
      record { all = refl; good = rw (z, p, g); tests = rw (z, p) }
  on (suc n) place rest h l e =
      let w : place + suc n ≤ whole = l (omega arith) in
      go (eqb (first_of (block_rules 0 place (take 512 rest))) 0) refl (not_last whole place (take 512 rest) h (omega arith))
      (λ f. on n (suc place) (drop 512 rest) (omega arith) (λ k. omega arith) (sym (refusal_pass 0 n place rest f) ∙ e))
    where
      go :
          (t : Bool)
          → eqb (first_of (block_rules 0 place (take 512 rest))) 0 ≡ t
          → block_rules whole place (take 512 rest) ≡ block_rules 0 place (take 512 rest)
          → (first_of (block_rules 0 place (take 512 rest)) ≡ 0 → On whole n m (suc place) (drop 512 rest))
          → On whole (suc n) m place rest
      go true s same more = let f = eqb-true _ 0 s in step_on n place rest f same (more f)
      go false s same more = let f = eqb-false _ 0 s in absurd (f (sym (refusal_stop 0 n place rest f) ∙ e))

  off : (n place : ℕ) (rest : List ℕ) → 1 ≤ place → (1 ≤ n → place + n ≤ whole) → (refusal_from 0 n place rest ≡ 0 → ⊥) → Off whole n m place rest
  unfolding refusal_from
  off zero place rest h l e = absurd (e refl)
  off (suc n) place rest h l e =
      let w : place + suc n ≤ whole = l (omega arith) in
      go (eqb (first_of (block_rules 0 place (take 512 rest))) 0) refl (not_last whole place (take 512 rest) h (omega arith))
      (λ f. off n (suc place) (drop 512 rest) (omega arith) (λ k. omega arith) (λ z. e (refusal_pass 0 n place rest f ∙ z)))
    where
      go :
          (t : Bool)
          → eqb (first_of (block_rules 0 place (take 512 rest))) 0 ≡ t
          → block_rules whole place (take 512 rest) ≡ block_rules 0 place (take 512 rest)
          → (first_of (block_rules 0 place (take 512 rest)) ≡ 0 → Off whole n m (suc place) (drop 512 rest))
          → Off whole (suc n) m place rest
      go true s same more = let f = eqb-true _ 0 s in step_off n place rest f same (more f)
      go false s same more = stop_off n place rest (eqb-false _ 0 s) same

-- ---- a part that is read, and more behind it

module _ (all m n passed : ℕ) (l : List ℕ) (e : all ≡ n + m) where
  joined_on :
      (r : List ℕ)
      → drop (512 * n) l ≡ r
      → On (passed + all) n m (suc passed) l
      → (good_from (passed + all) all (suc passed) l ≡ n + good_from (passed + n + m) m (suc (passed + n)) r)
      × (first_of (rules_from (passed + all) all (suc passed) l) ≡ first_of (rules_from (passed + n + m) m (suc (passed + n)) r))
  joined_on r d o =
      let w : passed + n + m ≡ passed + all = omega arith in
      let p : suc (passed + n) ≡ suc passed + n = omega arith in (
        ap (λ (k : ℕ). good_from (passed + all) k (suc passed) l) e ∙ o.good ∙ rw (w, p, d),
        ap (λ (k : ℕ). first_of (rules_from (passed + all) k (suc passed) l)) e ∙ o.tests ∙ rw (w, p, d),
      )

  joined_off :
      Off (passed + all) n m (suc passed) l
      → (good_from (passed + all) all (suc passed) l ≡ good_from 0 n (suc passed) l)
      × (first_of (rules_from (passed + all) all (suc passed) l) ≡ refusal_from 0 n (suc passed) l)
  joined_off o =
      (ap (λ (k : ℕ). good_from (passed + all) k (suc passed) l) e ∙ o.good, ap (λ (k : ℕ). first_of (rules_from (passed + all) k (suc passed) l)) e ∙ o.tests)

module _ (passed : ℕ) (b more : List ℕ) where
  abbrev n : ℕ
  n = followed b

  pub fits : 512 * n ≤ length b
  unfolding followed
  fits = omega arith

  -- the blocks of all, from those of the part
  abbrev all_blocks : ℕ
  all_blocks = length (b ++ more) / 512

  pub behind : drop (512 * n) (b ++ more) ≡ drop (512 * n) b ++ more
  behind = drop-append-le (512 * n) b more fits

  blocks_behind : all_blocks ≡ n + length (drop (512 * n) b ++ more) / 512
  unfolding followed
  blocks_behind = rw (length-append, length-append, length-drop) (omega arith)

  before_last : 1 ≤ n → suc passed + n ≤ passed + all_blocks
  unfolding followed
  before_last h = rw length-append (omega arith)

  same_refusal : refusal_from 0 n (suc passed) (b ++ more) ≡ refusal_from 0 n (suc passed) b
  same_refusal = refusal_front more 0 n (suc passed) b fits

  pub front_on :
      (look_from passed b).refusal ≡ 0
      → ((look_from passed b).good ≡ n)
      × ((front_from passed (b ++ more)).good ≡ n + (front_from (passed + n) (drop (512 * n) b ++ more)).good)
      × ((front_from passed (b ++ more)).refusal ≡ (front_from (passed + n) (drop (512 * n) b ++ more)).refusal)
  unfolding look_from front_from
  front_on e =
      let m : ℕ = length (drop (512 * n) b ++ more) / 512 in
      let o : On (passed + all_blocks) n m (suc passed) (b ++ more) =
      on (passed + all_blocks) m n (suc passed) (b ++ more) (omega arith) before_last (same_refusal ∙ e) in
      let j = joined_on all_blocks m n passed (b ++ more) blocks_behind (drop (512 * n) b ++ more) behind o in
      (sym (good_front more 0 n (suc passed) b fits) ∙ o.all, j.0, j.1)

  pub front_off :
      ((look_from passed b).refusal ≡ 0 → ⊥)
      → ((front_from passed (b ++ more)).good ≡ (look_from passed b).good)
      × ((front_from passed (b ++ more)).refusal ≡ (look_from passed b).refusal)
  unfolding look_from front_from
  front_off e =
      let m : ℕ = length (drop (512 * n) b ++ more) / 512 in
      let o : Off (passed + all_blocks) n m (suc passed) (b ++ more) =
      off (passed + all_blocks) m n (suc passed) (b ++ more) (omega arith) before_last (λ z. e (sym same_refusal ∙ z)) in
      let j = joined_off all_blocks m n passed (b ++ more) blocks_behind o in
      (j.0 ∙ good_front more 0 n (suc passed) b fits, j.1 ∙ same_refusal)

-- those that are good are among those that are followed
pub good_followed : (passed : ℕ) (b : List ℕ) → 512 * (look_from passed b).good ≤ length b
unfolding look_from followed
good_followed passed b = omega (arith, good_most 0 (length b / 512 - 1) (suc passed) b)
