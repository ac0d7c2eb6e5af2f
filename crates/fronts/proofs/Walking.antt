-- Blocks one after the other: one that passes is counted, and the first that does not ends the walk. Assumes nothing.
use Rattle.std.proofs.Common.{Ok, Err}
use Prim.Native.Nat.{ℕ, zero, suc, ◌+◌, ◌-◌, ◌*◌, ◌≤◌, ◌<◌}
use mathlib.Core.Path.{◌≡◌, refl, sym, ap, ◌∙◌}
use mathlib.Core.Bool.{Bool, true, false}
use mathlib.Core.List.{List, ◌++◌, append-nil, append_assoc}
use native.Mathlib.Omega.{arith}
use lib.Dec.{eqb}
use lib.ListN.{length, take, drop, length-drop}
use lib.Seq.{drop-drop, length-take-le}
use borrow.Author.Tests.{eq-eqb, ne_eqb, eqb-true, eqb-false}
use Rattle.model.specs.declared.Event.{Event}
use Rattle.model.specs.Refusals.{first_of}
use Rattle.octets.proofs.Parts.{length_parts}
use Rattle.file_records.specs.Records.{event_in}
use Rattle.file_blocks.specs.Blocks.{records_in, events_in, block_rules, read_block}
use Rattle.file_blocks.proofs.Unique.{Passed, passed, counts}
use Rattle.file_blocks.proofs.Answered.{says_records, says_refused}
use Rattle.day_files.specs.Files.{rules_from, events_of}
use Rattle.day_files.proofs.Changed.{block_passed}
use Rattle.day_files.proofs.Counting.{refused_first, tail_tests, no_tests}
use Rattle.fronts.specs.Good.{good_from, refusal_from}

-- ---- one block

module _ (whole blocks place : ℕ) (rest : List ℕ) where
  pub good_pass : first_of (block_rules whole place (take 512 rest)) ≡ 0 → good_from whole (suc blocks) place rest ≡ suc (good_from whole blocks (suc place) (drop 512 rest))
  unfolding good_from
  good_pass e = rw (eq-eqb _ 0 e)

  pub good_stop : (first_of (block_rules whole place (take 512 rest)) ≡ 0 → ⊥) → good_from whole (suc blocks) place rest ≡ 0
  unfolding good_from
  good_stop e = rw (ne_eqb _ 0 e)

  pub refusal_pass : first_of (block_rules whole place (take 512 rest)) ≡ 0 → refusal_from whole (suc blocks) place rest ≡ refusal_from whole blocks (suc place) (drop 512 rest)
  unfolding refusal_from
  refusal_pass e = rw (eq-eqb _ 0 e)

  pub refusal_stop : (first_of (block_rules whole place (take 512 rest)) ≡ 0 → ⊥) → refusal_from whole (suc blocks) place rest ≡ first_of (block_rules whole place (take 512 rest))
  unfolding refusal_from
  refusal_stop e = rw (ne_eqb _ 0 e)

-- events of one block more
events_more : (n : ℕ) (file : List ℕ) → events_of (n + 1) file ≡ events_of n file ++ events_in (take 512 (drop (512 * n) file))
unfolding events_of
events_more zero file = append-nil (events_in (take 512 file))
events_more (suc n) file =
    let s : suc n + 1 ≡ suc (n + 1) = omega arith in
    let d : 512 * suc n ≡ 512 + 512 * n = omega arith in
    rw (s, d, ← drop-drop (512 * n) 512 file, append_assoc)
    (ap (λ (es : List Event). events_in (take 512 file) ++ es) (events_more n (drop 512 file)))

-- ---- so many blocks have passed

pub record Walking (whole blocks place : ℕ) (file : List ℕ) (good : ℕ) : Type 0 where
  pub inside : good ≤ blocks
  pub left : good_from whole blocks place file ≡ good + good_from whole (blocks - good) (place + good) (drop (512 * good) file)
  pub refusal : refusal_from whole blocks place file ≡ refusal_from whole (blocks - good) (place + good) (drop (512 * good) file)

pub walking_start : (whole blocks place : ℕ) (file : List ℕ) → Walking whole blocks place file 0
walking_start whole blocks place file =
    let b : blocks - 0 ≡ blocks = omega arith in
    let p : place + 0 ≡ place = omega arith in
    let z : 0 + good_from whole blocks place file ≡ good_from whole blocks place file = omega arith in
    record { inside = omega arith; left = rw (b, p, z); refusal = rw (b, p) }

module _ (whole blocks place : ℕ) (file : List ℕ) {good : ℕ} (w : Walking whole blocks place file good) where
  pub walking_end : blocks ≤ good → (good ≡ good_from whole blocks place file) × (0 ≡ refusal_from whole blocks place file)
  unfolding good_from refusal_from
  walking_end h =
      let none : blocks - good ≡ 0 = omega arith in
      let left : good_from whole blocks place file ≡ good + 0 = rw none at w.left in
      (omega arith, sym (rw none at w.refusal))

  module _ (l : good < blocks) (long : 512 * blocks ≤ length file) where
    abbrev here : List ℕ
    here = take 512 (drop (512 * good) file)

    one_more : blocks - good ≡ suc (blocks - (good + 1))
    one_more = omega arith

    here_long : length here ≡ 512
    here_long = length-take-le 512 (drop (512 * good) file) (rw length-drop (omega arith))

    module _ {b : List ℕ} (e : b ≡ take (512 * good + 512 - 512 * good) (drop (512 * good) file)) where
      same : b ≡ here
      same = let n : 512 * good + 512 - 512 * good ≡ 512 = omega arith in rw n at e

      pub walking_pass :
          {count : ℕ}
          → Ok count ≡ read_block whole (place + good) b
          → Walking whole blocks place file (good + 1)
          × (count ≤ 25)
          × (count ≡ records_in b)
          × (events_of (good + 1) file ≡ events_of good file ++ events_in b)
      walking_pass {count} f =
          let s = says_records whole (place + good) count here (rw same at f) in
          let p : Passed whole (place + good) here = passed whole (place + good) here s.0 in
          let next : place + (good + 1) ≡ suc (place + good) = omega arith in
          let behind : drop 512 (drop (512 * good) file) ≡ drop (512 * (good + 1)) file =
          let d : 512 * good + 512 ≡ 512 * (good + 1) = omega arith in rw (drop-drop 512 (512 * good) file, d) in
          let left : good_from whole blocks place file ≡ good + suc (good_from whole (blocks - (good + 1)) (suc (place + good)) (drop 512 (drop (512 * good) file))) =
          w.left ∙ ap (λ (n : ℕ). good + n) (rw one_more (good_pass whole (blocks - (good + 1)) (place + good) (drop (512 * good) file) s.0)) in
          let refused : refusal_from whole blocks place file ≡ refusal_from whole (blocks - (good + 1)) (suc (place + good)) (drop 512 (drop (512 * good) file)) =
          w.refusal ∙ rw one_more (refusal_pass whole (blocks - (good + 1)) (place + good) (drop (512 * good) file) s.0) in (
            record {
              inside = omega arith;
              left = rw (next, ← behind) (omega (arith, left));
              refusal = rw (next, ← behind) refused;
            },
            omega (arith, s.1, counts here p.own),
            rw same s.1,
            rw same (events_more good file),
          )

      pub walking_refused :
          {n : ℕ}
          → Err n ≡ read_block whole (place + good) b
          → (good ≡ good_from whole blocks place file) × (n ≡ refusal_from whole blocks place file) × (n ≡ 0 → ⊥)
      walking_refused {n} f =
          let s = says_refused whole (place + good) n here here_long (rw same at f) in
          let not_zero : first_of (block_rules whole (place + good) here) ≡ 0 → ⊥ = λ z. s.1 (s.0 ∙ z) in
          let left : good_from whole blocks place file ≡ good + 0 =
          w.left ∙ ap (λ (m : ℕ). good + m) (rw one_more (good_stop whole (blocks - (good + 1)) (place + good) (drop (512 * good) file) not_zero)) in
          (omega arith, s.0 ∙ sym (w.refusal ∙ rw one_more (refusal_stop whole (blocks - (good + 1)) (place + good) (drop (512 * good) file) not_zero)), s.1)

-- a block has as many events as records
pub events_count : (b : List ℕ) → length (events_in b) ≡ records_in b
unfolding events_in
events_count b = length_parts (λ (r : List ℕ). event_in (take 20 r)) 20 (records_in b) (drop 8 b)

-- ---- with the tail

pub rules_refused :
    (whole blocks place : ℕ) (rest : List ℕ)
    → (refusal_from whole blocks place rest ≡ 0 → ⊥)
    → first_of (rules_from whole blocks place rest) ≡ refusal_from whole blocks place rest
unfolding refusal_from
rules_refused whole zero place rest e = absurd (e refl)
rules_refused whole (suc blocks) place rest e =
    go (eqb (first_of (block_rules whole place (take 512 rest))) 0) refl
    (λ f. rules_refused whole blocks (suc place) (drop 512 rest) (λ z. e (refusal_pass whole blocks place rest f ∙ z)))
  where
    go :
        (t : Bool)
        → eqb (first_of (block_rules whole place (take 512 rest))) 0 ≡ t
        → (first_of (block_rules whole place (take 512 rest)) ≡ 0
        → first_of (rules_from whole blocks (suc place) (drop 512 rest)) ≡ refusal_from whole blocks (suc place) (drop 512 rest))
        → first_of (rules_from whole (suc blocks) place rest) ≡ refusal_from whole (suc blocks) place rest
    go true s more =
        let f = eqb-true _ 0 s in
        block_passed whole blocks place rest f ∙ more f ∙ sym (refusal_pass whole blocks place rest f)
    go false s more =
        let f = eqb-false _ 0 s in
        sym (refused_first whole blocks place (first_of (block_rules whole place (take 512 rest))) rest refl f)
        ∙ sym (refusal_stop whole blocks place rest f)

-- where no block is refused, the tail decides
pub rules_passed :
    (whole blocks place : ℕ) (rest : List ℕ)
    → refusal_from whole blocks place rest ≡ 0
    → first_of (rules_from whole blocks place rest) ≡ first_of (rules_from whole 0 (place + blocks) (drop (512 * blocks) rest))
rules_passed whole zero place rest e = let p : place + 0 ≡ place = omega arith in rw p
rules_passed whole (suc blocks) place rest e =
    go (eqb (first_of (block_rules whole place (take 512 rest))) 0) refl
    (λ f. rules_passed whole blocks (suc place) (drop 512 rest) (sym (refusal_pass whole blocks place rest f) ∙ e))
  where
    go :
        (t : Bool)
        → eqb (first_of (block_rules whole place (take 512 rest))) 0 ≡ t
        → (first_of (block_rules whole place (take 512 rest)) ≡ 0
        → first_of (rules_from whole blocks (suc place) (drop 512 rest))
        ≡ first_of (rules_from whole 0 (suc place + blocks) (drop (512 * blocks) (drop 512 rest))))
        → first_of (rules_from whole (suc blocks) place rest)
        ≡ first_of (rules_from whole 0 (place + suc blocks) (drop (512 * suc blocks) rest))
    go true s more =
        let p : place + suc blocks ≡ suc place + blocks = omega arith in
        let d : 512 * suc blocks ≡ 512 + 512 * blocks = omega arith in
        let f = eqb-true _ 0 s in
        rw (p, d, ← drop-drop (512 * blocks) 512 rest) (block_passed whole blocks place rest f ∙ more f)
    go false s more =
        let f = eqb-false _ 0 s in absurd (f (sym (refusal_stop whole blocks place rest f) ∙ e))

pub rules_tail :
    (whole blocks place : ℕ) (rest : List ℕ)
    → refusal_from whole blocks place rest ≡ 0
    → 512 * blocks < length rest
    → first_of (rules_from whole blocks place rest) ≡ 26
rules_tail whole blocks place rest e h =
    rules_passed whole blocks place rest e
    ∙ tail_tests whole (place + blocks) (drop (512 * blocks) rest) (rw length-drop (omega arith))

pub rules_none :
    (whole blocks place : ℕ) (rest : List ℕ)
    → refusal_from whole blocks place rest ≡ 0
    → length rest ≤ 512 * blocks
    → first_of (rules_from whole blocks place rest) ≡ 0
rules_none whole blocks place rest e h =
    rules_passed whole blocks place rest e
    ∙ no_tests whole (place + blocks) (drop (512 * blocks) rest) (rw length-drop (omega arith))
