-- One changed byte is always noticed: a file that is read, with another value of any one byte, is refused with 24. Assumes nothing.
use Prim.Native.Nat.{ℕ, zero, suc, ◌+◌, ◌-◌, ◌*◌, ◌/◌, ◌≤◌, ◌<◌}
use mathlib.Core.Path.{◌≡◌, refl, sym, ◌∙◌}
use mathlib.Core.Bool.{Bool, true, false, cond}
use mathlib.Core.List.{List, [], ◌∷◌, ◌++◌}
use native.Mathlib.Omega.{arith}
use lib.ListN.{length, set, take, drop, length-set, length-drop}
use lib.Seq.{take-set-le, take-set-lt, drop-set-add, get_or-take, get_or-drop, length-take-le}
use lib.Dec.{eqb, ltb}
use borrow.Author.Tests.{eqb-true, ltb-true, ltb-false}
use Rattle.model.specs.Refusals.{Rule, ◌when◌, first_of}
use Rattle.model.proofs.Rules.{Numbered, passed_by}
use Rattle.model.specs.declared.Event.{Event}
use Rattle.file_blocks.specs.Blocks.{right_check, block_rules}
use Rattle.day_files.specs.Files.{whole_blocks, rules_from, read_rules, events_of, read_file, Reading}
use Rattle.file_blocks.specs.Changed.{Another}
use Rattle.file_blocks.proofs.Changed.{block_noticed}
use Rattle.file_blocks.proofs.Unique.{numbered, right_check_lem}

-- ---- a file

-- two lists of rules, one in front of the other: none holds in either
none_both :
    (rs ss : List Rule) → Numbered rs → first_of (rs ++ ss) ≡ 0 → (first_of rs ≡ 0) × (first_of ss ≡ 0)
unfolding first_of
none_both [] ss k e = (refl, e)
none_both (r ∷ rs) ss (k, ks) e = go r.holds k (none_both rs ss ks) e
  where
    go :
        (t : Bool)
        → (r.number ≡ 0 → ⊥)
        → (first_of (rs ++ ss) ≡ 0 → (first_of rs ≡ 0) × (first_of ss ≡ 0))
        → cond t r.number (first_of (rs ++ ss)) ≡ 0
        → (cond t r.number (first_of rs) ≡ 0) × (first_of ss ≡ 0)
    go true k more z = absurd (k z)
    go false k more z = more z

module _ (whole : ℕ) where
  -- no test of a block holds, and none behind it
  pub block_passes :
      (blocks place : ℕ) (rest : List ℕ)
      → first_of (rules_from whole (suc blocks) place rest) ≡ 0
      → (first_of (block_rules whole place (take 512 rest)) ≡ 0)
      × (first_of (rules_from whole blocks (suc place) (drop 512 rest)) ≡ 0)
  unfolding rules_from
  block_passes blocks place rest e =
      none_both (block_rules whole place (take 512 rest)) (rules_from whole blocks (suc place) (drop 512 rest))
      (numbered whole place (take 512 rest)) e

  -- a block that passes is passed over
  pub block_passed :
      (blocks place : ℕ) (rest : List ℕ)
      → first_of (block_rules whole place (take 512 rest)) ≡ 0
      → first_of (rules_from whole (suc blocks) place rest) ≡ first_of (rules_from whole blocks (suc place) (drop 512 rest))
  unfolding rules_from
  block_passed blocks place rest e =
      sym
      (passed_by (block_rules whole place (take 512 rest)) (rules_from whole blocks (suc place) (drop 512 rest))
      (numbered whole place (take 512 rest)) refl e refl)

  -- one whose check is wrong is refused
  pub block_refused_lem :
      (blocks place : ℕ) (rest : List ℕ)
      → right_check (take 512 rest) ≡ false
      → first_of (rules_from whole (suc blocks) place rest) ≡ 24
  unfolding rules_from block_rules first_of ◌when◌
  block_refused_lem blocks place rest e = rw e

  -- nothing stands behind the last block
  pub no_tail : (place : ℕ) (rest : List ℕ) → first_of (rules_from whole zero place rest) ≡ 0 → length rest ≡ 0
  unfolding rules_from first_of ◌when◌
  no_tail place rest e = go (ltb 0 (length rest)) refl e
    where
      go : (t : Bool) → ltb 0 (length rest) ≡ t → ◌≡◌ {A = ℕ} (cond t 26 0) 0 → length rest ≡ 0
      go true s z = absurd (omega arith)
      go false s z = omega (arith, ltb-false 0 (length rest) s)

  here :
      (blocks place : ℕ) (rest : List ℕ) (i v : ℕ)
      → i < 512
      → 512 ≤ length rest
      → Another rest i v
      → right_check (take 512 rest) ≡ true
      → first_of (rules_from whole (suc blocks) place (set rest i v)) ≡ 24
  here blocks place rest i v h l a right =
      let long : length (take 512 rest) ≡ 512 = length-take-le 512 rest l in
      let front : Another (take 512 rest) i v =
      record {
        inside = omega arith;
        old = rw (get_or-take 512 rest i 0 h) a.old;
        new = a.new;
        other = rw (get_or-take 512 rest i 0 h) a.other;
      } in
      block_refused_lem blocks place (set rest i v)
      (rw (take-set-lt 512 rest i v h) (block_noticed (take 512 rest) i v long front right))

  later :
      (blocks place : ℕ) (rest : List ℕ) (j v : ℕ)
      → first_of (block_rules whole place (take 512 rest)) ≡ 0
      → first_of (rules_from whole blocks (suc place) (set (drop 512 rest) j v)) ≡ 24
      → first_of (rules_from whole (suc blocks) place (set rest (512 + j) v)) ≡ 24
  later blocks place rest j v e more =
      let same : take 512 (set rest (512 + j) v) ≡ take 512 rest = take-set-le 512 rest (512 + j) v (omega arith) in
      block_passed blocks place (set rest (512 + j) v) (rw same e) ∙ rw (drop-set-add 512 rest j v) more

  behind : (rest : List ℕ) (j v : ℕ) → Another rest (512 + j) v → Another (drop 512 rest) j v
  behind rest j v a =
      record {
        inside = rw length-drop (omega (arith, a.inside));
        old = rw get_or-drop a.old;
        new = a.new;
        other = rw get_or-drop a.other;
      }

  from_noticed :
      (blocks place : ℕ) (rest : List ℕ) (i v : ℕ)
      → first_of (rules_from whole blocks place rest) ≡ 0
      → 512 * blocks ≤ length rest
      → Another rest i v
      → first_of (rules_from whole blocks place (set rest i v)) ≡ 24
  from_noticed zero place rest i v e h a = absurd (omega (arith, no_tail place rest e, a.inside))
  from_noticed (suc blocks) place rest i v e h a =
      let k = block_passes blocks place rest e in
      go (ltb i 512) refl k.0
      (λ j w.
      from_noticed blocks (suc place) (drop 512 rest) j v k.1 (rw length-drop (omega arith))
      (behind rest j v (rw w at a)))
    where
      go :
          (t : Bool)
          → ltb i 512 ≡ t
          → first_of (block_rules whole place (take 512 rest)) ≡ 0
          → ((j : ℕ)
          → i ≡ 512 + j
          → first_of (rules_from whole blocks (suc place) (set (drop 512 rest) j v)) ≡ 24)
          → first_of (rules_from whole (suc blocks) place (set rest i v)) ≡ 24
      go true s k more = here blocks place rest i v (ltb-true _ _ s) (omega arith) a (right_check_lem whole place (take 512 rest) k)
      go false s k more =
          let l : 512 ≤ i = ltb-false _ _ s in
          let w : i ≡ 512 + (i - 512) = omega arith in
          rw w (later blocks place rest (i - 512) v k (more (i - 512) w))

-- a file is read where no test holds
pub read_means :
    (file : List ℕ) (es : List Event)
    → read_file file ≡ Reading.Read es
    → (first_of (read_rules file) ≡ 0) × (events_of (whole_blocks file) file ≡ es)
unfolding read_file
read_means file es e = go (eqb (first_of (read_rules file)) 0) refl e
  where
    go :
        (t : Bool)
        → eqb (first_of (read_rules file)) 0 ≡ t
        → cond t (Reading.Read (events_of (whole_blocks file) file)) (Reading.Refused (first_of (read_rules file))) ≡ Reading.Read es
        → (first_of (read_rules file) ≡ 0) × (events_of (whole_blocks file) file ≡ es)
    go true s f = (eqb-true _ 0 s, cc)
    go false s f = let z : ◌≡◌ {A = ℕ} 0 1 = cc in absurd (omega arith)

-- with another value of any one byte it is refused: 24
pub file_noticed :
    (file : List ℕ) (es : List Event) (i v : ℕ)
    → read_file file ≡ Reading.Read es
    → Another file i v
    → read_file (set file i v) ≡ Reading.Refused 24
unfolding read_file read_rules whole_blocks
file_noticed file es i v e a =
    let n : first_of (read_rules (set file i v)) ≡ 24 =
    rw (length-set file i v)
    (from_noticed (length file / 512) (length file / 512) 1 file i v (read_means file es e).0 (omega arith) a) in
    rw n
