-- A file: reading back gives the events that were written. Assumes nothing.
use Prim.Native.Nat.{ℕ, zero, suc, ◌+◌, ◌*◌, ◌/◌, ◌≤◌, ◌<◌}
use mathlib.Core.Path.{◌≡◌, refl, sym, ◌∙◌}
use mathlib.Core.Bool.{Bool, true, false, or-true, ◌||◌}
use mathlib.Core.List.{List, [], ◌∷◌, ◌++◌}
use native.Mathlib.Omega.{arith}
use lib.ListN.{length, take, drop, length-append, length-take, length-drop, take-append-drop}
use lib.Seq.{take_at, drop_at}
use lib.Dec.{eqb}
use borrow.Author.Tests.{eq-eqb, eqb-true, eqb-false}
use Rattle.model.specs.Lists.{all}
use Rattle.model.specs.Refusals.{◌when◌, first_of}
use Rattle.model.proofs.Bools.{and_left, and_right, and_both}
use Rattle.model.specs.declared.Event.{Event}
use Rattle.file_records.specs.Records.{is_event}
use Rattle.file_blocks.specs.Blocks.{block_bytes}
use Rattle.day_files.specs.Files.{blocks_from, file_bytes, whole_blocks, rules_from, read_rules, events_of, read_file, Reading}
use Rattle.file_blocks.proofs.Blocked.{length_block, written_events, written_passes}
use Rattle.day_files.proofs.Changed.{block_passed}

module _ {A : Type 0} (p : A → Bool) where
  all_take : (n : ℕ) (xs : List A) → all p xs ≡ true → all p (take n xs) ≡ true
  unfolding all
  all_take zero xs e = refl
  all_take (suc n) [] e = refl
  all_take (suc n) (x ∷ xs) e = and_both (and_left (p x) _ e) (all_take n xs (and_right (p x) _ e))

  all_drop : (n : ℕ) (xs : List A) → all p xs ≡ true → all p (drop n xs) ≡ true
  unfolding all
  all_drop zero xs e = e
  all_drop (suc n) [] e = refl
  all_drop (suc n) (x ∷ xs) e = all_drop n xs (and_right (p x) _ e)

  none : (xs : List A) → length xs ≤ 0 → xs ≡ []
  none [] h = refl
  none (x ∷ xs) h = absurd (omega arith)

-- what is read of so many blocks that were written from a place on
pub record Back (whole blocks place : ℕ) (es : List Event) : Type 0 where
  pub passes : first_of (rules_from whole blocks place (blocks_from blocks place es)) ≡ 0
  pub events : events_of blocks (blocks_from blocks place es) ≡ es
  pub long : length (blocks_from blocks place es) ≡ 512 * blocks

-- one block in front of what is read back
one_more :
    (whole blocks place : ℕ) (es : List Event)
    → all is_event es ≡ true
    → place < 4_294_967_296
    → 1 ≤ length (take 25 es)
    → (eqb place whole || eqb (length (take 25 es)) 25) ≡ true
    → Back whole blocks (suc place) (drop 25 es)
    → Back whole (suc blocks) place es
unfolding blocks_from events_of
one_more whole blocks place es h small some last r =
    let few : length (take 25 es) ≤ 25 = rw length-take (omega arith) in
    let b : List ℕ = block_bytes place (take 25 es) in
    let rest : List ℕ = blocks_from blocks (suc place) (drop 25 es) in
    let front : take 512 (b ++ rest) ≡ b = take_at b rest 512 (length_block place (take 25 es) few) in
    let behind : drop 512 (b ++ rest) ≡ rest = drop_at b rest 512 (length_block place (take 25 es) few) in
    record {
      passes =
          block_passed whole blocks place (b ++ rest) (rw front (written_passes place (take 25 es) few whole small some last))
          ∙ rw behind r.passes;
      events =
          rw (front, behind, written_events place (take 25 es) few (all_take is_event 25 es h), r.events) (take-append-drop 25 es);
      long = rw (length-append, length_block place (take 25 es) few, r.long) (omega arith);
    }

blocks_back :
    (whole blocks place : ℕ) (es : List Event)
    → all is_event es ≡ true
    → length es ≤ 25 * blocks
    → 25 * blocks < length es + 25
    → place + blocks ≡ suc whole
    → whole < 4_294_967_296
    → Back whole blocks place es
unfolding blocks_from events_of rules_from first_of ◌when◌
blocks_back whole zero place es h most least last small =
    record { passes = refl; events = sym (none is_event es (omega arith)); long = refl }
blocks_back whole (suc blocks) place es h most least last small =
    one_more whole blocks place es h (omega arith) (rw length-take (omega arith)) full
    (blocks_back whole blocks (suc place) (drop 25 es) (all_drop is_event 25 es h) (rw length-drop (omega arith))
    (rw length-drop (omega arith)) (omega arith) small)
  where
    full : (eqb place whole || eqb (length (take 25 es)) 25) ≡ true
    full = go (eqb blocks 0) refl
      where
        go : (t : Bool) → eqb blocks 0 ≡ t → (eqb place whole || eqb (length (take 25 es)) 25) ≡ true
        go true e =
            let z : blocks ≡ 0 = eqb-true _ _ e in
            let same : place ≡ whole = omega arith in
            rw (eq-eqb place whole same)
        go false e =
            let z : blocks ≡ 0 → ⊥ = eqb-false _ _ e in
            let whole_block : length (take 25 es) ≡ 25 = rw length-take (omega arith) in
            rw (eq-eqb (length (take 25 es)) 25 whole_block) (or-true (eqb place whole))

pub read_back :
    (es : List Event)
    → all is_event es ≡ true
    → length es ≤ 25 * 4_294_967_295
    → read_file (file_bytes es) ≡ Reading.Read es
unfolding read_file read_rules whole_blocks file_bytes
read_back es h l =
    let n : ℕ = (length es + 24) / 25 in
    let r : Back n n 1 es = blocks_back n n 1 es h (omega arith) (omega arith) (omega arith) (omega arith) in
    let whole : length (blocks_from n 1 es) / 512 ≡ n = omega (arith, r.long) in
    rw (whole, r.passes, r.events)
