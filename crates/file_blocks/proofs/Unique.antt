-- A block that passes its tests is the one that its events are written to. Assumes nothing.
use Prim.Native.Nat.{ℕ, zero, suc, ◌+◌, ◌-◌, ◌*◌, ◌≤◌}
use mathlib.Core.Path.{◌≡◌, refl, sym, ◌∙◌}
use mathlib.Core.Bool.{true, ◌&&◌, ◌||◌}
use mathlib.Core.List.{List, [], ◌∷◌, ◌++◌}
use native.Mathlib.Omega.{arith}
use lib.ListN.{length, take, drop, replicate, length-drop, take-append-drop}
use lib.Seq.{length-take-le, take_all, take-add, take-take, drop-drop, drop-cons}
use lib.Dec.{leb, eqb}
use borrow.Author.Tests.{eqb-true, leb-true, not-false}
use Rattle.model.specs.Lists.{all}
use Rattle.model.specs.Refusals.{◌when◌, first_of}
use Rattle.model.proofs.Rules.{Numbered, none_holds}
use Rattle.model.proofs.Bools.{and_left, and_right}
use Rattle.octets.specs.Numbers.{AllBytes, digits, parts, flat}
use Rattle.octets.proofs.Digits.{digits_worth, bytes_take, bytes_drop}
use Rattle.octets.proofs.Parts.{length_parts}
use Rattle.model.specs.declared.Event.{Event}
use Rattle.file_records.specs.Records.{byte, record_bytes, event_in, is_record, all_zero}
use Rattle.file_blocks.specs.Blocks.{check_of, places_bytes, body_bytes, block_bytes, number_in, records_in, check_in, events_in, right_check, own_layout, block_rules}
use Rattle.file_records.proofs.Recorded.{six, four_again, all_zeros, record_again}
use Rattle.file_records.proofs.Looking.{drop_take}

-- records one after the other, each with the bytes of the event that it tells
records_again :
    (n : ℕ) (b : List ℕ)
    → 20 * n ≤ length b
    → AllBytes b
    → all is_record (parts (take 20) 20 n b) ≡ true
    → flat record_bytes (parts (λ r. event_in (take 20 r)) 20 n b) ≡ take (20 * n) b
unfolding parts flat all
records_again zero b h bytes e = refl
records_again (suc n) b h bytes e =
    let m : 20 * suc n ≡ 20 + 20 * n = omega arith in
    let one : record_bytes (event_in (take 20 b)) ≡ take 20 b =
    record_again (take 20 b) (length-take-le 20 b (omega arith)) (bytes_take 20 b bytes) (and_left (is_record (take 20 b)) _ e) in
    rw (
      m,
      take-add 20 (20 * n) b,
      one,
      records_again n (drop 20 b) (rw length-drop (omega arith)) (bytes_drop 20 b bytes) (and_right (is_record (take 20 b)) _ e),
    )

module _ (b : List ℕ) (long : length b ≡ 512) (bytes : AllBytes b) where
  -- the first eight bytes
  eight : byte b 6 ≡ 0 → byte b 7 ≡ 0 → digits 4 (number_in b) ++ digits 2 (records_in b) ++ (0 ∷ 0 ∷ []) ≡ take 8 b
  eight x y =
      let four : digits 4 (number_in b) ≡ take 4 b = four_again (take 4 b) (length-take-le 4 b (omega arith)) (bytes_take 4 b bytes) in
      let two : digits 2 (records_in b) ≡ take 2 (drop 4 b) =
      rw (length-take-le 2 (drop 4 b) (rw length-drop (omega arith))) at (digits_worth (take 2 (drop 4 b)) (bytes_take 2 (drop 4 b) (bytes_drop 4 b bytes))) in
      let last : 0 ∷ 0 ∷ [] ≡ take 2 (drop 6 b) =
      rw (drop-cons b 6 0 (omega arith), drop-cons b 7 0 (omega arith), x, y) in
      rw (four, two, last, ← take-add 4 2 b, ← take-add 6 2 b)

  places :
      records_in b ≤ 25
      → all is_record (parts (take 20) 20 (records_in b) (drop 8 b)) ≡ true
      → all_zero (drop (8 + 20 * records_in b) (take 508 b)) ≡ true
      → places_bytes (events_in b) ≡ take 500 (drop 8 b)
  unfolding places_bytes events_in
  places few sound unused =
      let n : ℕ = records_in b in
      let q : List ℕ = take 500 (drop 8 b) in
      let all_places : drop 8 (take 508 b) ≡ q = drop_take 8 500 b (omega arith) in
      let q_long : length q ≡ 500 = length-take-le 500 (drop 8 b) (rw length-drop (omega arith)) in
      let none : all_zero (drop (20 * n) q) ≡ true = rw (← drop-drop (20 * n) 8 (take 508 b), all_places) at unused in
      let rest : length (drop (20 * n) q) ≡ 20 * (25 - n) = rw (length-drop, q_long) (omega arith) in
      let zeros : drop (20 * n) q ≡ replicate (20 * (25 - n)) 0 = rw rest at (all_zeros (drop (20 * n) q) none) in
      let kept : take (20 * n) (drop 8 b) ≡ take (20 * n) q = sym (take-take (20 * n) 500 (drop 8 b) (omega arith)) in
      rw (
        length_parts (λ (r : List ℕ). event_in (take 20 r)) 20 n (drop 8 b),
        records_again n (drop 8 b) (rw length-drop (omega arith)) (bytes_drop 8 b bytes) sound,
        kept,
        ← zeros,
      )
      (take-append-drop (20 * n) q)

  -- all but the check
  body :
      (es : List Event)
      → length es ≡ records_in b
      → byte b 6 ≡ 0
      → byte b 7 ≡ 0
      → places_bytes es ≡ take 500 (drop 8 b)
      → body_bytes (number_in b) es ≡ take 508 b
  unfolding body_bytes
  body es l x y p = rw (l, p, eight x y) (sym (take-add 8 500 b))

  pub counted : length (events_in b) ≡ records_in b
  unfolding events_in
  counted = length_parts (λ (r : List ℕ). event_in (take 20 r)) 20 (records_in b) (drop 8 b)

  check_front : check_of (take 508 b) ≡ check_of b
  unfolding check_of
  check_front = rw (take-take 508 508 b (omega arith))

  pub block_again : right_check b ≡ true → own_layout b ≡ true → block_bytes (number_in b) (events_in b) ≡ b
  unfolding right_check own_layout block_bytes
  block_again right own =
      let k =
      six (leb 1 (records_in b)) (leb (records_in b) 25) (eqb (byte b 6) 0) (eqb (byte b 7) 0)
      (all is_record (parts (take 20) 20 (records_in b) (drop 8 b))) (all_zero (drop (8 + 20 * records_in b) (take 508 b))) own in
      let count : length (events_in b) ≡ records_in b = counted in
      let front : body_bytes (number_in b) (events_in b) ≡ take 508 b =
      body (events_in b) count (eqb-true _ _ k.2) (eqb-true _ _ k.3) (places (leb-true _ _ k.1) k.4 k.5) in
      let same : check_of (take 508 b) ≡ check_in b = check_front ∙ sym (eqb-true _ _ right) in
      let four : digits 4 (check_in b) ≡ take 4 (drop 508 b) =
      four_again (take 4 (drop 508 b)) (length-take-le 4 (drop 508 b) (rw length-drop (omega arith)))
      (bytes_take 4 (drop 508 b) (bytes_drop 508 b bytes)) in
      rw (front, same, four, take_all 4 (drop 508 b) (rw length-drop (omega arith))) (take-append-drop 508 b)

-- ---- passed

pub counts : (b : List ℕ) → own_layout b ≡ true → (1 ≤ records_in b) × (records_in b ≤ 25)
unfolding own_layout
counts b own =
    let k =
    six (leb 1 (records_in b)) (leb (records_in b) 25) (eqb (byte b 6) 0) (eqb (byte b 7) 0)
    (all is_record (parts (take 20) 20 (records_in b) (drop 8 b))) (all_zero (drop (8 + 20 * records_in b) (take 508 b))) own in
    (leb-true _ _ k.0, leb-true _ _ k.1)

pub numbered : (whole place : ℕ) (b : List ℕ) → Numbered (block_rules whole place b)
unfolding block_rules ◌when◌
numbered whole place b = (λ z. omega arith, (λ z. omega arith, (λ z. omega arith, tt)))

pub right_check_lem : (whole place : ℕ) (b : List ℕ) → first_of (block_rules whole place b) ≡ 0 → right_check b ≡ true
unfolding block_rules ◌when◌
right_check_lem whole place b e = not-false _ (none_holds (block_rules whole place b) (numbered whole place b) e).0

-- what the tests of a block say once it has passed them
pub record Passed (whole place : ℕ) (b : List ℕ) : Type 0 where
  pub right : right_check b ≡ true
  pub number : number_in b ≡ place
  pub own : own_layout b ≡ true
  pub full : (eqb place whole || eqb (records_in b) 25) ≡ true

pub passed : (whole place : ℕ) (b : List ℕ) → first_of (block_rules whole place b) ≡ 0 → Passed whole place b
unfolding block_rules ◌when◌
passed whole place b e =
    let k = none_holds (block_rules whole place b) (numbered whole place b) e in
    let l : (own_layout b && (eqb place whole || eqb (records_in b) 25)) ≡ true = not-false _ k.1.1.0 in
    record {
      right = not-false _ k.0;
      number = eqb-true _ _ (not-false _ k.1.0);
      own = and_left (own_layout b) _ l;
      full = and_right (own_layout b) _ l;
    }
