-- One block: what is written under a number is read back, and passes every test. Assumes nothing.
use Prim.Native.Nat.{ℕ, zero, suc, ◌+◌, ◌-◌, ◌*◌, ◌^◌, ◌≤◌, ◌<◌}
use mathlib.Core.Path.{◌≡◌, refl, sym, ap, ◌∙◌}
use mathlib.Core.Bool.{true, ◌||◌}
use mathlib.Core.List.{List, [], ◌∷◌, ◌++◌, map, append_assoc, append-nil}
use native.Mathlib.Omega.{arith}
use lib.ListN.{length, take, drop, replicate, length-append, length-replicate}
use lib.Seq.{take_at, drop_at, take_all, drop-drop}
use lib.Dec.{leb, eqb}
use borrow.Author.Tests.{eq-eqb, le-leb}
use Rattle.model.specs.Lists.{all}
use Rattle.model.proofs.Bools.{and_both}
use Rattle.model.specs.Refusals.{◌when◌, first_of}
use Rattle.octets.specs.Numbers.{digits, parts, flat}
use Rattle.octets.proofs.Digits.{length_digits, worth_digits}
use Rattle.octets.proofs.Parts.{length_flat, parts_flat}
use Rattle.model.specs.declared.Event.{Event}
use Rattle.file_records.specs.Records.{byte, record_bytes, is_event, event_in, is_record, all_zero}
use Rattle.file_blocks.specs.Blocks.{check_of, places_bytes, body_bytes, block_bytes, number_in, records_in, check_in, events_in, right_check, own_layout, block_rules}
use Rattle.file_records.proofs.Recorded.{length_record, record_sound, event_back}

zeros : (n : ℕ) → all_zero (replicate n 0) ≡ true
unfolding all_zero all
zeros zero = refl
zeros (suc n) = zeros n

sound_all : (es : List Event) → all is_record (map record_bytes es) ≡ true
unfolding all
sound_all [] = refl
sound_all (e ∷ es) = rw (record_sound e) (sound_all es)

same_all : (es : List Event) → map (λ e. e) es ≡ es
same_all [] = refl
same_all (e ∷ es) = ap (λ (l : List Event). e ∷ l) (same_all es)

-- a record off the front
record_off : (e : Event) (rest : List ℕ) → take 20 (record_bytes e ++ rest) ≡ record_bytes e
record_off e rest = take_at (record_bytes e) rest 20 (length_record e)

event_off : (e : Event) (rest : List ℕ) → is_event e ≡ true → event_in (take 20 (record_bytes e ++ rest)) ≡ e
event_off e rest h = ap event_in (record_off e rest) ∙ event_back e h

any_all : (es : List Event) → all (λ e. true) es ≡ true
unfolding all
any_all [] = refl
any_all (e ∷ es) = any_all es

module _ (number : ℕ) (es : List Event) (few : length es ≤ 25) where
  length_records : length (flat record_bytes es) ≡ 20 * length es
  length_records = length_flat record_bytes 20 length_record es

  length_places : length (places_bytes es) ≡ 500
  unfolding places_bytes
  length_places = rw (length-append, length_records, length-replicate) (omega arith)

  pub length_body : length (body_bytes number es) ≡ 508
  unfolding body_bytes digits
  length_body = omega (arith, length_places)

  pub length_block : length (block_bytes number es) ≡ 512
  unfolding block_bytes
  length_block = rw (length-append, length_body, length_digits)

  -- the first 508 bytes, and the four behind them
  front : take 508 (block_bytes number es) ≡ body_bytes number es
  unfolding block_bytes
  front = take_at (body_bytes number es) _ 508 length_body

  back : drop 508 (block_bytes number es) ≡ digits 4 (check_of (body_bytes number es))
  unfolding block_bytes
  back = drop_at (body_bytes number es) _ 508 length_body

  same_check : check_of (block_bytes number es) ≡ check_of (body_bytes number es)
  unfolding check_of
  same_check = rw (front, take_all 508 (body_bytes number es) (omega (arith, length_body)))

  small_check : check_of (body_bytes number es) < 256 ^ 4
  unfolding check_of
  small_check = omega arith

  four_digits : (x : ℕ) → take 4 (digits 4 x) ≡ digits 4 x
  four_digits x = take_all 4 (digits 4 x) (omega (arith, length_digits 4 x))

  pub written_check : right_check (block_bytes number es) ≡ true
  unfolding right_check
  written_check =
      let stored : check_in (block_bytes number es) ≡ check_of (body_bytes number es) =
      rw (back, four_digits (check_of (body_bytes number es)), worth_digits 4 _ small_check) in
      eq-eqb _ _ (stored ∙ sym same_check)

  pub written_number : number < 4_294_967_296 → number_in (block_bytes number es) ≡ number
  unfolding block_bytes body_bytes digits
  written_number h = worth_digits 4 number (omega arith)

  pub written_count : records_in (block_bytes number es) ≡ length es
  unfolding block_bytes body_bytes digits
  written_count = worth_digits 2 (length es) (omega arith)

  -- what stands behind the first eight bytes
  behind_eight : (check : List ℕ) → drop 8 (body_bytes number es ++ check) ≡ places_bytes es ++ check
  unfolding body_bytes digits
  behind_eight check = refl

  pub behind :
      drop 8 (block_bytes number es)
      ≡ flat record_bytes es ++ (replicate (20 * (25 - length es)) 0 ++ digits 4 (check_of (body_bytes number es)))
  unfolding block_bytes places_bytes
  behind = behind_eight _ ∙ append_assoc (flat record_bytes es) _ _

  pub written_events : all is_event es ≡ true → events_in (block_bytes number es) ≡ es
  unfolding events_in
  written_events h =
      rw (written_count, behind, parts_flat record_bytes 20 length_record is_event (λ r. event_in (take 20 r)) (λ e. e) event_off es _ h)
      (same_all es)

  written_records : all is_record (parts (take 20) 20 (records_in (block_bytes number es)) (drop 8 (block_bytes number es))) ≡ true
  written_records =
      rw (
        written_count,
        behind,
        parts_flat record_bytes 20 length_record (λ e. true) (take 20) record_bytes (λ e rest h. record_off e rest) es _ (any_all es),
      )
      (sound_all es)

  written_zeros : all_zero (drop (8 + 20 * records_in (block_bytes number es)) (take 508 (block_bytes number es))) ≡ true
  unfolding places_bytes
  written_zeros =
      let places : drop 8 (body_bytes number es) ≡ flat record_bytes es ++ replicate (20 * (25 - length es)) 0 =
      ap (drop 8) (sym (append-nil (body_bytes number es))) ∙ behind_eight [] ∙ append-nil _ in
      rw (
        written_count,
        front,
        ← drop-drop (20 * length es) 8 (body_bytes number es),
        places,
        drop_at (flat record_bytes es) _ (20 * length es) length_records,
      )
      (zeros (20 * (25 - length es)))

  two_zeros : (byte (block_bytes number es) 6 ≡ 0) × (byte (block_bytes number es) 7 ≡ 0)
  unfolding block_bytes body_bytes digits
  two_zeros = (refl, refl)

  pub written_layout : 1 ≤ length es → own_layout (block_bytes number es) ≡ true
  unfolding own_layout
  written_layout h =
      let low : leb 1 (records_in (block_bytes number es)) ≡ true = rw written_count (le-leb 1 (length es) h) in
      let high : leb (records_in (block_bytes number es)) 25 ≡ true = rw written_count (le-leb (length es) 25 few) in
      and_both
      (and_both
      (and_both (and_both (and_both low high) (eq-eqb _ _ two_zeros.0)) (eq-eqb _ _ two_zeros.1))
      written_records)
      written_zeros

  -- all three tests, where the block stands at its number, and is full or the last
  pub written_passes :
      (whole : ℕ)
      → number < 4_294_967_296
      → 1 ≤ length es
      → (eqb number whole || eqb (length es) 25) ≡ true
      → first_of (block_rules whole number (block_bytes number es)) ≡ 0
  unfolding block_rules first_of ◌when◌
  written_passes whole h l last =
      rw (written_check, eq-eqb _ _ (written_number h), written_layout l, written_count, last)
