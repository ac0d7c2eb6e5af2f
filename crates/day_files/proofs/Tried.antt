-- Day files by evaluation: files of 0, 1, 25, 26 and 51 records there and back, the bytes of one block, and each refusal. Assumes
-- nothing.
use Prim.Native.Nat.{ℕ}
use mathlib.Core.Path.{◌≡◌, refl}
use mathlib.Core.List.{List, [], ◌∷◌, ◌++◌, map}
use lib.ListN.{length, set, take, drop, replicate}
use Rattle.model.specs.declared.Event.{Event}
use Rattle.model.specs.declared.Event.TheVariants.{Open, Clock, Order, Cancel}
use Rattle.model.specs.Lists.{all, any}
use Rattle.model.specs.Refusals.{◌when◌, first_of}
use Rattle.octets.specs.Numbers.{worth, digits, parts, flat}
use Rattle.file_records.specs.Records.{record_bytes, is_wide, event_in, used, all_zero, is_record}
use Rattle.file_blocks.specs.Blocks.{weighed, check_of, places_bytes, body_bytes, block_bytes, events_in, right_check, own_layout, block_rules}
use Rattle.day_files.specs.Files.{blocks_from, file_bytes, write_rules, write_file, whole_blocks, rules_from, read_rules, events_of, read_file, Written, Reading}

abbrev order : ℕ → ℕ → ℕ → ℕ → ℕ → ℕ → Event
order side kind account quantity price balance =
    Order
    (record { side = side; kind = kind; account = account; quantity = quantity; price = price; balance = balance })

-- the four kinds, with the largest numbers that they hold
abbrev day : List Event
day =
    Open 1000 1
    ∷ Clock 34_200
    ∷ order 0 1 9 150 1300 0
    ∷ order 255 255 4_294_967_295 4_294_967_295 4_294_967_295 4_294_967_295
    ∷ Cancel 9 3
    ∷ []

-- ---- there and back

pub back_tried :
    (map (λ n. read_file (file_bytes (replicate n (Clock 34_200)))) (0 ∷ 1 ∷ 25 ∷ 26 ∷ 51 ∷ [])
    ≡ map (λ n. Reading.Read (replicate n (Clock 34_200))) (0 ∷ 1 ∷ 25 ∷ 26 ∷ 51 ∷ []))
    × (map (λ n. length (file_bytes (replicate n (Clock 34_200)))) (0 ∷ 1 ∷ 25 ∷ 26 ∷ 51 ∷ [])
    ≡ 0 ∷ 512 ∷ 512 ∷ 1_024 ∷ 1_536 ∷ [])
    × (read_file (file_bytes day) ≡ Reading.Read day)
unfolding all any ◌when◌ first_of worth digits parts flat record_bytes is_wide event_in used all_zero is_record weighed check_of places_bytes body_bytes block_bytes events_in right_check own_layout block_rules blocks_from file_bytes write_rules write_file whole_blocks rules_from read_rules events_of read_file
back_tried = (refl, refl, refl)

-- ---- the bytes of a block with one record, a clock move: 34,200 is 152 + 256 * 133, and the check
-- 1 * 1 + 5 * 1 + 9 * 2 + 13 * 152 + 14 * 133 = 3,862 = 22 + 256 * 15

abbrev one : List ℕ
one = file_bytes (Clock 34_200 ∷ [])

pub bytes_tried :
    (take 28 one
    ≡ 1 ∷ 0 ∷ 0 ∷ 0 ∷ 1 ∷ 0 ∷ 0 ∷ 0
    ∷ 2 ∷ 0 ∷ 0 ∷ 0 ∷ 152 ∷ 133 ∷ 0 ∷ 0 ∷ 0 ∷ 0 ∷ 0 ∷ 0 ∷ 0 ∷ 0 ∷ 0 ∷ 0 ∷ 0 ∷ 0 ∷ 0 ∷ 0
    ∷ [])
    × (take 480 (drop 28 one) ≡ replicate 480 0)
    × (drop 508 one ≡ 22 ∷ 15 ∷ 0 ∷ 0 ∷ [])
unfolding all any ◌when◌ first_of worth digits parts flat record_bytes is_wide event_in used all_zero is_record weighed check_of places_bytes body_bytes block_bytes events_in right_check own_layout block_rules blocks_from file_bytes write_rules write_file whole_blocks rules_from read_rules events_of read_file
bytes_tried = (refl, refl, refl)

-- ---- each refusal

-- a block with a byte changed, and its check made right again
abbrev repaired : ℕ → ℕ → List ℕ → List ℕ
repaired i v b = take 508 (set b i v) ++ digits 4 (check_of (set b i v))

-- one byte of each part of the block
pub check_tried :
    map (λ i. read_file (set one i 7)) (0 ∷ 4 ∷ 6 ∷ 8 ∷ 11 ∷ 12 ∷ 507 ∷ 508 ∷ 511 ∷ [])
    ≡ replicate 9 (Reading.Refused 24)
unfolding all any ◌when◌ first_of worth digits parts flat record_bytes is_wide event_in used all_zero is_record weighed check_of places_bytes body_bytes block_bytes events_in right_check own_layout block_rules blocks_from file_bytes write_rules write_file whole_blocks rules_from read_rules events_of read_file
check_tried = refl

-- with the right check: another block number; no record, 26 records, a second one that is none; a byte that is to be zero; kind 0,
-- kind 5, a side in a clock move, an order kind, the fourth byte, a second number, the last byte of the record, a byte behind it
pub layout_tried :
    (map (λ i. read_file (repaired i 2 one)) (0 ∷ 1 ∷ []) ≡ replicate 2 (Reading.Refused 25))
    × (map (λ n. read_file (repaired 4 n one)) (0 ∷ 26 ∷ 2 ∷ []) ≡ replicate 3 (Reading.Refused 26))
    × (map (λ n. read_file (repaired 8 n one)) (0 ∷ 5 ∷ []) ≡ replicate 2 (Reading.Refused 26))
    × (map (λ i. read_file (repaired i 1 one)) (5 ∷ 6 ∷ 7 ∷ 9 ∷ 10 ∷ 11 ∷ 16 ∷ 27 ∷ 28 ∷ 507 ∷ [])
    ≡ replicate 10 (Reading.Refused 26))
unfolding all any ◌when◌ first_of worth digits parts flat record_bytes is_wide event_in used all_zero is_record weighed check_of places_bytes body_bytes block_bytes events_in right_check own_layout block_rules blocks_from file_bytes write_rules write_file whole_blocks rules_from read_rules events_of read_file
layout_tried = (refl, refl, refl, refl)

-- a wrong check comes before a wrong number, and that before the layout
pub order_tried :
    (read_file (set (repaired 0 2 one) 6 1) ≡ Reading.Refused 24)
    × (read_file (repaired 6 1 (set one 0 2)) ≡ Reading.Refused 25)
unfolding all any ◌when◌ first_of worth digits parts flat record_bytes is_wide event_in used all_zero is_record weighed check_of places_bytes body_bytes block_bytes events_in right_check own_layout block_rules blocks_from file_bytes write_rules write_file whole_blocks rules_from read_rules events_of read_file
order_tried = (refl, refl)

-- a short block that is not the last whole one, a second block without the first, a tail, and one block's fault before the next one's
pub files_tried :
    (read_file (one ++ block_bytes 2 (Clock 1 ∷ [])) ≡ Reading.Refused 26)
    × (read_file (block_bytes 2 (Clock 1 ∷ [])) ≡ Reading.Refused 25)
    × (read_file (one ++ (0 ∷ [])) ≡ Reading.Refused 26)
    × (read_file (file_bytes (replicate 25 (Clock 1)) ++ set one 0 3) ≡ Reading.Refused 24)
    × (read_file (one ++ set one 0 3) ≡ Reading.Refused 26)
unfolding all any ◌when◌ first_of worth digits parts flat record_bytes is_wide event_in used all_zero is_record weighed check_of places_bytes body_bytes block_bytes events_in right_check own_layout block_rules blocks_from file_bytes write_rules write_file whole_blocks rules_from read_rules events_of read_file
files_tried = (refl, refl, refl, refl, refl)

-- the writer refuses a side or an order kind above 255, wherever it stands
pub wide_tried :
    (write_file (Clock 1 ∷ order 256 0 9 100 1000 0 ∷ []) ≡ Written.Refused 27)
    × (write_file (order 0 256 9 100 1000 0 ∷ []) ≡ Written.Refused 27)
    × (write_file day ≡ Written.File (file_bytes day))
unfolding all any ◌when◌ first_of worth digits parts flat record_bytes is_wide event_in used all_zero is_record weighed check_of places_bytes body_bytes block_bytes events_in right_check own_layout block_rules blocks_from file_bytes write_rules write_file whole_blocks rules_from read_rules events_of read_file
wide_tried = (refl, refl, refl)
