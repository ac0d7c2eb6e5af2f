-- The list by evaluation: whole, cut to what fits, a list without room for a record, and a refused file. Assumes nothing.
use Prim.Native.Nat.{ℕ}
use mathlib.Core.Path.{◌≡◌, refl}
use mathlib.Core.List.{List, [], ◌∷◌, ◌++◌}
use lib.ListN.{set, replicate}
use Rattle.model.specs.declared.Event.TheVariants.{Clock, Cancel}
use Rattle.model.specs.Lists.{all}
use Rattle.model.specs.Refusals.{◌when◌, first_of}
use Rattle.octets.specs.Numbers.{worth, digits, parts, flat}
use Rattle.records.specs.Layout.{over}
use Rattle.file_records.specs.Records.{record_bytes, event_in, used, all_zero, is_record}
use Rattle.file_blocks.specs.Blocks.{weighed, check_of, places_bytes, body_bytes, block_bytes, events_in, right_check, own_layout, block_rules}
use Rattle.day_files.specs.Files.{blocks_from, file_bytes, whole_blocks, rules_from, read_rules, events_of, read_file, counted, count_file}
use Rattle.file_lists.specs.Lists.{listed, listed_from, found_numbers}

-- a move of the clock to 34,200, which is 152 + 256 * 133, and a cancel
abbrev file : List ℕ
file = file_bytes (Clock 34_200 ∷ Cancel 9 3 ∷ [])

abbrev clock : List ℕ
clock = 2 ∷ 0 ∷ 0 ∷ 0 ∷ 152 ∷ 133 ∷ replicate 14 0

abbrev cancel : List ℕ
cancel = 4 ∷ 0 ∷ 0 ∷ 0 ∷ 9 ∷ 0 ∷ 0 ∷ 0 ∷ 3 ∷ replicate 11 0

-- into 45 bytes, into 39, into 19 and into none
pub list_tried :
    (listed_from (read_file file) (replicate 45 7) ≡ clock ++ cancel ++ replicate 5 7)
    × (listed_from (read_file file) (replicate 39 7) ≡ clock ++ replicate 19 7)
    × (listed_from (read_file file) (replicate 19 7) ≡ replicate 19 7)
    × (listed_from (read_file file) [] ≡ [])
    × (found_numbers (count_file file) ≡ 0 ∷ 2 ∷ [])
unfolding all ◌when◌ first_of worth digits parts flat over record_bytes event_in used all_zero is_record weighed check_of places_bytes body_bytes block_bytes events_in right_check own_layout block_rules blocks_from file_bytes whole_blocks rules_from read_rules events_of read_file counted count_file listed listed_from found_numbers
list_tried = (refl, refl, refl, refl, refl)

-- with another value of one byte, and with one byte more
pub refused_tried :
    (listed_from (read_file (set file 12 153)) (replicate 45 7) ≡ replicate 45 7)
    × (found_numbers (count_file (set file 12 153)) ≡ 24 ∷ 0 ∷ [])
    × (listed_from (read_file (file ++ 0 ∷ [])) (replicate 45 7) ≡ replicate 45 7)
    × (found_numbers (count_file (file ++ 0 ∷ [])) ≡ 26 ∷ 0 ∷ [])
unfolding all ◌when◌ first_of worth digits parts flat over record_bytes event_in used all_zero is_record weighed check_of places_bytes body_bytes block_bytes events_in right_check own_layout block_rules blocks_from file_bytes whole_blocks rules_from read_rules events_of read_file counted count_file listed listed_from found_numbers
refused_tried = (refl, refl, refl, refl)
