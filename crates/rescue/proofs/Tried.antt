-- A rescue by evaluation: nothing to rescue, a damaged block, a lost one, one that is short in between, and a tail. Assumes nothing.
use Prim.Native.Nat.{ℕ}
use mathlib.Core.Path.{◌≡◌, refl}
use mathlib.Core.Bool.{Bool, true, false}
use mathlib.Core.List.{List, [], ◌∷◌, ◌++◌}
use lib.ListN.{set, drop, replicate}
use Rattle.model.specs.declared.Event.{Event}
use Rattle.model.specs.declared.Event.TheVariants.{Clock}
use Rattle.model.specs.Lists.{all}
use Rattle.model.specs.Refusals.{◌when◌, first_of}
use Rattle.octets.specs.Numbers.{worth, digits, parts, flat}
use Rattle.file_records.specs.Records.{record_bytes, event_in, used, all_zero, is_record}
use Rattle.file_blocks.specs.Blocks.{weighed, check_of, places_bytes, body_bytes, block_bytes, events_in, right_check, own_layout, block_rules}
use Rattle.day_files.specs.Files.{blocks_from, file_bytes, whole_blocks, events_of}
use Rattle.fronts.specs.Good.{good_from, good_blocks}
use Rattle.rescue.specs.Rescue.{list_from, rescued, Listed}

abbrev entry : ℕ → Bool → ℕ → Listed
entry place sound number = record { place = place; sound = sound; number = number }

-- 51 records: two blocks of 25, and one of 1
abbrev moves : ℕ → List Event
moves n = replicate n (Clock 34_200)

abbrev file : List ℕ
file = file_bytes (moves 51)

pub rescue_tried :
    (rescued [] ≡ record { file = []; kept = 0; list = [] })
    × (rescued file ≡ record { file = file; kept = 51; list = [] })
    -- a byte of the second block
    × (rescued (set file 600 1)
    ≡ record { file = file_bytes (moves 25); kept = 25; list = entry 2 false 2 ∷ entry 3 true 3 ∷ [] })
    -- the first block lost: those behind it are sound, and their numbers are ahead of their places
    × (rescued (drop 512 file) ≡ record { file = []; kept = 0; list = entry 1 true 2 ∷ entry 2 true 3 ∷ [] })
    -- a short block in between is sound by itself
    × (rescued (block_bytes 1 (moves 3) ++ block_bytes 2 (moves 1))
    ≡ record { file = []; kept = 0; list = entry 1 true 1 ∷ entry 2 true 2 ∷ [] })
    -- a tail behind a last block that is short
    × (rescued (block_bytes 1 (moves 3) ++ (9 ∷ 9 ∷ []))
    ≡ record { file = file_bytes (moves 3); kept = 3; list = entry 2 false 0 ∷ [] })
unfolding all ◌when◌ first_of worth digits parts flat record_bytes event_in used all_zero is_record weighed check_of places_bytes body_bytes block_bytes events_in right_check own_layout block_rules blocks_from file_bytes whole_blocks events_of good_from good_blocks list_from rescued
rescue_tried = (refl, refl, refl, refl, refl, refl)
