-- A block of 512 bytes. 0 to 3: block number; 4 and 5: records in the block; 6 and 7: zero; 8 to 507: 25 places of 20 bytes;
-- 508 to 511: the check. All numbers have their least byte first.
use Rattle.std.specs.Prelude.{Result, Ok, Err, ℕ, suc, ◌+◌, ◌-◌, ◌*◌, ◌%◌, Bool, not, ◌&&◌, ◌||◌, List, [], ◌∷◌, ◌++◌, length, take, drop, replicate, leb, eqb, if◌then◌else◌}
use Rattle.std.proofs.lemmas.List.Edits.{sets}
use Rattle.model.specs.Lists.{all}
use Rattle.model.specs.Refusals.{Rule, ◌when◌, first_of}
use Rattle.octets.specs.Numbers.{worth, digits, parts, flat}
use Rattle.model.specs.declared.Event.{Event}
use Rattle.file_records.specs.Records.{byte, four_at, record_bytes, event_in, is_record, all_zero}

-- the sum of position times byte
unfoldable pub weighed : ℕ → List ℕ → ℕ
weighed position [] = 0
weighed position (b ∷ bs) = position * b + weighed (suc position) bs

-- over the first 508 bytes, positions from 1, modulo 65,521
unfoldable pub check_of : List ℕ → ℕ
check_of b = weighed 1 (take 508 b) % 65_521

-- ---- written: 1 to 25 events under a number

-- unused places are zero
unfoldable pub places_bytes : List Event → List ℕ
places_bytes es = flat record_bytes es ++ replicate (20 * (25 - length es)) 0

-- its number, the count of its records, and two zeros
abbrev pub head_bytes : ℕ → ℕ → List ℕ
head_bytes number count = digits 4 number ++ digits 2 count ++ (0 ∷ 0 ∷ [])

unfoldable pub body_bytes : ℕ → List Event → List ℕ
body_bytes number es = head_bytes number (length es) ++ places_bytes es

unfoldable pub block_bytes : ℕ → List Event → List ℕ
block_bytes number es = body_bytes number es ++ digits 4 (check_of (body_bytes number es))

-- in memory it starts as zeros; the records of some events are put there from byte 8 on, and then number, count and check
unfoldable pub filling : List Event → List ℕ
filling es = sets (replicate 512 0) 8 (flat record_bytes es)

unfoldable pub closed : ℕ → ℕ → List ℕ → List ℕ
closed number count block =
    let b : List ℕ = sets block 0 (head_bytes number count) in sets b 508 (digits 4 (check_of b))

-- ---- read

abbrev pub number_in : List ℕ → ℕ
number_in b = four_at b 0

abbrev pub records_in : List ℕ → ℕ
records_in b = worth (take 2 (drop 4 b))

abbrev pub check_in : List ℕ → ℕ
check_in b = four_at b 508

unfoldable pub events_in : List ℕ → List Event
events_in b = parts (λ r. event_in (take 20 r)) 20 (records_in b) (drop 8 b)

unfoldable pub right_check : List ℕ → Bool
right_check b = eqb (check_in b) (check_of b)

-- every break of the layout that a block shows by itself: 1 to 25 records, two zeros, each record, and nothing in the places behind
unfoldable pub own_layout : List ℕ → Bool
own_layout b =
    leb 1 (records_in b)
    && leb (records_in b) 25
    && eqb (byte b 6) 0
    && eqb (byte b 7) 0
    && all is_record (parts (take 20) 20 (records_in b) (drop 8 b))
    && all_zero (drop (8 + 20 * records_in b) (take 508 b))

-- the tests of the block at a place, counted from 1, of a file with so many whole blocks; only the last of these may have
-- fewer than 25 records
unfoldable pub block_rules : ℕ → ℕ → List ℕ → List Rule
block_rules whole place b =
    24 when (not (right_check b))
    ∷ 25 when (not (eqb (number_in b) place))
    ∷ 26 when (not (own_layout b && (eqb place whole || eqb (records_in b) 25)))
    ∷ []

-- a block of a file: how many records it has, or its first refusal; what is not 512 bytes long is no block
unfoldable pub read_block : ℕ → ℕ → List ℕ → Result ℕ ℕ
read_block whole place b =
    let n : ℕ = first_of (block_rules whole place b) in
    if eqb (length b) 512
    then (if eqb n 0 then Ok (records_in b) else Err n)
    else Err 26
