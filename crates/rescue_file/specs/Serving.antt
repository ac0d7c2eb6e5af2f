-- The rescue from chunk to chunk: its memory holds what the definitions hand on.
use Rattle.std.specs.Prelude.{ℕ, suc, ◌+◌, ◌*◌, ◌/◌, ◌≡◌, Bool, true, false, not, List, [], ◌∷◌, ◌++◌, length, take, drop, eqb, if◌then◌else◌}
use Rattle.day_files.specs.Files.{events_of}
use Rattle.fronts.specs.Good.{good_from, refusal_from, followed}
use Rattle.rescue_file.specs.declared.AfterChunk.{AfterChunk}

-- ---- by the definitions

-- whether a block was refused, how many blocks stand behind, how many records are kept, and the bytes that are still to be served
pub record Between : Type 0 where
  pub listing : Bool
  pub behind : ℕ
  pub records : ℕ
  pub kept : List ℕ

unfoldable pub outset : Between
outset = record { listing = false; behind = 0; records = 0; kept = [] }

-- so many blocks are looked at, and the good ones kept
unfoldable pub after_keep : ℕ → ℕ → Between → Between
after_keep whole blocks s =
    let good : ℕ = good_from whole blocks (suc s.behind) s.kept in
    record {
      listing = not (eqb (refusal_from whole blocks (suc s.behind) s.kept) 0);
      behind = s.behind + good;
      records = s.records + length (events_of good s.kept);
      kept = drop (512 * good) s.kept;
    }

-- the whole blocks are listed
unfoldable pub after_list : Between → Between
after_list s =
    record {
      listing = true;
      behind = s.behind + length s.kept / 512;
      records = s.records;
      kept = drop (512 * (length s.kept / 512)) s.kept;
    }

abbrev pub listed_now : Between → Between
listed_now s = if s.listing then after_list s else s

-- with more bytes behind those that are still to be served
abbrev pub with_more : Between → List ℕ → Between
with_more s b = record { listing = s.listing; behind = s.behind; records = s.records; kept = s.kept ++ b }

-- those that a whole block follows can be judged; none of them is the last
unfoldable pub served : Between → Between
served s = if s.listing then after_list s else listed_now (after_keep 0 (followed s.kept) s)

unfoldable pub after_chunk : Between → List ℕ → Between
after_chunk s b = served (with_more s b)

unfoldable pub after_chunks : Between → List (List ℕ) → Between
after_chunks s [] = s
after_chunks s (b ∷ bs) = after_chunks (after_chunk s b) bs

-- ---- in memory

pub record Holds (s : Between) (buf : List ℕ) (h : AfterChunk) : Type 0 where
  pub listing : h.listing ≡ s.listing
  pub behind : h.behind ≡ s.behind
  pub records : h.records ≡ s.records
  pub kept : take h.kept buf ≡ s.kept
  pub count : h.kept ≡ length s.kept

pub record Reached (buf : List ℕ) (h : AfterChunk) : Type 0 where
  pub chunks : List (List ℕ)
  pub holds : Holds (after_chunks outset chunks) buf h

-- one turn: whatever the memory held, it holds what one chunk more makes of it
pub record Turned (buf : List ℕ) (h : AfterChunk) (buf' : List ℕ) (r : AfterChunk) : Type 0 where
  pub chunk : List ℕ
  pub holds : (s : Between) → Holds s buf h → Holds (after_chunk s chunk) buf' r

-- ---- the parts of a turn

-- some bytes to be served
abbrev pub to_serve : AfterChunk → List ℕ → Between
to_serve h chunk = record { listing = h.listing; behind = h.behind; records = h.records; kept = chunk }

abbrev pub Keeps : ℕ → ℕ → List ℕ → AfterChunk → List ℕ → AfterChunk → Type 0
Keeps whole blocks chunk h buf' r = Holds (after_keep whole blocks (to_serve h chunk)) buf' r

abbrev pub Lists : List ℕ → AfterChunk → List ℕ → AfterChunk → Type 0
Lists chunk h buf' r = Holds (after_list (to_serve h chunk)) buf' r

abbrev pub Steps : List ℕ → AfterChunk → List ℕ → AfterChunk → Type 0
Steps chunk h buf' r = Holds (served (to_serve h chunk)) buf' r
