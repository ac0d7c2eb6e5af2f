-- The unpacker from chunk to chunk: its memory holds what the definitions hand on.
use Rattle.std.specs.Prelude.{ℕ, ◌+◌, ◌*◌, ◌≡◌, List, [], ◌∷◌, ◌++◌, length, take, drop}
use Rattle.fronts.specs.Good.{followed, look_from}
use Rattle.unpack_file.specs.declared.AfterChunk.{AfterChunk}

-- ---- by the definitions

-- how many blocks have passed, and the bytes behind them that could not be judged yet
pub record Between : Type 0 where
  pub passed : ℕ
  pub kept : List ℕ

unfoldable pub outset : Between
outset = record { passed = 0; kept = [] }

unfoldable pub after_chunk : Between → List ℕ → Between
after_chunk s b =
    record {
      passed = s.passed + followed (s.kept ++ b);
      kept = drop (512 * followed (s.kept ++ b)) (s.kept ++ b);
    }

unfoldable pub after_chunks : Between → List (List ℕ) → Between
after_chunks s [] = s
after_chunks s (b ∷ bs) = after_chunks (after_chunk s b) bs

-- ---- in memory

pub record Holds (s : Between) (buf : List ℕ) (h : AfterChunk) : Type 0 where
  pub passed : h.passed ≡ s.passed
  pub kept : take h.kept buf ≡ s.kept
  pub count : h.kept ≡ length s.kept

-- and that is what some chunks have made of the outset
pub record Reached (buf : List ℕ) (h : AfterChunk) : Type 0 where
  pub chunks : List (List ℕ)
  pub holds : Holds (after_chunks outset chunks) buf h

-- one turn: whatever the memory held, it holds what one chunk more makes of it; and none of its blocks was refused
pub record Turned (buf : List ℕ) (h : AfterChunk) (buf' : List ℕ) (r : AfterChunk) : Type 0 where
  pub chunk : List ℕ
  pub holds : (s : Between) → Holds s buf h → Holds (after_chunk s chunk) buf' r
  pub passes : (s : Between) → Holds s buf h → (look_from s.passed (s.kept ++ chunk)).refusal ≡ 0

-- the blocks that are followed have passed, and the rest is kept
pub record Steps (chunk : List ℕ) (h : AfterChunk) (buf' : List ℕ) (r : AfterChunk) : Type 0 where
  pub passed : r.passed ≡ h.passed + followed chunk
  pub kept : take r.kept buf' ≡ drop (512 * followed chunk) chunk
  pub count : r.kept ≡ length (drop (512 * followed chunk) chunk)
  pub passes : (look_from h.passed chunk).refusal ≡ 0
