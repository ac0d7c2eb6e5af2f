-- The packer from chunk to chunk: its memory holds what the definitions hand on.
use Rattle.std.specs.Prelude.{ℕ, ◌+◌, ◌≡◌, List, [], ◌∷◌, ◌++◌, length, take}
use Rattle.model.specs.declared.Event.{Event}
use Rattle.model.specs.Lines.{lines_of}
use Rattle.text.specs.Readers.{asks_of, commands}
use Rattle.text.specs.Answers.{carry_after, kept_after}
use Rattle.file_scripts.specs.Scripts.{stored_of}
use Rattle.pack.specs.Chunkwise.{Between, outset, after_chunk}
use Rattle.pack.specs.Promises as Promises
use Rattle.pack_script.specs.declared.AfterChunk.{AfterChunk}

unfoldable pub after_chunks : Between → List (List ℕ) → Between
after_chunks s [] = s
after_chunks s (b ∷ bs) = after_chunks (after_chunk s b) bs

-- the program's memory holds what goes on
pub record Holds (s : Between) (buf block : List ℕ) (h : AfterChunk) : Type 0 where
  pub carry : h.carry ≡ s.carry
  pub kept : take h.carry.kept buf ≡ s.kept
  pub line : h.line ≡ s.line
  pub waits : Promises.Holds s.events h.records block

-- and that is what some chunks have made of the outset
pub record Reached (buf block : List ℕ) (h : AfterChunk) : Type 0 where
  pub chunks : List (List ℕ)
  pub holds : Holds (after_chunks outset chunks) buf block h

-- some events wait in the block
pub record Waits (h : AfterChunk) (block : List ℕ) : Type 0 where
  pub events : List Event
  pub holds : Promises.Holds events h.records block

-- one turn: whatever the memory held, it holds what one chunk more makes of it
pub record Turned (buf block : List ℕ) (h : AfterChunk) (buf' block' : List ℕ) (r : AfterChunk) : Type 0 where
  pub chunk : List ℕ
  pub holds : (s : Between) → Holds s buf block h → Holds (after_chunk s chunk) buf' block' r

-- what a chunk asks for is stored, and its tail is carried over
pub record Steps (chunk : List ℕ) (h : AfterChunk) (block buf' block' : List ℕ) (r : AfterChunk) : Type 0 where
  pub carry : r.carry ≡ carry_after h.carry.long chunk
  pub kept : take r.carry.kept buf' ≡ kept_after h.carry.long chunk
  pub line : r.line ≡ h.line + length (asks_of commands h.carry.long (lines_of chunk))
  pub waits :
      (es : List Event)
      → Promises.Holds es h.records block
      → Promises.Holds (es ++ stored_of (asks_of commands h.carry.long (lines_of chunk))) r.records block'
