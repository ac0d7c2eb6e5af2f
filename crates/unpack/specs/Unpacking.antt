-- A day file unpacked: the script of the blocks before the first refused one, and what is told of that one. As a whole, from its
-- middle on, and chunk by chunk.
use Rattle.std.specs.Prelude.{ℕ, suc, ◌+◌, ◌*◌, Option, None, Some, List, [], ◌∷◌, ◌++◌, drop, eqb, if◌then◌else◌}
use Prim.Native.Char.{code}
use Rattle.model.specs.Lines.{reply}
use Rattle.model.specs.Refusals.{first_of}
use Rattle.day_files.specs.Files.{read_rules, events_of}
use Rattle.file_scripts.specs.Scripts.{script_of}
use Rattle.fronts.specs.Good.{good_blocks, Front, front_from, followed, look_from}

pub record Unpacked : Type 0 where
  pub script : List ℕ
  pub told : List ℕ

-- the refusal with the block's place, `X number block`; nothing where none is refused
unfoldable pub refused_line : ℕ → ℕ → List ℕ
refused_line n place = if eqb n 0 then [] else reply (code "X") (n ∷ place ∷ [])

-- the same of a refusal, if there is one
abbrev pub told_refusal : Option ℕ → ℕ → List ℕ
told_refusal None place = []
told_refusal (Some n) place = reply (code "X") (n ∷ place ∷ [])

unfoldable pub unpacked : List ℕ → Unpacked
unpacked file =
    record {
      script = script_of (events_of (good_blocks file) file);
      told = refused_line (first_of (read_rules file)) (suc (good_blocks file));
    }

-- ---- what a front gives of the bytes that follow the blocks which have passed

unfoldable pub given : ℕ → Front → List ℕ → Unpacked
given passed f rest =
    record {
      script = script_of (events_of f.good rest);
      told = refused_line f.refusal (suc (passed + f.good));
    }

-- the rest of a file
unfoldable pub unpacked_from : ℕ → List ℕ → Unpacked
unpacked_from passed rest = given passed (front_from passed rest) rest

-- chunk by chunk: each is read after the bytes that could not be judged yet. The first refusal is the end
unfoldable pub unpacked_chunks : ℕ → List ℕ → List (List ℕ) → Unpacked
unpacked_chunks passed kept [] = unpacked_from passed kept
unpacked_chunks passed kept (b ∷ bs) =
    let read : List ℕ = kept ++ b in
    let n : ℕ = followed read in
    let more : Unpacked = unpacked_chunks (passed + n) (drop (512 * n) read) bs in
    if eqb (look_from passed read).refusal 0
    then record { script = script_of (events_of n read) ++ more.script; told = more.told }
    else given passed (look_from passed read) read
