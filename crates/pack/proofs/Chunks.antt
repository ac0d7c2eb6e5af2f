-- Packed chunk by chunk, a script is packed as a whole, however it is cut into chunks. Assumes nothing.
use Prim.Native.Nat.{ℕ, ◌+◌}
use mathlib.Core.Path.{◌≡◌, refl, sym, ap, ◌∙◌}
use mathlib.Core.Bool.{Bool, true, false, cond}
use mathlib.Core.List.{List, [], ◌∷◌, ◌++◌, flatten, append_assoc, append-nil}
use lib.ListN.{length}
use lib.Seq.{length-take-le}
use Rattle.model.specs.declared.Event.{Event}
use Rattle.model.specs.declared.Command.{Command}
use Rattle.model.specs.declared.Command.TheVariants.{Malformed}
use Rattle.model.specs.Lines.{lines_of, reply}
use Rattle.text.specs.Readers.{asks_of, rest_asks, commands}
use Rattle.text.specs.Chunks.{is_left, tail_of, tail_long}
use Rattle.text.specs.Answers.{carry_after, kept_after}
use Rattle.text.proofs.Chunks.{Unended, cut_up}
use Rattle.text.proofs.Carrying.{kept_fits, commands_strict, carried, ended}
use Rattle.text.proofs.Sessions.{split, tail_unended, part_unended}
use Rattle.file_scripts.specs.Scripts.{commands_of, stored, stored_of, told_from}
use Rattle.pack.specs.Packing.{Packed, packed, new_blocks, last_block}
use Rattle.pack.specs.Chunkwise.{Between, outset, asks, after_chunk, left_asks, ending, packed_chunks}
use Rattle.pack.proofs.Growing.{new_none, new_more, file_is}
use Rattle.pack.proofs.LineByLine.{stored_append, told_append}

-- what commands make of a state: the blocks that they fill and the last one, and what is told
abbrev outcome : ℕ → List Event → List Command → Packed
outcome line es cs =
    record {
      file = new_blocks es (stored_of cs) ++ last_block (es ++ stored_of cs);
      told = told_from line cs ++ reply 75 (length (es ++ stored_of cs) ∷ []);
    }

same : {f g t u : List ℕ} → f ≡ g → t ≡ u → ◌≡◌ {A = Packed} (record { file = f; told = t }) (record { file = g; told = u })
same e f = rw (e, f)

outcome_more :
    (line : ℕ) (es : List Event) (a b : List Command)
    → outcome line es (a ++ b)
    ≡ record {
      file = new_blocks es (stored_of a) ++ (outcome (line + length a) (es ++ stored_of a) b).file;
      told = told_from line a ++ (outcome (line + length a) (es ++ stored_of a) b).told;
    }
outcome_more line es a b =
    same
    (rw (stored_append a b, new_more es (stored_of a) (stored_of b), append_assoc, append_assoc))
    (rw (stored_append a b, told_append line a b, append_assoc, append_assoc))

-- an unended line at the end is malformed, and stored by no record
left_stored : (t : Bool) → stored_of (cond t (Malformed ∷ []) []) ≡ []
unfolding stored_of stored
left_stored true = refl
left_stored false = refl

ending_is : (s : Between) → ending s ≡ outcome s.line s.events (left_asks s.carry)
unfolding ending
ending_is s =
    let none : stored_of (left_asks s.carry) ≡ [] = left_stored (is_left s.carry) in
    same (rw (none, new_none s.events, append-nil)) (rw (none, append-nil))

-- what a chunk asks for, and what is carried over goes on to ask for
chunk_asks :
    (long : Bool) (chunk more : List ℕ)
    → rest_asks commands long (chunk ++ more)
    ≡ asks_of commands long (lines_of chunk) ++ rest_asks commands (carry_after long chunk).long (kept_after long chunk ++ more)
unfolding carry_after kept_after
chunk_asks long chunk more =
    split commands more chunk (cut_up chunk) long
    ∙ ap (λ (cs : List Command). asks_of commands long (lines_of chunk) ++ cs)
    (carried commands commands_strict more (tail_long long (lines_of chunk)) (tail_of (lines_of chunk)) (tail_unended chunk (cut_up chunk)))

kept_unended : (long : Bool) (chunk : List ℕ) → Unended (kept_after long chunk)
unfolding kept_after
kept_unended long chunk = part_unended (carry_after long chunk).kept (tail_of (lines_of chunk)) (tail_unended chunk (cut_up chunk))

kept_long : (long : Bool) (chunk : List ℕ) → length (kept_after long chunk) ≡ (carry_after long chunk).kept
unfolding kept_after carry_after
kept_long long chunk =
    length-take-le (carry_after long chunk).kept (tail_of (lines_of chunk)) (kept_fits (tail_long long (lines_of chunk)) (tail_of (lines_of chunk)))

pub chunks_are :
    (bs : List (List ℕ)) (s : Between)
    → Unended s.kept
    → length s.kept ≡ s.carry.kept
    → packed_chunks s bs ≡ outcome s.line s.events (rest_asks commands s.carry.long (s.kept ++ flatten bs))
unfolding packed_chunks flatten after_chunk
chunks_are [] s u e =
    ending_is s
    ∙ ap (outcome s.line s.events) (sym (ended commands commands_strict s.carry s.kept u e) ∙ ap (rest_asks commands s.carry.long) (sym (append-nil s.kept)))
chunks_are (b ∷ bs) s u e =
    let long : Bool = s.carry.long in
    let chunk : List ℕ = s.kept ++ b in
    let behind : List Command = rest_asks commands (carry_after long chunk).long (kept_after long chunk ++ flatten bs) in
    let more : packed_chunks (after_chunk s b) bs ≡ outcome (s.line + length (asks s b)) (s.events ++ stored_of (asks s b)) behind =
    chunks_are bs (after_chunk s b) (kept_unended long chunk) (kept_long long chunk) in
    rw more
    (sym (outcome_more s.line s.events (asks s b) behind)
    ∙ ap (outcome s.line s.events)
    (sym (chunk_asks long chunk (flatten bs)) ∙ ap (rest_asks commands long) (append_assoc s.kept b (flatten bs))))

-- however the script is cut into chunks
pub chunk_by_chunk : (bs : List (List ℕ)) → packed_chunks outset bs ≡ packed (flatten bs)
unfolding outset packed rest_asks
chunk_by_chunk bs =
    chunks_are bs outset tt refl ∙ same (sym (file_is (stored_of (commands_of (flatten bs))))) refl
