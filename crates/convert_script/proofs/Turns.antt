-- Turn by turn the line in memory is what the chunks so far have left. Assumes nothing.
use Prim.Native.Nat.{ℕ}
use mathlib.Core.Path.{◌≡◌, refl, sym, ap, ◌∙◌}
use mathlib.Core.List.{List, [], ◌∷◌, ◌++◌}
use Rattle.convert.specs.declared.Pending.{Pending}
use Rattle.convert.specs.Chunkwise.{line_after, remembered}
use Rattle.convert.specs.Promises.{text_of}
use Rattle.convert_script.specs.Turns.{after_chunks, Reached, Turned}

pub at_outset : {line : Pending} → text_of line ≡ [] → Reached line
unfolding after_chunks
at_outset e = record { chunks = []; text = e }

one_more :
    (line : List ℕ) (bs : List (List ℕ)) (b : List ℕ)
    → after_chunks line (bs ++ (b ∷ [])) ≡ remembered (line_after (after_chunks line bs) b)
unfolding after_chunks
one_more line [] b = refl
one_more line (c ∷ bs) b = one_more (remembered (line_after line c)) bs b

pub reached_on : {line r : Pending} → Reached line → Turned line r → Reached r
reached_on c t = record {
  chunks = c.chunks ++ (t.chunk ∷ []);
  text =
      t.text
      ∙ ap (λ (l : List ℕ). remembered (line_after l t.chunk)) c.text
      ∙ sym (one_more [] c.chunks t.chunk);
}
