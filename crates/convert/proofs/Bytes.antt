-- Byte by byte, and chunk by chunk, a conversion is that of the input's lines. Assumes nothing.
use Prim.Native.Nat.{ℕ, zero, suc, ◌<◌}
use mathlib.Core.Path.{◌≡◌, refl, sym, ap, ◌∙◌}
use mathlib.Core.Bool.{Bool, true, false, cond}
use mathlib.Core.List.{List, [], ◌∷◌, ◌++◌, flatten, append_assoc, append-nil}
use native.Mathlib.Omega.{arith}
use lib.Dec.{eqb, leb}
use lib.ListN.{length, take}
use lib.Seq.{append_snoc, take_all, take-take, length-take-le}
use borrow.Author.Tests.{ne_eqb, lt-leb, leb-true, leb-false}
use Rattle.model.specs.Lines.{lines_of}
use Rattle.text.proofs.Chunks.{Unended, Cut, cut, uncut, cut_up, grown_first, lines_ended, lines_open}
use Rattle.convert.specs.Converting.{taken_as_five, converted_line, converted}
use Rattle.convert.specs.Chunkwise.{added, converted_from, line_after, remembered, converted_chunks}

-- ---- one part after the other

pub from_append :
    (a b line : List ℕ) → converted_from line (a ++ b) ≡ converted_from line a ++ converted_from (line_after line a) b
unfolding converted_from line_after
from_append [] b line = refl
from_append (x ∷ a) b line = go (eqb x 10) (from_append a b []) (from_append a b (line ++ (x ∷ [])))
  where
    go :
        (t : Bool)
        → converted_from [] (a ++ b) ≡ converted_from [] a ++ converted_from (line_after [] a) b
        → converted_from (line ++ (x ∷ [])) (a ++ b)
        ≡ converted_from (line ++ (x ∷ [])) a ++ converted_from (line_after (line ++ (x ∷ [])) a) b
        → cond t (added line ++ x ∷ converted_from [] (a ++ b)) (x ∷ converted_from (line ++ (x ∷ [])) (a ++ b))
        ≡ cond t (added line ++ x ∷ converted_from [] a) (x ∷ converted_from (line ++ (x ∷ [])) a)
        ++ converted_from (cond t (line_after [] a) (line_after (line ++ (x ∷ [])) a)) b
    go true e f = rw (e, append_assoc)
    go false e f = ap (λ (l : List ℕ). x ∷ l) f

pub after_append : (a b line : List ℕ) → line_after line (a ++ b) ≡ line_after (line_after line a) b
unfolding line_after
after_append [] b line = refl
after_append (x ∷ a) b line = go (eqb x 10) (after_append a b []) (after_append a b (line ++ (x ∷ [])))
  where
    go :
        (t : Bool)
        → line_after [] (a ++ b) ≡ line_after (line_after [] a) b
        → line_after (line ++ (x ∷ [])) (a ++ b) ≡ line_after (line_after (line ++ (x ∷ [])) a) b
        → cond t (line_after [] (a ++ b)) (line_after (line ++ (x ∷ [])) (a ++ b))
        ≡ line_after (cond t (line_after [] a) (line_after (line ++ (x ∷ [])) a)) b
    go true e f = e
    go false e f = f

-- ---- the lines of the input

from_open : (t line : List ℕ) → Unended t → converted_from line t ≡ t
unfolding converted_from
from_open [] line u = refl
from_open (b ∷ t) line u = rw (converted_from, ne_eqb b 10 u.0, from_open t (line ++ (b ∷ [])) u.1)

from_ended :
    (t rest line : List ℕ)
    → Unended t
    → converted_from line (t ++ 10 ∷ rest) ≡ t ++ (added (line ++ t) ++ 10 ∷ converted_from [] rest)
unfolding converted_from
from_ended [] rest line u = rw append-nil
from_ended (b ∷ t) rest line u =
    rw (converted_from, ne_eqb b 10 u.0, from_ended t rest (line ++ (b ∷ [])) u.1, append_snoc)

line_ended : (t : List ℕ) → converted_line (record { text = t; ended = true }) ≡ t ++ added t ++ (10 ∷ [])
unfolding converted_line added
line_ended t = refl

-- an unended line is copied as it is
line_open : (t : List ℕ) → converted_line (record { text = t; ended = false }) ≡ t
unfolding converted_line taken_as_five
line_open t = simp append-nil

pub is_ended :
    (t rest : List ℕ) → Unended t → converted (t ++ 10 ∷ rest) ≡ t ++ (added t ++ 10 ∷ converted rest)
unfolding converted flatten
is_ended t rest u = rw (lines_ended t rest u, line_ended t) (simp append_assoc)

pub is_open : (t : List ℕ) → Unended t → converted t ≡ t
unfolding converted flatten lines_of
is_open [] u = refl
is_open (b ∷ t) u = rw (lines_open (b ∷ t) u, grown_first b t [], line_open, append-nil, append-nil)

pub from_start : (input : List ℕ) → Cut input → converted_from [] input ≡ converted input
from_start input (cut t rest u e c) = rw (e, from_ended t rest [] u, is_ended t rest u, from_start rest c)
from_start input (uncut u) = from_open input [] u ∙ sym (is_open input u)

-- ---- 80 bytes are enough to know that a line is no order

pub added_long : (line : List ℕ) → 79 < length line → added line ≡ []
unfolding added taken_as_five
added_long line h = rw (lt-leb (length line) 79 h)

pub take_onto : (n : ℕ) (l m : List ℕ) → take n (take n l ++ m) ≡ take n (l ++ m)
take_onto zero l m = refl
take_onto (suc n) [] m = refl
take_onto (suc n) (b ∷ l) m = ap (λ (k : List ℕ). b ∷ k) (take_onto n l m)

added_same : (line : List ℕ) → added (remembered line) ≡ added line
added_same line = go (leb (length line) 80) refl
  where
    go : (t : Bool) → leb (length line) 80 ≡ t → added (remembered line) ≡ added line
    go true e = ap added (take_all 80 line (leb-true (length line) 80 e))
    go false e =
        let h : 80 < length line = leb-false (length line) 80 e in
        let l = length-take-le 80 line (omega arith) in
        added_long (take 80 line) (omega arith) ∙ sym (added_long line (omega arith))

-- what is remembered of a line, with a byte more
onto_same : (line : List ℕ) (b : ℕ) → remembered (remembered line ++ (b ∷ [])) ≡ remembered (line ++ (b ∷ []))
onto_same line b = take_onto 80 line (b ∷ [])

pub from_remembered : (bs line : List ℕ) → converted_from (remembered line) bs ≡ converted_from line bs
unfolding converted_from
from_remembered [] line = refl
from_remembered (b ∷ bs) line =
    let e : converted_from (remembered line ++ (b ∷ [])) bs ≡ converted_from (line ++ (b ∷ [])) bs =
    sym (from_remembered bs (remembered line ++ (b ∷ [])))
    ∙ ap (λ (l : List ℕ). converted_from l bs) (onto_same line b)
    ∙ from_remembered bs (line ++ (b ∷ []))
    in
    rw (e, added_same line)

pub after_remembered :
    (bs line : List ℕ) → remembered (line_after (remembered line) bs) ≡ remembered (line_after line bs)
unfolding line_after
after_remembered [] line = take-take 80 80 line (omega arith)
after_remembered (b ∷ bs) line =
    go (eqb b 10)
    (sym (after_remembered bs (remembered line ++ (b ∷ [])))
    ∙ ap (λ (l : List ℕ). remembered (line_after l bs)) (onto_same line b)
    ∙ after_remembered bs (line ++ (b ∷ [])))
  where
    go :
        (t : Bool)
        → remembered (line_after (remembered line ++ (b ∷ [])) bs) ≡ remembered (line_after (line ++ (b ∷ [])) bs)
        → remembered (cond t (line_after [] bs) (line_after (remembered line ++ (b ∷ [])) bs))
        ≡ remembered (cond t (line_after [] bs) (line_after (line ++ (b ∷ [])) bs))
    go true e = refl
    go false e = e

-- ---- chunk by chunk

chunks_are : (bs : List (List ℕ)) (line : List ℕ) → converted_chunks line bs ≡ converted_from line (flatten bs)
unfolding converted_chunks converted_from flatten
chunks_are [] line = refl
chunks_are (b ∷ bs) line =
    ap (λ (l : List ℕ). converted_from line b ++ l)
    (chunks_are bs (remembered (line_after line b)) ∙ from_remembered (flatten bs) (line_after line b))
    ∙ sym (from_append b (flatten bs) line)

-- however the input is cut into chunks
pub chunk_by_chunk : (bs : List (List ℕ)) → converted_chunks [] bs ≡ converted (flatten bs)
chunk_by_chunk bs = chunks_are bs [] ∙ from_start (flatten bs) (cut_up (flatten bs))
