-- A chunk converted byte by byte: what each byte puts, how much room that takes, and the chunk as a whole. Assumes nothing.
use Prim.Native.Nat.{ℕ, suc, ◌+◌, ◌*◌, ◌/◌, ◌≤◌, ◌<◌}
use mathlib.Core.Path.{◌≡◌, refl, sym, ap, subst, ◌∙◌}
use mathlib.Core.Bool.{Bool, true, false, cond}
use mathlib.Core.List.{List, [], ◌∷◌, ◌++◌}
use native.Mathlib.Numerals.{add-one}
use native.Mathlib.Omega.{arith}
use lib.Dec.{eqb}
use lib.ListN.{length, take, get_or, set, length-append}
use lib.Seq.{take-suc, take_all, length-take-le}
use Rattle.std.specs.Prelude.{Option, Some, None}
use borrow.Author.Tests.{eq-eqb, ne_eqb, le-leb, lt-leb}
use Rattle.printing.specs.Printing.{Wrote}
use Rattle.printing.proofs.Printed.{nothing_put, and_then, put_as, put_long, put_shown}
use Rattle.convert.specs.declared.Pending.{Pending}
use Rattle.convert.specs.Converting.{taken_as_five}
use Rattle.convert.specs.Chunkwise.{added, converted_from, line_after, remembered}
use Rattle.convert.specs.Promises.{text_of, Converts, Answers}
use Rattle.convert.proofs.Bytes.{from_append, after_append, from_remembered, after_remembered}

-- ---- at a newline, and for any other byte

pub added_few : (line : List ℕ) → length (added line) ≤ 2
unfolding added
added_few line = go (taken_as_five (record { text = line; ended = true }))
  where
    go : (t : Bool) → length {A = ℕ} (cond t (32 ∷ 48 ∷ []) []) ≤ 2
    go true = omega arith
    go false = omega arith

module _ (line out : List ℕ) (at : ℕ) where
  pub put_none : taken_as_five (record { text = line; ended = true }) ≡ false → Wrote out at (added line) out at
  unfolding added
  put_none e = rw e nothing_put

  pub put_balance :
      taken_as_five (record { text = line; ended = true }) ≡ true
      → Wrote out at (added line) (set (set out at 32) (at + 1) 48) (at + 2)
  unfolding added
  put_balance e = rw e (record { place = refl; bytes = rw add-one })

  pub put_room : {out' : List ℕ} {p : ℕ} → at + 3 ≤ length out → Wrote out at (added line) out' p → p < length out'
  put_room h w = omega (arith, w.place, added_few line, put_long w)

  pub ends_line :
      (b : ℕ) (out' : List ℕ) (p : ℕ) (r : Pending)
      → b ≡ 10
      → Wrote out at (added line) out' p
      → text_of r ≡ []
      → Converts line (b ∷ []) out at (set out' p b) (p + 1) r
  unfolding converted_from line_after
  ends_line b out' p r e w t = record {
    text = rw (converted_from, eq-eqb b 10 e) (and_then w (record { place = refl; bytes = refl }));
    rest = rw (line_after, eq-eqb b 10 e, t);
  }

  pub goes_on :
      (b : ℕ) (r : Pending)
      → (b ≡ 10 → ⊥)
      → text_of r ≡ remembered (line ++ (b ∷ []))
      → Converts line (b ∷ []) out at (set out at b) (at + 1) r
  unfolding converted_from line_after
  goes_on b r e t = record {
    text = rw (converted_from, ne_eqb b 10 e) (record { place = refl; bytes = refl });
    rest = rw (line_after, ne_eqb b 10 e, t);
  }

-- ---- byte after byte

pub from_few : (line bs : List ℕ) → length (converted_from line bs) ≤ 3 * length bs
unfolding converted_from
from_few line [] = omega arith
from_few line (b ∷ bs) =
    let f = from_few [] bs in
    let g = from_few (line ++ (b ∷ [])) bs in
    go (eqb b 10) f g
  where
    go :
        (t : Bool)
        → length (converted_from [] bs) ≤ 3 * length bs
        → length (converted_from (line ++ (b ∷ [])) bs) ≤ 3 * length bs
        → length (cond t (added line ++ b ∷ converted_from [] bs) (b ∷ converted_from (line ++ (b ∷ [])) bs)) ≤ 3 * suc (length bs)
    go true f g = rw length-append (omega (arith, added_few line))
    go false f g = omega arith

pub converts_none : (line out : List ℕ) (r : Pending) → text_of r ≡ remembered line → Converts line [] out 0 out 0 r
unfolding converted_from line_after
converts_none line out r t = record { text = nothing_put; rest = t }

-- a chunk converted up to a place, and its next byte
module _
    (line chunk out₀ : List ℕ) (i : ℕ) (out : List ℕ) (n : ℕ) (r : Pending)
    (w : Converts line (take i chunk) out₀ 0 out n r)
    (h : i < length chunk) where
  pub next_room : 3 * length chunk ≤ length out₀ → n + 3 ≤ length out
  next_room room =
      let l : length (take i chunk) ≡ i = length-take-le i chunk (omega arith) in
      omega (arith, w.text.place, from_few line (take i chunk), put_long w.text)

  pub converts_on :
      {out' : List ℕ} {n' : ℕ} {r' : Pending}
      → Converts (text_of r) (get_or chunk i 0 ∷ []) out n out' n' r'
      → Converts line (take (i + 1) chunk) out₀ 0 out' n' r'
  converts_on v =
      let b = get_or chunk i 0 ∷ [] in
      let e : take (i + 1) chunk ≡ take i chunk ++ b = rw add-one (take-suc chunk i 0 h) in
      let there : List ℕ = line_after line (take i chunk) in
      let f : converted_from (text_of r) b ≡ converted_from there b = rw w.rest (from_remembered b there) in
      let g : remembered (line_after (text_of r) b) ≡ remembered (line_after there b) =
      rw w.rest (after_remembered b there)
      in
      rw e (record {
        text = put_as (sym (from_append (take i chunk) b line)) (and_then w.text (put_as f v.text));
        rest = v.rest ∙ g ∙ ap remembered (sym (after_append (take i chunk) b line));
      })

-- ---- a chunk as a whole

module _ (line : Pending) (chunk out : List ℕ) where
  pub refused_short : length out / 3 < length chunk → Answers line chunk out out None line
  refused_short h =
      let e : length out < 3 * length chunk = omega arith in
      record { fits = sym (lt-leb (3 * length chunk) (length out) e); done = λ n f. cc; refused = λ _. (refl, refl) }

  pub converted_whole :
      (out₀ : List ℕ) (i n : ℕ) (r : Pending)
      → 3 * length chunk ≤ length out₀
      → length chunk ≤ i
      → Converts (text_of line) (take i chunk) out₀ 0 out n r
      → Answers line chunk out₀ out (Some n) r
  converted_whole out₀ i n r h e w =
      let v : Converts (text_of line) chunk out₀ 0 out n r = rw (take_all i chunk e) at w in
      record {
        fits = sym (le-leb (3 * length chunk) (length out₀) h);
        done = λ m f. let k : n ≡ m = cc in subst (λ (x : ℕ). Converts (text_of line) chunk out₀ 0 out x r) k v;
        refused = λ f. cc;
      }

-- what a caller who lends enough has: the text at the front of the output, and the line that has not ended
module _
    {line : Pending} {chunk out₀ out : List ℕ} {r : Option ℕ} {rest : Pending}
    (a : Answers line chunk out₀ out r rest)
    (n : ℕ) (e : r ≡ Some n) where
  module _ (h : 3 * length chunk ≤ length out₀) where
    pub shown : take n out ≡ converted_from (text_of line) chunk
    shown = put_shown (a.done n e).text (omega (arith, from_few (text_of line) chunk))

    pub shown_within : n ≤ length out
    shown_within =
        let w = a.done n e in
        omega (arith, w.text.place, from_few (text_of line) chunk, put_long w.text)
