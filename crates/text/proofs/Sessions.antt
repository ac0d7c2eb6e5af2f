-- Answering chunk by chunk gives the session of the whole input, however it is cut into chunks, for any program that answers line by
-- line; for ./run that is the definitions' session. Assumes nothing.
use Prim.Native.Nat.{ℕ, zero, suc, ◌≤◌}
use mathlib.Core.Path.{◌≡◌, refl, sym, ap, ◌∙◌}
use mathlib.Core.Bool.{Bool, true, false}
use mathlib.Core.List.{List, [], ◌∷◌, ◌++◌, map, flatten, append_assoc, append-nil}
use mathlib.Core.Option.{Option, none}
use lib.ListN.{length, take, drop}
use lib.Seq.{length-take-le, take_at}
use Rattle.model.specs.Lines.{Line, lines_of, line_command}
use Rattle.model.specs.Session.{Desk, answer, answers, session}
use Rattle.text.specs.declared.Carry.{Carry}
use Rattle.text.specs.Readers.{Reader, Strict, asks_after, asks_of, rest_asks, commands}
use Rattle.text.specs.Chunks.{carry_of, CarriedOver, tail_of, tail_long}
use Rattle.text.specs.Answers.{Program, rehearsal, replies_to, state_after, carry_after, kept_after, chunkwise}
use Rattle.text.proofs.Chunks.{Unended, Cut, cut, uncut, cut_up, onto_all, lines_ended, lines_open, open_asks, open_tail, open_long}
use Rattle.text.proofs.Carrying.{kept_fits, kept_few, carried, ended, commands_strict}

-- ---- answers one after the other

module _ {A S : Type 0} (P : Program A S) where
  pub replies_append :
      (xs bs : List A) (s : S) → replies_to P (xs ++ bs) s ≡ replies_to P xs s ++ replies_to P bs (state_after P xs s)
  unfolding replies_to state_after
  replies_append [] bs s = refl
  replies_append (a ∷ xs) bs s = rw (replies_append xs bs (P.next a s), append_assoc)

  pub state_append : (xs bs : List A) (s : S) → state_after P (xs ++ bs) s ≡ state_after P bs (state_after P xs s)
  unfolding state_after
  state_append [] bs s = refl
  state_append (a ∷ xs) bs s = state_append xs bs (P.next a s)

  -- what each answer keeps, all of them keep
  pub kept_after_lem :
      (Fair : S → Type 0) → ((a : A) (s : S) → Fair s → Fair (P.next a s)) → (xs : List A) (s : S) → Fair s → Fair (state_after P xs s)
  unfolding state_after
  kept_after_lem Fair h [] s f = f
  kept_after_lem Fair h (a ∷ xs) s f = kept_after_lem Fair h xs (P.next a s) (h a s f)

-- an answer of ./run depends on what a line asks for alone
pub answers_are : (ls : List Line) (desk : Option Desk) → answers ls desk ≡ replies_to rehearsal (map line_command ls) desk
unfolding answers replies_to
answers_are [] desk = refl
answers_are (l ∷ ls) desk =
    ap (λ (t : List ℕ). (answer (line_command l) desk).text ++ t) (answers_are ls (answer (line_command l) desk).desk)

pub session_is : (input : List ℕ) → session input ≡ replies_to rehearsal (rest_asks commands false input) none
unfolding session rest_asks
session_is input = answers_are (lines_of input) none

-- ---- an input in two parts

module _ {A : Type 0} (r : Reader A) where
  from_ended :
      (long : Bool) (t rest : List ℕ)
      → Unended t
      → rest_asks r long (t ++ 10 ∷ rest) ≡ asks_after r long (record { text = t; ended = true }) ∷ rest_asks r false rest
  unfolding rest_asks
  from_ended true t rest u = rw (lines_ended t rest u)
  from_ended false t rest u = rw (lines_ended t rest u)

  -- what a chunk asks for, and what its tail goes on to ask for
  module _ (more : List ℕ) where
    abbrev from_tail : Bool → List Line → List A
    from_tail long ls = asks_of r long ls ++ rest_asks r (tail_long long ls) (tail_of ls ++ more)

    tail_open : (t : List ℕ) (long : Bool) → rest_asks r long (t ++ more) ≡ from_tail long (onto_all t [])
    tail_open t long = rw (open_asks r t long, open_long t long, open_tail t)

    pub split : (chunk : List ℕ) → Cut chunk → (long : Bool) → rest_asks r long (chunk ++ more) ≡ from_tail long (lines_of chunk)
    unfolding asks_of tail_long tail_of
    split chunk (cut t rest u e c) long =
        ap (λ (l : List ℕ). rest_asks r long (l ++ more)) e
        ∙ ap (rest_asks r long) (append_assoc t (10 ∷ rest) more)
        ∙ from_ended long t (rest ++ more) u
        ∙ ap (λ (xs : List A). asks_after r long (record { text = t; ended = true }) ∷ xs) (split rest c false)
        ∙ sym (ap (from_tail long) (ap lines_of e ∙ lines_ended t rest u))
    split chunk (uncut u) long = tail_open chunk long ∙ sym (ap (from_tail long) (lines_open chunk u))

-- ---- chunk by chunk

pub tail_unended : (chunk : List ℕ) → Cut chunk → Unended (tail_of (lines_of chunk))
unfolding tail_of
tail_unended chunk (cut t rest u e c) = rw (e, lines_ended t rest u) (tail_unended rest c)
tail_unended chunk (uncut u) = rw (lines_open chunk u) (rw (open_tail chunk) u)

pub part_unended : (n : ℕ) (t : List ℕ) → Unended t → Unended (take n t)
part_unended zero t u = tt
part_unended (suc n) [] u = tt
part_unended (suc n) (b ∷ t) u = (u.0, part_unended n t u.1)

module _ {A S : Type 0} (P : Program A S) (strict : Strict P.reader) where
  abbrev rests : Bool → List ℕ → List A
  rests long input = rest_asks P.reader long input

  pub chunkwise_is :
      (bs : List (List ℕ)) (c : Carry) (kept : List ℕ) (s : S)
      → Unended kept
      → length kept ≡ c.kept
      → chunkwise P c kept s bs ≡ replies_to P (rests c.long (kept ++ flatten bs)) s
  unfolding chunkwise flatten carry_after kept_after
  chunkwise_is [] c kept s u e =
      ap (λ (xs : List A). replies_to P xs s) (sym (ended P.reader strict c kept u e))
      ∙ ap (λ (l : List ℕ). replies_to P (rests c.long l) s) (sym (append-nil kept))
  chunkwise_is (b ∷ bs) c kept s u e =
      let chunk : List ℕ = kept ++ b in
      let tail : List ℕ = tail_of (lines_of chunk) in
      let long : Bool = tail_long c.long (lines_of chunk) in
      let carry : Carry = carry_of long tail in
      let xs : List A = asks_of P.reader c.long (lines_of chunk) in
      let u : Unended tail = tail_unended chunk (cut_up chunk) in
      ap (λ (t : List ℕ). replies_to P xs s ++ t)
      (chunkwise_is bs carry (take carry.kept tail) (state_after P xs s) (part_unended carry.kept tail u)
      (length-take-le carry.kept tail (kept_fits long tail)))
      ∙ sym (replies_append P xs (rests carry.long (take carry.kept tail ++ flatten bs)) s)
      ∙ ap (λ (ds : List A). replies_to P (xs ++ ds) s) (sym (carried P.reader strict (flatten bs) long tail u))
      ∙ ap (λ (ds : List A). replies_to P ds s) (sym (split P.reader (flatten bs) chunk (cut_up chunk) c.long))
      ∙ ap (λ (l : List ℕ). replies_to P (rests c.long l) s) (append_assoc kept b (flatten bs))

  -- however the input is cut into chunks
  pub by_chunks :
      (bs : List (List ℕ)) (s : S)
      → chunkwise P (record { kept = 0; long = false }) [] s bs ≡ replies_to P (rests false (flatten bs)) s
  by_chunks bs s = chunkwise_is bs (record { kept = 0; long = false }) [] s tt refl

pub chunk_by_chunk :
    (bs : List (List ℕ)) → chunkwise rehearsal (record { kept = 0; long = false }) [] none bs ≡ session (flatten bs)
chunk_by_chunk bs = by_chunks rehearsal commands_strict bs none ∙ sym (session_is (flatten bs))

-- ---- the carry of a chunk, as the buffer has it

pub carry_few : (long : Bool) (chunk : List ℕ) → (carry_after long chunk).kept ≤ 79
unfolding carry_after
carry_few long chunk = kept_few (tail_long long (lines_of chunk)) (tail_of (lines_of chunk))

module _ (before after : List ℕ) (long : Bool) (c : Carry) (long₀ : Bool) (chunk tail : List ℕ) where
  pub carried_after :
      CarriedOver before tail long after c
      → tail ≡ tail_of (lines_of chunk)
      → long ≡ tail_long long₀ (lines_of chunk)
      → (c ≡ carry_after long₀ chunk) × (take c.kept after ≡ kept_after long₀ chunk)
  unfolding carry_after kept_after
  carried_after o e f =
      let k : c ≡ carry_of (tail_long long₀ (lines_of chunk)) (tail_of (lines_of chunk)) = o.carry ∙ rw (e, f) in
      let n : length (take c.kept tail) ≡ c.kept = length-take-le c.kept tail (rw o.carry (kept_fits long tail)) in
      let t : take c.kept after ≡ take c.kept tail =
      ap (λ (l : List ℕ). take c.kept l) o.bytes
      ∙ take_at (take c.kept tail) (drop c.kept before) c.kept n
      in
      (k, t ∙ rw (e, k))
