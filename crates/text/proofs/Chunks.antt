-- Input read chunk by chunk is the definitions' input: a chunk's next line, what is carried over, and the end. Assumes
-- nothing.
use Prim.Native.Nat.{ℕ, zero, suc, ◌+◌, ◌-◌, ◌≤◌, ◌<◌}
use mathlib.Core.Path.{◌≡◌, refl, sym, ap, subst, ◌∙◌}
use mathlib.Core.Bool.{Bool, true, false, cond}
use mathlib.Core.List.{List, [], ◌∷◌, ◌++◌, append-nil}
use native.Mathlib.Nat.{le_refl}
use native.Mathlib.Numerals.{add-one}
use native.Mathlib.Omega.{arith}
use lib.Dec.{eqb, ltb}
use lib.ListN.{length, get_or, take, drop, length-append, length-drop, take-append-drop, drop_of_length-le}
use lib.Seq.{drop-cons, drop-drop, drop-append-add, take_at, take-length, length-take-le}
use borrow.Author.Tests.{ne_eqb, eqb-true, eqb-false, ltb-false}
use Rattle.model.specs.declared.Command.{Command}
use Rattle.model.specs.declared.Command.TheVariants.{Malformed}
use Rattle.model.specs.Lines.{Line, onto, lines_of, line_command}
use Rattle.model.specs.Words.{Each}
use Rattle.std.specs.Prelude.{Some, None}
use Rattle.std.specs.List.{position, position_or_len}
use Rattle.std.proofs.lemmas.List.Quantifiers.{position-Some}
use Rattle.std.proofs.lemmas.List.Sums.{fails_before_first}
use Rattle.text.specs.declared.Bounds.{Bounds}
use Rattle.text.specs.declared.NextCommand.{NextCommand}
use Rattle.text.specs.Readers.{Reader, asks_after, asks_of, after_first, commands}
use Rattle.text.specs.Chunks.{tail_of, tail_long, bounds_at, next_line, command_at, next_command}

-- a line's place, and what was read in it
abbrev pub span : ℕ → ℕ → Bounds
span a b = record { start = a; end = b }

abbrev pub reads : Command → ℕ → NextCommand
reads c p = record { command = c; place = p }

-- ---- lines of an input with a newline or without

-- no newline in it
abbrev pub Unended : List ℕ → Type 0
Unended t = Each (λ b. b ≡ 10 → ⊥) t

pub lines_ended :
    (t rest : List ℕ) → Unended t → lines_of (t ++ 10 ∷ rest) ≡ record { text = t; ended = true } ∷ lines_of rest
unfolding lines_of onto
lines_ended [] rest u = refl
lines_ended (b ∷ t) rest u = rw (lines_of, ne_eqb b 10 u.0, lines_ended t rest u.1)

-- an unended text in front of a first line
unfoldable pub onto_all : List ℕ → List Line → List Line
onto_all [] ls = ls
onto_all (b ∷ t) ls = onto b (onto_all t ls)

pub lines_grow : (t more : List ℕ) → Unended t → lines_of (t ++ more) ≡ onto_all t (lines_of more)
unfolding lines_of onto_all
lines_grow [] more u = refl
lines_grow (b ∷ t) more u = rw (lines_of, ne_eqb b 10 u.0, lines_grow t more u.1)

abbrev pub first_text : List Line → List ℕ
first_text [] = []
first_text (l ∷ ls) = l.text

abbrev pub first_ended : List Line → Bool
first_ended [] = false
first_ended (l ∷ ls) = l.ended

abbrev pub grown : List ℕ → List Line → Line
grown t ls = record { text = t ++ first_text ls; ended = first_ended ls }

pub grown_first : (b : ℕ) (t : List ℕ) (ls : List Line) → onto_all (b ∷ t) ls ≡ grown (b ∷ t) ls ∷ after_first ls
unfolding onto_all onto
grown_first b [] [] = refl
grown_first b [] (l ∷ ls) = refl
grown_first b (d ∷ t) ls = rw (grown_first d t ls)

pub unended_from : (n : ℕ) (s : List ℕ) → n ≤ length s → ((k : ℕ) → k < n → get_or s k 0 ≡ 10 → ⊥) → Unended (take n s)
unended_from zero s h below = tt
unended_from (suc n) [] h below = absurd (omega arith)
unended_from (suc n) (b ∷ s) h below = (below 0 (omega arith), unended_from n s (omega arith) (λ k l. below (suc k) (omega arith)))

-- an input cut at its newlines: each line's bytes, and those after the last newline
pub data Cut : List ℕ → Type 0 where
  cut : {s : List ℕ} (t rest : List ℕ) → Unended t → s ≡ t ++ 10 ∷ rest → Cut rest → Cut s
  uncut : {s : List ℕ} → Unended s → Cut s

cut_one : (b : ℕ) (s : List ℕ) → (b ≡ 10 → ⊥) → Cut s → Cut (b ∷ s)
cut_one b s h (cut t rest u e c) = cut (b ∷ t) rest (h, u) (ap (λ (l : List ℕ). b ∷ l) e) c
cut_one b s h (uncut u) = uncut {s = b ∷ s} (h, u)

pub cut_up : (s : List ℕ) → Cut s
cut_up [] = uncut tt
cut_up (b ∷ s) = go (eqb b 10) refl (cut_up s)
  where
    go : (t : Bool) → eqb b 10 ≡ t → Cut s → Cut (b ∷ s)
    go true e c = cut [] s tt (ap (λ (x : ℕ). x ∷ s) (eqb-true b 10 e)) c
    go false e c = cut_one b s (eqb-false b 10 e) c

-- ---- the next line of a chunk

pub lines_open : (t : List ℕ) → Unended t → lines_of t ≡ onto_all t []
unfolding lines_of
lines_open t u = sym (ap lines_of (append-nil t)) ∙ lines_grow t [] u

-- a tail asks for nothing
pub open_asks : {A : Type 0} (r : Reader A) (t : List ℕ) (long : Bool) → asks_of r long (onto_all t []) ≡ []
unfolding asks_of onto_all
open_asks r [] long = refl
open_asks r (b ∷ t) long = rw (grown_first b t [])

pub open_tail : (t : List ℕ) → tail_of (onto_all t []) ≡ t
unfolding tail_of onto_all
open_tail [] = refl
open_tail (b ∷ t) = rw (grown_first b t [], append-nil t)

pub open_long : (t : List ℕ) (long : Bool) → tail_long long (onto_all t []) ≡ long
unfolding tail_long onto_all
open_long [] long = refl
open_long (b ∷ t) long = rw (grown_first b t [])

module _ (start at : ℕ) (long : Bool) where
  tail_bounds : (t : List ℕ) → bounds_at start at (onto_all t []) ≡ None
  unfolding bounds_at onto_all
  tail_bounds [] = refl
  tail_bounds (b ∷ t) = rw (grown_first b t [])

  tail_command : (t : List ℕ) → command_at long at (onto_all t []) ≡ None
  unfolding command_at onto_all
  tail_command [] = refl
  tail_command (b ∷ t) = rw (grown_first b t [])

module _ (chunk : List ℕ) (at : ℕ) where
  abbrev there : List ℕ
  there = drop at chunk

  module _ (t rest : List ℕ) (u : Unended t) (e : there ≡ t ++ 10 ∷ rest) where
    abbrev first : Line
    first = record { text = t; ended = true }

    first_ended_lem : lines_of there ≡ first ∷ lines_of rest
    first_ended_lem = ap lines_of e ∙ lines_ended t rest u

    pub line_cut : next_line chunk at ≡ Some (span at (at + length t))
    unfolding next_line bounds_at
    line_cut = rw (next_line, first_ended_lem)

    command_cut : (long : Bool) → next_command long chunk at ≡ Some (reads (asks_after commands long first) (at + length t + 1))
    unfolding next_command command_at
    command_cut long = rw (next_command, first_ended_lem)

    -- the text is the part of the chunk from `at` on, and the newline after it stands in the chunk
    first_text_lem : take (length t) there ≡ t
    first_text_lem = ap (λ (l : List ℕ). take (length t) l) e ∙ take_at t (10 ∷ rest) (length t) refl

    first_within : at + length t < length chunk
    first_within =
        let h : length there ≡ length t + suc (length rest) = ap length e ∙ length-append t (10 ∷ rest) in
        omega (arith, length-drop at chunk)

    after_first_lem : drop (at + length t + 1) chunk ≡ rest
    after_first_lem =
        let n : at + length t + 1 ≡ at + (length t + 1) = omega arith in
        ap (λ (k : ℕ). drop k chunk) n
        ∙ sym (drop-drop (length t + 1) at chunk)
        ∙ ap (λ (l : List ℕ). drop (length t + 1) l) e
        ∙ drop-append-add t (10 ∷ rest) 1

    cut_text : (start end : ℕ) → start ≡ at → end ≡ at + length t → take (end - start) (drop start chunk) ≡ t
    cut_text start end f g =
        let n : end - start ≡ length t = omega arith in
        ap (λ (k : ℕ). take k (drop start chunk)) n ∙ ap (λ (k : ℕ). take (length t) (drop k chunk)) f ∙ first_text_lem

  pub line_uncut : Unended there → next_line chunk at ≡ None
  unfolding next_line
  line_uncut u = rw (lines_open there u) (tail_bounds at at true there)

  command_uncut : (long : Bool) → Unended there → next_command long chunk at ≡ None
  unfolding next_command
  command_uncut long u = rw (lines_open there u) (tail_command at at long there)

  -- what is known of bounds that were found
  pub record Bounded (start end : ℕ) : Type 0 where
    pub starts : start ≡ at
    pub ordered : start ≤ end
    pub inside : end < length chunk
    pub asks :
        (long : Bool)
        → next_command long chunk at
        ≡ Some (reads (asks_after commands long (record { text = take (end - start) (drop start chunk); ended = true })) (end + 1))

  pub bounded : (start end : ℕ) → next_line chunk at ≡ Some (span start end) → Bounded start end
  bounded start end p = go (cut_up there)
    where
      go : Cut there → Bounded start end
      go (cut t rest u e _) =
          let q = sym (line_cut t rest u e) ∙ p in
          let same : span start end ≡ span at (at + length t) = cc in
          let f : start ≡ at = ap (λ (l : Bounds). l.start) same in
          let g : end ≡ at + length t = ap (λ (l : Bounds). l.end) same in
          let w = first_within t rest u e in
          let m : at + length t + 1 ≡ end + 1 = omega arith in
          let x = cut_text t rest u e start end f g in
          record {
            starts = f;
            ordered = omega arith;
            inside = omega arith;
            asks = λ long.
                command_cut t rest u e long
                ∙ ap (λ (l : List ℕ). Some (reads (asks_after commands long (record { text = l; ended = true })) (at + length t + 1))) (sym x)
                ∙ ap (λ (k : ℕ). Some (reads (asks_after commands long (record { text = take (end - start) (drop start chunk); ended = true })) k)) m;
          }
      go (uncut u) = let q = sym (line_uncut u) ∙ p in cc

  module _ {start end : ℕ} (b : Bounded start end) (long : Bool) where
    pub asks_long : long ≡ true → Some (reads Malformed (end + 1)) ≡ next_command long chunk at
    asks_long e = sym (b.asks long ∙ rw e)

    pub asks_line :
        long ≡ false
        → (command : Command)
        → command ≡ line_command (record { text = take (end - start) (drop start chunk); ended = true })
        → Some (reads command (end + 1)) ≡ next_command long chunk at
    asks_line e command f = sym (b.asks long ∙ rw (e, f))

  -- ---- by the place of the first newline

  pub newline_first : (n : ℕ) → position (λ b. eqb b 10) there ≡ Some n → next_line chunk at ≡ Some (span at (at + n))
  newline_first n e =
      let p = position-Some (λ b. eqb b 10) there n 0 e in
      let l : length (take n there) ≡ n = length-take-le n there (omega (arith, p.0)) in
      let here : get_or there n 0 ≡ 10 = eqb-true _ 10 p.1 in
      let t : there ≡ take n there ++ 10 ∷ drop (n + 1) there =
      sym (take-append-drop n there) ∙ ap (λ (r : List ℕ). take n there ++ r) (drop-cons there n 0 p.0 ∙ rw (add-one, here))
      in
      line_cut (take n there) (drop (n + 1) there) (unended_from n there (omega (arith, p.0)) (λ k h f. eqb-false _ 10 (p.2 k h) f)) t ∙ rw l

  pub newline_missing : position (λ b. eqb b 10) there ≡ None → next_line chunk at ≡ None
  newline_missing e =
      line_uncut (subst Unended (take-length there) (unended_from (length there) there (le_refl (length there)) (λ k h f. eqb-false _ 10 (never there k h e) f)))
    where
      never : (s : List ℕ) (k : ℕ) → k < length s → position (λ b. eqb b 10) s ≡ None → eqb (get_or s k 0) 10 ≡ false
      never s k h n = go (ltb (position_or_len (λ b. eqb b 10) s) (length s)) refl n
        where
          go :
              (t : Bool)
              → ltb (position_or_len (λ b. eqb b 10) s) (length s) ≡ t
              → cond t (Some (position_or_len (λ b. eqb b 10) s)) None ≡ None
              → eqb (get_or s k 0) 10 ≡ false
          go true q e = cc
          go false q e =
              let l = ltb-false (position_or_len (λ b. eqb b 10) s) (length s) q in
              fails_before_first (λ b. eqb b 10) s k 0 (omega arith)

  pub beyond : length chunk ≤ at → next_line chunk at ≡ None
  beyond h = line_uncut (rw (drop_of_length-le chunk h) tt)

  pub unbounded : (long : Bool) → next_line chunk at ≡ None → next_command long chunk at ≡ None
  unbounded long p = go (cut_up there)
    where
      go : Cut there → next_command long chunk at ≡ None
      go (cut t rest u e _) = let q = sym (line_cut t rest u e) ∙ p in cc
      go (uncut u) = command_uncut long u

  module _ {A : Type 0} (r : Reader A) where
    -- a line that was taken: the chunk asks for it, and then for what stands after it
    pub record Taken (long : Bool) (asked : A) (place : ℕ) : Type 0 where
      pub onward : at < place
      pub inside : place ≤ length chunk
      pub asks : asks_of r long (lines_of there) ≡ asked ∷ asks_of r false (lines_of (drop place chunk))
      pub tail : tail_of (lines_of there) ≡ tail_of (lines_of (drop place chunk))
      pub still : tail_long long (lines_of there) ≡ tail_long false (lines_of (drop place chunk))

    taken_cut :
        (t rest : List ℕ) (u : Unended t) (e : there ≡ t ++ 10 ∷ rest) (long : Bool) (place : ℕ)
        → at + length t + 1 ≡ place
        → Taken long (asks_after r long (first t rest u e)) place
    unfolding asks_of tail_of tail_long
    taken_cut t rest u e long place g =
        let w = first_within t rest u e in
        let l : lines_of there ≡ first t rest u e ∷ lines_of (drop place chunk) =
        first_ended_lem t rest u e
        ∙ ap (λ (s : List ℕ). first t rest u e ∷ lines_of s) (sym (after_first_lem t rest u e) ∙ ap (λ (k : ℕ). drop k chunk) g)
        in
        record {
          onward = omega arith;
          inside = omega arith;
          asks = ap (asks_of r long) l;
          tail = ap tail_of l;
          still = ap (tail_long long) l;
        }

    -- no line is left: the rest is the chunk's tail
    pub record AllTaken (long : Bool) : Type 0 where
      pub unended : Unended there
      pub asks : asks_of r long (lines_of there) ≡ []
      pub tail : tail_of (lines_of there) ≡ there
      pub still : tail_long long (lines_of there) ≡ long

    taken_uncut : Unended there → (long : Bool) → AllTaken long
    taken_uncut u long =
        let l = lines_open there u in
        record {
          unended = u;
          asks = ap (asks_of r long) l ∙ open_asks r there long;
          tail = ap tail_of l ∙ open_tail there;
          still = ap (tail_long long) l ∙ open_long there long;
        }

    -- by the bounds of the next line
    pub taken_line :
        (long : Bool) (start end : ℕ)
        → next_line chunk at ≡ Some (span start end)
        → Taken long (asks_after r long (record { text = take (end - start) (drop start chunk); ended = true })) (end + 1)
    taken_line long start end p = go (cut_up there)
      where
        go : Cut there → Taken long (asks_after r long (record { text = take (end - start) (drop start chunk); ended = true })) (end + 1)
        go (cut t rest u e _) =
            let q = sym (line_cut t rest u e) ∙ p in
            let same : span start end ≡ span at (at + length t) = cc in
            let f : start ≡ at = ap (λ (l : Bounds). l.start) same in
            let g : end ≡ at + length t = ap (λ (l : Bounds). l.end) same in
            subst (λ (l : List ℕ). Taken long (asks_after r long (record { text = l; ended = true })) (end + 1))
            (sym (cut_text t rest u e start end f g)) (taken_cut t rest u e long (end + 1) (omega arith))
        go (uncut u) = let q = sym (line_uncut u) ∙ p in cc

    pub none_taken : (long : Bool) → next_line chunk at ≡ None → AllTaken long
    none_taken long p = go (cut_up there)
      where
        go : Cut there → AllTaken long
        go (cut t rest u e _) = let q = sym (line_cut t rest u e) ∙ p in cc
        go (uncut u) = taken_uncut u long

  -- by what ./run reads
  pub taken :
      (long : Bool) (command : Command) (place : ℕ)
      → next_command long chunk at ≡ Some (reads command place)
      → Taken commands long command place
  taken long command place p = go (cut_up there)
    where
      go : Cut there → Taken commands long command place
      go (cut t rest u e _) =
          let q = sym (command_cut t rest u e long) ∙ p in
          let same : reads (asks_after commands long (first t rest u e)) (at + length t + 1) ≡ reads command place = cc in
          let f : asks_after commands long (first t rest u e) ≡ command = ap (λ (n : NextCommand). n.command) same in
          let g : at + length t + 1 ≡ place = ap (λ (n : NextCommand). n.place) same in
          subst (λ (c : Command). Taken commands long c place) f (taken_cut commands t rest u e long place g)
      go (uncut u) = let q = sym (command_uncut long u) ∙ p in cc

  pub all_taken : (long : Bool) → next_command long chunk at ≡ None → AllTaken commands long
  all_taken long p = go (cut_up there)
    where
      go : Cut there → AllTaken commands long
      go (cut t rest u e _) =
          let q = sym (command_cut t rest u e long) ∙ p in cc
      go (uncut u) = taken_uncut commands u long
