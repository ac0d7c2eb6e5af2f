-- A line by its form: ended or not, too long, too short, its first two bytes, and then a letter with numbers; and what it asks for by
-- that form. Assumes nothing.
use Prim.Native.Nat.{ℕ, ◌≤◌, ◌<◌}
use mathlib.Core.Path.{◌≡◌, refl, sym, ap, ◌∙◌}
use mathlib.Core.Bool.{Bool, true, false, cond, ◌&&◌}
use mathlib.Core.List.{List, [], ◌∷◌}
use mathlib.Core.Option.{Option, none, some}
use native.Mathlib.Omega.{arith}
use lib.Dec.{leb}
use Rattle.std.proofs.lemmas.List.{nil_from_length}
use lib.ListN.{length}
use borrow.Author.Tests.{eq-eqb, ne_eqb, le-leb, lt-leb, leb-false}
use Rattle.model.specs.declared.Command.{Command}
use Rattle.model.specs.declared.Command.TheVariants.{Malformed}
use Rattle.model.specs.Lines.{onto_word, words_of, numbers_of, command_of, words_command, line_command, Line}
use Rattle.parsing.specs.Words.{command_with, up_to_six, Phrase, phrase_with, words_phrase, line_phrase}

-- ---- a line by its first two bytes

-- a space in front
space_line : (c : ℕ) (s : List ℕ) → c ≡ 32 → words_phrase (words_of (c ∷ s)) ≡ none
unfolding words_of words_phrase
space_line c s e = rw (words_of, eq-eqb c 32 e)

-- another letter after the first
other_line : (c d : ℕ) (s : List ℕ) → (c ≡ 32 → ⊥) → (d ≡ 32 → ⊥) → words_phrase (words_of (c ∷ d ∷ s)) ≡ none
unfolding words_of onto_word words_phrase
other_line c d s f e = rw (words_of, ne_eqb c 32 f, ne_eqb d 32 e) (go (words_of s))
  where
    go : (ws : List (List ℕ)) → words_phrase (onto_word c (onto_word d ws)) ≡ none
    go [] = refl
    go (w ∷ ws) = refl

-- one letter alone, or with a space after it
lone_line : (c : ℕ) → (c ≡ 32 → ⊥) → words_phrase (words_of (c ∷ [])) ≡ some (record { letter = c; numbers = [] })
unfolding words_of onto_word numbers_of words_phrase phrase_with
lone_line c f = rw (words_of, ne_eqb c 32 f)

letter_line : (c d : ℕ) (s : List ℕ) → (c ≡ 32 → ⊥) → d ≡ 32 → words_phrase (words_of (c ∷ d ∷ s)) ≡ phrase_with c (numbers_of (words_of s))
unfolding words_of onto_word words_phrase
letter_line c d s f e = rw (words_of, ne_eqb c 32 f, eq-eqb d 32 e)

-- its numbers are those that were read
pub lettered : (c : ℕ) (o : Option (List ℕ)) (ns : List ℕ) → some ns ≡ up_to_six o → ◌≡◌ {A = Option Phrase} (some (record { letter = c; numbers = ns })) (phrase_with c o)
unfolding phrase_with
lettered c none ns e = cc
lettered c (some ms) ns e = go (leb (length ms) 6) e
  where
    go : (b : Bool) → some ns ≡ cond b (some ms) none → ◌≡◌ {A = Option Phrase} (some (record { letter = c; numbers = ns })) (cond b (some (record { letter = c; numbers = ms })) none)
    go true e = let z : ns ≡ ms = cc in let f : List ℕ → Option Phrase = λ l. some (record { letter = c; numbers = l }) in ap f z
    go false e = cc

pub unlettered : (c : ℕ) (o : Option (List ℕ)) → none ≡ up_to_six o → ◌≡◌ {A = Option Phrase} none (phrase_with c o)
unfolding phrase_with
unlettered c none e = refl
unlettered c (some ms) e = go (leb (length ms) 6) e
  where
    go : (b : Bool) → none ≡ cond b (some ms) none → ◌≡◌ {A = Option Phrase} none (cond b (some (record { letter = c; numbers = ms })) none)
    go true e = cc
    go false e = refl

-- ---- a line as a whole

module _ (s : List ℕ) where
  abbrev line : Bool → Line
  line b = record { text = s; ended = b }

  pub unended_form : (b : Bool) → b ≡ false → line_phrase (line b) ≡ none
  unfolding line_phrase
  unended_form b e = rw e

  -- a line that is too long says nothing, whatever it is
  pub long_form : (b : Bool) → 79 < length s → line_phrase (line b) ≡ none
  unfolding line_phrase
  long_form b h = rw (lt-leb (length s) 79 h) (go b)
    where
      go : (t : Bool) → ◌≡◌ {A = Option Phrase} (cond (t && false) (words_phrase (words_of s)) none) none
      go true = refl
      go false = refl

  module _ (b : Bool) (e : b ≡ true) (h : length s ≤ 79) where
    whole : (t : List ℕ) → s ≡ t → line_phrase (line b) ≡ words_phrase (words_of t)
    unfolding line_phrase
    whole t g = rw (e, le-leb (length s) 79 h) (ap (λ l. words_phrase (words_of l)) g)

    pub blank_form : length s ≡ 0 → none ≡ line_phrase (line b)
    unfolding words_of words_phrase
    blank_form f = sym (whole [] (nil_from_length s f))

    -- the first byte, and those after it
    module _ (c : ℕ) (r : List ℕ) (p : s ≡ c ∷ r) where
      pub space_form : c ≡ 32 → none ≡ line_phrase (line b)
      space_form f = sym (whole (c ∷ r) p ∙ space_line c r f)

      module _ (f : c ≡ 32 → ⊥) where
        pub lone_form : length r ≡ 0 → ◌≡◌ {A = Option Phrase} (some (record { letter = c; numbers = [] })) (line_phrase (line b))
        lone_form g = sym (whole (c ∷ []) (p ∙ ap (λ l. c ∷ l) (nil_from_length r g)) ∙ lone_line c f)

        -- the second byte, and those after it
        module _ (d : ℕ) (t : List ℕ) (q : r ≡ d ∷ t) where
          two : s ≡ c ∷ d ∷ t
          two = p ∙ ap (λ l. c ∷ l) q

          pub other_form : (d ≡ 32 → ⊥) → none ≡ line_phrase (line b)
          other_form g = sym (whole (c ∷ d ∷ t) two ∙ other_line c d t f g)

          pub letter_form : d ≡ 32 → phrase_with c (numbers_of (words_of t)) ≡ line_phrase (line b)
          letter_form g = sym (whole (c ∷ d ∷ t) two ∙ letter_line c d t f g)

-- ---- what a line asks for, by its form

abbrev pub command_by : Option Phrase → Command
command_by none = Malformed
command_by (some p) = command_of p.letter p.numbers

-- no letter wants a seventh number
many : (c : ℕ) (ns : List ℕ) → 6 < length ns → command_of c ns ≡ Malformed
unfolding command_of
many c [] h = absurd (omega arith)
many c (x ∷ []) h = absurd (omega arith)
many c (x ∷ y ∷ []) h = absurd (omega arith)
many c (x ∷ y ∷ z ∷ []) h = absurd (omega arith)
many c (x ∷ y ∷ z ∷ u ∷ []) h = absurd (omega arith)
many c (x ∷ y ∷ z ∷ u ∷ v ∷ []) h = absurd (omega arith)
many c (x ∷ y ∷ z ∷ u ∷ v ∷ w ∷ []) h = absurd (omega arith)
many c (x ∷ y ∷ z ∷ u ∷ v ∷ w ∷ t ∷ ns) h = refl

with_phrase : (c : ℕ) (o : Option (List ℕ)) → command_with c o ≡ command_by (phrase_with c o)
unfolding command_with phrase_with
with_phrase c none = refl
with_phrase c (some ns) = go (leb (length ns) 6) refl
  where
    go : (b : Bool) → leb (length ns) 6 ≡ b → command_of c ns ≡ command_by (cond b (some (record { letter = c; numbers = ns })) none)
    go true e = refl
    go false e = many c ns (leb-false (length ns) 6 e)

with_cases : (c : ℕ) (o : Option (List ℕ)) → command_with c o ≡ (elim o as (λ _. Command) [ none ↦ Malformed | some ns ↦ command_of c ns ])
unfolding command_with
with_cases c none = refl
with_cases c (some ns) = refl

words_ask : (ws : List (List ℕ)) → words_command ws ≡ command_by (words_phrase ws)
unfolding words_command words_phrase
words_ask [] = refl
words_ask ([] ∷ ws) = refl
words_ask ((c ∷ []) ∷ ws) = sym (with_cases c (numbers_of ws)) ∙ with_phrase c (numbers_of ws)
words_ask ((c ∷ d ∷ w) ∷ ws) = refl

pub line_asks : (l : Line) → line_command l ≡ command_by (line_phrase l)
unfolding line_command line_phrase
line_asks l = go (l.ended && leb (length l.text) 79)
  where
    go : (b : Bool) → cond b (words_command (words_of l.text)) Malformed ≡ command_by (cond b (words_phrase (words_of l.text)) none)
    go true = words_ask (words_of l.text)
    go false = refl

pub asks_by : (l : Line) (p : Option Phrase) → p ≡ line_phrase l → command_by p ≡ line_command l
asks_by l p e = sym (line_asks l ∙ ap command_by (sym e))

-- a line that is not of the form asks for nothing
pub unended_is : (s : List ℕ) (b : Bool) → b ≡ false → Malformed ≡ line_command (record { text = s; ended = b })
unended_is s b e = sym (line_asks (record { text = s; ended = b }) ∙ ap command_by (unended_form s b e))

pub long_is : (s : List ℕ) (b : Bool) → 79 < length s → Malformed ≡ line_command (record { text = s; ended = b })
long_is s b h = sym (line_asks (record { text = s; ended = b }) ∙ ap command_by (long_form s b h))
