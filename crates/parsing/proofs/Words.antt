-- Words and their numbers, as they are read from the left, are the definitions'. Assumes nothing.
use Prim.Native.Nat.{ℕ, zero, suc, ◌+◌, ◌*◌, ◌-◌, ◌≤◌, ◌<◌}
use mathlib.Core.Path.{◌≡◌, refl, sym, ap, ◌∙◌}
use mathlib.Core.Bool.{Bool, true, false, cond, ◌&&◌}
use mathlib.Core.List.{List, [], ◌∷◌, ◌++◌}
use mathlib.Core.Option.{Option, none, some}
use native.Mathlib.Nat.{le_refl}
use native.Mathlib.Numerals.{add-one}
use native.Mathlib.Omega.{arith}
use lib.Dec.{eqb, leb}
use lib.ListN.{length, length-append, get_or, drop, drop_of_length-le}
use lib.Seq.{drop-cons}
use borrow.Author.Tests.{le-leb, lt-leb, leb-true}
use Rattle.model.specs.Lists.{all}
use Rattle.model.specs.Lines.{onto_word, words_of, is_digit, value_from, bare, number_of, numbers_of}
use Rattle.model.proofs.Bools.{and_left, and_right}
use Rattle.std.specs.Prelude.{Some, None}
use Rattle.std.specs.List.{slice_split, onto_first}
use Rattle.parsing.specs.Words.{found, up_to_six}

-- ---- a word as a number

-- the value never falls
value_grows : (w : List ℕ) (v : ℕ) → v ≤ value_from v w
unfolding value_from
value_grows [] v = le_refl v
value_grows (b ∷ w) v = let h = value_grows w (10 * v + (b - 48)) in omega arith

pub digit_from : (b : ℕ) → is_digit b ≡ true → (48 ≤ b) × (b ≤ 57)
unfolding is_digit
digit_from b e = (leb-true 48 b (and_left (leb 48 b) (leb b 57) e), leb-true b 57 (and_right (leb 48 b) (leb b 57) e))

module _ (w : List ℕ) where
  pub not_bare : bare w ≡ false → number_of w ≡ none
  unfolding number_of
  not_bare e = rw e

  not_digits : all is_digit w ≡ false → number_of w ≡ none
  unfolding number_of
  not_digits e = rw e (go (bare w))
    where
      go : (t : Bool) → cond (t && false && leb (value_from 0 w) 4_294_967_295) (some (value_from 0 w)) none ≡ none
      go true = refl
      go false = refl

  too_big : 4_294_967_295 < value_from 0 w → number_of w ≡ none
  unfolding number_of
  too_big e = rw (lt-leb _ _ e) (go (bare w && all is_digit w))
    where
      go : (t : Bool) → cond (t && false) (some (value_from 0 w)) none ≡ none
      go true = refl
      go false = refl

  is_number : bare w ≡ true → all is_digit w ≡ true → value_from 0 w ≤ 4_294_967_295 → number_of w ≡ some (value_from 0 w)
  unfolding number_of
  is_number e f g = rw (e, f, le-leb _ _ g)

-- a word read up to a place, with the value v so far
pub record Reading (w : List ℕ) (v i : ℕ) : Type 0 where
  pub plain : bare w ≡ true
  pub small : v ≤ 4_294_967_295
  pub value : value_from 0 w ≡ value_from v (drop i w)
  pub digits : all is_digit w ≡ all is_digit (drop i w)

pub reading_starts : (w : List ℕ) → bare w ≡ true → Reading w 0 0
reading_starts w e = record { plain = e; small = omega arith; value = refl; digits = refl }

module _ (w : List ℕ) (v i : ℕ) (r : Reading w v i) where
  module _ (h : i < length w) where
    abbrev next : ℕ
    next = 10 * v + (get_or w i 0 - 48)

    value_on : value_from v (drop i w) ≡ value_from next (drop (i + 1) w)
    unfolding value_from
    value_on = rw (drop-cons w i 0 h, value_from, add-one)

    digits_on : all is_digit (drop i w) ≡ is_digit (get_or w i 0) && all is_digit (drop (i + 1) w)
    unfolding all
    digits_on = rw (drop-cons w i 0 h, all, add-one)

    pub digit_bad : is_digit (get_or w i 0) ≡ false → number_of w ≡ none
    digit_bad e = not_digits w (r.digits ∙ digits_on ∙ rw e)

    pub value_bad : 4_294_967_295 < next → number_of w ≡ none
    value_bad e =
        let g = value_grows (drop (i + 1) w) next in
        let f : value_from 0 w ≡ value_from next (drop (i + 1) w) = r.value ∙ value_on in
        too_big w (omega arith)

    pub reading_on : is_digit (get_or w i 0) ≡ true → next ≤ 4_294_967_295 → Reading w next (i + 1)
    reading_on e f =
        record { plain = r.plain; small = f; value = r.value ∙ value_on; digits = r.digits ∙ digits_on ∙ rw e }

  pub reading_ends : length w ≤ i → number_of w ≡ some v
  unfolding value_from all
  reading_ends h =
      let e : value_from 0 w ≡ v = r.value ∙ rw (drop_of_length-le w h) in
      let d : all is_digit w ≡ true = r.digits ∙ rw (drop_of_length-le w h) in
      let m = r.small in
      is_number w r.plain d (omega arith) ∙ ap (λ (n : ℕ). some n) e

-- ---- word by word

-- a text cut at each space is its words
abbrev pub cut : List ℕ → List (List ℕ)
cut s = slice_split (λ b. eqb b 32) s

pub cut_words : (s : List ℕ) → cut s ≡ words_of s
unfolding words_of onto_word
cut_words [] = refl
cut_words (b ∷ s) = rw (cut_words s) (go (words_of s))
  where
    go : (ws : List (List ℕ)) → cond (eqb b 32) ([] ∷ ws) (onto_first b ws) ≡ cond (eqb b 32) ([] ∷ ws) (onto_word b ws)
    go [] = refl
    go (w ∷ ws) = refl

-- the first words are read, and they are numbers
pub record Numbers (ws : List (List ℕ)) (ns : List ℕ) : Type 0 where
  pub all : numbers_of ws ≡ some ns
  pub few : length ns ≤ 6

pub no_words : Numbers [] []
unfolding numbers_of
no_words = record { all = refl; few = omega arith }

-- the number of a first word in front of the others'
with_first : Option ℕ → Option (List ℕ) → Option (List ℕ)
with_first none p = none
with_first (some n) none = none
with_first (some n) (some ns) = some (n ∷ ns)

numbers_step : (w : List ℕ) (ws : List (List ℕ)) → numbers_of (w ∷ ws) ≡ with_first (number_of w) (numbers_of ws)
unfolding numbers_of with_first
numbers_step w ws = go (number_of w) (numbers_of ws)
  where
    go :
        (o : Option ℕ) (p : Option (List ℕ))
        → (elim o as (λ _. Option (List ℕ)) [ none ↦ none | some n ↦ elim p as (λ _. Option (List ℕ)) [ none ↦ none | some ns ↦ some (n ∷ ns) ] ]) ≡ with_first o p
    go none p = refl
    go (some n) none = refl
    go (some n) (some ns) = refl

-- where there is such a list, it is the number and the others'
with_both : (o : Option ℕ) (p : Option (List ℕ)) (ns : List ℕ) → with_first o p ≡ some ns → (n : ℕ) × (ms : List ℕ) × (o ≡ some n) × (p ≡ some ms) × (ns ≡ n ∷ ms)
unfolding with_first
with_both none p ns e = cc
with_both (some n) none ns e = cc
with_both (some n) (some ms) ns e = (n, ms, refl, refl, cc)

numbers_more : (ws : List (List ℕ)) (ns : List ℕ) (w : List ℕ) (v : ℕ) → numbers_of ws ≡ some ns → number_of w ≡ some v → numbers_of (ws ++ (w ∷ [])) ≡ some (ns ++ (v ∷ []))
unfolding numbers_of with_first
numbers_more [] ns w v e f = let z : ns ≡ [] = cc in rw (z, numbers_of, f)
numbers_more (u ∷ ws) ns w v e f =
    let b = with_both (number_of u) (numbers_of ws) ns (sym (numbers_step u ws) ∙ e) in
    let h : numbers_of (ws ++ (w ∷ [])) ≡ some (b.1 ++ (v ∷ [])) = numbers_more ws b.1 w v b.3 f in
    let o : number_of u ≡ some b.0 = b.2 in
    numbers_step u (ws ++ (w ∷ [])) ∙ rw (o, h) (ap (λ (l : List ℕ). some (l ++ (v ∷ []))) (sym b.4))

numbers_length : (ws : List (List ℕ)) (ns : List ℕ) → numbers_of ws ≡ some ns → length ns ≡ length ws
unfolding numbers_of
numbers_length [] ns e = let z : ns ≡ [] = cc in rw z
numbers_length (u ∷ ws) ns e =
    let b = with_both (number_of u) (numbers_of ws) ns (sym (numbers_step u ws) ∙ e) in
    ap length b.4 ∙ ap suc (numbers_length ws b.1 b.3)

bad_word : (ws : List (List ℕ)) (k : ℕ) (d : List ℕ) → k < length ws → number_of (get_or ws k d) ≡ none → numbers_of ws ≡ none
unfolding with_first
bad_word [] k d h e = absurd (omega arith)
bad_word (u ∷ ws) zero d h e = numbers_step u ws ∙ rw e
bad_word (u ∷ ws) (suc k) d h e =
    let i = bad_word ws k d (omega arith) e in
    numbers_step u ws ∙ rw i (go (number_of u))
  where
    go : (o : Option ℕ) → with_first o none ≡ none
    go none = refl
    go (some n) = refl

found_is : (o : Option ℕ) (v : ℕ) → found o ≡ Some v → o ≡ some v
found_is none v e = cc
found_is (some w) v e = let z : w ≡ v = cc in ap (λ (n : ℕ). some n) z

found_bad : (o : Option ℕ) → found o ≡ None → o ≡ none
found_bad none e = refl
found_bad (some w) e = cc

module _ (ws : List (List ℕ)) (ns : List ℕ) (r : Numbers ws ns) where
  pub numbers_on : (w : List ℕ) (v : ℕ) → found (number_of w) ≡ Some v → length ns < 6 → Numbers (ws ++ (w ∷ [])) (ns ++ (v ∷ []))
  numbers_on w v e h =
      record { all = numbers_more ws ns w v r.all (found_is (number_of w) v e); few = rw length-append (omega arith) }

  -- they are all the words of a text
  pub numbers_read : (s : List ℕ) → ws ≡ cut s → some ns ≡ up_to_six (numbers_of (words_of s))
  numbers_read s e = rw (← cut_words s, ← e, r.all, le-leb (length ns) 6 r.few)

  -- the next of the words of a text is a seventh
  pub seventh_word : (s : List ℕ) → length ns ≡ 6 → length ws < length (cut s) → none ≡ up_to_six (numbers_of (words_of s))
  seventh_word s six h = rw (← cut_words s) (go (numbers_of (cut s)) refl)
    where
      go : (o : Option (List ℕ)) → numbers_of (cut s) ≡ o → none ≡ up_to_six o
      go none e = refl
      go (some ms) e =
          let l = numbers_length ws ns r.all in
          let m = numbers_length (cut s) ms e in
          rw (lt-leb (length ms) 6 (omega arith))

pub word_bad : (s : List ℕ) (k : ℕ) (w : List ℕ) → k < length (cut s) → w ≡ get_or (cut s) k w → found (number_of w) ≡ None → none ≡ up_to_six (numbers_of (words_of s))
word_bad s k w h e f =
    let b : number_of (get_or (cut s) k w) ≡ none = ap number_of (sym e) ∙ found_bad (number_of w) f in
    rw (← cut_words s, bad_word (cut s) k w h b)
