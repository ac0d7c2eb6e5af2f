-- A line with a balance after it: its words, its numbers and its length. Assumes nothing.
use Prim.Native.Nat.{ℕ, zero, suc, ◌+◌, ◌*◌, ◌-◌, ◌≤◌}
use mathlib.Core.Path.{◌≡◌, refl, sym, ap, ◌∙◌}
use mathlib.Core.Bool.{Bool, true, false, cond, ◌&&◌}
use mathlib.Core.List.{List, [], ◌∷◌, ◌++◌}
use mathlib.Core.Option.{Option, none, some}
use native.Mathlib.Omega.{arith}
use lib.Dec.{eqb, leb}
use lib.ListN.{length}
use borrow.Author.Tests.{eqb-true, eqb-false, leb-true, leb-false, not-true}
use Rattle.model.specs.Lists.{all, total}
use Rattle.model.specs.Lines.{onto_word, words_of, is_digit, value_from, bare, number_of, numbers_of}
use Rattle.model.proofs.Bools.{and_left, and_right, not_both}
use Rattle.parsing.proofs.Words.{digit_from}
use Rattle.convert.specs.Converting.{are_five, five_words}

-- ---- words

some_word : (t : List ℕ) → 1 ≤ length (words_of t)
unfolding words_of onto_word
some_word [] = omega arith
some_word (b ∷ t) = go (eqb b 32) (words_of t)
  where
    go : (x : Bool) (ws : List (List ℕ)) → 1 ≤ length (cond x ([] ∷ ws) (onto_word b ws))
    go true ws = omega arith
    go false [] = omega arith
    go false (w ∷ ws) = omega arith

pub words_append : (t s : List ℕ) → words_of (t ++ 32 ∷ s) ≡ words_of t ++ words_of s
unfolding words_of onto_word
words_append [] s = refl
words_append (b ∷ t) s = rw (words_of, words_append t s) (go (eqb b 32) (words_of t) (some_word t))
  where
    go :
        (x : Bool) (ws : List (List ℕ))
        → 1 ≤ length ws
        → cond x ([] ∷ (ws ++ words_of s)) (onto_word b (ws ++ words_of s)) ≡ cond x ([] ∷ ws) (onto_word b ws) ++ words_of s
    go true ws h = refl
    go false [] h = absurd (omega arith)
    go false (w ∷ ws) h = refl

-- ---- numbers

-- numbers with one more after them, if they are all numbers
abbrev pub with_last : Option (List ℕ) → ℕ → Option (List ℕ)
with_last none n = none
with_last (some ns) n = some (ns ++ (n ∷ []))

-- a number in front of numbers, if they are all numbers
abbrev onto : Option ℕ → Option (List ℕ) → Option (List ℕ)
onto none os = none
onto (some m) none = none
onto (some m) (some ns) = some (m ∷ ns)

numbers_cons : (w : List ℕ) (ws : List (List ℕ)) → numbers_of (w ∷ ws) ≡ onto (number_of w) (numbers_of ws)
unfolding numbers_of
numbers_cons w ws = go (number_of w) (numbers_of ws)
  where
    go :
        (o : Option ℕ) (os : Option (List ℕ))
        → (elim o as (λ _. Option (List ℕ)) [ none ↦ none | some n ↦ elim os as (λ _. Option (List ℕ)) [ none ↦ none | some ns ↦ some (n ∷ ns) ] ])
        ≡ onto o os
    go none os = refl
    go (some n) none = refl
    go (some n) (some ns) = refl

pub numbers_more : (ws : List (List ℕ)) (w : List ℕ) (n : ℕ) → number_of w ≡ some n → numbers_of (ws ++ (w ∷ [])) ≡ with_last (numbers_of ws) n
unfolding numbers_of
numbers_more [] w n e = rw (numbers_of, e)
numbers_more (v ∷ ws) w n e =
    numbers_cons v (ws ++ (w ∷ []))
    ∙ ap (onto (number_of v)) (numbers_more ws w n e)
    ∙ go (number_of v) (numbers_of ws)
    ∙ ap (λ (o : Option (List ℕ)). with_last o n) (sym (numbers_cons v ws))
  where
    go : (o : Option ℕ) (os : Option (List ℕ)) → onto o (with_last os n) ≡ with_last (onto o os) n
    go none os = refl
    go (some m) none = refl
    go (some m) (some ns) = refl

-- ---- lengths

-- p times ten, n times
unfoldable tenfold : ℕ → ℕ → ℕ
tenfold p zero = p
tenfold p (suc n) = tenfold (10 * p) n

value_grows : (n p v : ℕ) (w : List ℕ) → p ≤ v → n ≤ length w → tenfold p n ≤ value_from v w
unfolding value_from tenfold
value_grows zero p v [] h f = h
value_grows zero p v (b ∷ w) h f =
    let g : p ≤ value_from (10 * v + (b - 48)) w = value_grows zero p (10 * v + (b - 48)) w (omega arith) (omega arith) in g
value_grows (suc n) p v [] h f = absurd (omega arith)
value_grows (suc n) p v (b ∷ w) h f = value_grows n (10 * p) (10 * v + (b - 48)) w (omega arith) (omega arith)

-- a number has at most ten digits
number_short : (w : List ℕ) → bare w ≡ true → all is_digit w ≡ true → value_from 0 w ≤ 4_294_967_295 → length w ≤ 10
unfolding bare all value_from tenfold
number_short [] e f g = absurd (not_both e refl)
number_short (b ∷ []) e f g = omega arith
number_short (b ∷ c ∷ w) e f g = go (leb (length (c ∷ w)) 9) refl
  where
    go : (t : Bool) → leb (length (c ∷ w)) 9 ≡ t → length (b ∷ c ∷ w) ≤ 10
    go true h = let k = leb-true (length (c ∷ w)) 9 h in omega arith
    go false h =
        let k = leb-false (length (c ∷ w)) 9 h in
        let d = digit_from b (and_left (is_digit b) (all is_digit (c ∷ w)) f) in
        let z = eqb-false b 48 (not-true (eqb b 48) e) in
        let v : 10_000_000_000 ≤ value_from (10 * 0 + (b - 48)) (c ∷ w) =
        value_grows 10 1 (10 * 0 + (b - 48)) (c ∷ w) (omega (arith, z)) (omega arith)
        in
        absurd (omega arith)

is_short : (w : List ℕ) (n : ℕ) → number_of w ≡ some n → length w ≤ 10
unfolding number_of
is_short w n e = go (bare w) (all is_digit w) (leb (value_from 0 w) 4_294_967_295) refl refl refl e
  where
    go :
        (x y z : Bool)
        → bare w ≡ x
        → all is_digit w ≡ y
        → leb (value_from 0 w) 4_294_967_295 ≡ z
        → cond (x && y && z) (some (value_from 0 w)) none ≡ some n
        → length w ≤ 10
    go true true true p q r e = number_short w p q (leb-true _ _ r)
    go true true false p q r e = let z : ◌≡◌ {A = ℕ} 0 1 = cc in absurd (omega arith)
    go true false z p q r e = let z : ◌≡◌ {A = ℕ} 0 1 = cc in absurd (omega arith)
    go false y z p q r e = let z : ◌≡◌ {A = ℕ} 0 1 = cc in absurd (omega arith)

-- the bytes of some words, each with one more for the space or the newline after it
abbrev span : List (List ℕ) → ℕ
span ws = total (λ w. suc (length w)) ws

words_span : (t : List ℕ) → span (words_of t) ≡ suc (length t)
unfolding words_of onto_word total
words_span [] = refl
words_span (b ∷ t) = go (eqb b 32) (words_of t) (words_span t)
  where
    go :
        (x : Bool) (ws : List (List ℕ))
        → span ws ≡ suc (length t)
        → span (cond x ([] ∷ ws) (onto_word b ws)) ≡ suc (suc (length t))
    go true ws e = omega arith
    go false [] e = absurd (omega arith)
    go false (w ∷ ws) e = omega arith

numbers_short : (ws : List (List ℕ)) (ns : List ℕ) → numbers_of ws ≡ some ns → span ws ≤ 11 * length ns
unfolding numbers_of total
numbers_short [] ns e = omega arith
numbers_short (w ∷ ws) ns e =
    go (number_of w) (numbers_of ws) refl (numbers_short ws) (sym (numbers_cons w ws) ∙ e)
  where
    go :
        (o : Option ℕ) (os : Option (List ℕ))
        → number_of w ≡ o
        → ((ms : List ℕ) → os ≡ some ms → span ws ≤ 11 * length ms)
        → onto o os ≡ some ns
        → suc (length w) + span ws ≤ 11 * length ns
    go none os p h e = let z : ◌≡◌ {A = ℕ} 0 1 = cc in absurd (omega arith)
    go (some n) none p h e = let z : ◌≡◌ {A = ℕ} 0 1 = cc in absurd (omega arith)
    go (some n) (some ms) p h e =
        let k : ns ≡ n ∷ ms = cc in
        let l : length ns ≡ suc (length ms) = ap length k in
        omega (arith, is_short w n p, h ms refl)

-- an order of five numbers has 56 bytes at most
pub five_short : (t : List ℕ) → five_words (words_of t) ≡ true → length t ≤ 56
unfolding five_words total are_five
five_short t e = go (words_of t) (words_span t) e
  where
    five : (o : Option (List ℕ)) → are_five o ≡ true → (ws : List (List ℕ)) → numbers_of ws ≡ o → span ws ≤ 55
    five none e ws p = absurd (not_both e refl)
    five (some ns) e ws p = omega (arith, eqb-true (length ns) 5 e, numbers_short ws ns p)

    go : (ws : List (List ℕ)) → span ws ≡ suc (length t) → five_words ws ≡ true → length t ≤ 56
    go [] p e = absurd (not_both e refl)
    go ([] ∷ ws) p e = absurd (not_both e refl)
    go ((c ∷ []) ∷ ws) p e =
        omega (arith, five (numbers_of ws) (and_right (eqb c 79) (are_five (numbers_of ws)) e) ws refl)
    go ((c ∷ d ∷ w) ∷ ws) p e = absurd (not_both e refl)
