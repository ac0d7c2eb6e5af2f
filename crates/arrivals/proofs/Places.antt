-- n places with the taken ones of a list, free places last: how many there are, what stands at each, and that they are in order of
-- arrival. Then the places without some of them, and with one more behind all. Assumes nothing.
use Prim.Native.Nat.{ℕ, zero, suc, ◌+◌, ◌-◌, ◌≤◌, ◌<◌}
use mathlib.Core.Path.{◌≡◌, refl, sym, ap, ◌∙◌}
use mathlib.Core.Bool.{Bool, true, false, ◌&&◌}
use mathlib.Core.List.{List, [], ◌∷◌, ◌++◌, append_assoc, append-nil}
use native.Mathlib.Omega.{arith}
use lib.ListN.{length, get_or, take, drop, set, replicate, length-append, length-take, length-drop, length-replicate, replicate-append-replicate}
use lib.Seq.{get_or-take, take-append-add, set_at, length-take-le}
use Rattle.model.specs.Lists.{keep, total}
use Rattle.model.specs.Arrival.{is_taken, in_places, in_arrival}
use Rattle.model.specs.Words.{Each}
use Rattle.book.proofs.Lists.{each_keep, each_append, each_take, each_drop, length_keep, keep_keep, keep_same, keep_all, keep_append, kept, every, total_zero}
use Rattle.book.proofs.Parts.{each_same}
use Rattle.book.proofs.Sorting.{Rising}
use Rattle.arrivals.proofs.Lines.{taken, Untaken, InLine, is_taken_lem, taken_none, rising_keep, rising_with, line_of, arrives}

pub total_append : {A : Type 0} (f : A → ℕ) (xs ys : List A) → total f (xs ++ ys) ≡ total f xs + total f ys
unfolding total
total_append f [] ys = omega arith
total_append f (x ∷ xs) ys = omega (arith, total_append f xs ys)

module _ {A : Type 0} (number : A → ℕ) (none : A) (zero-none : number none ≡ 0) where
  frees : (n : ℕ) → Untaken number (replicate n none)
  frees zero = tt
  frees (suc n) = (zero-none, frees n)

  take_frees : (k n : ℕ) → k ≤ n → take k (replicate n none) ≡ replicate k none
  take_frees zero n h = refl
  take_frees (suc k) zero h = absurd (omega arith)
  take_frees (suc k) (suc n) h = ap (λ (l : List A). none ∷ l) (take_frees k n (omega arith))

  -- ---- how many

  pub places_length : (n : ℕ) (xs : List A) → length (in_places number none n xs) ≡ n
  unfolding in_places
  places_length n xs =
      length-take n (taken number xs ++ replicate n none)
      ∙ omega (arith, length-append (taken number xs) (replicate n none), length-replicate n none)

  -- ---- what stands at each

  pub places_at : (n : ℕ) (xs : List A) (i : ℕ) → i < n → get_or (in_places number none n xs) i none ≡ get_or (taken number xs) i none
  unfolding in_places
  places_at n xs i h = get_or-take n (taken number xs ++ replicate n none) i none h ∙ behind (taken number xs) i n
    where
      free_at : (n i : ℕ) → get_or (replicate n none) i none ≡ none
      free_at zero i = refl
      free_at (suc n) zero = refl
      free_at (suc n) (suc i) = free_at n i

      behind : (ys : List A) (i n : ℕ) → get_or (ys ++ replicate n none) i none ≡ get_or ys i none
      behind [] i n = free_at n i
      behind (y ∷ ys) zero n = refl
      behind (y ∷ ys) (suc i) n = behind ys i n

  -- ---- in order of arrival

  rising_take : (a n : ℕ) (xs : List A) → Rising number a xs → Rising number a (take n xs)
  rising_take a zero xs r = tt
  rising_take a (suc n) [] r = tt
  rising_take a (suc n) (x ∷ xs) r = (r.0, rising_take (number x) n xs r.1)

  take_parts : (n : ℕ) (xs ys : List A) → take n (xs ++ ys) ≡ take n xs ++ take (n - length xs) ys
  take_parts n [] ys = let z : n - 0 ≡ n = omega arith in rw z (ap (λ (l : List A). l ++ take n ys) (sym (nothing n)))
    where
      nothing : (n : ℕ) → ◌≡◌ {A = List A} (take n []) []
      nothing zero = refl
      nothing (suc n) = refl
  take_parts zero (x ∷ xs) ys = let z : 0 - suc (length xs) ≡ 0 = omega arith in rw z
  take_parts (suc n) (x ∷ xs) ys =
      let z : suc n - suc (length xs) ≡ n - length xs = omega arith in
      rw z (ap (λ (l : List A). x ∷ l) (take_parts n xs ys))

  pub places_line : (n : ℕ) (xs : List A) → Rising number 0 (taken number xs) → InLine number (in_places number none n xs)
  unfolding in_places
  places_line n xs r =
      rw (take_parts n (taken number xs) (replicate n none))
      (line_of number (take n (taken number xs)) (take (n - length (taken number xs)) (replicate n none))
      (rising_take 0 n (taken number xs) r)
      (each_take (λ x. number x ≡ 0) (n - length (taken number xs)) (replicate n none) (frees n)))

  pub places_arrive : (n : ℕ) (xs : List A) → Rising number 0 (taken number xs) → in_arrival number (in_places number none n xs) ≡ true
  places_arrive n xs r = arrives number (in_places number none n xs) (places_line n xs r)

  -- ---- where all of them fit

  module _ (n : ℕ) (xs : List A) (fit : length (taken number xs) ≤ n) where
    pub places_fit : in_places number none n xs ≡ taken number xs ++ replicate (n - length (taken number xs)) none
    unfolding in_places
    places_fit =
        let m : n ≡ length (taken number xs) + (n - length (taken number xs)) = omega arith in
        ap (λ (k : ℕ). take k (taken number xs ++ replicate n none)) m
        ∙ take-append-add (taken number xs) (replicate n none) (n - length (taken number xs))
        ∙ ap (λ (l : List A). taken number xs ++ l) (take_frees (n - length (taken number xs)) n (omega arith))

    taken_twice : taken number (taken number xs) ≡ taken number xs
    taken_twice = keep_all (is_taken number) (taken number xs) (kept (is_taken number) xs)

    -- nobody is lost
    pub places_taken : taken number (in_places number none n xs) ≡ taken number xs
    places_taken =
        ap (taken number) places_fit
        ∙ keep_append (is_taken number) (taken number xs) (replicate (n - length (taken number xs)) none)
        ∙ ap (λ (l : List A). l ++ taken number (replicate (n - length (taken number xs)) none)) taken_twice
        ∙ ap (λ (l : List A). taken number xs ++ l) (taken_none number (replicate (n - length (taken number xs)) none) (frees (n - length (taken number xs))))
        ∙ append-nil (taken number xs)

    -- nor anything that they add up to
    pub places_total : (f : A → ℕ) → f none ≡ 0 → total f (in_places number none n xs) ≡ total f (taken number xs)
    places_total f z =
        ap (total f) places_fit
        ∙ total_append f (taken number xs) (replicate (n - length (taken number xs)) none)
        ∙ omega (arith, total_zero f (replicate (n - length (taken number xs)) none) (each_same (λ x. f x ≡ 0) (n - length (taken number xs)) none z))

  -- what each has, each place has where a free one does
  pub places_each : (P : A → Type 0) (n : ℕ) (xs : List A) → P none → Each P xs → Each P (in_places number none n xs)
  unfolding in_places
  places_each P n xs z e =
      each_take P n (taken number xs ++ replicate n none)
      (each_append P (taken number xs) (replicate n none) (each_keep P (is_taken number) xs e) (each_same P n none z))

  -- ---- some of them left out

  pub taken_kept : (p : A → Bool) (xs : List A) → taken number (keep p xs) ≡ keep p (taken number xs)
  taken_kept p xs =
      keep_keep (is_taken number) p xs
      ∙ keep_same (λ x. p x && is_taken number x) (λ x. is_taken number x && p x) xs
      (every (λ (x : A). p x && is_taken number x ≡ is_taken number x && p x) xs (λ x. turned (p x) (is_taken number x)))
      ∙ sym (keep_keep p (is_taken number) xs)
    where
      turned : (a b : Bool) → a && b ≡ b && a
      turned true true = refl
      turned true false = refl
      turned false true = refl
      turned false false = refl

  module _ (p : A → Bool) (xs : List A) (l : InLine number xs) where
    pub kept_rises : Rising number 0 (taken number (keep p xs))
    kept_rises = rw (taken_kept p xs) (rising_keep number p 0 (taken number xs) l.rises)

    pub kept_line : InLine number (keep p xs)
    kept_line =
        rw (ap (keep p) l.made ∙ keep_append p (taken number xs) (drop (length (taken number xs)) xs))
        (line_of number (keep p (taken number xs)) (keep p (drop (length (taken number xs)) xs)) (rising_keep number p 0 (taken number xs) l.rises)
        (each_keep (λ x. number x ≡ 0) p (drop (length (taken number xs)) xs) l.behind))

    pub kept_fit : length (taken number (keep p xs)) ≤ length xs
    kept_fit = omega (arith, length_keep (is_taken number) (keep p xs), length_keep p xs)

  -- ---- a list in its places already

  -- every untaken place is free
  abbrev pub Free : List A → Type 0
  Free xs = Each (λ x. number x ≡ 0 → x ≡ none) xs

  pub free_places : (xs : List A) → Untaken number xs → Free xs → xs ≡ replicate (length xs) none
  free_places [] u f = refl
  free_places (x ∷ xs) u f =
      ap (λ (y : A). y ∷ xs) (f.0 u.0) ∙ ap (λ (l : List A). none ∷ l) (free_places xs u.1 f.1)

  module _ (xs : List A) (l : InLine number xs) (f : Free xs) where
    pub line_made : xs ≡ taken number xs ++ replicate (length xs - length (taken number xs)) none
    line_made =
        l.made
        ∙ ap (λ (t : List A). taken number xs ++ t)
        (free_places (drop (length (taken number xs)) xs) l.behind (each_drop (λ x. number x ≡ 0 → x ≡ none) (length (taken number xs)) xs f)
        ∙ ap (λ k. replicate k none) (length-drop (length (taken number xs)) xs))

    -- with k places more
    pub places_more : (k : ℕ) → in_places number none (length xs + k) xs ≡ xs ++ replicate k none
    places_more k =
        let short : length (taken number xs) ≤ length xs = length_keep (is_taken number) xs in
        let m : length xs + k - length (taken number xs) ≡ (length xs - length (taken number xs)) + k = omega arith in
        places_fit (length xs + k) xs (omega arith)
        ∙ ap (λ i. taken number xs ++ replicate i none) m
        ∙ ap (λ (t : List A). taken number xs ++ t) (sym (replicate-append-replicate (length xs - length (taken number xs)) k none))
        ∙ sym (append_assoc (taken number xs) (replicate (length xs - length (taken number xs)) none) (replicate k none))
        ∙ ap (λ (t : List A). t ++ replicate k none) (sym line_made)

    pub places_same : in_places number none (length xs) xs ≡ xs
    places_same = places_fit (length xs) xs (length_keep (is_taken number) xs) ∙ sym line_made

    -- ---- one more behind all
    module _ (x : A) (new : number x ≡ 0 → ⊥) (free_one : length (taken number xs) < length xs) where
      taken_with : taken number (taken number xs ++ (x ∷ [])) ≡ taken number xs ++ (x ∷ [])
      taken_with =
          keep_all (is_taken number) (taken number xs ++ (x ∷ []))
          (each_append (λ y. is_taken number y ≡ true) (taken number xs) (x ∷ []) (kept (is_taken number) xs) (is_taken_lem number x new, tt))

      pub places_with : in_places number none (length xs) (taken number xs ++ (x ∷ [])) ≡ set xs (length (taken number xs)) x
      places_with =
          let long : length (taken number xs ++ (x ∷ [])) ≡ length (taken number xs) + 1 = length-append (taken number xs) (x ∷ []) in
          let k : length xs - (length (taken number xs) + 1) ≡ length xs - length (taken number xs) - 1 = omega arith in
          let m : length xs - length (taken number xs) ≡ suc (length xs - length (taken number xs) - 1) = omega arith in
          let fit : length (taken number (taken number xs ++ (x ∷ []))) ≤ length xs = rw taken_with (omega arith) in
          places_fit (length xs) (taken number xs ++ (x ∷ [])) fit
          ∙ rw (taken_with, long, k)
          (append_assoc (taken number xs) (x ∷ []) (replicate (length xs - length (taken number xs) - 1) none))
          ∙ sym
          (ap (λ (t : List A). set t (length (taken number xs)) x) (line_made ∙ ap (λ i. taken number xs ++ replicate i none) m)
          ∙ set_at (taken number xs) none (replicate (length xs - length (taken number xs) - 1) none) x (length (taken number xs)) refl)

      -- its number is above all others: they are still in order
      pub with_rises : Each (λ y. number y < number x) (taken number xs) → Rising number 0 (taken number (taken number xs ++ (x ∷ [])))
      with_rises e = rw taken_with (rising_with number 0 (taken number xs) x l.rises (omega (arith, new)) e)

  -- ---- one of them left out: those behind it move up by one
  pub places_without :
      (xs : List A)
      → InLine number xs
      → Free xs
      → (p : A → Bool) (place : ℕ)
      → place < length xs
      → keep p xs ≡ take place xs ++ drop (place + 1) xs
      → in_places number none (length xs) (keep p xs) ≡ take place xs ++ (drop (place + 1) xs ++ (none ∷ []))
  places_without xs l f p place h e =
      let m : length xs ≡ length (keep p xs) + 1 =
      omega (
        arith,
        ap length e,
        length-append (take place xs) (drop (place + 1) xs),
        length-take-le place xs (omega arith),
        length-drop (place + 1) xs,
      )
      in
      ap (λ n. in_places number none n (keep p xs)) m
      ∙ places_more (keep p xs) (kept_line p xs l) (each_keep (λ x. number x ≡ 0 → x ≡ none) p xs f) 1
      ∙ ap (λ (t : List A). t ++ (none ∷ [])) e
      ∙ append_assoc (take place xs) (drop (place + 1) xs) (none ∷ [])
