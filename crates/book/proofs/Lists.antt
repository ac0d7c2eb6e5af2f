-- Laws of the parts of a list that a test keeps, of what holds for each element, of totals, and of a list written over another.
use Rattle.std.specs.Prelude.{if◌then◌else◌}
use Prim.Native.Nat.{ℕ, zero, suc, ◌+◌, ◌≤◌, ◌<◌}
use mathlib.Core.Path.{◌≡◌, refl, sym, ap, ◌∙◌}
use mathlib.Core.Bool.{Bool, true, false, cond, ◌&&◌}
use mathlib.Core.List.{List, [], ◌∷◌, ◌++◌, map, nil≢cons}
use native.Mathlib.Omega.{arith}
use native.Mathlib.Nat.{not-suc-le-zero, le_of_suc-le-suc, add-zero, add-suc, suc-add}
use lib.ListN.{length, get_or, set, take, drop}
use lib.Seq.{sets}
use Rattle.model.specs.Lists.{keep, total}
use Rattle.model.specs.Words.{Each}

module _ {A : Type 0} where
  pub keep_true : (p : A → Bool) (x : A) (xs : List A) → p x ≡ true → keep p (x ∷ xs) ≡ x ∷ keep p xs
  unfolding keep
  keep_true p x xs e = rw e

  pub keep_false : (p : A → Bool) (x : A) (xs : List A) → p x ≡ false → keep p (x ∷ xs) ≡ keep p xs
  unfolding keep
  keep_false p x xs e = rw e

  -- two tests, one after the other
  pub keep_keep : (p q : A → Bool) (xs : List A) → keep p (keep q xs) ≡ keep (λ x. q x && p x) xs
  unfolding keep
  keep_keep p q [] = refl
  keep_keep p q (x ∷ xs) = go (q x) (keep_keep p q xs)
    where
      go :
          (t : Bool)
          → keep p (keep q xs) ≡ keep (λ y. q y && p y) xs
          → keep p (cond t (x ∷ keep q xs) (keep q xs))
          ≡ cond (t && p x) (x ∷ keep (λ y. q y && p y) xs) (keep (λ y. q y && p y) xs)
      go true h = ap (λ (l : List A). cond (p x) (x ∷ l) l) h
      go false h = h

  pub length_keep : (p : A → Bool) (xs : List A) → length (keep p xs) ≤ length xs
  unfolding keep
  length_keep p [] = omega arith
  length_keep p (x ∷ xs) = go (p x) (length_keep p xs)
    where
      go : (t : Bool) → length (keep p xs) ≤ length xs → length (cond t (x ∷ keep p xs) (keep p xs)) ≤ suc (length xs)
      go true h = omega arith
      go false h = omega arith

  -- ---- what holds for each

  -- what follows from two facts, element by element
  pub both : (P R S : A → Type 0) (xs : List A) → ((x : A) → P x → R x → S x) → Each P xs → Each R xs → Each S xs
  both P R S [] f p r = tt
  both P R S (x ∷ xs) f p r = (f x p.0 r.0, both P R S xs f p.1 r.1)

  pub each : (P S : A → Type 0) (xs : List A) → ((x : A) → P x → S x) → Each P xs → Each S xs
  each P S xs f p = both P P S xs (λ x h k. f x h) p p

  pub every : (P : A → Type 0) (xs : List A) → ((x : A) → P x) → Each P xs
  every P [] f = tt
  every P (x ∷ xs) f = (f x, every P xs f)

  pub each_keep : (P : A → Type 0) (p : A → Bool) (xs : List A) → Each P xs → Each P (keep p xs)
  unfolding keep
  each_keep P p [] e = tt
  each_keep P p (x ∷ xs) e = go (p x) (each_keep P p xs e.1)
    where
      go : (t : Bool) → Each P (keep p xs) → Each P (cond t (x ∷ keep p xs) (keep p xs))
      go true h = (e.0, h)
      go false h = h

  -- what is kept passes the test
  pub kept : (p : A → Bool) (xs : List A) → Each (λ x. p x ≡ true) (keep p xs)
  unfolding keep
  kept p [] = tt
  kept p (x ∷ xs) = go (p x) refl (kept p xs)
    where
      go :
          (t : Bool)
          → p x ≡ t
          → Each (λ y. p y ≡ true) (keep p xs)
          → Each (λ y. p y ≡ true) (cond t (x ∷ keep p xs) (keep p xs))
      go true e h = (e, h)
      go false e h = h

  -- where all pass, all are kept
  pub keep_all : (p : A → Bool) (xs : List A) → Each (λ x. p x ≡ true) xs → keep p xs ≡ xs
  unfolding keep
  keep_all p [] e = refl
  keep_all p (x ∷ xs) e = keep_true p x xs e.0 ∙ ap (λ (l : List A). x ∷ l) (keep_all p xs e.1)

  -- where none passes, none is kept
  pub keep_none : (p : A → Bool) (xs : List A) → Each (λ x. p x ≡ false) xs → keep p xs ≡ []
  unfolding keep
  keep_none p [] e = refl
  keep_none p (x ∷ xs) e = keep_false p x xs e.0 ∙ keep_none p xs e.1

  -- ---- totals

  pub total_same : (f g : A → ℕ) (xs : List A) → Each (λ x. f x ≡ g x) xs → total f xs ≡ total g xs
  unfolding total
  total_same f g [] e = refl
  total_same f g (x ∷ xs) e = omega (arith, e.0, total_same f g xs e.1)

  pub total_add : (f g : A → ℕ) (xs : List A) → total (λ x. f x + g x) xs ≡ total f xs + total g xs
  unfolding total
  total_add f g [] = refl
  total_add f g (x ∷ xs) = omega (arith, total_add f g xs)

  pub total_zero : (f : A → ℕ) (xs : List A) → Each (λ x. f x ≡ 0) xs → total f xs ≡ 0
  unfolding total
  total_zero f [] e = refl
  total_zero f (x ∷ xs) e = omega (arith, e.0, total_zero f xs e.1)

  pub total_keep : (f : A → ℕ) (p : A → Bool) (xs : List A) → total f (keep p xs) ≤ total f xs
  unfolding total keep
  total_keep f p [] = omega arith
  total_keep f p (x ∷ xs) = go (p x) (total_keep f p xs)
    where
      go :
          (b : Bool)
          → total f (keep p xs) ≤ total f xs
          → total f (cond b (x ∷ keep p xs) (keep p xs)) ≤ f x + total f xs
      go true h = omega arith
      go false h = omega arith

-- ---- one list written over another

-- in two runs, one behind the other
pub sets_more : (l xs ys : List ℕ) (i : ℕ) → sets (sets l i xs) (i + length xs) ys ≡ sets l i (xs ++ ys)
sets_more l [] ys i = rw add-zero
sets_more l (x ∷ xs) ys i = rw (add-suc, ← suc-add) (sets_more (set l i x) xs ys (suc i))

-- the sum of those that a test keeps, one at a time
pub kept_next :
    {A : Type 0} (f : A → Bool) (g : A → ℕ) (x : A) (xs : List A)
    → total g (keep f (x ∷ xs)) ≡ (if f x then g x else 0) + total g (keep f xs)
unfolding keep total
kept_next f g x xs = go (f x)
  where
    go : (b : Bool) → total g (if b then x ∷ keep f xs else keep f xs) ≡ (if b then g x else 0) + total g (keep f xs)
    go true = refl
    go false = omega arith

kept_none : {A : Type 0} (f : A → ℕ) (t : A → Bool) → total f (keep t []) ≡ 0
unfolding keep total
kept_none f t = refl

-- a sum over those that a test keeps
pub total_kept :
    {A : Type 0} (f : A → ℕ) (t : A → Bool) (xs : List A)
    → total f (keep t xs) ≡ total (λ x. if t x then f x else 0) xs
unfolding total
total_kept f t [] = kept_none f t
total_kept f t (x ∷ xs) = kept_next t f x xs ∙ ap (λ n. (if t x then f x else 0) + n) (total_kept f t xs)

-- what two functions make of a list on whose elements they agree
pub map_same : {A B : Type 0} (f g : A → B) (xs : List A) → Each (λ x. f x ≡ g x) xs → map f xs ≡ map g xs
map_same f g [] e = refl
map_same f g (x ∷ xs) e =
    let t : map f xs ≡ map g xs = map_same f g xs e.1 in
    rw (e.0, t)

-- a test that keeps none passes none
pub none_kept : {A : Type 0} (p : A → Bool) (xs : List A) → keep p xs ≡ [] → Each (λ x. p x ≡ false) xs
unfolding keep
none_kept p [] e = tt
none_kept p (x ∷ xs) e = go (p x) refl e (none_kept p xs)
  where
    go :
        (b : Bool)
        → p x ≡ b
        → cond b (x ∷ keep p xs) (keep p xs) ≡ []
        → (keep p xs ≡ [] → Each (λ y. p y ≡ false) xs)
        → (p x ≡ false) × Each (λ y. p y ≡ false) xs
    go true f h rest = absurd (nil≢cons (sym h))
    go false f h rest = (f, rest h)

-- what each has, the one at each place has
pub each_at : {A : Type 0} (P : A → Type 0) (xs : List A) (d : A) → Each P xs → (i : ℕ) → i < length xs → P (get_or xs i d)
each_at P [] d e i h = absurd (not-suc-le-zero h)
each_at P (x ∷ xs) d e zero h = e.0
each_at P (x ∷ xs) d e (suc i) h = each_at P xs d e.1 i (le_of_suc-le-suc h)

pub at_each :
    {A : Type 0} (P : A → Type 0) (xs : List A) (d : A) → ((i : ℕ) → i < length xs → P (get_or xs i d)) → Each P xs
at_each P [] d f = tt
at_each P (x ∷ xs) d f = (f 0 (omega arith), at_each P xs d (λ i h. f (suc i) (omega arith)))

-- two lists in a row: what each has, each of the two has, and the other way
pub each_parts : {A : Type 0} (P : A → Type 0) (xs ys : List A) → Each P (xs ++ ys) → Each P xs × Each P ys
each_parts P [] ys e = (tt, e)
each_parts P (x ∷ xs) ys e =
    let h = each_parts P xs ys e.1 in
    ((e.0, h.0), h.1)

pub each_append : {A : Type 0} (P : A → Type 0) (xs ys : List A) → Each P xs → Each P ys → Each P (xs ++ ys)
each_append P [] ys e f = f
each_append P (x ∷ xs) ys e f = (e.0, each_append P xs ys e.1 f)

pub keep_append : {A : Type 0} (f : A → Bool) (xs ys : List A) → keep f (xs ++ ys) ≡ keep f xs ++ keep f ys
unfolding keep
keep_append f [] ys = refl
keep_append f (x ∷ xs) ys = rw (keep_append f xs ys) (go (f x))
  where
    go :
        (b : Bool)
        → (if b then x ∷ (keep f xs ++ keep f ys) else keep f xs ++ keep f ys) ≡ (if b then x ∷ keep f xs else keep f xs) ++ keep f ys
    go true = refl
    go false = refl

-- the first n of a list, and what is left behind them
pub each_take : {A : Type 0} (P : A → Type 0) (n : ℕ) (xs : List A) → Each P xs → Each P (take n xs)
each_take P zero xs e = tt
each_take P (suc n) [] e = tt
each_take P (suc n) (x ∷ xs) e = (e.0, each_take P n xs e.1)

pub each_drop : {A : Type 0} (P : A → Type 0) (n : ℕ) (xs : List A) → Each P xs → Each P (drop n xs)
each_drop P zero xs e = e
each_drop P (suc n) [] e = tt
each_drop P (suc n) (x ∷ xs) e = each_drop P n xs e.1

-- two tests that agree keep the same
pub keep_same : {A : Type 0} (p q : A → Bool) (xs : List A) → Each (λ x. p x ≡ q x) xs → keep p xs ≡ keep q xs
unfolding keep
keep_same p q [] e = refl
keep_same {A} p q (x ∷ xs) e =
    ap (λ (b : Bool). cond b (x ∷ keep p xs) (keep p xs)) e.0
    ∙ ap (λ (l : List A). cond (q x) (x ∷ l) l) (keep_same p q xs e.1)
