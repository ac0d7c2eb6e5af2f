-- A list in order of arrival: the taken ones stand first, in rising numbers, and behind them only untaken ones. Assumes nothing.
use Prim.Native.Nat.{ℕ, zero, suc, ◌+◌, ◌-◌, ◌≤◌, ◌<◌}
use mathlib.Core.Path.{◌≡◌, refl, sym, ap, ◌∙◌}
use mathlib.Core.Bool.{Bool, true, false, not, ◌&&◌}
use mathlib.Core.List.{List, [], ◌∷◌, ◌++◌}
use native.Mathlib.Decide.{ℕ_discrete, dec_lt}
use native.Mathlib.Omega.{arith}
use lib.ListN.{length, get_or, drop, get_or-append}
use lib.Seq.{drop-append_seam, get_or-append-add}
use lib.Dec.{ltb}
use borrow.Author.Tests.{eq-eqb, ne_eqb, lt-ltb, ltb-true}
use Rattle.model.specs.Lists.{keep, all}
use Rattle.model.specs.Arrival.{is_taken, may_arrive, in_arrival}
use Rattle.model.specs.Words.{Each}
use Rattle.model.proofs.Bools.{and_left, and_right, and_both, not_both}
use Rattle.book.proofs.Lists.{each, length_keep, keep_true, keep_false, keep_all, keep_none, keep_append}
use Rattle.book.proofs.Sorting.{Rising, Distinct, rising_over}
use Rattle.book.proofs.Queues.{ltb_same}

module _ {A : Type 0} (number : A → ℕ) where
  -- the taken ones, in their order
  abbrev pub taken : List A → List A
  taken xs = keep (is_taken number) xs

  abbrev pub Untaken : List A → Type 0
  Untaken xs = Each (λ x. number x ≡ 0) xs

  pub record InLine (xs : List A) : Type 0 where
    pub rises : Rising number 0 (taken xs)
    pub made : xs ≡ taken xs ++ drop (length (taken xs)) xs
    pub behind : Untaken (drop (length (taken xs)) xs)

  -- ---- one place

  pub is_taken_lem : (x : A) → (number x ≡ 0 → ⊥) → is_taken number x ≡ true
  unfolding is_taken
  is_taken_lem x n = rw (ne_eqb (number x) 0 n)

  pub not_taken : (x : A) → number x ≡ 0 → is_taken number x ≡ false
  unfolding is_taken
  not_taken x z = rw (eq-eqb (number x) 0 z)

  pub taken_number : (x : A) → is_taken number x ≡ true → number x ≡ 0 → ⊥
  taken_number x e z = not_both e (not_taken x z)

  pub untaken_number : (x : A) → is_taken number x ≡ false → number x ≡ 0
  untaken_number x e = elim (ℕ_discrete (number x) 0) [
    | yes z ↦ z
    | no n ↦ absurd (not_both (is_taken_lem x n) e)
  ]

  -- who may stand right behind whom
  may_free : (x y : A) → number y ≡ 0 → may_arrive number x y ≡ true
  unfolding may_arrive
  may_free x y z = rw (not_taken y z)

  may_later : (x y : A) → (number x ≡ 0 → ⊥) → number x < number y → may_arrive number x y ≡ true
  unfolding may_arrive
  may_later x y n l = rw (is_taken_lem y (λ z. omega arith), is_taken_lem x n, lt-ltb (number x) (number y) l)

  may_says : (x y : A) → may_arrive number x y ≡ true → (number y ≡ 0 → ⊥) → (number x ≡ 0 → ⊥) × (number x < number y)
  unfolding may_arrive
  may_says x y e n =
      let f : is_taken number x && ltb (number x) (number y) ≡ true = rw (is_taken_lem y n) at e in (
        taken_number x (and_left (is_taken number x) (ltb (number x) (number y)) f),
        ltb-true (number x) (number y) (and_right (is_taken number x) (ltb (number x) (number y)) f),
      )

  -- ---- two lists in a row

  pub taken_all : (xs : List A) → Rising number 0 xs → taken xs ≡ xs
  taken_all xs r =
      keep_all (is_taken number) xs
      (each (λ x. 0 < number x) (λ x. is_taken number x ≡ true) xs (λ x l. is_taken_lem x (λ z. omega arith)) (rising_over number 0 0 xs (omega arith) r))

  pub taken_none : (xs : List A) → Untaken xs → taken xs ≡ []
  taken_none xs u = keep_none (is_taken number) xs (each (λ x. number x ≡ 0) (λ x. is_taken number x ≡ false) xs (λ x z. not_taken x z) u)

  pub rising_from : (a b : ℕ) (xs : List A) → a ≤ b → Rising number b xs → Rising number a xs
  rising_from a b [] l r = tt
  rising_from a b (x ∷ xs) l r = (omega (arith, r.0), r.1)

  append_none : (xs : List A) → xs ++ [] ≡ xs
  append_none [] = refl
  append_none (x ∷ xs) = ap (λ (l : List A). x ∷ l) (append_none xs)

  -- taken ones that rise, and untaken ones behind them
  pub line_of : (xs ys : List A) → Rising number 0 xs → Untaken ys → InLine (xs ++ ys)
  line_of xs ys r u =
      let e : taken (xs ++ ys) ≡ xs =
      keep_append (is_taken number) xs ys
      ∙ ap (λ (l : List A). l ++ taken ys) (taken_all xs r)
      ∙ ap (λ (l : List A). xs ++ l) (taken_none ys u)
      ∙ append_none xs
      in
      let f : drop (length xs) (xs ++ ys) ≡ ys = drop-append_seam xs ys in
      record {
        rises = rw e r;
        made = rw e (rw f);
        behind = rw e (rw f u);
      }

  -- ---- the test

  -- behind a place that may be followed by the first of them
  arrives_free : (x : A) (ys : List A) → number x ≡ 0 → in_arrival number (x ∷ ys) ≡ true → Untaken ys
  unfolding in_arrival
  arrives_free x [] z e = tt
  arrives_free x (y ∷ ys) z e = (free_next, arrives_free y ys free_next (and_right (may_arrive number x y) (in_arrival number (y ∷ ys)) e))
    where
      free_next : number y ≡ 0
      free_next = elim (ℕ_discrete (number y) 0) [
        | yes f ↦ f
        | no n ↦ absurd ((may_says x y (and_left (may_arrive number x y) (in_arrival number (y ∷ ys)) e) n).0 z)
      ]

  -- the taken ones that rise, and the untaken ones behind them
  pub record Split (a : ℕ) (xs : List A) : Type 0 where
    pub first : List A
    pub last : List A
    pub whole : xs ≡ first ++ last
    pub rises : Rising number a first
    pub rest : Untaken last

  split_more : (a : ℕ) (x : A) (xs : List A) → a < number x → Split (number x) xs → Split a (x ∷ xs)
  split_more a x xs l s =
      record {
        first = x ∷ s.first;
        last = s.last;
        whole = ap (λ (t : List A). x ∷ t) s.whole;
        rises = (l, s.rises);
        rest = s.rest;
      }

  split_free : (a : ℕ) (xs : List A) → Untaken xs → Split a xs
  split_free a xs u = record { first = []; last = xs; whole = refl; rises = tt; rest = u }

  arrives_taken : (x : A) (ys : List A) → in_arrival number (x ∷ ys) ≡ true → Split (number x) ys
  unfolding in_arrival
  arrives_taken x [] e = split_free (number x) [] tt
  arrives_taken x (y ∷ ys) e =
      let later : in_arrival number (y ∷ ys) ≡ true = and_right (may_arrive number x y) (in_arrival number (y ∷ ys)) e in
      go later (ℕ_discrete (number y) 0) (arrives_taken y ys later)
    where
      go : in_arrival number (y ∷ ys) ≡ true → Dec (number y ≡ 0) → Split (number y) ys → Split (number x) (y ∷ ys)
      go later d s = elim d [
        | yes z ↦ split_free (number x) (y ∷ ys) (z, arrives_free y ys z later)
        | no n ↦ split_more (number x) y ys (may_says x y (and_left (may_arrive number x y) (in_arrival number (y ∷ ys)) e) n).1 s
      ]

  pub in_line : (xs : List A) → in_arrival number xs ≡ true → InLine xs
  in_line [] e = line_of [] [] tt tt
  in_line (x ∷ xs) e = elim (ℕ_discrete (number x) 0) [
    | yes z ↦ line_of [] (x ∷ xs) tt (z, arrives_free x xs z e)
    | no n ↦
        let s : Split 0 (x ∷ xs) = split_more 0 x xs (omega arith) (arrives_taken x xs e) in
        rw s.whole (line_of s.first s.last s.rises s.rest)
  ]

  free_arrive : (xs : List A) → Untaken xs → in_arrival number xs ≡ true
  unfolding in_arrival
  free_arrive [] u = refl
  free_arrive (x ∷ []) u = refl
  free_arrive (x ∷ y ∷ ys) u = and_both (may_free x y u.1.0) (free_arrive (y ∷ ys) u.1)

  behind_arrive : (x : A) (ys : List A) → Untaken ys → in_arrival number (x ∷ ys) ≡ true
  unfolding in_arrival
  behind_arrive x [] u = refl
  behind_arrive x (y ∷ ys) u = and_both (may_free x y u.0) (free_arrive (y ∷ ys) u)

  line_arrives : (a : ℕ) (xs ys : List A) → Rising number a xs → Untaken ys → in_arrival number (xs ++ ys) ≡ true
  unfolding in_arrival
  line_arrives a [] ys r u = free_arrive ys u
  line_arrives a (x ∷ []) ys r u = behind_arrive x ys u
  line_arrives a (x ∷ y ∷ xs) ys r u =
      and_both (may_later x y (λ z. omega (arith, r.0)) r.1.0) (line_arrives (number x) (y ∷ xs) ys r.1 u)

  pub arrives : (xs : List A) → InLine xs → in_arrival number xs ≡ true
  arrives xs l =
      rw l.made (line_arrives 0 (taken xs) (drop (length (taken xs)) xs) l.rises l.behind)

  -- ---- place by place, where a place past the end is untaken

  module _ (none : A) (zero-none : number none ≡ 0) (xs : List A) (l : InLine xs) where
    free_at : (ys : List A) (i : ℕ) → Untaken ys → number (get_or ys i none) ≡ 0
    free_at [] i u = zero-none
    free_at (y ∷ ys) zero u = u.0
    free_at (y ∷ ys) (suc i) u = free_at ys i u.1

    rising_at : (a : ℕ) (ys : List A) (i : ℕ) → Rising number a ys → i < length ys → a < number (get_or ys i none)
    rising_at a [] i r h = absurd (omega arith)
    rising_at a (y ∷ ys) zero r h = r.0
    rising_at a (y ∷ ys) (suc i) r h = omega (arith, r.0, rising_at (number y) ys i r.1 (omega arith))

    rising_two :
        (a : ℕ) (ys : List A) (i j : ℕ)
        → Rising number a ys
        → i < j
        → j < length ys
        → number (get_or ys i none) < number (get_or ys j none)
    rising_two a [] i j r k h = absurd (omega arith)
    rising_two a (y ∷ ys) i zero r k h = absurd (omega arith)
    rising_two a (y ∷ ys) zero (suc j) r k h = rising_at (number y) ys j r.1 (omega arith)
    rising_two a (y ∷ ys) (suc i) (suc j) r k h = rising_two (number y) ys i j r.1 (omega arith) (omega arith)

    abbrev front : List A
    front = taken xs

    abbrev back : List A
    back = drop (length (taken xs)) xs

    -- the first places are the taken ones
    pub front_at : (i : ℕ) → i < length (taken xs) → get_or xs i none ≡ get_or (taken xs) i none
    front_at i h = ap (λ (t : List A). get_or t i none) l.made ∙ get_or-append front back none i h

    pub back_at : (i : ℕ) → length (taken xs) ≤ i → number (get_or xs i none) ≡ 0
    back_at i h =
        let k : i ≡ length front + (i - length front) = omega arith in
        ap (λ (t : List A). number (get_or t i none)) l.made
        ∙ ap (λ m. number (get_or (front ++ back) m none)) k
        ∙ ap number (get_or-append-add front back (i - length front) none)
        ∙ free_at back (i - length front) l.behind

    pub taken_before : (i : ℕ) → (number (get_or xs i none) ≡ 0 → ⊥) → i < length (taken xs)
    taken_before i n = elim (dec_lt i (length (taken xs))) [ yes h ↦ h | no h ↦ absurd (n (back_at i (omega arith))) ]

    pub before_taken : (i : ℕ) → i < length (taken xs) → number (get_or xs i none) ≡ 0 → ⊥
    before_taken i h z = omega (arith, z, ap number (front_at i h), rising_at 0 front i l.rises h)

    -- before a taken place is another one, with a lower number
    pub earlier : (i j : ℕ) → i < j → (number (get_or xs j none) ≡ 0 → ⊥) → (number (get_or xs i none) ≡ 0 → ⊥) × (number (get_or xs i none) < number (get_or xs j none))
    earlier i j k n =
        let h : j < length front = taken_before j n in (
          before_taken i (omega arith),
          omega (arith, ap number (front_at i (omega arith)), ap number (front_at j h), rising_two 0 front i j l.rises k h),
        )

    -- so a number is at one place only
    pub one_place : (i j : ℕ) → (number (get_or xs i none) ≡ 0 → ⊥) → number (get_or xs i none) ≡ number (get_or xs j none) → i ≡ j
    one_place i j n e = elim (dec_lt i j) [
      | yes k ↦ absurd (omega (arith, (earlier i j k (λ z. n (e ∙ z))).1))
      | no k ↦ elim (dec_lt j i) [
        | yes h ↦ absurd (omega (arith, (earlier j i h n).1))
        | no h ↦ omega arith
      ]
    ]

  -- ---- no two taken ones have the same number

  rising_other : (a : ℕ) (xs : List A) (n : ℕ) → Rising number a xs → n ≤ a → Each (λ y. number y ≡ n → ⊥) xs
  rising_other a xs n r h =
      each (λ y. n < number y) (λ y. number y ≡ n → ⊥) xs (λ y k e. omega arith) (rising_over number n a xs h r)

  pub rising_distinct : (a : ℕ) (xs : List A) → Rising number a xs → Distinct number xs
  rising_distinct a [] r = tt
  rising_distinct a (x ∷ xs) r = (rising_other (number x) xs (number x) r.1 (omega arith), rising_distinct (number x) xs r.1)

  -- ---- some left out, and one more behind all

  pub rising_keep : (p : A → Bool) (a : ℕ) (xs : List A) → Rising number a xs → Rising number a (keep p xs)
  rising_keep p a [] r = unfold keep in tt
  rising_keep p a (x ∷ xs) r = go (p x) refl (rising_keep p (number x) xs r.1)
    where
      go : (b : Bool) → p x ≡ b → Rising number (number x) (keep p xs) → Rising number a (keep p (x ∷ xs))
      go true e h = rw (keep_true p x xs e) (r.0, h)
      go false e h = rw (keep_false p x xs e) (rising_from a (number x) (keep p xs) (omega (arith, r.0)) h)

  pub rising_with :
      (a : ℕ) (xs : List A) (y : A)
      → Rising number a xs
      → a < number y
      → Each (λ x. number x < number y) xs
      → Rising number a (xs ++ (y ∷ []))
  rising_with a [] y r h e = (h, tt)
  rising_with a (x ∷ xs) y r h e = (r.0, rising_with (number x) xs y r.1 e.0 e.1)

  -- ---- whether all are taken

  pub all_taken : (xs : List A) → all (is_taken number) xs ≡ not (ltb (length (taken xs)) (length xs))
  unfolding all keep
  all_taken [] = refl
  all_taken (x ∷ xs) = go (is_taken number x) refl (all_taken xs)
    where
      go :
          (b : Bool)
          → is_taken number x ≡ b
          → all (is_taken number) xs ≡ not (ltb (length (taken xs)) (length xs))
          → b && all (is_taken number) xs ≡ not (ltb (length (taken (x ∷ xs))) (suc (length xs)))
      go true e h = rw (keep_true (is_taken number) x xs e) (h ∙ ap not (ltb_same (length (taken xs)) (length xs) (suc (length (taken xs))) (suc (length xs)) (λ k. omega arith) (λ k. omega arith)))
      go false e h =
          rw (keep_false (is_taken number) x xs e)
          (sym (ap not (lt-ltb (length (taken xs)) (suc (length xs)) (omega (arith, length_keep (is_taken number) xs)))))
