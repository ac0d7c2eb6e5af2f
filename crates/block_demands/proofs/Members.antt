-- One element of a list: picked for what it has, found again in a part of it, and the only one with its number; and what is left
-- of a sum without it. Assumes nothing.
use Prim.Native.Nat.{ℕ, ◌+◌, ◌<◌}
use mathlib.Core.Path.{◌≡◌, refl, sym, ap, ◌∙◌, subst}
use mathlib.Core.Logic.{◌⊎◌, inl, inr, ⊎_elim}
use mathlib.Core.Bool.{Bool, true, false, cond, not}
use mathlib.Core.List.{List, [], ◌∷◌, ◌++◌}
use native.Mathlib.Omega.{arith}
use lib.Dec.{eqb}
use borrow.Author.Tests.{eq-eqb, ne_eqb}
use Rattle.model.specs.Lists.{keep, total}
use Rattle.model.specs.Words.{Each, Some}
use Rattle.model.proofs.Bools.{not_both}
use Rattle.book.proofs.Lists.{each, each_keep, keep_true, keep_false, keep_all}

module _ {A : Type 0} where
  abbrev pub In : A → List A → Type 0
  In x xs = Some (λ y. y ≡ x) xs

  -- one that has something
  pub record Picked (P : A → Type 0) (xs : List A) : Type 0 where
    pub one : A
    pub has : P one
    pub there : In one xs

  pub pick : (P : A → Type 0) (xs : List A) → Some P xs → Picked P xs
  pick P [] h = absurd h
  pick P (x ∷ xs) h =
      ⊎_elim
      (λ p. record { one = x; has = p; there = inl refl })
      (λ k. let r = pick P xs k in record { one = r.one; has = r.has; there = inr r.there })
      h

  pub some_with : (P R : A → Type 0) (xs : List A) → ((x : A) → P x → R x) → Some P xs → Some R xs
  some_with P R [] f h = absurd h
  some_with P R (x ∷ xs) f h = ⊎_elim (λ p. inl (f x p)) (λ k. inr (some_with P R xs f k)) h

  -- what each has, this one has
  pub each_in : (P : A → Type 0) (xs : List A) (x : A) → Each P xs → In x xs → P x
  each_in P [] x e h = absurd h
  each_in P (y ∷ ys) x e h = ⊎_elim (λ k. subst P k e.0) (λ k. each_in P ys x e.1 k) h

  -- and what this one has, one of them has
  pub in_some : (P : A → Type 0) (xs : List A) (x : A) → P x → In x xs → Some P xs
  in_some P xs x p = some_with (λ y. y ≡ x) P xs (λ y k. subst P (sym k) p)

  pub in_behind : (xs ys : List A) (x : A) → In x ys → In x (xs ++ ys)
  in_behind [] ys x h = h
  in_behind (y ∷ xs) ys x h = inr (in_behind xs ys x h)

  pub in_either : (xs ys : List A) (x : A) → In x (xs ++ ys) → In x xs ⊎ In x ys
  in_either [] ys x h = inr h
  in_either (y ∷ xs) ys x h =
      ⊎_elim (λ k. inl (inl k)) (λ k. ⊎_elim (λ a. inl (inr a)) (λ c. inr c) (in_either xs ys x k)) h

  -- what all of them have, each has
  pub each_of : (P : A → Type 0) (xs : List A) → ((x : A) → In x xs → P x) → Each P xs
  each_of P [] f = tt
  each_of P (x ∷ xs) f = (f x (inl refl), each_of P xs (λ y h. f y (inr h)))

  -- ---- those that a test keeps

  pub in_kept : (p : A → Bool) (xs : List A) (x : A) → p x ≡ true → In x xs → In x (keep p xs)
  unfolding keep
  in_kept p [] x t h = absurd h
  in_kept p (y ∷ ys) x t h = go (p y) refl (λ k. in_kept p ys x t k)
    where
      go : (b : Bool) → p y ≡ b → (In x ys → In x (keep p ys)) → In x (cond b (y ∷ keep p ys) (keep p ys))
      go true e rest = ⊎_elim (λ k. inl k) (λ k. inr (rest k)) h
      go false e rest = ⊎_elim (λ k. absurd (not_both (subst (λ z. p z ≡ true) (sym k) t) e)) rest h

  pub kept_in : (p : A → Bool) (xs : List A) (x : A) → In x (keep p xs) → In x xs
  unfolding keep
  kept_in p [] x h = h
  kept_in p (y ∷ ys) x h = go (p y) (λ k. kept_in p ys x k) h
    where
      go : (b : Bool) → (In x (keep p ys) → In x ys) → In x (cond b (y ∷ keep p ys) (keep p ys)) → (y ≡ x) ⊎ In x ys
      go true rest h = ⊎_elim (λ k. inl k) (λ k. inr (rest k)) h
      go false rest h = inr (rest h)

  -- what each of them has, each has that passes
  pub each_passing : (P : A → Type 0) (p : A → Bool) (xs : List A) → Each P (keep p xs) → Each (λ x. p x ≡ true → P x) xs
  each_passing P p [] e = tt
  each_passing P p (x ∷ xs) e = go (p x) refl (each_passing P p xs)
    where
      go :
          (b : Bool)
          → p x ≡ b
          → (Each P (keep p xs) → Each (λ y. p y ≡ true → P y) xs)
          → (p x ≡ true → P x) × Each (λ y. p y ≡ true → P y) xs
      go true t rest =
          let h : Each P (x ∷ keep p xs) = rw (keep_true p x xs t) at e in
          (λ _. h.0, rest h.1)
      go false f rest =
          let h : Each P (keep p xs) = rw (keep_false p x xs f) at e in
          (λ t. absurd (not_both t f), rest h)

-- a sum, with one more behind all
pub total_behind : {A : Type 0} (f : A → ℕ) (xs : List A) (x : A) → total f (xs ++ (x ∷ [])) ≡ total f xs + f x
unfolding total
total_behind f [] x = omega arith
total_behind f (y ∷ ys) x = omega (arith, total_behind f ys x)

-- ---- numbers that rise, where those without a number are passed over

module _ {A : Type 0} (number : A → ℕ) where
  abbrev pub Later : A → A → Type 0
  Later x y = (number x ≡ 0 → ⊥) → (number y ≡ 0 → ⊥) → number x < number y

  abbrev pub InTurn : List A → Type 0
  InTurn [] = Unit {0}
  InTurn (x ∷ xs) = Each (Later x) xs × InTurn xs

  pub turn_keep : (p : A → Bool) (xs : List A) → InTurn xs → InTurn (keep p xs)
  unfolding keep
  turn_keep p [] r = tt
  turn_keep p (x ∷ xs) r = go (p x) (turn_keep p xs r.1)
    where
      go : (b : Bool) → InTurn (keep p xs) → InTurn (cond b (x ∷ keep p xs) (keep p xs))
      go true h = (each_keep (Later x) p xs r.0, h)
      go false h = h

  pub turn_behind : (xs ys : List A) → InTurn (xs ++ ys) → InTurn ys
  turn_behind [] ys r = r
  turn_behind (x ∷ xs) ys r = turn_behind xs ys r.1

  -- one number, one element
  pub only_one : (xs : List A) (x : A) → InTurn xs → In x xs → (number x ≡ 0 → ⊥) → Each (λ y. number y ≡ number x → y ≡ x) xs
  only_one [] x r h n = tt
  only_one (y ∷ ys) x r h n = ⊎_elim first (λ k. later k (only_one ys x r.1 k n)) h
    where
      first : y ≡ x → Each (λ z. number z ≡ number x → z ≡ x) (y ∷ ys)
      first k = (
        λ _. k,
        each (Later y) (λ z. number z ≡ number x → z ≡ x) ys
            (λ z l e. absurd (omega (arith, ap number k, l (λ o. n (sym (ap number k) ∙ o)) (λ o. n (sym e ∙ o)))))
            r.0,
      )

      later : In x ys → Each (λ z. number z ≡ number x → z ≡ x) ys → Each (λ z. number z ≡ number x → z ≡ x) (y ∷ ys)
      later k rest = (λ e. absurd (omega (arith, each_in (Later y) ys x r.0 k (λ o. n (sym e ∙ o)) n)), rest)

  -- all but the one with a number
  abbrev pub others : ℕ → A → Bool
  others n x = not (eqb n (number x))

  -- a sum, without the one
  pub total_others :
      (f : A → ℕ) (xs : List A) (x : A)
      → InTurn xs
      → In x xs
      → (number x ≡ 0 → ⊥)
      → total f xs ≡ f x + total f (keep (others (number x)) xs)
  unfolding total
  total_others f [] x r h n = absurd h
  total_others f (y ∷ ys) x r h n = ⊎_elim first (λ k. later k (total_others f ys x r.1 k n)) h
    where
      first : y ≡ x → f y + total f ys ≡ f x + total f (keep (others (number x)) (y ∷ ys))
      first k =
          let all_others : keep (others (number x)) ys ≡ ys =
          keep_all (others (number x)) ys
          (each (Later y) (λ z. others (number x) z ≡ true) ys
          (λ z l.
          ap not
          (ne_eqb (number x) (number z) (λ e. omega (arith, ap number k, l (λ o. n (sym (ap number k) ∙ o)) (λ o. n (e ∙ o))))))
          r.0)
          in
          let out : keep (others (number x)) (y ∷ ys) ≡ ys =
          keep_false (others (number x)) y ys (ap not (eq-eqb (number x) (number y) (sym (ap number k)))) ∙ all_others
          in
          ap (λ (z : A). f z + total f ys) k ∙ ap (λ (l : List A). f x + total f l) (sym out)

      later :
          In x ys
          → total f ys ≡ f x + total f (keep (others (number x)) ys)
          → f y + total f ys ≡ f x + total f (keep (others (number x)) (y ∷ ys))
      later k rest =
          let l : number y ≡ number x → ⊥ = λ e. omega (arith, each_in (Later y) ys x r.0 k (λ o. n (sym e ∙ o)) n) in
          let out : keep (others (number x)) (y ∷ ys) ≡ y ∷ keep (others (number x)) ys =
          keep_true (others (number x)) y ys (ap not (ne_eqb (number x) (number y) (λ e. l (sym e))))
          in
          omega (arith, rest, ap (total f) out)
