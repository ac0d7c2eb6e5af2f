-- How many declarations are held: in order of arrival they stand first, so it is the first free place.
use Prim.Native.Nat.{ℕ, suc, ◌≤◌, ◌<◌}
use mathlib.Core.Path.{◌≡◌, refl, sym, ap, ◌∙◌}
use mathlib.Core.Bool.{Bool, true, false, not, ◌||◌}
use Rattle.std.specs.List.{take_while}
use Rattle.std.proofs.lemmas.List.Sums.{take_while-cons}
use Rattle.model.specs.Arrival.{is_taken, may_arrive, in_arrival}
use Rattle.model.proofs.Bools.{and_left, and_right, not_both}
use mathlib.Core.List.{List, [], ◌∷◌}
use native.Mathlib.Omega.{arith}
use native.Mathlib.Decide.{ℕ_discrete}
use lib.ListN.{length, get_or}
use borrow.Author.Tests.{lt-ltb, le-ltb}
use Rattle.model.specs.declared.Declaration.{Declaration}
use Rattle.model.specs.Lists.{keep, all, any}
use Rattle.model.specs.Blocks.{undeclared, is_held}
use Rattle.model.specs.Words.{Each}
use Rattle.book.proofs.Lists.{none_kept}
use Rattle.arrivals.proofs.Lines.{InLine, taken_number, untaken_number, before_taken, all_taken}

abbrev pub number_of : Declaration → ℕ
number_of x = x.number

pub free_number : number_of undeclared ≡ 0
unfolding undeclared
free_number = refl

pub held_number : (x : Declaration) → is_held x ≡ true → x.number ≡ 0 → ⊥
unfolding is_held
held_number x e = taken_number number_of x e

pub unheld_number : (x : Declaration) → is_held x ≡ false → x.number ≡ 0
unfolding is_held
unheld_number x e = untaken_number number_of x e

-- who stands right behind a free place is not held
untaken_behind : (x y : Declaration) → may_arrive number_of x y ≡ true → is_held x ≡ false → is_held y ≡ false
unfolding may_arrive is_held
untaken_behind x y e f = go (is_taken number_of y) (rw f at e)
  where
    go : (b : Bool) → not b || false ≡ true → b ≡ false
    go true h = absurd (not_both h refl)
    go false h = refl

none_held_lem : (xs : List Declaration) → Each (λ y. is_held y ≡ false) xs → any is_held xs ≡ false
unfolding any
none_held_lem [] e = refl
none_held_lem (y ∷ ys) e = rw e.0 (none_held_lem ys e.1)

one_held : (y : Declaration) (ys : List Declaration) → is_held y ≡ true → any is_held (y ∷ ys) ≡ true
unfolding any
one_held y ys e = rw e

-- behind a free place nobody is held
none_behind : (x : Declaration) (xs : List Declaration) → in_arrival number_of (x ∷ xs) ≡ true → is_held x ≡ false → keep is_held xs ≡ []
unfolding in_arrival keep
none_behind x [] a f = refl
none_behind x (y ∷ ys) a f =
    let free : is_held y ≡ false = untaken_behind x y (and_left (may_arrive number_of x y) _ a) f in
    rw free (none_behind y ys (and_right (may_arrive number_of x y) _ a) free)

arrival_tail : (x : Declaration) (xs : List Declaration) → in_arrival number_of (x ∷ xs) ≡ true → in_arrival number_of xs ≡ true
unfolding in_arrival
arrival_tail x [] a = refl
arrival_tail x (y ∷ ys) a = and_right (may_arrive number_of x y) _ a

-- as many are held as stand before the first free place
pub held_first : (xs : List Declaration) → in_arrival number_of xs ≡ true → length (take_while is_held xs) ≡ length (keep is_held xs)
unfolding keep
held_first [] a = refl
held_first (x ∷ xs) a = go (is_held x) refl (held_first xs (arrival_tail x xs a))
  where
    go :
        (b : Bool)
        → is_held x ≡ b
        → length (take_while is_held xs) ≡ length (keep is_held xs)
        → length (take_while is_held (x ∷ xs)) ≡ length (keep is_held (x ∷ xs))
    go true f e = ap length (take_while-cons is_held x xs) ∙ rw f (ap suc e)
    go false f e = ap length (take_while-cons is_held x xs) ∙ rw f (sym (ap length (none_behind x xs a f)))

module _ (held : List Declaration) (line : InLine number_of held) where
  -- the first free place is behind those that are held
  pub held_here : (i : ℕ) {x : Declaration} → i ≤ length (keep is_held held) → x ≡ get_or held i undeclared → is_held x ≡ false → i ≡ length (keep is_held held)
  unfolding is_held
  held_here i {x} h e f = elim (ℕ_discrete i (length (keep is_held held))) [
    | yes z ↦ z
    | no n ↦
        absurd (before_taken number_of undeclared free_number held line i (omega arith) (sym (ap number_of e) ∙ unheld_number x f))
  ]

  -- one is held where the first place is taken
  pub first_held : {x : Declaration} → x ≡ get_or held 0 undeclared → is_held x ≡ any is_held held
  first_held {x} e = go held refl (is_held x) refl
    where
      empty : (xs : List Declaration) → length xs ≡ 0 → xs ≡ []
      empty [] l = refl
      empty (y ∷ ys) l = absurd (omega arith)

      go : (xs : List Declaration) → held ≡ xs → (b : Bool) → is_held x ≡ b → b ≡ any is_held held
      go xs s false f =
          let z : 0 ≡ length (keep is_held held) = held_here 0 (omega arith) e f in
          sym (none_held_lem held (none_kept is_held held (empty (keep is_held held) (sym z))))
      go [] s true f = absurd (held_number x f (ap number_of e ∙ ap (λ (l : List Declaration). number_of (get_or l 0 undeclared)) s ∙ free_number))
      go (y ∷ ys) s true f =
          let same : is_held y ≡ true = ap is_held (sym (e ∙ ap (λ (l : List Declaration). get_or l 0 undeclared) s)) ∙ f in
          sym (ap (any is_held) s ∙ one_held y ys same)

-- whether every place is taken
module _ (held : List Declaration) {free : ℕ} (e : free ≡ length (keep is_held held)) where
  pub full : length held ≤ free → all is_held held ≡ true
  unfolding is_held
  full h = all_taken number_of held ∙ rw (le-ltb (length (keep is_held held)) (length held) (omega arith))

  pub not_full : free < length held → all is_held held ≡ false
  unfolding is_held
  not_full h = all_taken number_of held ∙ rw (lt-ltb (length (keep is_held held)) (length held) (omega arith))
