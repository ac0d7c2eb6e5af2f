-- What each clause of sound declarations says, as a plain fact. Assumes nothing.
use Prim.Native.Nat.{ℕ, ◌*◌, ◌≤◌}
use mathlib.Core.Path.{◌≡◌, refl, ap}
use mathlib.Core.Logic.{⊎_elim}
use mathlib.Core.Bool.{Bool, true, false, not, ◌&&◌, ◌||◌, not-not}
use mathlib.Core.List.{List}
use native.Mathlib.Omega.{arith}
use native.Mathlib.Nat.{lt_of_not-le, not-le_of_lt}
use lib.Dec.{ltb}
use native.Mathlib.Decide.{ℕ_discrete}
use borrow.Author.Tests.{ltb-true, ltb-false, lt-ltb, not-true}
use Rattle.model.specs.declared.Declaration.{Declaration}
use Rattle.model.specs.declared.Day.{Day}
use Rattle.model.specs.Lists.{any}
use Rattle.model.specs.Clock.{confirming_from}
use Rattle.model.specs.Arrival.{is_taken, in_arrival}
use Rattle.model.specs.Sound.{has_places}
use Rattle.model.specs.Blocks.{undeclared, is_held, is_block, fits}
use Rattle.model.specs.SoundBlocks.{is_undeclared, is_declaration, sound_blocks}
use Rattle.model.specs.Refusals.{unsound_blocks}
use Rattle.model.specs.Words.{Each}
use Rattle.model.proofs.Bools.{not_both, not_true_false}
use Rattle.book.proofs.Lists.{each, both}
use Rattle.soundness.proofs.Says.{Says, says_le, says_eq, says_and, says_or, says_unless, says_too, says_not, says_itself, says_all, says_none}
use Rattle.soundness.proofs.Clauses.{says_price, says_band, says_between}
use Rattle.block_demands.specs.Held.{Block, Declares, Place, NoneHeld, NoneFit, SoundHeld}

pub says_block : (price quantity : ℕ) → Says (is_block price quantity) (Block price quantity)
unfolding is_block
says_block price quantity =
    says_too
    (λ h. record { large = h.0; most = h.1 })
    (λ (h : Block price quantity). (h.large, h.most))
    (says_and
    (says_or (says_le 100_000 quantity) (says_le 100_000_000 (price * quantity)))
    (says_le quantity 100_000_000))

-- ---- one place

pub says_declares : (d : Day) (x : Declaration) → Says (is_declaration d x) (Declares d x)
unfolding is_declaration
says_declares d x =
    says_too
    (λ h.
    record {
      side = h.0.0.0.0.0.0.0.0;
      account = h.0.0.0.0.0.0.0.1;
      counter = h.0.0.0.0.0.0.1;
      limited = h.0.0.0.0.0.1;
      price = h.0.0.0.0.1;
      size = h.0.0.0.1;
      band = h.0.0.1;
      numbered = h.0.1;
      issued = h.1;
    })
    (λ (h : Declares d x). ((((((((h.side, h.account), h.counter), h.limited), h.price), h.size), h.band), h.numbered), h.issued))
    (says_and
    (says_and
    (says_and
    (says_and
    (says_and
    (says_and
    (says_and
    (says_and (says_le x.side 1) (says_not (says_eq x.account 0)))
    (says_not (says_eq x.counter 0)))
    (says_eq d.limited 1))
    (says_price x.price))
    (says_block x.price x.quantity))
    (says_band d.close x.price))
    (says_le 1 x.number))
    (says_le x.number d.blocks.issued))

zeros :
    (x : Declaration)
    → x.side ≡ 0
    → x.account ≡ 0
    → x.counter ≡ 0
    → x.quantity ≡ 0
    → x.price ≡ 0
    → x.agreement ≡ 0
    → x.number ≡ 0
    → x ≡ undeclared
unfolding undeclared
zeros x s a c q p g n = rw (s, a, c, q, p, g, n)

pub says_undeclared : (x : Declaration) → Says (is_undeclared x) (x ≡ undeclared)
unfolding is_undeclared undeclared
says_undeclared x =
    says_too
    (λ h. zeros x h.0.0.0.0.0.0 h.0.0.0.0.0.1 h.0.0.0.0.1 h.0.0.0.1 h.0.0.1 h.0.1 h.1)
    (λ e. (
      (
        (
          (
            ((ap (λ (y : Declaration). y.side) e, ap (λ (y : Declaration). y.account) e), ap (λ (y : Declaration). y.counter) e),
            ap (λ (y : Declaration). y.quantity) e,
          ),
          ap (λ (y : Declaration). y.price) e,
        ),
        ap (λ (y : Declaration). y.agreement) e,
      ),
      ap (λ (y : Declaration). y.number) e,
    ))
    (says_and
    (says_and
    (says_and
    (says_and
    (says_and (says_and (says_eq x.side 0) (says_eq x.account 0)) (says_eq x.counter 0))
    (says_eq x.quantity 0))
    (says_eq x.price 0))
    (says_eq x.agreement 0))
    (says_eq x.number 0))

pub says_place : (d : Day) (x : Declaration) → Says (is_undeclared x || is_declaration d x) (Place d x)
says_place d x = says_or (says_undeclared x) (says_declares d x)

pub says_held : (x : Declaration) → Says (is_held x) (x.number ≡ 0 → ⊥)
unfolding is_held is_taken
says_held x = says_not (says_eq x.number 0)

pub undeclared_number : (x : Declaration) → x ≡ undeclared → x.number ≡ 0
unfolding undeclared
undeclared_number x e = ap (λ (y : Declaration). y.number) e

-- a place without a number is free
pub numberless : (d : Day) (x : Declaration) → Place d x → x.number ≡ 0 → x ≡ undeclared
numberless d x p n = ⊎_elim (λ e. e) (λ (r : Declares d x). absurd (omega (arith, r.numbered))) p

-- ---- the places together

module _ {A : Type 0} (p : A → Bool) where
  -- a test that none passes
  pub says_no : (xs : List A) → Says (not (any p xs)) (Each (λ x. p x ≡ false) xs)
  says_no xs =
      says_too
      (each (λ x. p x ≡ true → ⊥) (λ x. p x ≡ false) xs (λ x n. not_true_false n))
      (each (λ x. p x ≡ false) (λ x. p x ≡ true → ⊥) xs (λ x f t. not_both t f))
      (says_none p (λ x. p x ≡ true) (λ x. says_itself (p x)) xs)

  pub none_any : (xs : List A) → any p xs ≡ false → Each (λ x. p x ≡ false) xs
  none_any xs e = (says_no xs).0 (ap not e)

  pub any_none : (xs : List A) → Each (λ x. p x ≡ false) xs → any p xs ≡ false
  any_none xs h = not-true (any p xs) ((says_no xs).1 h)

pub says_none_fit : (held : List Declaration) → Says (not (any (λ x. any (fits x) held) held)) (NoneFit held)
says_none_fit held =
    says_too
    (each (λ x. any (fits x) held ≡ false) (λ x. Each (λ y. fits x y ≡ false) held) held (λ x. none_any (fits x) held))
    (each (λ x. Each (λ y. fits x y ≡ false) held) (λ x. any (fits x) held ≡ false) held (λ x. any_none (fits x) held))
    (says_no (λ x. any (fits x) held) held)

says_none_held : (held : List Declaration) → Says (not (any is_held held)) (Each (λ x. x.number ≡ 0) held)
says_none_held held =
    says_too
    (each (λ x. is_held x ≡ false) (λ x. x.number ≡ 0) held (λ x e. unheld x e))
    (each (λ x. x.number ≡ 0) (λ x. is_held x ≡ false) held (λ x z. not_true_false (λ t. (says_held x).0 t z)))
    (says_no is_held held)
  where
    unheld : (x : Declaration) → is_held x ≡ false → x.number ≡ 0
    unheld x e = elim (ℕ_discrete x.number 0) [ yes z ↦ z | no n ↦ absurd (not_both ((says_held x).1 n) e) ]

-- ---- the test and the record

module _ (d : Day) (held : List Declaration) where
  abbrev Unnumbered : Type 0
  Unnumbered = Each (λ x. x.number ≡ 0) held

  emptied : Each (Place d) held → Unnumbered → NoneHeld held
  emptied = both (Place d) (λ x. x.number ≡ 0) (λ x. x ≡ undeclared) held (numberless d)

  -- before 9:15 or from 15:30
  outside : SoundHeld d held → ((33_300 ≤ d.time) × (d.time ≤ 55_799) → ⊥) → Unnumbered
  outside s n = each (λ x. x ≡ undeclared) (λ x. x.number ≡ 0) held undeclared_number (go (ltb d.time 33_300) refl)
    where
      go : (b : Bool) → ltb d.time 33_300 ≡ b → NoneHeld held
      go true e = s.early (ltb-true d.time 33_300 e)
      go false e = s.late (lt_of_not-le (λ h. n (ltb-false d.time 33_300 e, h)))

  pub says_sound : Says (sound_blocks d held) (SoundHeld d held)
  unfolding sound_blocks confirming_from
  says_sound =
      says_too
      (λ h.
      record {
        places = h.0.0.0;
        arrived = h.0.0.1;
        early = λ l. emptied h.0.0.0 (h.0.1 (λ w. not-le_of_lt l w.0));
        late = λ l. emptied h.0.0.0 (h.0.1 (λ w. not-le_of_lt l w.1));
        confirmed = λ l. h.1 (λ e. not-le_of_lt e l);
      })
      (λ (s : SoundHeld d held). (((s.places, s.arrived), outside s), λ n. s.confirmed (ltb-false d.time 54_000 (not_true_false (λ e. n (ltb-true d.time 54_000 e))))))
      (says_and
      (says_and
      (says_and
      (says_all (λ x. is_undeclared x || is_declaration d x) (Place d) (says_place d) held)
      (says_itself (in_arrival (λ (x : Declaration). x.number) held)))
      (says_unless (says_between 33_300 55_799 d.time) (says_none_held held)))
      (says_unless (ltb-true d.time 54_000, lt-ltb d.time 54_000) (says_none_fit held)))

  pub says_blocks : Says (not (unsound_blocks d held)) ((has_places held ≡ true) × SoundHeld d held)
  unfolding unsound_blocks
  says_blocks = rw (not-not (has_places held && sound_blocks d held)) (says_and (says_itself (has_places held)) says_sound)

  -- where 15 is not given for the declarations
  pub held_places : unsound_blocks d held ≡ false → has_places held ≡ true
  held_places e = (says_blocks.0 (ap not e)).0

  pub held_sound : unsound_blocks d held ≡ false → SoundHeld d held
  held_sound e = (says_blocks.0 (ap not e)).1

  pub sound_held : has_places held ≡ true → SoundHeld d held → unsound_blocks d held ≡ false
  sound_held p s = not-true (unsound_blocks d held) (says_blocks.1 (p, s))
