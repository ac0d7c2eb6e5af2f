-- Numbers used twice are found with a map of those used so far: place by place what is still to be tested stays the same.
-- Assumes nothing.
use Prim.Native.Nat.{ℕ, ◌+◌, ◌/◌, ◌≤◌, ◌<◌}
use mathlib.Core.Path.{◌≡◌, refl, sym, ap, ◌∙◌}
use mathlib.Core.Bool.{Bool, true, false, not, ◌&&◌}
use mathlib.Core.List.{List, ◌∷◌}
use mathlib.Core.Logic.{⊎_elim}
use native.Mathlib.Omega.{arith}
use lib.Dec.{eqb}
use lib.ListN.{length, get_or, drop, length-replicate, drop_of_length-le}
use borrow.Author.Tests.{eqb-true, eqb-false}
use Rattle.model.specs.declared.Order.{Order}
use Rattle.model.specs.declared.Day.{Day}
use Rattle.model.specs.Lists.{all}
use Rattle.model.specs.Book.{is_live, free}
use Rattle.model.specs.Sound.{own_numbers}
use Rattle.model.proofs.Bools.{not_both}
use Rattle.bits.specs.Maps.{has_bit, marked}
use Rattle.bits.proofs.MapLaws.{empty_map, marked_itself, marked_other, length_marked}
use Rattle.model.specs.Words.{Each, Apart}
use Rattle.book.proofs.Lists.{each, both, every}
use Rattle.book.proofs.Kept.{free_number}
use Rattle.soundness.specs.Numbers.{no_numbers, FreshMap}
use Rattle.soundness.specs.SoundDay.{Rests, Place}
use Rattle.soundness.proofs.Says.{Says, fails, says_itself, says_and, says_not, says_all, says_same}
use Rattle.soundness.proofs.Clauses.{Beside, sits, whole, says_place, says_live, says_whole}
use Rattle.soundness.proofs.Onward.{onward}

-- the test that is still to be made: of these places, with those numbers used before them
unfoldable pub still : Day → List ℕ → List Order → Bool
still d used os = whole d os && all (λ o. not (is_live o && has_bit used o.number)) os

-- an order whose number is not yet used
abbrev New : List ℕ → Order → Type 0
New used o = (o.number ≡ 0 → ⊥) × (has_bit used o.number ≡ true) → ⊥

says_used :
    (used : List ℕ) (o : Order)
    → Says (is_live o && has_bit used o.number) ((o.number ≡ 0 → ⊥) × (has_bit used o.number ≡ true))
says_used used o = says_and (says_live o) (says_itself (has_bit used o.number))

says_still :
    (d : Day) (used : List ℕ) (os : List Order)
    → Says (still d used os) ((Each (Place d) os × Apart os) × Each (New used) os)
unfolding still
says_still d used os =
    says_and
    (says_whole d os)
    (says_all (λ o. not (is_live o && has_bit used o.number)) (New used) (λ o. says_not (says_used used o)) os)

-- ---- one number more

module _ (used : List ℕ) (o : Order) (p : Order) where
  new_apart : o.number / 64 < length used → New (marked used o.number) p → Beside o p
  new_apart l n e = go (eqb o.number 0) refl
    where
      go : (t : Bool) → eqb o.number 0 ≡ t → o.number ≡ 0
      go true z = eqb-true o.number 0 z
      go false z =
          let live : o.number ≡ 0 → ⊥ = eqb-false o.number 0 z in
          absurd (n (λ q. live (sym e ∙ q), ap (has_bit (marked used o.number)) e ∙ marked_itself used o.number l))

  new_before : Beside o p → New (marked used o.number) p → New used p
  new_before a n h =
      n (h.0, marked_other used o.number p.number (λ e. h.0 (sym e ∙ a (sym e))) ∙ h.1)

  new_after : Beside o p → New used p → New (marked used o.number) p
  new_after a n h =
      n (h.0, sym (marked_other used o.number p.number (λ e. h.0 (sym e ∙ a (sym e)))) ∙ h.1)

module _ (d : Day) (used : List ℕ) (o : Order) (os : List Order) where
  pub bad_place : sits d o ≡ false → false ≡ still d used (o ∷ os)
  unfolding still all
  bad_place e = rw e

  pub used_twice : (is_live o && has_bit used o.number) ≡ true → false ≡ still d used (o ∷ os)
  used_twice u =
      fails
      (says_still d used (o ∷ os))
      (λ h. h.1.0 ((says_used used o).0 u))

  -- a sound place with a number of its own: the test goes on behind it, with that number used
  pub used_once :
      sits d o ≡ true
      → (is_live o && has_bit used o.number) ≡ false
      → o.number / 64 < length used
      → still d (marked used o.number) os ≡ still d used (o ∷ os)
  used_once e u l =
      let new : New used o = λ (w : (o.number ≡ 0 → ⊥) × (has_bit used o.number ≡ true)).
      not_both ((says_used used o).1 w) u
      in
      says_same
      (λ h.
      let apart = each (New (marked used o.number)) (Beside o) os (λ p. new_apart used o p l) h.1 in (
        (((says_place d o).0 e, h.0.0), (apart, h.0.1)),
        (
          new,
          both (Beside o) (New (marked used o.number)) (New used) os (new_before used o) apart h.1,
        ),
      ))
      (λ h. (
        (h.0.0.1, h.0.1.1),
        both (Beside o) (New used) (New (marked used o.number)) os (new_after used o) h.0.1.0 h.1.1,
      ))
      (says_still d (marked used o.number) os)
      (says_still d used (o ∷ os))

-- a place bears no number that is not issued
pub issued_number : (d : Day) (o : Order) → Place d o → o.number ≤ d.issued
issued_number d o p =
    ⊎_elim (λ e. omega (arith, ap (λ (x : Order). x.number) e, free_number)) (λ (r : Rests d o). r.issued) p

-- ---- the loop: what is still to be tested is the whole test

pub record Tested (d : Day) (rows : List Order) (used : List ℕ) (i : ℕ) : Type 0 where
  pub wide : d.issued / 64 < length used
  pub rest : still d used (drop i rows) ≡ whole d rows

none_used : (used : List ℕ) → used ≡ no_numbers (length used) → (o : Order) → New used o
unfolding no_numbers
none_used used e o w =
    not_both w.1 (ap (λ (m : List ℕ). has_bit m o.number) e ∙ empty_map (length used) o.number)

pub tested_none : (d : Day) (rows : List Order) (used : List ℕ) → FreshMap d.issued used → Tested d rows used 0
tested_none d rows used r =
    record {
      wide = r.wide;
      rest =
          says_same
          (λ h. h.0)
          (λ h. (h, every (New used) rows (none_used used r.empty)))
          (says_still d used rows)
          (says_whole d rows);
    }

-- a map of so many words
pub map_fresh : (issued words : ℕ) (map : List ℕ) → map ≡ no_numbers words → issued / 64 < words → FreshMap issued map
unfolding no_numbers
map_fresh issued words map e h =
    let l : length map ≡ words = ap length e ∙ length-replicate {A = ℕ} words 0 in
    record { empty = e ∙ ap no_numbers (sym l); wide = omega (arith, h, l) }

module _ (d : Day) (rows : List Order) (used : List ℕ) (i : ℕ) (t : Tested d rows used i) where
  module _ (o : Order) (l : i < length rows) (e : o ≡ get_or rows i free) where
    here : still d used (o ∷ (drop (i + 1) rows)) ≡ whole d rows
    here = ap (still d used) (sym (onward rows i o l e)) ∙ t.rest

    pub tested_bad : sits d o ≡ false → false ≡ whole d rows
    tested_bad b = bad_place d used o (drop (i + 1) rows) b ∙ here

    pub tested_used : (is_live o && has_bit used o.number) ≡ true → false ≡ whole d rows
    tested_used u = used_twice d used o (drop (i + 1) rows) u ∙ here

    pub tested_more :
        (next : List ℕ)
        → sits d o ≡ true
        → (is_live o && has_bit used o.number) ≡ false
        → next ≡ marked used o.number
        → Tested d rows next (i + 1)
    tested_more next s u n =
        rw n
        record {
          wide = omega (arith, t.wide, length_marked used o.number);
          rest = used_once d used o (drop (i + 1) rows) s u (omega (arith, t.wide, issued_number d o ((says_place d o).0 s))) ∙ here;
        }

  pub tested_all : length rows ≤ i → true ≡ whole d rows
  unfolding still all own_numbers
  tested_all l = ap (λ (r : List Order). still d used r) (sym (drop_of_length-le rows l)) ∙ t.rest
