-- Declarations in order of arrival: the turns of confirming go through for those that a sound day holds, and for these with one more
-- behind all. Assumes nothing.
use Prim.Native.Nat.{ℕ, suc, ◌≤◌, ◌<◌}
use mathlib.Core.Path.{◌≡◌, refl, sym, ap, subst}
use mathlib.Core.Logic.{⊎_elim}
use mathlib.Core.Bool.{true}
use mathlib.Core.List.{List, [], ◌∷◌, ◌++◌, append-nil}
use native.Mathlib.Omega.{arith}
use lib.ListN.{length, drop}
use Rattle.model.specs.declared.Declaration.{Declaration}
use Rattle.model.specs.declared.AskedBlock.{AskedBlock}
use Rattle.model.specs.declared.Day.{Day}
use Rattle.model.specs.Arrival.{is_taken}
use Rattle.model.specs.Figures.{next_block}
use Rattle.model.specs.Blocks.{undeclared, is_held, fits}
use Rattle.model.specs.BlockCalls.{declaring}
use Rattle.model.specs.Words.{Each}
use Rattle.model.proofs.Bools.{not_both}
use Rattle.book.proofs.Lists.{each, each_keep, each_append, kept, keep_all}
use Rattle.book.proofs.Sorting.{Rising, rising_over}
use Rattle.arrivals.proofs.Lines.{taken, Untaken, InLine, is_taken_lem, taken_number, in_line, line_of, rising_with}
use Rattle.block_demands.specs.Held.{Declares, Place, SoundHeld}
use Rattle.block_demands.proofs.Plain.{numberless}
use Rattle.block_demands.proofs.Fitting.{fits_undeclared, undeclared_fits}
use Rattle.block_demands.proofs.Members.{In, each_in, each_of, Later, InTurn}
use Rattle.block_demands.proofs.Naming.{number_of}
use Rattle.block_demands.proofs.Turns.{Lined}

-- ---- their numbers rise

turn_of_lem : (a : ℕ) (xs ys : List Declaration) → Rising number_of a xs → Untaken number_of ys → InTurn number_of (xs ++ ys)
turn_of_lem a [] [] r u = tt
turn_of_lem a [] (y ∷ ys) r u = (
  each (λ z. z.number ≡ 0) (Later number_of y) ys (λ z e _ n. absurd (n e)) u.1,
  turn_of_lem a [] ys tt u.1,
)
turn_of_lem a (x ∷ xs) ys r u = (
  each_append (Later number_of x) xs ys
      (each (λ z. x.number < z.number) (Later number_of x) xs (λ z l _ _. l) (rising_over number_of x.number x.number xs (omega arith) r.1))
      (each (λ z. z.number ≡ 0) (Later number_of x) ys (λ z e _ n. absurd (n e)) u),
  turn_of_lem x.number xs ys r.1 u,
)

pub line_turn : (xs : List Declaration) → InLine number_of xs → InTurn number_of xs
line_turn xs l =
    subst (InTurn number_of) (sym l.made)
    (turn_of_lem 0 (taken number_of xs) (drop (length (taken number_of xs)) xs) l.rises l.behind)

-- ---- those that are held

sided : (d : Day) (x : Declaration) → Place d x → x.side ≤ 1
unfolding undeclared
sided d x p =
    ⊎_elim (λ e. omega (arith, ap (λ (y : Declaration). y.side) e)) (λ (r : Declares d x). r.side) p

pub lined_places : (d : Day) (held : List Declaration) → Each (Place d) held → InLine number_of held → Lined held
lined_places d held places l =
    record {
      sides = each (Place d) (λ x. x.side ≤ 1) held (sided d) places;
      real =
          each_of _ held
          (λ x hx.
          each_of _ held
          (λ y hy f.
          let px : Place d x = each_in (Place d) held x places hx in
          let py : Place d y = each_in (Place d) held y places hy in (
            λ z. not_both (subst (λ w. fits w y ≡ true) (numberless d x px z) f) (undeclared_fits d y py),
            λ z. not_both (subst (λ w. fits x w ≡ true) (numberless d y py z) f) (fits_undeclared d x px),
          )));
      turn = line_turn held l;
    }

pub held_line : (d : Day) (held : List Declaration) → SoundHeld d held → InLine number_of held
held_line d held s = in_line number_of held s.arrived

pub lined_held : (d : Day) (held : List Declaration) → SoundHeld d held → Lined held
lined_held d held s = lined_places d held s.places (held_line d held s)

-- ---- and one more behind all

pub issued_number : (d : Day) (x : Declaration) → Place d x → x.number ≤ d.blocks.issued
unfolding undeclared
issued_number d x p =
    ⊎_elim (λ e. omega (arith, ap number_of e)) (λ (r : Declares d x). r.issued) p

-- the declaration that comes in
unfoldable pub coming : Day → AskedBlock → Declaration
coming d a =
    record {
      side = a.side;
      account = a.account;
      counter = a.counter;
      quantity = a.quantity;
      price = a.price;
      agreement = a.agreement;
      number = next_block d;
    }

module _ (d : Day) (a : AskedBlock) (held : List Declaration) where
  pub declaring_is : declaring d a held ≡ taken number_of held ++ (coming d a ∷ [])
  unfolding declaring is_held coming
  declaring_is = refl

  module _ (s : SoundHeld d held) where
    line : InLine number_of held
    line = held_line d held s

    numbers : Each (λ x. x.number < (coming d a).number) (taken number_of held)
    unfolding coming next_block
    numbers =
        each_keep (λ x. x.number < suc d.blocks.issued) (is_taken number_of) held
        (each (Place d) (λ x. x.number < suc d.blocks.issued) held (λ x p. omega (arith, issued_number d x p)) s.places)

    pub coming_number : (coming d a).number ≡ 0 → ⊥
    unfolding coming next_block
    coming_number z = omega (arith, z)

    pub declaring_line : InLine number_of (declaring d a held)
    declaring_line =
        rw declaring_is
        (subst (InLine number_of) (append-nil (taken number_of held ++ (coming d a ∷ [])))
        (line_of number_of (taken number_of held ++ (coming d a ∷ [])) []
        (rising_with number_of 0 (taken number_of held) (coming d a) line.rises (omega (arith, coming_number)) numbers)
        tt))

    -- each of them has a number
    declaring_real : Each (λ x. is_taken number_of x ≡ true) (declaring d a held)
    declaring_real =
        rw declaring_is
        (each_append (λ x. is_taken number_of x ≡ true) (taken number_of held) (coming d a ∷ []) (kept (is_taken number_of) held)
        (is_taken_lem number_of (coming d a) coming_number, tt))

    pub declaring_taken : taken number_of (declaring d a held) ≡ declaring d a held
    declaring_taken = keep_all (is_taken number_of) (declaring d a held) declaring_real

    pub lined_declaring : a.side ≤ 1 → Lined (declaring d a held)
    lined_declaring k =
        record {
          sides =
              rw declaring_is
              (each_append (λ x. x.side ≤ 1) (taken number_of held) (coming d a ∷ [])
              (each_keep (λ x. x.side ≤ 1) (is_taken number_of) held (lined_held d held s).sides)
              (coming_side, tt));
          real = each_of _ (declaring d a held) (λ x hx. each_of _ (declaring d a held) (λ y hy _. (real x hx, real y hy)));
          turn = line_turn (declaring d a held) declaring_line;
        }
      where
        coming_side : (coming d a).side ≤ 1
        coming_side = unfold coming in k

        real : (x : Declaration) → In x (declaring d a held) → x.number ≡ 0 → ⊥
        real x h = taken_number number_of x (each_in (λ y. is_taken number_of y ≡ true) (declaring d a held) x declaring_real h)
