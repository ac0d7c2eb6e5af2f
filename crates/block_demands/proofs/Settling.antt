-- The places after some declarations are confirmed, and after all have lapsed: each place is free or as before, in order of arrival,
-- and holds no more shares. Assumes nothing.
use Prim.Native.Nat.{ℕ, ◌≤◌}
use mathlib.Core.Path.{◌≡◌, refl, ap, ◌∙◌}
use mathlib.Core.Logic.{inl}
use mathlib.Core.Bool.{true, false, not}
use mathlib.Core.List.{List, [], ◌∷◌}
use native.Mathlib.Omega.{arith}
use lib.ListN.{length, length-map}
use Rattle.model.specs.declared.Declaration.{Declaration}
use Rattle.model.specs.declared.Trade.{Trade}
use Rattle.model.specs.declared.Day.{Day}
use Rattle.model.specs.Arrival.{is_taken, in_arrival}
use Rattle.model.specs.Blocks.{undeclared, fits, unnamed, none_held, held_in}
use Rattle.model.specs.Sound.{has_places}
use Rattle.model.specs.Words.{Each}
use Rattle.book.proofs.Lists.{each, both, total_zero, total_keep}
use Rattle.arrivals.proofs.Lines.{taken, InLine, line_of, arrives}
use Rattle.arrivals.proofs.Places.{places_length, places_arrive, places_taken, places_total, places_each, taken_kept, kept_rises, kept_fit}
use Rattle.block_demands.specs.Held.{Place, NoneHeld, NoneFit}
use Rattle.block_demands.proofs.Plain.{undeclared_number}
use Rattle.block_demands.proofs.Fitting.{fits_undeclared, undeclared_fits}
use Rattle.block_demands.proofs.Naming.{number_of, shares_of, named, unnamed_each}

no_number : undeclared.number ≡ 0
no_number = undeclared_number undeclared refl

no_shares : undeclared.quantity ≡ 0
unfolding undeclared
no_shares = refl

-- as many places as before
pub same_places : (before after : List Declaration) → length after ≡ length before → has_places before ≡ true → has_places after ≡ true
unfolding has_places
same_places before after e h = rw e h

-- ---- some are confirmed

module _ (n : ℕ) (line : List Declaration) (ts : List Trade) where
  abbrev after : List Declaration
  after = held_in n (unnamed ts line)

  pub after_length : length after ≡ n
  unfolding held_in
  after_length = places_length number_of undeclared no_number n (unnamed ts line)

  pub after_each : (P : Declaration → Type 0) → P undeclared → Each P (unnamed ts line) → Each P after
  unfolding held_in
  after_each P = places_each number_of undeclared no_number P n (unnamed ts line)

  pub after_arrived : InLine number_of line → in_arrival number_of after ≡ true
  unfolding held_in unnamed
  after_arrived l =
      places_arrive number_of undeclared no_number n (unnamed ts line)
      (kept_rises number_of undeclared no_number (λ x. not (named x.number ts)) line l)

  pub after_none_held : NoneHeld line → NoneHeld after
  after_none_held e = after_each (λ x. x ≡ undeclared) refl (unnamed_each (λ x. x ≡ undeclared) ts line e)

  -- a free place fits nobody
  pub after_none_fit : (d : Day) → Each (Place d) line → NoneFit (unnamed ts line) → NoneFit after
  after_none_fit d places none =
      after_each (λ x. Each (λ y. fits x y ≡ false) after)
      (after_each (λ y. fits undeclared y ≡ false) (undeclared_fits d undeclared (inl refl))
      (each (Place d) (λ y. fits undeclared y ≡ false) (unnamed ts line) (undeclared_fits d) there))
      (both (Place d) (λ x. Each (λ y. fits x y ≡ false) (unnamed ts line)) (λ x. Each (λ y. fits x y ≡ false) after) (unnamed ts line)
      (λ x p e. after_each (λ y. fits x y ≡ false) (fits_undeclared d x p) e)
      there
      none)
    where
      there : Each (Place d) (unnamed ts line)
      there = unnamed_each (Place d) ts line places

  pub after_shares : InLine number_of line → length line ≤ n → shares_of after ≤ shares_of (unnamed ts line)
  unfolding held_in unnamed
  after_shares l fit =
      omega (
        arith,
        places_total number_of undeclared no_number n (unnamed ts line)
            (omega (arith, kept_fit number_of undeclared no_number (λ x. not (named x.number ts)) line l))
            (λ (x : Declaration). x.quantity)
            no_shares,
        total_keep (λ (x : Declaration). x.quantity) (is_taken number_of) (unnamed ts line),
      )

  -- whoever is not named is still held
  pub after_held : InLine number_of line → length line ≤ n → taken number_of after ≡ unnamed ts (taken number_of line)
  unfolding held_in unnamed
  after_held l fit =
      places_taken number_of undeclared no_number n (unnamed ts line)
      (omega (arith, kept_fit number_of undeclared no_number (λ x. not (named x.number ts)) line l))
      ∙ taken_kept number_of undeclared no_number (λ x. not (named x.number ts)) line

-- ---- all have lapsed

module _ (held : List Declaration) where
  pub lapsed_length : length (none_held held) ≡ length held
  unfolding none_held
  lapsed_length = length-map held (λ (_ : Declaration). undeclared)

  pub lapsed_none : NoneHeld (none_held held)
  unfolding none_held
  lapsed_none = go held
    where
      go : (xs : List Declaration) → NoneHeld (none_held xs)
      go [] = tt
      go (x ∷ xs) = (refl, go xs)

module _ (held : List Declaration) (none : NoneHeld held) where
  pub none_arrived : in_arrival number_of held ≡ true
  none_arrived =
      arrives number_of held
      (line_of number_of [] held tt (each (λ x. x ≡ undeclared) (λ x. x.number ≡ 0) held undeclared_number none))

  pub none_places : (d : Day) → Each (Place d) held
  none_places d = each (λ x. x ≡ undeclared) (Place d) held (λ x e. inl e) none

  pub none_fit : (d : Day) → NoneFit held
  none_fit d =
      each (λ x. x ≡ undeclared) (λ x. Each (λ y. fits x y ≡ false) held) held
      (λ x e. rw e (each (Place d) (λ y. fits undeclared y ≡ false) held (undeclared_fits d) (none_places d)))
      none

  pub none_shares : shares_of held ≡ 0
  none_shares =
      total_zero (λ (x : Declaration). x.quantity) held
      (each (λ x. x ≡ undeclared) (λ (x : Declaration). x.quantity ≡ 0) held
      (λ x e. ap (λ (y : Declaration). y.quantity) e ∙ no_shares)
      none)
