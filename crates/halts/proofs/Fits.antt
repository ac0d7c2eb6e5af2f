-- A day's halt fits by the clauses in the groups in which the code goes through them. Assumes nothing.
use mathlib.Core.Path.{◌≡◌, refl}
use mathlib.Core.Bool.{Bool, true, false, not, ◌&&◌, ◌||◌}
use Rattle.model.specs.declared.Day.{Day}
use Rattle.model.specs.Halts.{runs}
use Rattle.model.specs.Sound.{is_mark, is_used, halt_fits}
use Rattle.halts.specs.Clauses.{end_fits, marks_fit, has_halted, may_halt}

module _ (d : Day) where
  -- these are the definition's clauses, in its order
  pub fits_groups : halt_fits d ≡ (is_mark d.used30 && is_mark d.used60 && end_fits d && marks_fit d && may_halt d)
  unfolding halt_fits end_fits marks_fit has_halted may_halt
  fits_groups =
      go (is_mark d.used30 && is_mark d.used60 && end_fits d) (not (is_used d.used60 && not (is_used d.used30)))
      (not (runs d && not (is_used d.used30 || is_used d.used60)))
      (may_halt d)
    where
      go : (a b c e : Bool) → (a && b && c && e) ≡ (a && (b && c) && e)
      go true b c e = refl
      go false b c e = refl
