-- The clauses of `halt_fits`, in the groups in which the code goes through them. Law `fits_groups` says that they are the same.
use Rattle.std.specs.Prelude.{Bool, not, ◌&&◌, ◌||◌, leb, eqb}
use Rattle.model.specs.declared.Day.{Day}
use Rattle.model.specs.Halts.{runs}
use Rattle.model.specs.Sound.{is_led_to, is_used}

-- no end that has come, or that no continuous second so far leads to
unfoldable pub end_fits : Day → Bool
end_fits d = not (runs d && (leb d.halt d.time || not (is_led_to d.halt d.time)))

-- nor 60% used without 30%, nor an end with none used
unfoldable pub marks_fit : Day → Bool
marks_fit d =
    not (is_used d.used60 && not (is_used d.used30))
    && not (runs d && not (is_used d.used30 || is_used d.used60))

-- an end, or a used threshold
unfoldable pub has_halted : Day → Bool
has_halted d = runs d || is_used d.used30 || is_used d.used60

-- nor either on a limited day or with nothing traded
unfoldable pub may_halt : Day → Bool
may_halt d = not (has_halted d && (eqb d.limited 1 || eqb d.shares 0))
