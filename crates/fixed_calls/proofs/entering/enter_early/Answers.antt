-- It stands behind the others, and nothing else changes but the number issued.
use mathlib.Core.Path.{refl}
use native.Mathlib.Omega.{arith}
use Rattle.fixed_calls.proofs.Entered.{inside, number_fits, priced, rests}
use Rattle.fixed_calls.proofs.entering.enter_early.Goals as goal

pub entry_of-entry-requires : goal.entry_of-entry-requires
entry_of-entry-requires c =
    let a = c.args in record { issued_bound = number_fits a.d a.a a.rows.now a.place c.requires.welcome; shares_le_quantity = omega arith; priced = priced a.d a.a a.rows.now a.place c.requires.welcome }

pub returns : goal.returns
returns c =
    let a = c.args in
    rests a.d a.a a.rows.now a.place c.requires.welcome c.incoming_order.ensures refl
    c.requires.time_bound c.entry_of-entry.ensures c.issued_fixed.ensures
