-- Refused, or the one order is taken out and those behind it move up.
use mathlib.Core.Path.{◌≡◌, refl, sym, ◌∙◌}
use mathlib.Core.Bool.{true}
use Prim.Native.Nat.{◌<◌}
use native.Mathlib.Omega.{arith}
use lib.ListN.{length}
use borrow.Author.Tests.{eqb-false}
use Rattle.model.specs.Clock.{long_hours}
use Rattle.model.specs.Book.{free}
use Rattle.book.specs.Places.{place_of}
use Rattle.book.proofs.Finding.{no_place, its_place}
use Rattle.fixed_calls.proofs.Cancels.{shut, unknown, cancel_refused_lem, cancelled, leaves_tidy}
use Rattle.fixed_calls.proofs.fixed_cancel_sound.Goals as goal
use Rattle.fixed_calls.proofs.fixed_cancel_sound.Goals.{Else-not-long_hours, In-Some}

pub returns-then-not-long_hours : goal.returns-then-not-long_hours
returns-then-not-long_hours c main u =
    let a = c.args in
    cancel_refused_lem a.d a.account a.number main a.rows.now
    (shut a.d a.account a.number main a.rows.now u c.requires.sound (sym c.long_hours.ensures ∙ c.if-not-long_hours.true))
    (eqb-false 19 0 refl)

-- past the first test the hours are open
open-hours : (c : Else-not-long_hours) → long_hours c.args.d.time ≡ true
open-hours c = sym c.long_hours.ensures ∙ c.if-not-long_hours.false

pub returns-in_default : goal.returns-in_default
returns-in_default c main u =
    let a = c.args in
    let p = sym (no_place a.account a.number a.rows.now (sym c.in_default.is ∙ c.place_of.ensures)) in
    cancel_refused_lem a.d a.account a.number main a.rows.now
    (unknown a.d a.account a.number main a.rows.now u c.requires.sound (open-hours (goal.at.returns-in_default c).Else-not-long_hours) p (omega arith))
    (eqb-false 12 0 refl)

-- the place is the account's order's
its : (c : In-Some) → (c.in-Some.place < length c.args.rows.now) × (c.in-Some.place ≡ place_of c.args.account c.args.number c.args.rows.now)
its c = its_place c.args.account c.args.number c.args.rows.now (sym c.in-Some.is ∙ c.place_of.ensures)

pub slice_copy_out-own : goal.slice_copy_out-own
slice_copy_out-own c = (its (goal.at.slice_copy_out-own c).In-Some).0

pub line_up-requires : goal.line_up-requires
line_up-requires c =
    let a = c.args in
    leaves_tidy a.d a.account a.number a.rows.now a.rows.now _ c.requires.lined c.free_place.ensures refl

pub returns : goal.returns
unfolding free
returns c main u =
    let a = c.args in
    let p = its (goal.at.returns c).In-Some in
    cancelled a.d a.account a.number main a.rows.now u c.requires.sound (open-hours (goal.at.returns c).Else-not-long_hours) p.1
    c.line_up.new.rows c.requires.lined p.0 refl c.free_place.ensures
    refl c.line_up.ensures
