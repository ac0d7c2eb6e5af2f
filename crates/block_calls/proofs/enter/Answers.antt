-- Held, refused by the lent list, or confirmed.
use mathlib.Core.Path.{refl, sym, ap, ◌∙◌}
use native.Mathlib.Omega.{arith}
use lib.ListN.{get_or, set}
use borrow.Author.Tests.{eqb-false}
use Rattle.model.specs.declared.Declaration.{Declaration}
use Rattle.model.specs.declared.BlockAnswer.{BlockAnswer}
use Rattle.book.specs.Promises.{block_left}
use Rattle.held.specs.Meeting.{earliest, joining}
use Rattle.block_entries.specs.Entries.{confirmed_answer}
use Rattle.blocks.proofs.Newcomers.{new_quantity}
use Rattle.block_calls.proofs.Refusing.{asked_well}
use Rattle.block_calls.proofs.Declaring.{block_refused_lem, held_early, held_late, fits_there, lacks_room, confirmed_outcome}
use Rattle.block_calls.proofs.enter.Goals as goal
use Rattle.model.specs.Blocks.{undeclared}

pub declaration_of-x-requires : goal.declaration_of-x-requires
declaration_of-x-requires c = omega (arith, c.requires.taken.number)

pub hold-requires : goal.hold-requires
hold-requires c =
    record { issued_bound = omega (arith, c.requires.taken.number); free_in_bounds = omega (arith, c.requires.taken.room) }

pub returns-then-d-lt-CONFIRMING_FROM : goal.returns-then-d-lt-CONFIRMING_FROM
returns-then-d-lt-CONFIRMING_FROM c = λ main u.
    let a = c.args in
    let rows' = c.hold.new.rows in
    ap (λ (r : BlockAnswer). block_left r rows' a.trades.now) c.hold.ensures.value
    ∙ held_early a.d a.a main a.rows.now a.trades.now u c.requires.blocks_ready c.requires.taken rows' c.if-d-lt-CONFIRMING_FROM.true
    (c.hold.ensures.rows_after ∙ ap (λ (y : Declaration). set a.rows.now a.free y) c.declaration_of-x.ensures)

pub hold-requires-in_default : goal.hold-requires-in_default
hold-requires-in_default c =
    record { issued_bound = omega (arith, c.requires.taken.number); free_in_bounds = omega (arith, c.requires.taken.room) }

pub returns-in_default : goal.returns-in_default
returns-in_default c = λ main u.
    let a = c.args in
    let rows' = c.hold-in_default.new.rows in
    ap (λ (r : BlockAnswer). block_left r rows' a.trades.now) c.hold-in_default.ensures.value
    ∙ held_late a.d a.a main a.rows.now a.trades.now u c.requires.blocks_ready c.requires.taken c.if-d-lt-CONFIRMING_FROM.false
    (sym c.in_default.ensures ∙ ap (λ (y : Declaration). earliest y a.rows.now) c.declaration_of-x.ensures)
    rows' (omega arith)
    (c.hold-in_default.ensures.rows_after ∙ ap (λ (y : Declaration). set a.rows.now a.free y) c.declaration_of-x.ensures)

pub returns-then-trades-eq0 : goal.returns-then-trades-eq0
returns-then-trades-eq0 c = λ main u.
    let a = c.args in
    ap (λ (r : BlockAnswer). block_left r a.rows.now a.trades.now) c.block_refused.ensures
    ∙ block_refused_lem a.d a.a main a.rows.now a.trades.now
    (lacks_room a.d a.a main a.rows.now a.trades.now u c.requires.blocks_ready c.requires.taken c.if-d-lt-CONFIRMING_FROM.false
    (c.in-Some.ensures.1 ∙ ap (λ (y : Declaration). earliest y a.rows.now) c.declaration_of-x.ensures)
    c.in-Some.ensures.0 c.if-trades-eq0.true)
    (eqb-false 13 0 refl)

pub confirm-requires : goal.confirm-requires
confirm-requires c =
    let a = c.args in
    let q = new_quantity a.d a.a (asked_well a.d a.a c.requires.taken.asked).size in record {
      confirmable = record {
        issued = c.requires.blocks_ready.issued;
        shares = omega (arith, c.requires.blocks_ready.issued, c.requires.blocks_ready.bound, q, ap (λ (y : Declaration). y.quantity) c.declaration_of-x.ensures);
      };
      place_in_bounds = c.in-Some.ensures.0;
      place_value = fits_there c.declaration_of-x.result a.rows.now c.in-Some.ensures.1 c.in-Some.ensures.0;
    }

pub returns : goal.returns
returns c = λ main u.
    let a = c.args in
    let rows' = c.confirm.new.rows in
    let trades' = c.confirm.new.trades in
    let y = get_or a.rows.now c.in-Some.place undeclared in
    ap (λ (r : BlockAnswer). block_left r rows' trades')
    (c.confirm.ensures.value ∙ ap (λ (z : Declaration). confirmed_answer a.d z y) c.declaration_of-x.ensures)
    ∙ confirmed_outcome a.d a.a main a.rows.now a.trades.now u c.requires.blocks_ready c.requires.taken c.if-d-lt-CONFIRMING_FROM.false
    (c.in-Some.ensures.1 ∙ ap (λ (z : Declaration). earliest z a.rows.now) c.declaration_of-x.ensures)
    c.in-Some.ensures.0 rows' trades' c.if-trades-eq0.false
    (c.confirm.ensures.trades_after ∙ ap (λ (z : Declaration). set a.trades.now 0 (joining z y)) c.declaration_of-x.ensures)
    c.confirm.ensures.rows_after
