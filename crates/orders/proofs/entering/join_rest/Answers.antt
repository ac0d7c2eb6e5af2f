-- `orders::entering::join_rest` meets its contract: nothing joins, or the order that rests is taken in. Assumes nothing.
use mathlib.Core.Path.{refl, ap, ◌∙◌}
use mathlib.Core.Logic.{⊎_elim}
use mathlib.Core.List.{List}
use native.Mathlib.Omega.{arith}
use borrow.Author.Tests.{eqb-false}
use lib.ListN.{length}
use Rattle.model.specs.declared.Order.{Order}
use Rattle.model.specs.Book.{arranged}
use Rattle.orders.proofs.Entered.{join_nothing, join_withdrawn, join_rests}
use Rattle.orders.proofs.entering.join_rest.Goals as goal

pub returns-then-q-eq0 : goal.returns-then-q-eq0
returns-then-q-eq0 c =
    let a = c.args in
    ⊎_elim
    (λ w. join_nothing a.a a.number a.q a.p a.rows.now refl c.requires.ranked.ordered w)
    (λ w.
    join_withdrawn a.a a.number a.q a.p a.rows.now refl c.requires.ranked.ordered
    w.0
    w.1)
    c.then-q-eq0.either

pub take_in-requires : goal.take_in-requires
take_in-requires c =
    record { ranked = c.requires.ranked; fair = c.requires.joins.fair c.if-q-eq0.false (eqb-false c.args.p 0 c.if-p-eq0.false-raw); fact = c.requires.joins.real; rows_in_bounds = omega (arith, c.requires.joins.room) }

pub returns : goal.returns
returns c =
    let a = c.args in
    c.take_in.ensures
    ∙ ap (λ (os : List Order). arranged (length a.rows.now) os)
    (join_rests a.a a.number a.q a.p a.rows.now c.if-q-eq0.false (eqb-false a.p 0 c.if-p-eq0.false-raw))
