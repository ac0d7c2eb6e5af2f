-- `orders::entering::order_with` meets its contract: refused by the book or for its trades, or entered. Assumes nothing.
use mathlib.Core.Path.{◌≡◌, refl, sym, ap, ◌∙◌}
use mathlib.Core.List.{◌++◌}
use borrow.Author.Tests.{eqb-false}
use lib.ListN.{length}
use Rattle.model.specs.declared.OrderAnswer.{OrderAnswer}
use Rattle.model.specs.Refusals.{first_of}
use Rattle.model.specs.Calls.{order_rules}
use Rattle.book.specs.Promises.{call_left}
use Rattle.soundness.specs.Ready.{Ready}
use Rattle.soundness.proofs.Readiness.{ready_if}
use Rattle.checks.specs.Checks.{asked_rules, book_rules}
use Rattle.checks.proofs.Refusals.{reference_is_price, earlier_book, asked_price}
use Rattle.orders.proofs.OrderLaws.{
  order_earlier,
  order_list,
  order_none,
  order_refused_lem,
  order_taken,
  order_accepted,
}
use Rattle.orders.proofs.entering.order_with.Goals as goal
use Rattle.orders.proofs.entering.order_with.Goals.{After-book_refusal-refusal, Else-lacks_places, Start}

-- the day is sound
sound : (s : Start) → Ready s.args.d s.args.rows.now
sound s = ready_if s.args.d s.args.rows.now s.requires.rows_value

first :
    (f : After-book_refusal-refusal) →
    f.book_refusal-refusal.result
    ≡ first_of (asked_rules f.args.d f.args.a ++ book_rules f.args.d f.args.a f.args.rows.now)
first f = earlier_book f.args.d f.args.a f.args.rows.now refl f.requires.a_value f.book_refusal-refusal.ensures

pub book_refusal-refusal-requires : goal.book_refusal-refusal-requires
book_refusal-refusal-requires c =
    let a = c.args in
    record { ranked = (sound c).ranked; phase_value = c.requires.phase_value; own_value = c.requires.own_value; other_value = c.requires.other_value; d_value = reference_is_price a.d a.rows.now (sound c); price_value = asked_price a.d a.a a.rows.now refl c.requires.a_value }

pub returns-then-refusal-ne0 : goal.returns-then-refusal-ne0
returns-then-refusal-ne0 c =
    let a = c.args in
    let n = c.if-refusal-ne0.true in
    ap (λ (r : OrderAnswer). call_left r a.rows.now a.trades.now) c.order_refused.ensures
    ∙ order_refused_lem a.d a.a a.rows.now a.trades.now
    (order_earlier a.d a.a a.rows.now (length a.trades.now) c.requires.rows_value (first (goal.at.returns-then-refusal-ne0 c).After-book_refusal-refusal) n)
    n

pub lacks_places-requires : goal.lacks_places-requires
lacks_places-requires c =
    record { ranked = (sound (goal.at.lacks_places-requires c).Start).ranked; phase_value = c.requires.phase_value; own_value = c.requires.own_value; other_value = c.requires.other_value; issued_bound = (sound (goal.at.lacks_places-requires c).Start).sound.issued }

pub returns-then-lacks_places : goal.returns-then-lacks_places
returns-then-lacks_places c =
    let a = c.args in
    ap (λ (r : OrderAnswer). call_left r a.rows.now a.trades.now) c.order_refused-then-lacks_places.ensures
    ∙ order_refused_lem a.d a.a a.rows.now a.trades.now
    (order_list a.d a.a a.rows.now (length a.trades.now) c.requires.rows_value (first (goal.at.returns-then-lacks_places c).After-book_refusal-refusal) c.if-refusal-ne0.false
    (sym c.lacks_places.ensures ∙ c.if-lacks_places.true))
    (eqb-false 13 0 refl)

none : (i : Else-lacks_places) → 0 ≡ first_of (order_rules i.args.d i.args.a i.args.rows.now (length i.args.trades.now))
none i =
    let a = i.args in
    order_none a.d a.a a.rows.now (length a.trades.now) i.requires.rows_value (earlier_book a.d a.a a.rows.now refl i.requires.a_value i.book_refusal-refusal.ensures) i.if-refusal-ne0.false
    (sym i.lacks_places.ensures ∙ i.if-lacks_places.false)

pub enter-requires : goal.enter-requires
enter-requires c =
    let a = c.args in
    record { taken = order_taken a.d a.a a.rows.now a.trades.now (none (goal.at.enter-requires c).Else-lacks_places) refl; phase_value = c.requires.phase_value; own_value = c.requires.own_value; other_value = c.requires.other_value }

pub returns : goal.returns
returns c =
    let a = c.args in
    order_accepted a.d a.a a.rows.now a.trades.now (none (goal.at.returns c).Else-lacks_places) refl c.enter.ensures
