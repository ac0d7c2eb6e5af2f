-- `evenings::moving::clock_all_sound` meets its contract: refused by the time or by the list, else the move is made. Assumes nothing.
use mathlib.Core.Path.{◌≡◌, refl, sym, ap, ◌∙◌}
use mathlib.Core.Logic.{⊎_elim}
use mathlib.Core.Bool.{false}
use lib.ListN.{length}
use borrow.Author.Tests.{eqb-false, lt-ltb, ltb-false}
use Rattle.model.specs.declared.MoveAnswer.{MoveAnswer}
use Rattle.model.specs.Refusals.{first_of, unsound_books}
use Rattle.model.specs.AllCalls.{clock_all_rules}
use Rattle.book.specs.Books.{books_of}
use Rattle.book.specs.Promises.{clock_all_left}
use Rattle.soundness.proofs.Readiness.{ready_if}
use Rattle.fixed_book.proofs.Readiness.{fixed_ready}
use Rattle.blocks.proofs.Readiness.{blocks_ready}
use Rattle.evenings.specs.Stage.{Movable}
use Rattle.evenings.proofs.MoveLaws.{books_sound, move_late, move_back, move_list, move_none, move_refused_lem}
use Rattle.evenings.proofs.moving.clock_all_sound.Goals as goal
use Rattle.evenings.proofs.moving.clock_all_sound.Goals.{Else-time-d, Joined-then-time-gt-LAST_SECOND, Start}

-- the lists are sound
sound : (s : Start) → unsound_books s.args.d (books_of s.args.main.now s.args.fixed.now s.args.blocks.now) ≡ false
sound s =
    books_sound s.args.d s.args.time (books_of s.args.main.now s.args.fixed.now s.args.blocks.now) 0 s.requires.main_value s.requires.fixed_value s.requires.blocks_value

-- where 1 is given, it is the first rule
untimely : (c : Joined-then-time-gt-LAST_SECOND) → 1 ≡ first_of (clock_all_rules c.args.d c.args.time (books_of c.args.main.now c.args.fixed.now c.args.blocks.now) (length c.args.trades.now))
untimely c =
    let a = c.args in
    let lists = books_of a.main.now a.fixed.now a.blocks.now in
    let sound = books_sound a.d a.time lists 0 c.requires.main_value c.requires.fixed_value c.requires.blocks_value in
    ⊎_elim (λ w. move_late a.d a.time lists (length a.trades.now) sound w)
    (λ w. move_back a.d a.time lists (length a.trades.now) sound w.0 (lt-ltb _ _ w.1))
    c.then-time-gt-LAST_SECOND.either

movable : (timely : Else-time-d) → Movable timely.args.d timely.args.main.now timely.args.fixed.now timely.args.blocks.now timely.args.time
movable timely =
    let a = timely.args in
    record {
      ready = ready_if a.d a.main.now timely.requires.main_value;
      lined = (fixed_ready a.d a.main.now a.fixed.now timely.requires.main_value timely.requires.fixed_value).lined;
      declared = (blocks_ready a.d a.main.now a.blocks.now timely.requires.main_value timely.requires.blocks_value).declared;
      onward = timely.if-time-d.false;
      time = timely.if-time-gt-LAST_SECOND.false;
    }

pub returns-then-time-gt-LAST_SECOND : goal.returns-then-time-gt-LAST_SECOND
returns-then-time-gt-LAST_SECOND c =
    let a = c.args in
    ap (λ (r : MoveAnswer). clock_all_left r a.main.now a.fixed.now a.blocks.now a.trades.now) c.move_refused.ensures
    ∙ move_refused_lem a.d a.time a.main.now a.fixed.now a.blocks.now a.trades.now (untimely (goal.at.returns-then-time-gt-LAST_SECOND c).Joined-then-time-gt-LAST_SECOND) (eqb-false 1 0 refl)

pub lacks_places-requires : goal.lacks_places-requires
lacks_places-requires c =
    let m = movable c in
    record { ready = m.ready; lined = m.lined; declared = m.declared; time_le_time = m.onward }

pub returns-then-lacks_places : goal.returns-then-lacks_places
returns-then-lacks_places c =
    let a = c.args in
    ap (λ (r : MoveAnswer). clock_all_left r a.main.now a.fixed.now a.blocks.now a.trades.now) c.move_refused-then-lacks_places.ensures
    ∙ move_refused_lem a.d a.time a.main.now a.fixed.now a.blocks.now a.trades.now
    (move_list a.d a.time (books_of a.main.now a.fixed.now a.blocks.now) (length a.trades.now) (sound (goal.at.returns-then-lacks_places c).Start) c.if-time-gt-LAST_SECOND.false c.if-time-d.false-raw
    (sym c.lacks_places.ensures ∙ c.if-lacks_places.true))
    (eqb-false 13 0 refl)

pub move_lists-requires : goal.move_lists-requires
move_lists-requires c =
    record { movable = movable (goal.at.move_lists-requires c).Else-time-d; blocks_in_bounds = ltb-false _ _ (sym c.lacks_places.ensures ∙ c.if-lacks_places.false) }

pub returns : goal.returns
returns c =
    let a = c.args in
    c.move_lists.ensures
    (move_none a.d a.time (books_of a.main.now a.fixed.now a.blocks.now) (length a.trades.now) (sound (goal.at.returns c).Start) c.if-time-gt-LAST_SECOND.false c.if-time-d.false-raw
    (sym c.lacks_places.ensures ∙ c.if-lacks_places.false))
