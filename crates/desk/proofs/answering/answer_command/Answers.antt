-- A malformed line is 16; any other is the answer to what it asks for. Assumes nothing.
use mathlib.Core.Path.{refl}
use native.Mathlib.Omega.{arith}
use Rattle.desk.specs.Desks.{desk_of}
use Rattle.desk.proofs.Answers.{asked_sound, no_line, as_asked}
use borrow.Author.Rules.{rules}
use Rattle.desk.proofs.answering.answer_command.Goals as goal

pub answer_event-requires : goal.answer_event-requires
answer_event-requires c =
    let k = asked_sound (desk_of c.args.desk c.args.rows.now) c.in-Asks.is c.requires.3 in
    (search rules, search rules, search rules, k)

pub returns-in-Malformed : goal.returns-in-Malformed
returns-in-Malformed c =
    let s = c.args in
    let r = c.refuse in
    as_asked c.in-Malformed.is
    (record {
      leaves = no_line s.desk s.rows.now _ (omega arith) r.ensures.0 r.ensures.1;
      list = refl;
    })

pub returns-in-Asks : goal.returns-in-Asks
returns-in-Asks c =
    as_asked c.in-Asks.is c.answer_event.ensures
