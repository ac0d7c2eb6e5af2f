-- As ./run answers it; the claims stay, but after a new day none is noted. Assumes nothing.
use Rattle.chunks.proofs.SoundDesks.{never_15}
use Rattle.floor_desk.proofs.Wishes.{said_leaves}
use Rattle.floor_desk.proofs.answering.answer_said.Goals as goal

pub answer_command-a-requires : goal.answer_command-a-requires
answer_command-a-requires c =
    let s = c.requires in
    (s.0, s.1, s.3, never_15 _ _ s.4)

pub returns : goal.returns
returns c =
    said_leaves c.args.desk c.args.rows.now c.args.claims.now c.args.noted c.requires.2 c.args.c _ c.answer_command-a.ensures c.noted_after-kept.ensures
