-- A desk on which no call gives 15.
use Rattle.std.proofs.Math.Option.{Option, none, some}
use Rattle.model.specs.Session.{Desk}
use Rattle.model.specs.Words.{Sound}

-- no day is open, or the open one is sound
abbrev pub SoundDesk : Option Desk → Type 0
SoundDesk none = Unit {0}
SoundDesk (some s) = Sound s.day s.book
