-- A sound day stays sound, whatever a line of ./floor asks for: a question changes neither day nor book. Assumes nothing.
use mathlib.Core.Path.{sym, subst}
use Rattle.chunks.specs.SoundDesk.{SoundDesk}
use Rattle.chunks.proofs.SoundDesks.{stays_sound}
use Rattle.floors.specs.declared.Wish.{Wish}
use Rattle.floors.specs.declared.Wish.TheVariants.{Says, Wants}
use Rattle.floors.specs.Floor.{Floor, command_answer, wish_answer}
use Rattle.floors.proofs.Beside.{desk_stays}

abbrev pub SoundFloor : Floor → Type 0
SoundFloor f = SoundDesk f.desk

pub floor_sound : (w : Wish) (f : Floor) → SoundFloor f → SoundFloor (wish_answer w f).floor
unfolding wish_answer command_answer
floor_sound (Says c) f s = stays_sound c f.desk s
floor_sound (Wants q) f s = subst SoundDesk (sym (desk_stays q f)) s
