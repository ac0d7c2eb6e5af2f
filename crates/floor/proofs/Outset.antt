-- Before anything is read no day is open and no claim is noted: the memory holds just that, and a line that is not of the form is refused
-- with 16. Assumes nothing.
use Prim.Native.Nat.{ℕ}
use mathlib.Core.Path.{◌≡◌, refl}
use mathlib.Core.Bool.{false}
use mathlib.Core.List.{List}
use Rattle.model.specs.declared.Command.TheVariants.{Malformed}
use Rattle.model.specs.Lines.{refusal_line}
use Rattle.model.specs.Session.{answer}
use Rattle.text.proofs.Turns.{at_outset}
use Rattle.desk.specs.declared.Desk.TheVariants.{Closed}
use Rattle.floors.specs.declared.Wish.TheVariants.{Says}
use Rattle.floors.specs.Floor.{command_answer, wish_answer, no_floor}
use Rattle.wishes.specs.Wishes.{floor}
use Rattle.floor_chunks.proofs.SoundFloors.{SoundFloor}
use Rattle.floor.specs.Serving.{Reached}
use Rattle.model.specs.declared.Order.{Order}
use Rattle.judge.specs.declared.Claim.{Claim}

pub refused_16 : (wish_answer (Says Malformed) no_floor).text ≡ refusal_line 16
unfolding answer command_answer wish_answer no_floor
refused_16 = refl

pub first_sound : SoundFloor no_floor
unfolding no_floor
first_sound = tt

pub at_first :
    (rows : List Order) (claims : List Claim) (buf : List ℕ)
    → Reached rows claims buf (record { desk = Closed; noted = 0; kept = 0; long = false; stops = false })
unfolding no_floor
at_first rows claims buf = at_outset floor no_floor buf
