-- A line that is not of the form is refused with 16, where no day is open too. Assumes nothing.
use mathlib.Core.Path.{◌≡◌, refl}
use mathlib.Core.Option.{none}
use Rattle.model.specs.Lines.{refusal_line}
use Rattle.model.specs.Session.{answer}
use Rattle.model.specs.declared.Command.TheVariants.{Malformed}

pub refused_16 : (answer Malformed none).text ≡ refusal_line 16
unfolding answer
refused_16 = refl
