-- ./floor as a program that answers line by line: its reader, its answers and what it keeps.
use Rattle.model.specs.declared.Command.TheVariants.{Malformed}
use Rattle.text.specs.Readers.{Reader}
use Rattle.text.specs.Answers.{Program}
use Rattle.floors.specs.declared.Wish.{Wish}
use Rattle.floors.specs.declared.Wish.TheVariants.{Says}
use Rattle.floors.specs.Wishes.{line_wish}
use Rattle.floors.specs.Floor.{Floor, wish_answer}

abbrev pub wishes : Reader Wish
wishes = record { asks = line_wish; malformed = Says Malformed }

abbrev pub floor : Program Wish Floor
floor = record { reader = wishes; text = λ w f. (wish_answer w f).text; next = λ w f. (wish_answer w f).floor }
