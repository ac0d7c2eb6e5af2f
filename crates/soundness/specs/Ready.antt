-- What a call may use once its day has passed the test: the facts of a sound day, of its halt and of its other figures, and that its
-- book stands in order.
use Rattle.std.specs.Prelude.{List}
use Rattle.model.specs.declared.Order.{Order}
use Rattle.model.specs.declared.Day.{Day}
use Rattle.book.specs.Standing.{Ranked}
use Rattle.soundness.specs.SoundDay.{SoundDay, HaltDay, EveningDay}

pub record Ready (d : Day) (book : List Order) : Type 0 where
  pub sound : SoundDay d book
  pub ranked : Ranked book
  pub halt : HaltDay d
  pub evening : EveningDay d
