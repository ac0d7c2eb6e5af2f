-- A day that is sound but for its screen, which is counted at an event's end: in the middle of an event, and when it is updated.
-- Assumes nothing.
use mathlib.Core.Path.{◌≡◌, refl}
use mathlib.Core.Bool.{true}
use mathlib.Core.List.{List}
use native.Mathlib.Omega.{arith}
use Rattle.model.specs.declared.Order.{Order}
use Rattle.model.specs.declared.Trade.{Trade}
use Rattle.model.specs.declared.Day.{Day}
use Rattle.model.specs.Screen.{update}
use Rattle.model.specs.Sound.{has_places, screen_fits}
use Rattle.model.specs.Words.{Ordered, Sound}
use Rattle.book.specs.Standing.{Ranked}
use Rattle.soundness.specs.SoundDay.{SoundDay, HaltDay, EveningDay}
use Rattle.soundness.proofs.SoundDays.{sound_day, sound_ordered, sound_halt, sound_evening, day_stands, day_sound, few_places}
use Rattle.demands.proofs.Wholes.{whole_of, timely_of, sound_of}
use Rattle.demands.proofs.SameFigures.{same_update, same_whole}
use Rattle.demands.proofs.Evenings.{evening_later}

pub record BeforeScreen (d : Day) (book : List Order) : Type 0 where
  pub places : has_places book ≡ true
  pub day : SoundDay d book
  pub ordered : Ordered book
  pub halt : HaltDay d
  pub evening : EveningDay d

module _ (d : Day) (book : List Order) where
  pub before_of : Sound d book → BeforeScreen d book
  before_of s =
      record {
        places = s.0;
        day = sound_day d book s.1;
        ordered = sound_ordered d book s.1;
        halt = sound_halt d book s.1;
        evening = sound_evening d book s.1;
      }

  pub before_ranked : BeforeScreen d book → Ranked book
  before_ranked b =
      record { stands = day_stands d book b.day; few = few_places book b.places; ordered = b.ordered }

  pub then_sound : BeforeScreen d book → screen_fits d book ≡ true → Sound d book
  then_sound b f = (b.places, day_sound d book b.day b.ordered f b.halt b.evening)

-- nothing of it reads the screen
module _ (ts : List Trade) (counted : List Order) (d : Day) where
  halt_updated : HaltDay d → HaltDay (update ts counted d)
  unfolding update
  halt_updated k =
      record {
        thirty = k.thirty;
        sixty = k.sixty;
        ahead = k.ahead;
        led = k.led;
        thirty_first = k.thirty_first;
        uses = k.uses;
        unlimited = k.unlimited;
      }

  evening_updated : EveningDay d → EveningDay (update ts counted d)
  unfolding update
  evening_updated v = evening_later d (update ts counted d) refl refl v refl refl (omega arith)

  day_updated : (book : List Order) → SoundDay d book → SoundDay (update ts counted d) book
  unfolding update
  day_updated book s =
      sound_of (update ts counted d) book (same_whole d (update ts counted d) (same_update ts counted d) book (whole_of d book s)) (timely_of d book s)

  pub before_updated : (book : List Order) → BeforeScreen d book → BeforeScreen (update ts counted d) book
  before_updated book b =
      record {
        places = b.places;
        day = day_updated book b.day;
        ordered = b.ordered;
        halt = halt_updated b.halt;
        evening = evening_updated b.evening;
      }
