-- A sound desk stays sound, whatever a line asks for: a new day is sound, and every call keeps it so. Assumes nothing.
use mathlib.Core.Path.{◌≡◌, refl}
use mathlib.Core.Bool.{false, and-false}
use mathlib.Core.List.{List}
use mathlib.Core.Option.{Option, none, some}
use Rattle.model.specs.declared.Order.{Order}
use Rattle.model.specs.declared.Day.{Day}
use Rattle.model.specs.declared.Command.{Command}
use Rattle.model.specs.declared.Command.TheVariants.{Malformed, Asks}
use Rattle.model.specs.declared.Event as Event
use Rattle.model.specs.declared.OpenReply as OpenReply
use Rattle.model.specs.Calls.{OpenOutcome, open_call}
use Rattle.model.specs.Session.{Desk, opened, open_answer, clock_answer, order_answer, cancel_answer, on_desk, event_answer, answer, lent_places, lent_trades}
use Rattle.model.specs.Words.{Sound}
use Rattle.demands.proofs.Demands.{keeping}
use Rattle.demands.proofs.Pricings.{not_unsound}
use Rattle.desk.specs.Desks.{not_sound, asks_unsound}
use Rattle.chunks.specs.SoundDesk.{SoundDesk}

-- a desk that is known to be sound would pass the test, whatever is asked of it
tested : (k : Option Desk) → SoundDesk k → not_sound k ≡ false
tested none s = refl
tested (some k) s = not_unsound k.day k.book s

pub never_15 : (c : Command) (k : Option Desk) → SoundDesk k → asks_unsound c k ≡ false
unfolding asks_unsound
never_15 c k s = rw (tested k s, and-false)

opened_sound :
    (r : OpenReply.OpenReply) (book : List Order) (desk : Option Desk)
    → ((d : Day) → r ≡ OpenReply.TheVariants.Opened d → Sound d book)
    → SoundDesk desk
    → SoundDesk (opened (record { reply = r; book = book }) desk)
unfolding opened
opened_sound (OpenReply.TheVariants.Refused n) book desk f s = s
opened_sound (OpenReply.TheVariants.Opened d) book desk f s = f d refl

pub stays_sound : (c : Command) (desk : Option Desk) → SoundDesk desk → SoundDesk (answer c desk).desk
unfolding answer event_answer open_answer on_desk clock_answer order_answer cancel_answer
stays_sound Malformed desk s = s
stays_sound (Asks (Event.TheVariants.Open close mark)) desk s =
    let o : OpenOutcome = open_call close mark lent_places in
    opened_sound o.reply o.book desk (keeping.fresh close mark lent_places) s
stays_sound (Asks (Event.TheVariants.Clock t)) none s = tt
stays_sound (Asks (Event.TheVariants.Clock t)) (some k) s = keeping.clock_kept k.day t k.book lent_trades s
stays_sound (Asks (Event.TheVariants.Order a)) none s = tt
stays_sound (Asks (Event.TheVariants.Order a)) (some k) s = keeping.order_kept k.day a k.book lent_trades s
stays_sound (Asks (Event.TheVariants.Cancel account number)) none s = tt
stays_sound (Asks (Event.TheVariants.Cancel account number)) (some k) s = keeping.cancel_kept k.day account number k.book s
