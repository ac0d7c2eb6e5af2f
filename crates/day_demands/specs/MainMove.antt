-- A move over all lists does with the main book what that book's own move does, so what is demanded of the one (crate demands) holds of
-- the other: its auctions, what they leave, its halts. Beside that it changes the figures of the other lists, and with them the
-- published totals.
use Rattle.std.specs.Prelude.{ℕ, ◌<◌, ◌≡◌, List, take}
use Rattle.model.specs.declared.Trade.{Trade}
use Rattle.model.specs.declared.Screen.{Screen}
use Rattle.model.specs.declared.Day.{Day}
use Rattle.model.specs.declared.ClockReply as ClockReply
use Rattle.model.specs.declared.ClockAnswer.{ClockAnswer}
use Rattle.model.specs.declared.MoveReply as MoveReply
use Rattle.model.specs.declared.Move.{Move}
use Rattle.model.specs.Books.{Books}
use Rattle.model.specs.Calls.{Outcome}
use Rattle.model.specs.ClockCall.{clock_call}
use Rattle.model.specs.AllCalls.{ClockAllOutcome, clock_all_call}
use Rattle.model.specs.Words.{Sound}
use Rattle.demands.specs.Owning.{Stays}
use Rattle.day_demands.specs.Running.{moved_by}

-- two screens that show the same but for the published totals
pub record ShowsSame (s e : Screen) : Type 0 where
  pub last : e.last ≡ s.last
  pub high : e.high ≡ s.high
  pub low : e.low ≡ s.low
  pub buys : e.buys ≡ s.buys
  pub sells : e.sells ≡ s.sells
  pub price : e.price ≡ s.price
  pub volume : e.volume ≡ s.volume
  pub surplus : e.surplus ≡ s.surplus

-- the main book's figures, its halts and its screen
pub record SameMain (d e : Day) : Type 0 where
  pub close : e.close ≡ d.close
  pub limited : e.limited ≡ d.limited
  pub time : e.time ≡ d.time
  pub issued : e.issued ≡ d.issued
  pub shares : e.shares ≡ d.shares
  pub turnover : e.turnover ≡ d.turnover
  pub first : e.first ≡ d.first
  pub last : e.last ≡ d.last
  pub halt : e.halt ≡ d.halt
  pub used30 : e.used30 ≡ d.used30
  pub used60 : e.used60 ≡ d.used60
  pub screen : ShowsSame d.screen e.screen

-- where the one is accepted, so is the other, with the same phase, trades and book
pub record MainMove (m : Move) (all : ClockAllOutcome) (alone : Outcome ClockAnswer) : Type 0 where
  pub reply : alone.answer.reply ≡ ClockReply.TheVariants.Moved m.phase m.trades
  pub trades : take m.trades all.trades ≡ take alone.answer.made alone.trades
  pub book : all.books.main ≡ alone.book
  pub day : SameMain alone.answer.day all.answer.day

pub record MainMoves : Type 0 where
  pub same :
      (d : Day) (t : ℕ) (s : Books) (lent : List Trade) (m : Move)
      → (clock_all_call d t s lent).answer.reply ≡ MoveReply.TheVariants.Moved m
      → MainMove m (clock_all_call d t s lent) (clock_call d t s.main lent)
  -- up to the close an order that no trade of it names stands as it was; a refused move leaves all of them
  pub stays :
      (d : Day) (t : ℕ) (s : Books) (lent : List Trade)
      → Sound d s.main
      → t < 54_000
      → let o : ClockAllOutcome = clock_all_call d t s lent in Stays (moved_by o.answer.reply o.trades).main s.main o.books.main
