-- What a move after the close has reached, in memory.
use Rattle.std.specs.Prelude.{ℕ, ◌+◌, ◌*◌, ◌≤◌, ◌≡◌, List, [], length, take, drop}
use Rattle.model.specs.declared.Order.{Order}
use Rattle.model.specs.declared.Declaration.{Declaration}
use Rattle.model.specs.declared.Day.{Day}
use Rattle.model.specs.declared.MoveAnswer.{MoveAnswer}
use Rattle.model.specs.declared.MoveReply.TheVariants.{Moved}
use Rattle.model.specs.Figures.{close_price, at}
use Rattle.model.specs.Halts.{phase_now}
use Rattle.model.specs.Screen.{update}
use Rattle.model.specs.AfterClose.{After}
use Rattle.model.specs.AllCalls.{move_trades}
use Rattle.soundness.specs.Ready.{Ready}
use Rattle.declarations.specs.Declared.{Declared}
use Rattle.fixed_book.specs.Ready.{Lined}
use Rattle.evenings.specs.declared.Evening.{Evening}
use Rattle.evenings.specs.Counts.{confirmed_ahead}
use Rattle.model.specs.declared.Trade.{Trade}

-- the state h stands in memory, and past its trades the lent list is as it was
pub record Stage (h : After) (lent : List Trade) (e : Evening) (line : List Order) (places : List Declaration) (trades : List Trade) : Type 0 where
  pub day : e.day ≡ h.day
  pub orders : line ≡ h.books.fixed
  pub held : places ≡ h.books.blocks
  pub confirmed : e.confirmed ≡ length h.confirmed
  pub fixed : e.fixed ≡ length h.fixed
  pub void : e.void ≡ h.void
  pub lapsed : e.lapsed ≡ h.lapsed
  pub list : (take e.made trades) ≡ move_trades h
  pub within : e.made ≤ length trades
  pub past : drop e.made trades ≡ drop e.made lent

-- no fixed-price trade yet
pub record Unmatched (h : After) : Type 0 where
  pub fixed : h.fixed ≡ []

-- and no confirmation either
pub record Unconfirmed (h : After) : Type 0 where
  pub confirmed : h.confirmed ≡ []
  pub fixed : h.fixed ≡ []

-- the fixed-price figures have room for the trades of 4,096 orders at the close
pub record Spacious (d : Day) : Type 0 where
  pub shares : d.fixed.shares ≤ 500_000_000_000
  pub money : d.fixed.money ≤ 999_999 * d.fixed.shares
  pub close : close_price d ≤ 999_999

-- what 15:00 leaves for 15:05: the fixed-price figures and the close as they were, and so many trades
pub record Threefold (e : Evening) (day : Day) (then old new : ℕ) (held : List Declaration) : Type 0 where
  pub fixed : day.fixed ≡ e.day.fixed
  pub close : close_price day ≡ close_price e.day
  pub made : then ≡ e.made + confirmed_ahead old new held

-- what a move that no rule refuses may use
pub record Movable (d : Day) (main line : List Order) (held : List Declaration) (t : ℕ) : Type 0 where
  pub ready : Ready d main
  pub lined : Lined line
  pub declared : Declared held
  pub onward : d.time ≤ t
  pub time : t ≤ 86_399

-- the answer of a move: the first of its trades are those of the main book
unfoldable pub answered : Evening → List Order → List Trade → ℕ → ℕ → MoveAnswer
answered e book trades auctions time =
    record {
      reply =
          Moved
          (record {
            phase = phase_now (at time e.day);
            trades = auctions;
            confirmed = e.confirmed;
            fixed = e.fixed;
            void = e.void;
            lapsed = e.lapsed;
          });
      made = e.made;
      day = update (take auctions trades) book (at time e.day);
    }
