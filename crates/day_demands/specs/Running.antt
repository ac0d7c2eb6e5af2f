-- Demand 2 over all lists: runs of clock moves, orders and cancels of each book, and declarations, from an accepted opening.
use Rattle.std.specs.Prelude.{ℕ, ◌+◌, ◌*◌, ◌≤◌, ◌<◌, ◌≡◌, List, [], ◌∷◌, ◌++◌, map, length, get_or, take, drop}
use Rattle.model.specs.declared.Order.{Order}
use Rattle.model.specs.declared.Declaration.{Declaration}
use Rattle.model.specs.declared.Asked.{Asked}
use Rattle.model.specs.declared.AskedFixed.{AskedFixed}
use Rattle.model.specs.declared.AskedBlock.{AskedBlock}
use Rattle.model.specs.declared.Trade.{Trade}
use Rattle.model.specs.declared.Day.{Day}
use Rattle.model.specs.declared.OpenReply as OpenReply
use Rattle.model.specs.declared.OrderReply as OrderReply
use Rattle.model.specs.declared.BlockReply as BlockReply
use Rattle.model.specs.declared.CancelReply as CancelReply
use Rattle.model.specs.declared.MoveReply as MoveReply
use Rattle.model.specs.declared.OrderAnswer.{OrderAnswer}
use Rattle.model.specs.Lists.{total, from}
use Rattle.model.specs.Clock.{day_end}
use Rattle.model.specs.Books.{Books, with_fixed, with_blocks}
use Rattle.model.specs.Matching.{filled, first_price, last_price, highest, lowest}
use Rattle.model.specs.Figures.{money, open_price, close_price}
use Rattle.model.specs.Screen.{screen_of}
use Rattle.model.specs.Blocks.{undeclared}
use Rattle.model.specs.Calls.{Outcome, CancelOutcome, order_call, cancel_call}
use Rattle.model.specs.FixedCalls.{fixed_call, fixed_cancel_call}
use Rattle.model.specs.BlockCalls.{BlockOutcome, block_call}
use Rattle.model.specs.AllCalls.{ClockAllOutcome, open_all_call, clock_all_call}
use Rattle.model.specs.Replies.{order_numbers, block_numbers, cancel_numbers, move_numbers}
use Rattle.model.specs.Words.{Each, Some, Apart}
use Rattle.demands.specs.Running.{Owner, Is, owners_by}
use Rattle.day_demands.specs.Keeping.{Kept, with_main}

-- a day and all its lists
pub record WholeDay : Type 0 where
  pub day : Day
  pub books : Books

-- an event, with the trade list that it is lent where it may trade
pub data Event : Type 0 where
  Moves : ℕ → List Trade → Event
  Enters : Asked → List Trade → Event
  Cancels : ℕ → ℕ → Event
  EntersFixed : AskedFixed → List Trade → Event
  CancelsFixed : ℕ → ℕ → Event
  Declares : AskedBlock → List Trade → Event

-- its answer as the paper's numbers: the refusal first, 0 where it is accepted
unfoldable pub answered : Event → WholeDay → List ℕ
answered (Moves t lent) s = move_numbers (clock_all_call s.day t s.books lent).answer.reply
answered (Enters a lent) s = order_numbers (order_call s.day a s.books.main lent).answer.reply
answered (Cancels account number) s = cancel_numbers (cancel_call s.day account number s.books.main).answer.reply
answered (EntersFixed a lent) s = order_numbers (fixed_call s.day a s.books.main s.books.fixed lent).answer.reply
answered (CancelsFixed account number) s =
    cancel_numbers (fixed_cancel_call s.day account number s.books.main s.books.fixed).reply
answered (Declares a lent) s = block_numbers (block_call s.day a s.books.main s.books.blocks lent).answer.reply

-- the day and the lists then: a call of one list leaves the others
unfoldable pub stepped : Event → WholeDay → WholeDay
stepped (Moves t lent) s =
    let o : ClockAllOutcome = clock_all_call s.day t s.books lent in
    record { day = o.answer.day; books = o.books }
stepped (Enters a lent) s =
    let o : Outcome OrderAnswer = order_call s.day a s.books.main lent in
    record { day = o.answer.day; books = with_main o.book s.books }
stepped (Cancels account number) s =
    let o : CancelOutcome = cancel_call s.day account number s.books.main in
    record { day = o.answer.day; books = with_main o.book s.books }
stepped (EntersFixed a lent) s =
    let o : Outcome OrderAnswer = fixed_call s.day a s.books.main s.books.fixed lent in
    record { day = o.answer.day; books = with_fixed o.book s.books }
stepped (CancelsFixed account number) s =
    record {
      day = s.day;
      books = with_fixed (fixed_cancel_call s.day account number s.books.main s.books.fixed).book s.books;
    }
stepped (Declares a lent) s =
    let o : BlockOutcome = block_call s.day a s.books.main s.books.blocks lent in
    record { day = o.answer.day; books = with_blocks o.held s.books }

-- ---- the trades that it made, each series of numbers by itself

pub record Series : Type 0 where
  pub main : List Trade
  pub confirmed : List Trade
  pub fixed : List Trade

-- none of any series
unfoldable pub no_trades : Series
no_trades = record { main = []; confirmed = []; fixed = [] }

-- a move's trades stand in time order: the main book's, the confirmations, those of the fixed-price book; the reply says how many
unfoldable pub moved_by : MoveReply.MoveReply → List Trade → Series
moved_by (MoveReply.TheVariants.Refused n) ts = no_trades
moved_by (MoveReply.TheVariants.Moved m) ts =
    record {
      main = take m.trades ts;
      confirmed = take m.confirmed (drop m.trades ts);
      fixed = take m.fixed (drop (m.trades + m.confirmed) ts);
    }

unfoldable pub traded_by : Event → WholeDay → Series
traded_by (Moves t lent) s =
    let o : ClockAllOutcome = clock_all_call s.day t s.books lent in moved_by o.answer.reply o.trades
traded_by (Enters a lent) s =
    let o : Outcome OrderAnswer = order_call s.day a s.books.main lent in
    record { main = take o.answer.made o.trades; confirmed = []; fixed = [] }
traded_by (Cancels account number) s = no_trades
traded_by (EntersFixed a lent) s =
    let o : Outcome OrderAnswer = fixed_call s.day a s.books.main s.books.fixed lent in
    record { main = []; confirmed = []; fixed = take o.answer.made o.trades }
traded_by (CancelsFixed account number) s = no_trades
traded_by (Declares a lent) s =
    let o : BlockOutcome = block_call s.day a s.books.main s.books.blocks lent in
    record { main = []; confirmed = take o.answer.made o.trades; fixed = [] }

-- ---- whose an accepted order or declaration is

-- the accepted ones of each series
pub record Owners : Type 0 where
  pub main : List Owner
  pub fixed : List Owner
  pub blocks : List Owner

unfoldable pub nobody : Owners
nobody = record { main = []; fixed = []; blocks = [] }

unfoldable pub fixed_owners : AskedFixed → OrderReply.OrderReply → List Owner
fixed_owners a (OrderReply.TheVariants.Refused n) = []
fixed_owners a (OrderReply.TheVariants.Accepted e) =
    record { number = e.number; account = a.account; side = a.side } ∷ []

unfoldable pub block_owners : AskedBlock → BlockReply.BlockReply → List Owner
block_owners a (BlockReply.TheVariants.Refused n) = []
block_owners a (BlockReply.TheVariants.Held number) =
    record { number = number; account = a.account; side = a.side } ∷ []
block_owners a (BlockReply.TheVariants.Confirmed number) =
    record { number = number; account = a.account; side = a.side } ∷ []

unfoldable pub accepted : Event → WholeDay → Owners
accepted (Moves t lent) s = nobody
accepted (Enters a lent) s =
    record { main = owners_by a (order_call s.day a s.books.main lent).answer.reply; fixed = []; blocks = [] }
accepted (Cancels account number) s = nobody
accepted (EntersFixed a lent) s =
    record {
      main = [];
      fixed = fixed_owners a (fixed_call s.day a s.books.main s.books.fixed lent).answer.reply;
      blocks = [];
    }
accepted (CancelsFixed account number) s = nobody
accepted (Declares a lent) s =
    record {
      main = [];
      fixed = [];
      blocks = block_owners a (block_call s.day a s.books.main s.books.blocks lent).answer.reply;
    }

-- ---- what became of fixed-price shares, as the replies tell it

pub record Fate : Type 0 where
  pub entered : ℕ
  pub cancelled : ℕ
  pub void : ℕ
  pub lapsed : ℕ

unfoldable pub nothing : Fate
nothing = record { entered = 0; cancelled = 0; void = 0; lapsed = 0 }

unfoldable pub entered_by : AskedFixed → OrderReply.OrderReply → Fate
entered_by a (OrderReply.TheVariants.Refused n) = nothing
entered_by a (OrderReply.TheVariants.Accepted e) =
    record { entered = a.quantity; cancelled = 0; void = 0; lapsed = 0 }

unfoldable pub cancelled_by : CancelReply.CancelReply → Fate
cancelled_by (CancelReply.TheVariants.Refused n) = nothing
cancelled_by (CancelReply.TheVariants.Withdrawn q) = record { entered = 0; cancelled = q; void = 0; lapsed = 0 }

unfoldable pub ended_by : MoveReply.MoveReply → Fate
ended_by (MoveReply.TheVariants.Refused n) = nothing
ended_by (MoveReply.TheVariants.Moved m) =
    record { entered = 0; cancelled = 0; void = m.void; lapsed = m.lapsed }

unfoldable pub fate_by : Event → WholeDay → Fate
fate_by (Moves t lent) s = ended_by (clock_all_call s.day t s.books lent).answer.reply
fate_by (Enters a lent) s = nothing
fate_by (Cancels account number) s = nothing
fate_by (EntersFixed a lent) s = entered_by a (fixed_call s.day a s.books.main s.books.fixed lent).answer.reply
fate_by (CancelsFixed account number) s =
    cancelled_by (fixed_cancel_call s.day account number s.books.main s.books.fixed).reply
fate_by (Declares a lent) s = nothing

-- ---- a run: its answers, day and lists after it, its trades, its accepted orders, and sums over its events

unfoldable pub answers : List Event → WholeDay → List (List ℕ)
answers [] s = []
answers (e ∷ es) s = answered e s ∷ answers es (stepped e s)

unfoldable pub after : List Event → WholeDay → WholeDay
after [] s = s
after (e ∷ es) s = after es (stepped e s)

unfoldable pub trades_in : (Series → List Trade) → List Event → WholeDay → List Trade
trades_in f [] s = []
trades_in f (e ∷ es) s = f (traded_by e s) ++ trades_in f es (stepped e s)

unfoldable pub accepted_in : (Owners → List Owner) → List Event → WholeDay → List Owner
accepted_in f [] s = []
accepted_in f (e ∷ es) s = f (accepted e s) ++ accepted_in f es (stepped e s)

unfoldable pub shares_in : (Fate → ℕ) → List Event → WholeDay → ℕ
shares_in f [] s = 0
shares_in f (e ∷ es) s = f (fate_by e s) + shares_in f es (stepped e s)

-- what an accepted opening leaves, for any close, mark and places
pub record Fresh (s : WholeDay) : Type 0 where
  pub close : ℕ
  pub mark : ℕ
  pub places : Books
  pub opened : (open_all_call close mark places).reply ≡ OpenReply.TheVariants.Opened s.day
  pub books : (open_all_call close mark places).books ≡ s.books

-- the orders of a book are among the accepted ones of its series, which have the numbers 1, 2, 3 and on, so none is issued twice; and
-- no two rest with one number
pub record Numbered (ws : List Owner) (issued : ℕ) (book : List Order) : Type 0 where
  pub once : map (λ (w : Owner). w.number) ws ≡ from 1 (length ws)
  pub counted : issued ≡ length ws
  pub theirs : Each (λ (o : Order). (o.number ≡ 0 → ⊥) → Some (Is o) ws) book
  pub apart : Apart book

-- one of these is that account's order with this number
abbrev pub Belongs : ℕ → ℕ → List Owner → Type 0
Belongs account number ws = Some (λ (w : Owner). (w.number ≡ number) × (w.account ≡ account)) ws

-- an accepted declaration that a held one may be: the same number, account and side
pub record Was (x : Declaration) (w : Owner) : Type 0 where
  pub number : w.number ≡ x.number
  pub account : w.account ≡ x.account
  pub side : w.side ≡ x.side

-- each held one is one of them
abbrev pub AllWere : List Owner → List Declaration → Type 0
AllWere ws held = Each (λ (x : Declaration). (x.number ≡ 0 → ⊥) → Some (Was x) ws) held

-- and no two are held with one number
abbrev pub HeldOnce : List Declaration → Type 0
HeldOnce held =
    (i j : ℕ)
    → ((get_or held i undeclared).number ≡ 0 → ⊥)
    → (get_or held i undeclared).number ≡ (get_or held j undeclared).number
    → i ≡ j

pub record RunningAll (es : List Event) (s : WholeDay) : Type 0 where
  -- no reply of the run is 15
  pub never_unsound : Each (λ (ns : List ℕ). get_or ns 0 0 ≡ 15 → ⊥) (answers es s)
  pub kept : Kept (after es s).day (after es s).books
  -- each list by itself
  pub main : Numbered (accepted_in (λ w. w.main) es s) (after es s).day.issued (after es s).books.main
  pub fixed : Numbered (accepted_in (λ w. w.fixed) es s) (after es s).day.fixed.issued (after es s).books.fixed
  pub blocks_once :
      map (λ (w : Owner). w.number) (accepted_in (λ w. w.blocks) es s) ≡ from 1 (after es s).day.blocks.issued
  pub blocks_theirs : AllWere (accepted_in (λ w. w.blocks) es s) (after es s).books.blocks
  pub blocks_apart : HeldOnce (after es s).books.blocks
  -- a cancel that is taken after it takes out an order that was accepted for that account
  pub cancels_own :
      (account number shares : ℕ)
      → (cancel_call (after es s).day account number (after es s).books.main).answer.reply
      ≡ CancelReply.TheVariants.Withdrawn shares
      → Belongs account number (accepted_in (λ w. w.main) es s)
  pub fixed_cancels_own :
      (account number shares : ℕ)
      → (fixed_cancel_call (after es s).day account number (after es s).books.main (after es s).books.fixed).reply
      ≡ CancelReply.TheVariants.Withdrawn shares
      → Belongs account number (accepted_in (λ w. w.fixed) es s)
  -- the day's totals are those of the main book's trades; open is the first one's price, close the last one's or the previous close
  pub shares : (after es s).day.shares ≡ filled (trades_in (λ r. r.main) es s)
  pub turnover : (after es s).day.turnover ≡ money (trades_in (λ r. r.main) es s)
  pub opens_at : open_price (after es s).day ≡ first_price 0 (trades_in (λ r. r.main) es s)
  pub closes_at : close_price (after es s).day ≡ last_price (after es s).day.close (trades_in (λ r. r.main) es s)
  -- the screen is a fresh count over the main book, the day and the main book's trades
  pub screen :
      (after es s).day.screen
      ≡ screen_of (after es s).day (after es s).books.main
      (highest (first_price 0 (trades_in (λ r. r.main) es s)) (trades_in (λ r. r.main) es s))
      (lowest (first_price 0 (trades_in (λ r. r.main) es s)) (trades_in (λ r. r.main) es s))
  pub screen_last : (after es s).day.screen.last ≡ last_price 0 (trades_in (λ r. r.main) es s)
  -- fixed-price shares: filled (a trade fills its buyer and its seller), resting, void, cancelled and lapsed add up to what was
  -- entered
  pub adds_up :
      2 * filled (trades_in (λ r. r.fixed) es s)
      + total (λ o. o.left) (after es s).books.fixed
      + shares_in (λ f. f.void) es s
      + shares_in (λ f. f.cancelled) es s
      + shares_in (λ f. f.lapsed) es s
      ≡ shares_in (λ f. f.entered) es s
  -- the fields of their own
  pub fixed_shares : (after es s).day.fixed.shares ≡ filled (trades_in (λ r. r.fixed) es s)
  pub fixed_money : (after es s).day.fixed.money ≡ money (trades_in (λ r. r.fixed) es s)
  pub at_close : Each (λ (t : Trade). t.price ≡ close_price (after es s).day) (trades_in (λ r. r.fixed) es s)
  pub block_shares : (after es s).day.blocks.shares ≡ filled (trades_in (λ r. r.confirmed) es s)
  -- the published totals: up to 15:30 those of the main book, and from then on all
  pub published_before :
      (after es s).day.time < day_end
      → ((after es s).day.screen.shares ≡ filled (trades_in (λ r. r.main) es s))
      × ((after es s).day.screen.turnover ≡ money (trades_in (λ r. r.main) es s))
  pub published_after :
      day_end ≤ (after es s).day.time
      → ((after es s).day.screen.shares
      ≡ filled (trades_in (λ r. r.main) es s)
      + filled (trades_in (λ r. r.fixed) es s)
      + filled (trades_in (λ r. r.confirmed) es s))
      × ((after es s).day.screen.turnover
      ≡ money (trades_in (λ r. r.main) es s) + money (trades_in (λ r. r.fixed) es s))
