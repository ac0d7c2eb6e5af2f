-- A move of the clock over all lists, as plain equations. Its main part is the main book's own move; beside that it confirms blocks
-- at 15:00, matches fixed-price orders at 15:05 and lets the rest of both lapse at 15:30, each where it passes that second. Where there
-- is no fixed-price order and no declaration, it is the main book's move alone.
use Rattle.std.specs.Prelude.{ℕ, ◌+◌, ◌≤◌, ◌<◌, ◌≡◌, ◌⊎◌, true, not, List, [], length}
use Rattle.model.specs.declared.Order.{Order}
use Rattle.model.specs.declared.Declaration.{Declaration}
use Rattle.model.specs.declared.Trade.{Trade}
use Rattle.model.specs.declared.Day.{Day}
use Rattle.model.specs.declared.ClockReply as ClockReply
use Rattle.model.specs.declared.ClockAnswer.{ClockAnswer}
use Rattle.model.specs.declared.MoveReply as MoveReply
use Rattle.model.specs.Lists.{keep, total}
use Rattle.model.specs.Clock.{confirming_from, matching_from, day_end}
use Rattle.model.specs.Book.{free}
use Rattle.model.specs.Books.{Books}
use Rattle.model.specs.Matching.{filled, settle}
use Rattle.model.specs.Figures.{money, close_price, with_fixed_figures, with_block_figures}
use Rattle.model.specs.Auction.{shares_of}
use Rattle.model.specs.FixedBook.{is_void, matches, lined}
use Rattle.model.specs.Blocks.{undeclared, confirmations, unnamed, held_in, none_held}
use Rattle.model.specs.Sound.{has_places}
use Rattle.model.specs.Calls.{Outcome, cleared}
use Rattle.model.specs.ClockCall.{Held, moved, clock_call}
use Rattle.model.specs.AfterClose.{After}
use Rattle.model.specs.AllCalls.{ClockAllOutcome, moved_on, clock_all_call}
use Rattle.model.specs.Words.{Each}

-- ---- the main book's part

-- the main book, its trades and every figure but those of the other two lists are as the main book's own move leaves them
pub record MainPart (m : Held) (h : After) : Type 0 where
  pub book : h.books.main ≡ m.book
  pub trades : h.auctions ≡ m.trades
  pub day : h.day ≡ with_fixed_figures h.day.fixed (with_block_figures h.day.blocks m.day)

-- ---- the other lists

-- a move from the old to the new time passes this second, or it does not
pub record Passes (c old new : ℕ) : Type 0 where
  pub before : old < c
  pub reached : c ≤ new

abbrev pub Misses : ℕ → ℕ → ℕ → Type 0
Misses c old new = (new < c) ⊎ (c ≤ old)

-- the orders that are not void at this close, their trades, and the places then
abbrev pub valid : ℕ → List Order → List Order
valid close book = keep (λ o. not (is_void close o)) book

abbrev pub matched_trades : ℕ → List Order → List Trade
matched_trades close book = matches close (valid close book)

abbrev pub matched_book : ℕ → List Order → List Order
matched_book close book = lined (length book) (settle (matched_trades close book) (valid close book))

-- the declarations that no confirmation names
abbrev pub confirmed_held : List Declaration → List Declaration
confirmed_held held = held_in (length held) (unnamed (confirmations held) held)

-- 15:00
pub record ConfirmedNow (d : Day) (held : List Declaration) (h : After) : Type 0 where
  pub trades : h.confirmed ≡ confirmations held
  pub figures : h.day.blocks ≡ record { issued = d.blocks.issued; shares = d.blocks.shares + filled (confirmations held) }

pub record NoneConfirmed (d : Day) (h : After) : Type 0 where
  pub trades : h.confirmed ≡ []
  pub figures : h.day.blocks ≡ d.blocks

-- 15:05, at this close
pub record MatchedNow (close : ℕ) (d : Day) (book : List Order) (h : After) : Type 0 where
  pub trades : h.fixed ≡ matched_trades close book
  pub void : h.void ≡ shares_of (is_void close) book
  pub figures :
      h.day.fixed
      ≡ record {
        issued = d.fixed.issued;
        shares = d.fixed.shares + filled (matched_trades close book);
        money = d.fixed.money + money (matched_trades close book);
      }

pub record NoneMatched (d : Day) (h : After) : Type 0 where
  pub trades : h.fixed ≡ []
  pub void : h.void ≡ 0
  pub figures : h.day.fixed ≡ d.fixed

-- 15:30: every place of both lists becomes free, and the fixed-price shares that were left are counted
pub record LapsedNow (book : List Order) (held : List Declaration) (before : List Order) (h : After) : Type 0 where
  pub fixed : h.books.fixed ≡ cleared book
  pub blocks : h.books.blocks ≡ none_held held
  pub lapsed : h.lapsed ≡ total (λ (o : Order). o.left) before

-- what a move does at each of the three seconds, where it passes it, and that it does nothing where it does not
pub record Evening (d : Day) (t : ℕ) (s : Books) (h : After) : Type 0 where
  pub confirmed : Passes confirming_from d.time t → ConfirmedNow d s.blocks h
  pub unconfirmed : Misses confirming_from d.time t → NoneConfirmed d h
  pub matched : Passes matching_from d.time t → MatchedNow (close_price (moved d t s.main).day) d s.fixed h
  pub unmatched : Misses matching_from d.time t → NoneMatched d h
  -- 15:30: what was left after 15:05, or what stood in the book where 15:05 is not passed
  pub lapsed_matched :
      Passes matching_from d.time t
      → Passes day_end d.time t
      → LapsedNow s.fixed s.blocks (matched_book (close_price (moved d t s.main).day) s.fixed) h
  pub lapsed : Misses matching_from d.time t → Passes day_end d.time t → LapsedNow s.fixed s.blocks s.fixed h
  -- the lists of a move that does not pass 15:30
  pub unlapsed : Misses day_end d.time t → h.lapsed ≡ 0
  pub fixed_then :
      Passes matching_from d.time t
      → Misses day_end d.time t
      → h.books.fixed ≡ matched_book (close_price (moved d t s.main).day) s.fixed
  pub fixed_same : Misses matching_from d.time t → Misses day_end d.time t → h.books.fixed ≡ s.fixed
  pub blocks_then : Passes confirming_from d.time t → Misses day_end d.time t → h.books.blocks ≡ confirmed_held s.blocks
  pub blocks_same : Misses confirming_from d.time t → Misses day_end d.time t → h.books.blocks ≡ s.blocks

-- ---- the main book alone

-- the main book's reply, as a reply over all lists
unfoldable pub alone_reply : ClockReply.ClockReply → MoveReply.MoveReply
alone_reply (ClockReply.TheVariants.Refused n) = MoveReply.TheVariants.Refused n
alone_reply (ClockReply.TheVariants.Moved phase trades) =
    MoveReply.TheVariants.Moved
    (record { phase = phase; trades = trades; confirmed = 0; fixed = 0; void = 0; lapsed = 0 })

-- the call over all lists answers as the main book's does, and leaves the other two lists
pub record Alike (s : Books) (a : ClockAllOutcome) (c : Outcome ClockAnswer) : Type 0 where
  pub reply : a.answer.reply ≡ alone_reply c.answer.reply
  pub made : a.answer.made ≡ c.answer.made
  pub day : a.answer.day ≡ c.answer.day
  pub main : a.books.main ≡ c.book
  pub fixed : a.books.fixed ≡ s.fixed
  pub blocks : a.books.blocks ≡ s.blocks
  pub trades : a.trades ≡ c.trades

pub record Alone (d : Day) (t : ℕ) (s : Books) (lent : List Trade) : Type 0 where
  pub confirmed : (moved_on d t s).confirmed ≡ []
  pub fixed : (moved_on d t s).fixed ≡ []
  pub void : (moved_on d t s).void ≡ 0
  pub lapsed : (moved_on d t s).lapsed ≡ 0
  pub alike : Alike s (clock_all_call d t s lent) (clock_call d t s.main lent)

pub record Moving : Type 0 where
  pub main_part : (d : Day) (t : ℕ) (s : Books) → MainPart (moved d t s.main) (moved_on d t s)
  pub evening : (d : Day) (t : ℕ) (s : Books) → d.time ≤ t → Evening d t s (moved_on d t s)
  -- with no fixed-price order and no declaration
  pub alone :
      (d : Day) (t : ℕ) (s : Books) (lent : List Trade)
      → has_places s.fixed ≡ true
      → has_places s.blocks ≡ true
      → Each (λ o. o ≡ free) s.fixed
      → Each (λ x. x ≡ undeclared) s.blocks
      → Alone d t s lent
