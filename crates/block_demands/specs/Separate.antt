-- Block trades by themselves: a declaration leaves all of the day but the figures of block trades, a move does to the two books what it
-- would do with other declarations, and the confirmed shares join the published shares at 15:30 and nothing else.
use Rattle.std.specs.Prelude.{ℕ, suc, ◌+◌, ◌≤◌, ◌<◌, ◌≡◌, List, length, take}
use Rattle.model.specs.declared.Order.{Order}
use Rattle.model.specs.declared.AskedBlock.{AskedBlock}
use Rattle.model.specs.declared.Declaration.{Declaration}
use Rattle.model.specs.declared.Trade.{Trade}
use Rattle.model.specs.declared.Screen.{Screen}
use Rattle.model.specs.declared.Blocks.{Blocks}
use Rattle.model.specs.declared.Day.{Day}
use Rattle.model.specs.declared.BlockReply as BlockReply
use Rattle.model.specs.Clock.{day_end}
use Rattle.model.specs.Books.{Books, with_blocks}
use Rattle.model.specs.Matching.{filled}
use Rattle.model.specs.Figures.{at, with_block_figures, published_shares, published_turnover}
use Rattle.model.specs.Screen.{screen_of, update}
use Rattle.model.specs.Refusals.{first_of}
use Rattle.model.specs.BlockCalls.{BlockOutcome, block_rules, block_call}
use Rattle.model.specs.AfterClose.{After}
use Rattle.model.specs.AllCalls.{moved_on}

-- the day is the same but for the figures of block trades
abbrev pub Aside : Day → Day → Type 0
Aside d e = e ≡ with_block_figures e.blocks d

-- two moves with the same outcome for the main book and the fixed-price book
pub record SameBeside (h k : After) : Type 0 where
  pub day : Aside h.day k.day
  pub main : k.books.main ≡ h.books.main
  pub fixed_book : k.books.fixed ≡ h.books.fixed
  pub auctions : k.auctions ≡ h.auctions
  pub fixed : k.fixed ≡ h.fixed
  pub void : k.void ≡ h.void
  pub lapsed : k.lapsed ≡ h.lapsed

-- two screens that differ in the shares at most
pub record SameButShares (s t : Screen) : Type 0 where
  pub last : t.last ≡ s.last
  pub high : t.high ≡ s.high
  pub low : t.low ≡ s.low
  pub turnover : t.turnover ≡ s.turnover
  pub buys : t.buys ≡ s.buys
  pub sells : t.sells ≡ s.sells
  pub price : t.price ≡ s.price
  pub volume : t.volume ≡ s.volume
  pub surplus : t.surplus ≡ s.surplus

-- the screen that a move to second t leaves
abbrev pub screen_after : ℕ → After → Screen
screen_after t h = (update h.auctions h.books.main (at t h.day)).screen

pub record Separate : Type 0 where
  -- a declaration: neither book can change, and the main figures, the screen, the halt and the fixed-price figures stay
  pub declaration :
      (d : Day) (a : AskedBlock) (main : List Order) (held : List Declaration) (lent : List Trade)
      → Aside d (block_call d a main held lent).answer.day
  -- a refused one leaves everything
  pub refused :
      (d : Day) (a : AskedBlock) (main : List Order) (held : List Declaration) (lent : List Trade) (n : ℕ)
      → let o : BlockOutcome = block_call d a main held lent in
      o.answer.reply ≡ BlockReply.TheVariants.Refused n
      → (o.answer.day ≡ d) × (o.answer.made ≡ 0) × (o.held ≡ held) × (o.trades ≡ lent)
  -- one that no rule refuses counts as one number, with the shares of the confirmations that it writes
  pub counts :
      (d : Day) (a : AskedBlock) (main : List Order) (held : List Declaration) (lent : List Trade)
      → first_of (block_rules d a main held (length lent)) ≡ 0
      → let o : BlockOutcome = block_call d a main held lent in
      (o.answer.day.blocks.issued ≡ suc d.blocks.issued)
      × (o.answer.day.blocks.shares ≡ d.blocks.shares + filled (take o.answer.made o.trades))
  -- a move issues no number, and adds the shares of what it confirms
  pub move_counts :
      (d : Day) (t : ℕ) (s : Books)
      → d.time ≤ t
      → let h : After = moved_on d t s in
      (h.day.blocks.issued ≡ d.blocks.issued)
      × (h.day.blocks.shares ≡ d.blocks.shares + filled h.confirmed)
  -- whatever else was declared and confirmed, a move does the same to all the rest
  pub move :
      (d : Day) (t : ℕ) (s : Books) (b : Blocks) (held : List Declaration)
      → d.time ≤ t
      → SameBeside (moved_on d t s) (moved_on (with_block_figures b d) t (with_blocks held s))
  -- and its screen, which is counted last, differs in the shares at most
  pub move_screen :
      (d : Day) (t : ℕ) (s : Books) (b : Blocks) (held : List Declaration)
      → d.time ≤ t
      → SameButShares (screen_after t (moved_on d t s)) (screen_after t (moved_on (with_block_figures b d) t (with_blocks held s)))
  -- the confirmed shares are published from 15:30 on; their money never is, nor do they enter last, high or low price
  pub before : (d : Day) → d.time < day_end → published_shares d ≡ d.shares
  pub joined : (d : Day) → day_end ≤ d.time → published_shares d ≡ d.shares + d.fixed.shares + d.blocks.shares
  pub turnover : (d : Day) (b : Blocks) → published_turnover (with_block_figures b d) ≡ published_turnover d
  pub screen :
      (d : Day) (b : Blocks) (book : List Order) (high low : ℕ)
      → SameButShares (screen_of d book high low) (screen_of (with_block_figures b d) book high low)
  pub screen_before :
      (d : Day) (b : Blocks) (book : List Order) (high low : ℕ)
      → d.time < day_end
      → screen_of (with_block_figures b d) book high low ≡ screen_of d book high low
