-- Demand 3: the price list of a sound book, the one price that the tie rules leave, and the auction that trades there.
use Rattle.std.specs.Prelude.{ℕ, ◌≤◌, ◌<◌, min, ◌≡◌, ◌↔◌, Bool, true, false, ◌||◌, List, [], ◌∷◌, ◌++◌, length, get_or, take, drop, eqb}
use Rattle.model.specs.declared.Order.{Order}
use Rattle.model.specs.declared.Trade.{Trade}
use Rattle.model.specs.declared.Day.{Day}
use Rattle.model.specs.declared.ListReply as ListReply
use Rattle.model.specs.declared.ClockReply as ClockReply
use Rattle.model.specs.Lists.{any, among}
use Rattle.model.specs.Clock.{passed}
use Rattle.model.specs.Book.{stands_on, queue, arranged}
use Rattle.model.specs.Matching.{filled, filled_of, settle}
use Rattle.model.specs.Figures.{reference}
use Rattle.model.specs.Auction.{volume, qualifying, left_by, auction_price}
use Rattle.model.specs.Pairing.{cut}
use Rattle.model.specs.ClockCall.{auction_trades, Held, pass, start, clock_call}
use Rattle.model.specs.AuctionCalls.{due, list_call}
use Rattle.model.specs.Words.{Each, Some, Rising, Sound, Qualifies, granted}

-- no buy price reaches a sell price
abbrev pub NoneReach : List Order → Type 0
NoneReach book =
    Each (λ (b : Order). stands_on 0 b ≡ true → Each (λ (s : Order). stands_on 1 s ≡ true → b.price < s.price) book) book

-- a price is listed exactly when it is a whole-fen price with a volume of at least 1 at which the three conditions hold, as
-- `Qualifies` spells them out; the list rises, so each price is there once; it is empty exactly when no buy reaches a sell
pub record Listing (book : List Order) : Type 0 where
  pub listed : (p : ℕ) → (among (qualifying book) p ≡ true) ↔ Qualifies book p
  pub rising : Rising (qualifying book)
  pub empty_exactly : (qualifying book ≡ []) ↔ NoneReach book

-- the call writes those from the asked price on: as many as fit, the rest of the lent list stays
pub record Called (d : Day) (book : List Order) (asked : ℕ) (lent : List ℕ) : Type 0 where
  pub due_ones : (p : ℕ) → (among (due asked book) p ≡ true) ↔ (Qualifies book p × (asked ≤ p))
  pub due_rising : Rising (due asked book)
  pub told :
      (list_call d asked book lent).reply
      ≡ ListReply.TheVariants.Listed (min (length lent) (length (due asked book))) (get_or (due asked book) (length lent) 0)
  pub written : (list_call d asked book lent).prices ≡ take (length lent) (due asked book) ++ drop (length (due asked book)) lent

-- one price of the list is left, for every reference price
abbrev pub OneLeft : List Order → ℕ → Type 0
OneLeft book ref = (p : ℕ) × (left_by book ref ≡ p ∷ []) × Qualifies book p

-- an auction's trades: at that price alone, its volume in all, each between a buy at that price or above and a sell at that price or
-- below, and each order gets what its side's queue, cut to the volume, has for it; without a listed price there is none. Afterwards no
-- buy reaches a sell.
pub record TradesThere (d : Day) (book : List Order) (ts : List Trade) : Type 0 where
  pub price : (qualifying book ≡ [] → ⊥) → left_by book (reference d) ≡ auction_price d book ∷ []
  pub at_price : Each (λ (t : Trade). t.price ≡ auction_price d book) ts
  pub in_all : filled ts ≡ volume book (auction_price d book)
  pub partners :
      Each
      (λ (t : Trade).
      Some (λ (o : Order). (o.number ≡ t.buyer) × (auction_price d book ≤ o.price)) (queue 0 book)
      × Some (λ (o : Order). (o.number ≡ t.seller) × (o.price ≤ auction_price d book)) (queue 1 book))
      ts
  pub buys :
      Each (λ (o : Order). filled_of o.number ts ≡ granted o.number (cut (volume book (auction_price d book)) (queue 0 book)))
      (queue 0 book)
  pub sells :
      Each (λ (o : Order). filled_of o.number ts ≡ granted o.number (cut (volume book (auction_price d book)) (queue 1 book)))
      (queue 1 book)
  pub none : qualifying book ≡ [] → ts ≡ []
  pub after : NoneReach (arranged (length book) (settle ts book))

-- the opening auction, that of a halt and the closing auction
unfoldable pub is_auction : ℕ → Day → Bool
is_auction s d = eqb s 33_900 || eqb s d.halt || eqb s 54_000

-- each auction that a move of the clock holds trades there, with the day and the book as they stand then
abbrev pub EachAuction : List ℕ → Held → Type 0
EachAuction [] h = Unit {0}
EachAuction (s ∷ ss) h =
    (is_auction s h.day ≡ true → TradesThere h.day h.book (auction_trades h.day h.book))
    × EachAuction ss (pass s h)

-- and so do the trades that a move of the clock writes, on the day and the book as they stood before it, where it is accepted and
-- passes an auction of that day; else it writes none
pub record ClockTrades (d : Day) (t : ℕ) (book : List Order) (lent : List Trade) : Type 0 where
  pub there :
      (phase made : ℕ)
      → (clock_call d t book lent).answer.reply ≡ ClockReply.TheVariants.Moved phase made
      → any (λ s. is_auction s d) (passed d.time t) ≡ true
      → TradesThere d book (take made (clock_call d t book lent).trades)
  pub none_else :
      (phase made : ℕ)
      → (clock_call d t book lent).answer.reply ≡ ClockReply.TheVariants.Moved phase made
      → any (λ s. is_auction s d) (passed d.time t) ≡ false
      → made ≡ 0

-- the demand, for any sound day
pub record Pricing : Type 0 where
  pub listing : (d : Day) (book : List Order) → Sound d book → Listing book
  pub called : (d : Day) (book : List Order) → Sound d book → (asked : ℕ) (lent : List ℕ) → Called d book asked lent
  pub one_left : (d : Day) (book : List Order) → Sound d book → (qualifying book ≡ [] → ⊥) → (ref : ℕ) → OneLeft book ref
  pub trades_there : (d : Day) (book : List Order) → Sound d book → TradesThere d book (auction_trades d book)
  pub auctions : (d : Day) (book : List Order) → Sound d book → (t : ℕ) → EachAuction (passed d.time t) (start d book)
  pub clock_trades : (d : Day) (book : List Order) → Sound d book → (t : ℕ) (lent : List Trade) → ClockTrades d t book lent
