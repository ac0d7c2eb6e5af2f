-- Two calls as one, on bytes of any length: the numbers of either reply, and what either leaves.
use Rattle.std.specs.Prelude.{ℕ, ◌+◌, ◌/◌, ◌≤◌, ◌≡◌, List, length, if◌then◌else◌}
use Rattle.model.specs.declared.OpenReply as OpenReply
use Rattle.model.specs.declared.CancelReply as CancelReply
use Rattle.model.specs.Lists.{from}
use Rattle.model.specs.Replies.{open_numbers, order_numbers, cancel_numbers, clock_numbers, list_numbers}
use Rattle.auction.specs.declared.Run.{Run}
use Rattle.day.specs.declared.auctions.Listing as Listing
use Rattle.day.specs.Listings.{list_reply}
use Rattle.records.specs.Layout.{bytes, day_bytes, over}
use Rattle.replies.specs.Words.{report_words}
use Rattle.byte_trades.specs.declared.TradeAsked as TradeAsked
use Rattle.byte_trades.specs.declared.TradeReply as TradeReply
use Rattle.byte_books.specs.declared.BookAsked as BookAsked
use Rattle.byte_books.specs.declared.BookReply as BookReply
use Rattle.byte_books.specs.declared.ReadAsked.{ReadAsked}
use Rattle.byte_books.specs.declared.ReadReply as ReadReply
use Rattle.byte_books.specs.Reading.{read_refusal, read_on}
use Rattle.wire.specs.Exports.{has_day, BookLeft, open_on, day_left, open_leaves, TradeLeft, order_leaves, clock_leaves, cancel_leaves}

-- ---- an order, and a move of the clock

unfoldable pub trade_numbers : TradeReply.TradeReply → List ℕ
trade_numbers (TradeReply.TheVariants.Order r) = order_numbers r
trade_numbers (TradeReply.TheVariants.Clock r) = clock_numbers r

unfoldable pub either_leaves : TradeAsked.TradeAsked → List ℕ → List ℕ → List ℕ → List ℕ → TradeLeft
either_leaves (TradeAsked.TheVariants.Order a) = order_leaves a
either_leaves (TradeAsked.TheVariants.Clock t) = clock_leaves t

-- ---- an opening, and a cancel

unfoldable pub book_numbers : BookReply.BookReply → List ℕ
book_numbers (BookReply.TheVariants.Open r) = open_numbers r
book_numbers (BookReply.TheVariants.Cancel r) = cancel_numbers r.reply

-- those of a book that has too many places, and of memory that holds no day
unfoldable pub unread_numbers : BookAsked.BookAsked → List ℕ
unread_numbers (BookAsked.TheVariants.Open close mark) = open_numbers (OpenReply.TheVariants.Refused 14)
unread_numbers (BookAsked.TheVariants.Cancel account number) = cancel_numbers (CancelReply.TheVariants.Refused 15)

-- the day that a reply has brought: a new one, or the one with its screen updated
unfoldable pub day_by : BookReply.BookReply → List ℕ → List ℕ
day_by (BookReply.TheVariants.Open r) day = day_left r day
day_by (BookReply.TheVariants.Cancel r) day = over (day_bytes r.day) day

unfoldable pub change_leaves : BookAsked.BookAsked → List ℕ → List ℕ → List ℕ → BookLeft
change_leaves (BookAsked.TheVariants.Open close mark) day book reply = open_leaves (open_on close mark day book) day book reply
change_leaves (BookAsked.TheVariants.Cancel account number) day book reply = cancel_leaves account number day book reply

-- ---- the report, and the price list

unfoldable pub read_numbers : ReadReply.ReadReply → List ℕ
read_numbers (ReadReply.TheVariants.Report r) = report_words r
read_numbers (ReadReply.TheVariants.List l) = list_numbers (list_reply l)

unfoldable pub read_from : List ℕ → List ℕ → ReadAsked → ReadReply.ReadReply
read_from day book asked = if has_day day then read_on day book asked else read_refusal asked 15

-- a run was told only where its prices have places
abbrev pub PricesFit : ReadReply.ReadReply → List ℕ → Type 0
PricesFit told prices =
    (r : Run)
    → told ≡ ReadReply.TheVariants.List (Listing.TheVariants.Prices r)
    → (r.count ≤ length prices / 8) × (r.first + r.count ≤ 1_000_000)

unfoldable pub prices_by : ReadReply.ReadReply → List ℕ → List ℕ
prices_by (ReadReply.TheVariants.Report r) prices = prices
prices_by (ReadReply.TheVariants.List (Listing.TheVariants.Refused n)) prices = prices
prices_by (ReadReply.TheVariants.List (Listing.TheVariants.Prices r)) prices = over (bytes (from r.first r.count)) prices
