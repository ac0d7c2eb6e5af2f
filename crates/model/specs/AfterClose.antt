-- What a move of the clock does after the close, in time order (02: #107, #108): at 15:00 blocks are confirmed, at 15:05 the
-- fixed-price orders match, and at 15:30 what is left of both lapses.
use Rattle.std.specs.Prelude.{ℕ, not, List, [], ◌∷◌, ◌++◌, length, eqb, if◌then◌else◌}
use Rattle.model.specs.declared.Order.{Order}
use Rattle.model.specs.declared.Declaration.{Declaration}
use Rattle.model.specs.declared.Trade.{Trade}
use Rattle.model.specs.declared.Day.{Day}
use Rattle.model.specs.Lists.{keep, total}
use Rattle.model.specs.Clock.{confirming_from, matching_from, day_end}
use Rattle.model.specs.Books.{Books, with_fixed, with_blocks}
use Rattle.model.specs.Matching.{settle}
use Rattle.model.specs.Figures.{close_price, tally_fixed, tally_blocks}
use Rattle.model.specs.Auction.{shares_of}
use Rattle.model.specs.FixedBook.{is_void, matches, lined}
use Rattle.model.specs.Blocks.{confirmations, unnamed, held_in, none_held}
use Rattle.model.specs.Calls.{cleared}

-- a day and its books on the way, with the trades of the main book, the blocks confirmed and the trades of the fixed-price book, and
-- the fixed-price shares that dropped out as void and that lapsed
pub record After : Type 0 where
  pub day : Day
  pub books : Books
  pub auctions : List Trade
  pub confirmed : List Trade
  pub fixed : List Trade
  pub void : ℕ
  pub lapsed : ℕ

-- 15:00, after the closing auction's trades: lower buyer first, the earliest that fits is the partner
unfoldable pub confirm_all : After → After
confirm_all h =
    let held : List Declaration = h.books.blocks in
    let ts : List Trade = confirmations held in
    record {
      day = tally_blocks ts h.day;
      books = with_blocks (held_in (length held) (unnamed ts held)) h.books;
      auctions = h.auctions;
      confirmed = h.confirmed ++ ts;
      fixed = h.fixed;
      void = h.void;
      lapsed = h.lapsed;
    }

-- 15:05: orders whose buy limit is below the close or sell limit above it drop out as void; the others match in order of arrival
unfoldable pub match_all : After → After
match_all h =
    let book : List Order = h.books.fixed in
    let close : ℕ = close_price h.day in
    let os : List Order = keep (λ o. not (is_void close o)) book in
    let ts : List Trade = matches close os in
    record {
      day = tally_fixed ts h.day;
      books = with_fixed (lined (length book) (settle ts os)) h.books;
      auctions = h.auctions;
      confirmed = h.confirmed;
      fixed = h.fixed ++ ts;
      void = shares_of (is_void close) book;
      lapsed = h.lapsed;
    }

-- 15:30: the rest lapses, and the unmatched declarations
unfoldable pub end_all : After → After
end_all h =
    let book : List Order = h.books.fixed in
    record {
      day = h.day;
      books = record { main = h.books.main; fixed = cleared book; blocks = none_held h.books.blocks };
      auctions = h.auctions;
      confirmed = h.confirmed;
      fixed = h.fixed;
      void = h.void;
      lapsed = total (λ o. o.left) book;
    }

-- what passing a second does
unfoldable pub pass_after : ℕ → After → After
pass_after s h =
    if eqb s confirming_from then confirm_all h
    else if eqb s matching_from then match_all h
    else if eqb s day_end then end_all h
    else h

unfoldable pub through_after : List ℕ → After → After
through_after [] h = h
through_after (s ∷ ss) h = through_after ss (pass_after s h)
