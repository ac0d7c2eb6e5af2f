-- Numbers, records and lists as bytes, both ways. A number is 8 bytes, least byte first; a record is its numbers in a row, and
-- a list its records. What follows the last whole record belongs to nothing and stays.
use Rattle.std.specs.Prelude.{ℕ, ◌+◌, ◌/◌, ◌^◌, ◌<◌, List, [], ◌∷◌, ◌++◌, length, get_or, take, drop}
use Rattle.std.specs.Int.Signed.{mag}
use Rattle.model.specs.declared.Order.{Order}
use Rattle.model.specs.declared.Declaration.{Declaration}
use Rattle.model.specs.declared.Trade.{Trade}
use Rattle.model.specs.declared.Level.{Level}
use Rattle.model.specs.declared.Levels.{Levels}
use Rattle.model.specs.declared.Screen.{Screen}
use Rattle.model.specs.declared.Fixed.{Fixed}
use Rattle.model.specs.declared.Blocks.{Blocks}
use Rattle.model.specs.declared.Day.{Day}
use Rattle.model.specs.Words.{Each}
use Rattle.octets.specs.Numbers.{worth, digits, parts, flat}
pub use Rattle.octets.specs.Numbers.{AllBytes}
use Rattle.replies.specs.Words.{word, signed}

-- ---- a record as its numbers, and back

-- an order: side, account, shares left, price, number
abbrev pub order_of : List ℕ → Order
order_of r =
    record { side = get_or r 0 0; account = get_or r 1 0; left = get_or r 2 0; price = get_or r 3 0; number = get_or r 4 0 }

abbrev pub row_of : Order → List ℕ
row_of o = o.side ∷ o.account ∷ o.left ∷ o.price ∷ o.number ∷ []

-- a declaration: side, account, the account that it names, quantity, price, agreement, number
abbrev pub declaration_of : List ℕ → Declaration
declaration_of r =
    record {
      side = get_or r 0 0;
      account = get_or r 1 0;
      counter = get_or r 2 0;
      quantity = get_or r 3 0;
      price = get_or r 4 0;
      agreement = get_or r 5 0;
      number = get_or r 6 0;
    }

abbrev pub declaration_row : Declaration → List ℕ
declaration_row x =
    x.side ∷ x.account ∷ x.counter ∷ x.quantity ∷ x.price ∷ x.agreement ∷ x.number ∷ []

-- a trade: price, quantity, buyer, seller, and what it leaves of the buyer and of the seller
abbrev pub trade_of : List ℕ → Trade
trade_of r =
    record {
      price = get_or r 0 0;
      quantity = get_or r 1 0;
      buyer = get_or r 2 0;
      seller = get_or r 3 0;
      buyerleft = get_or r 4 0;
      sellerleft = get_or r 5 0;
    }

abbrev pub trade_row : Trade → List ℕ
trade_row t = t.price ∷ t.quantity ∷ t.buyer ∷ t.seller ∷ t.buyerleft ∷ t.sellerleft ∷ []

-- ---- what memory can hold

-- a number of 64 bits
abbrev pub Word : ℕ → Type 0
Word x = x < 2 ^ 64

-- a record of numbers of 64 bits
abbrev pub Fits : Order → Type 0
Fits o = Each Word (row_of o)

abbrev pub DeclarationFits : Declaration → Type 0
DeclarationFits x = Each Word (declaration_row x)

-- ---- from bytes

abbrev pub number_in : List ℕ → ℕ
number_in b = worth (take 8 b)

unfoldable pub numbers : ℕ → List ℕ → List ℕ
numbers n b = parts number_in 8 n b

abbrev pub order_in : List ℕ → Order
order_in b = order_of (numbers 5 b)

abbrev pub declaration_in : List ℕ → Declaration
declaration_in b = declaration_of (numbers 7 b)

abbrev pub trade_in : List ℕ → Trade
trade_in b = trade_of (numbers 6 b)

-- what a row of numbers holds from its place i on: a price and its shares
abbrev pub held_level : List ℕ → ℕ → Level
held_level n i = record { price = get_or n i 0; shares = get_or n (i + 1) 0 }

-- five of them
abbrev pub held_levels : List ℕ → ℕ → Levels
held_levels n i =
    record {
      first = held_level n i;
      second = held_level n (i + 2);
      third = held_level n (i + 4);
      fourth = held_level n (i + 6);
      fifth = held_level n (i + 8);
    }

-- the screen: last, high, low, shares, turnover, five buy levels, five sell levels, price, volume, surplus
abbrev pub held_screen : List ℕ → ℕ → Screen
held_screen n i =
    record {
      last = get_or n i 0;
      high = get_or n (i + 1) 0;
      low = get_or n (i + 2) 0;
      shares = get_or n (i + 3) 0;
      turnover = get_or n (i + 4) 0;
      buys = held_levels n (i + 5);
      sells = held_levels n (i + 15);
      price = get_or n (i + 25) 0;
      volume = get_or n (i + 26) 0;
      surplus = signed (get_or n (i + 27) 0);
    }

-- the figures of the fixed-price book: numbers issued, shares, money; and of block trades: numbers issued, shares
abbrev pub held_fixed : List ℕ → ℕ → Fixed
held_fixed n i = record { issued = get_or n i 0; shares = get_or n (i + 1) 0; money = get_or n (i + 2) 0 }

abbrev pub held_blocks : List ℕ → ℕ → Blocks
held_blocks n i = record { issued = get_or n i 0; shares = get_or n (i + 1) 0 }

-- close, mark, time, numbers issued, shares, turnover, first, last, the screen, the halt's end, 30% used, 60% used, the figures of
-- the fixed-price book and of block trades
abbrev pub day_of : List ℕ → Day
day_of n =
    record {
      close = get_or n 0 0;
      limited = get_or n 1 0;
      time = get_or n 2 0;
      issued = get_or n 3 0;
      shares = get_or n 4 0;
      turnover = get_or n 5 0;
      first = get_or n 6 0;
      last = get_or n 7 0;
      screen = held_screen n 8;
      halt = get_or n 36 0;
      used30 = get_or n 37 0;
      used60 = get_or n 38 0;
      fixed = held_fixed n 39;
      blocks = held_blocks n 42;
    }

unfoldable pub day_in : List ℕ → Day
day_in b = day_of (numbers 44 b)

-- a book, declarations, a trade list and a price list: the whole records that the bytes hold
unfoldable pub book_in : List ℕ → List Order
book_in b = parts order_in 40 (length b / 40) b

unfoldable pub declarations_in : List ℕ → List Declaration
declarations_in b = parts declaration_in 56 (length b / 56) b

unfoldable pub trades_in : List ℕ → List Trade
trades_in b = parts trade_in 48 (length b / 48) b

unfoldable pub prices_in : List ℕ → List ℕ
prices_in b = numbers (length b / 8) b

-- ---- to bytes

unfoldable pub bytes : List ℕ → List ℕ
bytes ns = flat (digits 8) ns

abbrev pub order_bytes : Order → List ℕ
order_bytes o = bytes (row_of o)

abbrev pub declaration_bytes : Declaration → List ℕ
declaration_bytes x = bytes (declaration_row x)

abbrev pub trade_bytes : Trade → List ℕ
trade_bytes t = bytes (trade_row t)

unfoldable pub book_bytes : List Order → List ℕ
book_bytes book = flat order_bytes book

unfoldable pub declarations_bytes : List Declaration → List ℕ
declarations_bytes held = flat declaration_bytes held

unfoldable pub trades_bytes : List Trade → List ℕ
trades_bytes ts = flat trade_bytes ts

abbrev pub level_row : Level → List ℕ
level_row l = l.price ∷ l.shares ∷ []

abbrev pub levels_row : Levels → List ℕ
levels_row ls = level_row ls.first ++ level_row ls.second ++ level_row ls.third ++ level_row ls.fourth ++ level_row ls.fifth

-- its surplus in two's complement
abbrev pub screen_row : Screen → List ℕ
screen_row s =
    (s.last ∷ s.high ∷ s.low ∷ s.shares ∷ s.turnover ∷ [])
    ++ levels_row s.buys
    ++ levels_row s.sells
    ++ (s.price ∷ s.volume ∷ word s.surplus ∷ [])

abbrev pub fixed_row : Fixed → List ℕ
fixed_row f = f.issued ∷ f.shares ∷ f.money ∷ []

abbrev pub blocks_row : Blocks → List ℕ
blocks_row b = b.issued ∷ b.shares ∷ []

abbrev pub day_row : Day → List ℕ
day_row d =
    (d.close ∷ d.limited ∷ d.time ∷ d.issued ∷ d.shares ∷ d.turnover ∷ d.first ∷ d.last ∷ [])
    ++ screen_row d.screen
    ++ (d.halt ∷ d.used30 ∷ d.used60 ∷ [])
    ++ fixed_row d.fixed
    ++ blocks_row d.blocks

-- a day of numbers of 64 bits, its surplus with a sign
pub record DayFits (d : Day) : Type 0 where
  pub words : Each Word (day_row d)
  pub surplus : mag d.screen.surplus < 2 ^ 63

unfoldable pub day_bytes : Day → List ℕ
day_bytes d = bytes (day_row d)

-- the new bytes stand at the front, the rest of the old ones stays
unfoldable pub over : List ℕ → List ℕ → List ℕ
over new old = new ++ drop (length new) old

-- ---- a reply: its numbers, of which the first is the refusal's

-- in its buffer stand as many whole numbers as it holds, the rest of it stays
unfoldable pub replied : List ℕ → List ℕ → List ℕ
replied ns reply = over (bytes (take (length reply / 8) ns)) reply

-- the refusal's number is also what a call returns
abbrev pub returned : List ℕ → ℕ
returned ns = get_or ns 0 0
