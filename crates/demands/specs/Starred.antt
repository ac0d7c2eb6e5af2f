-- The starred situations a to l of document 01, as one table: a day and its book, what is asked there, and what is answered.
use Rattle.std.specs.Prelude.{ℕ, suc, ◌≡◌, List, [], ◌∷◌, ◌++◌, map, length, replicate, ℤ, pos, eqb}
use Rattle.std.proofs.Math.IntN.{sub_ℕ}
use Rattle.model.specs.declared.Order.{Order}
use Rattle.model.specs.declared.Asked.{Asked}
use Rattle.model.specs.declared.Trade.{Trade}
use Rattle.model.specs.declared.Day.{Day}
use Rattle.model.specs.declared.OrderAnswer.{OrderAnswer}
use Rattle.model.specs.Lists.{keep, from}
use Rattle.model.specs.Book.{free, head_price}
use Rattle.model.specs.Figures.{no_screen, next_number}
use Rattle.model.specs.Screen.{update}
use Rattle.model.specs.Auction.{surplus}
use Rattle.model.specs.Calls.{Outcome, order_call}
use Rattle.model.specs.AuctionCalls.{ListOutcome, report_call, list_call}
use Rattle.model.specs.Replies.{order_numbers, report_numbers, list_numbers}

-- ---- what is asked, and what it is answered with

pub data Ask : Type 0 where
  -- the report
  Report : Ask
  -- the price list from a price on, with so many places lent
  Prices : ℕ → ℕ → Ask
  -- the surplus at a price: the report tells it at the auction's price alone
  SurplusAt : ℕ → Ask
  -- an order
  Enter : Asked → Ask

abbrev pub no_trade : Trade
no_trade = record { price = 0; quantity = 0; buyer = 0; seller = 0; buyerleft = 0; sellerleft = 0 }

-- in the paper's numbers: the call's own, then the prices as they stand in the lent places; behind an order's own the price at which
-- its rest stands, 0 where nothing of it does
unfoldable pub answer_to : Day → List Order → Ask → List ℤ
answer_to d book Report = report_numbers (report_call d book)
answer_to d book (Prices asked places) =
    let o : ListOutcome = list_call d asked book (replicate places 0) in
    map pos (list_numbers o.reply ++ o.prices)
answer_to d book (SurplusAt p) = surplus book p ∷ []
answer_to d book (Enter a) =
    let o : Outcome OrderAnswer = order_call d a book (replicate (length book) no_trade) in
    let rest : List Order = keep (λ r. eqb r.number (next_number d)) o.book in
    map pos (order_numbers o.answer.reply ++ (head_price rest ∷ []))

pub record Situation : Type 0 where
  pub day : Day
  pub book : List Order
  pub asked : Ask
  pub answered : List ℤ

abbrev pub Right : Situation → Type 0
Right s = answer_to s.day s.book s.asked ≡ s.answered

-- ---- the words of the table

abbrev buy : ℕ → ℕ → ℕ → Order
buy number left price = record { side = 0; account = 7; left = left; price = price; number = number }

abbrev sell : ℕ → ℕ → ℕ → Order
sell number left price = record { side = 1; account = 8; left = left; price = price; number = number }

-- these orders rest at this time of a day with price limits, and its screen is counted; nothing has traded, so the reference price is the
-- close
abbrev on : ℕ → ℕ → List Order → Ask → List ℤ → Situation
on time close orders asked answered =
    let book : List Order = orders ++ (free ∷ free ∷ []) in
    record {
      day =
          update [] book
          (record {
            close = close;
            limited = 1;
            time = time;
            issued = length orders;
            shares = 0;
            turnover = 0;
            first = 0;
            last = 0;
            screen = no_screen;
            halt = 0;
            used30 = 0;
            used60 = 0;
            fixed = record { issued = 0; shares = 0; money = 0 };
            blocks = record { issued = 0; shares = 0 };
          });
      book = book;
      asked = asked;
      answered = answered;
    }

-- in the opening call: the whole price list, with one place to spare, which stays 0; no price is due behind it
abbrev lists : ℕ → List Order → List ℕ → Situation
lists close orders prices =
    on 33_300 close orders (Prices 1 (suc (length prices))) (map pos (0 ∷ length prices ∷ 0 ∷ prices ++ (0 ∷ [])))

abbrev minus : ℕ → ℤ
minus n = sub_ℕ 0 n

-- price, volume, surplus
abbrev reports : ℕ → List Order → ℕ → ℕ → ℤ → Situation
reports close orders price volume surplus =
    on 33_300 close orders Report (pos 0 ∷ pos price ∷ pos volume ∷ surplus ∷ [])

abbrev has_surplus : ℕ → List Order → ℕ → ℤ → Situation
has_surplus close orders price surplus = on 33_300 close orders (SurplusAt price) (surplus ∷ [])

abbrev limit_order : ℕ → ℕ → Ask
limit_order side price =
    Enter (record { side = side; kind = 0; account = 9; quantity = 100; price = price; balance = 0 })

-- in continuous trading, against one order of the other side, whose price is the base
abbrev buys : ℕ → ℕ → List ℕ → Situation
buys base price answered = on 34_200 base (sell 1 100 base ∷ []) (limit_order 0 price) (map pos answered)

abbrev sells : ℕ → ℕ → List ℕ → Situation
sells base price answered = on 34_200 base (buy 1 100 base ∷ []) (limit_order 1 price) (map pos answered)

-- in the opening call, which has no order range
abbrev buys_in_call : ℕ → ℕ → List ℕ → Situation
buys_in_call close price answered = on 33_300 close [] (limit_order 0 price) (map pos answered)

-- a buy of 600 of a kind, up to a limit, against sells of 100 at 1001 to 1006
abbrev sweeps : ℕ → ℕ → List ℕ → Situation
sweeps kind limit answered =
    on 34_200 1000
    (sell 1 100 1001 ∷ sell 2 100 1002 ∷ sell 3 100 1003 ∷ sell 4 100 1004 ∷ sell 5 100 1005 ∷ sell 6 100 1006 ∷ [])
    (Enter (record { side = 0; kind = kind; account = 9; quantity = 600; price = limit; balance = 0 }))
    (map pos answered)

-- an order's answer: refusal, number, filled, resting, withdrawn, levels, and where the rest stands
abbrev refused : ℕ → List ℕ
refused n = n ∷ 0 ∷ 0 ∷ 0 ∷ 0 ∷ 0 ∷ 0 ∷ []

-- it passes, and fills against the one order that was there
abbrev fills : List ℕ
fills = 0 ∷ 2 ∷ 100 ∷ 0 ∷ 0 ∷ 1 ∷ 0 ∷ []

-- it passes, and rests at its price
abbrev rests : ℕ → List ℕ
rests price = 0 ∷ 1 ∷ 0 ∷ 100 ∷ 0 ∷ 0 ∷ price ∷ []

-- ---- the orders of b to f

abbrev b_orders : List Order
b_orders = buy 1 100 990 ∷ sell 2 100 1000 ∷ []

abbrev c_orders : List Order
c_orders = buy 1 300 1000 ∷ sell 2 100 900 ∷ []

abbrev d_orders : List Order
d_orders = buy 1 200 1010 ∷ sell 2 200 990 ∷ []

abbrev e_orders : List Order
e_orders = buy 1 100 1010 ∷ buy 2 100 1000 ∷ sell 3 100 990 ∷ []

abbrev f_orders : List Order
f_orders = buy 1 100 1010 ∷ buy 2 100 1000 ∷ sell 3 100 990 ∷ sell 4 100 1001 ∷ []

-- ---- the table

unfoldable pub situations : List Situation
situations =
    -- a: the empty book has no price
    lists 1000 [] []
    ∷ reports 1000 [] 0 0 (pos 0)
    -- b: buy 990 against sell 1000 has none either
    ∷ lists 1000 b_orders []
    ∷ reports 1000 b_orders 0 0 (pos 0)
    -- c: only 1000, surplus +200
    ∷ lists 1000 c_orders (1000 ∷ [])
    ∷ reports 1000 c_orders 1000 100 (pos 200)
    -- d: 990 to 1010, 21 prices; close 1000 gives 1000, 980 gives 990, 1030 gives 1010
    ∷ lists 1000 d_orders (from 990 21)
    ∷ reports 1000 d_orders 1000 200 (pos 0)
    ∷ reports 980 d_orders 990 200 (pos 0)
    ∷ reports 1030 d_orders 1010 200 (pos 0)
    -- e: 1000 to 1010; 1000 has surplus 100; close 1000 gives 1001
    ∷ lists 1000 e_orders (from 1000 11)
    ∷ has_surplus 1000 e_orders 1000 (pos 100)
    ∷ reports 1000 e_orders 1001 100 (pos 0)
    -- f: 1000 (+100) and 1001 (-100); close 1005 gives 1001
    ∷ lists 1005 f_orders (1000 ∷ 1001 ∷ [])
    ∷ has_surplus 1005 f_orders 1000 (pos 100)
    ∷ has_surplus 1005 f_orders 1001 (minus 100)
    ∷ reports 1005 f_orders 1001 100 (minus 100)
    -- g: buy base 1050: 1102 passes, 1103 is 9
    ∷ buys 1050 1102 fills
    ∷ buys 1050 1103 (refused 9)
    -- h: sell base 950: 903 passes, 902 is 9
    ∷ sells 950 903 fills
    ∷ sells 950 902 (refused 9)
    -- i: buy base 150: 160 passes, 161 is 9
    ∷ buys 150 160 fills
    ∷ buys 150 161 (refused 9)
    -- j: close 1001: 701 and 1301 pass, 700 and 1302 are 8
    ∷ buys_in_call 1001 701 (rests 701)
    ∷ buys_in_call 1001 1301 (rests 1301)
    ∷ buys_in_call 1001 700 (refused 8)
    ∷ buys_in_call 1001 1302 (refused 8)
    -- k: kind 3, limit 1300: 500 filled, 100 withdrawn, 5 levels
    ∷ sweeps 3 1300 (0 ∷ 7 ∷ 500 ∷ 0 ∷ 100 ∷ 5 ∷ 0 ∷ [])
    -- l: kind 4: 100 rest at 1005; limit 1003: 300 rest at 1003
    ∷ sweeps 4 1300 (0 ∷ 7 ∷ 500 ∷ 100 ∷ 0 ∷ 5 ∷ 1005 ∷ [])
    ∷ sweeps 4 1003 (0 ∷ 7 ∷ 300 ∷ 300 ∷ 0 ∷ 3 ∷ 1003 ∷ [])
    ∷ []
