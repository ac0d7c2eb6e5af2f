-- `byte_trades::trading::trade_in` meets its contract: loaded, traded and, unless the lent list is too short, stored, with the trades that
-- were made. Assumes nothing.
-- ---- the way back from the call on rows
use mathlib.Core.Path.{sym}
use borrow.Author.Rules.{rules}
use native.Mathlib.Omega.{arith}
use lib.ListN.{length}
use lib.Seq.{length-take-le}
use Prim.Native.Nat.{◌≤◌}
use Rattle.byte_trades.proofs.Traded.{rows_made, rows_traded, rows_short}
use Rattle.byte_trades.proofs.trading.trade_in.Goals as goal
use Rattle.byte_trades.proofs.trading.trade_in.Goals.{After-trade_rows-answer}

-- no more trades are made than the local list has places
made : (k : After-trade_rows-answer) → k.trade_rows-answer.result.made ≤ length k.trade_rows-answer.new.list
made k =
    omega (
      arith,
      k.trade_rows-answer.auto.list,
      rows_made k.args.day.now k.args.book.now k.args.trades.now k.args.asked k.load_book.new.rows k.args.list.now
          k.trade_rows-answer.new.rows k.trade_rows-answer.new.list k.load_book.ensures k.day_in-d.ensures k.requires.list_len k.trade_rows-answer.ensures,
    )

pub returns-then-trades-made : goal.returns-then-trades-made
returns-then-trades-made c =
    rows_short c.args.day.now c.args.book.now c.args.trades.now c.args.asked c.load_book.new.rows c.args.list.now
    c.trade_rows-answer.new.rows c.trade_rows-answer.new.list c.load_book.ensures c.day_in-d.ensures c.requires.list_len c.trade_rows-answer.ensures c.if-trades-made.true
    c.trade_refusal.ensures
    (search rules)
    (λ i. (c.type_inv.trades i).fits)

pub store_book-requires : goal.store_book-requires
store_book-requires c =
    omega (arith, c.requires.rows_len, c.load_book.auto.rows, c.trade_rows-answer.auto.rows)

pub slice_bounds-store_trades-end : goal.slice_bounds-store_trades-end
slice_bounds-store_trades-end c = made (goal.at.slice_bounds-store_trades-end c).After-trade_rows-answer

pub slice_bounds-store_trades-end-2 : goal.slice_bounds-store_trades-end-2
slice_bounds-store_trades-end-2 c = sym (length-take-le _ _ (made (goal.at.slice_bounds-store_trades-end-2 c).After-trade_rows-answer))

pub store_trades-requires : goal.store_trades-requires
store_trades-requires c =
    omega (arith, c.if-trades-made.false, length-take-le c.trade_rows-answer.result.made c.trade_rows-answer.new.list (made (goal.at.store_trades-requires c).After-trade_rows-answer))

pub returns : goal.returns
returns c =
    rows_traded c.args.day.now c.args.book.now c.args.trades.now c.args.asked c.load_book.new.rows c.args.list.now
    c.trade_rows-answer.new.rows c.trade_rows-answer.new.list c.load_book.ensures c.day_in-d.ensures c.requires.list_len c.trade_rows-answer.ensures c.if-trades-made.false c.store_book.ensures
    c.store_trades.ensures
    (λ i. (c.slice_known-2-1.given i).fits)
