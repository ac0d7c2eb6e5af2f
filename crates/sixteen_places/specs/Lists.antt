-- The trade list that the program lends: sixteen places, one for each of the book's, which no event's trades outnumber.
use Rattle.std.specs.Prelude.{List, replicate}
use Rattle.model.specs.declared.Trade.{Trade}
use Rattle.model.specs.Matching.{no_trade}

abbrev pub no_trades : List Trade
no_trades = replicate 16 no_trade
