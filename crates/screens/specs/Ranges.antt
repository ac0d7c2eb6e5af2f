-- High and low as a pair.
use Rattle.std.specs.Prelude.{ℕ, min, max, List}
use Rattle.model.specs.declared.Trade.{Trade}
use Rattle.model.specs.declared.Screen.{Screen}
use Rattle.model.specs.Matching.{highest, lowest}
use Rattle.model.specs.Screen.{high_with, low_with}
use Rattle.screens.specs.declared.Range.{Range}

-- the pair with one price more, and with the prices of trades
unfoldable pub widened : Range → ℕ → Range
widened r p = record { high = max r.high p; low = min r.low p }

unfoldable pub range_of : List Trade → Range → Range
range_of ts r = record { high = highest r.high ts; low = lowest r.low ts }

-- those of a screen with the trades of an event
unfoldable pub range_with : List Trade → Screen → Range
range_with ts s = record { high = high_with ts s; low = low_with ts s }
