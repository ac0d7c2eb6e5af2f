-- What a threshold is measured on: the day's open, and the prices of a run of trades.
use Rattle.std.specs.Prelude.{◌≤◌, List}
use Rattle.model.specs.declared.Trade.{Trade}
use Rattle.model.specs.declared.Day.{Day}
use Rattle.model.specs.Figures.{open_price}
use Rattle.model.specs.Words.{Each}

-- none is above the highest price, so that their products fit
pub record Priced (d : Day) (ts : List Trade) : Type 0 where
  pub opened : open_price d ≤ 999_999
  pub trades : Each (λ (t : Trade). t.price ≤ 999_999) ts
