-- Three lengths compared. Assumes nothing.
use Rattle.lines.proofs.AnyMemory.{other_places, other_trades, by_output}
use Rattle.lines.proofs.serves.Goals as goal

pub returns-then-trades-eq-LENT_TRADES : goal.returns-then-trades-eq-LENT_TRADES
returns-then-trades-eq-LENT_TRADES c = by_output _ _ _ c.if-places-eq-LENT_PLACES.true c.if-trades-eq-LENT_TRADES.true

pub returns-else-trades-eq-LENT_TRADES : goal.returns-else-trades-eq-LENT_TRADES
returns-else-trades-eq-LENT_TRADES c = other_trades _ _ _ c.if-places-eq-LENT_PLACES.true c.if-trades-eq-LENT_TRADES.false

pub returns-else-places-eq-LENT_PLACES : goal.returns-else-places-eq-LENT_PLACES
returns-else-places-eq-LENT_PLACES c = other_places _ _ _ c.if-places-eq-LENT_PLACES.false
