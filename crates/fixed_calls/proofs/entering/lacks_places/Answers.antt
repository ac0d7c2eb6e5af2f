-- As many places as the line has are enough; else the trades are counted.
use Rattle.fixed_calls.proofs.Entered.{enough_places, counted_places}
use Rattle.fixed_calls.proofs.entering.lacks_places.Goals as goal

pub returns-then-rows-places : goal.returns-then-rows-places
returns-then-rows-places c =
    enough_places c.args.rows.now c.args.places c.args.close c.requires c.if-rows-places.true

pub returns : goal.returns
returns c = counted_places _ _ c.deal_at_close-counted.ensures.value
