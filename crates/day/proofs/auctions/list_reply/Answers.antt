-- Each case is one clause of the definition.
use Rattle.day.specs.Listings.{list_reply}
use Rattle.day.proofs.auctions.list_reply.Goals as goal

pub returns-in-Refused : goal.returns-in-Refused
unfolding list_reply
returns-in-Refused c = rw c.in-Refused.is

pub returns-in-Prices : goal.returns-in-Prices
unfolding list_reply
returns-in-Prices c = rw c.in-Prices.is
