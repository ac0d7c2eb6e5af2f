-- `day::auctions::list_call` meets its contract: refused, or the run is written. Assumes nothing.
use mathlib.Core.Path.{refl, sym, ◌∙◌}
use Rattle.day.proofs.AuctionLaws.{list_untouched, list_wrote, list_fits, list_told}
use Rattle.day.proofs.auctions.list_call.Goals as goal

pub returns-in-Refused : goal.returns-in-Refused
returns-in-Refused c =
    list_told _ _ _ _ c.list_run-told.ensures c.list_reply.ensures
    (list_untouched _ c.in-Refused.is)

pub write_run-requires : goal.write_run-requires
write_run-requires c =
    list_fits _ _ _ _ (sym c.in-Prices.is ∙ c.list_run-told.ensures)

pub returns-in-Prices : goal.returns-in-Prices
returns-in-Prices c =
    list_told _ _ _ _ (sym c.in-Prices.is ∙ c.list_run-told.ensures) c.list_reply-in-Prices.ensures
    (list_wrote _ refl c.write_run.ensures)
