-- The report is put together of one pass at the price.
use Rattle.auction.proofs.Signed.{report_none, both_small, report_some}
use Rattle.auction.proofs.report.report_at.Goals as goal

pub returns-then-price-eq0 : goal.returns-then-price-eq0
returns-then-price-eq0 c = report_none _ _ c.if-price-eq0.true

pub surplus_of-surplus-requires : goal.surplus_of-surplus-requires
surplus_of-surplus-requires c = both_small _ _ c.interest_at-both.ensures c.requires

pub returns : goal.returns
returns c =
    report_some _ _ c.interest_at-both.ensures c.requires
    c.if-price-eq0.false c.min-volume.ensures c.surplus_of-surplus.ensures
