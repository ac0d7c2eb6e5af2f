-- Each arm is the call on rows of its kind of question. Assumes nothing.
use Rattle.lent.proofs.ByKind.{reported, listed}
use Rattle.lent.proofs.auctions.ask_auction.Goals as goal

pub returns-in-Report : goal.returns-in-Report
returns-in-Report c =
    let a = c.args in
    reported a.question a.book.now a.prices.now c.in-Report.is c.report_call.ensures

pub returns-in-List : goal.returns-in-List
returns-in-List c =
    let a = c.args in
    listed a.question a.book.now a.prices.now c.in-List.is c.list_call.ensures
