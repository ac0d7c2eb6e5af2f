-- The auction report and the price list as one call.
use Rattle.std.specs.Prelude.{ℕ, List}
use Rattle.model.specs.declared.Order.{Order}
use Rattle.model.specs.declared.Day.{Day}
use Rattle.model.specs.declared.ReportReply as ReportReply
use Rattle.model.specs.AuctionCalls.{report_call}
use Rattle.day.specs.declared.auctions.Listing as Listing
use Rattle.day.specs.Listings.{list_run}
use Rattle.records.specs.Layout.{day_in, book_in}
use Rattle.byte_books.specs.declared.ReadAsked as ReadAsked
use Rattle.byte_books.specs.declared.ReadReply as ReadReply

unfoldable pub read_refusal : ReadAsked.ReadAsked → ℕ → ReadReply.ReadReply
read_refusal ReadAsked.TheVariants.Report n = ReadReply.TheVariants.Report (ReportReply.TheVariants.Refused n)
read_refusal (ReadAsked.TheVariants.List places asked) n = ReadReply.TheVariants.List (Listing.TheVariants.Refused n)

unfoldable pub read_call : Day → List Order → ReadAsked.ReadAsked → ReadReply.ReadReply
read_call d book ReadAsked.TheVariants.Report = ReadReply.TheVariants.Report (report_call d book)
read_call d book (ReadAsked.TheVariants.List places asked) = ReadReply.TheVariants.List (list_run d book places asked)

abbrev pub read_on : List ℕ → List ℕ → ReadAsked.ReadAsked → ReadReply.ReadReply
read_on day book asked = read_call (day_in day) (book_in book) asked
