-- An opening and a cancel as one call.
use Rattle.std.specs.Prelude.{ℕ, ◌≡◌, List}
use Rattle.model.specs.declared.Order.{Order}
use Rattle.model.specs.declared.Day.{Day}
use Rattle.model.specs.Calls.{OpenOutcome, open_call, CancelOutcome, cancel_call}
use Rattle.records.specs.Layout.{day_in, book_in, book_bytes, over}
use Rattle.byte_books.specs.declared.BookAsked as BookAsked
use Rattle.byte_books.specs.declared.BookReply as BookReply

pub record BookOutcome : Type 0 where
  pub reply : BookReply.BookReply
  pub book : List Order

abbrev pub opened : OpenOutcome → BookOutcome
opened o = record { reply = BookReply.TheVariants.Open o.reply; book = o.book }

abbrev pub cancelled : CancelOutcome → BookOutcome
cancelled o = record { reply = BookReply.TheVariants.Cancel o.answer; book = o.book }

-- an opening reads nothing of the old day
unfoldable pub book_call : Day → List Order → BookAsked.BookAsked → BookOutcome
book_call d book (BookAsked.TheVariants.Open close mark) = opened (open_call close mark book)
book_call d book (BookAsked.TheVariants.Cancel account number) = cancelled (cancel_call d account number book)

-- what a call on rows has left
abbrev pub change_left : BookReply.BookReply → List Order → BookOutcome
change_left reply rows = record { reply = reply; book = rows }

-- ---- on bytes

abbrev pub book_on : List ℕ → List ℕ → BookAsked.BookAsked → BookOutcome
book_on day book asked = book_call (day_in day) (book_in book) asked

-- what a call has answered and left of a book's bytes: those of an outcome
pub record Changed (o : BookOutcome) (book : List ℕ) (r : BookReply.BookReply) (left : List ℕ) : Type 0 where
  pub told : r ≡ o.reply
  pub places : left ≡ over (book_bytes o.book) book
