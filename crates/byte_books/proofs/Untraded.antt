-- A call that makes no trade, on the rows of a book's bytes: what it comes to on the bytes. Assumes nothing.
use Prim.Native.Nat.{ℕ}
use mathlib.Core.Path.{◌≡◌, ap, ◌∙◌}
use mathlib.Core.List.{List}
use Rattle.model.specs.declared.Day.{Day}
use Rattle.model.specs.declared.CancelAnswer.{CancelAnswer}
use Rattle.model.specs.Calls.{cancel_call}
use Rattle.book.specs.Promises.{cancel_left}
use Rattle.records.specs.Layout.{day_in, book_in, book_bytes, over}
use Rattle.byte_books.specs.declared.BookAsked.{BookAsked}
use Rattle.byte_books.specs.declared.BookAsked.TheVariants.{Cancel}
use Rattle.byte_books.specs.declared.BookReply as BookReply
use Rattle.byte_books.specs.declared.ReadAsked.{ReadAsked}
use Rattle.byte_books.specs.declared.ReadReply.{ReadReply}
use Rattle.byte_books.specs.Changing.{BookOutcome, cancelled, change_left, book_call, book_on, Changed}
use Rattle.byte_books.specs.Reading.{read_call, read_on}
use Rattle.model.specs.declared.Order.{Order}

-- a cancel on the day that the bytes hold
pub cancel_changed :
    (day : List ℕ) (rows rows' : List Order) {asked : BookAsked} {account number : ℕ} {d : Day} {r : CancelAnswer}
    → asked ≡ Cancel account number
    → d ≡ day_in day
    → cancel_left r rows' ≡ cancel_call d account number rows
    → change_left (BookReply.TheVariants.Cancel r) rows' ≡ book_call (day_in day) rows asked
unfolding book_call
cancel_changed day rows rows' {asked} {account} {number} e f p =
    rw e (ap cancelled (p ∙ ap (λ (x : Day). cancel_call x account number rows) f))

module _ (day book : List ℕ) (rows : List Order) (b : rows ≡ book_in book) where
  pub rows_changed :
      (asked : BookAsked) (rows' : List Order) {r : BookReply.BookReply} {left : List ℕ}
      → change_left r rows' ≡ book_call (day_in day) rows asked
      → left ≡ over (book_bytes rows') book
      → Changed (book_on day book asked) book r left
  rows_changed asked rows' {r} p w =
      let o : change_left r rows' ≡ book_on day book asked = p ∙ rw b in
      record {
        told = ap (λ (o : BookOutcome). o.reply) o;
        places = w ∙ ap (λ (o : BookOutcome). over (book_bytes o.book) book) o;
      }

  pub rows_read : {d : Day} → d ≡ day_in day → (asked : ReadAsked) {r : ReadReply} → r ≡ read_call d rows asked → r ≡ read_on day book asked
  rows_read e asked p = p ∙ rw (e, b)
