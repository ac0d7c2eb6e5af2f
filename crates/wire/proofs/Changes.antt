-- An opening and a cancel on bytes: refused by a length with every byte as it was, or day and book are those of the outcome.
-- Assumes nothing.
use Prim.Native.Nat.{ℕ, ◌/◌, ◌<◌}
use mathlib.Core.Path.{◌≡◌}
use mathlib.Core.Logic.{⊎_elim}
use mathlib.Core.Bool.{◌&&◌, and-false}
use mathlib.Core.List.{List}
use lib.ListN.{length}
use borrow.Author.Tests.{eq-eqb, ne_eqb}
use Rattle.model.specs.declared.Day.{Day}
use Rattle.model.specs.declared.OpenReply as OpenReply
use Rattle.model.specs.Limits.{is_price}
use Rattle.model.specs.Sound.{is_mark}
use Rattle.model.specs.Refusals.{◌when◌, first_of}
use Rattle.model.specs.Calls.{open_rules, open_call, cancel_rules, cancel_call}
use Rattle.model.specs.Replies.{open_numbers, cancel_numbers}
use Rattle.records.specs.Layout.{AllBytes, day_in, day_bytes, book_in, book_bytes, over}
use Rattle.records.proofs.Back.{day_kept, book_kept}
use Rattle.book.specs.Promises.{cancel_refused}
use Rattle.byte_books.specs.declared.BookAsked as BookAsked
use Rattle.byte_books.specs.declared.BookReply as BookReply
use Rattle.byte_books.specs.Changing.{book_call, book_on, Changed}
use Rattle.wire.specs.Exports.{book_left, open_on, day_left, open_leaves, cancel_leaves}
use Rattle.wire.specs.Pairs.{book_numbers, unread_numbers, day_by, change_leaves}
use Rattle.wire.proofs.Refused.{Unread, too_many, too_many_unsound, Answered}

-- ---- a book of too many places

too_many_open :
    (close mark : ℕ) (book : List ℕ)
    → 4096 < length book / 40
    → open_call close mark (book_in book) ≡ record { reply = OpenReply.TheVariants.Refused 14; book = book_in book }
unfolding open_call open_rules first_of ◌when◌
too_many_open close mark book m = rw (too_many book m, and-false (is_price close && is_mark mark))

too_many_cancel :
    (d : Day) (account number : ℕ) (book : List ℕ)
    → 4096 < length book / 40
    → cancel_call d account number (book_in book) ≡ record { answer = cancel_refused d 15; book = book_in book }
unfolding cancel_call cancel_rules first_of ◌when◌
too_many_cancel d account number book m = rw (too_many_unsound d book m)

module _ (day book reply : List ℕ) where
  -- ---- nothing but the reply is written

  pub change_unread :
      (asked : BookAsked.BookAsked) {r : ℕ} {reply' : List ℕ}
      → Unread day book
      → Answered (unread_numbers asked) reply r reply'
      → AllBytes day
      → AllBytes book
      → book_left r day book reply' ≡ change_leaves asked day book reply
  unfolding change_leaves unread_numbers open_leaves open_on day_left cancel_leaves
  change_unread (BookAsked.TheVariants.Open close mark) u a sd sb =
      let b : over (book_bytes (book_in book)) book ≡ book = book_kept book sb in
      ⊎_elim (λ h. rw (ne_eqb (length day) 352 h) (cc (a.0, a.1)))
      (λ h. rw (eq-eqb (length day) 352 h.0, too_many_open close mark book h.1) (cc (a.0, a.1)))
      u
  change_unread (BookAsked.TheVariants.Cancel account number) u a sd sb =
      let b : over (book_bytes (book_in book)) book ≡ book = book_kept book sb in
      ⊎_elim (λ h. rw (ne_eqb (length day) 352 h) (cc (a.0, a.1)))
      (λ h.
      let d : over (day_bytes (day_in day)) day ≡ day = day_kept day h.0 sd in
      rw (eq-eqb (length day) 352 h.0, too_many_cancel (day_in day) account number book h.1) (cc (a.0, a.1)))
      u

  -- ---- the call's outcome

  pub change_answered :
      (asked : BookAsked.BookAsked) {told : BookReply.BookReply} {day' left reply' : List ℕ} {r : ℕ}
      → length day ≡ 352
      → Changed (book_on day book asked) book told left
      → day' ≡ day_by told day
      → Answered (book_numbers told) reply r reply'
      → book_left r day' left reply' ≡ change_leaves asked day book reply
  unfolding change_leaves book_numbers day_by book_call open_leaves open_on cancel_leaves
  change_answered (BookAsked.TheVariants.Open close mark) {told} {day'} {left} {reply'} {r} h s y a =
      let o = open_call close mark (book_in book) in
      let n : Answered (open_numbers o.reply) reply r reply' = rw s.told at a in
      let z : day' ≡ day_left o.reply day = rw s.told at y in
      let p : left ≡ over (book_bytes o.book) book = s.places in
      rw (eq-eqb (length day) 352 h) (cc (n.0, n.1))
  change_answered (BookAsked.TheVariants.Cancel account number) {told} {day'} {left} {reply'} {r} h s y a =
      let o = cancel_call (day_in day) account number (book_in book) in
      let n : Answered (cancel_numbers o.answer.reply) reply r reply' = rw s.told at a in
      let z : day' ≡ over (day_bytes o.answer.day) day = rw s.told at y in
      let p : left ≡ over (book_bytes o.book) book = s.places in
      rw (eq-eqb (length day) 352 h) (cc (n.0, n.1))
