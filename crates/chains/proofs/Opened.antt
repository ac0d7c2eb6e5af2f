-- An opening from C that returns 0 leaves a fresh day in memory that has room for it, so chains begin there. Assumes nothing.
use Prim.Native.Nat.{ℕ}
use mathlib.Core.Path.{◌≡◌, refl, sym, ap, ◌∙◌}
use mathlib.Core.Bool.{Bool, true, false, cond}
use mathlib.Core.List.{List}
use native.Mathlib.Omega.{arith}
use lib.ListN.{length, length-map}
use lib.Dec.{eqb}
use borrow.Author.Tests.{eqb-false}
use Rattle.model.specs.declared.Order.{Order}
use Rattle.model.specs.declared.OpenReply as OpenReply
use Rattle.model.specs.Book.{free}
use Rattle.model.specs.Figures.{fresh_day}
use Rattle.model.specs.Refusals.{first_of}
use Rattle.model.specs.Calls.{OpenOutcome, open_rules, cleared, open_call}
use Rattle.model.specs.Replies.{open_numbers}
use Rattle.model.specs.Session.{Desk}
use Rattle.model.specs.Words.{Each, Sound}
use Rattle.book.proofs.Lists.{every}
use Rattle.demands.specs.Running.{Fresh}
use Rattle.demands.proofs.Chains.{from_opening}
use Rattle.demands.proofs.Demands.{keeping}
use Rattle.demands.proofs.Elements.{each_map}
use Rattle.records.specs.Layout.{day_in, day_bytes, book_in, book_bytes, over, returned}
use Rattle.wire.specs.Exports.{has_day, open_on, day_left, BookLeft, open_leaves}
use Rattle.wire.specs.Promises.{OpenPromise}
use Rattle.chains.specs.Bytes.{Memory, desk_in, door, OpenedOn, ByteChains}
use Rattle.chains.proofs.Ranges.{fresh_range}
use Rattle.chains.proofs.Fitting.{WordAccount, both, desk_read}
use Rattle.chains.proofs.Bytes.{HasDay, day_room, keeps_step}

-- what an accepted opening gives
abbrev fresh_outcome : ℕ → ℕ → List Order → OpenOutcome
fresh_outcome close mark book =
    record { reply = OpenReply.TheVariants.Opened (fresh_day close mark); book = cleared book }

accepted : (close mark : ℕ) (book : List Order) → returned (open_numbers (open_call close mark book).reply) ≡ 0 → open_call close mark book ≡ fresh_outcome close mark book
unfolding open_call open_numbers
accepted close mark book = go (eqb n 0) refl
  where
    n : ℕ
    n = first_of (open_rules close mark book)

    refused : OpenOutcome
    refused = record { reply = OpenReply.TheVariants.Refused n; book = book }

    go :
        (b : Bool) → eqb n 0 ≡ b
        → returned (open_numbers (cond b (fresh_outcome close mark book) refused).reply) ≡ 0
        → cond b (fresh_outcome close mark book) refused ≡ fresh_outcome close mark book
    go true e r = refl
    go false e r = absurd (eqb-false n 0 e r)

cleared_words : (book : List Order) → Each WordAccount (cleared book)
unfolding cleared free
cleared_words book = each_map WordAccount (λ (_ : Order). free) book (every (λ (_ : Order). WordAccount free) book (λ _. omega arith))

cleared_places : (book : List Order) → length (cleared book) ≡ length book
unfolding cleared
cleared_places book = length-map book (λ (_ : Order). free)

module _ (day book reply day' book' reply' : List ℕ) (close mark : ℕ) (p : OpenPromise day book reply close mark 0 day' book' reply') where
  told : returned (open_numbers (open_on close mark day book).reply) ≡ 0
  unfolding open_leaves
  told = ap (λ (x : BookLeft). x.returns) (sym p)

  opening_by :
      (b : Bool) → has_day day ≡ b → (has_day day ≡ true) × (open_on close mark day book ≡ open_call close mark (book_in book))
  unfolding open_on open_numbers
  opening_by true e = (e, rw e refl)
  opening_by false e =
      let t : ◌≡◌ {A = ℕ} 14 0 = rw e at told in absurd (omega (arith, t))

  had_day : has_day day ≡ true
  had_day = (opening_by (has_day day) refl).0

  opening : open_on close mark day book ≡ open_call close mark (book_in book)
  opening = (opening_by (has_day day) refl).1

  is_fresh : open_call close mark (book_in book) ≡ fresh_outcome close mark (book_in book)
  is_fresh = accepted close mark (book_in book) (ap (λ (o : OpenOutcome). returned (open_numbers o.reply)) (sym opening) ∙ told)

  outcome : open_on close mark day book ≡ fresh_outcome close mark (book_in book)
  outcome = opening ∙ is_fresh

  left_day : day' ≡ over (day_bytes (fresh_day close mark)) day
  unfolding open_leaves day_left
  left_day = ap (λ (x : BookLeft). x.day) p ∙ ap (λ (o : OpenOutcome). day_left o.reply day) outcome

  left_book : book' ≡ over (book_bytes (cleared (book_in book))) book
  unfolding open_leaves
  left_book = ap (λ (x : BookLeft). x.book) p ∙ ap (λ (o : OpenOutcome). over (book_bytes o.book) book) outcome

  begins : Sound (fresh_day close mark) (cleared (book_in book))
  begins =
      ap_sound (keeping.fresh close mark (book_in book) (fresh_day close mark) (ap (λ (o : OpenOutcome). o.reply) is_fresh))
    where
      ap_sound : Sound (fresh_day close mark) (open_call close mark (book_in book)).book → Sound (fresh_day close mark) (cleared (book_in book))
      ap_sound k = rw (ap (λ (o : OpenOutcome). o.book) is_fresh) at k

  stored : both (day_in day') (book_in book') ≡ both (fresh_day close mark) (cleared (book_in book))
  stored =
      rw (left_day, left_book)
      (desk_read (fresh_day close mark) (cleared (book_in book)) begins (fresh_range close mark) day book (cleared_words (book_in book)) (cleared_places (book_in book)))

  room : has_day day' ≡ true
  room = rw left_day (day_room (fresh_day close mark) day had_day)

  fresh : Fresh (both (day_in day') (book_in book'))
  fresh =
      record {
        close = close;
        mark = mark;
        places = book_in book;
        opened = ap (λ (o : OpenOutcome). o.reply) is_fresh ∙ ap (λ (s : Desk). OpenReply.TheVariants.Opened s.day) (sym stored);
        book = ap (λ (o : OpenOutcome). o.book) is_fresh ∙ ap (λ (s : Desk). s.book) (sym stored);
      }

module _ (m : Memory) (o : OpenedOn m) where
  abbrev old : Memory
  old = o.before

  pub begun_room : HasDay m
  begun_room =
      room old.day.bytes old.book.bytes o.reply.bytes m.day.bytes m.book.bytes o.buffer.bytes o.close o.mark o.promised

  pub begun_fresh : Fresh (desk_in m)
  begun_fresh =
      fresh old.day.bytes old.book.bytes o.reply.bytes m.day.bytes m.book.bytes o.buffer.bytes o.close o.mark o.promised

pub byte_chains : ByteChains
byte_chains =
    record { chain = λ m o ls c. from_opening door HasDay keeps_step m (begun_room m o) (begun_fresh m o) ls c }
