-- The auction report and the price list on bytes: refused by a length, or the call; and the prices of a run at the front of the lent
-- bytes are those of the list. Assumes nothing.
use Prim.Native.Nat.{ℕ, ◌+◌, ◌/◌, ◌≤◌, ◌<◌}
use mathlib.Core.Path.{◌≡◌, refl, sym, ap, ◌∙◌}
use mathlib.Core.Logic.{⊎_elim}
use mathlib.Core.Bool.{Bool, true, false}
use mathlib.Core.List.{List}
use native.Mathlib.Omega.{arith}
use lib.ListN.{length}
use borrow.Author.Tests.{eq-eqb, ne_eqb}
use Rattle.model.specs.declared.Day.{Day}
use Rattle.model.specs.declared.ListReply as ListReply
use Rattle.model.specs.Lists.{from}
use Rattle.model.specs.Refusals.{◌when◌, first_of}
use Rattle.model.specs.AuctionCalls.{ListOutcome, report_rules, report_call, list_rules}
use Rattle.model.specs.Replies.{list_numbers}
use Rattle.auction.specs.declared.Run.{Run}
use Rattle.day.specs.declared.auctions.Listing as Listing
use Rattle.book.specs.Promises as promises
use Rattle.day.specs.Listings.{list_run, list_reply, list_prices}
use Rattle.day.proofs.AuctionLaws.{list_fits, list_written}
use Rattle.records.specs.Layout.{AllBytes, bytes, day_in, book_in, prices_in, over}
use Rattle.records.proofs.Back.{length_prices_in, prices_kept, prices_front}
use Rattle.records.proofs.Counted.{length_from}
use Rattle.replies.specs.Words.{report_words}
use Rattle.byte_books.specs.declared.ReadAsked as ReadAsked
use Rattle.byte_books.specs.declared.ReadReply as ReadReply
use Rattle.byte_books.specs.Reading.{read_refusal, read_call, read_on}
use Rattle.wire.specs.Exports.{has_day, report_on, report_left, report_leaves, list_on, list_left, list_leaves}
use Rattle.wire.specs.Pairs.{read_numbers, read_from, PricesFit, prices_by}
use Rattle.wire.proofs.Refused.{Unread, too_many_unsound, Answered}

-- a book of too many places
too_many_read : (d : Day) (book : List ℕ) (asked : ReadAsked.ReadAsked) → 4096 < length book / 40 → read_call d (book_in book) asked ≡ read_refusal asked 15
unfolding read_call read_refusal report_call report_rules list_run list_rules first_of ◌when◌
too_many_read d book ReadAsked.TheVariants.Report m = rw (too_many_unsound d book m)
too_many_read d book (ReadAsked.TheVariants.List places asked) m = rw (too_many_unsound d book m)

module _ (day book : List ℕ) (asked : ReadAsked.ReadAsked) {r : ReadReply.ReadReply} where
  pub read_unread : Unread day book → r ≡ read_refusal asked 15 → r ≡ read_from day book asked
  unfolding read_from
  read_unread u e =
      ⊎_elim (λ h. rw (ne_eqb (length day) 352 h) e)
      (λ h. rw (eq-eqb (length day) 352 h.0, too_many_read (day_in day) book asked h.1) e)
      u

  pub read_read : length day ≡ 352 → r ≡ read_on day book asked → r ≡ read_from day book asked
  unfolding read_from
  read_read h e = rw (eq-eqb (length day) 352 h) e

-- ---- the report

module _ (day book : List ℕ) where
  report_by : (b : Bool) → has_day day ≡ b → read_from day book ReadAsked.TheVariants.Report ≡ ReadReply.TheVariants.Report (report_on day book)
  unfolding read_from report_on read_call read_refusal
  report_by true e = rw e
  report_by false e = rw e

  pub report_answered :
      (reply : List ℕ) {told : ReadReply.ReadReply} {reply' : List ℕ} {r : ℕ}
      → told ≡ read_from day book ReadAsked.TheVariants.Report
      → Answered (read_numbers told) reply r reply'
      → report_left r reply' ≡ report_leaves (report_on day book) reply
  unfolding report_leaves read_numbers
  report_answered reply {told} {reply'} {r} e a =
      let t : told ≡ ReadReply.TheVariants.Report (report_on day book) = e ∙ report_by (has_day day) refl in
      let n : Answered (report_words (report_on day book)) reply r reply' = rw t at a in
      cc (n.0, n.1)

-- ---- the price list

-- the bytes of a run, at the front of the lent ones, are those of the list
prices_by_lem :
    (prices : List ℕ) (l : Listing.Listing)
    → PricesFit (ReadReply.TheVariants.List l) prices
    → AllBytes prices
    → prices_by (ReadReply.TheVariants.List l) prices ≡ over (bytes (list_prices (prices_in prices) l)) prices
unfolding prices_by list_prices
prices_by_lem prices (Listing.TheVariants.Refused n) f s = sym (prices_kept prices s)
prices_by_lem prices (Listing.TheVariants.Prices r) f s =
    let c : length (from r.first r.count) ≡ r.count = length_from r.first r.count in
    let k : r.count ≤ length prices / 8 = (f r refl).0 in
    rw c at (sym (prices_front (from r.first r.count) prices s (omega arith)))

module _ (day book prices : List ℕ) (asked : ℕ) where
  abbrev asks : ReadAsked.ReadAsked
  asks = ReadAsked.TheVariants.List (length prices / 8) asked

  run_fits : (b : Bool) → has_day day ≡ b → (r : Run) → read_from day book asks ≡ ReadReply.TheVariants.List (Listing.TheVariants.Prices r) → (r.count ≤ length prices / 8) × (r.first + r.count ≤ 1_000_000)
  unfolding read_from read_call read_refusal
  run_fits true e r f =
      let g : ReadReply.TheVariants.List (list_run (day_in day) (book_in book) (length prices / 8) asked) ≡ ReadReply.TheVariants.List (Listing.TheVariants.Prices r) = rw e at f in
      let h : Listing.TheVariants.Prices r ≡ list_run (day_in day) (book_in book) (length prices / 8) asked = cc in
      list_fits (day_in day) (book_in book) (length prices / 8) asked h
  run_fits false e r f =
      let g : ReadReply.TheVariants.List (Listing.TheVariants.Refused 15) ≡ ReadReply.TheVariants.List (Listing.TheVariants.Prices r) = rw e at f in
      let z : ◌≡◌ {A = ℕ} 0 1 = cc in
      absurd (omega arith)

  pub prices_fit_lem : {told : ReadReply.ReadReply} → told ≡ read_from day book asks → PricesFit told prices
  prices_fit_lem e r f = run_fits (has_day day) refl r (sym e ∙ f)

  -- what was read, and that it is the list's outcome
  record IsList (told : ReadReply.ReadReply) : Type 0 where
    listing : Listing.Listing
    same : told ≡ ReadReply.TheVariants.List listing
    outcome : promises.list_left (list_reply listing) (list_prices (prices_in prices) listing) ≡ list_on day asked book prices

  list_by : (b : Bool) → has_day day ≡ b → IsList (read_from day book asks)
  unfolding read_from read_call read_refusal list_on list_reply list_prices
  list_by true e =
      let n : length prices / 8 ≡ length (prices_in prices) = sym (length_prices_in prices) in
      let t : list_run (day_in day) (book_in book) (length prices / 8) asked ≡ list_run (day_in day) (book_in book) (length (prices_in prices)) asked = rw n in
      rw e
      (record {
        listing = list_run (day_in day) (book_in book) (length prices / 8) asked;
        same = refl;
        outcome = rw e (list_written (day_in day) (book_in book) asked (prices_in prices) t);
      })
  list_by false e = rw e (record { listing = Listing.TheVariants.Refused 15; same = refl; outcome = rw e })

  pub list_answered :
      (reply : List ℕ) {told : ReadReply.ReadReply} {prices' reply' : List ℕ} {r : ℕ}
      → told ≡ read_from day book asks
      → prices' ≡ prices_by told prices
      → Answered (read_numbers told) reply r reply'
      → AllBytes prices
      → list_left r prices' reply' ≡ list_leaves (list_on day asked book prices) prices reply
  unfolding list_leaves read_numbers
  list_answered reply {told} {prices'} {reply'} {r} e w a s =
      let i = list_by (has_day day) refl in
      let on = list_on day asked book prices in
      let t : told ≡ ReadReply.TheVariants.List i.listing = e ∙ i.same in
      let p : list_reply i.listing ≡ on.reply = ap (λ (o : ListOutcome). o.reply) i.outcome in
      let q : list_prices (prices_in prices) i.listing ≡ on.prices = ap (λ (o : ListOutcome). o.prices) i.outcome in
      let f : PricesFit (ReadReply.TheVariants.List i.listing) prices = λ x y. prices_fit_lem e x (t ∙ y) in
      let v : prices' ≡ prices_by (ReadReply.TheVariants.List i.listing) prices = rw t at w in
      let k : prices' ≡ over (bytes on.prices) prices = v ∙ prices_by_lem prices i.listing f s ∙ rw q in
      let m : Answered (list_numbers (list_reply i.listing)) reply r reply' = rw t at a in
      let n : Answered (list_numbers on.reply) reply r reply' = rw p at m in
      cc (n.0, n.1)
