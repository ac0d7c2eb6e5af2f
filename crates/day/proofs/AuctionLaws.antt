-- The auction report and the price list: when they are refused, and what they come to. Assumes nothing.
use Prim.Native.Nat.{ℕ, ◌+◌, ◌≤◌, min}
use mathlib.Core.Path.{◌≡◌, refl, ap, ◌∙◌}
use mathlib.Core.Bool.{Bool, true, false}
use mathlib.Core.List.{List, ◌++◌}
use lib.ListN.{length, get_or, drop}
use Rattle.model.specs.declared.Order.{Order}
use Rattle.model.specs.declared.Day.{Day}
use Rattle.model.specs.declared.ReportReply as ReportReply
use Rattle.model.specs.declared.ListReply as ListReply
use Rattle.model.specs.Lists.{from}
use Rattle.model.specs.Refusals.{◌when◌, first_of, unsound}
use Rattle.model.specs.Auction.{auction_price}
use Rattle.model.specs.AuctionCalls.{report_rules, report_at, report_call, list_rules, due, list_call}
use Rattle.book.specs.Writing.{fitted}
use Rattle.auction.specs.declared.Run.{Run}
use Rattle.auction.specs.Fitting.{run_within}
use Rattle.auction.proofs.Writing.{run_small, run_fits, run_fitted}
use Rattle.day.specs.declared.auctions.Listing.{Listing}
use Rattle.day.specs.declared.auctions.Listing.TheVariants.{Refused, Prices}
use Rattle.day.specs.Listings.{list_run, list_reply, list_prices}
use Rattle.book.specs.Promises.{list_left}

-- ---- what a listing leaves of a lent list

pub list_untouched : (lent : List ℕ) {told : Listing} {n : ℕ} → told ≡ Refused n → lent ≡ list_prices lent told
unfolding list_prices
list_untouched lent e = rw e

pub list_wrote :
    (lent : List ℕ) {told : Listing} {run : Run} {after : List ℕ}
    → told ≡ Prices run
    → after ≡ from run.first run.count ++ drop run.count lent
    → after ≡ list_prices lent told
unfolding list_prices
list_wrote lent e w = rw e w

module _ (d : Day) (book : List Order) where
  -- ---- the report

  pub report_refused : unsound d book ≡ true → ReportReply.TheVariants.Refused 15 ≡ report_call d book
  unfolding report_call report_rules first_of ◌when◌
  report_refused u = rw u

  pub report_accepted :
      {p : ℕ} {reply : ReportReply.ReportReply}
      → unsound d book ≡ false
      → p ≡ auction_price d book
      → reply ≡ report_at p book
      → reply ≡ report_call d book
  unfolding report_call report_rules first_of ◌when◌
  report_accepted u e f = rw u (f ∙ ap (λ (q : ℕ). report_at q book) e)

  -- ---- the price list

  pub list_refused : (places asked : ℕ) → unsound d book ≡ true → Refused 15 ≡ list_run d book places asked
  unfolding list_run list_rules first_of ◌when◌
  list_refused places asked u = rw u

  pub list_accepted :
      (places asked : ℕ) {r : Run}
      → unsound d book ≡ false
      → r ≡ run_within places (due asked book)
      → Prices r ≡ list_run d book places asked
  unfolding list_run list_rules first_of ◌when◌
  list_accepted places asked u e = rw u (ap Prices e)

  -- it has no more prices than there are places, and none past the last
  module _ (places asked : ℕ) {r : Run} where
    run_is : (b : Bool) → unsound d book ≡ b → Prices r ≡ list_run d book places asked → r ≡ run_within places (due asked book)
    unfolding list_run list_rules first_of ◌when◌
    run_is true u e = let z : Prices r ≡ Refused 15 = rw u at e in cc
    run_is false u e = let z : Prices r ≡ Prices (run_within places (due asked book)) = rw u at e in cc

    pub list_fits : Prices r ≡ list_run d book places asked → (r.count ≤ places) × (r.first + r.count ≤ 1_000_000)
    list_fits e =
        let f : r ≡ run_within places (due asked book) = run_is (unsound d book) refl e in
        (run_fits book asked places f, run_small book asked places f)

  -- written into a lent list the run is the call
  module _ (asked : ℕ) (lent : List ℕ) where
    abbrev here : Listing
    here = list_run d book (length lent) asked

    by_soundness : (b : Bool) → unsound d book ≡ b → list_left (list_reply here) (list_prices lent here) ≡ list_call d asked book lent
    unfolding list_run list_call list_rules first_of ◌when◌ list_reply list_prices run_within fitted
    by_soundness true u = rw u
    by_soundness false u =
        rw u
        (ap (λ (ps : List ℕ). list_left (ListReply.TheVariants.Listed (min (length lent) (length (due asked book))) (get_or (due asked book) (length lent) 0)) ps)
        (run_fitted book asked lent refl))

    pub list_written : {told : Listing} → told ≡ here → list_left (list_reply told) (list_prices lent told) ≡ list_call d asked book lent
    list_written e = rw e (by_soundness (unsound d book) refl)

    -- as the code has it
    pub list_told :
        {told : Listing} {reply : ListReply.ListReply} {after : List ℕ}
        → told ≡ here
        → reply ≡ list_reply told
        → after ≡ list_prices lent told
        → list_left reply after ≡ list_call d asked book lent
    list_told e f g = rw (f, g) (list_written e)
