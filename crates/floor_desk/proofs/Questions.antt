-- What each question is answered with, as the definitions have it: report, price list, claim, verdict and screen. Assumes nothing.
use Prim.Native.Nat.{ℕ, suc, ◌+◌, ◌≤◌, ◌<◌, min}
use mathlib.Core.Path.{◌≡◌, refl, sym, ap, subst, ◌∙◌}
use mathlib.Core.Bool.{true, false}
use mathlib.Core.List.{List, [], ◌∷◌, ◌++◌, map-append}
use native.Mathlib.Numerals.{add-one}
use native.Mathlib.Omega.{arith}
use lib.Dec.{ltb}
use lib.ListN.{length, take, drop, set, length-map, length-replicate}
use lib.Seq.{length-take-le, take-suc-set, take_at}
use borrow.Author.Tests.{lt-ltb, le-ltb}
use Rattle.model.specs.declared.Order.{Order}
use Rattle.model.specs.declared.Day.{Day}
use Rattle.model.specs.declared.ListReply as ListReply
use Rattle.model.specs.Lists.{from}
use Rattle.model.specs.Replies.{list_numbers}
use Rattle.model.specs.AuctionCalls.{report_call, list_call}
use Rattle.model.specs.Lines.{reply, refusal_line, reply_line}
use Rattle.model.specs.Session.{Desk}
use Rattle.book.specs.Promises.{list_left}
use Rattle.judge.specs.declared.Claim.{Claim}
use Rattle.judge.specs.declared.Verdict.{Verdict}
use Rattle.judge.specs.declared.Verdict.TheVariants.{Refused, Yes, No}
use Rattle.judge.specs.Judging.{judge_call, verdict_numbers}
use Rattle.auction.specs.declared.Run.{Run}
use Rattle.day.specs.declared.auctions.Listing as Listing
use Rattle.day.specs.Listings.{list_run, list_reply, list_prices}
use Rattle.day.proofs.AuctionLaws.{list_fits, list_written}
use Rattle.printing.specs.Printing.{Wrote}
use Rattle.printing.proofs.Printed.{put_long, line_within, reply_fits}
use Rattle.printing.proofs.Replied.{refusal_fits, answer_fits}
use Rattle.floor_printing.proofs.Signing.{report_fits}
use Rattle.floor_printing.proofs.Listing.{from_long, prices_fit_lem}
use Rattle.floor_printing.proofs.Screening.{screen_fits_lem}
use Rattle.floors.specs.declared.Question.{Question}
use Rattle.floors.specs.declared.Question.TheVariants.{Report, Prices, Claims, Judge, Screen}
use Rattle.floors.specs.Floor.{report_line, price_lines, written_in, list_lines, lent_prices, screen_lines, question_text, noted_then}
use Rattle.floor_desk.specs.declared.Told.{Told}
use Rattle.floor_desk.specs.Floors.{noted_in, verdict_line, Replied}

-- ---- the price list

listed_fits : (r : ListReply.ListReply) → length (reply_line 78 (list_numbers r)) ≤ 110
unfolding list_numbers
listed_fits (ListReply.TheVariants.Refused n) = answer_fits 78 n (0 ∷ 0 ∷ []) (omega arith)
listed_fits (ListReply.TheVariants.Listed count next) = answer_fits 78 0 (count ∷ next ∷ []) (omega arith)

module _ (d : Day) (book : List Order) (asked count places : ℕ) (lent : places ≡ min count 4_096)
    {told : Listing.Listing} (run : told ≡ list_run d book places asked) {reply : ListReply.ListReply} (is : reply ≡ list_reply told) where
  lent_long : places ≡ length (lent_prices count)
  unfolding lent_prices
  lent_long = lent ∙ sym (length-replicate (min count 4_096) 0)

  outcome : list_left (list_reply told) (list_prices (lent_prices count) told) ≡ list_call d asked book (lent_prices count)
  outcome = list_written d book asked (lent_prices count) (run ∙ ap (λ (n : ℕ). list_run d book n asked) lent_long)

  lines : list_lines (list_left (list_reply told) (list_prices (lent_prices count) told)) ≡ list_lines (list_call d asked book (lent_prices count))
  lines = ap list_lines outcome

  pub list_refused : {n : ℕ} → told ≡ Listing.TheVariants.Refused n → reply_line 78 (list_numbers reply) ≡ list_lines (list_call d asked book (lent_prices count))
  unfolding list_lines list_reply written_in price_lines
  list_refused e = rw is (rw e (rw e at lines))

  module _ {r : Run} (e : told ≡ Listing.TheVariants.Prices r) where
    pub list_small : (r.count ≤ 4_096) × (r.first + r.count ≤ 1_000_000)
    list_small =
        let f = list_fits d book places asked (sym e ∙ run) in
        (omega (arith, f.0, lent), f.1)

    pub list_listed : price_lines (from r.first r.count) ++ reply_line 78 (list_numbers reply) ≡ list_lines (list_call d asked book (lent_prices count))
    unfolding list_lines list_reply list_prices written_in
    list_listed =
        let front : take r.count (from r.first r.count ++ drop r.count (lent_prices count)) ≡ from r.first r.count =
        take_at (from r.first r.count) (drop r.count (lent_prices count)) r.count (from_long r.first r.count) in
        rw is (rw e (ap (λ (l : List ℕ). price_lines l ++ reply_line 78 (list_numbers (ListReply.TheVariants.Listed r.count r.next))) (sym front) ∙ rw e at lines))

module _ (first n : ℕ) {o o₁ : List ℕ} {at p : ℕ} (w : Wrote o at (price_lines (from first n)) o₁ p) (few : n ≤ 4_096) (room : at + 94_318 ≤ length o) where
  pub prices_left : p + 110 ≤ length o₁
  prices_left = omega (arith, w.place, put_long w, prices_fit_lem (from first n), from_long first n)

  pub prices_within : {o₂ : List ℕ} {q : ℕ} (r : ListReply.ListReply) → Wrote o₁ p (reply_line 78 (list_numbers r)) o₂ q → q ≤ length o₂
  prices_within r v = line_within v (listed_fits r) prices_left

pub refusal_within : {o o₁ : List ℕ} {at q : ℕ} (r : ListReply.ListReply) → at + 94_318 ≤ length o → Wrote o at (reply_line 78 (list_numbers r)) o₁ q → q ≤ length o₁
refusal_within r h w = line_within w (listed_fits r) (omega arith)

-- ---- claims

noted_long : (claims : List Claim) (noted : ℕ) → noted ≤ length claims → length (noted_in claims noted) ≡ noted
noted_long claims noted h = length-take-le noted claims h

noted_more :
    (claims : List Claim) (noted : ℕ) (c : Claim)
    → noted < length claims
    → noted_in (set claims noted c) (noted + 1) ≡ noted_in claims noted ++ (c ∷ [])
noted_more claims noted c h = rw add-one (take-suc-set claims noted c h)

verdict_fits : (v : Verdict) → length (reply_line 74 (verdict_numbers v)) ≤ 110
unfolding verdict_numbers
verdict_fits (Refused n) = answer_fits 74 n (0 ∷ []) (omega arith)
verdict_fits Yes = answer_fits 74 0 (1 ∷ []) (omega arith)
verdict_fits No = answer_fits 74 0 (0 ∷ []) (omega arith)

module _ {before after : List ℕ} {at : ℕ} (claims : List Claim) (noted : ℕ) where
  module _ (c : Claim) (full : length claims ≡ 4_096) (room : at + 110 ≤ length before) (s : Desk) where
    pub claim_noted :
        (n next : ℕ)
        → noted < length claims
        → n ≡ noted + 1
        → Wrote before at (reply 81 (n ∷ [])) after next
        → Replied (Claims c) s claims noted before at (set claims noted c) after (record { noted = n; next = next })
    unfolding question_text noted_then
    claim_noted n next h e w =
        let l : length (noted_in claims noted) ≡ noted = noted_long claims noted (omega arith) in
        let m : suc (length (noted_in claims noted)) ≡ n = omega arith in
        let t : ltb (length (noted_in claims noted)) 4_096 ≡ true = lt-ltb (length (noted_in claims noted)) 4_096 (omega arith) in
        record {
          text = rw (t, m) w;
          fits = line_within w (omega (arith, reply_fits 81 (n ∷ []))) room;
          kept = rw (t, e) (noted_more claims noted c h);
          few = omega arith;
        }

    pub claim_refused :
        (next : ℕ)
        → length claims ≤ noted
        → noted ≤ 4_096
        → Wrote before at (refusal_line 13) after next
        → Replied (Claims c) s claims noted before at claims after (record { noted = noted; next = next })
    unfolding question_text noted_then
    claim_refused next h few w =
        let l : length (noted_in claims noted) ≡ noted = noted_long claims noted (omega arith) in
        let t : ltb (length (noted_in claims noted)) 4_096 ≡ false = le-ltb (length (noted_in claims noted)) 4_096 (omega arith) in
        record { text = rw t w; fits = line_within w (refusal_fits 13) room; kept = rw t; few = few }

  -- ---- the answers to the other questions

  module _ (s : Desk) (next : ℕ) (few : noted ≤ 4_096) where
    pub report_told :
        Wrote before at (report_line (report_call s.day s.book)) after next
        → at + 94_318 ≤ length before
        → Replied Report s claims noted before at claims after (record { noted = noted; next = next })
    unfolding question_text noted_then
    report_told w h = record { text = w; fits = line_within w (report_fits (report_call s.day s.book)) (omega arith); kept = refl; few = few }

    pub list_told :
        (asked count : ℕ)
        → Wrote before at (list_lines (list_call s.day asked s.book (lent_prices count))) after next × (next ≤ length after)
        → Replied (Prices asked count) s claims noted before at claims after (record { noted = noted; next = next })
    unfolding question_text noted_then
    list_told asked count w = record { text = w.0; fits = w.1; kept = refl; few = few }

    pub verdict_told :
        (price : ℕ)
        → Wrote before at (verdict_line s.day price s.book (noted_in claims noted)) after next
        → at + 94_318 ≤ length before
        → Replied (Judge price) s claims noted before at claims after (record { noted = 0; next = next })
    unfolding question_text noted_then
    verdict_told price w h = record {
      text = w;
      fits = line_within w (verdict_fits (judge_call s.day price s.book (noted_in claims noted))) (omega arith);
      kept = refl;
      few = omega arith;
    }

    pub screen_told :
        Wrote before at (screen_lines s.day.screen) after next
        → at + 94_318 ≤ length before
        → Replied Screen s claims noted before at claims after (record { noted = noted; next = next })
    unfolding question_text noted_then
    screen_told w h = record {
      text = w;
      fits = omega (arith, w.place, put_long w, screen_fits_lem s.day.screen);
      kept = refl;
      few = few;
    }

-- the question is the one that it was taken for
pub as_question :
    {q x : Question} {s : Desk} {claims claims' : List Claim} {noted : ℕ} {before after : List ℕ} {at : ℕ} {r : Told}
    → q ≡ x
    → Replied x s claims noted before at claims' after r
    → Replied q s claims noted before at claims' after r
as_question {s = s} {claims} {claims'} {noted} {before} {after} {at} {r} e k =
    subst (λ (y : Question). Replied y s claims noted before at claims' after r) (sym e) k
