-- Demand 3: the laws of the auction and of the pairing, for a sound day. Assumes nothing.
use Prim.Native.Nat.{ℕ, ◌+◌, ◌-◌, ◌<◌}
use mathlib.Core.Path.{◌≡◌, refl, sym, ap, ◌∙◌}
use mathlib.Core.Logic.{⊎_elim}
use mathlib.Core.Bool.{Bool, true, false, ◌&&◌}
use mathlib.Core.List.{List, [], ◌∷◌}
use native.Mathlib.Omega.{arith}
use lib.ListN.{length, get_or}
use lib.Dec.{ltb}
use borrow.Author.Tests.{ltb-true, ltb-false, not-false}
use Rattle.model.specs.declared.Order.{Order}
use Rattle.model.specs.declared.Day.{Day}
use Rattle.model.specs.Lists.{any, from, among}
use Rattle.model.specs.Figures.{reference}
use Rattle.model.specs.Auction.{qualifying, left_by, auction_price}
use Rattle.model.specs.Sound.{has_places, sound, crosses}
use Rattle.model.specs.Refusals.{◌when◌, first_of, unsound}
use Rattle.model.specs.ClockCall.{auction_trades}
use Rattle.model.specs.AuctionCalls.{due, list_rules, list_call}
use Rattle.model.proofs.Bools.{and_left, and_right, not_both, true_or_false, and_both}
use Rattle.book.specs.Standing.{Standing, Ranked}
use Rattle.book.proofs.Crossing.{uncrossed, not_crossed}
use Rattle.soundness.proofs.SoundDays.{ranked}
use Rattle.model.specs.Words.{Rising, Sound}
use Rattle.auction.specs.Spans.{ends}
use Rattle.auction.proofs.Runs.{run_length, run_at}
use Rattle.auction.proofs.Spanning.{Spans, span_law}
use Rattle.auction.proofs.Writing.{due_none, due_all, due_from}
use Rattle.auction.proofs.Rules.{listed_qualifies, qualifies_listed, due_names, qualifying_rises, no_cross_empty, empty_no_cross, one_left}
use Rattle.pairing.proofs.Auctioned.{buys_filled, sells_filled}
use Rattle.pairing.proofs.Auctions.{auction_trades_are, auction_filled, auction_priced, auction_cases, afterwards, afterwards_stands, afterwards_uncrossed}
use Rattle.demands.proofs.Partners.{partners}
use Rattle.demands.specs.Pricing.{Listing, Called, OneLeft, TradesThere}

-- ---- a sound day

pub not_unsound : (d : Day) (book : List Order) → Sound d book → unsound d book ≡ false
unfolding unsound
not_unsound d book s = rw (s.0, s.1)

pub sound_if : (d : Day) (book : List Order) → unsound d book ≡ false → Sound d book
unfolding unsound
sound_if d book u =
    let h = not-false (has_places book && sound d book) u in
    (and_left (has_places book) (sound d book) h, and_right (has_places book) (sound d book) h)

pub sound_ranked : (d : Day) (book : List Order) → Sound d book → Ranked book
sound_ranked d book s = ranked d book (and_both s.0 s.1)

pub sound_stands : (d : Day) (book : List Order) → Sound d book → Standing book
sound_stands d book s = (sound_ranked d book s).stands

-- ---- the list

run_rises : (a n : ℕ) (ps : List ℕ) → from a n ≡ ps → Rising ps
run_rises a n ps e i j h k =
    let l : j < n = omega (arith, ap length e, run_length a n) in
    let x : get_or ps i 0 ≡ a + i = sym (ap (λ (l : List ℕ). get_or l i 0) e) ∙ run_at a n i 0 (omega arith) in
    let y : get_or ps j 0 ≡ a + j = sym (ap (λ (l : List ℕ). get_or l j 0) e) ∙ run_at a n j 0 l in
    omega arith

none_rises : (ps : List ℕ) → ps ≡ [] → Rising ps
none_rises ps e i j h k = absurd (omega (arith, ap length e))

due_rises : (book : List Order) (asked : ℕ) → Rising (due asked book)
due_rises book asked =
    ⊎_elim
    (λ k. none_rises (due asked book) (due_none book asked refl k.0))
    (λ k. go (ends (qualifying book)).lo (ends (qualifying book)).hi k refl refl (ltb asked (ends (qualifying book)).lo) refl)
    (span_law book)
  where
    go :
        (lo hi : ℕ)
        → Spans book lo hi
        → (ends (qualifying book)).lo ≡ lo
        → (ends (qualifying book)).hi ≡ hi
        → (b : Bool)
        → ltb asked lo ≡ b
        → Rising (due asked book)
    go lo hi k x y true e =
        run_rises lo (hi + 1 - lo) (due asked book)
        (rw (x, y) at (due_all book asked {s = ends (qualifying book)} refl (λ z. omega (arith, k.from_1)) (omega (arith, ltb-true asked lo e))))
    go lo hi k x y false e =
        run_rises asked (hi + 1 - asked) (due asked book)
        (rw y at (due_from book asked {s = ends (qualifying book)} refl (λ z. omega (arith, k.from_1)) (omega (arith, ltb-false asked lo e))))

module _ (book : List Order) (s : Standing book) where
  pub listing : Listing book
  listing =
      record {
        listed = λ p. ((λ e. listed_qualifies book e), (λ k. qualifies_listed book k));
        rising = qualifying_rises book;
        empty_exactly = (
          λ e. uncrossed book s (empty_no_cross book s e),
          λ h. no_cross_empty book s (not_crossed book h),
        );
      }

  pub one : (qualifying book ≡ [] → ⊥) → (ref : ℕ) → OneLeft book ref
  one n =
      ⊎_elim (λ t. one_left book s t) (λ f. absurd (n (no_cross_empty book s f))) (true_or_false (crosses book))

  module _ (d : Day) where
    price_left : (qualifying book ≡ [] → ⊥) → left_by book (reference d) ≡ auction_price d book ∷ []
    unfolding auction_price
    price_left n =
        let e = (one n (reference d)).1 in
        e ∙ ap (λ (p : ℕ). p ∷ []) (sym (ap (λ (l : List ℕ). get_or l 0 0) e))

    pub trades_there : TradesThere d book (auction_trades d book)
    trades_there =
        let p = auction_price d book in
        let e = auction_trades_are book s d in
        record {
          price = price_left;
          at_price = auction_priced book s d;
          in_all = auction_filled book s d;
          partners = rw e (partners p book s);
          buys = rw e (buys_filled p book s);
          sells = rw e (sells_filled p book s);
          none = λ z.
              ⊎_elim (λ k. absurd (unlisted z (qualifies_listed book k.qualifies))) (λ k. k.1) (auction_cases book s d);
          after = uncrossed (afterwards book s d) (afterwards_stands book s d) (afterwards_uncrossed book s d);
        }
      where
        unlisted : qualifying book ≡ [] → among (qualifying book) (auction_price d book) ≡ true → ⊥
        unlisted z e = unfold among any in not_both (rw z at e) refl

-- ---- the calls

pub called : (d : Day) (book : List Order) → Sound d book → (asked : ℕ) (lent : List ℕ) → Called d book asked lent
unfolding list_call list_rules first_of ◌when◌
called d book s asked lent =
    record {
      due_ones = due_names book asked;
      due_rising = due_rises book asked;
      told = rw (not_unsound d book s);
      written = rw (not_unsound d book s);
    }
