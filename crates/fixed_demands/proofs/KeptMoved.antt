-- The fixed-price book through a move of the clock: it stays sound where it waits, when it is matched at 15:05 and when it lapses at 15:30, and
-- its figures fit. And through what happens to the main book alone, which moves the close before 15:00 only. Assumes nothing.
use Prim.Native.Nat.{ℕ, ◌+◌, ◌*◌, ◌≤◌, ◌<◌}
use mathlib.Core.Path.{◌≡◌, sym, ap, ◌∙◌}
use mathlib.Core.Logic.{⊎_elim}
use mathlib.Core.Bool.{true, false, not}
use mathlib.Core.List.{List}
use native.Mathlib.Nat.{mul-zero}
use native.Mathlib.Decide.{dec_le}
use native.Mathlib.Omega.{arith}
use lib.ListN.{length}
use borrow.Author.Tests.{not-true}
use Rattle.model.specs.declared.Order.{Order}
use Rattle.model.specs.declared.Trade.{Trade}
use Rattle.model.specs.declared.Day.{Day}
use Rattle.model.specs.declared.Fixed.{Fixed}
use Rattle.model.specs.Lists.{total}
use Rattle.model.specs.Book.{free, is_live}
use Rattle.model.specs.Matching.{filled, settle}
use Rattle.model.specs.Figures.{money, close_price}
use Rattle.model.specs.FixedBook.{is_void}
use Rattle.book.specs.Standing.{Standing}
use Rattle.book.proofs.Lists.{each, each_keep, kept, length_keep, total_keep}
use Rattle.book.proofs.Kept.{free_number, standing_keep}
use Rattle.book.proofs.Counting.{fewer_orders}
use Rattle.soundness.specs.SoundDay.{Place}
use Rattle.arrivals.proofs.Places.{kept_rises}
use Rattle.fixed_demands.specs.FixedDay.{of_fixed, FixedFigures, FixedDay}
use Rattle.fixed_demands.specs.Moving.{Misses, valid, matched_trades, matched_book}
use Rattle.fixed_demands.proofs.Lining.{nr, settled_rises}
use Rattle.fixed_demands.proofs.FixedPlaces.{places_later, places_settled, settled_right, book_line, book_stands, lined_day}
use Rattle.fixed_demands.proofs.Matched.{matches_money, settled_total, one_side_left}

-- ---- 15:05

-- the day before, and the day after the matching at this close
pub record FivePastDays (close : ℕ) (book : List Order) (d e : Day) : Type 0 where
  pub previous : e.close ≡ d.close
  pub limited : e.limited ≡ d.limited
  pub before : d.time < 54_300
  pub reached : 54_300 ≤ e.time
  pub at_close : close_price e ≡ close
  pub issued : e.fixed.issued ≡ d.fixed.issued
  pub shares : e.fixed.shares ≡ d.fixed.shares + filled (matched_trades close book)
  pub money : e.fixed.money ≡ d.fixed.money + money (matched_trades close book)

module _ (close : ℕ) (book : List Order) (d e : Day) (g : FixedFigures d) (f : FixedDay d book) (w : FivePastDays close book d e) where
  abbrev os : List Order
  os = valid close book

  abbrev ts : List Trade
  ts = matched_trades close book

  valid_stands : Standing os
  valid_stands = standing_keep (λ o. not (is_void close o)) book (book_stands d book f g.issued)

  valid_total : total (λ (o : Order). o.left) (settle ts os) + 2 * filled ts ≤ total (λ (o : Order). o.left) book
  valid_total =
      omega (arith, settled_total os valid_stands close, total_keep (λ (o : Order). o.left) (λ o. not (is_void close o)) book)

  -- nothing had traded before
  none_before : (d.fixed.shares ≡ 0) × (d.fixed.money ≡ 0)
  none_before =
      let z : d.fixed.shares ≡ 0 = g.none_yet w.before in
      (z, g.money ∙ ap (λ n. close_price d * n) z ∙ mul-zero (close_price d))

  pub five_past_figures : FixedFigures e
  five_past_figures =
      record {
        issued = omega (arith, w.issued, g.issued);
        shares = omega (arith, w.issued, w.shares, valid_total, f.sums);
        money =
            w.money
            ∙ ap (λ n. n + money ts) none_before.1
            ∙ ap (λ n. 0 + n) (matches_money os valid_stands close)
            ∙ products close (close_price e) (filled ts) e.fixed.shares (sym w.at_close) (omega (arith, w.shares, none_before.0));
        none_yet = λ l. absurd (omega (arith, w.reached));
      }
    where
      products : (a b m n : ℕ) → a ≡ b → m ≡ n → 0 + a * m ≡ b * n
      products a b m n x y = rw (x, y) (omega arith)

  -- matched: none is void, one side is left at most, and the sums hold
  pub five_past_kept : e.time < 55_800 → FixedDay e (matched_book close book)
  five_past_kept until =
      let t : 54_300 ≤ e.time = w.reached in
      lined_day e (length book) (settle ts os)
      (places_settled e ts os
      (places_later d e (record { close = w.previous; limited = w.limited; issued = omega (arith, w.issued) }) os
      (each_keep (Place (of_fixed d)) (λ o. not (is_void close o)) book f.places)))
      (settled_rises ts 0 os (kept_rises nr free free_number (λ o. not (is_void close o)) book (book_line d book f)))
      (omega (arith, fewer_orders ts os, length_keep is_live os, length_keep (λ o. not (is_void close o)) book))
      (omega arith)
      until
      (λ _. one_side_left os valid_stands close)
      (λ _. rw w.at_close (settled_right close ts os (each (λ o. not (is_void close o) ≡ true) (λ o. is_void close o ≡ false) os (λ o n. not-true (is_void close o) n) (kept (λ o. not (is_void close o)) book))))
      (omega (arith, w.issued, w.shares, valid_total, f.sums))

-- ---- the book waits

-- the figures of the fixed-price book stay, and from 15:05 on the close does
pub record Waits (d e : Day) : Type 0 where
  pub previous : e.close ≡ d.close
  pub limited : e.limited ≡ d.limited
  pub fixed : e.fixed ≡ d.fixed
  pub later : d.time ≤ e.time
  pub at_close : 54_300 ≤ d.time → close_price e ≡ close_price d

module _ (d e : Day) (w : Waits d e) where
  passed_before : (c : ℕ) → Misses c d.time e.time → c ≤ e.time → c ≤ d.time
  passed_before c m h = ⊎_elim (λ l. absurd (omega arith)) (λ l. l) m

  same_issued : e.fixed.issued ≡ d.fixed.issued
  same_issued = ap (λ (x : Fixed). x.issued) w.fixed

  same_shares : e.fixed.shares ≡ d.fixed.shares
  same_shares = ap (λ (x : Fixed). x.shares) w.fixed

  same_money : e.fixed.money ≡ d.fixed.money
  same_money = ap (λ (x : Fixed). x.money) w.fixed

  pub main_figures : FixedFigures d → FixedFigures e
  main_figures g =
      record {
        issued = omega (arith, same_issued, g.issued);
        shares = omega (arith, same_issued, same_shares, g.shares);
        money = same_money ∙ g.money ∙ at_close ∙ ap (λ n. close_price e * n) (sym same_shares);
        none_yet = λ l. same_shares ∙ g.none_yet (omega (arith, w.later));
      }
    where
      -- before 15:05 nothing has traded, whatever the close
      at_close : close_price d * d.fixed.shares ≡ close_price e * d.fixed.shares
      at_close = elim (dec_le 54_300 d.time) [
        | yes l ↦ rw (w.at_close l)
        | no l ↦
            let z : d.fixed.shares ≡ 0 = g.none_yet (omega arith) in
            (ap (λ n. close_price d * n) z ∙ mul-zero (close_price d)) ∙ sym (ap (λ n. close_price e * n) z ∙ mul-zero (close_price e))
      ]

  -- where neither 15:05 nor 15:30 is passed
  pub main_kept :
      (book : List Order)
      → Misses 54_300 d.time e.time
      → Misses 55_800 d.time e.time
      → FixedDay d book
      → FixedDay e book
  main_kept book five_past_lem end f =
      record {
        places = places_later d e (record { close = w.previous; limited = w.limited; issued = omega (arith, same_issued) }) book f.places;
        line = f.line;
        early = λ l. f.early (omega (arith, w.later));
        ended = λ l. f.ended (passed_before 55_800 end l);
        one_sided = λ l. f.one_sided (passed_before 54_300 five_past_lem l);
        none_void = λ l. let k : 54_300 ≤ d.time = passed_before 54_300 five_past_lem l in rw (w.at_close k) (f.none_void k);
        sums = omega (arith, same_issued, same_shares, f.sums);
      }
