-- Every situation of the starred table is right: a to f by a book's two turning points, the rest by computing. Assumes nothing.
use Rattle.std.specs.Prelude.{if◌then◌else◌}
use Prim.Native.Nat.{ℕ, ◌-◌, min}
use mathlib.Core.Path.{◌≡◌, refl, sym, ap, ◌∙◌}
use mathlib.Core.Bool.{Bool, true, false, ◌&&◌}
use mathlib.Core.List.{List, [], ◌∷◌, ◌++◌, map}
use lib.ListN.{length, get_or, take, drop, replicate}
use lib.IntN.{ℤ, pos}
use lib.Dec.{leb, eqb}
use borrow.Author.Tests.{eqb-true, ne_eqb}
use Rattle.model.specs.declared.Order.{Order}
use Rattle.model.specs.declared.Asked.{Asked}
use Rattle.model.specs.declared.Trade.{Trade}
use Rattle.model.specs.declared.Screen.{Screen}
use Rattle.model.specs.declared.Day.{Day}
use Rattle.model.specs.declared.OrderReply as OrderReply
use Rattle.model.specs.Lists.{keep, all, any, total, from, among, once, different}
use Rattle.model.specs.Clock.{closed, later_rows, holding, row_at, phase_at, takes_orders, continuous, is_time, matching_from}
use Rattle.model.specs.Book.{free, is_live, stands_on, better, ahead, insert, in_priority, queue, other, head_price, best, arranged, may_follow, in_order}
use Rattle.model.specs.Matching.{meets, within, five_best, at_five_best, trade_with, sweep, filled, levels, last_price, first_price, is_in, filled_of, less_by, settle}
use Rattle.model.specs.Limits.{is_price, is_quantity, in_band, buy_in_range, sell_in_range, in_range}
use Rattle.model.specs.Figures.{no_screen, next_number, reference, close_price}
use Rattle.model.specs.Halts.{runs, phase_now}
use Rattle.model.specs.Screen.{update}
use Rattle.model.specs.Entry.{best_within, entry_price, opposite, entry_trades, rest_price, base}
use Rattle.model.specs.Sound.{has_places, is_mark, may_stand, sound_figures, is_free, is_order_of, is_order, own_numbers, is_empty, crosses, between, shares_fit, prices_fit, turnover_fits, is_led_to, is_used, halt_fits, fixed_fits, blocks_fit, sound_anywhere}
use Rattle.model.specs.Refusals.{◌when◌, first_of, unsound}
use Rattle.model.specs.Calls.{order_rules, ended, joined, entered}
use Rattle.model.specs.Auction.{distance, shares_of, demand, supply, volume, surplus, auction_price}
use Rattle.model.specs.AuctionCalls.{report_rules, report_at, report_call, list_rules, due, list_call}
use Rattle.model.specs.Replies.{resting_of, withdrawn_of, entry_numbers, order_numbers, report_numbers, list_numbers}
use Rattle.model.specs.Words.{Each}
use Rattle.model.proofs.Bools.{and_left, and_right}
use Rattle.book.proofs.Orderly.{told_ordered}
use Rattle.soundness.specs.SoundDay.{SoundDay}
use Rattle.soundness.proofs.HaltClauses.{says_halt}
use Rattle.soundness.proofs.EveningClauses.{says_evening}
use Rattle.soundness.proofs.SoundDays.{says_anywhere, day_stands}
use Rattle.auction.specs.Spans.{turned, gap, flatter, nearest_in}
use Rattle.demands.specs.Starred.{Report, Prices, SurplusAt, Enter, no_trade, answer_to, Right, situations}
use Rattle.demands.proofs.Cases.{order_cases}
use Rattle.demands.proofs.Pricings.{not_unsound}
use Rattle.demands.proofs.Wholes.{whole_of}
use Rattle.demands.proofs.BeforeScreens.{BeforeScreen, before_updated, then_sound}
use Rattle.demands.proofs.Totals.{totals_none}
use Rattle.demands.proofs.Screened.{Shown, update_fits}
use Rattle.demands.proofs.TurnTests.{turn_test, left_from, tested_list, tested_left}

-- ---- a day on which nothing has traded, once its screen is counted

-- all of the test but the screen
unfoldable ready : Day → List Order → Bool
ready d os = has_places os && sound_anywhere d os && in_order os && halt_fits d && (fixed_fits d && blocks_fit d) && eqb d.shares 0

module _ (d : Day) (os : List Order) (blank : d.screen ≡ no_screen) (passes : ready d os ≡ true) where
  abbrev placed : Bool
  placed = has_places os && sound_anywhere d os

  -- the test up to the halt
  abbrev halted : Bool
  halted = placed && in_order os && halt_fits d

  abbrev evening : Bool
  evening = fixed_fits d && blocks_fit d

  until_halt_lem : halted ≡ true
  unfolding ready
  until_halt_lem = and_left halted evening (and_left (halted && evening) (eqb d.shares 0) passes)

  day : SoundDay d os
  day =
      (says_anywhere d os).0
      (and_right (has_places os) (sound_anywhere d os)
      (and_left placed (in_order os) (and_left (placed && in_order os) (halt_fits d) until_halt_lem)))

  before : BeforeScreen d os
  unfolding ready
  before =
      let i = and_left (placed && in_order os) (halt_fits d) until_halt_lem in
      record {
        places = and_left (has_places os) (sound_anywhere d os) (and_left placed (in_order os) i);
        day = day;
        ordered = told_ordered os (day_stands d os day) (and_right placed (in_order os) i);
        halt = (says_halt d).0 (and_right (placed && in_order os) (halt_fits d) until_halt_lem);
        evening = (says_evening d).0 (and_right halted evening (and_left (halted && evening) (eqb d.shares 0) passes));
      }

  none_traded : d.shares ≡ 0
  unfolding ready
  none_traded = eqb-true d.shares 0 (and_right (halted && evening) (eqb d.shares 0) passes)

  shows : Shown d
  unfolding no_screen
  shows =
      record {
        last = ap (λ (s : Screen). s.last) blank ∙ sym (day.untraded none_traded).1;
        enclosed =
            record {
              none = λ _. (ap (λ (s : Screen). s.low) blank, ap (λ (s : Screen). s.high) blank);
              some = λ n. absurd (n none_traded);
            };
      }

  fine : unsound (update [] os d) os ≡ false
  fine =
      not_unsound (update [] os d) os
      (then_sound (update [] os d) os (before_updated [] os d os before)
      (update_fits d d [] os (whole_of d os day).figures (λ _. refl) shows (totals_none d) refl))

-- ---- the auction calls there, by a book's two turning points

-- what the price list tells where these prices qualify
unfoldable told_list : ℕ → ℕ → List ℕ → List ℤ
told_list asked places qs =
    let ps : List ℕ = keep (leb asked) qs in
    let lent : List ℕ = replicate places 0 in
    map pos
    (0 ∷ min (length lent) (length ps) ∷ get_or ps (length lent) 0 ∷ (take (length lent) ps ++ drop (length ps) lent))

module _ (d : Day) (os : List Order) (lo end : ℕ) (blank : d.screen ≡ no_screen) (passes : ready d os ≡ true) (sells : turn_test os 1 lo ≡ true) (buys : turn_test os 0 end ≡ true) where
  list_told : (asked places : ℕ) → answer_to (update [] os d) os (Prices asked places) ≡ told_list asked places (from lo (end - lo))
  unfolding answer_to list_call list_rules first_of ◌when◌ due list_numbers told_list
  list_told asked places = rw (fine d os blank passes, tested_list os lo end sells buys)

  report_told : answer_to (update [] os d) os Report ≡ report_numbers (report_at (get_or (left_from os (reference d) lo end) 0 0) os)
  unfolding answer_to report_call report_rules first_of ◌when◌ auction_price
  report_told = rw (fine d os blank passes, tested_left os lo end sells buys (reference (update [] os d)), same_reference)
    where
      same_reference : reference (update [] os d) ≡ reference d
      same_reference = unfold reference update in refl

surplus_told : (d : Day) (os : List Order) (p : ℕ) → answer_to d os (SurplusAt p) ≡ surplus os p ∷ []
unfolding answer_to
surplus_told d os p = refl

-- a row, and the rows behind it
infixr 5 ◌and◌
◌and◌ : {A B : Type 0} → A → B → A × B
a and b = (a, b)

-- ---- an order there

-- the reply's numbers, and where the rest stands in the book
unfoldable told : ℕ → OrderReply.OrderReply → List Order → List ℤ
told number reply os = map pos (order_numbers reply ++ (head_price (keep (λ r. eqb r.number number) os) ∷ []))

-- no rule but 15 reads the screen, nor does anything that is told
unfoldable told_order : Day → List Order → Asked → List ℤ
told_order d os a =
    let lent : List Trade = replicate (length os) no_trade in
    let n : ℕ = first_of (drop 1 (order_rules d a os (length lent))) in
    if eqb n 0
    then told (next_number d) (entered d a os lent).answer.reply (entered d a os lent).book
    else told (next_number d) (OrderReply.TheVariants.Refused n) os

module _ (d : Day) (os : List Order) (blank : d.screen ≡ no_screen) (passes : ready d os ≡ true) where
  same_rule :
      (a : Asked) (room : ℕ) → first_of (order_rules (update [] os d) a os room) ≡ first_of (drop 1 (order_rules d a os room))
  unfolding order_rules first_of ◌when◌ entry_trades next_number phase_now runs base reference update
  same_rule a room = rw (fine d os blank passes)

  order_told : (a : Asked) → answer_to (update [] os d) os (Enter a) ≡ told_order d os a
  unfolding answer_to told_order told entered entry_trades next_number phase_now runs update
  order_told a =
      let lent = replicate (length os) no_trade in
      let same = same_rule a (length lent) in
      order_cases (update [] os d) a os lent (λ o. told (next_number d) o.answer.reply o.book ≡ told_order d os a)
      (λ z. rw (sym same ∙ z))
      (λ n. rw (ne_eqb (first_of (drop 1 (order_rules d a os (length lent)))) 0 (λ z. n (same ∙ z)), same))

orders_right : Each Right (drop 17 situations)
unfolding situations ready told_order told keep all any total among once different closed later_rows holding row_at phase_at takes_orders continuous is_time free is_live stands_on better ahead insert in_priority queue other head_price best arranged may_follow in_order meets within five_best at_five_best trade_with sweep filled levels last_price first_price is_in filled_of less_by settle is_price is_quantity in_band buy_in_range sell_in_range in_range next_number reference runs phase_now best_within entry_price opposite entry_trades rest_price base has_places is_mark may_stand sound_figures is_free is_order_of is_order own_numbers is_empty crosses between shares_fit prices_fit turnover_fits is_led_to is_used halt_fits fixed_fits blocks_fit close_price matching_from sound_anywhere ◌when◌ first_of order_rules ended joined entered resting_of withdrawn_of entry_numbers order_numbers
orders_right =
    order_told _ _ refl refl _
    and order_told _ _ refl refl _
    and order_told _ _ refl refl _
    and order_told _ _ refl refl _
    and order_told _ _ refl refl _
    and order_told _ _ refl refl _
    and order_told _ _ refl refl _
    and order_told _ _ refl refl _
    and order_told _ _ refl refl _
    and order_told _ _ refl refl _
    and order_told _ _ refl refl _
    and order_told _ _ refl refl _
    and order_told _ _ refl refl _
    and tt

pub starred : Each Right situations
unfolding situations keep all any total from is_time free is_live stands_on better ahead insert in_priority queue head_price best may_follow in_order is_price in_band reference runs has_places is_mark may_stand sound_figures is_free is_order_of is_order own_numbers is_empty crosses between shares_fit prices_fit turnover_fits is_led_to is_used halt_fits fixed_fits blocks_fit close_price matching_from sound_anywhere ready distance shares_of demand supply volume surplus report_at report_numbers turned gap flatter nearest_in turn_test left_from told_list
starred =
    -- a
    list_told _ _ 1_000_000 1 refl refl refl refl 1 1
    and report_told _ _ 1_000_000 1 refl refl refl refl
    -- b
    and list_told _ _ 1000 991 refl refl refl refl 1 1
    and report_told _ _ 1000 991 refl refl refl refl
    -- c
    and list_told _ _ 1000 1001 refl refl refl refl 1 2
    and report_told _ _ 1000 1001 refl refl refl refl
    -- d
    and list_told _ _ 990 1011 refl refl refl refl 1 22
    and report_told _ _ 990 1011 refl refl refl refl
    and report_told _ _ 990 1011 refl refl refl refl
    and report_told _ _ 990 1011 refl refl refl refl
    -- e
    and list_told _ _ 1000 1011 refl refl refl refl 1 12
    and surplus_told _ _ 1000
    and report_told _ _ 1000 1011 refl refl refl refl
    -- f
    and list_told _ _ 1000 1002 refl refl refl refl 1 3
    and surplus_told _ _ 1000
    and surplus_told _ _ 1001
    and report_told _ _ 1000 1002 refl refl refl refl
    -- g to l
    and orders_right
