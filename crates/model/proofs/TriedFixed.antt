-- Fixed-price orders after the close, by evaluation: each refusal on both sides of its bound and in its turn, orders that match by
-- time alone, what drops out at 15:05 and lapses at 15:30, the published totals, cancels, and each clause of soundness. Assumes
-- nothing.
use Prim.Native.Nat.{ℕ}
use mathlib.Core.Path.{◌≡◌, refl}
use mathlib.Core.Bool.{Bool, true, false, not, ◌||◌}
use mathlib.Core.List.{List, [], ◌∷◌, map}
use lib.ListN.{replicate, drop}
use Rattle.model.specs.declared.Order.{Order}
use Rattle.model.specs.declared.Asked.{Asked}
use Rattle.model.specs.declared.AskedFixed.{AskedFixed}
use Rattle.model.specs.declared.Trade.{Trade}
use Rattle.model.specs.declared.Day.{Day}
use Rattle.model.specs.declared.Remainder.TheVariants.{Nothing, Rests}
use Rattle.model.specs.declared.OrderReply as OrderReply
use Rattle.model.specs.declared.CancelReply as CancelReply
use Rattle.model.specs.Lists.{keep, all, any, total, from, among, once, different}
use Rattle.model.specs.Clock.{is_time, closed, later_rows, holding, row_at, phase_at, takes_orders, long_hours, confirming_from, matching_from, day_end, continuous, passed}
use Rattle.model.specs.Book.{free, is_live, stands_on, better, ahead, insert, in_priority, queue, other, head_price, best, arranged, may_follow, in_order}
use Rattle.model.specs.Arrival.{is_taken, in_places, may_arrive, in_arrival}
use Rattle.model.specs.Books.{with_fixed, with_blocks}
use Rattle.model.specs.Matching.{meets, within, five_best, at_five_best, trade_with, sweep, filled, levels, last_price, first_price, highest, lowest, is_in, filled_of, less_by, settle}
use Rattle.model.specs.Limits.{is_price, is_quantity, in_band, buy_in_range, sell_in_range, in_range}
use Rattle.model.specs.Figures.{no_level, no_levels, no_screen, at, next_number, money, tally, reference, open_price, close_price, with_fixed_figures, next_fixed, issue_fixed, tally_fixed, with_block_figures, tally_blocks, published_shares, published_turnover}
use Rattle.model.specs.Halts.{runs, phase_now, away, reach, halt_end, halting, fires, fired, resumed}
use Rattle.model.specs.Entry.{best_within, entry_price, opposite, entry_trades, base}
use Rattle.model.specs.Auction.{shares_of, demand, supply, volume, surplus}
use Rattle.model.specs.Screen.{level_at, levels_of, shown_price, screen_of, high_with, low_with, update, same_level, same_levels, same_surplus, same_screen}
use Rattle.model.specs.Pairing.{cut, head_less, pair, trades_at}
use Rattle.model.specs.FixedBook.{wrong_side, is_void, arrivals, matches, lined}
use Rattle.model.specs.Blocks.{undeclared, is_held, is_block, fits, confirmation, with_earliest, unnamed, in_turn, confirmations, none_held, held_in}
use Rattle.model.specs.Sound.{has_places, is_mark, may_stand, sound_figures, is_free, is_order_of, is_order, own_numbers, is_empty, crosses, between, shares_fit, prices_fit, turnover_fits, encloses, screen_fits, is_led_to, is_used, halt_fits, fixed_fits, blocks_fit, sound_anywhere, sound}
use Rattle.model.specs.SoundFixed.{one_sided, fixed_sums, sound_fixed}
use Rattle.model.specs.SoundBlocks.{is_undeclared, is_declaration, sound_blocks}
use Rattle.model.specs.Refusals.{◌when◌, first_of, unsound, unsound_fixed, unsound_blocks, unsound_books, Rule}
use Rattle.model.specs.Calls.{written, cleared, order_rules, ended, is_own}
use Rattle.model.specs.ClockCall.{auction_trades, auction, resume, lapse, pass, through, start, moved, clock_rules}
use Rattle.model.specs.FixedCalls.{arriving, fixed_trades, fixed_rules, fixed_entered, fixed_call, fixed_cancel_rules, fixed_cancel_call}
use Rattle.model.specs.AfterClose.{confirm_all, match_all, end_all, pass_after, through_after}
use Rattle.model.specs.AllCalls.{start_after, moved_on, move_trades, clock_all_rules, clock_all_call, ClockAllOutcome}
use Rattle.model.specs.Replies.{resting_of, withdrawn_of, entry_numbers, order_numbers, cancel_numbers, move_numbers}
use Rattle.model.specs.Session.{opened}
use Rattle.model.specs.Words.{held}
use Rattle.model.proofs.Examples.{order, trade, fixed_day, fixed_books}

abbrev asked : ℕ → ℕ → ℕ → ℕ → ℕ → AskedFixed
asked side account quantity price balance =
    record { side = side; account = account; quantity = quantity; price = price; balance = balance }

abbrev buys : ℕ → ℕ → AskedFixed
buys quantity price = asked 0 7 quantity price 0

abbrev sells : ℕ → ℕ → AskedFixed
sells quantity price = asked 1 8 quantity price 0

abbrev old : ℕ → Trade
old n = trade n n n n n n

-- a main book in which nobody waits
abbrev nobody : List Order
nobody = free ∷ []

-- ---- refusals, behind 15 (in the calls a screen shows the auction's price, which is too much to try): a day, an order, a book of
-- one free place and a list of no trade; the number

pub record Try : Type 0 where
  pub day : Day
  pub asked : AskedFixed
  pub refusal : ℕ

infix 74 ◌on◌gives◌
abbrev ◌on◌gives◌ : AskedFixed → Day → ℕ → Try
a on d gives n = record { day = d; asked = a; refusal = n }

unfoldable pub refusal_of : Try → ℕ
refusal_of r = first_of (drop 1 (fixed_rules r.day r.asked nobody (free ∷ []) 0))

-- a limited day with a previous close of 1000 on which nothing has traded
abbrev quiet : ℕ → Day
quiet time = fixed_day 1 time 0 0 0 0

abbrev hours : List Try
hours =
    (buys 100 1000 on quiet 33_299 gives 19)
    ∷ (buys 100 1000 on quiet 33_300 gives 0)
    ∷ (buys 100 1000 on quiet 33_900 gives 0)
    ∷ (buys 100 1000 on quiet 41_399 gives 0)
    ∷ (buys 100 1000 on quiet 41_400 gives 19)
    ∷ (buys 100 1000 on quiet 46_799 gives 19)
    ∷ (buys 100 1000 on quiet 46_800 gives 0)
    ∷ (buys 100 1000 on quiet 54_000 gives 0)
    ∷ (buys 100 1000 on quiet 55_799 gives 0)
    ∷ (buys 100 1000 on quiet 55_800 gives 19)
    ∷ []

-- side, account, quantity with its balance, price, band
abbrev forms : List Try
forms =
    (asked 2 7 100 1000 0 on quiet 33_300 gives 2)
    ∷ (asked 1 0 100 1000 0 on quiet 33_300 gives 3)
    ∷ (buys 99 1000 on quiet 33_300 gives 6)
    ∷ (buys 1_000_000 1000 on quiet 33_300 gives 0)
    ∷ (buys 1_000_001 1000 on quiet 33_300 gives 6)
    ∷ (asked 0 7 100 1000 100 on quiet 33_300 gives 6)
    ∷ (asked 1 8 99 1000 99 on quiet 33_300 gives 0)
    ∷ (asked 1 8 99 1000 98 on quiet 33_300 gives 6)
    ∷ (asked 1 8 0 1000 0 on quiet 33_300 gives 6)
    ∷ (buys 100 699 on quiet 33_300 gives 8)
    ∷ (buys 100 700 on quiet 33_300 gives 0)
    ∷ (buys 100 1300 on quiet 33_300 gives 0)
    ∷ (buys 100 1301 on quiet 33_300 gives 8)
    ∷ (buys 100 0 on fixed_day 0 33_300 0 0 0 0 gives 7)
    ∷ (buys 100 1 on fixed_day 0 33_300 0 0 0 0 gives 0)
    ∷ (buys 100 999_999 on fixed_day 0 33_300 0 0 0 0 gives 0)
    ∷ (buys 100 1_000_000 on fixed_day 0 33_300 0 0 0 0 gives 7)
    ∷ []

-- 20 from 15:05 on: the close is the last trade's price, else the previous close
abbrev wrong_sides : List Try
wrong_sides =
    (buys 100 999 on quiet 54_299 gives 0)
    ∷ (buys 100 999 on quiet 54_300 gives 20)
    ∷ (buys 100 1000 on quiet 54_300 gives 0)
    ∷ (sells 100 1001 on quiet 54_299 gives 0)
    ∷ (sells 100 1001 on quiet 54_300 gives 20)
    ∷ (sells 100 1000 on quiet 54_300 gives 0)
    ∷ (buys 100 1009 on fixed_day 1 54_300 0 0 0 1010 gives 20)
    ∷ (buys 100 1010 on fixed_day 1 54_300 0 0 0 1010 gives 0)
    ∷ (sells 100 1010 on fixed_day 1 54_300 0 0 0 1010 gives 0)
    ∷ (sells 100 1011 on fixed_day 1 54_300 0 0 0 1010 gives 20)
    ∷ []

-- each in its turn: the earlier number where two rules hold
abbrev turns : List Try
turns =
    (asked 2 0 100 1000 0 on quiet 33_300 gives 2)
    ∷ (asked 0 0 100 1000 0 on quiet 41_400 gives 3)
    ∷ (buys 99 1000 on quiet 41_400 gives 19)
    ∷ (buys 99 0 on quiet 33_300 gives 6)
    ∷ (buys 100 0 on quiet 33_300 gives 7)
    ∷ (buys 100 699 on quiet 54_300 gives 8)
    ∷ (buys 100 999 on fixed_day 1 54_300 999_999 0 0 0 gives 20)
    ∷ (buys 100 1000 on fixed_day 1 54_300 999_998 0 0 0 gives 0)
    ∷ (buys 100 1000 on fixed_day 1 54_300 999_999 0 0 0 gives 11)
    ∷ []

abbrev tries : List (List Try)
tries = hours ∷ forms ∷ wrong_sides ∷ turns ∷ []

pub refusals_tried : map (map refusal_of) tries ≡ map (map (λ (r : Try). r.refusal)) tries
unfolding keep all total long_hours matching_from free is_live stands_on is_price is_quantity in_band no_level no_levels no_screen money reference close_price with_fixed_figures next_fixed head_less pair wrong_side arrivals matches ◌when◌ first_of arriving fixed_trades fixed_rules refusal_of
refusals_tried = refl

-- the order of the tests, whatever the calls are given
abbrev numbers : List Rule → List ℕ
numbers rs = map (λ r. r.number) rs

pub check_orders :
    (d : Day) (a : AskedFixed) (m n : ℕ) (main book : List Order)
    → (numbers (fixed_rules d a main book n) ≡ 15 ∷ 2 ∷ 3 ∷ 19 ∷ 6 ∷ 7 ∷ 8 ∷ 20 ∷ 10 ∷ 11 ∷ 13 ∷ [])
    × (numbers (fixed_cancel_rules d m n main book) ≡ 15 ∷ 19 ∷ 12 ∷ [])
unfolding fixed_rules fixed_cancel_rules ◌when◌
check_orders d a m n main book = (refl, refl)

-- ---- an order that comes after 15:05: it meets the others by time alone, whatever their limits, at the close

-- three sells: the earliest has the worst limit
abbrev line : List Order
line = order 1 8 100 1000 2 ∷ order 1 9 250 990 3 ∷ order 1 8 100 980 6 ∷ order 0 0 0 0 0 ∷ []

-- mark, time, numbers issued, shares, money, last trade
abbrev late : Day
late = fixed_day 1 54_300 6 500 500_500 1001

abbrev told : AskedFixed → List Order → List Trade → List ℕ
told a book lent = order_numbers (fixed_call late a nobody book lent).answer.reply

pub entry_tried :
    -- it fills the first, then part of the second
    (fixed_call late (buys 200 1001) nobody line (old 1 ∷ old 2 ∷ old 3 ∷ [])
    ≡ record {
      answer =
          record {
            reply =
                OrderReply.TheVariants.Accepted
                (record { number = 7; filled = 200; levels = 1; remainder = Nothing });
            made = 2;
            day = fixed_day 1 54_300 7 700 700_700 1001;
          };
      book = order 1 9 150 990 3 ∷ order 1 8 100 980 6 ∷ order 0 0 0 0 0 ∷ order 0 0 0 0 0 ∷ [];
      trades = trade 1001 100 7 2 100 0 ∷ trade 1001 100 7 3 0 150 ∷ old 3 ∷ [];
    })
    -- it takes all, and what is left of it rests at its limit, behind
    × (told (buys 1_000 1300) line (old 1 ∷ old 2 ∷ old 3 ∷ []) ≡ 0 ∷ 7 ∷ 450 ∷ 550 ∷ 0 ∷ 1 ∷ [])
    × ((fixed_call late (buys 1_000 1300) nobody line (old 1 ∷ old 2 ∷ old 3 ∷ [])).book
    ≡ order 0 7 550 1300 7 ∷ order 0 0 0 0 0 ∷ order 0 0 0 0 0 ∷ order 0 0 0 0 0 ∷ [])
    -- one place of the trade list too few: 13, and nothing is touched
    × (fixed_call late (buys 1_000 1300) nobody line (old 1 ∷ old 2 ∷ [])
    ≡ record {
      answer = record { reply = OrderReply.TheVariants.Refused 13; made = 0; day = late };
      book = line;
      trades = old 1 ∷ old 2 ∷ [];
    })
    -- of its own side it trades with nobody, and stands behind
    × (told (sells 100 990) line [] ≡ 0 ∷ 7 ∷ 0 ∷ 100 ∷ 0 ∷ 0 ∷ [])
    × ((fixed_call late (sells 100 990) nobody line []).book
    ≡ order 1 8 100 1000 2 ∷ order 1 9 250 990 3 ∷ order 1 8 100 980 6 ∷ order 1 8 100 990 7 ∷ [])
    -- no free place: 10, even if it would trade
    × (told (buys 100 1001) (order 1 8 100 1000 2 ∷ []) (old 1 ∷ []) ≡ 10 ∷ 0 ∷ 0 ∷ 0 ∷ 0 ∷ 0 ∷ [])
unfolding keep all any total from among once different is_time closed later_rows holding row_at phase_at long_hours matching_from day_end continuous free is_live stands_on better ahead insert in_priority queue head_price best may_follow in_order is_taken in_places may_arrive in_arrival five_best filled levels is_in filled_of less_by settle is_price is_quantity in_band no_level no_levels no_screen money reference close_price with_fixed_figures next_fixed issue_fixed tally_fixed published_shares published_turnover runs phase_now halt_end shares_of demand supply volume surplus level_at levels_of shown_price screen_of same_level same_levels same_surplus same_screen head_less pair wrong_side is_void arrivals matches lined has_places is_mark may_stand sound_figures is_free is_order_of is_order own_numbers is_empty crosses between shares_fit prices_fit turnover_fits encloses screen_fits is_led_to is_used halt_fits fixed_fits blocks_fit sound_anywhere sound one_sided fixed_sums sound_fixed ◌when◌ first_of unsound unsound_fixed written ended arriving fixed_trades fixed_rules fixed_entered fixed_call resting_of withdrawn_of entry_numbers order_numbers
entry_tried = (refl, refl, refl, refl, refl, refl, refl)

-- before 15:05 it only rests, also where it crosses
pub resting_tried :
    fixed_call (fixed_day 1 54_299 3 0 0 1001) (buys 100 1300) nobody (order 1 8 100 700 3 ∷ free ∷ []) []
    ≡ record {
      answer =
          record {
            reply =
                OrderReply.TheVariants.Accepted
                (record { number = 4; filled = 0; levels = 0; remainder = Rests 100 });
            made = 0;
            day = fixed_day 1 54_299 4 0 0 1001;
          };
      book = order 1 8 100 700 3 ∷ order 0 7 100 1300 4 ∷ [];
      trades = [];
    }
unfolding keep all any total from among once different is_time closed later_rows holding row_at phase_at long_hours matching_from day_end continuous free is_live stands_on better ahead insert in_priority queue head_price best may_follow in_order is_taken in_places may_arrive in_arrival five_best filled levels is_in filled_of less_by settle is_price is_quantity in_band no_level no_levels no_screen money reference close_price with_fixed_figures next_fixed issue_fixed tally_fixed published_shares published_turnover runs phase_now halt_end shares_of demand supply volume surplus level_at levels_of shown_price screen_of same_level same_levels same_surplus same_screen head_less pair wrong_side is_void arrivals matches lined has_places is_mark may_stand sound_figures is_free is_order_of is_order own_numbers is_empty crosses between shares_fit prices_fit turnover_fits encloses screen_fits is_led_to is_used halt_fits fixed_fits blocks_fit sound_anywhere sound one_sided fixed_sums sound_fixed ◌when◌ first_of unsound unsound_fixed written ended arriving fixed_trades fixed_rules fixed_entered fixed_call
resting_tried = refl

-- ---- 15:05 and 15:30

-- close 1001: the buy at 1000 and the sell at 1002 are void; the others match as they came
abbrev waiting : List Order
waiting =
    order 0 7 300 1001 1
    ∷ order 1 8 100 1002 2
    ∷ order 1 8 200 990 4
    ∷ order 0 9 50 1000 5
    ∷ order 0 9 100 1300 6
    ∷ order 1 8 150 1001 8
    ∷ order 1 7 400 1000 9
    ∷ []

abbrev before : Day
before = fixed_day 1 54_290 9 0 0 1001

abbrev lent : List Trade
lent = old 1 ∷ old 2 ∷ old 3 ∷ old 4 ∷ old 5 ∷ []

-- at 15:05: 150 shares are void, 400 trade, and 350 sells are left
abbrev matched : List Trade
matched = trade 1001 200 1 4 100 0 ∷ trade 1001 100 1 8 0 50 ∷ trade 1001 50 6 8 50 0 ∷ trade 1001 50 6 9 0 350 ∷ old 5 ∷ []

-- a move with these fixed-price orders, its reply as numbers
abbrev moves : ℕ → List Trade → ClockAllOutcome
moves t ts = clock_all_call before t (fixed_books waiting) ts

abbrev replied : ℕ → List Trade → List ℕ
replied t ts = move_numbers (moves t ts).answer.reply

pub clock_tried :
    (replied 54_299 lent ≡ 0 ∷ 0 ∷ 0 ∷ 0 ∷ 0 ∷ 0 ∷ 0 ∷ [])
    × ((moves 54_299 lent).books ≡ fixed_books waiting)
    × (replied 54_300 lent ≡ 0 ∷ 0 ∷ 0 ∷ 0 ∷ 4 ∷ 150 ∷ 0 ∷ [])
    × ((moves 54_300 lent).answer.day ≡ fixed_day 1 54_300 9 400 400_400 1001)
    × ((moves 54_300 lent).trades ≡ matched)
    × ((moves 54_300 lent).books ≡ fixed_books (order 1 7 350 1000 9 ∷ free ∷ free ∷ free ∷ free ∷ free ∷ free ∷ []))
    -- four trades need four places
    × (replied 54_300 (old 1 ∷ old 2 ∷ old 3 ∷ []) ≡ 13 ∷ 0 ∷ 0 ∷ 0 ∷ 0 ∷ 0 ∷ 0 ∷ [])
    -- the same and 15:30 in one call: the rest lapses; first, last, high and low read the main book's trades only
    × (replied 55_800 lent ≡ 0 ∷ 0 ∷ 0 ∷ 0 ∷ 4 ∷ 150 ∷ 350 ∷ [])
    × ((moves 55_800 lent).books ≡ fixed_books (replicate 7 free))
    × ((moves 55_800 lent).answer.day ≡ fixed_day 1 55_800 9 400 400_400 1001)
unfolding keep all any total from among once is_time closed later_rows holding row_at phase_at confirming_from matching_from day_end continuous passed free is_live stands_on better ahead insert in_priority queue other head_price best arranged may_follow in_order is_taken in_places may_arrive in_arrival with_fixed with_blocks five_best filled last_price first_price highest lowest is_in filled_of less_by settle is_price in_band no_level no_levels no_screen at money tally reference open_price close_price with_fixed_figures tally_fixed with_block_figures tally_blocks published_shares published_turnover runs phase_now away reach halt_end halting fires fired resumed shares_of demand supply volume surplus level_at levels_of shown_price screen_of high_with low_with update same_level same_levels same_surplus same_screen cut head_less pair trades_at wrong_side is_void arrivals matches lined undeclared is_held is_block fits confirmation with_earliest unnamed in_turn confirmations none_held held_in has_places is_mark may_stand sound_figures is_free is_order_of is_order own_numbers is_empty crosses between shares_fit prices_fit turnover_fits encloses screen_fits is_led_to is_used halt_fits fixed_fits blocks_fit sound_anywhere sound one_sided fixed_sums sound_fixed is_undeclared is_declaration sound_blocks ◌when◌ first_of unsound unsound_fixed unsound_blocks unsound_books written cleared auction_trades auction resume lapse pass through start moved confirm_all match_all end_all pass_after through_after start_after moved_on move_trades clock_all_rules clock_all_call move_numbers opened held
clock_tried = (refl, refl, refl, refl, refl, refl, refl, refl, refl, refl)

-- the published totals are the main book's until 15:30, and from then on have shares and money of both
abbrev shown : Day → List ℕ
shown d = d.screen.shares ∷ d.screen.turnover ∷ []

abbrev rested : List Order
rested = order 1 7 350 1000 9 ∷ []

pub published_tried :
    (shown (moves 54_300 lent).answer.day ≡ 100 ∷ 100_100 ∷ [])
    × (map (λ t. shown (clock_all_call (fixed_day 1 55_798 9 400 400_400 1001) t (fixed_books rested) []).answer.day)
    (55_798 ∷ 55_799 ∷ 55_800 ∷ 55_801 ∷ [])
    ≡ (100 ∷ 100_100 ∷ []) ∷ (100 ∷ 100_100 ∷ []) ∷ (500 ∷ 500_500 ∷ []) ∷ (500 ∷ 500_500 ∷ []) ∷ [])
unfolding keep all any total from among once is_time closed later_rows holding row_at phase_at confirming_from matching_from day_end continuous passed free is_live stands_on better ahead insert in_priority queue other head_price best arranged may_follow in_order is_taken in_places may_arrive in_arrival with_fixed with_blocks five_best filled last_price first_price highest lowest is_in filled_of less_by settle is_price in_band no_level no_levels no_screen at money tally reference open_price close_price with_fixed_figures tally_fixed with_block_figures tally_blocks published_shares published_turnover runs phase_now away reach halt_end halting fires fired resumed shares_of demand supply volume surplus level_at levels_of shown_price screen_of high_with low_with update same_level same_levels same_surplus same_screen cut head_less pair trades_at wrong_side is_void arrivals matches lined undeclared is_held is_block fits confirmation with_earliest unnamed in_turn confirmations none_held held_in has_places is_mark may_stand sound_figures is_free is_order_of is_order own_numbers is_empty crosses between shares_fit prices_fit turnover_fits encloses screen_fits is_led_to is_used halt_fits fixed_fits blocks_fit sound_anywhere sound one_sided fixed_sums sound_fixed is_undeclared is_declaration sound_blocks ◌when◌ first_of unsound unsound_fixed unsound_blocks unsound_books written cleared auction_trades auction resume lapse pass through start moved confirm_all match_all end_all pass_after through_after start_after moved_on move_trades clock_all_rules clock_all_call opened held
published_tried = (refl, refl)

-- ---- cancels: in the order's hours, also where the main book takes none; only the order's own account

abbrev cancelled : ℕ → ℕ → List ℕ
cancelled account number = cancel_numbers (fixed_cancel_call before account number nobody waiting).reply

pub cancels_tried :
    (map (λ t. first_of (drop 1 (fixed_cancel_rules (quiet t) 7 9 nobody waiting)))
    (33_299 ∷ 33_300 ∷ 33_600 ∷ 41_399 ∷ 41_400 ∷ 46_799 ∷ 46_800 ∷ 53_820 ∷ 54_000 ∷ 55_799 ∷ 55_800 ∷ [])
    ≡ 19 ∷ 0 ∷ 0 ∷ 0 ∷ 19 ∷ 19 ∷ 0 ∷ 0 ∷ 0 ∷ 0 ∷ 19 ∷ [])
    × (cancelled 7 9 ≡ 0 ∷ 400 ∷ [])
    × (cancelled 8 9 ≡ 12 ∷ 0 ∷ [])
    × (cancelled 7 3 ≡ 12 ∷ 0 ∷ [])
    × (cancelled 0 0 ≡ 12 ∷ 0 ∷ [])
    × (fixed_cancel_call before 8 2 nobody (order 0 7 300 1001 1 ∷ order 1 8 100 1002 2 ∷ order 1 8 200 990 4 ∷ free ∷ [])
    ≡ record {
      reply = CancelReply.TheVariants.Withdrawn 100;
      book = order 0 7 300 1001 1 ∷ order 1 8 200 990 4 ∷ free ∷ free ∷ [];
    })
unfolding keep all any total from among once is_time closed later_rows holding row_at phase_at long_hours matching_from day_end continuous free is_live stands_on better ahead insert in_priority queue head_price best may_follow in_order is_taken in_places may_arrive in_arrival five_best is_price in_band no_level no_levels no_screen money reference close_price with_fixed_figures published_shares published_turnover runs phase_now halt_end shares_of demand supply volume surplus level_at levels_of shown_price screen_of same_level same_levels same_surplus same_screen wrong_side is_void lined has_places is_mark may_stand sound_figures is_free is_order_of is_order own_numbers is_empty crosses between shares_fit prices_fit turnover_fits encloses screen_fits is_led_to is_used halt_fits fixed_fits blocks_fit sound_anywhere sound one_sided fixed_sums sound_fixed ◌when◌ first_of unsound unsound_fixed is_own fixed_cancel_rules fixed_cancel_call cancel_numbers
cancels_tried = (refl, refl, refl, refl, refl, refl)

-- ---- soundness

pub record Case : Type 0 where
  pub day : Day
  pub book : List Order
  pub unsound : Bool

abbrev good : Day → List Order → Case
good d book = record { day = d; book = book; unsound = false }

abbrev bad : Day → List Order → Case
bad d book = record { day = d; book = book; unsound = true }

abbrev one : List Order
one = order 0 5 100 1000 1 ∷ []

abbrev noon : ℕ → Day
noon mark = fixed_day mark 41_400 9 0 0 0

abbrev places : List Case
places =
    bad (quiet 33_300) []
    ∷ good (quiet 33_300) (free ∷ [])
    ∷ good (quiet 33_300) (replicate 4_096 free)
    ∷ bad (quiet 33_300) (replicate 4_097 free)
    ∷ []

-- side, account, shares, price, number; numbers issued
abbrev orders : List Case
orders =
    good (noon 1) one
    ∷ bad (noon 1) (order 2 5 100 1000 1 ∷ [])
    ∷ bad (noon 1) (order 0 0 100 1000 1 ∷ [])
    ∷ bad (noon 1) (order 0 5 0 1000 1 ∷ [])
    ∷ good (noon 1) (order 0 5 1_000_000 1000 1 ∷ [])
    ∷ bad (noon 1) (order 0 5 1_000_001 1000 1 ∷ [])
    ∷ bad (noon 1) (order 0 5 100 699 1 ∷ [])
    ∷ good (noon 0) (order 0 5 100 699 1 ∷ [])
    ∷ bad (noon 0) (order 0 5 100 1_000_000 1 ∷ [])
    ∷ good (noon 1) (order 0 5 100 1000 9 ∷ [])
    ∷ bad (noon 1) (order 0 5 100 1000 10 ∷ [])
    ∷ bad (noon 1) (order 0 5 0 0 0 ∷ [])
    ∷ good (fixed_day 1 41_400 999_999 0 0 0) one
    ∷ bad (fixed_day 1 41_400 1_000_000 0 0 0) one
    ∷ []

-- in order of arrival, free places last, whatever the side
abbrev arrivals_tried : List Case
arrivals_tried =
    good (noon 1) (order 1 5 100 1000 1 ∷ order 0 5 100 1000 3 ∷ order 1 5 100 990 7 ∷ free ∷ [])
    ∷ bad (noon 1) (order 1 5 100 1000 3 ∷ order 0 5 100 1000 1 ∷ [])
    ∷ bad (noon 1) (order 1 5 100 1000 3 ∷ order 0 5 100 1000 3 ∷ [])
    ∷ bad (noon 1) (free ∷ order 0 5 100 1000 3 ∷ [])
    ∷ bad (noon 1) (order 0 5 100 1000 3 ∷ free ∷ order 0 5 100 1000 4 ∷ [])
    ∷ []

-- empty outside 9:15 to 15:30
abbrev empties : List Case
empties =
    bad (fixed_day 1 33_299 9 0 0 0) one
    ∷ good (fixed_day 1 33_300 9 0 0 0) one
    ∷ good (fixed_day 1 55_799 9 0 0 0) one
    ∷ bad (fixed_day 1 55_800 9 0 0 0) one
    ∷ []

-- from 15:05 one-sided at most, with no limit on the wrong side of the close
abbrev sides : List Case
sides =
    good (fixed_day 1 54_299 9 0 0 0) (order 0 5 100 1000 1 ∷ order 1 5 100 1000 2 ∷ [])
    ∷ bad (fixed_day 1 54_300 9 0 0 0) (order 0 5 100 1000 1 ∷ order 1 5 100 1000 2 ∷ [])
    ∷ good (fixed_day 1 54_300 9 0 0 0) (order 0 5 100 1000 1 ∷ order 0 5 100 1300 2 ∷ [])
    ∷ bad (fixed_day 1 54_300 9 0 0 0) (order 0 5 100 1000 1 ∷ order 0 5 100 999 2 ∷ [])
    ∷ good (fixed_day 1 54_299 9 0 0 0) (order 0 5 100 999 2 ∷ [])
    ∷ good (fixed_day 1 54_300 9 0 0 999) (order 0 5 100 999 2 ∷ [])
    ∷ bad (fixed_day 1 54_300 9 0 0 999) (order 1 5 100 1000 2 ∷ [])
    ∷ []

-- its own sums: twice the shares plus what rests; the money is at the close, and nothing trades before 15:05
abbrev sums : List Case
sums =
    good (fixed_day 1 54_300 2 1_000_000 1_000_000_000 0) (free ∷ [])
    ∷ bad (fixed_day 1 54_300 2 1_000_001 1_000_001_000 0) (free ∷ [])
    ∷ good (fixed_day 1 54_300 2 999_950 999_950_000 0) one
    ∷ bad (fixed_day 1 54_300 2 999_951 999_951_000 0) one
    ∷ bad (fixed_day 1 54_300 2 100 99_999 0) (free ∷ [])
    ∷ bad (fixed_day 1 54_300 2 100 100_001 0) (free ∷ [])
    ∷ good (fixed_day 1 54_300 2 100 90_000 900) (free ∷ [])
    ∷ bad (fixed_day 1 54_299 2 100 100_000 0) (free ∷ [])
    ∷ bad (fixed_day 1 54_299 2 0 1 0) (free ∷ [])
    ∷ good (fixed_day 1 86_399 2 100 100_000 0) (free ∷ [])
    ∷ []

abbrev cases : List (List Case)
cases = places ∷ orders ∷ arrivals_tried ∷ empties ∷ sides ∷ sums ∷ []

pub soundness_tried :
    map (map (λ (c : Case). not (fixed_fits c.day) || unsound_fixed c.day c.book)) cases
    ≡ map (map (λ (c : Case). c.unsound)) cases
unfolding all any total matching_from free is_live stands_on is_taken may_arrive in_arrival is_price in_band no_level no_levels no_screen money reference close_price with_fixed_figures wrong_side is_void has_places may_stand is_free is_order_of is_empty between fixed_fits one_sided fixed_sums sound_fixed unsound_fixed
soundness_tried = refl

-- ---- a call tests all that it is lent, and no more

abbrev wrong : List Order
wrong = order 0 0 100 1000 1 ∷ []

-- an order of the main book, and where fixed shares traded before 15:05
abbrev main_order : Asked
main_order = record { side = 0; kind = 0; account = 7; quantity = 100; price = 1000; balance = 0 }

abbrev early : Day
early = fixed_day 1 41_400 9 1 1_000 0

pub lent_tried :
    -- a main book and a fixed-price book that are not sound
    (first_of (fixed_rules (noon 1) (buys 100 1000) wrong one 0) ≡ 15)
    × (first_of (fixed_rules (noon 1) (buys 100 1000) nobody wrong 0) ≡ 15)
    × (first_of (fixed_rules (noon 1) (buys 100 1000) nobody one 0) ≡ 19)
    × (first_of (fixed_cancel_rules (noon 1) 7 1 nobody wrong) ≡ 15)
    × (first_of (clock_all_rules (noon 1) 41_400 (fixed_books wrong) 0) ≡ 15)
    -- the day's own figures of that book are tested by every call
    × (first_of (order_rules early main_order nobody 0) ≡ 15)
    × (first_of (order_rules (noon 1) main_order nobody 0) ≡ 4)
    × (first_of (clock_rules early 41_400 nobody 0) ≡ 15)
unfolding keep all any total from among once is_time closed later_rows holding row_at phase_at takes_orders long_hours confirming_from matching_from day_end continuous passed free is_live stands_on better ahead insert in_priority queue other head_price best arranged may_follow in_order is_taken in_places may_arrive in_arrival with_fixed with_blocks meets within five_best at_five_best trade_with sweep filled last_price first_price is_in filled_of less_by settle is_price is_quantity in_band buy_in_range sell_in_range in_range no_level no_levels no_screen next_number money tally reference open_price close_price with_fixed_figures next_fixed tally_fixed with_block_figures tally_blocks published_shares published_turnover runs phase_now away reach halt_end halting fires fired resumed best_within entry_price opposite entry_trades base shares_of demand supply volume surplus level_at levels_of shown_price screen_of same_level same_levels same_surplus same_screen cut head_less pair trades_at wrong_side is_void arrivals matches lined undeclared is_held is_block fits confirmation with_earliest unnamed in_turn confirmations none_held held_in has_places is_mark may_stand sound_figures is_free is_order_of is_order own_numbers is_empty crosses between shares_fit prices_fit turnover_fits encloses screen_fits is_led_to is_used halt_fits fixed_fits blocks_fit sound_anywhere sound one_sided fixed_sums sound_fixed is_undeclared is_declaration sound_blocks ◌when◌ first_of unsound unsound_fixed unsound_blocks unsound_books cleared order_rules is_own auction_trades auction resume lapse pass through start moved clock_rules arriving fixed_trades fixed_rules fixed_cancel_rules confirm_all match_all end_all pass_after through_after start_after moved_on move_trades clock_all_rules opened held
lent_tried = (refl, refl, refl, refl, refl, refl, refl, refl)
