-- Halts, by evaluation: both sides of each threshold, when a halt ends, what fires, what phase 7 takes, what the end of a halt does
-- once its auction's trades are known, the seconds of a move one after the other, and each clause of soundness. Assumes nothing.
use Rattle.std.specs.Prelude.{if◌then◌else◌}
use Prim.Native.Nat.{ℕ, ◌*◌}
use mathlib.Core.Path.{◌≡◌, refl}
use mathlib.Core.Bool.{true, false}
use mathlib.Core.List.{List, [], ◌∷◌, ◌++◌, map}
use lib.ListN.{drop, replicate}
use lib.Dec.{eqb}
use Rattle.model.specs.declared.Order.{Order}
use Rattle.model.specs.declared.Asked.{Asked}
use Rattle.model.specs.declared.Trade.{Trade}
use Rattle.model.specs.declared.Day.{Day}
use Rattle.model.specs.declared.Remainder.TheVariants.{Rests}
use Rattle.model.specs.declared.OrderReply as OrderReply
use Rattle.model.specs.declared.OrderAnswer.{OrderAnswer}
use Rattle.model.specs.Lists.{keep, all, any, total, least, at_least, from, among, once, different}
use Rattle.model.specs.Clock.{is_time, closed, later_rows, holding, row_at, phase_at, takes_orders, takes_cancels, continuous, passed, day_end, matching_from}
use Rattle.model.specs.Book.{free, is_live, stands_on, better, ahead, insert, in_priority, queue, other, head_price, best, arranged, may_follow, in_order}
use Rattle.model.specs.Matching.{meets, within, five_best, at_five_best, trade_with, sweep, filled, levels, last_price, first_price, is_in, filled_of, less_by, settle, highest, lowest}
use Rattle.model.specs.Limits.{is_price, is_quantity, in_band, buy_in_range, sell_in_range, in_range}
use Rattle.model.specs.Figures.{fresh_day, at, next_number, issue, money, tally, reference, open_price, close_price, no_level, no_levels, no_screen, published_shares, published_turnover}
use Rattle.model.specs.Halts.{runs, phase_now, away, reach, halt_end, halting, fires, fired, resumed}
use Rattle.model.specs.Entry.{best_within, entry_price, opposite, entry_trades, rest_price, base}
use Rattle.model.specs.Auction.{distance, shares_of, demand, supply, volume, buys_above, sells_below, buys_at, sells_at, better_fill, one_side_fills, surplus}
use Rattle.model.specs.Screen.{level_at, levels_of, shown_price, screen_of, high_with, low_with, update, same_level, same_levels, same_surplus, same_screen}
use Rattle.model.specs.Sound.{has_places, is_mark, may_stand, sound_figures, is_free, is_order, own_numbers, is_empty, crosses, between, shares_fit, prices_fit, turnover_fits, is_led_to, is_used, halt_fits, sound_anywhere, sound, encloses, screen_fits, blocks_fit, fixed_fits, is_order_of}
use Rattle.model.specs.Refusals.{◌when◌, first_of, unsound}
use Rattle.model.specs.Calls.{Outcome, written, open_rules, cleared, open_call, order_rules, ended, joined, entered, order_call, is_own, cancel_rules, cancel_call}
use Rattle.model.specs.ClockCall.{auction_trades, Held, auction, resume, lapse, pass, through, start, moved, clock_rules, clock_call}
use Rattle.model.specs.Replies.{resting_of, withdrawn_of, entry_numbers, open_numbers, order_numbers, cancel_numbers, clock_numbers, report_numbers, list_numbers}
use Rattle.model.specs.Session.{opened}
use Rattle.model.proofs.Examples.{order, trade, day_of, untraded, fitting}
use Rattle.model.proofs.HaltEnds.{led_by, led_is}

-- ---- the thresholds, compared exactly

-- of these prices those that are so far away from an open
abbrev far : ℕ → ℕ → List ℕ → List ℕ
far percent opened ps = keep (away percent opened) ps

pub away_tried :
    (far 30 1000 (1 ∷ 699 ∷ 700 ∷ 701 ∷ 1000 ∷ 1299 ∷ 1300 ∷ 1301 ∷ []) ≡ 1 ∷ 699 ∷ 700 ∷ 1300 ∷ 1301 ∷ [])
    × (far 60 1000 (1 ∷ 399 ∷ 400 ∷ 401 ∷ 1000 ∷ 1599 ∷ 1600 ∷ 1601 ∷ []) ≡ 1 ∷ 399 ∷ 400 ∷ 1600 ∷ 1601 ∷ [])
    × (far 30 11 (7 ∷ 8 ∷ 14 ∷ 15 ∷ []) ≡ 7 ∷ 15 ∷ [])
    × (far 60 11 (4 ∷ 5 ∷ 17 ∷ 18 ∷ []) ≡ 4 ∷ 18 ∷ [])
    × (far 30 1 (1 ∷ 2 ∷ []) ≡ 2 ∷ [])
unfolding keep away
away_tried = (refl, refl, refl, refl, refl)

-- ---- the end: 600 seconds on, from noon at 13:00, and at 14:57 at the latest

pub ends_tried :
    map halt_end
    (34_200 ∷ 40_799 ∷ 40_800 ∷ 41_399 ∷ 46_800 ∷ 53_219 ∷ 53_220 ∷ 53_221 ∷ 53_819 ∷ [])
    ≡ 34_800 ∷ 41_399 ∷ 46_800 ∷ 46_800 ∷ 47_400 ∷ 53_819 ∷ 53_820 ∷ 53_820 ∷ 53_820 ∷ []
unfolding is_time closed later_rows holding row_at phase_at takes_orders takes_cancels continuous passed runs phase_now away reach halt_end halting fires fired resumed
ends_tried = refl

-- ---- phase 7: in continuous trading alone

abbrev until : ℕ → ℕ → Day
until time end = halting end 1 0 (day_of 10 0 time 9 100 1_000 10 10)

pub phases_tried :
    (map (λ t. phase_now (until t 46_800)) (33_300 ∷ 33_900 ∷ 34_200 ∷ 41_399 ∷ 41_400 ∷ 46_799 ∷ []) ≡ 1 ∷ 3 ∷ 7 ∷ 7 ∷ 5 ∷ 5 ∷ [])
    × (map (λ t. phase_now (until t 53_820)) (46_800 ∷ 53_819 ∷ 53_820 ∷ 54_000 ∷ []) ≡ 7 ∷ 7 ∷ 6 ∷ 0 ∷ [])
    × (map (λ t. phase_now (until t 0)) (34_200 ∷ 41_400 ∷ 53_819 ∷ []) ≡ 4 ∷ 5 ∷ 4 ∷ [])
unfolding is_time closed later_rows holding row_at phase_at takes_orders takes_cancels continuous passed runs phase_now away reach halt_end halting fires fired resumed
phases_tried = (refl, refl, refl)

-- ---- what fires: the open is 10, so 13 and 7 are 30% away, 16 and 4 are 60%

abbrev made : ℕ → Trade
made p = trade p 1 1 2 0 0

-- the day's mark, the used thresholds, and the prices of some trades at 34,200; then the end and the used thresholds
abbrev firing : ℕ → ℕ → ℕ → List ℕ → List ℕ
firing mark used30 used60 ps =
    let d : Day = fired 34_200 (map made ps) (halting 0 used30 used60 (day_of 10 mark 34_200 9 100 1_000 10 10)) in
    d.halt ∷ d.used30 ∷ d.used60 ∷ []

pub fired_tried :
    (firing 0 0 0 [] ≡ 0 ∷ 0 ∷ 0 ∷ [])
    × (firing 0 0 0 (8 ∷ 12 ∷ []) ≡ 0 ∷ 0 ∷ 0 ∷ [])
    × (firing 0 0 0 (13 ∷ []) ≡ 34_800 ∷ 1 ∷ 0 ∷ [])
    × (firing 0 0 0 (7 ∷ []) ≡ 34_800 ∷ 1 ∷ 0 ∷ [])
    × (firing 0 0 0 (11 ∷ 15 ∷ 12 ∷ []) ≡ 34_800 ∷ 1 ∷ 0 ∷ [])
    × (firing 0 0 0 (16 ∷ []) ≡ 34_800 ∷ 1 ∷ 1 ∷ [])
    × (firing 0 0 0 (4 ∷ []) ≡ 34_800 ∷ 1 ∷ 1 ∷ [])
    × (firing 0 0 0 (13 ∷ 16 ∷ []) ≡ 34_800 ∷ 1 ∷ 1 ∷ [])
    × (firing 0 1 0 (13 ∷ 7 ∷ []) ≡ 0 ∷ 1 ∷ 0 ∷ [])
    × (firing 0 1 0 (4 ∷ []) ≡ 34_800 ∷ 1 ∷ 1 ∷ [])
    × (firing 0 1 1 (13 ∷ 16 ∷ 4 ∷ []) ≡ 0 ∷ 1 ∷ 1 ∷ [])
    × (firing 1 0 0 (13 ∷ 16 ∷ []) ≡ 0 ∷ 0 ∷ 0 ∷ [])
unfolding keep all any total least at_least from among once different is_time closed later_rows holding row_at phase_at takes_orders takes_cancels continuous passed no_level no_levels no_screen fresh_day at next_number issue money tally reference open_price close_price runs phase_now away reach halt_end halting fires fired resumed
fired_tried = (refl, refl, refl, refl, refl, refl, refl, refl, refl, refl, refl, refl)

-- ---- an order in continuous trading: it finishes first, then phase 7 begins in the same second

-- sells at 12, 13, 16 and 17
abbrev sells : List Order
sells = order 1 6 100 12 1 ∷ order 1 6 100 13 2 ∷ order 1 6 100 16 3 ∷ order 1 6 100 17 4 ∷ free ∷ free ∷ []

abbrev buying : ℕ → ℕ → Asked
buying quantity price = record { side = 0; kind = 0; account = 9; quantity = quantity; price = price; balance = 0 }

-- the reply's levels and resting shares, then the end and the used thresholds, on a day that opened at 10
abbrev entering : ℕ → ℕ → ℕ → List ℕ
entering time quantity price =
    let o : Outcome OrderAnswer =
    order_call (fitting sells (day_of 10 0 time 4 100 1_000 10 10)) (buying quantity price) sells (replicate 6 (made 1))
    in
    drop 2 (order_numbers o.answer.reply) ++ (phase_now o.answer.day ∷ o.answer.day.halt ∷ o.answer.day.used30 ∷ o.answer.day.used60 ∷ [])

-- at 12 nothing; up to 13, and up to 17 with 50 left, which rest: one halt, both used; near noon and near 14:57
pub orders_tried :
    (entering 34_200 100 12 ≡ 100 ∷ 0 ∷ 0 ∷ 1 ∷ 4 ∷ 0 ∷ 0 ∷ 0 ∷ [])
    × (entering 34_200 150 13 ≡ 150 ∷ 0 ∷ 0 ∷ 2 ∷ 7 ∷ 34_800 ∷ 1 ∷ 0 ∷ [])
    × (entering 34_200 450 17 ≡ 400 ∷ 50 ∷ 0 ∷ 4 ∷ 7 ∷ 34_800 ∷ 1 ∷ 1 ∷ [])
    × (entering 40_799 200 13 ≡ 200 ∷ 0 ∷ 0 ∷ 2 ∷ 7 ∷ 41_399 ∷ 1 ∷ 0 ∷ [])
    × (entering 40_800 200 13 ≡ 200 ∷ 0 ∷ 0 ∷ 2 ∷ 7 ∷ 46_800 ∷ 1 ∷ 0 ∷ [])
    × (entering 53_819 200 13 ≡ 200 ∷ 0 ∷ 0 ∷ 2 ∷ 7 ∷ 53_820 ∷ 1 ∷ 0 ∷ [])
unfolding keep all any total least at_least from among once different is_time closed later_rows holding row_at phase_at takes_orders takes_cancels continuous passed free is_live stands_on better ahead insert in_priority queue other head_price best arranged may_follow in_order meets within five_best at_five_best trade_with sweep filled levels last_price first_price highest lowest is_in filled_of less_by settle is_price is_quantity in_band buy_in_range sell_in_range in_range no_level no_levels no_screen fresh_day at next_number issue money tally reference open_price close_price runs phase_now away reach halt_end halting fires fired resumed best_within entry_price opposite entry_trades rest_price base distance shares_of demand supply volume buys_above sells_below buys_at sells_at better_fill one_side_fills surplus level_at levels_of shown_price screen_of high_with low_with update same_level same_levels same_surplus same_screen has_places is_mark may_stand sound_figures is_free is_order own_numbers is_empty crosses between shares_fit prices_fit turnover_fits encloses screen_fits is_led_to is_used halt_fits sound_anywhere sound ◌when◌ first_of unsound written open_rules cleared open_call order_rules ended joined entered order_call is_own cancel_rules cancel_call resting_of withdrawn_of entry_numbers open_numbers order_numbers cancel_numbers clock_numbers report_numbers list_numbers is_order_of published_shares published_turnover day_end fixed_fits blocks_fit matching_from
orders_tried = (refl, refl, refl, refl, refl, refl)

-- the first trade of the day is the open, and the same order may go on to what fires
pub first_tried :
    let o : Outcome OrderAnswer =
    order_call (fitting sells (untraded 10 0 34_200 4)) (buying 400 17) sells (replicate 6 (made 1))
    in
    (o.answer.day.first ≡ 12) × (o.answer.day.halt ≡ 34_800) × (o.answer.day.used30 ≡ 1) × (o.answer.day.used60 ≡ 0)
unfolding keep all any total least at_least from among once different is_time closed later_rows holding row_at phase_at takes_orders takes_cancels continuous passed free is_live stands_on better ahead insert in_priority queue other head_price best arranged may_follow in_order meets within five_best at_five_best trade_with sweep filled levels last_price first_price highest lowest is_in filled_of less_by settle is_price is_quantity in_band buy_in_range sell_in_range in_range no_level no_levels no_screen fresh_day at next_number issue money tally reference open_price close_price runs phase_now away reach halt_end halting fires fired resumed best_within entry_price opposite entry_trades rest_price base distance shares_of demand supply volume buys_above sells_below buys_at sells_at better_fill one_side_fills surplus level_at levels_of shown_price screen_of high_with low_with update same_level same_levels same_surplus same_screen has_places is_mark may_stand sound_figures is_free is_order own_numbers is_empty crosses between shares_fit prices_fit turnover_fits encloses screen_fits is_led_to is_used halt_fits sound_anywhere sound ◌when◌ first_of unsound written open_rules cleared open_call order_rules ended joined entered order_call is_own cancel_rules cancel_call is_order_of published_shares published_turnover day_end fixed_fits blocks_fit matching_from
first_tried = (refl, refl, refl, refl)

-- ---- what phase 7 takes, behind 15: limit orders, whatever their range, and cancels; at noon nothing

abbrev stopped : ℕ → Day
stopped time = halting 46_800 1 0 (day_of 10 0 time 4 100 1_000 10 10)

abbrev asking : ℕ → ℕ → ℕ → ℕ
asking time kind price =
    first_of
    (drop 1
    (order_rules (stopped time) (record { side = 0; kind = kind; account = 9; quantity = 100; price = price; balance = 0 }) sells 0))

pub taken_tried :
    (map (λ p. asking 40_800 0 p) (1 ∷ 9 ∷ 23 ∷ 999_999 ∷ []) ≡ 0 ∷ 0 ∷ 0 ∷ 0 ∷ [])
    × (map (λ k. asking 40_800 k 9) (1 ∷ 2 ∷ 3 ∷ 4 ∷ []) ≡ 5 ∷ 5 ∷ 5 ∷ 5 ∷ [])
    × (map (λ t. asking t 0 9) (41_399 ∷ 41_400 ∷ 46_799 ∷ []) ≡ 0 ∷ 4 ∷ 4 ∷ [])
    × (map (λ t. first_of (drop 1 (cancel_rules (stopped t) 6 1 sells))) (41_399 ∷ 41_400 ∷ 46_799 ∷ []) ≡ 0 ∷ 4 ∷ 4 ∷ [])
    × ((entered (stopped 40_800) (buying 100 12) sells []).answer.reply
    ≡ OrderReply.TheVariants.Accepted (record { number = 5; filled = 0; levels = 0; remainder = Rests 100 }))
    × (shown_price (stopped 40_800) sells ≡ 0)
unfolding keep all any total least at_least from among once different is_time closed later_rows holding row_at phase_at takes_orders takes_cancels continuous passed free is_live stands_on better ahead insert in_priority queue other head_price best arranged may_follow in_order meets within five_best at_five_best trade_with sweep filled levels last_price first_price highest lowest is_in filled_of less_by settle is_price is_quantity in_band buy_in_range sell_in_range in_range no_level no_levels no_screen fresh_day at next_number issue money tally reference open_price close_price runs phase_now away reach halt_end halting fires fired resumed best_within entry_price opposite entry_trades rest_price base level_at levels_of shown_price screen_of high_with low_with update same_level same_levels same_surplus same_screen ◌when◌ first_of unsound written open_rules cleared open_call order_rules ended joined entered order_call is_own cancel_rules cancel_call distance shares_of demand supply volume buys_above sells_below buys_at sells_at better_fill one_side_fills surplus encloses screen_fits published_shares published_turnover day_end
taken_tried = (refl, refl, refl, refl, refl, refl)

-- ---- the end of a halt, for auctions that trade at a price, or not at all

-- a halt that runs until `end`, with these thresholds used, and a book
abbrev running : ℕ → ℕ → Held
running end used60 = start (halting end 1 used60 (day_of 10 0 34_300 9 100 1_000 10 10)) sells

abbrev left : Held → List ℕ
left h = h.day.halt ∷ h.day.used30 ∷ h.day.used60 ∷ h.day.last ∷ []

-- the auction of a halt that runs until `end` makes these trades
abbrev Makes : ℕ → ℕ → List Trade → Type 0
Makes end used60 ts = auction_trades (running end used60).day sells ≡ ts

pub ends_with :
    (Makes 34_900 0 (made 15 ∷ []) → left (pass 34_900 (running 34_900 0)) ≡ 0 ∷ 1 ∷ 0 ∷ 15 ∷ [])
    × (Makes 34_900 0 (made 16 ∷ []) → left (pass 34_900 (running 34_900 0)) ≡ 35_500 ∷ 1 ∷ 1 ∷ 16 ∷ [])
    × (Makes 34_900 0 (made 4 ∷ []) → left (pass 34_900 (running 34_900 0)) ≡ 35_500 ∷ 1 ∷ 1 ∷ 4 ∷ [])
    × (Makes 34_900 1 (made 4 ∷ []) → left (pass 34_900 (running 34_900 1)) ≡ 0 ∷ 1 ∷ 1 ∷ 4 ∷ [])
    × (Makes 34_900 0 [] → left (pass 34_900 (running 34_900 0)) ≡ 0 ∷ 1 ∷ 0 ∷ 10 ∷ [])
    × (Makes 46_800 0 (made 16 ∷ []) → left (pass 46_800 (running 46_800 0)) ≡ 47_400 ∷ 1 ∷ 1 ∷ 16 ∷ [])
    × (Makes 53_820 0 (made 16 ∷ []) → left (pass 53_820 (running 53_820 0)) ≡ 0 ∷ 1 ∷ 0 ∷ 16 ∷ [])
    × (Makes 40_900 0 (made 16 ∷ []) → left (pass 40_900 (running 40_900 0)) ≡ 46_800 ∷ 1 ∷ 1 ∷ 16 ∷ [])
unfolding keep all any total least at_least from among once different is_time closed later_rows holding row_at phase_at takes_orders takes_cancels continuous passed meets within five_best at_five_best trade_with sweep filled levels last_price first_price highest lowest is_in filled_of less_by settle no_level no_levels no_screen fresh_day at next_number issue money tally reference open_price close_price runs phase_now away reach halt_end halting fires fired resumed auction resume lapse pass through start moved clock_rules clock_call
ends_with = (
  (λ e. rw e),
  (λ e. rw e),
  (λ e. rw e),
  (λ e. rw e),
  (λ e. rw e),
  (λ e. rw e),
  (λ e. rw e),
  (λ e. rw e),
)

-- ---- a move, second by second: nothing is due before a halt's end, and after it nothing but what started anew

pub moves_tried :
    (moved (running 34_900 0).day 34_899 sells ≡ running 34_900 0)
    × (through (passed 34_900 35_499) (running 35_500 1) ≡ running 35_500 1)
    × (through (passed 34_900 40_000) (running 0 1) ≡ running 0 1)
unfolding keep all any total least at_least from among once different is_time closed later_rows holding row_at phase_at takes_orders takes_cancels continuous passed meets within five_best at_five_best trade_with sweep filled levels last_price first_price highest lowest is_in filled_of less_by settle no_level no_levels no_screen fresh_day at next_number issue money tally reference open_price close_price runs phase_now away reach halt_end halting fires fired resumed auction resume lapse pass through start moved clock_rules clock_call
moves_tried = (refl, refl, refl)

-- ---- soundness: prices may cross until the end, and each clause on both sides of its bound

abbrev crossing : List Order
crossing = order 0 5 100 13 1 ∷ order 1 6 100 12 2 ∷ []

-- time, end, used thresholds, mark, shares traded
abbrev halt_day : ℕ → ℕ → ℕ → ℕ → ℕ → ℕ → Day
halt_day time end used30 used60 mark shares =
    halting end used30 used60 (day_of 10 mark time 9 shares (10 * shares) (if eqb shares 0 then 0 else 10) (if eqb shares 0 then 0 else 10))

pub crossing_tried :
    map (λ (d : Day). sound_anywhere d crossing)
    (halt_day 34_300 34_900 1 0 0 100 ∷ halt_day 41_400 46_800 1 0 0 100 ∷ halt_day 34_300 0 1 0 0 100 ∷ halt_day 34_300 0 0 0 0 100 ∷ [])
    ≡ true ∷ true ∷ false ∷ false ∷ []
unfolding keep all any total least at_least from among once different is_time closed later_rows holding row_at phase_at takes_orders takes_cancels continuous passed free is_live stands_on better ahead insert in_priority queue other head_price best arranged may_follow in_order is_price is_quantity in_band buy_in_range sell_in_range in_range runs phase_now away reach halt_end halting fires fired resumed has_places is_mark may_stand sound_figures is_free is_order own_numbers is_empty crosses between shares_fit prices_fit turnover_fits encloses screen_fits is_led_to is_used halt_fits sound_anywhere sound highest lowest no_level no_levels no_screen distance shares_of demand supply volume buys_above sells_below buys_at sells_at better_fill one_side_fills surplus level_at levels_of shown_price screen_of high_with low_with update same_level same_levels same_surplus same_screen is_order_of published_shares published_turnover day_end fixed_fits blocks_fit matching_from reference close_price
crossing_tried = refl

-- with no end: which marks
pub marks_tried :
    map halt_fits
    (halt_day 0 0 0 0 1 0
    ∷ halt_day 0 0 1 0 0 100
    ∷ halt_day 0 0 1 1 0 100
    ∷ halt_day 0 0 0 1 0 100
    ∷ halt_day 0 0 2 0 0 100
    ∷ halt_day 0 0 1 2 0 100
    ∷ halt_day 0 0 1 0 1 100
    ∷ halt_day 0 0 1 0 0 0
    ∷ [])
    ≡ true ∷ true ∷ true ∷ false ∷ false ∷ false ∷ false ∷ false ∷ []
unfolding keep all any total least at_least from among once different is_time closed later_rows holding row_at phase_at takes_orders takes_cancels continuous passed free is_live stands_on better ahead insert in_priority queue other head_price best arranged may_follow in_order is_price is_quantity in_band buy_in_range sell_in_range in_range runs phase_now away reach halt_end halting fires fired resumed has_places is_mark may_stand sound_figures is_free is_order own_numbers is_empty crosses between shares_fit prices_fit turnover_fits is_led_to is_used halt_fits sound_anywhere sound highest lowest no_level no_levels no_screen distance shares_of demand supply volume buys_above sells_below buys_at sells_at better_fill one_side_fills surplus level_at levels_of shown_price screen_of high_with low_with update same_level same_levels same_surplus same_screen encloses screen_fits is_order_of published_shares published_turnover day_end fixed_fits blocks_fit matching_from reference close_price
marks_tried = refl

-- ends that a continuous second so far leads to: by search from 9:30 on, and else by the hours that stand for it (HaltEnds); noon's end
-- from 11:20 on, and that of 14:57 from 14:47 on
pub led_tried :
    (is_led_to 34_800 34_199 ≡ false)
    × (is_led_to 34_800 34_200 ≡ true)
    × (map (λ t. led_by 34_800 t) (34_199 ∷ 34_200 ∷ []) ≡ false ∷ true ∷ [])
    × (map (λ t. led_by 46_800 t) (40_799 ∷ 40_800 ∷ []) ≡ false ∷ true ∷ [])
    × (map (λ t. led_by 53_820 t) (53_219 ∷ 53_220 ∷ []) ≡ false ∷ true ∷ [])
    × (map (λ e. led_by e 53_819) (34_799 ∷ 41_399 ∷ 41_400 ∷ 46_799 ∷ 46_801 ∷ 47_399 ∷ 47_400 ∷ 53_821 ∷ [])
    ≡ false ∷ true ∷ false ∷ false ∷ false ∷ false ∷ true ∷ false ∷ [])
unfolding any from closed later_rows holding row_at phase_at continuous halt_end between is_led_to led_by
led_tried = (refl, refl, refl, refl, refl, refl)

-- with an end: it has not come, a continuous second so far leads to it, a threshold is used, the day is unlimited and has traded
pub running_tried :
    map halt_fits
    (halt_day 34_200 34_800 1 0 0 100
    ∷ halt_day 34_250 34_800 1 1 0 100
    ∷ halt_day 34_300 34_300 1 0 0 100
    ∷ halt_day 34_200 34_799 1 0 0 100
    ∷ halt_day 34_200 34_801 1 0 0 100
    ∷ halt_day 34_200 34_800 0 0 0 100
    ∷ halt_day 34_200 34_800 1 0 1 100
    ∷ halt_day 34_200 34_800 1 0 0 0
    ∷ [])
    ≡ true ∷ true ∷ false ∷ false ∷ false ∷ false ∷ false ∷ false ∷ []
unfolding runs halting is_mark is_used halt_fits between led_by
running_tried =
    rw (← led_is 34_800 34_200, ← led_is 34_800 34_250, ← led_is 34_799 34_200, ← led_is 34_801 34_200)
