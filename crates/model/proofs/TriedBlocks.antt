-- Block trades by agreement, by evaluation: each refusal on both sides of its bound and in its turn, which declarations fit, who is
-- confirmed with whom at 15:00 and after it, what lapses at 15:30, the published totals, each clause of soundness, and an opening
-- and a move over all lists. Assumes nothing.
use Prim.Native.Nat.{ℕ}
use mathlib.Core.Path.{◌≡◌, refl}
use mathlib.Core.Bool.{Bool, true, false, not, ◌||◌}
use mathlib.Core.List.{List, [], ◌∷◌, map}
use lib.ListN.{replicate, drop}
use Rattle.model.specs.declared.Order.{Order}
use Rattle.model.specs.declared.Declaration.{Declaration}
use Rattle.model.specs.declared.AskedBlock.{AskedBlock}
use Rattle.model.specs.declared.Trade.{Trade}
use Rattle.model.specs.declared.Day.{Day}
use Rattle.model.specs.declared.OpenReply as OpenReply
use Rattle.model.specs.declared.BlockReply as BlockReply
use Rattle.model.specs.declared.MoveReply as MoveReply
use Rattle.model.specs.Lists.{keep, all, any, total, from, among, once}
use Rattle.model.specs.Clock.{is_time, closed, later_rows, holding, row_at, phase_at, takes_cancels, long_hours, confirming_from, matching_from, day_end, continuous, passed}
use Rattle.model.specs.Book.{free, is_live, stands_on, better, ahead, insert, in_priority, queue, other, head_price, best, arranged, may_follow, in_order}
use Rattle.model.specs.Arrival.{is_taken, in_places, may_arrive, in_arrival}
use Rattle.model.specs.Books.{with_fixed, with_blocks, Books}
use Rattle.model.specs.Matching.{five_best, filled, last_price, first_price, highest, lowest, is_in, filled_of, less_by, settle}
use Rattle.model.specs.Limits.{is_price, in_band}
use Rattle.model.specs.Figures.{no_level, no_levels, no_screen, fresh_day, at, money, tally, reference, open_price, close_price, with_fixed_figures, tally_fixed, with_block_figures, next_block, issue_block, tally_blocks, published_shares, published_turnover}
use Rattle.model.specs.Halts.{runs, phase_now, away, reach, halt_end, halting, fires, fired, resumed}
use Rattle.model.specs.Auction.{shares_of, demand, supply, volume, surplus}
use Rattle.model.specs.Screen.{level_at, levels_of, shown_price, screen_of, high_with, low_with, update, same_level, same_levels, same_surplus, same_screen}
use Rattle.model.specs.Pairing.{cut, head_less, pair, trades_at}
use Rattle.model.specs.FixedBook.{wrong_side, is_void, arrivals, matches, lined}
use Rattle.model.specs.Blocks.{undeclared, is_held, is_block, fits, confirmation, with_earliest, unnamed, in_turn, confirmations, none_held, held_in}
use Rattle.model.specs.Sound.{has_places, is_mark, may_stand, sound_figures, is_free, is_order_of, is_order, own_numbers, is_empty, crosses, between, shares_fit, prices_fit, turnover_fits, encloses, screen_fits, is_led_to, is_used, halt_fits, fixed_fits, blocks_fit, sound_anywhere, sound}
use Rattle.model.specs.SoundFixed.{one_sided, fixed_sums, sound_fixed}
use Rattle.model.specs.SoundBlocks.{is_undeclared, is_declaration, sound_blocks}
use Rattle.model.specs.Refusals.{◌when◌, first_of, unsound, unsound_fixed, unsound_blocks, unsound_books, Rule}
use Rattle.model.specs.Calls.{written, cleared, is_own, cancel_rules}
use Rattle.model.specs.ClockCall.{auction_trades, auction, resume, lapse, pass, through, start, moved}
use Rattle.model.specs.FixedCalls.{fixed_cancel_rules}
use Rattle.model.specs.BlockCalls.{declaring, block_trades, block_rules, block_entered, block_call}
use Rattle.model.specs.AfterClose.{confirm_all, match_all, end_all, pass_after, through_after, After}
use Rattle.model.specs.AllCalls.{open_all_rules, open_all_call, start_after, moved_on, move_trades, clock_all_rules, clock_all_call, OpenAllOutcome, ClockAllOutcome}
use Rattle.model.specs.Replies.{open_numbers, block_numbers}
use Rattle.model.specs.Session.{opened}
use Rattle.model.specs.Words.{held}
use Rattle.model.proofs.Examples.{order, trade, block, untraded, block_day, block_books, fixed_day}

-- side, account, the account named, quantity, price, agreement number
abbrev asked : ℕ → ℕ → ℕ → ℕ → ℕ → ℕ → AskedBlock
asked side account counter quantity price agreement =
    record {
      side = side;
      account = account;
      counter = counter;
      quantity = quantity;
      price = price;
      agreement = agreement;
    }

-- 7 buys of 8, and 8 sells to 7: 100,000 shares at 1000, agreement 5
abbrev buys : AskedBlock
buys = asked 0 7 8 100_000 1000 5

abbrev sells : AskedBlock
sells = asked 1 8 7 100_000 1000 5

abbrev sized : ℕ → ℕ → AskedBlock
sized quantity price = asked 0 7 8 quantity price 5

abbrev old : ℕ → Trade
old n = trade n n n n n n

-- a main book in which nobody waits
abbrev nobody : List Order
nobody = free ∷ []

-- ---- refusals, behind 15 (in the calls a screen shows the auction's price, which is too much to try): a day, a declaration, one
-- free place and a list of no trade; the number

pub record Try : Type 0 where
  pub day : Day
  pub asked : AskedBlock
  pub refusal : ℕ

infix 74 ◌on◌gives◌
abbrev ◌on◌gives◌ : AskedBlock → Day → ℕ → Try
a on d gives n = record { day = d; asked = a; refusal = n }

unfoldable pub refusal_of : Try → ℕ
refusal_of r = first_of (drop 1 (block_rules r.day r.asked nobody (undeclared ∷ []) 0))

-- a limited day with a previous close of 1000
abbrev at_time : ℕ → Day
at_time time = block_day 1 time 0 0

abbrev hours : List Try
hours =
    (buys on at_time 33_299 gives 21)
    ∷ (buys on at_time 33_300 gives 0)
    ∷ (buys on at_time 33_900 gives 0)
    ∷ (buys on at_time 41_399 gives 0)
    ∷ (buys on at_time 41_400 gives 21)
    ∷ (buys on at_time 46_799 gives 21)
    ∷ (buys on at_time 46_800 gives 0)
    ∷ (buys on at_time 54_000 gives 0)
    ∷ (buys on at_time 55_799 gives 0)
    ∷ (buys on at_time 55_800 gives 21)
    ∷ []

-- side, either account, price, size, band; an account may name itself, and any agreement number will do
abbrev forms : List Try
forms =
    (asked 2 7 8 100_000 1000 5 on at_time 33_300 gives 2)
    ∷ (asked 0 0 8 100_000 1000 5 on at_time 33_300 gives 3)
    ∷ (asked 0 7 0 100_000 1000 5 on at_time 33_300 gives 3)
    ∷ (asked 0 7 7 100_000 1000 0 on at_time 33_300 gives 0)
    ∷ (buys on block_day 0 33_300 0 0 gives 23)
    ∷ (sized 100_000_000 0 on at_time 33_300 gives 7)
    ∷ (sized 100_000 999_999 on at_time 33_300 gives 8)
    ∷ (sized 100_000 1_000_000 on at_time 33_300 gives 7)
    ∷ (sized 99_999 1000 on at_time 33_300 gives 22)
    ∷ (sized 100_000 700 on at_time 33_300 gives 0)
    ∷ (sized 99_999 700 on at_time 33_300 gives 22)
    ∷ (sized 76_923 1300 on at_time 33_300 gives 22)
    ∷ (sized 76_924 1300 on at_time 33_300 gives 0)
    ∷ (sized 79_999 1250 on at_time 33_300 gives 22)
    ∷ (sized 80_000 1250 on at_time 33_300 gives 0)
    ∷ (sized 100_000_000 1000 on at_time 33_300 gives 0)
    ∷ (sized 100_000_001 1000 on at_time 33_300 gives 22)
    ∷ (sized 0 1000 on at_time 33_300 gives 22)
    ∷ (sized 100_000 699 on at_time 33_300 gives 8)
    ∷ (sized 100_000 1301 on at_time 33_300 gives 8)
    ∷ []

-- each in its turn: the earlier number where two rules hold
abbrev turns : List Try
turns =
    (asked 2 0 8 100_000 1000 5 on at_time 33_300 gives 2)
    ∷ (asked 0 0 8 100_000 1000 5 on at_time 33_299 gives 3)
    ∷ (buys on block_day 0 33_299 0 0 gives 21)
    ∷ (sized 1 0 on block_day 0 33_300 0 0 gives 23)
    ∷ (sized 1 0 on at_time 33_300 gives 7)
    ∷ (sized 1 699 on at_time 33_300 gives 22)
    ∷ (sized 100_000 699 on block_day 1 33_300 999_999 0 gives 8)
    ∷ (buys on block_day 1 33_300 999_998 0 gives 0)
    ∷ (buys on block_day 1 33_300 999_999 0 gives 11)
    ∷ []

abbrev tries : List (List Try)
tries = hours ∷ forms ∷ turns ∷ []

pub refusals_tried : map (map refusal_of) tries ≡ map (map (λ (r : Try). r.refusal)) tries
unfolding keep all any total long_hours confirming_from free other is_taken is_in is_price in_band no_level no_levels no_screen with_block_figures next_block undeclared is_held is_block fits confirmation with_earliest unnamed in_turn confirmations ◌when◌ first_of declaring block_trades block_rules held refusal_of
refusals_tried = refl

-- the order of the tests, whatever the calls are given
abbrev numbers : List Rule → List ℕ
numbers rs = map (λ r. r.number) rs

pub check_orders :
    (d : Day) (a : AskedBlock) (m n : ℕ) (main : List Order) (held : List Declaration) (s : Books)
    → (numbers (block_rules d a main held n) ≡ 15 ∷ 2 ∷ 3 ∷ 21 ∷ 23 ∷ 7 ∷ 22 ∷ 8 ∷ 10 ∷ 11 ∷ 13 ∷ [])
    × (numbers (open_all_rules m n s) ≡ 14 ∷ [])
    × (numbers (clock_all_rules d m s n) ≡ 15 ∷ 1 ∷ 13 ∷ [])
unfolding block_rules open_all_rules clock_all_rules ◌when◌
check_orders d a m n main held s = (refl, refl, refl)

-- ---- which fit: the same price, quantity and agreement number, opposite sides, each naming the other's account

pub fits_tried :
    map (fits (block 0 7 8 100_000 1000 5 1))
    (block 1 8 7 100_000 1000 5 2
    ∷ block 0 8 7 100_000 1000 5 2
    ∷ block 1 9 7 100_000 1000 5 2
    ∷ block 1 8 9 100_000 1000 5 2
    ∷ block 1 8 7 100_001 1000 5 2
    ∷ block 1 8 7 100_000 1001 5 2
    ∷ block 1 8 7 100_000 1000 6 2
    ∷ undeclared
    ∷ [])
    ≡ true ∷ false ∷ false ∷ false ∷ false ∷ false ∷ false ∷ false ∷ []
unfolding other undeclared fits
fits_tried = refl

-- ---- on entry: held until 15:00, and then confirmed with the earliest that fits

-- three sells that fit, after one that names another account
abbrev sellers : List Declaration
sellers =
    block 1 8 9 100_000 1000 5 1
    ∷ block 1 8 7 100_000 1000 5 2
    ∷ block 1 8 7 100_000 1000 5 4
    ∷ block 1 8 7 100_000 1000 5 5
    ∷ undeclared
    ∷ []

abbrev buyers : List Declaration
buyers = block 0 7 9 100_000 1000 5 1 ∷ block 0 7 8 100_000 1000 5 3 ∷ block 0 7 8 100_000 1000 5 4 ∷ undeclared ∷ []

-- four numbers issued
abbrev later : Day
later = block_day 1 54_000 4 0

pub entry_tried :
    ((block_call (block_day 1 53_819 5 0) buys nobody sellers []).answer.reply ≡ BlockReply.TheVariants.Held 6)
    × ((block_call (block_day 1 53_819 5 0) buys nobody sellers []).held
    ≡ block 1 8 9 100_000 1000 5 1
    ∷ block 1 8 7 100_000 1000 5 2
    ∷ block 1 8 7 100_000 1000 5 4
    ∷ block 1 8 7 100_000 1000 5 5
    ∷ block 0 7 8 100_000 1000 5 6
    ∷ [])
    × (block_call (block_day 1 54_000 5 300_000) buys nobody sellers (old 1 ∷ old 2 ∷ [])
    ≡ record {
      answer = record { reply = BlockReply.TheVariants.Confirmed 6; made = 1; day = block_day 1 54_000 6 400_000 };
      held =
          block 1 8 9 100_000 1000 5 1
          ∷ block 1 8 7 100_000 1000 5 4
          ∷ block 1 8 7 100_000 1000 5 5
          ∷ undeclared
          ∷ undeclared
          ∷ [];
      trades = trade 1000 100_000 6 2 0 0 ∷ old 2 ∷ [];
    })
    -- a seller's partner is the earliest buyer that fits
    × ((block_call later sells nobody buyers (old 1 ∷ [])).trades ≡ trade 1000 100_000 3 5 0 0 ∷ [])
    × (block_numbers (block_call later sells nobody buyers (old 1 ∷ [])).answer.reply ≡ 0 ∷ 5 ∷ 1 ∷ [])
    -- no room for the confirmation: 13, and nothing is touched
    × (block_call later sells nobody buyers []
    ≡ record {
      answer = record { reply = BlockReply.TheVariants.Refused 13; made = 0; day = later };
      held = buyers;
      trades = [];
    })
    -- none that fits: held
    × (block_numbers (block_call later buys nobody buyers []).answer.reply ≡ 0 ∷ 5 ∷ 0 ∷ [])
    -- no free place: 10, even if it would match
    × (block_numbers (block_call later sells nobody (block 0 7 8 100_000 1000 5 3 ∷ []) (old 1 ∷ [])).answer.reply
    ≡ 10 ∷ 0 ∷ 0 ∷ [])
    -- an account that names itself
    × ((block_call later (asked 1 7 7 100_000 1000 5) nobody
    (block 0 7 8 100_000 1000 5 1 ∷ block 0 7 7 100_000 1000 5 2 ∷ undeclared ∷ [])
    (old 1 ∷ [])).trades
    ≡ trade 1000 100_000 2 5 0 0 ∷ [])
unfolding keep all any total from among once is_time closed later_rows holding row_at phase_at long_hours confirming_from matching_from day_end continuous free is_live stands_on better ahead insert in_priority queue other head_price best may_follow in_order is_taken in_places may_arrive in_arrival five_best filled is_in is_price in_band no_level no_levels no_screen reference close_price with_block_figures next_block issue_block tally_blocks published_shares published_turnover runs phase_now halt_end shares_of demand supply volume surplus level_at levels_of shown_price screen_of same_level same_levels same_surplus same_screen undeclared is_held is_block fits confirmation with_earliest unnamed in_turn confirmations held_in has_places is_mark may_stand sound_figures is_free is_order_of is_order own_numbers is_empty crosses between shares_fit prices_fit turnover_fits encloses screen_fits is_led_to is_used halt_fits fixed_fits blocks_fit sound_anywhere sound is_undeclared is_declaration sound_blocks ◌when◌ first_of unsound unsound_blocks written declaring block_trades block_rules block_entered block_call block_numbers held
entry_tried = (refl, refl, refl, refl, refl, refl, refl, refl, refl)

-- ---- 15:00 and 15:30

-- two agreements: buyers 2 and 5 and sellers 1, 3, 7 of the one, buyer 4 and seller 6 of the other; 8 is alone
abbrev many : List Declaration
many =
    block 1 8 7 100_000 1000 5 1
    ∷ block 0 7 8 100_000 1000 5 2
    ∷ block 1 8 7 100_000 1000 5 3
    ∷ block 0 9 8 200_000 990 6 4
    ∷ block 0 7 8 100_000 1000 5 5
    ∷ block 1 8 9 200_000 990 6 6
    ∷ block 1 8 7 100_000 1000 5 7
    ∷ block 0 7 8 100_000 1001 5 8
    ∷ []

abbrev two : List Declaration
two = block 1 8 7 100_000 1000 5 7 ∷ block 0 7 8 100_000 1001 5 8 ∷ []

-- the confirmations, lower buyer first, and what is held then
pub confirmations_tried :
    (confirmations many ≡ trade 1000 100_000 2 1 0 0 ∷ trade 990 200_000 4 6 0 0 ∷ trade 1000 100_000 5 3 0 0 ∷ [])
    × (held_in 4 (unnamed (confirmations many) many)
    ≡ block 1 8 7 100_000 1000 5 7 ∷ block 0 7 8 100_000 1001 5 8 ∷ undeclared ∷ undeclared ∷ [])
unfolding keep any total other is_taken in_places is_in undeclared is_held fits confirmation with_earliest unnamed in_turn confirmations held_in held
confirmations_tried = (refl, refl)

-- a day without its screen: time, shares confirmed
abbrev unshown : ℕ → ℕ → Day
unshown time shares = with_block_figures (record { issued = 8; shares = shares }) (untraded 1000 1 time 9)

-- behind a main book that did nothing
abbrev from_there : ℕ → After
from_there time = start_after (start (unshown time 0) nobody) (block_books many)

-- 15:00, after what the main book does: the day, what is held, the confirmations; before it and after it nothing
pub three_tried :
    (pass_after 54_000 (from_there 53_999)
    ≡ record {
      day = unshown 53_999 400_000;
      books = block_books (held_in 8 two);
      auctions = [];
      confirmed = trade 1000 100_000 2 1 0 0 ∷ trade 990 200_000 4 6 0 0 ∷ trade 1000 100_000 5 3 0 0 ∷ [];
      fixed = [];
      void = 0;
      lapsed = 0;
    })
    × (through_after (passed 53_900 53_999) (from_there 53_900) ≡ from_there 53_900)
    × (through_after (passed 54_000 54_200) (from_there 54_000) ≡ from_there 54_000)
unfolding keep any total from among once closed later_rows holding row_at phase_at confirming_from matching_from day_end continuous passed free is_live stands_on better ahead insert in_priority queue other is_taken in_places with_fixed with_blocks five_best filled is_in filled_of less_by settle no_level no_levels no_screen money reference close_price with_fixed_figures tally_fixed with_block_figures tally_blocks published_shares published_turnover runs phase_now shares_of demand supply volume surplus level_at levels_of shown_price screen_of head_less pair wrong_side is_void arrivals matches lined undeclared is_held fits confirmation with_earliest unnamed in_turn confirmations none_held held_in cleared start confirm_all match_all end_all pass_after through_after start_after held
three_tried = (refl, refl, refl)

abbrev ending : ℕ → ClockAllOutcome
ending t = clock_all_call (block_day 1 55_798 8 400_000) t (block_books buyers) []

-- 15:30: the unmatched lapse, the shares join the published total, and no money
pub end_tried :
    (ending 55_799
    ≡ record {
      answer =
          record {
            reply =
                MoveReply.TheVariants.Moved
                (record { phase = 0; trades = 0; confirmed = 0; fixed = 0; void = 0; lapsed = 0 });
            made = 0;
            day = block_day 1 55_799 8 400_000;
          };
      books = block_books buyers;
      trades = [];
    })
    × ((ending 55_800).books ≡ block_books (replicate 4 undeclared))
    × (map (λ t. (ending t).answer.day.screen.shares) (55_799 ∷ 55_800 ∷ []) ≡ 0 ∷ 400_000 ∷ [])
    × (map (λ t. (ending t).answer.day.screen.turnover) (55_799 ∷ 55_800 ∷ []) ≡ 0 ∷ 0 ∷ [])
unfolding keep all any total from among once is_time closed later_rows holding row_at phase_at confirming_from matching_from day_end continuous passed free is_live stands_on better ahead insert in_priority queue other head_price best arranged may_follow in_order is_taken in_places may_arrive in_arrival with_fixed with_blocks five_best filled last_price first_price highest lowest is_in filled_of less_by settle is_price in_band no_level no_levels no_screen at money tally reference open_price close_price with_fixed_figures tally_fixed with_block_figures tally_blocks published_shares published_turnover runs phase_now away reach halt_end halting fires fired resumed shares_of demand supply volume surplus level_at levels_of shown_price screen_of high_with low_with update same_level same_levels same_surplus same_screen cut head_less pair trades_at wrong_side is_void arrivals matches lined undeclared is_held is_block fits confirmation with_earliest unnamed in_turn confirmations none_held held_in has_places is_mark may_stand sound_figures is_free is_order_of is_order own_numbers is_empty crosses between shares_fit prices_fit turnover_fits encloses screen_fits is_led_to is_used halt_fits fixed_fits blocks_fit sound_anywhere sound one_sided fixed_sums sound_fixed is_undeclared is_declaration sound_blocks ◌when◌ first_of unsound unsound_fixed unsound_blocks unsound_books written cleared auction_trades auction resume lapse pass through start moved confirm_all match_all end_all pass_after through_after start_after moved_on move_trades clock_all_rules clock_all_call opened held
end_tried = (refl, refl, refl, refl)

-- ---- all lists at once

abbrev all_three : Books
all_three =
    record {
      main = nobody;
      fixed = order 0 7 300 1000 1 ∷ order 1 8 100 1001 2 ∷ order 1 8 200 990 3 ∷ [];
      blocks = block 0 7 8 100_000 1000 5 1 ∷ block 1 8 7 100_000 1000 5 2 ∷ block 1 8 7 100_000 1000 5 3 ∷ [];
    }

abbrev evening : Day
evening = with_block_figures (record { issued = 3; shares = 0 }) (fixed_day 1 53_999 3 0 0 1000)

-- 15:00, 15:05 and 15:30 in one move, behind what the main book does (that a move does these three and nothing else is a law,
-- `by-stops`): the trades of each series, void and lapsed shares, the totals
pub evening_tried :
    let h : After = pass_after 55_800 (pass_after 54_300 (pass_after 54_000 (start_after (start evening nobody) all_three))) in
    (h.confirmed ≡ trade 1000 100_000 1 2 0 0 ∷ [])
    × (h.fixed ≡ trade 1000 200 1 3 100 0 ∷ [])
    × (move_trades h ≡ trade 1000 100_000 1 2 0 0 ∷ trade 1000 200 1 3 100 0 ∷ [])
    × (h.void ≡ 100)
    × (h.lapsed ≡ 100)
    × (h.books.fixed ≡ free ∷ free ∷ free ∷ [])
    × (h.books.blocks ≡ undeclared ∷ undeclared ∷ undeclared ∷ [])
    × (published_shares h.day ≡ 100)
    × (published_shares (at 55_800 h.day) ≡ 100_300)
    × (published_turnover (at 55_800 h.day) ≡ 300_000)
    × (h.day.last ≡ 1000)
unfolding keep any total from among once closed later_rows holding row_at phase_at confirming_from matching_from day_end continuous free is_live stands_on better ahead insert in_priority queue other is_taken in_places with_fixed with_blocks five_best filled is_in filled_of less_by settle no_level no_levels no_screen at money reference close_price with_fixed_figures tally_fixed with_block_figures tally_blocks published_shares published_turnover runs phase_now shares_of demand supply volume surplus level_at levels_of shown_price screen_of head_less pair wrong_side is_void arrivals matches lined undeclared is_held fits confirmation with_earliest unnamed in_turn confirmations none_held held_in cleared start confirm_all match_all end_all pass_after start_after move_trades held
evening_tried = (refl, refl, refl, refl, refl, refl, refl, refl, refl, refl, refl)

-- an opening frees every place of every list; each must have 1 to 4,096
abbrev opens : Books → OpenAllOutcome
opens s = open_all_call 1000 1 s

abbrev lists : List Order → List Order → List Declaration → Books
lists main fixed blocks = record { main = main; fixed = fixed; blocks = blocks }

pub opening_tried :
    (opens all_three
    ≡ record {
      reply = OpenReply.TheVariants.Opened (fresh_day 1000 1);
      books = lists nobody (free ∷ free ∷ free ∷ []) (undeclared ∷ undeclared ∷ undeclared ∷ []);
    })
    × (map (λ s. open_numbers (opens s).reply)
    (lists [] nobody (undeclared ∷ [])
    ∷ lists nobody [] (undeclared ∷ [])
    ∷ lists nobody nobody []
    ∷ lists (replicate 4_096 free) (replicate 4_096 free) (replicate 4_096 undeclared)
    ∷ lists (replicate 4_097 free) nobody (undeclared ∷ [])
    ∷ lists nobody (replicate 4_097 free) (undeclared ∷ [])
    ∷ lists nobody nobody (replicate 4_097 undeclared)
    ∷ [])
    ≡ (14 ∷ []) ∷ (14 ∷ []) ∷ (14 ∷ []) ∷ (0 ∷ []) ∷ (14 ∷ []) ∷ (14 ∷ []) ∷ (14 ∷ []) ∷ [])
unfolding total free is_price no_level no_levels no_screen fresh_day undeclared none_held has_places is_mark ◌when◌ first_of cleared open_all_rules open_all_call open_numbers held
opening_tried = (refl, refl)

-- ---- soundness

pub record Case : Type 0 where
  pub day : Day
  pub held : List Declaration
  pub unsound : Bool

abbrev good : Day → List Declaration → Case
good d xs = record { day = d; held = xs; unsound = false }

abbrev bad : Day → List Declaration → Case
bad d xs = record { day = d; held = xs; unsound = true }

abbrev one : List Declaration
one = block 0 7 8 100_000 1000 5 1 ∷ []

abbrev noon : Day
noon = block_day 1 41_400 9 0

abbrev places : List Case
places =
    bad noon []
    ∷ good noon (undeclared ∷ [])
    ∷ good noon (replicate 4_096 undeclared)
    ∷ bad noon (replicate 4_097 undeclared)
    ∷ []

-- badly formed: side, accounts, size, price, band, number, a place that is neither free nor a declaration; any on an unlimited day
abbrev forms_held : List Case
forms_held =
    good noon one
    ∷ bad noon (block 2 7 8 100_000 1000 5 1 ∷ [])
    ∷ bad noon (block 0 0 8 100_000 1000 5 1 ∷ [])
    ∷ bad noon (block 0 7 0 100_000 1000 5 1 ∷ [])
    ∷ good noon (block 0 7 7 100_000 1000 0 1 ∷ [])
    ∷ bad noon (block 0 7 8 99_999 1000 5 1 ∷ [])
    ∷ good noon (block 0 7 8 76_924 1300 5 1 ∷ [])
    ∷ good noon (block 0 7 8 100_000_000 1000 5 1 ∷ [])
    ∷ bad noon (block 0 7 8 100_000_001 1000 5 1 ∷ [])
    ∷ bad noon (block 0 7 8 100_000 699 5 1 ∷ [])
    ∷ good noon (block 0 7 8 100_000 700 5 1 ∷ [])
    ∷ good noon (block 0 7 8 100_000 1300 5 1 ∷ [])
    ∷ bad noon (block 0 7 8 100_000 1301 5 1 ∷ [])
    ∷ good noon (block 0 7 8 100_000 1000 5 9 ∷ [])
    ∷ bad noon (block 0 7 8 100_000 1000 5 10 ∷ [])
    ∷ bad noon (block 0 7 8 100_000 1000 5 0 ∷ [])
    ∷ bad noon (block 0 0 0 0 0 5 0 ∷ [])
    ∷ bad (block_day 0 41_400 9 0) one
    ∷ good (block_day 0 41_400 9 0) (undeclared ∷ [])
    ∷ good (block_day 1 41_400 999_999 0) one
    ∷ bad (block_day 1 41_400 1_000_000 0) one
    ∷ []

-- in order of arrival, free places last
abbrev arrivals_held : List Case
arrivals_held =
    good noon (block 1 8 7 100_000 1000 5 1 ∷ block 0 7 8 100_000 1000 5 2 ∷ undeclared ∷ [])
    ∷ bad noon (block 1 8 7 100_000 1000 5 2 ∷ block 0 7 8 100_000 1000 5 1 ∷ [])
    ∷ bad noon (block 1 8 7 100_000 1000 5 2 ∷ block 0 7 8 100_000 1000 5 2 ∷ [])
    ∷ bad noon (undeclared ∷ block 0 7 8 100_000 1000 5 1 ∷ [])
    ∷ []

-- due to be lapsed: before 9:15 and from 15:30
abbrev lapses : List Case
lapses =
    bad (block_day 1 33_299 9 0) one
    ∷ good (block_day 1 33_300 9 0) one
    ∷ good (block_day 1 55_799 9 0) one
    ∷ bad (block_day 1 55_800 9 0) one
    ∷ []

-- due to be confirmed: two that fit from 15:00 on
abbrev dues : List Case
dues =
    good (block_day 1 53_999 9 0) (block 1 8 7 100_000 1000 5 1 ∷ block 0 7 8 100_000 1000 5 2 ∷ [])
    ∷ bad (block_day 1 54_000 9 0) (block 1 8 7 100_000 1000 5 1 ∷ block 0 7 8 100_000 1000 5 2 ∷ [])
    ∷ bad (block_day 1 54_000 9 0) (block 0 7 8 100_000 1000 5 1 ∷ block 0 9 9 100_000 1000 5 2 ∷ block 1 8 7 100_000 1000 5 3 ∷ [])
    ∷ good (block_day 1 54_000 9 0) (block 1 8 7 100_000 1000 5 1 ∷ block 0 7 8 100_000 1000 6 2 ∷ [])
    ∷ good (block_day 1 54_000 9 0) (block 1 8 7 100_000 1000 5 1 ∷ block 1 8 7 100_000 1000 5 2 ∷ [])
    ∷ []

-- at most 50,000,000 shares per declaration number issued
abbrev fields : List Case
fields =
    good (block_day 1 54_000 3 150_000_000) (undeclared ∷ [])
    ∷ bad (block_day 1 54_000 3 150_000_001) (undeclared ∷ [])
    ∷ bad (block_day 1 54_000 0 1) (undeclared ∷ [])
    ∷ []

abbrev cases : List (List Case)
cases = places ∷ forms_held ∷ arrivals_held ∷ lapses ∷ dues ∷ fields ∷ []

pub soundness_tried :
    map (map (λ (c : Case). not (blocks_fit c.day) || unsound_blocks c.day c.held)) cases
    ≡ map (map (λ (c : Case). c.unsound)) cases
unfolding all any total confirming_from free other is_taken may_arrive in_arrival is_price in_band no_level no_levels no_screen with_block_figures undeclared is_held is_block fits has_places between blocks_fit is_undeclared is_declaration sound_blocks unsound_blocks held
soundness_tried = refl

-- ---- a call tests all that it is lent, and no more

abbrev wrong : List Declaration
wrong = block 0 7 0 100_000 1000 5 1 ∷ []

abbrev too_many : Day
too_many = block_day 1 41_400 1 50_000_001

pub lent_tried :
    -- declarations, a main book and a fixed-price book that are not sound
    (first_of (block_rules noon buys nobody wrong 0) ≡ 15)
    × (first_of (block_rules noon buys (order 0 0 100 1000 1 ∷ []) one 0) ≡ 15)
    × (first_of (block_rules noon buys nobody one 0) ≡ 21)
    × (map (λ s. unsound_books noon s)
    (lists nobody nobody one
    ∷ lists (order 0 0 100 1000 1 ∷ []) nobody one
    ∷ lists nobody (order 0 0 100 1000 1 ∷ []) one
    ∷ lists nobody nobody wrong
    ∷ [])
    ≡ false ∷ true ∷ true ∷ true ∷ [])
    -- the day's own figures of block trades are tested by every call
    × (first_of (cancel_rules too_many 7 1 nobody) ≡ 15)
    × (first_of (cancel_rules noon 7 1 nobody) ≡ 4)
    × (first_of (fixed_cancel_rules too_many 7 1 nobody nobody) ≡ 15)
    × (first_of (fixed_cancel_rules noon 7 1 nobody nobody) ≡ 19)
unfolding keep all any total from among once is_time closed later_rows holding row_at phase_at takes_cancels long_hours confirming_from matching_from day_end continuous free is_live stands_on better ahead insert in_priority queue other head_price best may_follow in_order is_taken may_arrive in_arrival five_best is_in is_price in_band no_level no_levels no_screen reference close_price with_block_figures next_block published_shares published_turnover runs phase_now halt_end shares_of demand supply volume surplus level_at levels_of shown_price screen_of same_level same_levels same_surplus same_screen wrong_side is_void is_held is_block fits confirmation with_earliest unnamed in_turn confirmations has_places is_mark may_stand sound_figures is_free is_order_of is_order own_numbers is_empty crosses between shares_fit prices_fit turnover_fits encloses screen_fits is_led_to is_used halt_fits fixed_fits blocks_fit sound_anywhere sound one_sided fixed_sums sound_fixed is_undeclared is_declaration sound_blocks ◌when◌ first_of unsound unsound_fixed unsound_blocks unsound_books is_own cancel_rules fixed_cancel_rules declaring block_trades block_rules held
lent_tried = (refl, refl, refl, refl, refl, refl, refl, refl)
