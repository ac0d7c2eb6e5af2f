-- Why the bound on the confirmed shares is kept only together with what covers it: a day and a declaration on it, by evaluation.
-- Assumes nothing.
use mathlib.Core.Path.{◌≡◌, refl}
use mathlib.Core.Bool.{false, ◌||◌}
use mathlib.Core.List.{List, [], ◌∷◌}
use lib.ListN.{length}
use borrow.Author.Tests.{eq-eqb}
use Rattle.model.specs.declared.Order.{Order}
use Rattle.model.specs.declared.AskedBlock.{AskedBlock}
use Rattle.model.specs.declared.Declaration.{Declaration}
use Rattle.model.specs.declared.Trade.{Trade}
use Rattle.model.specs.declared.Day.{Day}
use Rattle.model.specs.Lists.{keep, all, any, total, among, once}
use Rattle.model.specs.Clock.{is_time, closed, later_rows, holding, row_at, phase_at, long_hours, confirming_from, matching_from, day_end, continuous}
use Rattle.model.specs.Limits.{is_price, in_band}
use Rattle.model.specs.Book.{free, is_live, stands_on, in_priority, queue, other, head_price, best, in_order}
use Rattle.model.specs.Arrival.{is_taken, may_arrive, in_arrival}
use Rattle.model.specs.Matching.{filled, five_best, is_in}
use Rattle.model.specs.Figures.{no_level, no_levels, no_screen, reference, close_price, with_block_figures, next_block, issue_block, tally_blocks, published_shares, published_turnover}
use Rattle.model.specs.Halts.{runs, phase_now}
use Rattle.model.specs.Screen.{level_at, levels_of, shown_price, screen_of, same_level, same_levels, same_surplus, same_screen}
use Rattle.model.specs.Blocks.{undeclared, is_held, is_block, fits, confirmation, with_earliest, unnamed, in_turn, confirmations}
use Rattle.model.specs.Sound.{has_places, is_mark, may_stand, sound_figures, is_free, is_order_of, is_order, own_numbers, is_empty, crosses, between, shares_fit, prices_fit, turnover_fits, encloses, screen_fits, is_used, halt_fits, fixed_fits, blocks_fit, sound_anywhere, sound}
use Rattle.model.specs.SoundBlocks.{is_undeclared, is_declaration, sound_blocks}
use Rattle.model.specs.Refusals.{◌when◌, first_of, unsound, unsound_blocks}
use Rattle.model.specs.BlockCalls.{declaring, block_trades, block_rules, block_entered, block_call}
use Rattle.model.specs.Words.{Sound}
use Rattle.model.proofs.Examples.{trade, untraded}
use Rattle.block_demands.specs.Keeping.{Uncovered}

-- 15:00: one number is issued and 50,000,000 shares are confirmed, the most for one number
abbrev day : Day
day = with_block_figures (record { issued = 1; shares = 50_000_000 }) (untraded 1000 1 54_000 0)

-- and yet that one is still held, with 100,000,000 shares
abbrev held : List Declaration
held =
    record { side = 0; account = 7; counter = 8; quantity = 100_000_000; price = 1000; agreement = 5; number = 1 }
    ∷ undeclared
    ∷ []

-- its partner comes in
abbrev asked : AskedBlock
asked = record { side = 1; account = 8; counter = 7; quantity = 100_000_000; price = 1000; agreement = 5 }

abbrev main : List Order
main = free ∷ []

abbrev lent : List Trade
lent = trade 0 0 0 0 0 0 ∷ []

main_is : Sound day main
unfolding has_places sound sound_anywhere sound_figures is_mark is_price is_time is_free free is_order is_order_of may_stand own_numbers is_live is_empty crosses between shares_fit prices_fit turnover_fits in_order screen_fits encloses screen_of shown_price phase_now phase_at row_at holding later_rows closed continuous runs among any all total best head_price queue in_priority stands_on keep levels_of level_at five_best once no_level no_levels no_screen same_screen same_levels same_level same_surplus published_shares published_turnover day_end halt_fits is_used fixed_fits close_price reference matching_from blocks_fit with_block_figures
main_is = (refl, refl)

held_is : unsound_blocks day held ≡ false
unfolding unsound_blocks has_places sound_blocks is_undeclared undeclared is_declaration is_price is_block in_band in_arrival may_arrive is_taken between is_held fits other confirming_from all any with_block_figures
held_is = refl

sound_all : (unsound day main || unsound_blocks day held) ≡ false
unfolding unsound
sound_all = rw (main_is.0, main_is.1, held_is)

rules_are : first_of (block_rules day asked main held (length lent)) ≡ 0
unfolding block_rules first_of ◌when◌ long_hours is_price is_block in_band is_held is_taken undeclared all any keep block_trades confirming_from confirmations declaring next_block in_turn with_earliest unnamed fits other is_in confirmation with_block_figures
rules_are = rw sound_all

-- 150,000,000 confirmed, and two numbers issued
above : blocks_fit (block_entered day asked held lent).answer.day ≡ false
unfolding blocks_fit block_entered tally_blocks issue_block with_block_figures filled total block_trades confirming_from confirmations declaring next_block keep any is_held is_taken undeclared in_turn with_earliest unnamed fits other is_in confirmation
above = refl

pub uncovered : Uncovered
unfolding block_call
uncovered =
    record {
      day = day;
      main = main;
      held = held;
      asked = asked;
      lent = lent;
      main_sound = main_is;
      held_sound = held_is;
      allowed = rules_are;
      above = rw (eq-eqb (first_of (block_rules day asked main held (length lent))) 0 rules_are) above;
    }
