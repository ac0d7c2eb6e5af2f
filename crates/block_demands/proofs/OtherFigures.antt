-- A day of which the figures of block trades alone change: its own figures, its halt, its fixed-price figures and what they say of
-- either book are the same, and before 15:30 its screen is. Assumes nothing.
use Prim.Native.Nat.{ℕ, ◌<◌}
use mathlib.Core.Path.{◌≡◌, refl, ap, ◌∙◌}
use mathlib.Core.Bool.{Bool, true, ◌&&◌}
use mathlib.Core.List.{List}
use borrow.Author.Tests.{lt-leb}
use Rattle.model.specs.declared.Order.{Order}
use Rattle.model.specs.declared.Blocks.{Blocks}
use Rattle.model.specs.declared.Screen.{Screen}
use Rattle.model.specs.declared.Day.{Day}
use Rattle.model.specs.Clock.{day_end}
use Rattle.model.specs.Book.{in_order}
use Rattle.model.specs.Figures.{reference, close_price, with_block_figures, published_shares, published_turnover}
use Rattle.model.specs.Halts.{runs, phase_now}
use Rattle.model.specs.Auction.{auction_price}
use Rattle.model.specs.Screen.{shown_price, screen_of, same_screen}
use Rattle.model.specs.Sound.{may_stand, sound_figures, is_order_of, is_order, shares_fit, prices_fit, turnover_fits, encloses, screen_fits, halt_fits, fixed_fits, blocks_fit, sound_anywhere, sound}
use Rattle.model.specs.SoundFixed.{fixed_sums, sound_fixed}
use Rattle.model.specs.Refusals.{unsound_fixed}
use Rattle.model.proofs.Bools.{and_left, and_both}

module _ (b : Blocks) (d : Day) where
  abbrev with : Day
  with = with_block_figures b d

  -- ---- what reads the other fields

  same_anywhere : (book : List Order) → sound_anywhere with book ≡ sound_anywhere d book
  unfolding with_block_figures sound_anywhere sound_figures is_order is_order_of may_stand runs shares_fit prices_fit turnover_fits
  same_anywhere book = refl

  same_halt : halt_fits with ≡ halt_fits d
  unfolding with_block_figures halt_fits runs
  same_halt = refl

  same_fixed_figures : fixed_fits with ≡ fixed_fits d
  unfolding with_block_figures fixed_fits close_price reference
  same_fixed_figures = refl

  pub same_fixed : (book : List Order) → unsound_fixed with book ≡ unsound_fixed d book
  unfolding with_block_figures unsound_fixed sound_fixed is_order_of may_stand close_price reference fixed_sums
  same_fixed book = refl

  -- ---- the screen

  -- the confirmed shares are not published before 15:30
  pub same_screen_lem : (book : List Order) (high low : ℕ) → d.time < 55_800 → screen_of with book high low ≡ screen_of d book high low
  unfolding with_block_figures screen_of shown_price phase_now runs auction_price reference published_shares published_turnover day_end
  same_screen_lem book high low l = rw (lt-leb 55_800 d.time l)

  same_fit : (book : List Order) → d.time < 55_800 → screen_fits with book ≡ screen_fits d book
  unfolding with_block_figures screen_fits encloses
  same_fit book l =
      ap (λ (s : Screen). same_screen d.screen s && encloses d) (same_screen_lem book d.screen.high d.screen.low l)

  -- ---- a sound day

  pub with_sound : (book : List Order) → d.time < 55_800 → blocks_fit with ≡ true → sound d book ≡ true → sound with book ≡ true
  unfolding sound
  with_sound book l f e =
      let rest : Bool = sound_anywhere d book && in_order book && screen_fits d book && halt_fits d && fixed_fits d in
      let same : (sound_anywhere with book && in_order book && screen_fits with book && halt_fits with && fixed_fits with) ≡ rest =
      rw (same_anywhere book, same_fit book l, same_halt, same_fixed_figures)
      in
      and_both (same ∙ and_left rest (blocks_fit d) e) f
