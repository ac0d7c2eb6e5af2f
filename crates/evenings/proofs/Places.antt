-- The trades of a move, counted before anything is written: those of the main book, the confirmations where it passes 15:00, and the
-- fixed-price trades where it passes 15:05. Assumes nothing.
use Prim.Native.Nat.{ℕ, ◌+◌, ◌≤◌, ◌<◌}
use mathlib.Core.Path.{◌≡◌, refl, sym, ap, ◌∙◌}
use mathlib.Core.Logic.{◌⊎◌, inl, inr}
use mathlib.Core.Bool.{Bool, true, false, ◌&&◌}
use mathlib.Core.List.{List, [], ◌++◌}
use native.Mathlib.Omega.{arith}
use lib.ListN.{length, length-append}
use lib.Dec.{leb, ltb}
use borrow.Author.Tests.{ltb-true, ltb-false, leb-true, leb-false}
use Rattle.model.specs.declared.Order.{Order}
use Rattle.model.specs.declared.Trade.{Trade}
use Rattle.model.specs.declared.Day.{Day}
use Rattle.model.specs.Clock.{confirming_from, matching_from, day_end}
use Rattle.model.specs.Books.{Books}
use Rattle.model.specs.Figures.{close_price}
use Rattle.model.specs.Blocks.{confirmations}
use Rattle.model.specs.ClockCall.{moved}
use Rattle.model.specs.AfterClose.{After}
use Rattle.model.specs.AllCalls.{moved_on, move_trades}
use Rattle.model.proofs.Bools.{not_both}
use Rattle.moves.specs.Stops.{passes}
use Rattle.fixed_demands.specs.Moving.{Passes, Misses, matched_trades, Evening}
use Rattle.fixed_demands.proofs.Evenings.{evening}
use Rattle.fixed_demands.proofs.MainPart.{main_part}
use Rattle.evenings.specs.Counts.{confirmed_ahead, matched_ahead}

-- the test of a second as a fact
module _ (c old new : ℕ) where
  pub passes_told : passes c old new ≡ true → Passes c old new
  unfolding passes
  passes_told e = go (ltb old c) refl
    where
      go : (b : Bool) → ltb old c ≡ b → Passes c old new
      go true f = record { before = ltb-true old c f; reached = leb-true c new (rw f at e) }
      go false f = absurd (not_both e (rw f))

  pub misses_told : passes c old new ≡ false → Misses c old new
  unfolding passes
  misses_told e = go (ltb old c) refl
    where
      go : (b : Bool) → ltb old c ≡ b → Misses c old new
      go true f = inl (leb-false c new (rw f at e))
      go false f = inr (ltb-false old c f)

module _ (d : Day) (t : ℕ) (s : Books) (l : d.time ≤ t) where
  abbrev h : After
  h = moved_on d t s

  all_trades : length (move_trades h) ≡ length h.auctions + length h.confirmed + length h.fixed
  unfolding move_trades
  all_trades =
      length-append (h.auctions ++ h.confirmed) h.fixed
      ∙ ap (λ (n : ℕ). n + length h.fixed) (length-append h.auctions h.confirmed)

  confirmed_count : length h.confirmed ≡ confirmed_ahead d.time t s.blocks
  unfolding confirmed_ahead confirming_from
  confirmed_count = go (passes 54_000 d.time t) refl
    where
      go : (b : Bool) → passes 54_000 d.time t ≡ b → length h.confirmed ≡ confirmed_ahead d.time t s.blocks
      go true e = rw e (ap length ((evening d t s l).confirmed (passes_told 54_000 d.time t e)).trades)
      go false e = rw e (ap length ((evening d t s l).unconfirmed (misses_told 54_000 d.time t e)).trades)

  matched_count : length h.fixed ≡ matched_ahead (close_price (moved d t s.main).day) d.time t s.fixed
  unfolding matched_ahead matching_from
  matched_count = go (passes 54_300 d.time t) refl
    where
      go : (b : Bool) → passes 54_300 d.time t ≡ b → length h.fixed ≡ matched_ahead (close_price (moved d t s.main).day) d.time t s.fixed
      go true e = rw e (ap length ((evening d t s l).matched (passes_told 54_300 d.time t e)).trades)
      go false e = rw e (ap length ((evening d t s l).unmatched (misses_told 54_300 d.time t e)).trades)

  pub counted :
      length (move_trades h)
      ≡ length (moved d t s.main).trades
      + confirmed_ahead d.time t s.blocks
      + matched_ahead (close_price (moved d t s.main).day) d.time t s.fixed
  counted =
      all_trades
      ∙ ap (λ (ts : List Trade). length ts + length h.confirmed + length h.fixed) (main_part d t s).trades
      ∙ ap (λ (n : ℕ). length (moved d t s.main).trades + n + length h.fixed) confirmed_count
      ∙ ap
      (λ (n : ℕ). length (moved d t s.main).trades + confirmed_ahead d.time t s.blocks + n)
      matched_count
