-- One event: each list from the day before it to the day after it, with its own trades, accepted orders and shares. Assumes nothing.
use Prim.Native.Nat.{ℕ, ◌+◌, ◌≤◌}
use mathlib.Core.Path.{◌≡◌, refl, ap, ◌∙◌}
use mathlib.Core.Bool.{Bool, true, false, not, ◌||◌}
use mathlib.Core.List.{List, ◌++◌, append_assoc}
use lib.ListN.{length, take, drop}
use lib.Seq.{take_at, drop_at, drop-append-add}
use lib.Dec.{leb, ltb}
use borrow.Author.Tests.{leb-true, ltb-false}
use Rattle.model.specs.declared.Asked.{Asked}
use Rattle.model.specs.declared.AskedFixed.{AskedFixed}
use Rattle.model.specs.declared.AskedBlock.{AskedBlock}
use Rattle.model.specs.declared.Trade.{Trade}
use Rattle.model.specs.declared.Day.{Day}
use Rattle.model.specs.Clock.{is_time}
use Rattle.model.specs.Books.{Books, with_fixed, with_blocks}
use Rattle.model.specs.Figures.{at, with_fixed_figures, with_block_figures}
use Rattle.model.specs.Screen.{update}
use Rattle.model.specs.Refusals.{◌when◌, first_of}
use Rattle.model.specs.Calls.{written}
use Rattle.model.specs.AfterClose.{After}
use Rattle.model.specs.AllCalls.{moved_on, move_trades, clock_all_rules}
use Rattle.model.proofs.Bools.{not_both}
use Rattle.demands.proofs.FirstRules.{gives_none}
use Rattle.demands.proofs.OtherFigures.{order_others, cancel_others}
use Rattle.day_demands.specs.Keeping.{Kept, with_main}
use Rattle.day_demands.specs.Running.{
  WholeDay,
  Event,
  Moves,
  Enters,
  Cancels,
  EntersFixed,
  CancelsFixed,
  Declares,
  stepped,
  Series,
  no_trades,
  moved_by,
  traded_by,
  Owners,
  nobody,
  accepted,
  Fate,
  nothing,
  ended_by,
  fate_by,
}
use Rattle.day_demands.proofs.Outcomes.{moved_all, move_cases}
use Rattle.day_demands.proofs.Refusals.{clock_numbers_lem}
use Rattle.day_demands.proofs.MainThrough.{MainThrough, Beside, main_still}
use Rattle.day_demands.proofs.MainEvents.{main_over_order, main_over_cancel, main_over_move, fixed_beside, fixed_blocks, block_beside, block_fixed}
use Rattle.day_demands.proofs.OtherThrough.{FixedThrough, fixed_still, BlocksThrough, blocks_still}
use Rattle.day_demands.proofs.BlockEvents.{blocks_declares, blocks_moves}
use Rattle.day_demands.proofs.FixedEvents.{fixed_enters, fixed_cancels, fixed_moves}

pub record Through (s e : WholeDay) (ts : Series) (ws : Owners) (f : Fate) : Type 0 where
  pub main : MainThrough s.day e.day s.books.main e.books.main ts.main ws.main
  pub fixed : FixedThrough s.day.fixed e.day.fixed s.books.fixed e.books.fixed ts.fixed ws.fixed f
  pub blocks : BlocksThrough s.day.blocks e.day.blocks s.books.blocks e.books.blocks ts.confirmed ws.blocks

beside_itself : (d : Day) → Beside d d
unfolding with_fixed_figures with_block_figures
beside_itself d = refl

pub still : (s : WholeDay) → Kept s.day s.books → Through s s no_trades nobody nothing
unfolding no_trades nobody
still s k =
    record {
      main = main_still s.day s.day s.books.main k.sound.main (beside_itself s.day);
      fixed = fixed_still s.day.fixed s.books.fixed;
      blocks = blocks_still s.day.blocks s.books.blocks;
    }

-- ---- a move of the clock

-- rule 1 does not hold
pub in_time :
    (d : Day) (t : ℕ) (s : Books) (lent : List Trade)
    → first_of (clock_all_rules d t s (length lent)) ≡ 0
    → (d.time ≤ t) × (t ≤ 86_399)
unfolding clock_all_rules ◌when◌ is_time
in_time d t s lent z =
    go (leb t 86_399) refl (gives_none (clock_all_rules d t s (length lent)) (clock_numbers_lem d t s lent) z).1.0
  where
    go : (b : Bool) → leb t 86_399 ≡ b → (not b || ltb t d.time) ≡ false → (d.time ≤ t) × (t ≤ 86_399)
    go true x h = (ltb-false t d.time h, leb-true t 86_399 x)
    go false x h = absurd (not_both refl h)

-- the reply's counts cut the trade list into its series
module _ (a c f r : List Trade) where
  in_a_row : a ++ c ++ f ++ r ≡ a ++ (c ++ (f ++ r))
  in_a_row = append_assoc (a ++ c) f r ∙ append_assoc a c (f ++ r)

  first_part : take (length a) (a ++ c ++ f ++ r) ≡ a
  first_part = ap (take (length a)) in_a_row ∙ take_at a (c ++ (f ++ r)) (length a) refl

  second_part : take (length c) (drop (length a) (a ++ c ++ f ++ r)) ≡ c
  second_part =
      ap (λ (l : List Trade). take (length c) (drop (length a) l)) in_a_row
      ∙ ap (take (length c)) (drop_at a (c ++ (f ++ r)) (length a) refl)
      ∙ take_at c (f ++ r) (length c) refl

  third_part : take (length f) (drop (length a + length c) (a ++ c ++ f ++ r)) ≡ f
  third_part =
      ap (λ (l : List Trade). take (length f) (drop (length a + length c) l)) in_a_row
      ∙ ap (take (length f)) (drop-append-add a (c ++ (f ++ r)) (length c) ∙ drop_at c (f ++ r) (length c) refl)
      ∙ take_at f r (length f) refl

-- the trades of each series
abbrev series_of : After → Series
series_of h = record { main = h.auctions; confirmed = h.confirmed; fixed = h.fixed }

pub moved_series :
    (d : Day) (t : ℕ) (s : Books) (lent : List Trade)
    → moved_by (moved_all d t s lent).answer.reply (moved_all d t s lent).trades ≡ series_of (moved_on d t s)
unfolding moved_by written move_trades
moved_series d t s lent =
    let h = moved_on d t s in
    let r = drop (length (h.auctions ++ h.confirmed ++ h.fixed)) lent in
    rw (
      first_part h.auctions h.confirmed h.fixed r,
      second_part h.auctions h.confirmed h.fixed r,
      third_part h.auctions h.confirmed h.fixed r,
    )

module _ (s : WholeDay) (k : Kept s.day s.books) where
  moves : (t : ℕ) (lent : List Trade) → Through s (stepped (Moves t lent) s) (traded_by (Moves t lent) s) nobody (fate_by (Moves t lent) s)
  unfolding stepped traded_by fate_by
  moves t lent =
      move_cases s.day t s.books lent
      (λ o. Through s (record { day = o.answer.day; books = o.books }) (moved_by o.answer.reply o.trades) nobody (ended_by o.answer.reply))
      (λ z.
      let l = (in_time s.day t s.books lent z).0 in
      rw (moved_series s.day t s.books lent)
      (unfold nobody ended_by update at in
      record {
        main = main_over_move s.day t s.books k.sound.main;
        fixed = fixed_moves s.day t s.books l k.sound.main k.sound.fixed;
        blocks = blocks_moves s.day t s.books l;
      }))
      (λ _. unfold moved_by ended_by in still s k)

  -- ---- the main book's own calls

  enters : (a : Asked) (lent : List Trade) → Through s (stepped (Enters a lent) s) (traded_by (Enters a lent) s) (accepted (Enters a lent) s) nothing
  unfolding stepped traded_by accepted with_main
  enters a lent =
      let o = order_others s.day a s.books.main lent in
      record {
        main = main_over_order s.day s.books.main k.sound.main a lent;
        fixed = rw o.fixed (fixed_still s.day.fixed s.books.fixed);
        blocks = rw o.blocks (blocks_still s.day.blocks s.books.blocks);
      }

  cancels : (account number : ℕ) → Through s (stepped (Cancels account number) s) no_trades nobody nothing
  unfolding stepped no_trades nobody with_main
  cancels account number =
      let o = cancel_others s.day account number s.books.main in
      record {
        main = main_over_cancel s.day s.books.main k.sound.main account number;
        fixed = rw o.fixed (fixed_still s.day.fixed s.books.fixed);
        blocks = rw o.blocks (blocks_still s.day.blocks s.books.blocks);
      }

  -- ---- those of the other lists

  enters_fixed :
      (a : AskedFixed) (lent : List Trade)
      → Through s (stepped (EntersFixed a lent) s) (traded_by (EntersFixed a lent) s) (accepted (EntersFixed a lent) s) (fate_by (EntersFixed a lent) s)
  unfolding stepped traded_by accepted fate_by with_fixed
  enters_fixed a lent =
      let b = fixed_beside s.day a s.books.main s.books.fixed lent in
      record {
        main = main_still s.day _ s.books.main k.sound.main b;
        fixed = fixed_enters s.day a s.books.main s.books.fixed lent;
        blocks = rw (fixed_blocks s.day a s.books.main s.books.fixed lent) (blocks_still s.day.blocks s.books.blocks);
      }

  cancels_fixed :
      (account number : ℕ)
      → Through s (stepped (CancelsFixed account number) s) no_trades nobody (fate_by (CancelsFixed account number) s)
  unfolding stepped no_trades nobody fate_by with_fixed
  cancels_fixed account number =
      record {
        main = main_still s.day s.day s.books.main k.sound.main (beside_itself s.day);
        fixed = fixed_cancels s.day account number s.books.main s.books.fixed k.sound.main k.sound.fixed;
        blocks = blocks_still s.day.blocks s.books.blocks;
      }

  declares :
      (a : AskedBlock) (lent : List Trade)
      → Through s (stepped (Declares a lent) s) (traded_by (Declares a lent) s) (accepted (Declares a lent) s) nothing
  unfolding stepped traded_by accepted with_blocks
  declares a lent =
      let b = block_beside s.day a s.books.main s.books.blocks lent in
      record {
        main = main_still s.day _ s.books.main k.sound.main b;
        fixed = rw (block_fixed s.day a s.books.main s.books.blocks lent) (fixed_still s.day.fixed s.books.fixed);
        blocks = blocks_declares s.day a s.books.main s.books.blocks lent;
      }

  pub through : (e : Event) → Through s (stepped e s) (traded_by e s) (accepted e s) (fate_by e s)
  unfolding traded_by accepted fate_by
  through (Moves t lent) = moves t lent
  through (Enters a lent) = enters a lent
  through (Cancels account number) = cancels account number
  through (EntersFixed a lent) = enters_fixed a lent
  through (CancelsFixed account number) = cancels_fixed account number
  through (Declares a lent) = declares a lent
