-- Block trades by themselves: what a declaration, accepted or refused, and a move leave and count, and what is published. Assumes nothing.
use Prim.Native.Nat.{ℕ, suc, ◌+◌, ◌≤◌, ◌<◌}
use mathlib.Core.Path.{◌≡◌, refl, sym, subst}
use mathlib.Core.Bool.{Bool, true, false, cond}
use mathlib.Core.List.{List}
use native.Mathlib.Omega.{arith}
use lib.ListN.{length, take, drop}
use lib.Seq.{take-append_seam}
use lib.Dec.{eqb}
use borrow.Author.Tests.{le-leb, lt-leb, eq-eqb}
use Rattle.model.specs.declared.Order.{Order}
use Rattle.model.specs.declared.AskedBlock.{AskedBlock}
use Rattle.model.specs.declared.Declaration.{Declaration}
use Rattle.model.specs.declared.Trade.{Trade}
use Rattle.model.specs.declared.Blocks.{Blocks}
use Rattle.model.specs.declared.Day.{Day}
use Rattle.model.specs.declared.BlockReply as BlockReply
use Rattle.model.specs.Lists.{total}
use Rattle.model.specs.Clock.{confirming_from, matching_from, day_end}
use Rattle.model.specs.Matching.{filled}
use Rattle.model.specs.Figures.{reference, at, next_block, with_fixed_figures, tally_fixed, with_block_figures, issue_block, tally_blocks, published_shares, published_turnover}
use Rattle.model.specs.Halts.{runs, phase_now}
use Rattle.model.specs.Auction.{auction_price}
use Rattle.model.specs.Screen.{shown_price, screen_of, high_with, low_with, update}
use Rattle.model.specs.Books.{Books, with_blocks}
use Rattle.model.specs.Refusals.{first_of}
use Rattle.model.specs.Calls.{written}
use Rattle.model.specs.BlockCalls.{BlockOutcome, block_trades, block_rules, block_entered, block_call}
use Rattle.model.specs.ClockCall.{moved}
use Rattle.model.specs.AfterClose.{After, confirm_all, match_all, end_all}
use Rattle.model.specs.AllCalls.{start_after, moved_on}
use Rattle.block_demands.specs.Separate.{Aside, SameBeside, SameButShares, screen_after, Separate}
use Rattle.block_demands.proofs.Moves.{same_moved, due_cases, begun, at_three, at_five_past, moved_stops}
use Rattle.block_demands.proofs.Keepings.{block_cases}
use Rattle.block_demands.proofs.OtherFigures.{same_screen_lem}
use Rattle.block_demands.proofs.Besides.{moves_beside}

-- ---- a declaration

module _ (d : Day) (a : AskedBlock) (main : List Order) (held : List Declaration) (lent : List Trade) where
  itself : Aside d d
  unfolding with_block_figures
  itself = refl

  pub declaration_aside : Aside d (block_call d a main held lent).answer.day
  declaration_aside = block_cases d a main held lent (λ o. Aside d o.answer.day) (λ _. entered) (λ _. itself)
    where
      entered : Aside d (block_entered d a held lent).answer.day
      entered = unfold block_entered tally_blocks issue_block with_block_figures in refl

  -- an accepted reply is no refusal
  accepted_reply : (n : ℕ) → (block_entered d a held lent).answer.reply ≡ BlockReply.TheVariants.Refused n → ⊥
  unfolding block_entered
  accepted_reply n = go (eqb (length (block_trades d a held)) 0)
    where
      go :
          (b : Bool)
          → cond b (BlockReply.TheVariants.Held (next_block d)) (BlockReply.TheVariants.Confirmed (next_block d)) ≡ BlockReply.TheVariants.Refused n
          → ⊥
      go true e = let z : ◌≡◌ {A = ℕ} 0 1 = cc in omega arith
      go false e = let z : ◌≡◌ {A = ℕ} 0 1 = cc in omega arith

  pub declaration_refused :
      (n : ℕ)
      → let o : BlockOutcome = block_call d a main held lent in
      o.answer.reply ≡ BlockReply.TheVariants.Refused n
      → (o.answer.day ≡ d) × (o.answer.made ≡ 0) × (o.held ≡ held) × (o.trades ≡ lent)
  declaration_refused n =
      block_cases d a main held lent
      (λ o.
      o.answer.reply ≡ BlockReply.TheVariants.Refused n
      → (o.answer.day ≡ d) × (o.answer.made ≡ 0) × (o.held ≡ held) × (o.trades ≡ lent))
      (λ _ e. absurd (accepted_reply n e))
      (λ _ _. (refl, refl, refl, refl))

  pub declaration_counts :
      first_of (block_rules d a main held (length lent)) ≡ 0
      → let o : BlockOutcome = block_call d a main held lent in
      (o.answer.day.blocks.issued ≡ suc d.blocks.issued)
      × (o.answer.day.blocks.shares ≡ d.blocks.shares + filled (take o.answer.made o.trades))
  unfolding block_call block_entered written tally_blocks issue_block with_block_figures next_block
  declaration_counts z =
      let ts : List Trade = block_trades d a held in
      rw (eq-eqb (first_of (block_rules d a main held (length lent))) 0 z, take-append_seam ts (drop (length ts) lent)) (refl, refl)

-- ---- a move

module _ (d : Day) (t : ℕ) (s : Books) (l : d.time ≤ t) where
  abbrev Counts : After → Type 0
  Counts h =
      (h.day.blocks.issued ≡ d.blocks.issued) × (h.day.blocks.shares ≡ d.blocks.shares + filled h.confirmed)

  counts_start : Counts (begun d t s)
  unfolding start_after filled total
  counts_start =
      let e : (moved d t s.main).day.blocks ≡ d.blocks = (same_moved d t s.main).blocks in
      rw e (refl, omega arith)

  counts_three : Counts (at_three d t s)
  counts_three = due_cases confirming_from confirm_all d.time t (begun d t s) Counts (λ _ _. confirmed) (λ _. counts_start)
    where
      confirmed : Counts (confirm_all (begun d t s))
      confirmed = unfold confirm_all start_after tally_blocks with_block_figures in
          let e : (moved d t s.main).day.blocks ≡ d.blocks = (same_moved d t s.main).blocks in
          rw e (refl, refl)

  counts_five_past : Counts (at_five_past d t s)
  counts_five_past = due_cases matching_from match_all d.time t (at_three d t s) Counts (λ _ _. matched) (λ _. counts_three)
    where
      matched : Counts (match_all (at_three d t s))
      matched = unfold match_all tally_fixed with_fixed_figures in counts_three

  pub move_counts : Counts (moved_on d t s)
  move_counts =
      rw (moved_stops d t s l)
      (due_cases day_end end_all d.time t (at_five_past d t s) Counts (λ _ _. lapsed) (λ _. counts_five_past))
    where
      lapsed : Counts (end_all (at_five_past d t s))
      lapsed = unfold end_all in counts_five_past

-- ---- what is published

pub published_before : (d : Day) → d.time < 55_800 → published_shares d ≡ d.shares
unfolding published_shares day_end
published_before d l = rw (lt-leb 55_800 d.time l)

pub published_joined : (d : Day) → 55_800 ≤ d.time → published_shares d ≡ d.shares + d.fixed.shares + d.blocks.shares
unfolding published_shares day_end
published_joined d l = rw (le-leb 55_800 d.time l)

pub same_turnover : (d : Day) (b : Blocks) → published_turnover (with_block_figures b d) ≡ published_turnover d
unfolding with_block_figures published_turnover
same_turnover d b = refl

pub screen_shares :
    (d : Day) (b : Blocks) (book : List Order) (high low : ℕ)
    → SameButShares (screen_of d book high low) (screen_of (with_block_figures b d) book high low)
unfolding with_block_figures screen_of shown_price phase_now runs auction_price reference published_turnover
screen_shares d b book high low =
    record {
      last = refl;
      high = refl;
      low = refl;
      turnover = refl;
      buys = refl;
      sells = refl;
      price = refl;
      volume = refl;
      surplus = refl;
    }

-- the screen after two moves that differ in block trades alone
pub move_screens :
    (d : Day) (t : ℕ) (s : Books) (b : Blocks) (held : List Declaration)
    → d.time ≤ t
    → SameButShares (screen_after t (moved_on d t s)) (screen_after t (moved_on (with_block_figures b d) t (with_blocks held s)))
move_screens d t s b held l = shown (moved_on d t s) (moved_on (with_block_figures b d) t (with_blocks held s)) (moves_beside d t s b held l)
  where
    figured : (h : After) (c : Blocks) → SameButShares (screen_after t h) (update h.auctions h.books.main (at t (with_block_figures c h.day))).screen
    figured h c = unfold update at with_block_figures in
        screen_shares (at t h.day) c h.books.main (high_with h.auctions h.day.screen) (low_with h.auctions h.day.screen)

    shown : (h k : After) → SameBeside h k → SameButShares (screen_after t h) (screen_after t k)
    shown h k e =
        subst (λ (x : Day). SameButShares (screen_after t h) (update k.auctions k.books.main (at t x)).screen) (sym e.day)
        (rw (e.auctions, e.main) (figured h k.day.blocks))

pub separate : Separate
unfolding day_end
separate =
    record {
      declaration = declaration_aside;
      refused = declaration_refused;
      counts = declaration_counts;
      move_counts = move_counts;
      move = moves_beside;
      move_screen = move_screens;
      before = published_before;
      joined = published_joined;
      turnover = same_turnover;
      screen = screen_shares;
      screen_before = λ d b. same_screen_lem b d;
    }
