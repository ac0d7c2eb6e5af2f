-- The main book's part of a move over all lists: what comes after the close changes only the figures of the other lists. And what the
-- main book's own move leaves alone. Assumes nothing.
use Prim.Native.Nat.{ℕ}
use mathlib.Core.Path.{◌≡◌, refl, ap}
use mathlib.Core.Bool.{Bool, true, false, cond}
use mathlib.Core.List.{List, [], ◌∷◌}
use lib.Dec.{eqb}
use Rattle.model.specs.declared.Order.{Order}
use Rattle.model.specs.declared.Day.{Day}
use Rattle.model.specs.Clock.{confirming_from, matching_from, day_end, passed}
use Rattle.model.specs.Books.{Books, with_fixed, with_blocks}
use Rattle.model.specs.Figures.{tally, with_fixed_figures, with_block_figures, tally_fixed, tally_blocks}
use Rattle.model.specs.Halts.{halting, resumed}
use Rattle.model.specs.ClockCall.{Held, auction, resume, lapse, pass, start, moved}
use Rattle.model.specs.AfterClose.{After, confirm_all, match_all, end_all, pass_after, through_after}
use Rattle.model.specs.AllCalls.{start_after, moved_on}
use Rattle.model.proofs.Seconds.{pass_cases, through_keeps}
use Rattle.halts.proofs.Kept.{resume_cases}
use Rattle.fixed_demands.specs.Moving.{MainPart}

module _ (m : Held) where
  confirmed_part : (h : After) → MainPart m h → MainPart m (confirm_all h)
  unfolding confirm_all with_blocks tally_blocks with_fixed_figures with_block_figures
  confirmed_part h p = record { book = p.book; trades = p.trades; day = ap (tally_blocks _) p.day }

  matched_part : (h : After) → MainPart m h → MainPart m (match_all h)
  unfolding match_all with_fixed tally_fixed with_fixed_figures with_block_figures
  matched_part h p = record { book = p.book; trades = p.trades; day = ap (tally_fixed _) p.day }

  ended_part : (h : After) → MainPart m h → MainPart m (end_all h)
  unfolding end_all
  ended_part h p = record { book = p.book; trades = p.trades; day = p.day }

  passing_part : (s : ℕ) (h : After) → MainPart m h → MainPart m (pass_after s h)
  unfolding pass_after
  passing_part s h p = go (eqb s confirming_from) (eqb s matching_from) (eqb s day_end)
    where
      go : (a b c : Bool) → MainPart m (cond a (confirm_all h) (cond b (match_all h) (cond c (end_all h) h)))
      go true b c = confirmed_part h p
      go false true c = matched_part h p
      go false false true = ended_part h p
      go false false false = p

  through_part : (ss : List ℕ) (h : After) → MainPart m h → MainPart m (through_after ss h)
  unfolding through_after
  through_part [] h p = p
  through_part (s ∷ ss) h p = through_part ss (pass_after s h) (passing_part s h p)

pub main_part : (d : Day) (t : ℕ) (s : Books) → MainPart (moved d t s.main) (moved_on d t s)
unfolding moved_on start_after with_fixed_figures with_block_figures
main_part d t s =
    let m : Held = moved d t s.main in
    through_part m (passed d.time t) (start_after m s) (record { book = refl; trades = refl; day = refl })

-- ---- the main book's own move

-- what it leaves alone: how the day began, the time, and the figures of the other lists
pub record KeepsOthers (d e : Day) : Type 0 where
  pub close : e.close ≡ d.close
  pub limited : e.limited ≡ d.limited
  pub time : e.time ≡ d.time
  pub fixed : e.fixed ≡ d.fixed
  pub blocks : e.blocks ≡ d.blocks

module _ (d : Day) where
  resumed_others : (s : ℕ) (h : Held) → KeepsOthers d h.day → KeepsOthers d (resume s h).day
  unfolding auction tally resumed halting
  resumed_others s h a =
      resume_cases (KeepsOthers d) s h
      (record { close = a.close; limited = a.limited; time = a.time; fixed = a.fixed; blocks = a.blocks })
      (λ _ _. record { close = a.close; limited = a.limited; time = a.time; fixed = a.fixed; blocks = a.blocks })

  passing_others : (s : ℕ) (h : Held) → KeepsOthers d h.day → KeepsOthers d (pass s h).day
  unfolding auction lapse tally
  passing_others s h a =
      let tallied : KeepsOthers d (auction h).day = record { close = a.close; limited = a.limited; time = a.time; fixed = a.fixed; blocks = a.blocks } in
      pass_cases (λ k. KeepsOthers d k.day) s h (λ _. tallied) (λ _. resumed_others s h a) (λ _. tallied) (λ _ _ _. a)

  -- the clock is set when the move is done
  pub moved_others : (t : ℕ) (book : List Order) → KeepsOthers d (moved d t book).day
  unfolding moved start
  moved_others t book =
      through_keeps (λ k. KeepsOthers d k.day) passing_others (passed d.time t) (start d book)
      (record { close = refl; limited = refl; time = refl; fixed = refl; blocks = refl })
