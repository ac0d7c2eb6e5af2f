-- A move of the clock, for the declarations: the main book's part of it leaves what they read of the day, and the rest does what is
-- due at 15:00, at 15:05 and at 15:30, where it passes these seconds. Assumes nothing.
use Prim.Native.Nat.{ℕ, ◌≤◌, ◌<◌}
use mathlib.Core.Path.{◌≡◌, refl, ◌∙◌}
use mathlib.Core.Bool.{Bool, true, false, cond, ◌&&◌}
use mathlib.Core.List.{List}
use native.Mathlib.Omega.{arith}
use lib.Dec.{leb, ltb}
use borrow.Author.Tests.{leb-true, leb-false, ltb-true, ltb-false}
use Rattle.model.specs.declared.Order.{Order}
use Rattle.model.specs.declared.Trade.{Trade}
use Rattle.model.specs.declared.Day.{Day}
use Rattle.model.specs.Clock.{passed, confirming_from, matching_from, day_end}
use Rattle.model.specs.Figures.{tally}
use Rattle.model.specs.Halts.{halting, fired, resumed}
use Rattle.model.specs.Books.{Books}
use Rattle.model.specs.ClockCall.{Held, auction, resume, lapse, pass, start, moved}
use Rattle.model.specs.AfterClose.{After, confirm_all, match_all, end_all}
use Rattle.model.specs.AllCalls.{start_after, moved_on}
use Rattle.model.proofs.Seconds.{pass_cases, through_keeps}
use Rattle.model.proofs.Evening.{due, by_stops}
use Rattle.halts.proofs.Kept.{fired_cases, resume_cases}
use Rattle.block_demands.proofs.KeptBlocks.{SameBlocks}

same_itself : (d : Day) → SameBlocks d d
same_itself d = record { close = refl; limited = refl; blocks = refl }

pub same_then : (d e f : Day) → SameBlocks d e → SameBlocks e f → SameBlocks d f
same_then d e f x y = record { close = y.close ∙ x.close; limited = y.limited ∙ x.limited; blocks = y.blocks ∙ x.blocks }

-- ---- trades and halts

same_tally : (ts : List Trade) (d : Day) → SameBlocks d (tally ts d)
unfolding tally
same_tally ts d = record { close = refl; limited = refl; blocks = refl }

same_halting : (end used30 used60 : ℕ) (d : Day) → SameBlocks d (halting end used30 used60 d)
unfolding halting
same_halting end used30 used60 d = record { close = refl; limited = refl; blocks = refl }

pub same_fired : (s : ℕ) (ts : List Trade) (d : Day) → SameBlocks d (fired s ts d)
same_fired s ts d = fired_cases (SameBlocks d) s ts d (λ _. same_itself d) (λ _. same_halting _ _ _ d)

same_resumed : (s : ℕ) (h : Held) → SameBlocks (auction h).day (resume s h).day
unfolding resumed
same_resumed s h =
    let d : Day = (auction h).day in
    let e : Day = halting 0 d.used30 d.used60 d in
    resume_cases (SameBlocks d) s h (same_halting _ _ _ d) (λ _ _. same_then d e _ (same_halting _ _ _ d) (same_halting _ _ _ e))

-- ---- the main book's part

pub same_moved : (d : Day) (t : ℕ) (book : List Order) → SameBlocks d (moved d t book).day
unfolding moved start
same_moved d t book = through_keeps (λ h. SameBlocks d h.day) passing (passed d.time t) (start d book) (same_itself d)
  where
    auctioned : (h : Held) → SameBlocks h.day (auction h).day
    auctioned h = unfold auction in same_tally _ h.day

    passing : (s : ℕ) (h : Held) → SameBlocks d h.day → SameBlocks d (pass s h).day
    passing s h e = unfold lapse in
        pass_cases (λ k. SameBlocks d k.day) s h
        (λ _. same_then d h.day _ e (auctioned h))
        (λ _. same_then d h.day _ e (same_then h.day (auction h).day _ (auctioned h) (same_resumed s h)))
        (λ _. same_then d h.day _ e (auctioned h))
        (λ _ _ _. e)

-- ---- the rest

-- what is due at a second is done where the move passes it, and else nothing is
module _ (c : ℕ) (f : After → After) (old new : ℕ) (h : After) where
  pub due_cases : (P : After → Type 0) → (old < c → c ≤ new → P (f h)) → ((old < c → c ≤ new → ⊥) → P h) → P (due c f old new h)
  due_cases P does stays = go (leb c new) refl (ltb old c) refl
    where
      go : (x : Bool) → leb c new ≡ x → (y : Bool) → ltb old c ≡ y → P (cond (x && y) (f h) h)
      go true e true g = does (ltb-true old c g) (leb-true c new e)
      go true e false g = stays (λ a b. omega (arith, a, ltb-false old c g))
      go false e y g = stays (λ a b. omega (arith, b, leb-false c new e))

module _ (d : Day) (t : ℕ) (s : Books) where
  -- where the main book's part leaves day and lists, then 15:00, then 15:05
  abbrev pub begun : After
  begun = start_after (moved d t s.main) s

  abbrev pub at_three : After
  at_three = due confirming_from confirm_all d.time t begun

  abbrev pub at_five_past : After
  at_five_past = due matching_from match_all d.time t at_three

  pub moved_stops : d.time ≤ t → moved_on d t s ≡ due day_end end_all d.time t at_five_past
  unfolding moved_on
  moved_stops l = by_stops d.time t begun l
