-- A move with no fixed-price order and no declaration: nothing is due after the close, and the call answers as the main book's own
-- does. Assumes nothing.
use Rattle.std.specs.Prelude.{if◌then◌else◌}
use Prim.Native.Nat.{ℕ, ◌+◌}
use mathlib.Core.Path.{◌≡◌, refl, ap, ◌∙◌}
use mathlib.Core.Bool.{Bool, true, false, cond, ◌||◌, or-false}
use mathlib.Core.List.{List, [], ◌∷◌, ◌++◌, append-nil}
use native.Mathlib.Omega.{arith}
use lib.ListN.{length}
use lib.Dec.{eqb}
use Rattle.model.specs.declared.Trade.{Trade}
use Rattle.model.specs.declared.Day.{Day}
use Rattle.model.specs.declared.ClockAnswer.{ClockAnswer}
use Rattle.model.specs.declared.ClockReply as ClockReply
use Rattle.model.specs.declared.MoveReply as MoveReply
use Rattle.model.specs.Lists.{total}
use Rattle.model.specs.Clock.{confirming_from, matching_from, day_end, passed}
use Rattle.model.specs.Books.{Books, with_fixed, with_blocks}
use Rattle.model.specs.Matching.{filled}
use Rattle.model.specs.Figures.{at, money, close_price, with_fixed_figures, with_block_figures, tally_fixed, tally_blocks}
use Rattle.model.specs.Halts.{phase_now}
use Rattle.model.specs.Screen.{update}
use Rattle.model.specs.Blocks.{undeclared}
use Rattle.model.specs.Sound.{has_places}
use Rattle.model.specs.Refusals.{first_of, unsound, unsound_fixed, unsound_books}
use Rattle.model.specs.Calls.{Outcome, written}
use Rattle.model.specs.ClockCall.{Held, moved, clock_rules, clock_call}
use Rattle.model.specs.AfterClose.{After, confirm_all, match_all, end_all, pass_after, through_after}
use Rattle.model.specs.AllCalls.{ClockAllOutcome, start_after, moved_on, move_trades, clock_all_rules, clock_all_call}
use Rattle.model.specs.Words.{Each}
use Rattle.book.proofs.Settlements.{filled_nil}
use Rattle.soundness.specs.SoundDay.{Empty}
use Rattle.soundness.proofs.Readiness.{ready_if}
use Rattle.fixed_demands.specs.Moving.{alone_reply, Alike, Alone}
use Rattle.fixed_demands.proofs.FixedClauses.{fixed_sound, evening_fixed}
use Rattle.fixed_demands.proofs.EmptyLists.{free_day, all_valid, none_match, lined_free, settled_free, no_shares, no_void_shares, cleared_free, none_confirm, all_unnamed, held_free, unheld_free, blocks_free}

-- ---- nothing is due

module _ (m : Held) (s : Books) (e : Empty s.fixed) (f : Each (λ x. x ≡ undeclared) s.blocks) where
  no_more : (n : ℕ) → n + filled [] ≡ n
  no_more n = omega (arith, filled_nil)

  no_money : (n : ℕ) → n + money [] ≡ n
  unfolding money total
  no_money n = omega arith

  none_confirmed : confirm_all (start_after m s) ≡ start_after m s
  unfolding start_after confirm_all with_blocks tally_blocks with_block_figures
  none_confirmed =
      rw (none_confirm s.blocks f, all_unnamed s.blocks f, held_free s.blocks f, no_more m.day.blocks.shares)

  none_matched : match_all (start_after m s) ≡ start_after m s
  unfolding start_after match_all with_fixed tally_fixed with_fixed_figures
  none_matched =
      let close : ℕ = close_price m.day in
      rw (
        all_valid s.fixed e close,
        none_match s.fixed e close,
        settled_free s.fixed e,
        lined_free s.fixed e,
        no_void_shares s.fixed e close,
        no_more m.day.fixed.shares,
        no_money m.day.fixed.money,
      )

  none_lapsed : end_all (start_after m s) ≡ start_after m s
  unfolding start_after end_all
  none_lapsed = rw (cleared_free s.fixed e, unheld_free s.blocks f, no_shares s.fixed e)

  quiet_second : (c : ℕ) → pass_after c (start_after m s) ≡ start_after m s
  unfolding pass_after
  quiet_second c = go (eqb c confirming_from) (eqb c matching_from) (eqb c day_end)
    where
      go :
          (a b c : Bool)
          → cond a (confirm_all (start_after m s)) (cond b (match_all (start_after m s)) (cond c (end_all (start_after m s)) (start_after m s)))
          ≡ start_after m s
      go true b c = none_confirmed
      go false true c = none_matched
      go false false true = none_lapsed
      go false false false = refl

  quiet : (ss : List ℕ) → through_after ss (start_after m s) ≡ start_after m s
  unfolding through_after
  quiet [] = refl
  quiet (c ∷ ss) = ap (through_after ss) (quiet_second c) ∙ quiet ss

-- ---- the call

module _ (d : Day) (t : ℕ) (s : Books) (lent : List Trade) where
  -- what the two calls give, whether they move or are refused with a number
  abbrev all_of : Bool → ℕ → After → ClockAllOutcome
  all_of moves n h =
      if moves
      then
      record {
        answer =
            record {
              reply =
                  MoveReply.TheVariants.Moved
                  (record {
                    phase = phase_now (at t h.day);
                    trades = length h.auctions;
                    confirmed = length h.confirmed;
                    fixed = length h.fixed;
                    void = h.void;
                    lapsed = h.lapsed;
                  });
              made = length (move_trades h);
              day = update h.auctions h.books.main (at t h.day);
            };
        books = h.books;
        trades = written (move_trades h) lent;
      }
      else record { answer = record { reply = MoveReply.TheVariants.Refused n; made = 0; day = d }; books = s; trades = lent }

  abbrev main_of : Bool → ℕ → Held → Outcome ClockAnswer
  main_of moves n h =
      if moves
      then
      record {
        answer =
            record {
              reply = ClockReply.TheVariants.Moved (phase_now (at t h.day)) (length h.trades);
              made = length h.trades;
              day = update h.trades h.book (at t h.day);
            };
        book = h.book;
        trades = written h.trades lent;
      }
      else record { answer = record { reply = ClockReply.TheVariants.Refused n; made = 0; day = d }; book = s.main; trades = lent }

  alone_trades : (m : Held) → move_trades (start_after m s) ≡ m.trades
  unfolding move_trades start_after
  alone_trades m = append-nil (m.trades ++ []) ∙ append-nil m.trades

  answers : (moves : Bool) (n : ℕ) (m : Held) → Alike s (all_of moves n (start_after m s)) (main_of moves n m)
  unfolding start_after alone_reply
  answers true n m =
      let e : move_trades (start_after m s) ≡ m.trades = alone_trades m in
      record {
        reply = refl;
        made = ap length e;
        day = refl;
        main = refl;
        fixed = refl;
        blocks = refl;
        trades = ap (λ (ts : List Trade). written ts lent) e;
      }
  answers false n m =
      record { reply = refl; made = refl; day = refl; main = refl; fixed = refl; blocks = refl; trades = refl }

  module _ (p : has_places s.fixed ≡ true) (q : has_places s.blocks ≡ true) (e : Empty s.fixed) (f : Each (λ x. x ≡ undeclared) s.blocks) where
    abbrev m : Held
    m = moved d t s.main

    main_alone : moved_on d t s ≡ start_after m s
    unfolding moved_on
    main_alone = quiet m s e f (passed d.time t)

    -- free places of the other lists are no reason to refuse
    same_test : unsound_books d s ≡ unsound d s.main
    unfolding unsound_books
    same_test = rw (blocks_free s.blocks f d q, or-false (unsound d s.main || unsound_fixed d s.fixed)) (go (unsound d s.main) refl)
      where
        go : (b : Bool) → unsound d s.main ≡ b → b || unsound_fixed d s.fixed ≡ b
        go true x = refl
        go false x = fixed_sound d s.fixed p (free_day s.fixed e d (evening_fixed d (ready_if d s.main x).evening))

    same_rules : first_of (clock_all_rules d t s (length lent)) ≡ first_of (clock_rules d t s.main (length lent))
    unfolding clock_all_rules clock_rules
    same_rules = rw (same_test, main_alone, alone_trades m)

    same_answers : Alike s (clock_all_call d t s lent) (clock_call d t s.main lent)
    unfolding clock_all_call clock_call
    same_answers =
        rw (same_rules, main_alone)
        (answers (eqb (first_of (clock_rules d t s.main (length lent))) 0) (first_of (clock_rules d t s.main (length lent))) m)

    pub alone : Alone d t s lent
    unfolding start_after
    alone =
        record {
          confirmed = ap (λ (h : After). h.confirmed) main_alone;
          fixed = ap (λ (h : After). h.fixed) main_alone;
          void = ap (λ (h : After). h.void) main_alone;
          lapsed = ap (λ (h : After). h.lapsed) main_alone;
          alike = same_answers;
        }
