-- A move over all lists and the main book's own move: where the first is accepted the second is, and the main book, its trades and its
-- figures are the same. Assumes nothing.
use Prim.Native.Nat.{ℕ, ◌≤◌, ◌<◌}
use mathlib.Core.Path.{◌≡◌, refl, sym, ap, ◌∙◌, subst}
use mathlib.Core.Bool.{◌||◌}
use mathlib.Core.List.{List, [], ◌++◌}
use native.Mathlib.Omega.{arith}
use lib.ListN.{length, take, drop, length-append}
use lib.Seq.{take_at}
use borrow.Author.Tests.{eq-eqb, le-ltb, ltb-false}
use Rattle.model.specs.declared.Order.{Order}
use Rattle.model.specs.declared.Trade.{Trade}
use Rattle.model.specs.declared.Day.{Day}
use Rattle.model.specs.declared.Fixed.{Fixed}
use Rattle.model.specs.declared.Blocks.{Blocks}
use Rattle.model.specs.declared.ClockReply as ClockReply
use Rattle.model.specs.declared.ClockAnswer.{ClockAnswer}
use Rattle.model.specs.declared.MoveReply as MoveReply
use Rattle.model.specs.declared.Move.{Move}
use Rattle.model.specs.Books.{Books}
use Rattle.model.specs.Figures.{at, reference, with_fixed_figures, with_block_figures}
use Rattle.model.specs.Halts.{runs, phase_now}
use Rattle.model.specs.Auction.{auction_price}
use Rattle.model.specs.Screen.{shown_price, screen_of, update}
use Rattle.model.specs.Refusals.{◌when◌, first_of, unsound, unsound_fixed, unsound_blocks, unsound_books}
use Rattle.model.specs.Calls.{Outcome, written}
use Rattle.model.specs.ClockCall.{Held, moved, clock_rules, clock_call}
use Rattle.model.specs.AfterClose.{After}
use Rattle.model.specs.AllCalls.{moved_on, move_trades, clock_all_rules, clock_all_call}
use Rattle.model.specs.Words.{Sound}
use Rattle.model.proofs.Rules.{skip}
use Rattle.demands.specs.Refusing.{NoneOf}
use Rattle.demands.specs.Owning.{Stays}
use Rattle.demands.proofs.FirstRules.{gives_none}
use Rattle.demands.proofs.Pricings.{sound_stands}
use Rattle.demands.proofs.Staying.{none_moves, clock_stays}
use Rattle.fixed_demands.proofs.MainPart.{main_part}
use Rattle.block_demands.proofs.Allowed.{or_neither}
use Rattle.day_demands.specs.Running.{Series, no_trades, moved_by}
use Rattle.day_demands.specs.MainMove.{SameMain, MainMove, MainMoves}
use Rattle.day_demands.proofs.Outcomes.{moved_all, move_cases}
use Rattle.day_demands.proofs.Refusals.{clock_numbers_lem}
use Rattle.day_demands.proofs.MovedMain.{beside, then_beside}
use Rattle.day_demands.proofs.Steps.{moved_series}

-- ---- the day then

-- other figures of the other lists change the published totals alone
beside_same : (f : Fixed) (b : Blocks) (d : Day) (ts : List Trade) (book : List Order) → SameMain (update ts book d) (update ts book (beside f b d))
unfolding update screen_of shown_price phase_now runs auction_price reference with_fixed_figures with_block_figures
beside_same f b d ts book =
    record {
      close = refl;
      limited = refl;
      time = refl;
      issued = refl;
      shares = refl;
      turnover = refl;
      first = refl;
      last = refl;
      halt = refl;
      used30 = refl;
      used60 = refl;
      screen =
          record {
            last = refl;
            high = refl;
            low = refl;
            buys = refl;
            sells = refl;
            price = refl;
            volume = refl;
            surplus = refl;
          };
    }

beside_phase : (f : Fixed) (b : Blocks) (d : Day) → phase_now (beside f b d) ≡ phase_now d
unfolding phase_now runs with_fixed_figures with_block_figures
beside_phase f b d = refl

module _ (d : Day) (t : ℕ) (s : Books) (lent : List Trade) where
  abbrev h : After
  h = moved_on d t s

  abbrev m : Held
  m = moved d t s.main

  -- ---- no rule refuses the main book's own move

  fewer : length m.trades ≤ length (move_trades h)
  unfolding move_trades
  fewer =
      omega (
        arith,
        ap length (main_part d t s).trades,
        length-append (h.auctions ++ h.confirmed) h.fixed,
        length-append h.auctions h.confirmed,
      )

  accepted_too : first_of (clock_all_rules d t s (length lent)) ≡ 0 → first_of (clock_rules d t s.main (length lent)) ≡ 0
  accepted_too z = go (gives_none (clock_all_rules d t s (length lent)) (clock_numbers_lem d t s lent) z)
    where
      go : NoneOf (clock_all_rules d t s (length lent)) → first_of (clock_rules d t s.main (length lent)) ≡ 0
      go n = unfold clock_all_rules clock_rules unsound_books ◌when◌ in
          let sound = (or_neither (unsound d s.main) (unsound_fixed d s.fixed) (or_neither (unsound d s.main || unsound_fixed d s.fixed) (unsound_blocks d s.blocks) n.0).0).0 in
          let l : length (move_trades h) ≤ length lent = ltb-false (length lent) (length (move_trades h)) n.1.1.0 in
          skip 15 _ sound ∙ skip 1 _ n.1.0 ∙ skip 13 [] (le-ltb (length lent) (length m.trades) (omega (arith, fewer, l))) ∙ (unfold first_of in refl)

  -- what it gives then
  abbrev alone : Outcome ClockAnswer
  alone =
      record {
        answer =
            record {
              reply = ClockReply.TheVariants.Moved (phase_now (at t m.day)) (length m.trades);
              made = length m.trades;
              day = update m.trades m.book (at t m.day);
            };
        book = m.book;
        trades = written m.trades lent;
      }

  gives_alone : first_of (clock_all_rules d t s (length lent)) ≡ 0 → clock_call d t s.main lent ≡ alone
  unfolding clock_call
  gives_alone z = rw (eq-eqb (first_of (clock_rules d t s.main (length lent))) 0 (accepted_too z))

  -- ---- the same main book

  abbrev move_of : Move
  move_of =
      record {
        phase = phase_now (at t h.day);
        trades = length h.auctions;
        confirmed = length h.confirmed;
        fixed = length h.fixed;
        void = h.void;
        lapsed = h.lapsed;
      }

  same_day : SameMain (update m.trades m.book (at t m.day)) (update h.auctions h.books.main (at t h.day))
  same_day =
      let p = main_part d t s in
      subst (λ (x : Day). SameMain (update m.trades m.book (at t m.day)) (update h.auctions h.books.main x)) (sym (then_beside d t s))
      (rw (p.trades, p.book) (beside_same h.day.fixed h.day.blocks (at t m.day) m.trades m.book))

  same_trades : take (length h.auctions) (written (move_trades h) lent) ≡ take (length m.trades) (written m.trades lent)
  unfolding moved_by written
  same_trades =
      ap (λ (r : Series). r.main) (moved_series d t s lent)
      ∙ (main_part d t s).trades
      ∙ sym (take_at m.trades (drop (length m.trades) lent) (length m.trades) refl)

  same_main : MainMove move_of (moved_all d t s lent) alone
  same_main =
      let p = main_part d t s in
      record {
        reply = same_reply (ap length p.trades) (ap phase_now (then_beside d t s) ∙ beside_phase h.day.fixed h.day.blocks (at t m.day));
        trades = same_trades;
        book = p.book;
        day = same_day;
      }
    where
      same_reply :
          length h.auctions ≡ length m.trades
          → phase_now (at t h.day) ≡ phase_now (at t m.day)
          → ClockReply.TheVariants.Moved (phase_now (at t m.day)) (length m.trades) ≡ ClockReply.TheVariants.Moved (phase_now (at t h.day)) (length h.auctions)
      same_reply e f = rw (e, f)

  moves_same :
      (k : Move)
      → (clock_all_call d t s lent).answer.reply ≡ MoveReply.TheVariants.Moved k
      → MainMove k (clock_all_call d t s lent) (clock_call d t s.main lent)
  moves_same k =
      move_cases d t s lent
      (λ o. o.answer.reply ≡ MoveReply.TheVariants.Moved k → MainMove k o (clock_call d t s.main lent))
      (λ z r. let e : move_of ≡ k = cc in rw (← e, gives_alone z) same_main)
      (λ _ r. let z : ◌≡◌ {A = ℕ} 0 1 = cc in absurd (omega arith))

  moves_stay :
      Sound d s.main
      → t < 54_000
      → Stays (moved_by (clock_all_call d t s lent).answer.reply (clock_all_call d t s lent).trades).main s.main (clock_all_call d t s lent).books.main
  moves_stay k l =
      let stands = sound_stands d s.main k in
      move_cases d t s lent (λ o. Stays (moved_by o.answer.reply o.trades).main s.main o.books.main)
      (λ z. still (rw (gives_alone z) at (clock_stays d t s.main stands lent l)))
      (λ _. unfold moved_by no_trades in none_moves [] s.main stands)
    where
      still :
          Stays (take (length m.trades) (written m.trades lent)) s.main m.book
          → Stays (moved_by (moved_all d t s lent).answer.reply (moved_all d t s lent).trades).main s.main h.books.main
      still x = unfold moved_by in rw (same_trades, (main_part d t s).book) x

pub main_moves : MainMoves
main_moves = record { same = moves_same; stays = moves_stay }
