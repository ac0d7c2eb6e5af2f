-- The main book after a move over all lists: it is sound again, whatever figures the other lists have then, if these fit. Assumes nothing.
use Prim.Native.Nat.{ℕ, ◌≤◌}
use mathlib.Core.Path.{◌≡◌, refl, sym, ap, subst}
use mathlib.Core.List.{List}
use native.Mathlib.Omega.{arith}
use Rattle.model.specs.declared.Order.{Order}
use Rattle.model.specs.declared.Day.{Day}
use Rattle.model.specs.declared.Fixed.{Fixed}
use Rattle.model.specs.declared.Blocks.{Blocks}
use Rattle.model.specs.Books.{Books}
use Rattle.model.specs.Figures.{at, with_fixed_figures, with_block_figures}
use Rattle.model.specs.Screen.{update}
use Rattle.model.specs.ClockCall.{moved}
use Rattle.model.specs.AfterClose.{After}
use Rattle.model.specs.AllCalls.{moved_on}
use Rattle.model.specs.Words.{Sound}
use Rattle.soundness.specs.SoundDay.{SoundDay, HaltDay, EveningDay}
use Rattle.demands.proofs.Wholes.{Whole, whole_of, timely_of, sound_of}
use Rattle.demands.proofs.Settled.{places_later}
use Rattle.demands.proofs.BeforeScreens.{BeforeScreen}
use Rattle.demands.proofs.Moved.{moved_before}
use Rattle.demands.proofs.Totals.{moved_proper}
use Rattle.demands.proofs.Keepings.{updated_sound}
use Rattle.fixed_demands.proofs.MainPart.{main_part}
use Rattle.day_demands.proofs.MainEvents.{then_totals, then_screen}

-- ---- other figures of the other lists

abbrev pub beside : Fixed → Blocks → Day → Day
beside f b d = with_fixed_figures f (with_block_figures b d)

-- the clock is set before them or after them
pub then_beside :
    (d : Day) (t : ℕ) (s : Books)
    → let h : After = moved_on d t s in
    at t h.day ≡ beside h.day.fixed h.day.blocks (at t (moved d t s.main).day)
unfolding at with_fixed_figures with_block_figures
then_beside d t s = ap (at t) (main_part d t s).day

module _ (f : Fixed) (b : Blocks) (d : Day) (book : List Order) where
  abbrev next : Day
  next = beside f b d

  beside_whole : Whole d book → Whole next book
  unfolding with_fixed_figures with_block_figures
  beside_whole w =
      record {
        close = w.close;
        limited = w.limited;
        issued = w.issued;
        places = places_later d next (record { close = refl; limited = refl; issued = omega arith }) book w.places;
        apart = w.apart;
        shares = w.shares;
        figures = record { untraded = w.figures.untraded; traded = w.figures.traded; least = w.figures.least; most = w.figures.most };
      }

  beside_day : SoundDay d book → SoundDay next book
  unfolding with_fixed_figures with_block_figures
  beside_day s = sound_of next book (beside_whole (whole_of d book s)) (timely_of d book s)

  beside_halt : HaltDay d → HaltDay next
  unfolding with_fixed_figures with_block_figures
  beside_halt k =
      record {
        thirty = k.thirty;
        sixty = k.sixty;
        ahead = k.ahead;
        led = k.led;
        thirty_first = k.thirty_first;
        uses = k.uses;
        unlimited = k.unlimited;
      }

  beside_before : EveningDay next → BeforeScreen d book → BeforeScreen next book
  beside_before v k =
      record {
        places = k.places;
        day = beside_day k.day;
        ordered = k.ordered;
        halt = beside_halt k.halt;
        evening = v;
      }

-- ---- the move

module _ (d : Day) (t : ℕ) (s : Books) (k : Sound d s.main) (l : d.time ≤ t) (m : t ≤ 86_399) where
  abbrev h : After
  h = moved_on d t s

  then_before : EveningDay (at t h.day) → BeforeScreen (at t h.day) h.books.main
  then_before v =
      let p = main_part d t s in
      let e = then_beside d t s in
      subst (λ (x : Day). BeforeScreen x h.books.main) (sym e)
      (beside_before h.day.fixed h.day.blocks (at t (moved d t s.main).day) h.books.main (subst EveningDay e v)
      (rw p.book (moved_before d s.main k t l m)))

  pub moved_sound : EveningDay (at t h.day) → Sound (update h.auctions h.books.main (at t h.day)) h.books.main
  moved_sound v =
      updated_sound d (at t h.day) s.main h.books.main h.auctions k
      (rw (main_part d t s).trades (moved_proper d s.main k t))
      (then_totals d t s k) (then_screen d t s k) (then_before v)
