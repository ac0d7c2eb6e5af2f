-- After a cancel the day is sound but for its screen: one order is taken out, and the others stay. Assumes nothing.
use Prim.Native.Nat.{◌+◌, ◌≤◌, ◌<◌}
use mathlib.Core.Path.{◌≡◌}
use mathlib.Core.Bool.{Bool, true}
use mathlib.Core.List.{List}
use native.Mathlib.Omega.{arith}
use lib.ListN.{length}
use Rattle.model.specs.declared.Order.{Order}
use Rattle.model.specs.declared.Day.{Day}
use Rattle.model.specs.Lists.{keep}
use Rattle.model.specs.Book.{free, stands_on, queue, arranged}
use Rattle.book.specs.Standing.{Standing}
use Rattle.book.proofs.Lists.{each, each_keep, length_keep, total_keep}
use Rattle.book.proofs.Kept.{standing_keep}
use Rattle.book.proofs.Counting.{queues_fit}
use Rattle.book.proofs.Crossing.{SellsAbove, Uncrossed, uncrossed, not_crossed}
use Rattle.soundness.specs.SoundDay.{Place, SoundDay}
use Rattle.soundness.proofs.SoundDays.{sound_day, sound_halt, sound_evening}
use Rattle.model.specs.Words.{Sound}
use Rattle.demands.proofs.Pricings.{sound_stands}
use Rattle.demands.proofs.Wholes.{Whole, Timely, whole_of, timely_of}
use Rattle.demands.proofs.BeforeScreens.{BeforeScreen}
use Rattle.demands.proofs.Arranged.{arranged_before}

-- some orders fewer, whichever they are
module _ (p : Order → Bool) (d : Day) (book : List Order) (s : Sound d book) where
  day : SoundDay d book
  day = sound_day d book s.1

  stands : Standing book
  stands = sound_stands d book s

  kept_whole : Whole d (keep p book)
  kept_whole =
      let w = whole_of d book day in
      record {
        close = w.close;
        limited = w.limited;
        issued = w.issued;
        places = each_keep (Place d) p book w.places;
        apart = (standing_keep p book stands).apart;
        shares = omega (arith, w.shares, total_keep (λ (o : Order). o.left) p book);
        figures = w.figures;
      }

  kept_uncrossed : Uncrossed book → Uncrossed (keep p book)
  kept_uncrossed u =
      each_keep (λ (b : Order). stands_on 0 b ≡ true → SellsAbove b.price (keep p book)) p book
      (each (λ (b : Order). stands_on 0 b ≡ true → SellsAbove b.price book)
      (λ (b : Order). stands_on 0 b ≡ true → SellsAbove b.price (keep p book)) book
      (λ b h e. each_keep (λ (r : Order). stands_on 1 r ≡ true → b.price < r.price) p book (h e))
      u)

  kept_timely : Timely d.time d.halt (keep p book)
  kept_timely =
      let t = timely_of d book day in
      record {
        time = t.time;
        early = λ l. each_keep (λ o. o ≡ free) p book (t.early l);
        late = λ l. each_keep (λ o. o ≡ free) p book (t.late l);
        uncrossed = λ a b z. not_crossed (keep p book) (kept_uncrossed (uncrossed book stands (t.uncrossed a b z)));
      }

  kept_fit : length (queue 0 (keep p book)) + length (queue 1 (keep p book)) ≤ length book
  kept_fit = omega (arith, queues_fit (keep p book) (standing_keep p book stands).fair, length_keep p book)

  pub kept_before : BeforeScreen d (arranged (length book) (keep p book))
  kept_before = arranged_before d book (keep p book) s.0 kept_whole kept_timely (sound_halt d book s.1) (sound_evening d book s.1) kept_fit
