-- Where the new book of a day is sound, so is the older one, wherever its orders stand: neither is answered with 15.
use Prim.Native.Nat.{ℕ}
use mathlib.Core.Path.{◌≡◌, refl, ap, ◌∙◌}
use mathlib.Core.Bool.{true, false, not, ◌&&◌}
use mathlib.Core.List.{List}
use mathlib.Core.Logic.{inl}
use Rattle.model.specs.declared.Order.{Order}
use Rattle.model.specs.declared.Day.{Day}
use Rattle.model.specs.Book.{free}
use Rattle.model.specs.Sound.{fixed_fits, blocks_fit}
use Rattle.model.specs.Refusals.{unsound}
use Rattle.model.proofs.Bools.{and_left, and_right, and_both}
use Rattle.book.proofs.Kept.{free_left}
use Rattle.soundness.specs.SoundDay.{Place, SoundDay}
use Rattle.soundness.proofs.HaltClauses.{says_halt}
use Rattle.soundness.proofs.EveningClauses.{says_evening}
use Rattle.soundness.proofs.SoundDays.{says_anywhere, sound_day, sound_screen, sound_halt, sound_evening}
use Rattle.model.specs.Words.{Sound}
use Rattle.demands.specs.Older.{older_unsound}
use Rattle.demands.proofs.SameQueues.{best_alike, fits_alike}
use Rattle.demands.proofs.Twins.{Twin, twin_alike, twin_places, twin_each, twin_total}

module _ {n : ℕ} {o c : List Order} (d : Day) (t : Twin n o c) (s : Sound d c) where
  pub older_day : SoundDay d o
  older_day =
      let h : SoundDay d c = sound_day d c s.1 in
      record {
        close = h.close;
        limited = h.limited;
        time = h.time;
        issued = h.issued;
        places = twin_each t (Place d) (inl refl) h.places;
        apart = t.stands.apart;
        early = λ l. twin_each t (λ x. x ≡ free) refl (h.early l);
        late = λ l. twin_each t (λ x. x ≡ free) refl (h.late l);
        uncrossed = rw (best_alike o c (twin_alike t) 0, best_alike o c (twin_alike t) 1) h.uncrossed;
        shares = rw (twin_total t (λ x. x.left) free_left) h.shares;
        untraded = h.untraded;
        traded = h.traded;
        least = h.least;
        most = h.most;
      }

  pub older_sound : older_unsound d o ≡ false
  unfolding older_unsound
  older_sound =
      let v : (fixed_fits d && blocks_fit d) ≡ true = (says_evening d).1 (sound_evening d c s.1) in
      ap not
      (and_both
      (and_both
      (and_both
      (and_both (and_both (twin_places t ∙ s.0) ((says_anywhere d o).1 older_day)) (fits_alike o c (twin_alike t) d ∙ sound_screen d c s.1))
      ((says_halt d).1 (sound_halt d c s.1)))
      (and_left (fixed_fits d) (blocks_fit d) v))
      (and_right (fixed_fits d) (blocks_fit d) v))

  pub newer_sound : unsound d c ≡ false
  unfolding unsound
  newer_sound = ap not (and_both s.0 s.1)
