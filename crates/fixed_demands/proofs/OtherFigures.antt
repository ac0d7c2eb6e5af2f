-- A day with other figures of the fixed-price book and of block trades: the main book does not read them, so it is as sound as before; its
-- screen shows them from 15:30 on only. Assumes nothing.
use Prim.Native.Nat.{ℕ, ◌<◌}
use mathlib.Core.Path.{◌≡◌, ◌∙◌}
use mathlib.Core.Logic.{inl, inr, ⊎_elim}
use mathlib.Core.Bool.{true, false, ◌&&◌}
use mathlib.Core.List.{List}
use borrow.Author.Tests.{lt-leb, not-false}
use Rattle.model.specs.declared.Order.{Order}
use Rattle.model.specs.declared.Day.{Day}
use Rattle.model.specs.declared.Fixed.{Fixed}
use Rattle.model.specs.declared.Blocks.{Blocks}
use Rattle.model.specs.Clock.{day_end}
use Rattle.model.specs.Figures.{reference, with_fixed_figures, with_block_figures, published_shares, published_turnover}
use Rattle.model.specs.Halts.{runs, phase_now}
use Rattle.model.specs.Auction.{auction_price}
use Rattle.model.specs.Screen.{shown_price, screen_of}
use Rattle.model.specs.Sound.{has_places, encloses, screen_fits, sound}
use Rattle.model.specs.Refusals.{unsound}
use Rattle.model.proofs.Bools.{and_left, and_right}
use Rattle.model.proofs.SameScreens.{fits_counted, fits_encloses, counted_fits}
use Rattle.book.proofs.Lists.{each}
use Rattle.soundness.specs.SoundDay.{Rests, Place, SoundDay, HaltDay, EveningDay}
use Rattle.soundness.proofs.SoundDays.{sound_day, sound_ordered, sound_screen, sound_halt, day_sound}

module _ (f : Fixed) (b : Blocks) (d : Day) (main : List Order) where
  abbrev e : Day
  e = with_fixed_figures f (with_block_figures b d)

  rests_same : (o : Order) → Rests d o → Rests e o
  unfolding with_fixed_figures with_block_figures
  rests_same o r =
      record {
        side = r.side;
        account = r.account;
        some = r.some;
        left = r.left;
        price = r.price;
        band = r.band;
        numbered = r.numbered;
        issued = r.issued;
      }

  day_same : SoundDay d main → SoundDay e main
  unfolding with_fixed_figures with_block_figures
  day_same s =
      record {
        close = s.close;
        limited = s.limited;
        time = s.time;
        issued = s.issued;
        places = each (Place d) (Place e) main (λ o p. ⊎_elim inl (λ r. inr (rests_same o r)) p) s.places;
        apart = s.apart;
        early = s.early;
        late = s.late;
        uncrossed = s.uncrossed;
        shares = s.shares;
        untraded = s.untraded;
        traded = s.traded;
        least = s.least;
        most = s.most;
      }

  halt_same : HaltDay d → HaltDay e
  unfolding with_fixed_figures with_block_figures
  halt_same h =
      record {
        thirty = h.thirty;
        sixty = h.sixty;
        ahead = h.ahead;
        led = h.led;
        thirty_first = h.thirty_first;
        uses = h.uses;
        unlimited = h.unlimited;
      }

  -- before 15:30 the screen shows nothing of them
  pub screen_same : d.time < 55_800 → (high low : ℕ) → screen_of d main high low ≡ screen_of e main high low
  unfolding screen_of shown_price phase_now runs auction_price reference published_shares published_turnover day_end with_fixed_figures with_block_figures
  screen_same l high low = rw (lt-leb 55_800 d.time l)

  fits_same : d.time < 55_800 → screen_fits d main ≡ true → screen_fits e main ≡ true
  unfolding with_fixed_figures with_block_figures encloses
  fits_same l h =
      counted_fits e main
      (fits_counted d main h ∙ screen_same l d.screen.high d.screen.low) (fits_encloses d main h)

  pub figures_sound : d.time < 55_800 → EveningDay e → unsound d main ≡ false → unsound e main ≡ false
  unfolding unsound
  figures_sound l v u =
      let h = not-false (has_places main && sound d main) u in
      let s : sound d main ≡ true = and_right (has_places main) (sound d main) h in
      rw (
        and_left (has_places main) (sound d main) h,
        day_sound e main (day_same (sound_day d main s)) (sound_ordered d main s) (fits_same l (sound_screen d main s)) (halt_same (sound_halt d main s)) v,
      )
