-- `soundness::is_sound` meets its contract: all but the screen, which is counted from a book in order, and then the screen. Assumes nothing.
use Rattle.std.proofs.Common.{rules}
use mathlib.Core.Path.{◌≡◌, sym, ◌∙◌}
use mathlib.Core.Bool.{true, ◌&&◌}
use Rattle.model.specs.Sound.{has_places, fixed_fits, blocks_fit}
use Rattle.soundness.specs.SoundDay.{stands_sound}
use Rattle.soundness.proofs.Stages.{then_screen, stands_ranked, stands_close, stands_publishable}
use Rattle.soundness.proofs.is_sound.Goals as goal
use Rattle.soundness.proofs.is_sound.Goals.{Then-evening_fits, then-stands_sound, else-stands_sound}

-- both tests have passed
passed :
    (c : Then-evening_fits)
    → let d = c.args.day in
    ((has_places c.args.rows.now && stands_sound d c.args.rows.now) ≡ true) × ((fixed_fits d && blocks_fit d) ≡ true)
passed c =
    elim c.if-stands_sound.branch [
      | then-stands_sound w ↦ (
        sym c.stands_sound.ensures ∙ w.if-stands_sound.true,
        sym w.evening_fits.ensures ∙ sym w.value-is ∙ c.if-evening_fits.true,
      )
      | else-stands_sound w ↦ absurd (search (rules, w.value-is, w.if-stands_sound.false, c.if-evening_fits.true))
    ]

pub evening_fits-requires : goal.evening_fits-requires
evening_fits-requires c = stands_close _ _ (sym c.stands_sound.ensures ∙ c.if-stands_sound.true)

pub screen_fits-requires : goal.screen_fits-requires
screen_fits-requires c =
    let p = passed c in record { ranked = stands_ranked _ _ p.0; publishable = stands_publishable _ _ p.0 p.1 }

pub returns-then-evening_fits : goal.returns-then-evening_fits
returns-then-evening_fits c =
    let p = passed (goal.at.returns-then-evening_fits c).Then-evening_fits in rw (then_screen _ _, p.0, p.1) c.screen_fits.ensures

pub returns-else-evening_fits : goal.returns-else-evening_fits
returns-else-evening_fits c =
    elim c.if-stands_sound.branch [
      | then-stands_sound w ↦
          rw (
            c.if-evening_fits.false,
            then_screen _ _,
            sym c.stands_sound.ensures ∙ w.if-stands_sound.true,
            sym w.evening_fits.ensures ∙ sym w.value-is ∙ c.if-evening_fits.false,
          )
      | else-stands_sound w ↦ rw (c.if-evening_fits.false, then_screen _ _, sym c.stands_sound.ensures ∙ w.if-stands_sound.false)
    ]
