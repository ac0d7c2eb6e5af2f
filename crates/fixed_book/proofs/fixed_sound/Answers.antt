-- One clause after the other, each by the function that tests it.
-- past a test, what it tested has passed
use mathlib.Core.Path.{◌≡◌, sym, ◌∙◌}
use mathlib.Core.Bool.{true, ◌||◌}
use Rattle.model.specs.Lists.{all}
use Rattle.model.specs.Arrival.{in_arrival}
use Rattle.model.specs.Sound.{has_places, is_free, is_order_of}
use Rattle.fixed_book.proofs.Readiness.{no_places, place_wrong, not_arrived, lined_so_far, resting_small, out_of_hours, rests_wrong, sums_tell}
use Rattle.fixed_book.proofs.fixed_sound.Goals as goal
use Rattle.fixed_book.proofs.fixed_sound.Goals.{Else-not-has_places, Else-not-is_in_arrival, Else-not-sound_places}

places-pass : (c : Else-not-has_places) → has_places c.args.rows.now ≡ true
places-pass c = sym c.has_places.ensures ∙ c.if-not-has_places.false

orders_pass :
    (c : Else-not-sound_places)
    → let a = c.args in
    all (λ o. is_free o || is_order_of a.d a.d.fixed.issued o) a.rows.now ≡ true
orders_pass c = sym c.sound_places.ensures ∙ c.if-not-sound_places.false

arrival_passes :
    (c : Else-not-is_in_arrival) → in_arrival (λ o. o.number) c.args.rows.now ≡ true
arrival_passes c = sym c.is_in_arrival.ensures ∙ c.if-not-is_in_arrival.false

pub returns-then-not-has_places : goal.returns-then-not-has_places
returns-then-not-has_places c = no_places _ _ (sym c.has_places.ensures ∙ c.if-not-has_places.true)

pub returns-then-not-sound_places : goal.returns-then-not-sound_places
returns-then-not-sound_places c =
    place_wrong _ _ (places-pass (goal.at.returns-then-not-sound_places c).Else-not-has_places) (sym c.sound_places.ensures ∙ c.if-not-sound_places.true)

pub returns-then-not-is_in_arrival : goal.returns-then-not-is_in_arrival
returns-then-not-is_in_arrival c =
    not_arrived _ _ (places-pass (goal.at.returns-then-not-is_in_arrival c).Else-not-has_places) (orders_pass (goal.at.returns-then-not-is_in_arrival c).Else-not-sound_places) (sym c.is_in_arrival.ensures ∙ c.if-not-is_in_arrival.true)

pub resting_of-resting-requires : goal.resting_of-resting-requires
resting_of-resting-requires c =
    lined_so_far c.args.d _ (places-pass (goal.at.resting_of-resting-requires c).Else-not-has_places) (orders_pass (goal.at.resting_of-resting-requires c).Else-not-sound_places) (arrival_passes c) c.requires.d_value

pub returns-then-not-fits_hours : goal.returns-then-not-fits_hours
returns-then-not-fits_hours c =
    out_of_hours c.args.d _ (places-pass (goal.at.returns-then-not-fits_hours c).Else-not-has_places) (orders_pass (goal.at.returns-then-not-fits_hours c).Else-not-sound_places) (arrival_passes (goal.at.returns-then-not-fits_hours c).Else-not-is_in_arrival) c.requires.d_value c.resting_of-resting.ensures
    c.fits_hours.ensures c.if-not-fits_hours.true

pub returns-then-not-rests_after_matching : goal.returns-then-not-rests_after_matching
returns-then-not-rests_after_matching c =
    rests_wrong c.args.d _ (places-pass (goal.at.returns-then-not-rests_after_matching c).Else-not-has_places) (orders_pass (goal.at.returns-then-not-rests_after_matching c).Else-not-sound_places) (arrival_passes (goal.at.returns-then-not-rests_after_matching c).Else-not-is_in_arrival) c.requires.d_value c.resting_of-resting.ensures
    c.fits_hours.ensures c.if-not-fits_hours.false (sym c.rests_after_matching.ensures ∙ c.if-not-rests_after_matching.true)

pub sums_fit-requires : goal.sums_fit-requires
sums_fit-requires c =
    record { d_value = c.requires.d_value; resting_bound = resting_small c.args.d _ (places-pass (goal.at.sums_fit-requires c).Else-not-has_places) (orders_pass (goal.at.sums_fit-requires c).Else-not-sound_places) (arrival_passes (goal.at.sums_fit-requires c).Else-not-is_in_arrival) c.requires.d_value c.resting_of-resting.ensures }

pub returns : goal.returns
returns c =
    sums_tell c.args.d _ (places-pass (goal.at.returns c).Else-not-has_places) (orders_pass (goal.at.returns c).Else-not-sound_places) (arrival_passes (goal.at.returns c).Else-not-is_in_arrival) c.requires.d_value c.resting_of-resting.ensures
    c.fits_hours.ensures c.if-not-fits_hours.false (sym c.rests_after_matching.ensures ∙ c.if-not-rests_after_matching.false)
    c.sums_fit.ensures
