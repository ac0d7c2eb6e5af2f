-- Once the places are sound and in order the book stands so, and the sum of its shares serves for the rest of the test.
use mathlib.Core.Path.{◌≡◌, sym, ◌∙◌}
use mathlib.Core.Bool.{true}
use Rattle.soundness.proofs.Stages.{seats, seated, seats_fail, seated_issued, seated_ranked, resting_small, still_to_pass}
use Rattle.soundness.proofs.stands_sound.Goals as goal
use Rattle.soundness.proofs.stands_sound.Goals.{Else-not-seats_fit}

fit : (c : Else-not-seats_fit) → seats c.args.day c.args.rows.now ≡ true
fit c = sym c.seats_fit.ensures ∙ c.if-not-seats_fit.false

pub returns-then-not-seats_fit : goal.returns-then-not-seats_fit
returns-then-not-seats_fit c = seats_fail _ _ (sym c.seats_fit.ensures ∙ c.if-not-seats_fit.true)

pub shares_left-requires : goal.shares_left-requires
shares_left-requires c = seated_ranked _ _ (seated _ _ (fit c))

pub rest_fits-requires : goal.rest_fits-requires
rest_fits-requires c =
    let s = seated _ _ (fit (goal.at.rest_fits-requires c).Else-not-seats_fit) in
    record { ranked = seated_ranked _ _ s; issued_bound = seated_issued _ _ s; resting_bound = resting_small _ _ s _ c.shares_left.ensures }

pub returns : goal.returns
returns c =
    let f = fit (goal.at.returns c).Else-not-seats_fit in still_to_pass _ _ (seated _ _ f) _ c.shares_left.ensures c.rest_fits.ensures f
