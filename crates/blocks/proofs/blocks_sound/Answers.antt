-- What the tests before have told of the declarations.
use mathlib.Core.Path.{◌≡◌}
use mathlib.Core.Bool.{true, ◌||◌}
use native.Mathlib.Omega.{arith}
use Rattle.model.specs.Lists.{all}
use Rattle.model.specs.Arrival.{in_arrival}
use Rattle.model.specs.Sound.{has_places}
use Rattle.model.specs.SoundBlocks.{is_undeclared, is_declaration}
use Rattle.model.specs.declared.Declaration.{Declaration}
use Rattle.held.proofs.Formed.{declared}
use Rattle.blocks.proofs.blocks_sound.Goals as goal

pub count_confirmed-requires : goal.count_confirmed-requires
count_confirmed-requires c =
    let rows = c.args.rows.now in
    let places : has_places rows ≡ true = grind arith in
    let formed : all (λ x. is_undeclared x || is_declaration c.args.d x) rows ≡ true = grind arith in
    let arrived : in_arrival (λ (x : Declaration). x.number) rows ≡ true = grind arith in
    declared _ _ c.requires.d_value places formed arrived
