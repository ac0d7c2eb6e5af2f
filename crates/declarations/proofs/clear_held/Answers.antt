-- All places from the first on are free.
use Prim.Native.Nat.{ℕ, ◌-◌}
use mathlib.Core.Path.{◌≡◌, refl, ap, ◌∙◌}
use mathlib.Core.List.{List, [], ◌∷◌}
use native.Mathlib.Omega.{arith}
use lib.ListN.{length, replicate}
use Rattle.model.specs.declared.Declaration.{Declaration}
use Rattle.model.specs.Blocks.{undeclared, none_held}
use Rattle.declarations.proofs.clear_held.Goals as goal

all_free : (xs : List Declaration) → replicate (length xs) undeclared ≡ none_held xs
unfolding none_held
all_free [] = refl
all_free (x ∷ xs) = ap (λ (l : List Declaration). undeclared ∷ l) (all_free xs)

pub returns : goal.returns
returns c =
    let xs = c.args.rows.now in
    let n : length xs - 0 ≡ length xs = omega arith in
    c.free_rest.ensures ∙ ap (λ (k : ℕ). replicate k undeclared) n ∙ all_free xs
