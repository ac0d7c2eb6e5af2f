-- A place given up: those behind it move up by one, and the last place becomes free.
use Prim.Native.Nat.{ℕ, ◌+◌, ◌-◌, ◌<◌}
use mathlib.Core.Path.{◌≡◌, refl, sym, ap, ◌∙◌}
use mathlib.Core.List.{List, [], ◌∷◌, ◌++◌}
use native.Mathlib.Omega.{arith}
use lib.ListN.{length, take, drop, set, length-drop}
use lib.Seq.{length-take-le}
use Rattle.std.specs.List.{copy_within}
use Rattle.std.proofs.lemmas.List.{set-append_right}
use Rattle.std.proofs.lemmas.List.Edits.{paste_all}

module _ {A : Type 0} (none : A) where
  -- the only place of a list written over
  one_place : (ys : List A) → length ys ≡ 1 → set ys 0 none ≡ none ∷ []
  one_place [] l = absurd (omega arith)
  one_place (y ∷ []) l = refl
  one_place (y ∷ z ∷ ys) l = absurd (omega arith)

  pub moved_up :
      (xs : List A) (place : ℕ)
      → place < length xs
      → set (copy_within xs (place + 1) (length xs) place) (length xs - 1) none
      ≡ take place xs ++ (drop (place + 1) xs ++ (none ∷ []))
  moved_up xs place h =
      let front = take place xs in
      let back = drop (place + 1) xs in
      let n : ℕ = length xs - (place + 1) in
      let last = drop (place + n) xs in
      let lf : length front ≡ place = length-take-le place xs (omega arith) in
      let lb : length back ≡ n = length-drop (place + 1) xs in
      let ll : length last ≡ 1 = omega (arith, length-drop (place + n) xs) in
      let z : length xs - 1 - place - n ≡ 0 = omega arith in
      ap (λ (l : List A). set l (length xs - 1) none) (paste_all xs place back n (sym lb))
      ∙ set-append_right front (back ++ last) place (length xs - 1) none lf (omega arith)
      ∙ ap (λ (l : List A). front ++ l) (set-append_right back last n (length xs - 1 - place) none lb (omega arith))
      ∙ ap (λ (i : ℕ). front ++ (back ++ set last i none)) z
      ∙ ap (λ (l : List A). front ++ (back ++ l)) (one_place last ll)
