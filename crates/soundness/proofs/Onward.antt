-- The places from one on: the one itself, and those behind it. Assumes nothing.
use Prim.Native.Nat.{ℕ, suc, ◌+◌, ◌<◌}
use mathlib.Core.Path.{◌≡◌, sym, ap, ◌∙◌}
use mathlib.Core.List.{List, ◌∷◌}
use native.Mathlib.Numerals.{add-one}
use lib.ListN.{length, get_or, drop}
use lib.Seq.{drop-cons}
use Rattle.model.specs.declared.Order.{Order}
use Rattle.model.specs.Book.{free}

pub onward :
    (rows : List Order) (i : ℕ) (o : Order)
    → i < length rows
    → o ≡ get_or rows i free
    → (drop i rows) ≡ o ∷ (drop (i + 1) rows)
onward rows i o l e =
    ap (λ (r : List Order). r) (drop-cons rows i free l)
    ∙ ap (λ (x : Order). x ∷ (drop (suc i) rows)) (sym e)
    ∙ ap (λ (n : ℕ). o ∷ (drop n rows)) (sym (add-one i))
