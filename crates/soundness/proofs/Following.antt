-- A walk along the places, each beside the next. Assumes nothing.
use Prim.Native.Nat.{ℕ, suc, ◌+◌, ◌-◌, ◌≤◌, ◌<◌}
use mathlib.Core.Path.{◌≡◌, refl, sym, ap, ◌∙◌}
use mathlib.Core.Bool.{Bool, true, false, ◌&&◌}
use mathlib.Core.List.{List, [], ◌∷◌}
use native.Mathlib.Omega.{arith}
use lib.ListN.{length, get_or, drop, length-drop}
use lib.Seq.{drop-cons}
use Rattle.model.specs.declared.Order.{Order}
use Rattle.model.specs.Book.{free, may_follow, in_order}

-- those up to the one before i have passed
pub record Followed (rows : List Order) (i : ℕ) : Type 0 where
  pub same : in_order rows ≡ in_order (drop (i - 1) rows)
  pub low : 1 ≤ i

pub followed_start : (rows : List Order) → Followed rows 1
followed_start rows = record { same = refl; low = omega arith }

module _ (rows : List Order) {i : ℕ} (w : Followed rows i) where
  module _ {a b : Order} (inside : i < length rows) (ea : a ≡ get_or rows (i - 1) free) (eb : b ≡ get_or rows i free) where
    second : drop i rows ≡ b ∷ drop (suc i) rows
    second =
        drop-cons rows i free (omega arith)
        ∙ ap (λ (x : Order). x ∷ drop (suc i) rows) (sym (eb))

    two : drop (i - 1) rows ≡ a ∷ b ∷ drop (suc i) rows
    two =
        let k : suc (i - 1) ≡ i = omega (arith, w.low) in
        drop-cons rows (i - 1) free (omega arith)
        ∙ ap (λ (x : Order). x ∷ drop (suc (i - 1)) rows) (sym (ea))
        ∙ ap (λ (n : ℕ). a ∷ drop n rows) k
        ∙ ap (λ (l : List Order). a ∷ l) second

    here : in_order rows ≡ (may_follow a b && in_order (drop i rows))
    unfolding in_order
    here = w.same ∙ ap in_order two ∙ ap (λ (l : List Order). may_follow a b && in_order l) (sym second)

    module _ {r : Bool} (e : r ≡ may_follow a b) where
      pub follow_fails : r ≡ false → false ≡ in_order rows
      follow_fails f = sym (here ∙ rw (sym e ∙ f))

      pub follow_next : r ≡ true → Followed rows (i + 1)
      follow_next f =
          let k : i + 1 - 1 ≡ i = omega arith in
          record { same = here ∙ rw (sym e ∙ f, k); low = omega arith }

  pub follow_ends : length rows ≤ i → true ≡ in_order rows
  follow_ends h =
      sym
      (w.same
      ∙ alone (drop (i - 1) rows) (omega (arith, length-drop (i - 1) rows)))
    where
      alone : (os : List Order) → length os ≤ 1 → in_order os ≡ true
      alone [] l = unfold in_order in refl
      alone (o ∷ []) l = unfold in_order in refl
      alone (o ∷ p ∷ os) l = absurd (omega arith)
