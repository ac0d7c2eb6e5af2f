-- The lines of a run of prices one after the other, and the room that they take. Assumes nothing.
use Prim.Native.Nat.{ℕ, zero, suc, ◌+◌, ◌*◌, ◌≤◌}
use mathlib.Core.Path.{◌≡◌, refl, sym, ap, ◌∙◌}
use mathlib.Core.List.{List, [], ◌∷◌, ◌++◌, append_assoc, append-nil}
use native.Mathlib.Nat.{le_refl}
use native.Mathlib.Numerals.{add-one}
use native.Mathlib.Omega.{arith}
use lib.ListN.{length, length-append}
use Rattle.model.specs.Lists.{from}
use Rattle.model.specs.Lines.{reply}
use Rattle.floors.specs.Floor.{price_lines}
use Rattle.printing.specs.Printing.{Wrote}
use Rattle.printing.proofs.Printed.{nothing_put, and_then, put_as, reply_fits}

from_more : (first n : ℕ) → from first (suc n) ≡ from first n ++ ((first + n) ∷ [])
unfolding from
from_more first zero = let e : first ≡ first + 0 = omega arith in ap (λ (k : ℕ). k ∷ []) e
from_more first (suc n) =
    let e : suc first + n ≡ first + suc n = omega arith in
    ap (λ (l : List ℕ). first ∷ l) (from_more (suc first) n ∙ ap (λ (k : ℕ). from (suc first) n ++ (k ∷ [])) e)

pub from_long : (first n : ℕ) → length (from first n) ≡ n
unfolding from
from_long first zero = refl
from_long first (suc n) = ap suc (from_long (suc first) n)

lines_more : (ps : List ℕ) (p : ℕ) → price_lines (ps ++ (p ∷ [])) ≡ price_lines ps ++ price_lines (p ∷ [])
unfolding price_lines
lines_more [] p = refl
lines_more (q ∷ ps) p = rw (lines_more ps p, append_assoc)

pub prices_fit_lem : (ps : List ℕ) → length (price_lines ps) ≤ 23 * length ps
unfolding price_lines
prices_fit_lem [] = le_refl 0
prices_fit_lem (p ∷ ps) =
    let g = prices_fit_lem ps in
    let h = reply_fits 76 (p ∷ []) in
    rw length-append (omega arith)

pub one_price_lem : (p : ℕ) → reply 76 (p ∷ []) ≡ price_lines (p ∷ [])
unfolding price_lines
one_price_lem p = sym (append-nil (reply 76 (p ∷ [])))

pub prices_start : (first : ℕ) {out : List ℕ} {p : ℕ} → Wrote out p (price_lines (from first 0)) out p
unfolding price_lines from
prices_start first = nothing_put

-- the next price after those that are put
module _ (first : ℕ) {out₀ : List ℕ} {p₀ : ℕ} {out : List ℕ} {p : ℕ} (i : ℕ) (w : Wrote out₀ p₀ (price_lines (from first i)) out p) where
  pub prices_room : p ≤ p₀ + 23 * i
  prices_room = omega (arith, w.place, prices_fit_lem (from first i), from_long first i)

  pub prices_on :
      (price : ℕ)
      → price ≡ first + i
      → {out' : List ℕ} {p' : ℕ}
      → Wrote out p (price_lines (price ∷ [])) out' p'
      → Wrote out₀ p₀ (price_lines (from first (i + 1))) out' p'
  prices_on price e v =
      let f : from first (i + 1) ≡ from first i ++ (price ∷ []) = rw (add-one, from_more first i, e) in
      put_as (sym (ap price_lines f ∙ lines_more (from first i) price)) (and_then w v)
