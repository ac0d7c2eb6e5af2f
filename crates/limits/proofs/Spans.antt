-- A number between two others, tested from below, and what the price test says. Assumes nothing.
use Prim.Native.Nat.{ℕ, ◌≤◌, ◌<◌}
use mathlib.Core.Path.{◌≡◌, ◌∙◌}
use mathlib.Core.Bool.{Bool, true, ◌&&◌}
use lib.Dec.{leb}
use borrow.Author.Tests.{le-leb, lt-leb, leb-true}
use Rattle.model.specs.Limits.{is_price}
use Rattle.model.proofs.Bools.{and_right, and_no, and_yes}

pub too_low : (a b n : ℕ) → n < a → leb a n ≡ (leb a n && leb n b)
too_low a b n h = lt-leb a n h ∙ and_no (leb n b) (lt-leb a n h)

pub from_low : (a b n : ℕ) {r : Bool} → a ≤ n → r ≡ leb n b → r ≡ (leb a n && leb n b)
from_low a b n h e = and_yes (leb n b) (le-leb a n h) e

pub small : (p : ℕ) → is_price p ≡ true → p ≤ 999_999
unfolding is_price
small p e = leb-true p 999_999 (and_right (leb 1 p) (leb p 999_999) e)
