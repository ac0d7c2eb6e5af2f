-- The size of a block, bound by bound, how large its money gets, and the band of a price.
use Prim.Native.Nat.{ℕ, ◌*◌, ◌^◌, ◌≤◌, ◌<◌}
use mathlib.Core.Path.{◌≡◌, refl}
use mathlib.Core.Bool.{Bool, true, false, ◌&&◌, ◌||◌}
use native.Mathlib.Omega.{arith}
use native.Mathlib.Nat.{mul-le-mul}
use lib.Dec.{leb}
use borrow.Author.Tests.{le-leb, lt-leb}
use Rattle.model.specs.Limits.{is_price, in_band}
use Rattle.model.specs.Blocks.{is_block}
use Rattle.limits.proofs.Spans.{small}

and_no : (b : Bool) → false ≡ (b && false)
and_no true = refl
and_no false = refl

and_so : (b : Bool) → b ≡ (b && true)
and_so true = refl
and_so false = refl

module _ (price q : ℕ) where
  pub too_many : 100_000_000 < q → false ≡ is_block price q
  unfolding is_block
  too_many h = rw (lt-leb q 100_000_000 h) (and_no (leb 100_000 q || leb 100_000_000 (price * q)))

  module _ (h : q ≤ 100_000_000) where
    pub enough_shares : 100_000 ≤ q → leb 100_000 q ≡ is_block price q
    unfolding is_block
    enough_shares k = rw (le-leb 100_000 q k, le-leb q 100_000_000 h)

    pub by_money : q < 100_000 → leb 100_000_000 (price * q) ≡ is_block price q
    unfolding is_block
    by_money k = rw (lt-leb 100_000 q k, le-leb q 100_000_000 h) (and_so (leb 100_000_000 (price * q)))

    pub money_fits : is_price price ≡ true → price * q < 2 ^ 64
    money_fits e =
        let most : price * q ≤ 999_999 * 100_000_000 = mul-le-mul (small price e) h in
        omega arith

-- of two prices the band alone is left to be told
pub band_only :
    (close p : ℕ) {r : Bool}
    → is_price close ≡ true
    → is_price p ≡ true
    → r ≡ (is_price close && is_price p && in_band close p)
    → r ≡ in_band close p
band_only close p f g e = rw (f, g) at e
