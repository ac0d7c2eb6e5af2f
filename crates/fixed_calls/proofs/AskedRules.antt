-- A fixed-price order's rules before the book is looked at: which is the first to hold, from the tests' answers; and what the order is
-- once none of them holds. Assumes nothing.
use Prim.Native.Nat.{ℕ, ◌≤◌, ◌<◌}
use mathlib.Core.Path.{◌≡◌, refl}
use mathlib.Core.Bool.{Bool, true, false, not, ◌&&◌}
use native.Mathlib.Omega.{arith}
use lib.Dec.{leb, ltb, eqb}
use borrow.Author.Tests.{le-leb, lt-leb, lt-ltb, le-ltb, eq-eqb, ne_eqb, eqb-false}
use Rattle.model.specs.declared.AskedFixed.{AskedFixed}
use Rattle.model.specs.declared.Day.{Day}
use Rattle.model.specs.Clock.{long_hours, matching_from}
use Rattle.model.specs.Limits.{is_price, is_quantity, in_band}
use Rattle.model.specs.Figures.{reference, close_price}
use Rattle.model.specs.FixedBook.{wrong_side}
use Rattle.model.specs.Refusals.{◌when◌, first_of}
use Rattle.model.proofs.Rules.{Numbered, none_holds}
use Rattle.fixed_book.specs.Asked.{Fine}
use Rattle.fixed_book.proofs.Arriving.{fine_if}
use Rattle.fixed_calls.specs.Rules.{asked_rules}

-- ---- the hours

module _ (t : ℕ) where
  pub too_early : t < 33_300 → false ≡ long_hours t
  unfolding long_hours
  too_early h = rw (lt-leb 33_300 t h, lt-leb 46_800 t (omega arith))

  module _ (a : 33_300 ≤ t) where
    pub in_the_morning : t < 41_400 → true ≡ long_hours t
    unfolding long_hours
    in_the_morning h = rw (le-leb 33_300 t a, lt-ltb t 41_400 h)

    module _ (b : 41_400 ≤ t) where
      pub at_noon : t < 46_800 → false ≡ long_hours t
      unfolding long_hours
      at_noon h = rw (le-leb 33_300 t a, le-ltb t 41_400 b, lt-leb 46_800 t h)

      pub from_one : 46_800 ≤ t → ltb t 55_800 ≡ long_hours t
      unfolding long_hours
      from_one h = rw (le-leb 33_300 t a, le-ltb t 41_400 b, le-leb 46_800 t h)

-- ---- the band and the close

module _ (d : Day) (price : ℕ) where
  pub unlimited : (d.limited ≡ 1 → ⊥) → false ≡ (eqb d.limited 1 && not (in_band d.close price))
  unlimited n = rw (ne_eqb d.limited 1 n)

  pub by_band :
      d.limited ≡ 1
      → is_price d.close ≡ true
      → is_price price ≡ true
      → {r : Bool}
      → r ≡ (is_price d.close && is_price price && in_band d.close price)
      → not r ≡ (eqb d.limited 1 && not (in_band d.close price))
  by_band l c p e = rw (eq-eqb d.limited 1 l, e, c, p)

  pub not_yet : (side : ℕ) → d.time < 54_300 → false ≡ (leb matching_from d.time && wrong_side side price (close_price d))
  unfolding matching_from
  not_yet side l = rw (lt-leb 54_300 d.time l)

  pub by_close :
      (side : ℕ)
      → 54_300 ≤ d.time
      → {close : ℕ}
      → close ≡ reference d
      → {r : Bool}
      → r ≡ wrong_side side price close
      → r ≡ (leb matching_from d.time && wrong_side side price (close_price d))
  unfolding matching_from close_price
  by_close side l c e = rw (le-leb 54_300 d.time l, ← c) e

-- ---- one rule after the other

module _ (d : Day) (a : AskedFixed) where
  abbrev told : ℕ
  told = first_of (asked_rules d a)

  abbrev outside : Bool
  outside = eqb d.limited 1 && not (in_band d.close a.price)

  abbrev missing : Bool
  missing = leb matching_from d.time && wrong_side a.side a.price (close_price d)

  pub no_side : 1 < a.side → 2 ≡ told
  unfolding asked_rules first_of ◌when◌
  no_side h = rw (lt-leb a.side 1 h)

  module _ (s : a.side ≤ 1) where
    pub no_account : a.account ≡ 0 → 3 ≡ told
    unfolding asked_rules first_of ◌when◌
    no_account h = rw (le-leb a.side 1 s, eq-eqb a.account 0 h)

    module _ (n : a.account ≡ 0 → ⊥) where
      pub shut : long_hours d.time ≡ false → 19 ≡ told
      unfolding asked_rules first_of ◌when◌
      shut h = rw (le-leb a.side 1 s, ne_eqb a.account 0 n, h)

      module _ (o : long_hours d.time ≡ true) where
        pub no_quantity : is_quantity a.side a.quantity a.balance ≡ false → 6 ≡ told
        unfolding asked_rules first_of ◌when◌
        no_quantity h = rw (le-leb a.side 1 s, ne_eqb a.account 0 n, o, h)

        module _ (q : is_quantity a.side a.quantity a.balance ≡ true) where
          pub no_price : is_price a.price ≡ false → 7 ≡ told
          unfolding asked_rules first_of ◌when◌
          no_price h = rw (le-leb a.side 1 s, ne_eqb a.account 0 n, o, q, h)

          module _ (p : is_price a.price ≡ true) where
            pub outside_band : outside ≡ true → 8 ≡ told
            unfolding asked_rules first_of ◌when◌
            outside_band h = rw (le-leb a.side 1 s, ne_eqb a.account 0 n, o, q, p, h)

            module _ (b : outside ≡ false) where
              pub misses : missing ≡ true → 20 ≡ told
              unfolding asked_rules first_of ◌when◌
              misses h = rw (le-leb a.side 1 s, ne_eqb a.account 0 n, o, q, p, b, h)

              pub none_asked : missing ≡ false → 0 ≡ told
              unfolding asked_rules first_of ◌when◌
              none_asked h = rw (le-leb a.side 1 s, ne_eqb a.account 0 n, o, q, p, b, h)

  pub asked_numbered : Numbered (asked_rules d a)
  unfolding asked_rules ◌when◌
  asked_numbered = (
    eqb-false 2 0 refl,
    (
      eqb-false 3 0 refl,
      (
        eqb-false 19 0 refl,
        (eqb-false 6 0 refl, (eqb-false 7 0 refl, (eqb-false 8 0 refl, (eqb-false 20 0 refl, tt)))),
      ),
    ),
  )

  -- where none holds
  pub asked_fine : first_of (asked_rules d a) ≡ 0 → Fine d a
  unfolding asked_rules ◌when◌
  asked_fine e =
      let h = none_holds (asked_rules d a) asked_numbered e in
      fine_if d a h.0 h.1.0 h.1.1.0 h.1.1.1.0 h.1.1.1.1.0 h.1.1.1.1.1.0 h.1.1.1.1.1.1.0
