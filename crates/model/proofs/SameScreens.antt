-- Two screens compared: the test passes of a screen and itself, and of no two that differ; so a screen that fits is
-- the one that is counted. Assumes nothing.
use Prim.Native.Nat.{ℕ}
use mathlib.Core.Path.{◌≡◌, refl, ap, ap₂, subst}
use mathlib.Core.Bool.{Bool, true, ◌&&◌}
use mathlib.Core.List.{List}
use lib.IntN.{ℤ, pos, negsuc}
use lib.Dec.{eqb}
use borrow.Author.Tests.{eqb-true, eq-eqb}
use Rattle.model.specs.declared.Order.{Order}
use Rattle.model.specs.declared.Day.{Day}
use Rattle.model.specs.declared.Level.{Level}
use Rattle.model.specs.declared.Levels.{Levels}
use Rattle.model.specs.declared.Screen.{Screen}
use Rattle.model.specs.Screen.{screen_of, same_level, same_levels, same_surplus, same_screen}
use Rattle.model.specs.Sound.{encloses, screen_fits}
use Rattle.model.proofs.Bools.{not_both, and_left, and_right, and_both}

-- ---- of a screen and itself

eqb_same : (n : ℕ) → eqb n n ≡ true
eqb_same n = eq-eqb n n refl

pub level_same : (a : Level) → same_level a a ≡ true
unfolding same_level
level_same a = and_both (eqb_same a.price) (eqb_same a.shares)

pub levels_same : (a : Levels) → same_levels a a ≡ true
unfolding same_levels
levels_same a =
    and_both
    (and_both
    (and_both (and_both (level_same a.first) (level_same a.second)) (level_same a.third))
    (level_same a.fourth))
    (level_same a.fifth)

pub surplus_same : (s : ℤ) → same_surplus s s ≡ true
unfolding same_surplus
surplus_same (pos n) = eqb_same n
surplus_same (negsuc n) = eqb_same n

pub screen_same : (s : Screen) → same_screen s s ≡ true
unfolding same_screen
screen_same s =
    and_both
    (and_both
    (and_both
    (and_both
    (and_both
    (and_both
    (and_both
    (and_both (and_both (eqb_same s.last) (eqb_same s.high)) (eqb_same s.low))
    (eqb_same s.shares))
    (eqb_same s.turnover))
    (levels_same s.buys))
    (levels_same s.sells))
    (eqb_same s.price))
    (eqb_same s.volume))
    (surplus_same s.surplus)

-- ---- of no two that differ

both : {a b : Bool} → a && b ≡ true → (a ≡ true) × (b ≡ true)
both {a} {b} e = (and_left a b e, and_right a b e)

pub level_equal : (a b : Level) → same_level a b ≡ true → a ≡ b
unfolding same_level
level_equal a b e =
    let (p, s) = both e in
    ap₂ (λ x y. record { price = x; shares = y }) (eqb-true a.price b.price p) (eqb-true a.shares b.shares s)

levels : Level → Level → Level → Level → Level → Levels
levels a b c d e = record { first = a; second = b; third = c; fourth = d; fifth = e }

pub levels_equal : (a b : Levels) → same_levels a b ≡ true → a ≡ b
unfolding same_levels levels
levels_equal a b e =
    let (e₁, fifth) = both e in
    let (e₂, fourth) = both e₁ in
    let (e₃, third) = both e₂ in
    let (first, second) = both e₃ in
    let p : a.first ≡ b.first = level_equal a.first b.first first in
    let q : a.second ≡ b.second = level_equal a.second b.second second in
    let r : a.third ≡ b.third = level_equal a.third b.third third in
    let s : a.fourth ≡ b.fourth = level_equal a.fourth b.fourth fourth in
    let t : a.fifth ≡ b.fifth = level_equal a.fifth b.fifth fifth in
    let all :
    levels a.first a.second a.third a.fourth a.fifth
    ≡ levels b.first b.second b.third b.fourth b.fifth = cc in
    all

pub surplus_equal : (s t : ℤ) → same_surplus s t ≡ true → s ≡ t
unfolding same_surplus
surplus_equal (pos m) (pos n) e = ap pos (eqb-true m n e)
surplus_equal (pos m) (negsuc n) e = absurd (not_both e refl)
surplus_equal (negsuc m) (pos n) e = absurd (not_both e refl)
surplus_equal (negsuc m) (negsuc n) e = ap negsuc (eqb-true m n e)

screen : ℕ → ℕ → ℕ → ℕ → ℕ → Levels → Levels → ℕ → ℕ → ℤ → Screen
screen last high low shares turnover buys sells price volume surplus =
    record {
      last = last;
      high = high;
      low = low;
      shares = shares;
      turnover = turnover;
      buys = buys;
      sells = sells;
      price = price;
      volume = volume;
      surplus = surplus;
    }

pub screen_equal : (s t : Screen) → same_screen s t ≡ true → s ≡ t
unfolding same_screen screen
screen_equal s t e =
    let (e₁, surplus) = both e in
    let (e₂, volume) = both e₁ in
    let (e₃, price) = both e₂ in
    let (e₄, sells) = both e₃ in
    let (e₅, buys) = both e₄ in
    let (e₆, turnover) = both e₅ in
    let (e₇, shares) = both e₆ in
    let (e₈, low) = both e₇ in
    let (last, high) = both e₈ in
    let p₁ : s.last ≡ t.last = eqb-true s.last t.last last in
    let p₂ : s.high ≡ t.high = eqb-true s.high t.high high in
    let p₃ : s.low ≡ t.low = eqb-true s.low t.low low in
    let p₄ : s.shares ≡ t.shares = eqb-true s.shares t.shares shares in
    let p₅ : s.turnover ≡ t.turnover = eqb-true s.turnover t.turnover turnover in
    let p₆ : s.buys ≡ t.buys = levels_equal s.buys t.buys buys in
    let p₇ : s.sells ≡ t.sells = levels_equal s.sells t.sells sells in
    let p₈ : s.price ≡ t.price = eqb-true s.price t.price price in
    let p₉ : s.volume ≡ t.volume = eqb-true s.volume t.volume volume in
    let p₀ : s.surplus ≡ t.surplus = surplus_equal s.surplus t.surplus surplus in
    let all :
    screen s.last s.high s.low s.shares s.turnover s.buys s.sells s.price s.volume s.surplus
    ≡ screen t.last t.high t.low t.shares t.turnover t.buys t.sells t.price t.volume t.surplus =
    cc in
    all

-- ---- a screen that fits

module _ (d : Day) (book : List Order) where
  pub fits_counted : screen_fits d book ≡ true → d.screen ≡ screen_of d book d.screen.high d.screen.low
  unfolding screen_fits
  fits_counted e = screen_equal d.screen (screen_of d book d.screen.high d.screen.low) (and_left (same_screen d.screen (screen_of d book d.screen.high d.screen.low)) (encloses d) e)

  pub fits_encloses : screen_fits d book ≡ true → encloses d ≡ true
  unfolding screen_fits
  fits_encloses e = and_right (same_screen d.screen (screen_of d book d.screen.high d.screen.low)) (encloses d) e

  pub counted_fits :
      d.screen ≡ screen_of d book d.screen.high d.screen.low → encloses d ≡ true → screen_fits d book ≡ true
  unfolding screen_fits
  counted_fits e f = and_both (subst (λ s. same_screen d.screen s ≡ true) e (screen_same d.screen)) f
