-- What the clauses on the day's figures of the fixed-price book and of block trades say, as plain facts. Assumes nothing.
use Prim.Native.Nat.{◌*◌, ◌≤◌}
use mathlib.Core.Path.{◌≡◌, refl}
use mathlib.Core.Bool.{Bool, true, false, ◌&&◌}
use mathlib.Core.List.{List}
use native.Mathlib.Omega.{arith}
use native.Mathlib.Nat.{not-le_of_lt, lt_of_not-le, mul-le-mul_right}
use lib.Dec.{eqb}
use borrow.Author.Tests.{eqb-true, eqb-false}
use Rattle.model.specs.declared.Order.{Order}
use Rattle.model.specs.declared.Day.{Day}
use Rattle.model.specs.Clock.{matching_from}
use Rattle.model.specs.Figures.{reference, close_price}
use Rattle.model.specs.Sound.{fixed_fits, blocks_fit}
use Rattle.figures.specs.Figures.{Publishable}
use Rattle.soundness.specs.SoundDay.{SoundDay, EveningDay}
use Rattle.soundness.proofs.Says.{Says, says_le, says_eq, says_and, says_unless, says_too}

module _ (d : Day) where
  pub says_evening : Says (fixed_fits d && blocks_fit d) (EveningDay d)
  unfolding fixed_fits blocks_fit matching_from
  says_evening =
      says_too
      (λ h.
      record {
        fixed_issued = h.0.0.0.0;
        fixed_shares = h.0.0.0.1;
        fixed_money = h.0.0.1;
        none_yet = λ l. h.0.1 (λ m. not-le_of_lt l m);
        blocks_issued = h.1.0;
        blocks_shares = h.1.1;
      })
      (λ (e : EveningDay d). (
        (((e.fixed_issued, e.fixed_shares), e.fixed_money), λ n. e.none_yet (lt_of_not-le n)),
        (e.blocks_issued, e.blocks_shares),
      ))
      (says_and
      (says_and
      (says_and
      (says_and (says_le d.fixed.issued 999_999) (says_le (2 * d.fixed.shares) (1_000_000 * d.fixed.issued)))
      (says_eq d.fixed.money (close_price d * d.fixed.shares)))
      (says_unless (says_le 54_300 d.time) (says_eq d.fixed.shares 0)))
      (says_and (says_le d.blocks.issued 999_999) (says_le d.blocks.shares (50_000_000 * d.blocks.issued))))

  -- the close is a price
  pub close_small : (book : List Order) → SoundDay d book → close_price d ≤ 999_999
  unfolding close_price reference
  close_small book s = go (eqb d.last 0) refl (eqb d.shares 0) refl
    where
      go :
          (b : Bool) → eqb d.last 0 ≡ b → (c : Bool) → eqb d.shares 0 ≡ c → close_price d ≤ 999_999
      go true e c f = rw e s.close.high
      go false e true f = absurd (eqb-false d.last 0 e (s.untraded (eqb-true d.shares 0 f)).1)
      go false e false f = rw e (s.traded (eqb-false d.shares 0 f)).1.high

  -- fixed-price money is at the close, which is a price
  pub fixed_paid : (book : List Order) → SoundDay d book → EveningDay d → d.fixed.money ≤ 999_999 * d.fixed.shares
  fixed_paid book s e = rw e.fixed_money (mul-le-mul_right d.fixed.shares (close_small book s))

  -- published sums are numbers of 64 bits
  pub publishable : (book : List Order) → SoundDay d book → EveningDay d → Publishable d
  publishable book s e =
      record {
        shares = λ _. omega (arith, s.shares, s.issued, e.fixed_shares, e.fixed_issued, e.blocks_shares, e.blocks_issued);
        money = λ _. omega (arith, s.shares, s.issued, s.most, fixed_paid book s e, e.fixed_shares, e.fixed_issued);
      }
