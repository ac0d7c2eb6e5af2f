-- The day's figures of the other lists stay in their bounds while the main book's calls leave them: before 15:05 nothing of the
-- fixed-price book has traded, so the close may still move, and from then on it stands. Assumes nothing.
use Prim.Native.Nat.{◌*◌, ◌≤◌, ◌<◌}
use mathlib.Core.Path.{◌≡◌, sym, ap, ◌∙◌}
use native.Mathlib.Omega.{arith}
use native.Mathlib.Nat.{mul-zero}
use Rattle.model.specs.declared.Day.{Day}
use Rattle.model.specs.Figures.{reference, close_price}
use Rattle.soundness.specs.SoundDay.{EveningDay}

module _ (d e : Day) (fixed : e.fixed ≡ d.fixed) (blocks : e.blocks ≡ d.blocks) (v : EveningDay d) where
  none_paid : d.time < 54_300 → e.fixed.money ≡ close_price e * e.fixed.shares
  unfolding close_price reference
  none_paid l =
      let z : d.fixed.shares ≡ 0 = v.none_yet l in
      let m : d.fixed.money ≡ 0 = v.fixed_money ∙ ap (λ n. close_price d * n) z ∙ mul-zero (close_price d) in
      rw (fixed, z, m) (sym (mul-zero (close_price e)))

  same_paid : e.close ≡ d.close → e.last ≡ d.last → e.fixed.money ≡ close_price e * e.fixed.shares
  unfolding close_price reference
  same_paid c p = rw (fixed, c, p) v.fixed_money

  -- before 15:05
  pub evening_early : d.time < 54_300 → EveningDay e
  evening_early l =
      record {
        fixed_issued = rw fixed v.fixed_issued;
        fixed_shares = rw fixed v.fixed_shares;
        fixed_money = none_paid l;
        none_yet = λ _. rw fixed (v.none_yet l);
        blocks_issued = rw blocks v.blocks_issued;
        blocks_shares = rw blocks v.blocks_shares;
      }

  -- at any time, where the close stands
  pub evening_later : e.close ≡ d.close → e.last ≡ d.last → d.time ≤ e.time → EveningDay e
  evening_later c p l =
      record {
        fixed_issued = rw fixed v.fixed_issued;
        fixed_shares = rw fixed v.fixed_shares;
        fixed_money = same_paid c p;
        none_yet = λ m. rw fixed (v.none_yet (omega arith));
        blocks_issued = rw blocks v.blocks_issued;
        blocks_shares = rw blocks v.blocks_shares;
      }
