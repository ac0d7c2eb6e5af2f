-- What the two tests of 15 give to the one behind them, and to the calls. Assumes nothing.
use mathlib.Core.Path.{◌≡◌, sym, ap, ◌∙◌}
use mathlib.Core.Bool.{Bool, true, false, not, ◌&&◌}
use mathlib.Core.List.{List}
use Rattle.model.specs.declared.Order.{Order}
use Rattle.model.specs.declared.Day.{Day}
use Rattle.model.specs.Limits.{is_price}
use Rattle.model.specs.Sound.{has_places, fixed_fits}
use Rattle.model.specs.SoundFixed.{sound_fixed}
use Rattle.model.specs.Refusals.{unsound, unsound_fixed}
use Rattle.soundness.proofs.Clauses.{says_price}
use Rattle.soundness.proofs.Readiness.{ready_if}
use Rattle.fixed_book.specs.Ready.{FixedReady}
use Rattle.fixed_book.proofs.Readiness.{says_fixed_day}

module _ (d : Day) (main : List Order) (u : unsound d main ≡ false) where
  pub close_is_price : is_price d.close ≡ true
  close_is_price = (says_price d.close).1 (ready_if d main u).sound.close

  pub figures_fit_lem : fixed_fits d ≡ true
  figures_fit_lem =
      let v = (ready_if d main u).evening in
      (says_fixed_day d).1
      (record { issued = v.fixed_issued; shares = v.fixed_shares; money = v.fixed_money; none_yet = v.none_yet })

module _ (d : Day) (book : List Order) {r : Bool} (e : r ≡ (has_places book && sound_fixed d book)) where
  pub is_unsound : r ≡ false → unsound_fixed d book ≡ true
  unfolding unsound_fixed
  is_unsound f = ap not (sym e ∙ f)

  pub not_unsound : r ≡ true → unsound_fixed d book ≡ false
  unfolding unsound_fixed
  not_unsound f = ap not (sym e ∙ f)

pub ready_close : (d : Day) (book : List Order) → FixedReady d book → is_price d.close ≡ true
ready_close d book r = (says_price d.close).1 r.close
