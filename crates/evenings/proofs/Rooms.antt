-- Room for what is due after the close, from one second to the next. Assumes nothing.
use Prim.Native.Nat.{ℕ, ◌+◌, ◌≤◌}
use mathlib.Core.Path.{◌≡◌, refl, sym, ap, ◌∙◌}
use mathlib.Core.Bool.{true, not}
use mathlib.Core.List.{List, []}
use native.Mathlib.Omega.{arith}
use lib.ListN.{length}
use Rattle.model.specs.declared.Order.{Order}
use Rattle.model.specs.declared.Declaration.{Declaration}
use Rattle.model.specs.declared.Trade.{Trade}
use Rattle.model.specs.declared.Day.{Day}
use Rattle.model.specs.Lists.{keep}
use Rattle.model.specs.Figures.{close_price}
use Rattle.model.specs.FixedBook.{is_void, matches}
use Rattle.model.specs.Blocks.{confirmations}
use Rattle.model.specs.AfterClose.{After, confirm_all}
use Rattle.model.proofs.Evening.{due}
use Rattle.moves.specs.Stops.{passes}
use Rattle.fixed_demands.proofs.Evenings.{due_same}
use Rattle.evenings.specs.declared.Evening.{Evening}
use Rattle.evenings.specs.Counts.{confirmed_ahead, matched_ahead}
use Rattle.evenings.specs.Stage.{Unconfirmed, Unmatched, Spacious, Threefold}

-- a list of as many places
pub same_room : {a m n : ℕ} → n ≡ m → a ≤ m → a ≤ n
same_room e h = rw e h

module _ (e : Evening) (old new : ℕ) (held : List Declaration) (book : List Order) {places : ℕ}
    (r : e.made + confirmed_ahead old new held + matched_ahead (close_price e.day) old new book ≤ places) where
  pub three_made : e.made ≤ places
  three_made = omega (arith, r)

  pub three_room : passes 54_000 old new ≡ true → e.made + length (confirmations held) ≤ places
  three_room p =
      let c : confirmed_ahead old new held ≡ length (confirmations held) = unfold confirmed_ahead in rw p in
      omega (arith, r, c)

  module _ {day : Day} {made : ℕ} (t : Threefold e day made old new held) where
    pub five_made : made ≤ places
    five_made = omega (arith, r, t.made)

    pub five_room :
        passes 54_300 old new ≡ true
        → made + length (matches (close_price day) (keep (λ o. not (is_void (close_price day) o)) book)) ≤ places
    five_room p =
        let m :
        matched_ahead (close_price e.day) old new book
        ≡ length (matches (close_price e.day) (keep (λ o. not (is_void (close_price e.day) o)) book)) =
        unfold matched_ahead in rw p in
        rw t.close (omega (arith, r, t.made, m))

pub still_spacious :
    (e : Evening) {day : Day} {made old new : ℕ} {held : List Declaration}
    → Threefold e day made old new held
    → Spacious e.day
    → Spacious day
still_spacious e t s =
    record { shares = rw t.fixed s.shares; money = rw t.fixed s.money; close = rw t.close s.close }

-- confirmations are no fixed-price trades
pub still_unmatched : (old new : ℕ) (h : After) → Unconfirmed h → Unmatched (due 54_000 confirm_all old new h)
unfolding confirm_all
still_unmatched old new h u =
    record { fixed = due_same 54_000 confirm_all old new h (λ k. k.fixed) (λ k. refl) ∙ u.fixed }
