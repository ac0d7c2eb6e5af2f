-- The day's figures have room for what is due after the close. Assumes nothing.
use Prim.Native.Nat.{ℕ, suc, ◌+◌, ◌*◌, ◌^◌, ◌≤◌, ◌<◌}
use mathlib.Core.Path.{◌≡◌, refl}
use mathlib.Core.Bool.{Bool, true, false, not, ◌&&◌, cond}
use mathlib.Core.List.{List, [], ◌∷◌}
use native.Mathlib.Omega.{arith}
use native.Mathlib.Nat.{mul-le-mul_right}
use lib.ListN.{length}
use lib.Dec.{eqb}
use Rattle.model.specs.declared.Order.{Order}
use Rattle.model.specs.declared.Declaration.{Declaration}
use Rattle.model.specs.declared.Trade.{Trade}
use Rattle.model.specs.declared.Day.{Day}
use Rattle.model.specs.Lists.{keep, total}
use Rattle.model.specs.Matching.{filled}
use Rattle.model.specs.Figures.{reference, close_price}
use Rattle.model.specs.FixedBook.{is_void, matches}
use Rattle.model.specs.Blocks.{confirmations}
use Rattle.model.specs.Words.{Each}
use Rattle.book.specs.declared.Dealt.{Dealt}
use Rattle.book.specs.Deals.{dealt}
use Rattle.fixed_book.specs.Ready.{Lined}
use Rattle.fixed_book.proofs.Sides.{closing_shares}
use Rattle.declarations.specs.Declared.{WellFormed, Declared}
use Rattle.partners.specs.Partners.{partners, is_buyer, confirmed_with, agreed}
use Rattle.partners.proofs.Walked.{walked}
use Rattle.evenings.specs.Stage.{Spacious}

-- each place confirms at most 100,000,000 shares
agreed_shares : (held : List Declaration) (ps : List ℕ) → Each WellFormed held → filled (agreed held ps) ≤ 100_000_000 * length held
unfolding agreed filled total confirmed_with
agreed_shares [] ps h = omega arith
agreed_shares (x ∷ held) [] h = omega arith
agreed_shares (x ∷ held) (p ∷ ps) h = go (is_buyer x && not (eqb p 0)) (agreed_shares held ps h.1)
  where
    go :
        (b : Bool)
        → filled (agreed held ps) ≤ 100_000_000 * length held
        → filled (cond b (confirmed_with x p ∷ agreed held ps) (agreed held ps)) ≤ 100_000_000 * suc (length held)
    go true k = omega (arith, k, h.0.quantity)
    go false k = omega (arith, k)

module _ (held : List Declaration) (d : Declared held) where
  pub confirmed_shares : filled (confirmations held) ≤ 409_600_000_000
  confirmed_shares =
      let a : filled (agreed held (partners held)) ≤ 100_000_000 * length held = agreed_shares held (partners held) d.formed in
      rw (walked held d) (omega (arith, a, d.few))

  pub blocks_room : {r : Dealt} (day : Day) → day.blocks.shares ≤ 50_000_000_000_000 → r ≡ dealt (confirmations held) → day.blocks.shares + r.shares < 2 ^ 64
  unfolding dealt
  blocks_room {r} day s e =
      let f : r.shares ≡ filled (confirmations held) = rw e in
      omega (arith, f, confirmed_shares, s)

-- ---- at the close

module _ (day : Day) {close : ℕ} (c : close ≡ reference day) where
  pub at_close : close ≡ close_price day
  unfolding close_price
  at_close = c

  module _ (book : List Order) where
    abbrev matched : List Trade
    matched = matches close (keep (λ o. not (is_void close o)) book)

    pub room_at :
        (n : ℕ) {m : ℕ}
        → n + length (matches (close_price day) (keep (λ o. not (is_void (close_price day) o)) book)) ≤ m
        → n + length matched ≤ m
    room_at n h = rw at_close h

    pub fixed_room :
        {r : Dealt}
        → Lined book
        → Spacious day
        → r ≡ dealt matched
        → (day.fixed.shares + r.shares < 2 ^ 64) × (day.fixed.money + close * r.shares < 2 ^ 64)
    unfolding dealt
    fixed_room {r} l s e =
        let f : r.shares ≡ filled matched = rw e in
        let b : r.shares ≤ 4_096_000_000 = omega (arith, f, closing_shares close book l) in
        let m : close * r.shares ≤ 999_999 * r.shares = rw at_close (mul-le-mul_right r.shares s.close) in
        (omega (arith, b, s.shares), omega (arith, m, b, s.shares, s.money))
