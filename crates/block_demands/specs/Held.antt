-- What a sound day says of its declarations, as plain facts, and the bound that every day from an opening keeps beside it.
use Rattle.std.specs.Prelude.{ℕ, ◌+◌, ◌*◌, ◌≤◌, ◌<◌, ◌≡◌, ◌⊎◌, true, false, List}
use Rattle.model.specs.declared.Declaration.{Declaration}
use Rattle.model.specs.declared.Day.{Day}
use Rattle.model.specs.Lists.{total}
use Rattle.model.specs.Arrival.{in_arrival}
use Rattle.model.specs.Blocks.{undeclared, fits}
use Rattle.model.specs.Words.{Each, Price}
use Rattle.soundness.specs.SoundDay.{InBand}

-- at least 100,000 shares or at least 100,000,000 fen of money, and at most 100,000,000 shares
pub record Block (price quantity : ℕ) : Type 0 where
  pub large : (100_000 ≤ quantity) ⊎ (100_000_000 ≤ price * quantity)
  pub most : quantity ≤ 100_000_000

-- a declaration that is held: there are none on unlimited days, and its number is among those issued
pub record Declares (d : Day) (x : Declaration) : Type 0 where
  pub side : x.side ≤ 1
  pub account : x.account ≡ 0 → ⊥
  pub counter : x.counter ≡ 0 → ⊥
  pub limited : d.limited ≡ 1
  pub price : Price x.price
  pub size : Block x.price x.quantity
  pub band : InBand d.close x.price
  pub numbered : 1 ≤ x.number
  pub issued : x.number ≤ d.blocks.issued

abbrev pub Place : Day → Declaration → Type 0
Place d x = (x ≡ undeclared) ⊎ Declares d x

abbrev pub NoneHeld : List Declaration → Type 0
NoneHeld held = Each (λ x. x ≡ undeclared) held

-- no two of them fit
abbrev pub NoneFit : List Declaration → Type 0
NoneFit held = Each (λ x. Each (λ y. fits x y ≡ false) held) held

-- sound_blocks, clause by clause
pub record SoundHeld (d : Day) (held : List Declaration) : Type 0 where
  pub places : Each (Place d) held
  pub arrived : in_arrival (λ (x : Declaration). x.number) held ≡ true
  pub early : d.time < 33_300 → NoneHeld held
  pub late : 55_800 ≤ d.time → NoneHeld held
  pub confirmed : 54_000 ≤ d.time → NoneFit held

-- Each share confirmed was declared twice, out of at most 100,000,000 for each number. A sound day alone does not say this: it
-- bounds the confirmed shares by themselves, and then one confirmation more could pass the bound. With it no day does.
pub record Covered (d : Day) (held : List Declaration) : Type 0 where
  pub within : 2 * d.blocks.shares + total (λ (x : Declaration). x.quantity) held ≤ 100_000_000 * d.blocks.issued
