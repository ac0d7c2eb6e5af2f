-- Declarations that have been tested: what a call may rely on.
use Rattle.std.specs.Prelude.{◌*◌, ◌≤◌, ◌<◌, ◌≡◌, true, false, List, length}
use Rattle.model.specs.declared.Declaration.{Declaration}
use Rattle.model.specs.declared.Day.{Day}
use Rattle.model.specs.Limits.{is_price}
use Rattle.model.specs.Blocks.{fits}
use Rattle.model.specs.Refusals.{unsound_blocks}
use Rattle.model.specs.Words.{Each}
use Rattle.declarations.specs.Declared.{Declared}

-- no two of them fit
abbrev pub NoneFit : List Declaration → Type 0
NoneFit held = Each (λ x. Each (λ y. fits x y ≡ false) held) held

pub record BlocksReady (d : Day) (held : List Declaration) : Type 0 where
  pub sound : unsound_blocks d held ≡ false
  pub declared : Declared held
  pub some : 1 ≤ length held
  -- the day's own figures
  pub close : is_price d.close ≡ true
  pub issued : d.blocks.issued ≤ 999_999
  pub bound : d.blocks.shares ≤ 50_000_000 * d.blocks.issued
  -- the numbers held are among those issued
  pub numbered : Each (λ x. x.number ≤ d.blocks.issued) held
  -- none is held before 9:15 or from 15:30 on, and from 15:00 on none is due to be confirmed
  pub early : d.time < 33_300 → Each (λ x. x.number ≡ 0) held
  pub late : 55_800 ≤ d.time → Each (λ x. x.number ≡ 0) held
  pub undue : 54_000 ≤ d.time → NoneFit held
