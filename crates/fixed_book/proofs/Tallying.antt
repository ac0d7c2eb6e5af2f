-- What matching at the close adds to the day's figures: all its trades are at the close. Assumes nothing.
use Prim.Native.Nat.{ℕ, ◌+◌, ◌*◌}
use mathlib.Core.Path.{◌≡◌}
use mathlib.Core.List.{List}
use Rattle.model.specs.declared.Order.{Order}
use Rattle.model.specs.declared.Day.{Day}
use Rattle.model.specs.Matching.{filled}
use Rattle.model.specs.Figures.{money, with_fixed_figures, tally_fixed}
use Rattle.model.specs.FixedBook.{arrivals, matches}
use Rattle.model.specs.Words.{Each}
use Rattle.pairing.proofs.Turns.{pairs}
use Rattle.pairing.proofs.Grants.{pairs_at}
use Rattle.pairing.proofs.Auctioned.{priced_money}

pub matched_at : (close : ℕ) (os : List Order) → Each (λ t. t.price ≡ close) (matches close os)
unfolding matches pairs
matched_at close os = pairs_at close (arrivals 0 os) (arrivals 1 os)

pub matched_money : (close : ℕ) (os : List Order) → money (matches close os) ≡ close * filled (matches close os)
matched_money close os = priced_money close (matches close os) (matched_at close os)

pub tallied :
    (d : Day) (close shares : ℕ) (os : List Order)
    → filled (matches close os) ≡ shares
    → with_fixed_figures
    (record {
      issued = d.fixed.issued;
      shares = d.fixed.shares + shares;
      money = d.fixed.money + close * shares;
    })
    d
    ≡ tally_fixed (matches close os) d
unfolding tally_fixed
tallied d close shares os e = rw (matched_money close os, e)
