-- What trades fill of an order as a buyer and as a seller.
use Rattle.std.specs.Prelude.{ℕ, List, eqb}
use Rattle.model.specs.declared.Trade.{Trade}
use Rattle.model.specs.Lists.{keep}
use Rattle.model.specs.Matching.{filled}

unfoldable pub bought : ℕ → List Trade → ℕ
bought n ts = filled (keep (λ t. eqb t.buyer n) ts)

unfoldable pub sold : ℕ → List Trade → ℕ
sold n ts = filled (keep (λ t. eqb t.seller n) ts)
