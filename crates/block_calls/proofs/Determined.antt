-- No two differing outcomes meet the promise of a declaration's call: its answer, and every place of lent memory.
use Prim.Native.Nat.{ℕ}
use mathlib.Core.Path.{◌≡◌, sym, ap, ◌∙◌}
use mathlib.Core.List.{List}
use Rattle.model.specs.declared.AskedBlock.{AskedBlock}
use Rattle.model.specs.declared.Day.{Day}
use Rattle.model.specs.declared.BlockAnswer.{BlockAnswer}
use Rattle.model.specs.BlockCalls.{BlockOutcome}
use Rattle.block_calls.specs.Promises.{BlockPromise}
use Rattle.model.specs.declared.Order.{Order}
use Rattle.model.specs.declared.Trade.{Trade}
use Rattle.model.specs.declared.Declaration.{Declaration}

-- ---- the call

pub block_determined :
    (d : Day) (a : AskedBlock) (main : List Order) (before : List Declaration) (lent : List Trade) (m n : List Declaration) (ts us : List Trade) (r s : BlockAnswer)
    → BlockPromise d main before lent a r m ts
    → BlockPromise d main before lent a s n us
    → (r ≡ s) × (m ≡ n) × (ts ≡ us)
block_determined d a main before lent m n ts us r s e f = (
  ap (λ (x : BlockOutcome). x.answer) (e ∙ sym f),
  ap (λ (x : BlockOutcome). x.held) (e ∙ sym f),
  ap (λ (x : BlockOutcome). x.trades) (e ∙ sym f),
)
