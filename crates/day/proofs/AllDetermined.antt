-- No two differing outcomes meet the promise of an opening or of a move over all lists: its answer, and every place of each list.
-- Assumes nothing.
use Prim.Native.Nat.{ℕ}
use mathlib.Core.Path.{◌≡◌, sym, ap, ◌∙◌}
use mathlib.Core.List.{List}
use Rattle.model.specs.declared.Day.{Day}
use Rattle.model.specs.declared.OpenReply.{OpenReply}
use Rattle.model.specs.declared.MoveAnswer.{MoveAnswer}
use Rattle.model.specs.Books.{Books}
use Rattle.model.specs.AllCalls.{OpenAllOutcome, ClockAllOutcome}
use Rattle.book.specs.Books.{books_of}
use Rattle.day.specs.Promises.{OpenAllPromise, ClockAllPromise}
use Rattle.model.specs.declared.Order.{Order}
use Rattle.model.specs.declared.Trade.{Trade}
use Rattle.model.specs.declared.Declaration.{Declaration}

module _ {main fixed : List Order} {blocks : List Declaration} {main' fixed' : List Order} {blocks' : List Declaration} (e : books_of main fixed blocks ≡ books_of main' fixed' blocks') where
  same_lists : (main ≡ main') × (fixed ≡ fixed') × (blocks ≡ blocks')
  same_lists = (
    ap (λ (s : Books). s.main) e,
    ap (λ (s : Books). s.fixed) e,
    ap (λ (s : Books). s.blocks) e,
  )

pub open_all_determined :
    (close mark : ℕ) (main fixed : List Order) (blocks : List Declaration) (main₁ fixed₁ : List Order) (blocks₁ : List Declaration) (main₂ fixed₂ : List Order) (blocks₂ : List Declaration) (r s : OpenReply)
    → OpenAllPromise main fixed blocks close mark r main₁ fixed₁ blocks₁
    → OpenAllPromise main fixed blocks close mark s main₂ fixed₂ blocks₂
    → (r ≡ s) × ((main₁ ≡ main₂) × (fixed₁ ≡ fixed₂) × (blocks₁ ≡ blocks₂))
open_all_determined close mark main fixed blocks main₁ fixed₁ blocks₁ main₂ fixed₂ blocks₂ r s e f =
    (ap (λ (o : OpenAllOutcome). o.reply) (e ∙ sym f), same_lists (ap (λ (o : OpenAllOutcome). o.books) (e ∙ sym f)))

pub clock_all_determined :
    (d : Day) (time : ℕ) (main fixed : List Order) (blocks : List Declaration) (lent : List Trade) (main₁ fixed₁ : List Order) (blocks₁ : List Declaration) (ts : List Trade) (main₂ fixed₂ : List Order) (blocks₂ : List Declaration) (us : List Trade) (r s : MoveAnswer)
    → ClockAllPromise d main fixed blocks lent time r main₁ fixed₁ blocks₁ ts
    → ClockAllPromise d main fixed blocks lent time s main₂ fixed₂ blocks₂ us
    → (r ≡ s) × ((main₁ ≡ main₂) × (fixed₁ ≡ fixed₂) × (blocks₁ ≡ blocks₂)) × (ts ≡ us)
clock_all_determined d time main fixed blocks lent main₁ fixed₁ blocks₁ ts main₂ fixed₂ blocks₂ us r s e f = (
  ap (λ (o : ClockAllOutcome). o.answer) (e ∙ sym f),
  same_lists (ap (λ (o : ClockAllOutcome). o.books) (e ∙ sym f)),
  ap (λ (o : ClockAllOutcome). o.trades) (e ∙ sym f),
)
