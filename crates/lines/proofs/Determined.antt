-- No two differing outcomes meet the promise of a line's answer: what is handed back, the output, and every place of lent
-- memory. Assumes nothing.
use Prim.Native.Nat.{ℕ}
use mathlib.Core.Path.{◌≡◌, refl, sym, ap, ◌∙◌}
use mathlib.Core.List.{List}
use mathlib.Core.Logic.{⊎_elim}
use mathlib.Core.Option.{Option, none, some}
use lib.ListN.{length}
use Rattle.model.specs.declared.Order.{Order}
use Rattle.model.specs.declared.Command.{Command}
use Rattle.model.specs.Lines.{Line, line_command}
use Rattle.model.specs.Session.{Desk}
use Rattle.model.proofs.Bools.{true_or_false}
use Rattle.desk.specs.declared.Desk as Desk
use Rattle.desk.specs.declared.Answered.{Answered}
use Rattle.std.specs.Prelude.{Option as Given, Some}
use Rattle.desk.specs.Desks.{desk_of, Answering}
use Rattle.lines.specs.OneLine.{fits, OneLine}
use Rattle.model.specs.declared.Trade.{Trade}

-- ---- what an open day's desk says, else what stood there before

abbrev as_held : Option Desk → Desk.Desk
as_held none = Desk.TheVariants.Closed
as_held (some s) = Desk.TheVariants.Open s.day

abbrev book_or : List Order → Option Desk → List Order
book_or book none = book
book_or book (some s) = s.book

by_desk :
    (book : List Order) {k : Option Desk} (desk : Desk.Desk) (rows : List Order)
    → desk_of desk rows ≡ k
    → (desk ≡ Desk.TheVariants.Closed → rows ≡ book)
    → (desk ≡ as_held k) × (rows ≡ book_or book k)
by_desk book Desk.TheVariants.Closed rows e h = (ap as_held e, h refl ∙ ap (book_or book) e)
by_desk book (Desk.TheVariants.Open d) rows e h = (ap as_held e, ap (book_or book) e)

-- ---- an answer, and all lent memory

same_answer : (r s : Answered) → r.desk ≡ s.desk → r.next ≡ s.next → r ≡ s
same_answer r s e f =
    ap (λ (x : Desk.Desk). record { desk = x; next = r.next }) e
    ∙ ap (λ (x : ℕ). record { desk = s.desk; next = x }) f

module _
    (c : Command) (desk : Desk.Desk) (rows : List Order) (trades : List Trade) (before : List ℕ) (at : ℕ)
    (m n : List Order) (ts us : List Trade) (after last : List ℕ) (r s : Answered)
    (a : Answering c desk rows trades before at m ts after r)
    (b : Answering c desk rows trades before at n us last s) where
  pub answer_determined : (r ≡ s) × (m ≡ n) × (ts ≡ us) × (after ≡ last)
  answer_determined =
      let x = by_desk rows r.desk m a.leaves.desk a.leaves.idle in
      let y = by_desk rows s.desk n b.leaves.desk b.leaves.idle in
      let g : r.next ≡ s.next = a.leaves.text.place ∙ sym b.leaves.text.place in (
        same_answer r s (x.0 ∙ sym y.0) g,
        x.1 ∙ sym y.1,
        a.list ∙ sym b.list,
        a.leaves.text.bytes ∙ sym b.leaves.text.bytes,
      )

-- ---- one line in any memory

pub line_determined :
    (l : Line) (desk : Desk.Desk) (rows : List Order) (trades : List Trade) (out : List ℕ) (m n : List Order) (ts us : List Trade) (after last : List ℕ) (r s : Given Answered)
    → OneLine l desk rows trades out m ts after r
    → OneLine l desk rows trades out n us last s
    → (r ≡ s) × (m ≡ n) × (ts ≡ us) × (after ≡ last)
line_determined l desk rows trades out m n ts us after last r s x y =
    ⊎_elim
    (λ t.
    let a = x.given t in
    let b = y.given t in
    let e = answer_determined (line_command l) desk rows trades out 0 m n ts us after last a.0 b.0 a.2 b.2 in
    (a.1 ∙ ap Some e.0 ∙ sym b.1, e.1, e.2, e.3))
    (λ t.
    let a = x.unfit t in
    let b = y.unfit t in
    (a.0 ∙ sym b.0, a.1 ∙ sym b.1, a.2 ∙ sym b.2, a.3 ∙ sym b.3))
    (true_or_false (fits (length rows) (length trades) (length out)))
