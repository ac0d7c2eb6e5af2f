-- No two differing outcomes meet a call's promise: the number that it returns, and every byte of the slices that it may write.
-- Assumes nothing.
use Prim.Native.Nat.{ℕ}
use mathlib.Core.Path.{◌≡◌, sym, ap, ◌∙◌}
use mathlib.Core.List.{List}
use Rattle.model.specs.declared.Asked.{Asked}
use Rattle.wire.specs.Exports.{BookLeft, book_left, open_on, open_leaves, TradeLeft, trade_left, order_leaves, clock_leaves, cancel_leaves, ReportLeft, ListLeft}
use Rattle.wire.specs.Promises.{OpenPromise, ClockPromise, OrderPromise, CancelPromise, ReportPromise, ListPromise}

-- an opening and a cancel leave the same kind of outcome
changing_determined :
    (o : BookLeft) (r s : ℕ) (day₁ book₁ reply₁ day₂ book₂ reply₂ : List ℕ)
    → book_left r day₁ book₁ reply₁ ≡ o
    → book_left s day₂ book₂ reply₂ ≡ o
    → (r ≡ s) × (day₁ ≡ day₂) × (book₁ ≡ book₂) × (reply₁ ≡ reply₂)
changing_determined o r s day₁ book₁ reply₁ day₂ book₂ reply₂ e f =
    let g = e ∙ sym f in (
      ap (λ (x : BookLeft). x.returns) g,
      ap (λ (x : BookLeft). x.day) g,
      ap (λ (x : BookLeft). x.book) g,
      ap (λ (x : BookLeft). x.reply) g,
    )

-- `flemorix_open`
pub open_determined :
    (close mark : ℕ) (day book reply : List ℕ) (r s : ℕ) (day₁ book₁ reply₁ day₂ book₂ reply₂ : List ℕ)
    → OpenPromise day book reply close mark r day₁ book₁ reply₁
    → OpenPromise day book reply close mark s day₂ book₂ reply₂
    → (r ≡ s) × (day₁ ≡ day₂) × (book₁ ≡ book₂) × (reply₁ ≡ reply₂)
open_determined close mark day book reply = changing_determined (open_leaves (open_on close mark day book) day book reply)

-- an order and a move of the clock leave the same kind of outcome
trading_determined :
    (o : TradeLeft) (r s : ℕ) (day₁ book₁ trades₁ reply₁ day₂ book₂ trades₂ reply₂ : List ℕ)
    → trade_left r day₁ book₁ trades₁ reply₁ ≡ o
    → trade_left s day₂ book₂ trades₂ reply₂ ≡ o
    → (r ≡ s) × (day₁ ≡ day₂) × (book₁ ≡ book₂) × (trades₁ ≡ trades₂) × (reply₁ ≡ reply₂)
trading_determined o r s day₁ book₁ trades₁ reply₁ day₂ book₂ trades₂ reply₂ e f =
    let g = e ∙ sym f in (
      ap (λ (x : TradeLeft). x.returns) g,
      ap (λ (x : TradeLeft). x.day) g,
      ap (λ (x : TradeLeft). x.book) g,
      ap (λ (x : TradeLeft). x.trades) g,
      ap (λ (x : TradeLeft). x.reply) g,
    )

-- `flemorix_order`
pub order_determined :
    (a : Asked) (day book trades reply : List ℕ) (r s : ℕ) (day₁ book₁ trades₁ reply₁ day₂ book₂ trades₂ reply₂ : List ℕ)
    → OrderPromise day book trades reply a r day₁ book₁ trades₁ reply₁
    → OrderPromise day book trades reply a s day₂ book₂ trades₂ reply₂
    → (r ≡ s) × (day₁ ≡ day₂) × (book₁ ≡ book₂) × (trades₁ ≡ trades₂) × (reply₁ ≡ reply₂)
order_determined a day book trades reply = trading_determined (order_leaves a day book trades reply)

-- `flemorix_clock`
pub clock_determined :
    (time : ℕ) (day book trades reply : List ℕ) (r s : ℕ) (day₁ book₁ trades₁ reply₁ day₂ book₂ trades₂ reply₂ : List ℕ)
    → ClockPromise day book trades reply time r day₁ book₁ trades₁ reply₁
    → ClockPromise day book trades reply time s day₂ book₂ trades₂ reply₂
    → (r ≡ s) × (day₁ ≡ day₂) × (book₁ ≡ book₂) × (trades₁ ≡ trades₂) × (reply₁ ≡ reply₂)
clock_determined time day book trades reply = trading_determined (clock_leaves time day book trades reply)

-- `flemorix_cancel`
pub cancel_determined :
    (account number : ℕ) (day book reply : List ℕ) (r s : ℕ) (day₁ book₁ reply₁ day₂ book₂ reply₂ : List ℕ)
    → CancelPromise day book reply account number r day₁ book₁ reply₁
    → CancelPromise day book reply account number s day₂ book₂ reply₂
    → (r ≡ s) × (day₁ ≡ day₂) × (book₁ ≡ book₂) × (reply₁ ≡ reply₂)
cancel_determined account number day book reply = changing_determined (cancel_leaves account number day book reply)

-- `flemorix_report`
pub report_determined :
    (day book reply : List ℕ) (r s : ℕ) (reply₁ reply₂ : List ℕ)
    → ReportPromise day book reply r reply₁
    → ReportPromise day book reply s reply₂
    → (r ≡ s) × (reply₁ ≡ reply₂)
report_determined day book reply r s reply₁ reply₂ e f =
    let g = e ∙ sym f in (ap (λ (o : ReportLeft). o.returns) g, ap (λ (o : ReportLeft). o.reply) g)

-- `flemorix_list`
pub list_determined :
    (asked : ℕ) (day book prices reply : List ℕ) (r s : ℕ) (prices₁ reply₁ prices₂ reply₂ : List ℕ)
    → ListPromise day book prices reply asked r prices₁ reply₁
    → ListPromise day book prices reply asked s prices₂ reply₂
    → (r ≡ s) × (prices₁ ≡ prices₂) × (reply₁ ≡ reply₂)
list_determined asked day book prices reply r s prices₁ reply₁ prices₂ reply₂ e f =
    let g = e ∙ sym f in
    (ap (λ (o : ListLeft). o.returns) g, ap (λ (o : ListLeft). o.prices) g, ap (λ (o : ListLeft). o.reply) g)
