-- A call from C that returns another number than 0 leaves every byte of every slice but the reply: without room for a day nothing is
-- written, and else what is stored is what was read. Assumes nothing.
use Prim.Native.Nat.{ℕ}
use mathlib.Core.Path.{◌≡◌, refl, ap, ◌∙◌}
use mathlib.Core.Bool.{Bool, true, false}
use mathlib.Core.List.{List}
use borrow.Author.Tests.{eqb-true}
use Rattle.model.specs.declared.Order.{Order}
use Rattle.model.specs.declared.Asked.{Asked}
use Rattle.model.specs.declared.Trade.{Trade}
use Rattle.model.specs.declared.Day.{Day}
use Rattle.model.specs.declared.OpenReply as OpenReply
use Rattle.model.specs.declared.OrderReply as OrderReply
use Rattle.model.specs.declared.ClockReply as ClockReply
use Rattle.model.specs.declared.CancelReply as CancelReply
use Rattle.model.specs.declared.ListReply as ListReply
use Rattle.model.specs.Calls.{open_call, cancel_call, order_call}
use Rattle.model.specs.ClockCall.{clock_call}
use Rattle.model.specs.AuctionCalls.{list_call}
use Rattle.model.specs.Replies.{open_numbers, order_numbers, cancel_numbers, clock_numbers, list_numbers}
use Rattle.demands.proofs.Refusals.{untouched}
use Rattle.records.specs.Layout.{bytes, day_in, day_bytes, book_in, book_bytes, trades_in, trades_bytes, prices_in, over, returned}
use Rattle.records.proofs.Back.{day_kept, book_kept, trades_kept, prices_kept}
use Rattle.wire.specs.Exports.{has_day, BookLeft, open_on, day_left, open_leaves, TradeLeft, trade_leaves, order_leaves, clock_leaves, cancel_leaves, list_on, ListLeft, list_leaves}
use Rattle.wire.specs.Promises.{OpenPromise, ClockPromise, OrderPromise, CancelPromise, ListPromise}
use Rattle.chains.specs.Bytes.{Slice}

-- ---- a reply whose first number is not 0 is a refusal

open_refusal_lem : (r : OpenReply.OpenReply) → (returned (open_numbers r) ≡ 0 → ⊥) → (n : ℕ) × (r ≡ OpenReply.TheVariants.Refused n)
unfolding open_numbers
open_refusal_lem (OpenReply.TheVariants.Refused n) h = (n, refl)
open_refusal_lem (OpenReply.TheVariants.Opened d) h = absurd (h refl)

clock_refusal : (r : ClockReply.ClockReply) → (returned (clock_numbers r) ≡ 0 → ⊥) → (n : ℕ) × (r ≡ ClockReply.TheVariants.Refused n)
unfolding clock_numbers
clock_refusal (ClockReply.TheVariants.Refused n) h = (n, refl)
clock_refusal (ClockReply.TheVariants.Moved phase made) h = absurd (h refl)

order_refusal : (r : OrderReply.OrderReply) → (returned (order_numbers r) ≡ 0 → ⊥) → (n : ℕ) × (r ≡ OrderReply.TheVariants.Refused n)
unfolding order_numbers
order_refusal (OrderReply.TheVariants.Refused n) h = (n, refl)
order_refusal (OrderReply.TheVariants.Accepted e) h = absurd (h refl)

cancel_refusal : (r : CancelReply.CancelReply) → (returned (cancel_numbers r) ≡ 0 → ⊥) → (n : ℕ) × (r ≡ CancelReply.TheVariants.Refused n)
unfolding cancel_numbers
cancel_refusal (CancelReply.TheVariants.Refused n) h = (n, refl)
cancel_refusal (CancelReply.TheVariants.Withdrawn q) h = absurd (h refl)

list_refusal : (r : ListReply.ListReply) → (returned (list_numbers r) ≡ 0 → ⊥) → (n : ℕ) × (r ≡ ListReply.TheVariants.Refused n)
unfolding list_numbers
list_refusal (ListReply.TheVariants.Refused n) h = (n, refl)
list_refusal (ListReply.TheVariants.Listed count next) h = absurd (h refl)

-- ---- an order, and a move of the clock

module _ (day book trades : Slice) (reply : List ℕ) where
  abbrev Stay : TradeLeft → Type 0
  Stay x = (x.day ≡ day.bytes) × (x.book ≡ book.bytes) × (x.trades ≡ trades.bytes)

  -- what was read is stored
  read_stored :
      (d : Day) (os : List Order) (ts : List Trade)
      → has_day day.bytes ≡ true
      → d ≡ day_in day.bytes
      → os ≡ book_in book.bytes
      → ts ≡ trades_in trades.bytes
      → (over (day_bytes d) day.bytes ≡ day.bytes)
      × (over (book_bytes os) book.bytes ≡ book.bytes)
      × (over (trades_bytes ts) trades.bytes ≡ trades.bytes)
  read_stored d os ts h e f g = (
    rw e (day_kept day.bytes (eqb-true _ _ h) day.are),
    rw f (book_kept book.bytes book.are),
    rw g (trades_kept trades.bytes trades.are),
  )

  clock_by_lem :
      (t : ℕ) (b : Bool) → has_day day.bytes ≡ b
      → ((clock_leaves t day.bytes book.bytes trades.bytes reply).returns ≡ 0 → ⊥)
      → Stay (clock_leaves t day.bytes book.bytes trades.bytes reply)
  unfolding clock_leaves trade_leaves
  clock_by_lem t false h n = rw h (refl, refl, refl)
  clock_by_lem t true h n =
      let d = day_in day.bytes in
      let os = book_in book.bytes in
      let ts = trades_in trades.bytes in
      let o = clock_call d t os ts in
      let m : returned (clock_numbers o.answer.reply) ≡ 0 → ⊥ = rw h at n in
      let r = clock_refusal o.answer.reply m in
      let u = untouched.clock d t os ts r.0 r.1 in
      rw h (read_stored o.answer.day o.book o.trades h u.0 u.2 u.3)

  order_by_lem :
      (a : Asked) (b : Bool) → has_day day.bytes ≡ b
      → ((order_leaves a day.bytes book.bytes trades.bytes reply).returns ≡ 0 → ⊥)
      → Stay (order_leaves a day.bytes book.bytes trades.bytes reply)
  unfolding order_leaves trade_leaves
  order_by_lem a false h n = rw h (refl, refl, refl)
  order_by_lem a true h n =
      let d = day_in day.bytes in
      let os = book_in book.bytes in
      let ts = trades_in trades.bytes in
      let o = order_call d a os ts in
      let m : returned (order_numbers o.answer.reply) ≡ 0 → ⊥ = rw h at n in
      let r = order_refusal o.answer.reply m in
      let u = untouched.order d a os ts r.0 r.1 in
      rw h (read_stored o.answer.day o.book o.trades h u.0 u.2 u.3)

  module _ (day' book' trades' reply' : List ℕ) (r : ℕ) where
    pub clock_refused_lem :
        (t : ℕ)
        → ClockPromise day.bytes book.bytes trades.bytes reply t r day' book' trades' reply'
        → (r ≡ 0 → ⊥)
        → (day' ≡ day.bytes) × (book' ≡ book.bytes) × (trades' ≡ trades.bytes)
    clock_refused_lem t p n =
        let k = clock_by_lem t (has_day day.bytes) refl (λ z. n (ap (λ (x : TradeLeft). x.returns) p ∙ z)) in (
          ap (λ (x : TradeLeft). x.day) p ∙ k.0,
          ap (λ (x : TradeLeft). x.book) p ∙ k.1,
          ap (λ (x : TradeLeft). x.trades) p ∙ k.2,
        )

    pub order_refused_lem :
        (a : Asked)
        → OrderPromise day.bytes book.bytes trades.bytes reply a r day' book' trades' reply'
        → (r ≡ 0 → ⊥)
        → (day' ≡ day.bytes) × (book' ≡ book.bytes) × (trades' ≡ trades.bytes)
    order_refused_lem a p n =
        let k = order_by_lem a (has_day day.bytes) refl (λ z. n (ap (λ (x : TradeLeft). x.returns) p ∙ z)) in (
          ap (λ (x : TradeLeft). x.day) p ∙ k.0,
          ap (λ (x : TradeLeft). x.book) p ∙ k.1,
          ap (λ (x : TradeLeft). x.trades) p ∙ k.2,
        )

-- ---- an opening, a cancel and a price list

module _ (day book : Slice) where
  open_book :
      (close mark : ℕ) (b : Bool) → has_day day.bytes ≡ b
      → (returned (open_numbers (open_on close mark day.bytes book.bytes).reply) ≡ 0 → ⊥)
      → (open_on close mark day.bytes book.bytes).book ≡ book_in book.bytes
  unfolding open_on
  open_book close mark false h n = rw h refl
  open_book close mark true h n =
      let m : returned (open_numbers (open_call close mark (book_in book.bytes)).reply) ≡ 0 → ⊥ = rw h at n in
      let r = open_refusal_lem (open_call close mark (book_in book.bytes)).reply m in
      rw h (untouched.opening close mark r.0 (book_in book.bytes) r.1)

  cancel_by :
      (account number : ℕ) (reply : List ℕ) (b : Bool) → has_day day.bytes ≡ b
      → let x : BookLeft = cancel_leaves account number day.bytes book.bytes reply in
      (x.returns ≡ 0 → ⊥) → (x.day ≡ day.bytes) × (x.book ≡ book.bytes)
  unfolding cancel_leaves
  cancel_by account number reply false h n = rw h (refl, refl)
  cancel_by account number reply true h n =
      let o = cancel_call (day_in day.bytes) account number (book_in book.bytes) in
      let m : returned (cancel_numbers o.answer.reply) ≡ 0 → ⊥ = rw h at n in
      let r = cancel_refusal o.answer.reply m in
      let k = untouched.cancel (day_in day.bytes) account number r.0 (book_in book.bytes) r.1 in
      let d : over (day_bytes o.answer.day) day.bytes ≡ day.bytes = rw k.0 (day_kept day.bytes (eqb-true _ _ h) day.are) in
      let b : over (book_bytes o.book) book.bytes ≡ book.bytes = rw k.1 (book_kept book.bytes book.are) in
      rw h (d, b)

  list_prices_lem :
      (asked : ℕ) (prices : List ℕ) (b : Bool) → has_day day.bytes ≡ b
      → (returned (list_numbers (list_on day.bytes asked book.bytes prices).reply) ≡ 0 → ⊥)
      → (list_on day.bytes asked book.bytes prices).prices ≡ prices_in prices
  unfolding list_on
  list_prices_lem asked prices false h n = rw h refl
  list_prices_lem asked prices true h n =
      let o = list_call (day_in day.bytes) asked (book_in book.bytes) (prices_in prices) in
      let m : returned (list_numbers o.reply) ≡ 0 → ⊥ = rw h at n in
      let r = list_refusal o.reply m in
      rw h (untouched.list (day_in day.bytes) asked r.0 (book_in book.bytes) (prices_in prices) r.1)

  pub open_refused :
      (reply day' book' reply' : List ℕ) (close mark r : ℕ)
      → OpenPromise day.bytes book.bytes reply close mark r day' book' reply'
      → (r ≡ 0 → ⊥)
      → (day' ≡ day.bytes) × (book' ≡ book.bytes)
  unfolding open_leaves day_left
  open_refused reply day' book' reply' close mark r p n =
      let o = open_on close mark day.bytes book.bytes in
      let m : returned (open_numbers o.reply) ≡ 0 → ⊥ = λ z. n (ap (λ (x : BookLeft). x.returns) p ∙ z) in
      let k = open_book close mark (has_day day.bytes) refl m in
      let e : day_left o.reply day.bytes ≡ day.bytes = rw (open_refusal_lem o.reply m).1 refl in (
        ap (λ (x : BookLeft). x.day) p ∙ e,
        ap (λ (x : BookLeft). x.book) p ∙ rw k (book_kept book.bytes book.are),
      )

  pub cancel_refused_lem :
      (reply day' book' reply' : List ℕ) (account number r : ℕ)
      → CancelPromise day.bytes book.bytes reply account number r day' book' reply'
      → (r ≡ 0 → ⊥)
      → (day' ≡ day.bytes) × (book' ≡ book.bytes)
  cancel_refused_lem reply day' book' reply' account number r p n =
      let k = cancel_by account number reply (has_day day.bytes) refl (λ z. n (ap (λ (x : BookLeft). x.returns) p ∙ z)) in
      (ap (λ (x : BookLeft). x.day) p ∙ k.0, ap (λ (x : BookLeft). x.book) p ∙ k.1)

  pub list_refused :
      (prices : Slice) (reply prices' reply' : List ℕ) (asked r : ℕ)
      → ListPromise day.bytes book.bytes prices.bytes reply asked r prices' reply'
      → (r ≡ 0 → ⊥)
      → prices' ≡ prices.bytes
  unfolding list_leaves
  list_refused prices reply prices' reply' asked r p n =
      let k = list_prices_lem asked prices.bytes (has_day day.bytes) refl (λ z. n (ap (λ (x : ListLeft). x.returns) p ∙ z)) in
      ap (λ (x : ListLeft). x.prices) p ∙ rw k (prices_kept prices.bytes prices.are)
