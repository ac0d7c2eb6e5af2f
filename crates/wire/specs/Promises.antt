-- What each call for C promises: of the bytes of every slice that it is lent and of the numbers that it is asked, the number that it
-- returns and the bytes of the slices that it may write are those that its definition leaves.
use Rattle.std.specs.Prelude.{ℕ, ◌≡◌, List}
use Rattle.model.specs.declared.Asked.{Asked}
use Rattle.wire.specs.Exports.{
  book_left,
  open_on,
  open_leaves,
  trade_left,
  order_leaves,
  clock_leaves,
  cancel_leaves,
  report_on,
  report_left,
  report_leaves,
  list_on,
  list_left,
  list_leaves,
}

abbrev pub Bytes : Type 0
Bytes = List ℕ

module _ (day book reply : Bytes) where
  abbrev pub OpenPromise : ℕ → ℕ → ℕ → Bytes → Bytes → Bytes → Type 0
  OpenPromise close mark r day' book' reply' =
      book_left r day' book' reply' ≡ open_leaves (open_on close mark day book) day book reply

  abbrev pub CancelPromise : ℕ → ℕ → ℕ → Bytes → Bytes → Bytes → Type 0
  CancelPromise account number r day' book' reply' =
      book_left r day' book' reply' ≡ cancel_leaves account number day book reply

  -- day and book are only read
  abbrev pub ReportPromise : ℕ → Bytes → Type 0
  ReportPromise r reply' = report_left r reply' ≡ report_leaves (report_on day book) reply

module _ (day book trades reply : Bytes) where
  abbrev pub ClockPromise : ℕ → ℕ → Bytes → Bytes → Bytes → Bytes → Type 0
  ClockPromise time r day' book' trades' reply' =
      trade_left r day' book' trades' reply' ≡ clock_leaves time day book trades reply

  abbrev pub OrderPromise : Asked → ℕ → Bytes → Bytes → Bytes → Bytes → Type 0
  OrderPromise a r day' book' trades' reply' =
      trade_left r day' book' trades' reply' ≡ order_leaves a day book trades reply

-- day and book are only read
abbrev pub ListPromise : Bytes → Bytes → Bytes → Bytes → ℕ → ℕ → Bytes → Bytes → Type 0
ListPromise day book prices reply asked r prices' reply' =
    list_left r prices' reply' ≡ list_leaves (list_on day asked book prices) prices reply
