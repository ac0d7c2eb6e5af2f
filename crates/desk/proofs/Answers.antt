-- What each call left and what was put of it is the definitions' answer to the line that asked for it. Assumes nothing.
use Prim.Native.Nat.{ℕ, ◌+◌, ◌≤◌}
use mathlib.Core.Path.{◌≡◌, refl, sym, ap, subst, ◌∙◌}
use mathlib.Core.Bool.{Bool, true, false, cond}
use mathlib.Core.List.{List}
use mathlib.Core.Option.{Option, none, some}
use native.Mathlib.Omega.{arith}
use lib.Dec.{eqb}
use lib.ListN.{length, take, length-append, length-map}
use Rattle.model.specs.declared.Order.{Order}
use Rattle.model.specs.declared.Asked.{Asked}
use Rattle.model.specs.declared.Trade.{Trade}
use Rattle.model.specs.declared.Day.{Day}
use Rattle.model.specs.declared.Command.{Command}
use Rattle.model.specs.declared.Command.TheVariants.{Malformed, Asks}
use Rattle.model.specs.declared.Event as Event
use Rattle.model.specs.declared.OpenReply as OpenReply
use Rattle.model.specs.declared.OrderAnswer.{OrderAnswer}
use Rattle.model.specs.declared.ClockAnswer.{ClockAnswer}
use Rattle.model.specs.declared.CancelAnswer.{CancelAnswer}
use Rattle.model.specs.Figures.{fresh_day}
use Rattle.model.specs.Refusals.{unsound, first_of}
use Rattle.model.specs.Calls.{Outcome, OpenOutcome, written, open_rules, cleared, open_call, entered, order_rules, order_call, cancel_call}
use Rattle.model.specs.ClockCall.{clock_rules, clock_call}
use Rattle.model.specs.Lines.{refusal_line, trade_lines, open_line, clock_line, order_line, cancel_line}
use Rattle.model.specs.Session as Session
use Rattle.model.specs.Session.{Desk, opened, open_answer, cancel_answer, on_desk, event_answer, answer}
use Rattle.book.specs.Promises.{open_left, call_left, cancel_left}
use Rattle.printing.specs.Printing.{Wrote}
use Rattle.printing.proofs.Printed.{and_then, line_within}
use Rattle.printing.proofs.Replied.{refusal_fits, open_fits, clock_fits, order_fits, cancel_fits}
use Rattle.desk.proofs.Lent.{answered, order_text, clock_text, open_answer_lem, order_answer_lem, clock_answer_lem}
use Rattle.desk.specs.declared.Desk as Desk
use Rattle.desk.specs.declared.Answered.{Answered}
use Rattle.desk.specs.Desks.{desk_of, not_sound, asks_unsound, trades_left, Leaves, Answering}

-- ---- the trades that were made stand in the list

written_holds : (ts lent : List Trade) → length ts ≤ length (written ts lent)
unfolding written
written_holds ts lent = rw length-append (omega arith)

-- where either case of a choice holds its trades, the choice does
either_holds :
    {A : Type 0} (made : A → ℕ) (t : Bool) (o p : Outcome A)
    → made o.answer ≤ length o.trades
    → made p.answer ≤ length p.trades
    → made (cond t o p).answer ≤ length (cond t o p).trades
either_holds made true o p x y = x
either_holds made false o p x y = y

order_holds :
    (d : Day) (a : Asked) (book : List Order) (lent : List Trade)
    → (order_call d a book lent).answer.made ≤ length (order_call d a book lent).trades
unfolding order_call entered
order_holds d a book lent =
    either_holds (λ r. r.made) (eqb (first_of (order_rules d a book (length lent))) 0) _ _ (written_holds _ lent) (omega arith)

clock_holds :
    (d : Day) (t : ℕ) (book : List Order) (lent : List Trade)
    → (clock_call d t book lent).answer.made ≤ length (clock_call d t book lent).trades
unfolding clock_call
clock_holds d t book lent =
    either_holds (λ r. r.made) (eqb (first_of (clock_rules d t book (length lent))) 0) _ _ (written_holds _ lent) (omega arith)

-- and so they do in the rows of memory
made_within :
    {A : Type 0} (made : A → ℕ) (o : Outcome A) (r : A) (rows : List Order) (trades : List Trade)
    → made o.answer ≤ length o.trades
    → call_left r rows trades ≡ o
    → made r ≤ length trades
made_within {A} made o r rows trades h e =
    let n : length trades ≡ length trades = refl in
    let k : made r ≤ length trades = subst (λ (x : Outcome A). made x.answer ≤ length x.trades) (sym e) h in
    omega arith

module _ (d : Day) (rows : List Order) (trades : List Trade) (rows' : List Order) (trades' : List Trade) where
  pub order_made :
      (a : Asked) {r : OrderAnswer} → call_left r rows' trades' ≡ order_call d a rows trades → r.made ≤ length trades'
  order_made a {r} = made_within (λ x. x.made) _ r rows' trades' (order_holds d a rows trades)

  pub clock_made :
      (t : ℕ) {r : ClockAnswer} → call_left r rows' trades' ≡ clock_call d t rows trades → r.made ≤ length trades'
  clock_made t {r} = made_within (λ x. x.made) _ r rows' trades' (clock_holds d t rows trades)

-- ---- answers

-- a refused opening leaves the book
open_stays :
    (close mark : ℕ) (book : List Order) (n : ℕ)
    → (open_call close mark book).reply ≡ OpenReply.TheVariants.Refused n
    → (open_call close mark book).book ≡ book
unfolding open_call
open_stays close mark book n = go (eqb (first_of (open_rules close mark book)) 0)
  where
    go :
        (t : Bool)
        → let o : OpenOutcome = cond t (record { reply = OpenReply.TheVariants.Opened (fresh_day close mark); book = cleared book })
        (record { reply = OpenReply.TheVariants.Refused (first_of (open_rules close mark book)); book = book }) in
        o.reply ≡ OpenReply.TheVariants.Refused n
        → o.book ≡ book
    go true e = let z : ◌≡◌ {A = ℕ} 0 1 = cc in absurd (omega arith)
    go false e = refl

-- where a day is open, nothing is said of a closed desk
pub is_open : {A : Type 0} {k : Desk.Desk} {d : Day} → k ≡ Desk.TheVariants.Open d → k ≡ Desk.TheVariants.Closed → A
is_open e f = let z : ◌≡◌ {A = ℕ} 0 1 = cc in absurd (omega arith)

-- the desk depends on the rows by the book alone
same_desk : (k : Desk.Desk) (rows rows' : List Order) → rows' ≡ rows → desk_of k rows' ≡ desk_of k rows
same_desk Desk.TheVariants.Closed rows rows' e = refl
same_desk (Desk.TheVariants.Open d) rows rows' e = ap (λ (b : List Order). some (record { day = d; book = b })) e

-- what is asked of the day, where 15 is not due
pub asked_sound : (k : Option Desk) {c x : Command} → c ≡ x → asks_unsound c k ≡ false → asks_unsound x k ≡ false
asked_sound k e s = subst (λ (y : Command). asks_unsound y k ≡ false) e s

-- where a day is open
pub on_day :
    (k : Desk.Desk) (rows : List Order) {d : Day}
    → k ≡ Desk.TheVariants.Open d
    → not_sound (desk_of k rows) ≡ false
    → unsound d rows ≡ false
on_day k rows e s = subst (λ (x : Desk.Desk). not_sound (desk_of x rows) ≡ false) e s

-- where no day is open, no line touches the trade list
pub no_trades_lem :
    (k : Desk.Desk) (rows : List Order) (e : Event.Event) (lent : List Trade)
    → k ≡ Desk.TheVariants.Closed
    → lent ≡ trades_left (Asks e) (desk_of k rows) lent
no_trades_lem k rows (Event.TheVariants.Open close mark) lent e = refl
no_trades_lem k rows (Event.TheVariants.Clock t) lent e = rw e
no_trades_lem k rows (Event.TheVariants.Order a) lent e = rw e
no_trades_lem k rows (Event.TheVariants.Cancel account number) lent e = refl

module _ {before after : List ℕ} {at : ℕ} where
  -- an answer's text and desk, as they are known
  pub leaves :
      {a : Session.Answered} {text : List ℕ} {desk : Option Desk} {rows rows' : List Order} {r : Answered}
      → a ≡ answered text desk
      → Wrote before at text after r.next
      → r.next ≤ length after
      → desk_of r.desk rows' ≡ desk
      → (r.desk ≡ Desk.TheVariants.Closed → rows' ≡ rows)
      → Leaves a rows before at rows' after r
  leaves {rows = rows} {rows'} {r} e w h f g =
      subst (λ (x : Session.Answered). Leaves x rows before at rows' after r) (sym e) (record { text = w; fits = h; desk = f; idle = g })

  -- the line asks for what it was taken to ask for
  pub as_asked :
      {c x : Command} {k : Desk.Desk} {rows : List Order} {trades : List Trade} {rows' : List Order} {trades' : List Trade} {r : Answered}
      → c ≡ x
      → Answering x k rows trades before at rows' trades' after r
      → Answering c k rows trades before at rows' trades' after r
  as_asked {k = k} {rows} {trades} {rows'} {trades'} {r} e l =
      subst (λ (y : Command). Answering y k rows trades before at rows' trades' after r) (sym e) l

  module _ (k : Desk.Desk) (rows : List Order) where
    -- 17: no day opened yet
    pub no_day_lem :
        (f : Desk → Session.Answered) (r : Answered)
        → at + 110 ≤ length before
        → k ≡ Desk.TheVariants.Closed
        → r.desk ≡ k
        → Wrote before at (refusal_line 17) after r.next
        → Leaves (on_desk f (desk_of k rows)) rows before at rows after r
    unfolding on_desk
    no_day_lem f r h e g w = leaves {desk = none} (rw e) w (line_within w (refusal_fits 17) h) (rw (g, e)) (λ _. refl)

    -- 16: the desk stays
    pub no_line :
        (r : Answered)
        → at + 110 ≤ length before
        → r.desk ≡ k
        → Wrote before at (refusal_line 16) after r.next
        → Leaves (answer Malformed (desk_of k rows)) rows before at rows after r
    unfolding answer
    no_line r h f w = leaves refl w (line_within w (refusal_fits 16) h) (rw f) (λ _. refl)

    module _ (rows' : List Order) (next : ℕ) where
      module _
          (close mark : ℕ) (reply : OpenReply.OpenReply) (n : length rows ≡ 1_024)
          (e : open_left reply rows' ≡ open_call close mark rows) (w : Wrote before at (open_line reply) after next)
          (h : at + 110 ≤ length before) where
        opening : open_answer close mark (desk_of k rows) ≡ answered (open_line reply) (opened (open_left reply rows') (desk_of k rows))
        opening =
            open_answer_lem close mark rows (n) (desk_of k rows)
            ∙ sym (ap (λ (o : OpenOutcome). answered (open_line o.reply) (opened o (desk_of k rows))) e)

        pub opening_made :
            (fresh : Day)
            → reply ≡ OpenReply.TheVariants.Opened fresh
            → Leaves (open_answer close mark (desk_of k rows)) rows before at rows' after (record { desk = Desk.TheVariants.Open fresh; next = next })
        unfolding opened
        opening_made fresh f = leaves opening w (line_within w (open_fits reply) h) (rw f) (is_open refl)

        pub opening_refused :
            (m : ℕ)
            → reply ≡ OpenReply.TheVariants.Refused m
            → Leaves (open_answer close mark (desk_of k rows)) rows before at rows' after (record { desk = k; next = next })
        unfolding opened
        opening_refused m f =
            let g : (open_call close mark rows).reply ≡ OpenReply.TheVariants.Refused m = sym (ap (λ (o : OpenOutcome). o.reply) e) ∙ f in
            let b : rows' ≡ rows = ap (λ (o : OpenOutcome). o.book) e ∙ open_stays close mark rows m g in
            leaves opening w (line_within w (open_fits reply) h) (rw f (same_desk k rows rows' b)) (λ _. b)

      module _ {d : Day} (o : k ≡ Desk.TheVariants.Open d) where
        pub cancel_answered :
            (account number : ℕ) (r : CancelAnswer)
            → at + 110 ≤ length before
            → cancel_left r rows' ≡ cancel_call d account number rows
            → Wrote before at (cancel_line number r.reply) after next
            → Leaves (on_desk (cancel_answer account number) (desk_of k rows)) rows before at rows' after (record { desk = Desk.TheVariants.Open r.day; next = next })
        unfolding on_desk cancel_answer
        cancel_answered account number r h e w =
            leaves (rw (o, ← e)) w (line_within w (cancel_fits number r.reply) h) refl (is_open refl)

        module _
            (trades trades' : List Trade) (n : length trades ≡ 2_048)
            {middle : List ℕ} {p : ℕ} (h : p + 110 ≤ length middle) where
          pub order_answered :
              (a : Asked) (r : OrderAnswer)
              → call_left r rows' trades' ≡ order_call d a rows trades
              → Wrote before at (trade_lines (take r.made trades')) middle p
              → Wrote middle p (order_line r.reply) after next
              → Answering (Asks (Event.TheVariants.Order a)) k rows trades before at rows' trades' after (record { desk = Desk.TheVariants.Open r.day; next = next })
          unfolding answer event_answer on_desk
          order_answered a r e v w = record {
            leaves =
                leaves
                (rw o (order_answer_lem trades (n) (record { day = d; book = rows }) a
                ∙ sym (ap (λ (x : Outcome OrderAnswer). order_text (take x.answer.made x.trades) x.answer x.book) e)))
                (and_then v w) (line_within w (order_fits r.reply) h) refl (is_open refl);
            list = rw o (ap (λ (x : Outcome OrderAnswer). x.trades) e);
          }

          pub clock_answered :
              (t : ℕ) (r : ClockAnswer)
              → call_left r rows' trades' ≡ clock_call d t rows trades
              → Wrote before at (trade_lines (take r.made trades')) middle p
              → Wrote middle p (clock_line r.reply) after next
              → Answering (Asks (Event.TheVariants.Clock t)) k rows trades before at rows' trades' after (record { desk = Desk.TheVariants.Open r.day; next = next })
          unfolding answer event_answer on_desk
          clock_answered t r e v w = record {
            leaves =
                leaves
                (rw o (clock_answer_lem trades (n) (record { day = d; book = rows }) t
                ∙ sym (ap (λ (x : Outcome ClockAnswer). clock_text (take x.answer.made x.trades) x.answer x.book) e)))
                (and_then v w) (line_within w (clock_fits r.reply) h) refl (is_open refl);
            list = rw o (ap (λ (x : Outcome ClockAnswer). x.trades) e);
          }
