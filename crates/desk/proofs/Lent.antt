-- The program lends the same places and the same trade list at every call: an answer depends on their lengths alone, so it
-- is the definitions', which lend fresh ones. Assumes nothing.
use Prim.Native.Nat.{ℕ}
use mathlib.Core.Path.{◌≡◌, refl, sym, ap, subst, ◌∙◌}
use mathlib.Core.Bool.{Bool, true, false, cond}
use mathlib.Core.List.{List, [], ◌∷◌, ◌++◌}
use mathlib.Core.Option.{Option, some}
use native.Mathlib.Omega.{arith}
use lib.Dec.{eqb}
use lib.ListN.{length, take, drop, length-replicate}
use lib.Seq.{take-append_seam}
use Rattle.model.specs.declared.Order.{Order}
use Rattle.model.specs.declared.Asked.{Asked}
use Rattle.model.specs.declared.Trade.{Trade}
use Rattle.model.specs.declared.Day.{Day}
use Rattle.model.specs.declared.OrderAnswer.{OrderAnswer}
use Rattle.model.specs.declared.ClockAnswer.{ClockAnswer}
use Rattle.model.specs.declared.OpenReply as OpenReply
use Rattle.model.specs.declared.OrderReply as OrderReply
use Rattle.model.specs.declared.ClockReply as ClockReply
use Rattle.model.specs.Book.{free}
use Rattle.model.specs.Halts.{phase_now}
use Rattle.model.specs.Figures.{at, fresh_day}
use Rattle.model.specs.Entry.{entry_trades}
use Rattle.model.specs.Sound.{has_places}
use Rattle.model.specs.Screen.{update}
use Rattle.model.specs.Refusals.{Rule, first_of}
use Rattle.model.specs.Calls.{Outcome, OpenOutcome, written, open_rules, cleared, open_call, order_rules, entered, order_call}
use Rattle.model.specs.ClockCall.{moved, clock_rules, clock_call}
use Rattle.model.specs.Lines.{trade_lines, open_line, clock_line, order_line}
use Rattle.model.specs.Session.{Desk, Answered, lent_places, lent_trades, opened, open_answer, clock_answer, order_answer}

-- ---- the trade list

-- two outcomes that differ at most after the trades that were made
pub record Alike {A : Type 0} (made : A → ℕ) (o p : Outcome A) : Type 0 where
  pub answer : o.answer ≡ p.answer
  pub book : o.book ≡ p.book
  pub trades : take (made o.answer) o.trades ≡ take (made p.answer) p.trades

written_front : (ts lent : List Trade) → take (length ts) (written ts lent) ≡ ts
unfolding written
written_front ts lent = take-append_seam ts (drop (length ts) lent)

either :
    {A : Type 0} (made : A → ℕ) (t : Bool) (o o' p p' : Outcome A)
    → Alike made o o'
    → Alike made p p'
    → Alike made (cond t o p) (cond t o' p')
either made true o o' p p' x y = x
either made false o o' p p' x y = y

-- an order's outcome, where n is the number of its refusal, or 0
abbrev order_by : Day → Asked → List Order → ℕ → List Trade → Outcome OrderAnswer
order_by d a book n lent =
    cond (eqb n 0) (entered d a book lent)
    (record { answer = record { reply = OrderReply.TheVariants.Refused n; made = 0; day = d }; book = book; trades = lent })

-- and a clock call's
abbrev clock_by : Day → ℕ → List Order → ℕ → List Trade → Outcome ClockAnswer
clock_by d t book n lent =
    cond (eqb n 0)
    (record {
      answer =
          record {
            reply = ClockReply.TheVariants.Moved (phase_now (at t (moved d t book).day)) (length (moved d t book).trades);
            made = length (moved d t book).trades;
            day = update (moved d t book).trades (moved d t book).book (at t (moved d t book).day);
          };
      book = (moved d t book).book;
      trades = written (moved d t book).trades lent;
    })
    (record { answer = record { reply = ClockReply.TheVariants.Refused n; made = 0; day = d }; book = book; trades = lent })

module _ (lent lent' : List Trade) (e : length lent ≡ length lent') where
  pub order_alike :
      (d : Day) (a : Asked) (book : List Order)
      → Alike (λ r. r.made) (order_call d a book lent) (order_call d a book lent')
  unfolding order_call entered
  order_alike d a book =
      let ts : List Trade = entry_trades d a book in
      subst (λ (k : ℕ). Alike (λ r. r.made) (order_call d a book lent) (order_by d a book (first_of (order_rules d a book k)) lent')) e
      (either (λ r. r.made) (eqb (first_of (order_rules d a book (length lent))) 0) _ _ _ _
      (record { answer = refl; book = refl; trades = written_front ts lent ∙ sym (written_front ts lent') })
      (record { answer = refl; book = refl; trades = refl }))

  pub clock_alike :
      (d : Day) (t : ℕ) (book : List Order)
      → Alike (λ r. r.made) (clock_call d t book lent) (clock_call d t book lent')
  unfolding clock_call
  clock_alike d t book =
      let ts : List Trade = (moved d t book).trades in
      subst (λ (k : ℕ). Alike (λ r. r.made) (clock_call d t book lent) (clock_by d t book (first_of (clock_rules d t book k)) lent')) e
      (either (λ r. r.made) (eqb (first_of (clock_rules d t book (length lent))) 0) _ _ _ _
      (record { answer = refl; book = refl; trades = written_front ts lent ∙ sym (written_front ts lent') })
      (record { answer = refl; book = refl; trades = refl }))

-- ---- the places

cleared_by_length : (book book' : List Order) → length book ≡ length book' → cleared book ≡ cleared book'
unfolding cleared
cleared_by_length [] [] e = refl
cleared_by_length [] (o ∷ book') e = absurd (omega arith)
cleared_by_length (o ∷ book) [] e = absurd (omega arith)
cleared_by_length (o ∷ book) (p ∷ book') e =
    ap (λ (b : List Order). free ∷ b) (cleared_by_length book book' (omega arith))

-- two openings with the same reply, and the same desk then
pub record OpenAlike (o p : OpenOutcome) : Type 0 where
  pub reply : o.reply ≡ p.reply
  pub desk : (desk : Option Desk) → opened o desk ≡ opened p desk

abbrev open_by : ℕ → ℕ → ℕ → List Order → OpenOutcome
open_by close mark n book =
    cond (eqb n 0) (record { reply = OpenReply.TheVariants.Opened (fresh_day close mark); book = cleared book })
    (record { reply = OpenReply.TheVariants.Refused n; book = book })

module _ (close mark : ℕ) (book book' : List Order) (e : length book ≡ length book') where
  same_rules : open_rules close mark book ≡ open_rules close mark book'
  unfolding open_rules has_places
  same_rules = rw e

  by_number : (n : ℕ) → OpenAlike (open_by close mark n book) (open_by close mark n book')
  unfolding opened
  by_number n = go (eqb n 0)
    where
      go :
          (t : Bool)
          → OpenAlike
          (cond t (record { reply = OpenReply.TheVariants.Opened (fresh_day close mark); book = cleared book })
          (record { reply = OpenReply.TheVariants.Refused n; book = book }))
          (cond t (record { reply = OpenReply.TheVariants.Opened (fresh_day close mark); book = cleared book' })
          (record { reply = OpenReply.TheVariants.Refused n; book = book' }))
      go true = record {
        reply = refl;
        desk = λ desk. ap (λ (b : List Order). some (record { day = fresh_day close mark; book = b })) (cleared_by_length book book' e);
      }
      go false = record { reply = refl; desk = λ desk. refl }

  pub open_alike : OpenAlike (open_call close mark book) (open_call close mark book')
  unfolding open_call
  open_alike =
      subst (λ (rs : List Rule). OpenAlike (open_call close mark book) (open_by close mark (first_of rs) book')) same_rules
      (by_number (first_of (open_rules close mark book)))

-- ---- the session's answers, with the lists that are lent

abbrev pub answered : List ℕ → Option Desk → Answered
answered text desk = record { text = text; desk = desk }

pub open_answer_lem :
    (close mark : ℕ) (places : List Order)
    → length places ≡ 1_024
    → (desk : Option Desk)
    → open_answer close mark desk
    ≡ answered (open_line (open_call close mark places).reply) (opened (open_call close mark places) desk)
unfolding open_answer lent_places
open_answer_lem close mark places e desk =
    let s : OpenAlike (open_call close mark lent_places) (open_call close mark places) =
    open_alike close mark lent_places places (length-replicate 1_024 free ∙ sym e)
    in
    ap (λ (r : OpenReply.OpenReply). answered (open_line r) (opened (open_call close mark lent_places) desk)) s.reply
    ∙ ap (answered (open_line (open_call close mark places).reply)) (s.desk desk)

-- what is made of alike outcomes is the same
same_of :
    {A : Type 0} (made : A → ℕ) (f : List Trade → A → List Order → Answered) (o p : Outcome A)
    → Alike made o p
    → f (take (made o.answer) o.trades) o.answer o.book
    ≡ f (take (made p.answer) p.trades) p.answer p.book
same_of {A} made f o p s =
    ap (λ (ts : List Trade). f ts o.answer o.book) s.trades
    ∙ ap (λ (r : A). f (take (made p.answer) p.trades) r o.book) s.answer
    ∙ ap (λ (b : List Order). f (take (made p.answer) p.trades) p.answer b) s.book

abbrev pub order_text : List Trade → OrderAnswer → List Order → Answered
order_text ts r book = answered (trade_lines ts ++ order_line r.reply) (some (record { day = r.day; book = book }))

abbrev pub clock_text : List Trade → ClockAnswer → List Order → Answered
clock_text ts r book = answered (trade_lines ts ++ clock_line r.reply) (some (record { day = r.day; book = book }))

module _ (trades : List Trade) (e : length trades ≡ 2_048) (s : Desk) where
  fresh_long : length lent_trades ≡ length trades
  unfolding lent_trades
  fresh_long = length-replicate {A = Trade} 2_048 (record { price = 0; quantity = 0; buyer = 0; seller = 0; buyerleft = 0; sellerleft = 0 }) ∙ sym e

  pub order_answer_lem :
      (a : Asked)
      → let o : Outcome OrderAnswer = order_call s.day a s.book trades in
      order_answer a s ≡ order_text (take o.answer.made o.trades) o.answer o.book
  unfolding order_answer
  order_answer_lem a =
      same_of (λ r. r.made) order_text (order_call s.day a s.book lent_trades) (order_call s.day a s.book trades)
      (order_alike lent_trades trades fresh_long s.day a s.book)

  pub clock_answer_lem :
      (t : ℕ)
      → let o : Outcome ClockAnswer = clock_call s.day t s.book trades in
      clock_answer t s ≡ clock_text (take o.answer.made o.trades) o.answer o.book
  unfolding clock_answer
  clock_answer_lem t =
      same_of (λ r. r.made) clock_text (clock_call s.day t s.book lent_trades) (clock_call s.day t s.book trades)
      (clock_alike lent_trades trades fresh_long s.day t s.book)
