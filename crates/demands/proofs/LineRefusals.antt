-- 16 and 17 for the lines of the program: the calls' own refusals go up to 15, different numbers print as different lines, and no
-- other line begins with their letter. Assumes nothing.
use Prim.Native.Nat.{ℕ, zero, suc, ◌+◌, ◌-◌, ◌*◌, ◌/◌, ◌%◌, ◌^◌, ◌≤◌, ◌<◌}
use mathlib.Core.Path.{◌≡◌, refl, sym, ap, ◌∙◌}
use mathlib.Core.Logic.{⊎_elim}
use mathlib.Core.Bool.{Bool, true, false, ◌&&◌, cond, and-false}
use mathlib.Core.List.{List, [], ◌∷◌, ◌++◌, append-nil, append_cancel_right}
use mathlib.Core.Option.{Option, none, some}
use native.Mathlib.Nat.{div-add-mod', div-lt_iff_lt-mul, pow-suc}
use native.Mathlib.Omega.{arith}
use borrow.Author.Tests.{lt-leb}
use lib.ListN.{length, get_or, take, drop}
use lib.Dec.{leb, ltb, eqb, lit<}
use Rattle.model.specs.declared.Asked.{Asked}
use Rattle.model.specs.declared.Trade.{Trade}
use Rattle.model.specs.declared.Command.{Command}
use Rattle.model.specs.declared.Command.TheVariants.{Malformed, Asks}
use Rattle.model.specs.declared.Event as Event
use Rattle.model.specs.declared.OpenReply as OpenReply
use Rattle.model.specs.declared.OrderReply as OrderReply
use Rattle.model.specs.declared.CancelReply as CancelReply
use Rattle.model.specs.declared.ClockReply as ClockReply
use Rattle.model.specs.declared.OrderAnswer.{OrderAnswer}
use Rattle.model.specs.declared.ClockAnswer.{ClockAnswer}
use Rattle.model.specs.Lists.{all}
use Rattle.model.specs.Refusals.{Rule, ◌when◌}
use Rattle.model.specs.Calls.{Outcome, open_rules, order_rules, cancel_rules, open_call, order_call, cancel_call}
use Rattle.model.specs.ClockCall.{clock_rules, clock_call}
use Rattle.model.specs.AuctionCalls.{report_rules, list_rules}
use Rattle.model.specs.Replies.{open_numbers, order_numbers, cancel_numbers, clock_numbers}
use Rattle.model.specs.Lines.{value_from, words_of, words_command, line_command, digits, spaced, reply, refusal_line, trade_lines, reply_line, open_line, clock_line, order_line, with_number, cancel_line}
use Rattle.model.specs.Session.{Desk, open_answer, clock_answer, order_answer, cancel_answer, on_desk, event_answer, answer, lent_places, lent_trades}
use Rattle.model.specs.Words.{Each}
use Rattle.book.proofs.Lists.{each_parts}
use Rattle.soundness.proofs.Says.{says_le, says_all}
use Rattle.demands.specs.Refusing.{FirstIs}
use Rattle.demands.specs.Reading.{NeedsDay, LineRefusals, NeverOfTheForm, UpTo15, CallNumbers}
use Rattle.demands.proofs.Refusals.{each_refusal}

-- ---- the calls' own refusals

abbrev Small : Rule → Type 0
Small r = r.number ≤ 15

first_small : (n : ℕ) (rs : List Rule) → all (λ (r : Rule). leb r.number 15) rs ≡ true → FirstIs n rs → n ≤ 15
first_small n rs e f =
    let each : Each Small rs = (says_all (λ (r : Rule). leb r.number 15) Small (λ r. says_le r.number 15) rs).0 e in
    let split : Each Small (f.before ++ (f.rule ∷ f.behind)) = rw f.order at each in
    omega (arith, (each_parts Small f.before (f.rule ∷ f.behind) split).1.0, f.number)

pub call_numbers : CallNumbers
unfolding all ◌when◌ open_rules order_rules cancel_rules clock_rules report_rules list_rules
call_numbers =
    record {
      opening = λ close mark book n r.
          first_small n (open_rules close mark book) refl (((each_refusal.opening close mark book).refuses n).0 r);
      order = λ d a book lent n r.
          first_small n (order_rules d a book (length lent)) refl (((each_refusal.order d a book lent).refuses n).0 r);
      cancel = λ d account number book n r.
          first_small n (cancel_rules d account number book) refl (((each_refusal.cancel d account number book).refuses n).0 r);
      clock = λ d t book lent n r.
          first_small n (clock_rules d t book (length lent)) refl (((each_refusal.clock d t book lent).refuses n).0 r);
      report = λ d book n r. first_small n (report_rules d book) refl (((each_refusal.report d book).refuses n).0 r);
      list = λ d asked book lent n r.
          first_small n (list_rules d book) refl (((each_refusal.list d asked book lent).refuses n).0 r);
    }

open_first : (r : OpenReply.OpenReply) → UpTo15 OpenReply.TheVariants.Refused r → get_or (open_numbers r) 0 0 ≤ 15
unfolding open_numbers
open_first (OpenReply.TheVariants.Refused n) h = h n refl
open_first (OpenReply.TheVariants.Opened d) h = omega arith

order_first : (r : OrderReply.OrderReply) → UpTo15 OrderReply.TheVariants.Refused r → get_or (order_numbers r) 0 0 ≤ 15
unfolding order_numbers
order_first (OrderReply.TheVariants.Refused n) h = h n refl
order_first (OrderReply.TheVariants.Accepted e) h = omega arith

cancel_first :
    (number : ℕ) (r : CancelReply.CancelReply)
    → UpTo15 CancelReply.TheVariants.Refused r
    → get_or (with_number number (cancel_numbers r)) 0 0 ≤ 15
unfolding cancel_numbers with_number
cancel_first number (CancelReply.TheVariants.Refused n) h = h n refl
cancel_first number (CancelReply.TheVariants.Withdrawn q) h = omega arith

clock_first : (r : ClockReply.ClockReply) → UpTo15 ClockReply.TheVariants.Refused r → get_or (clock_numbers r) 0 0 ≤ 15
unfolding clock_numbers
clock_first (ClockReply.TheVariants.Refused n) h = h n refl
clock_first (ClockReply.TheVariants.Moved phase trades) h = omega arith

-- ---- a number is read back from its digits

value_more : (v : ℕ) (bs : List ℕ) (b : ℕ) → value_from v (bs ++ (b ∷ [])) ≡ 10 * value_from v bs + (b - 48)
unfolding value_from
value_more v [] b = refl
value_more v (c ∷ bs) b = value_more (10 * v + (c - 48)) bs b

digits_value : (k n : ℕ) → n < 10 ^ k → value_from 0 (digits k n) ≡ n
unfolding digits value_from
digits_value zero n h = omega arith
digits_value (suc k) n h = go (ltb n 10) (digits_value k (n / 10) ((div-lt_iff_lt-mul (lit< tt)).1 (rw pow-suc at h)))
  where
    go :
        (b : Bool)
        → value_from 0 (digits k (n / 10)) ≡ n / 10
        → value_from 0 (cond b ((48 + n) ∷ []) (digits k (n / 10) ++ ((48 + n % 10) ∷ []))) ≡ n
    go true f = omega arith
    go false f = value_more 0 (digits k (n / 10)) (48 + n % 10) ∙ omega (arith, f, div-add-mod' n 10)

-- so different numbers are refused with different lines
refusal_same : (m n : ℕ) → m < 10 ^ 20 → n < 10 ^ 20 → refusal_line m ≡ refusal_line n → m ≡ n
unfolding refusal_line reply spaced
refusal_same m n h k e =
    let f : digits 20 m ++ [] ≡ digits 20 n ++ [] =
    append_cancel_right (digits 20 m ++ []) (digits 20 n ++ []) (10 ∷ []) (ap (drop 2) e) in
    sym (digits_value 20 m h) ∙ ap (value_from 0) (rw (append-nil (digits 20 m), append-nil (digits 20 n)) at f) ∙ digits_value 20 n k

-- ---- what a call's own answer prints

begins : (text : List ℕ) (n : ℕ) → text ≡ refusal_line n → get_or text 0 0 ≡ 88
unfolding refusal_line reply
begins text n e = ap (λ (l : List ℕ). get_or l 0 0) e

-- trades begin with M, an accepted reply with a letter of its own, and a refusal has a number up to 15
module _ (n : ℕ) (above : 15 < n) (printed : n < 10 ^ 20) where
  own_text :
      (letter : ℕ) (ts : List Trade) (ns : List ℕ)
      → (letter ≡ 88 → ⊥)
      → get_or ns 0 0 ≤ 15
      → trade_lines ts ++ reply_line letter ns ≡ refusal_line n
      → ⊥
  unfolding trade_lines reply_line reply
  own_text letter (t ∷ ts) ns x h e =
      omega (arith, begins (trade_lines (t ∷ ts) ++ reply_line letter ns) n e)
  own_text letter [] [] x h e = x (begins (reply letter []) n e)
  own_text letter [] (m ∷ values) x h e = go (eqb m 0) e
    where
      go : (b : Bool) → cond b (reply letter values) (refusal_line m) ≡ refusal_line n → ⊥
      go true e = x (begins (reply letter values) n e)
      go false e = let f = refusal_same m n (omega arith) printed e in omega arith

  open_text : (close mark : ℕ) (desk : Option Desk) → (open_answer close mark desk).text ≡ refusal_line n → ⊥
  unfolding open_answer open_line trade_lines
  open_text close mark desk =
      let r : OpenReply.OpenReply = (open_call close mark lent_places).reply in
      own_text 68 [] (open_numbers r) (λ e. omega arith) (open_first r (call_numbers.opening close mark lent_places))

  clock_text_lem : (t : ℕ) (s : Desk) → (clock_answer t s).text ≡ refusal_line n → ⊥
  unfolding clock_answer clock_line
  clock_text_lem t s =
      let o : Outcome ClockAnswer = clock_call s.day t s.book lent_trades in
      own_text 75 (take o.answer.made o.trades) (clock_numbers o.answer.reply) (λ e. omega arith)
      (clock_first o.answer.reply (call_numbers.clock s.day t s.book lent_trades))

  order_text_lem : (a : Asked) (s : Desk) → (order_answer a s).text ≡ refusal_line n → ⊥
  unfolding order_answer order_line
  order_text_lem a s =
      let o : Outcome OrderAnswer = order_call s.day a s.book lent_trades in
      own_text 65 (take o.answer.made o.trades) (order_numbers o.answer.reply) (λ e. omega arith)
      (order_first o.answer.reply (call_numbers.order s.day a s.book lent_trades))

  cancel_text : (account number : ℕ) (s : Desk) → (cancel_answer account number s).text ≡ refusal_line n → ⊥
  unfolding cancel_answer cancel_line trade_lines
  cancel_text account number s =
      let r : CancelReply.CancelReply = (cancel_call s.day account number s.book).answer.reply in
      own_text 87 [] (with_number number (cancel_numbers r)) (λ e. omega arith)
      (cancel_first number r (call_numbers.cancel s.day account number s.book))

  -- an event is answered so only where it is no opening and no day is open
  event_text :
      (e : Event.Event) (desk : Option Desk)
      → (event_answer e desk).text ≡ refusal_line n
      → (n ≡ 17) × ((close mark : ℕ) → e ≡ Event.TheVariants.Open close mark → ⊥) × (desk ≡ none)
  unfolding event_answer on_desk
  event_text (Event.TheVariants.Open close mark) desk e = absurd (open_text close mark desk e)
  event_text (Event.TheVariants.Clock t) (some s) e = absurd (clock_text_lem t s e)
  event_text (Event.TheVariants.Order a) (some s) e = absurd (order_text_lem a s e)
  event_text (Event.TheVariants.Cancel account number) (some s) e = absurd (cancel_text account number s e)
  event_text (Event.TheVariants.Clock t) none e = (
    sym (refusal_same 17 n (omega arith) printed e),
    λ close mark f. let z : ◌≡◌ {A = ℕ} 0 1 = cc in omega arith,
    refl,
  )
  event_text (Event.TheVariants.Order a) none e = (
    sym (refusal_same 17 n (omega arith) printed e),
    λ close mark f. let z : ◌≡◌ {A = ℕ} 0 1 = cc in omega arith,
    refl,
  )
  event_text (Event.TheVariants.Cancel account number) none e = (
    sym (refusal_same 17 n (omega arith) printed e),
    λ close mark f. let z : ◌≡◌ {A = ℕ} 0 1 = cc in omega arith,
    refl,
  )

-- ---- the two refusals of a line

told_16 : (c : Command) (desk : Option Desk) → (answer c desk).text ≡ refusal_line 16 → c ≡ Malformed
unfolding answer
told_16 Malformed desk e = refl
told_16 (Asks a) desk e = absurd (omega (arith, (event_text 16 (omega arith) (omega arith) a desk e).0))

when_16 : (c : Command) (desk : Option Desk) → c ≡ Malformed → ((answer c desk).text ≡ refusal_line 16) × ((answer c desk).desk ≡ desk)
unfolding answer
when_16 c desk e = rw e (refl, refl)

told_17 : (c : Command) (desk : Option Desk) → (answer c desk).text ≡ refusal_line 17 → NeedsDay c × (desk ≡ none)
unfolding answer
told_17 Malformed desk e = absurd (omega (arith, refusal_same 16 17 (omega arith) (omega arith) e))
told_17 (Asks a) desk e =
    let f = event_text 17 (omega arith) (omega arith) a desk e in
    (record { event = a; asks = refl; no_opening = f.1 }, f.2)

when_17 :
    (c : Command) (desk : Option Desk)
    → NeedsDay c × (desk ≡ none)
    → ((answer c desk).text ≡ refusal_line 17) × ((answer c desk).desk ≡ desk)
unfolding answer event_answer on_desk
when_17 c desk h = rw (h.0.asks, h.1) (go h.0.event h.0.no_opening)
  where
    go :
        (e : Event.Event)
        → ((close mark : ℕ) → e ≡ Event.TheVariants.Open close mark → ⊥)
        → ((event_answer e none).text ≡ refusal_line 17) × ((event_answer e none).desk ≡ none)
    go (Event.TheVariants.Open close mark) f = absurd (f close mark refl)
    go (Event.TheVariants.Clock t) f = (refl, refl)
    go (Event.TheVariants.Order a) f = (refl, refl)
    go (Event.TheVariants.Cancel account number) f = (refl, refl)

pub line_refusals : LineRefusals
line_refusals =
    record {
      malformed = λ l desk. (told_16 (line_command l) desk, λ h. (when_16 (line_command l) desk h).0);
      no_day = λ l desk. (told_17 (line_command l) desk, λ h. (when_17 (line_command l) desk h).0);
      stays = λ l desk.
          ⊎_elim (λ h. (when_16 (line_command l) desk (told_16 (line_command l) desk h)).1)
          (λ h. (when_17 (line_command l) desk (told_17 (line_command l) desk h)).1);
    }

-- ---- lines that are never of the form

pub never_of_the_form : NeverOfTheForm
unfolding line_command words_of words_command
never_of_the_form =
    record {
      long = λ l h. rw (lt-leb (length l.text) 79 (omega arith), and-false l.ended);
      empty = λ l h. rw h (go l.ended);
      unended = λ l h. rw h;
    }
  where
    go : (b : Bool) → cond (b && true) Malformed Malformed ≡ Malformed
    go true = refl
    go false = refl
