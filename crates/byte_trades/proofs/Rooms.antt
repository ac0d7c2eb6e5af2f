-- No event has more trades than the book has places, so one in a local list of so many shows what it is in a lent list of any
-- length: the same where its trades fit, and 13 where they do not, as no rule comes after that. Assumes nothing.
use Rattle.std.specs.Prelude.{if◌then◌else◌}
use Prim.Native.Nat.{ℕ, zero, suc, ◌≤◌, ◌<◌}
use mathlib.Core.Path.{◌≡◌, refl, sym, ap, ◌∙◌}
use mathlib.Core.Bool.{Bool}
use mathlib.Core.List.{List, [], ◌∷◌, ◌++◌}
use native.Mathlib.Omega.{arith}
use native.Mathlib.Decide.{ℕ_discrete}
use lib.ListN.{length, take}
use lib.Dec.{ltb, eqb}
use borrow.Author.Tests.{lt-ltb, le-ltb, eq-eqb, ne_eqb}
use Rattle.model.specs.declared.Order.{Order}
use Rattle.model.specs.declared.Asked.{Asked}
use Rattle.model.specs.declared.Trade.{Trade}
use Rattle.model.specs.declared.Day.{Day}
use Rattle.model.specs.declared.OrderAnswer.{OrderAnswer}
use Rattle.model.specs.declared.ClockAnswer.{ClockAnswer}
use Rattle.model.specs.Entry.{entry_trades}
use Rattle.model.specs.Refusals.{Rule, ◌when◌, first_of}
use Rattle.model.specs.Calls.{Outcome, written, order_rules, entered, order_call}
use Rattle.model.specs.ClockCall.{moved, clock_rules, clock_call}
use Rattle.model.proofs.Rules.{Numbered, given_by, passed_by, none_holds}
use Rattle.matching.proofs.EntryLaws.{entry_few}
use Rattle.pairing.proofs.Moves.{moved_few}
use Rattle.book.specs.Promises.{order_refused, clock_refused}
use Rattle.soundness.proofs.Readiness.{ready_if}
use Rattle.orders.proofs.OrderLaws.{order_numbered}
use Rattle.moves.proofs.ClockLaws.{clock_numbered}
use Rattle.byte_trades.specs.declared.TradeAsked as TradeAsked
use Rattle.byte_trades.specs.declared.TradeAnswer.{TradeAnswer}
use Rattle.byte_trades.specs.Trading.{trade_refusal, ordered, clocked, handed, trade_call}

-- ---- the last rule is the one of the list's room

-- the refusal of a call whose other rules give `first`, and whose trades fit or do not
abbrev by_room : ℕ → Bool → ℕ
by_room first lacks = if eqb first 0 then (if lacks then 13 else 0) else first

last_rule : (rs : List Rule) (lacks : Bool) → Numbered rs → first_of (rs ++ 13 when lacks ∷ []) ≡ by_room (first_of rs) lacks
unfolding first_of ◌when◌
last_rule rs lacks k = elim (ℕ_discrete (first_of rs) 0) [
  | yes z ↦ sym (passed_by rs (13 when lacks ∷ []) k refl z refl) ∙ rw (eq-eqb (first_of rs) 0 z)
  | no z ↦ sym (given_by rs (13 when lacks ∷ []) refl z) ∙ rw (ne_eqb (first_of rs) 0 z)
]

numbered_front : (n : ℕ) (rs : List Rule) → Numbered rs → Numbered (take n rs)
numbered_front zero rs k = tt
numbered_front (suc n) [] k = tt
numbered_front (suc n) (r ∷ rs) (k, ks) = (k, numbered_front n rs ks)

-- ---- two lists, one outcome but for what stands behind the trades

pub record Alike {A : Type 0} (made : A → ℕ) (long lent : List Trade) (o p : Outcome A) : Type 0 where
  pub new : List Trade
  pub answer : o.answer ≡ p.answer
  pub book : o.book ≡ p.book
  pub count : made o.answer ≡ length new
  pub there : o.trades ≡ written new long
  pub here : p.trades ≡ written new lent

-- what a call on a list as long as the book says of the same call on any list: where its trades fit, and where they do not
pub record Roomy {A : Type 0} (made : A → ℕ) (lacks : Day → A) (call : Day → List Order → List Trade → Outcome A) : Type 0 where
  pub few : (d : Day) (book : List Order) (long : List Trade) → length long ≡ length book → made (call d book long).answer ≤ length long
  pub same :
      (d : Day) (book : List Order) (long lent : List Trade)
      → length long ≡ length book
      → made (call d book long).answer ≤ length lent
      → Alike made long lent (call d book long) (call d book lent)
  pub short :
      (d : Day) (book : List Order) (long lent : List Trade)
      → length long ≡ length book
      → length lent < made (call d book long).answer
      → call d book lent ≡ record { answer = lacks d; book = book; trades = lent }

-- a call that is refused by a number, and writes its trades where that is 0
module _ {A : Type 0} (made : A → ℕ) (refused : ℕ → A) (done : A) (new : List Trade) (after before : List Order)
    (counts : made done ≡ length new)
    (none : (n : ℕ) → made (refused n) ≡ 0) where
  abbrev called : ℕ → List Trade → Outcome A
  called n list =
      if eqb n 0
      then record { answer = done; book = after; trades = written new list }
      else record { answer = refused n; book = before; trades = list }

  -- by what the other rules give first
  module _ (first : ℕ) (few : first ≡ 0 → length new ≤ length before) (long : List Trade) (k : length long ≡ length before) {n : ℕ}
      (e : n ≡ by_room first (ltb (length long) (length new))) where
    free : first ≡ 0 → n ≡ 0
    free z = e ∙ rw (eq-eqb first 0 z, le-ltb (length long) (length new) (omega (arith, few z)))

    held : (first ≡ 0 → ⊥) → n ≡ first
    held z = e ∙ rw (ne_eqb first 0 z)

    made_free : first ≡ 0 → made (called n long).answer ≡ length new
    made_free z = rw (eq-eqb n 0 (free z)) counts

    made_held : (first ≡ 0 → ⊥) → made (called n long).answer ≡ 0
    made_held z = rw (held z, ne_eqb first 0 z) (none first)

    made_few : made (called n long).answer ≤ length long
    made_few = elim (ℕ_discrete first 0) [
      | yes z ↦ omega (arith, made_free z, few z)
      | no z ↦ omega (arith, made_held z)
    ]

    module _ (lent : List Trade) {m : ℕ} (f : m ≡ by_room first (ltb (length lent) (length new))) where
      alike : made (called n long).answer ≤ length lent → Alike made long lent (called n long) (called m lent)
      unfolding written
      alike fits = elim (ℕ_discrete first 0) [
        | yes z ↦
            let l : length new ≤ length lent = omega (arith, made_free z) in
            rw (eq-eqb n 0 (free z), eq-eqb m 0 (f ∙ rw (eq-eqb first 0 z, le-ltb (length lent) (length new) l)))
            (record { new = new; answer = refl; book = refl; count = counts; there = refl; here = refl })
        | no z ↦
            let g : m ≡ first = f ∙ rw (ne_eqb first 0 z) in
            rw (held z, g, ne_eqb first 0 z)
            (record { new = []; answer = refl; book = refl; count = none first; there = refl; here = refl })
      ]

      lacking :
          length lent < made (called n long).answer
          → called m lent ≡ record { answer = refused 13; book = before; trades = lent }
      lacking short = elim (ℕ_discrete first 0) [
        | yes z ↦
            let l : length lent < length new = omega (arith, made_free z) in
            let thirteen : m ≡ 13 = f ∙ rw (eq-eqb first 0 z, lt-ltb (length lent) (length new) l) in
            rw thirteen
        | no z ↦ absurd (omega (arith, made_held z))
      ]

-- ---- an order, and a move of the clock

module _ (a : Asked) where
  abbrev order_others : Day → List Order → ℕ
  order_others d book = first_of (take 11 (order_rules d a book 0))

  order_number :
      (d : Day) (book : List Order) (room : ℕ)
      → first_of (order_rules d a book room) ≡ by_room (order_others d book) (ltb room (length (entry_trades d a book)))
  unfolding order_rules
  order_number d book room =
      last_rule (take 11 (order_rules d a book 0)) (ltb room (length (entry_trades d a book)))
      (numbered_front 11 (order_rules d a book 0) (order_numbered d a book 0))

  order_roomy : Roomy (λ (r : OrderAnswer). r.made) (λ d. order_refused d 13) (λ d book list. order_call d a book list)
  unfolding order_call entered
  order_roomy =
      record {
        few =
            λ d book long k.
            made_few (λ (r : OrderAnswer). r.made) (order_refused d) _ (entry_trades d a book) _ book refl (λ n. refl)
            (order_others d book) (λ z. entry_few d a book) long k (order_number d book (length long));
        same =
            λ d book long lent k.
            alike (λ (r : OrderAnswer). r.made) (order_refused d) _ (entry_trades d a book) _ book refl (λ n. refl)
            (order_others d book) (λ z. entry_few d a book) long k (order_number d book (length long)) lent
            (order_number d book (length lent));
        short =
            λ d book long lent k.
            lacking (λ (r : OrderAnswer). r.made) (order_refused d) _ (entry_trades d a book) _ book refl (λ n. refl)
            (order_others d book) (λ z. entry_few d a book) long k (order_number d book (length long)) lent
            (order_number d book (length lent));
      }

module _ (t : ℕ) where
  abbrev clock_others : Day → List Order → ℕ
  clock_others d book = first_of (take 2 (clock_rules d t book 0))

  clock_front : (d : Day) (book : List Order) → Numbered (take 2 (clock_rules d t book 0))
  clock_front d book = numbered_front 2 (clock_rules d t book 0) (clock_numbered d t book 0)

  clock_number :
      (d : Day) (book : List Order) (room : ℕ)
      → first_of (clock_rules d t book room) ≡ by_room (clock_others d book) (ltb room (length (moved d t book).trades))
  unfolding clock_rules
  clock_number d book room =
      last_rule (take 2 (clock_rules d t book 0)) (ltb room (length (moved d t book).trades)) (clock_front d book)

  clock_few : (d : Day) (book : List Order) → clock_others d book ≡ 0 → length (moved d t book).trades ≤ length book
  unfolding clock_rules ◌when◌
  clock_few d book z =
      moved_few book (ready_if d book (none_holds (take 2 (clock_rules d t book 0)) (clock_front d book) z).0).ranked.stands d t

  clock_roomy : Roomy (λ (r : ClockAnswer). r.made) (λ d. clock_refused d 13) (λ d book list. clock_call d t book list)
  unfolding clock_call
  clock_roomy =
      record {
        few =
            λ d book long k.
            made_few (λ (r : ClockAnswer). r.made) (clock_refused d) _ (moved d t book).trades _ book refl (λ n. refl)
            (clock_others d book) (clock_few d book) long k (clock_number d book (length long));
        same =
            λ d book long lent k.
            alike (λ (r : ClockAnswer). r.made) (clock_refused d) _ (moved d t book).trades _ book refl (λ n. refl)
            (clock_others d book) (clock_few d book) long k (clock_number d book (length long)) lent
            (clock_number d book (length lent));
        short =
            λ d book long lent k.
            lacking (λ (r : ClockAnswer). r.made) (clock_refused d) _ (moved d t book).trades _ book refl (λ n. refl)
            (clock_others d book) (clock_few d book) long k (clock_number d book (length long)) lent
            (clock_number d book (length lent));
      }

-- ---- either, as one call

module _ {A B : Type 0} (f : A → B) {made : A → ℕ} {made' : B → ℕ} (counts : (r : A) → made' (f r) ≡ made r) {lacks : Day → A}
    {call : Day → List Order → List Trade → Outcome A} (r : Roomy made lacks call) where
  alike_handed : {long lent : List Trade} {o p : Outcome A} → Alike made long lent o p → Alike made' long lent (handed f o) (handed f p)
  alike_handed {o = o} a =
      record {
        new = a.new;
        answer = ap f a.answer;
        book = a.book;
        count = counts o.answer ∙ a.count;
        there = a.there;
        here = a.here;
      }

  roomy_handed : Roomy made' (λ d. f (lacks d)) (λ d book list. handed f (call d book list))
  roomy_handed =
      record {
        few = λ d book long k. omega (arith, counts (call d book long).answer, r.few d book long k);
        same =
            λ d book long lent k h.
            alike_handed (r.same d book long lent k (omega (arith, counts (call d book long).answer)));
        short =
            λ d book long lent k h.
            ap (handed f) (r.short d book long lent k (omega (arith, counts (call d book long).answer)));
      }

-- refused for want of room
abbrev pub lacked : TradeAsked.TradeAsked → Day → TradeAnswer
lacked asked d = record { reply = trade_refusal asked 13; made = 0; day = d }

pub trade_roomy :
    (asked : TradeAsked.TradeAsked) → Roomy (λ (r : TradeAnswer). r.made) (lacked asked) (λ d book list. trade_call d asked book list)
unfolding trade_call trade_refusal
trade_roomy (TradeAsked.TheVariants.Order a) = roomy_handed ordered (λ r. refl) (order_roomy a)
trade_roomy (TradeAsked.TheVariants.Clock t) = roomy_handed clocked (λ r. refl) (clock_roomy t)
