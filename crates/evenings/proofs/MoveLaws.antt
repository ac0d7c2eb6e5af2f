-- A move of the clock over all lists: which of its rules is the first to hold, and what a move that no rule refuses comes to. Assumes
-- nothing.
use Prim.Native.Nat.{ℕ, zero, suc, ◌≤◌, ◌<◌}
use mathlib.Core.Path.{◌≡◌, refl, sym, ap, ◌∙◌}
use mathlib.Core.Bool.{true, false}
use mathlib.Core.List.{List, [], ◌∷◌, ◌++◌, map-append, append_assoc}
use native.Mathlib.Omega.{arith}
use lib.ListN.{length, take, drop, length-map, length-append, take-append-drop}
use lib.Seq.{length-take-le, take-take, take_at}
use lib.Dec.{ltb}
use borrow.Author.Tests.{eq-eqb, ne_eqb, le-leb, lt-leb}
use Rattle.model.specs.declared.Order.{Order}
use Rattle.model.specs.declared.Trade.{Trade}
use Rattle.model.specs.declared.Day.{Day}
use Rattle.model.specs.declared.MoveAnswer.{MoveAnswer}
use Rattle.model.specs.declared.MoveReply.TheVariants.{Refused, Moved}
use Rattle.model.specs.Clock.{is_time}
use Rattle.model.specs.Books.{Books}
use Rattle.model.specs.Figures.{at}
use Rattle.model.specs.Halts.{phase_now}
use Rattle.model.specs.Screen.{update}
use Rattle.model.specs.Refusals.{◌when◌, first_of, unsound, unsound_fixed, unsound_blocks, unsound_books}
use Rattle.model.specs.Calls.{written}
use Rattle.model.specs.AfterClose.{After}
use Rattle.model.specs.AllCalls.{moved_on, move_trades, clock_all_rules, clock_all_call}
use Rattle.model.proofs.Rules.{hit, skip}
use Rattle.book.specs.Books.{books_of}
use Rattle.book.specs.Promises.{clock_all_left}
use Rattle.figures.specs.Figures.{Publishable}
use Rattle.evenings.specs.declared.Evening.{Evening}
use Rattle.evenings.specs.Stage.{Stage, answered}
use Rattle.model.specs.declared.Declaration.{Declaration}

-- ---- which rule is the first

module _ (d : Day) (t : ℕ) (s : Books) (room : ℕ) where
  abbrev rules : ℕ
  rules = first_of (clock_all_rules d t s room)

  pub move_unsound : unsound_books d s ≡ true → 15 ≡ rules
  unfolding clock_all_rules
  move_unsound u = sym (hit 15 _ u)

  pub books_sound :
      unsound d s.main ≡ false
      → unsound_fixed d s.fixed ≡ false
      → unsound_blocks d s.blocks ≡ false
      → unsound_books d s ≡ false
  unfolding unsound_books
  books_sound m f b = rw (m, f, b)

  module _ (u : unsound_books d s ≡ false) where
    pub move_late : 86_399 < t → 1 ≡ rules
    unfolding clock_all_rules is_time
    move_late h = sym (skip 15 _ u ∙ hit 1 _ (rw (lt-leb t 86_399 h)))

    module _ (h : t ≤ 86_399) where
      pub move_back : ltb t d.time ≡ true → 1 ≡ rules
      unfolding clock_all_rules is_time
      move_back l = sym (skip 15 _ u ∙ hit 1 _ (rw (le-leb t 86_399 h, l)))

      module _ (l : ltb t d.time ≡ false) where
        -- neither soundness nor the time is in the way
        by_list : rules ≡ first_of (13 when (ltb room (length (move_trades (moved_on d t s)))) ∷ [])
        unfolding clock_all_rules is_time
        by_list = skip 15 _ u ∙ skip 1 _ (rw (le-leb t 86_399 h, l))

        pub move_list : ltb room (length (move_trades (moved_on d t s))) ≡ true → 13 ≡ rules
        move_list e = sym (by_list ∙ hit 13 [] e)

        pub move_none : ltb room (length (move_trades (moved_on d t s))) ≡ false → 0 ≡ rules
        unfolding first_of
        move_none e = sym (by_list ∙ skip 13 [] e)

-- ---- what the call comes to

module _ {h : After} {lent : List Trade} {e : Evening} {line : List Order} {places : List Declaration} {trades : List Trade} (s : Stage h lent e line places trades) where
  pub stage_made : e.made ≡ length (move_trades h)
  stage_made =
      sym (length-take-le e.made trades s.within) ∙ ap length s.list

  stage_written : trades ≡ written (move_trades h) lent
  unfolding written
  stage_written =
      (sym (take-append-drop e.made trades))
      ∙ ap (λ (ts : List Trade). ts ++ (drop e.made trades)) s.list
      ∙ ap (λ (l : List Trade). move_trades h ++ l) s.past
      ∙ ap (λ (n : ℕ). move_trades h ++ drop n lent) stage_made

  -- the main book's trades are the first of them
  stage_auctions : {n : ℕ} → n ≡ length h.auctions → (take n trades) ≡ h.auctions
  unfolding move_trades
  stage_auctions {n} f =
      let l : n ≤ e.made =
      omega (
        arith,
        stage_made,
        length-append (h.auctions ++ h.confirmed) h.fixed,
        length-append h.auctions h.confirmed,
      ) in
      (sym (take-take n e.made trades l))
      ∙ ap (take n) s.list
      ∙ first_of_lem h.auctions h.confirmed h.fixed (sym f)
    where
      first_of_lem : {n : ℕ} (xs ys zs : List Trade) → length xs ≡ n → take n (xs ++ ys ++ zs) ≡ xs
      first_of_lem {n} xs ys zs k = rw (append_assoc xs ys zs) (take_at xs (ys ++ zs) n k)

module _ (d : Day) (t : ℕ) (main fixed : List Order) (blocks : List Declaration) (lent : List Trade) {n : ℕ} (e : n ≡ first_of (clock_all_rules d t (books_of main fixed blocks) (length lent))) where
  abbrev books : Books
  books = books_of main fixed blocks

  first : first_of (clock_all_rules d t books (length lent)) ≡ n
  first = ap (λ (k : ℕ). first_of (clock_all_rules d t books k)) (refl) ∙ sym e

  pub move_refused_lem :
      (n ≡ 0 → ⊥)
      → clock_all_left (record { reply = Refused n; made = 0; day = d }) main fixed blocks lent ≡ clock_all_call d t books lent
  unfolding clock_all_call
  move_refused_lem z = rw (first, ne_eqb n 0 z)

  pub move_accepted :
      (ev : Evening) (main' fixed' : List Order) (blocks' : List Declaration) (trades' : List Trade) {auctions : ℕ} {r : MoveAnswer}
      → n ≡ 0
      → Stage (moved_on d t books) lent ev fixed' blocks' trades'
      → main' ≡ (moved_on d t books).books.main
      → auctions ≡ length (moved_on d t books).auctions
      → r ≡ answered ev main' trades' auctions t
      → clock_all_left r main' fixed' blocks' trades' ≡ clock_all_call d t books lent
  unfolding clock_all_call answered
  move_accepted ev main' fixed' blocks' trades' {auctions} z s b a u =
      let h : After = moved_on d t books in
      let x : at t ev.day ≡ at t h.day = ap (at t) s.day in
      let w : trades' ≡ written (move_trades h) lent = stage_written s in
      rw (u, first, eq-eqb n 0 z, x, stage_auctions s a, a, s.confirmed, s.fixed, s.void, s.lapsed, stage_made s, b, s.orders, s.held, w)

-- ---- the answer, part by part

pub then_publishable : {then day : Day} → day ≡ then → Publishable then → Publishable day
then_publishable e p = rw e p

pub answer_is :
    (e : Evening) (book : List Order) (trades : List Trade) (auctions time : ℕ) {then day : Day} {phase : ℕ}
    → then ≡ at time e.day
    → phase ≡ phase_now then
    → day ≡ update (take auctions trades) book then
    → record {
      reply =
          Moved
          (record {
            phase = phase;
            trades = auctions;
            confirmed = e.confirmed;
            fixed = e.fixed;
            void = e.void;
            lapsed = e.lapsed;
          });
      made = e.made;
      day = day;
    }
    ≡ answered e book trades auctions time
unfolding answered
answer_is e book trades auctions time t p u = rw (p, u, t)
