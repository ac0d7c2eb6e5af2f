-- A move of the clock: the places for its trades, which of its rules is the first to hold, the state that it has reached in memory, and
-- what a move that no rule refuses comes to. Assumes nothing.
use Prim.Native.Nat.{ℕ, suc, ◌+◌, ◌-◌, ◌≤◌, ◌<◌}
use mathlib.Core.Path.{◌≡◌, refl, sym, ap, ◌∙◌}
use mathlib.Core.Bool.{true, false}
use mathlib.Core.List.{List, [], ◌∷◌, ◌++◌}
use native.Mathlib.Omega.{arith}
use lib.ListN.{length, take, drop, take-append-drop}
use lib.Seq.{length-take-le, drop-drop}
use lib.Dec.{ltb}
use borrow.Author.Tests.{eq-eqb, ne_eqb, eqb-false, le-leb, lt-leb, le-ltb, ltb-false}
use Rattle.model.specs.declared.Order.{Order}
use Rattle.model.specs.declared.Trade.{Trade}
use Rattle.model.specs.declared.Day.{Day}
use Rattle.model.specs.declared.Row.{Row}
use Rattle.model.specs.declared.ClockReply.TheVariants.{Refused, Moved}
use Rattle.model.specs.Clock.{is_time, row_at, passed}
use Rattle.model.specs.Figures.{at}
use Rattle.model.specs.Halts.{phase_now}
use Rattle.model.specs.Screen.{update}
use Rattle.model.specs.Refusals.{◌when◌, first_of, unsound}
use Rattle.model.specs.Calls.{written}
use Rattle.model.specs.ClockCall.{auction_trades, Held, pass, through, start, moved, clock_rules, clock_call}
use Rattle.model.proofs.Seconds.{through_by_way, through_quiet}
use Rattle.model.proofs.Rules.{hit, skip, Numbered, NoneHolds, none_holds}
use Rattle.book.specs.Standing.{Ranked}
use Rattle.book.specs.Promises.{call_left}
use Rattle.pairing.proofs.Moves.{moved_few}
use Rattle.figures.specs.Figures.{Publishable}
use Rattle.soundness.specs.Ready.{Ready}
use Rattle.book.specs.declared.Dealt.{Dealt}
use Rattle.book.specs.Deals.{dealt}
use Rattle.moves.specs.declared.Passage.{Passage}
use Rattle.moves.specs.Stops.{is_stop, next_stop}
use Rattle.moves.specs.Moving.{so_far, Underway, Reached}
use Rattle.moves.proofs.NextStop.{stop_there, through_none, through_to}
use Rattle.moves.proofs.OtherLists.{moved_publishable}
use Rattle.moves.proofs.Stopping.{start_underway, through_underway, pass_grows, through_grows, moved_none, moved_trades}

-- ---- the places for its trades

module _ (d : Day) (t : ℕ) (rows : List Order) (s : Ranked rows) (places : ℕ) where
  -- no move has more trades than the book has places
  pub list_holds_move : length rows ≤ places → false ≡ ltb places (length (moved d t rows).trades)
  list_holds_move h =
      sym
      (le-ltb places (length (moved d t rows).trades)
      (omega (arith, moved_few rows s.stands d t)))

  module _ (l : d.time ≤ t) {stop : ℕ} (e : stop ≡ next_stop d.halt d.time t) where
    pub none_lacks : stop ≡ 0 → false ≡ ltb places (length (moved d t rows).trades)
    none_lacks z =
        sym
        (ap (λ (ts : List Trade). ltb places (length ts)) (moved_none d t rows s l e z) ∙ le-ltb places 0 (omega arith))

    pub auction_lacks :
        {r : Dealt}
        → (stop ≡ 0 → ⊥)
        → r ≡ dealt (auction_trades d rows)
        → ltb places r.made ≡ ltb places (length (moved d t rows).trades)
    unfolding dealt
    auction_lacks n f =
        ap (λ (x : Dealt). ltb places x.made) f
        ∙ sym (ap (λ (ts : List Trade). ltb places (length ts)) (moved_trades d t rows s l e n))

-- ---- which rule is the first

module _ (d : Day) (t : ℕ) (book : List Order) (room : ℕ) where
  abbrev rules : ℕ
  rules = first_of (clock_rules d t book room)

  pub clock_unsound : unsound d book ≡ true → 15 ≡ rules
  unfolding clock_rules
  clock_unsound u = sym (hit 15 _ u)

  module _ (u : unsound d book ≡ false) where
    pub clock_late : 86_399 < t → 1 ≡ rules
    unfolding clock_rules is_time
    clock_late h = sym (skip 15 _ u ∙ hit 1 _ (rw (lt-leb t 86_399 h)))

    module _ (h : t ≤ 86_399) where
      pub clock_back : ltb t d.time ≡ true → 1 ≡ rules
      unfolding clock_rules is_time
      clock_back l = sym (skip 15 _ u ∙ hit 1 _ (rw (le-leb t 86_399 h, l)))

      module _ (l : ltb t d.time ≡ false) where
        -- neither soundness nor the time is in the way
        by_list : rules ≡ first_of (13 when (ltb room (length (moved d t book).trades)) ∷ [])
        unfolding clock_rules is_time
        by_list = skip 15 _ u ∙ skip 1 _ (rw (le-leb t 86_399 h, l))

        pub clock_list : ltb room (length (moved d t book).trades) ≡ true → 13 ≡ rules
        clock_list e = sym (by_list ∙ hit 13 [] e)

        pub clock_none : ltb room (length (moved d t book).trades) ≡ false → 0 ≡ rules
        unfolding first_of
        clock_none e = sym (by_list ∙ skip 13 [] e)

  pub clock_numbered : Numbered (clock_rules d t book room)
  unfolding clock_rules ◌when◌
  clock_numbered = (eqb-false 15 0 refl, (eqb-false 1 0 refl, (eqb-false 13 0 refl, tt)))

  module _ {n : ℕ} (e : n ≡ rules) (z : n ≡ 0) where
    none : NoneHolds (clock_rules d t book room)
    none = none_holds (clock_rules d t book room) clock_numbered (sym e ∙ z)

    pub move_fits : length (moved d t book).trades ≤ room
    unfolding clock_rules ◌when◌
    move_fits = ltb-false room (length (moved d t book).trades) none.1.1.0

-- ---- the state in memory

further : (n m : ℕ) (xs ys : List Trade) → n ≤ m → drop n xs ≡ drop n ys → drop m xs ≡ drop m ys
further n m xs ys h e =
    let k : n + (m - n) ≡ m = omega arith in
    ap (λ (j : ℕ). drop j xs) (sym k)
    ∙ sym (drop-drop (m - n) n xs)
    ∙ ap (drop (m - n)) e
    ∙ drop-drop (m - n) n ys
    ∙ ap (λ (j : ℕ). drop j ys) k

module _ {h : Held} {lent : List Trade} {p : Passage} {rows : List Order} {trades : List Trade} (r : Reached h lent p rows trades) where
  pub reached_made : p.made ≡ length h.trades
  reached_made =
      sym (length-take-le p.made trades r.within)
      ∙ ap (λ (k : Held). length k.trades) r.state

  reached_written : trades ≡ written h.trades lent
  unfolding written
  reached_written =
      (sym (take-append-drop p.made trades))
      ∙ ap (λ (ts : List Trade). ts ++ (drop p.made trades)) (ap (λ (k : Held). k.trades) r.state)
      ∙ ap (λ (l : List Trade). h.trades ++ l) r.past
      ∙ ap (λ (n : ℕ). h.trades ++ drop n lent) reached_made

  -- a stop from here
  module _ (stop : ℕ) {q : Passage} {rows₁ : List Order} {after : List Trade} (s : Reached (pass stop (so_far p rows trades)) trades q rows₁ after) where
    made_grows : p.made ≤ q.made
    made_grows =
        omega (
          arith,
          made_here s,
          length-take-le p.made trades r.within,
          pass_grows stop (so_far p rows trades),
        )
      where
        made_here : Reached (pass stop (so_far p rows trades)) trades q rows₁ after → q.made ≡ length (pass stop (so_far p rows trades)).trades
        made_here x =
            sym (refl ∙ length-take-le q.made after x.within)
            ∙ ap (λ (k : Held). length k.trades) x.state

    step : Reached (pass stop h) lent q rows₁ after
    step =
        record {
          state = s.state ∙ ap (pass stop) r.state;
          within = s.within;
          past = s.past ∙ further p.made q.made trades lent made_grows r.past;
        }

-- ---- from stop to stop

module _ (d : Day) (rows : List Order) (lent : List Trade) (from : ℕ) where
  -- the state at this second of the move
  abbrev here : Held
  here = through (passed d.time from) (start d rows)

  abbrev pub At : Passage → List Order → List Trade → Type 0
  At p rows₁ trades = Reached (through (passed d.time from) (start d rows)) lent p rows₁ trades

  module _ {p : Passage} {rows₁ : List Order} {trades : List Trade} (r : At p rows₁ trades) where
    pub at_underway : Ready d rows → Underway (so_far p rows₁ trades)
    at_underway s =
        rw r.state (through_underway (passed d.time from) (start d rows) (start_underway d rows s))

    module _ (t : ℕ) (past : d.time ≤ from) {stop : ℕ} (e : stop ≡ next_stop p.day.halt from t) where
      halt_here : stop ≡ next_stop here.day.halt from t
      halt_here = e ∙ ap (λ (k : Held). next_stop k.day.halt from t) r.state

      pub stop_ahead : (stop ≡ 0 → ⊥) → (from < stop) × (stop ≤ t) × (is_stop p.day.halt stop ≡ true)
      stop_ahead n = stop_there (so_far p rows₁ trades) from t e n

      -- the move up to the stop is the move up to here, and what is due at it
      to_stop : (stop ≡ 0 → ⊥) → pass stop here ≡ through (passed d.time stop) (start d rows)
      to_stop n =
          sym
          (through_by_way d.time from stop (start d rows) past (omega (arith, (stop_ahead n).0))
          ∙ through_to here from t halt_here n)

      pub at_fits :
          (stop ≡ 0 → ⊥)
          → length (moved d t rows).trades ≤ length lent
          → length trades ≡ length lent
          → length (pass stop (so_far p rows₁ trades)).trades ≤ length trades
      unfolding moved
      at_fits n f k =
          let l : d.time ≤ stop = omega (arith, (stop_ahead n).0) in
          omega (
            arith,
            ap (λ (h : Held). length (pass stop h).trades) r.state,
            ap (λ (h : Held). length h.trades) (to_stop n),
            ap (λ (h : Held). length h.trades) (through_by_way d.time stop t (start d rows) l (stop_ahead n).1),
            through_grows (passed stop t) (through (passed d.time stop) (start d rows)),
          )

      pub at_next :
          (stop ≡ 0 → ⊥)
          → {q : Passage} {rows₂ : List Order} {after : List Trade}
          → Reached (pass stop (so_far p rows₁ trades)) trades q rows₂ after
          → Reached (through (passed d.time stop) (start d rows)) lent q rows₂ after
      at_next n {q} {rows₂} {after} s = rw (to_stop n) at (step r stop s)

      pub at_last : from ≤ t → stop ≡ 0 → Reached (moved d t rows) lent p rows₁ trades
      unfolding moved
      at_last l z =
          rw (through_by_way d.time from t (start d rows) past l ∙ through_none here from t halt_here l z) r

pub at_start : (d : Day) (rows : List Order) (lent : List Trade) → At d rows lent d.time (record { day = d; made = 0 }) rows lent
at_start d rows lent =
    let z : through (passed d.time d.time) (start d rows) ≡ start d rows =
    unfold passed in through_quiet (suc d.time) (d.time - d.time) (start d rows) (λ s a b. absurd (omega (arith, a, b)))
    in
    rw z (unfold start in record { state = refl; within = omega arith; past = refl })

-- ---- what the call comes to

-- the book that is left stands in order
pub left_ranked :
    (d : Day) (t : ℕ) (rows : List Order) (lent : List Trade) {p : Passage} {rows₁ : List Order} {after : List Trade}
    → Ready d rows
    → Reached (moved d t rows) lent p rows₁ after
    → Ranked rows₁
left_ranked d t rows lent {p} {rows₁} {after} s r =
    let u : Underway (moved d t rows) =
    unfold moved in through_underway (passed d.time t) (start d rows) (start_underway d rows s) in
    let b : rows₁ ≡ (moved d t rows).book = ap (λ (h : Held). h.book) r.state in
    rw b u.ranked

-- what is published then are numbers of 64 bits
pub left_publishable :
    (d : Day) (t : ℕ) (rows : List Order) (lent : List Trade) {p : Passage} {rows₁ : List Order} {after : List Trade} {day : Day}
    → Ready d rows
    → Reached (moved d t rows) lent p rows₁ after
    → day ≡ at t p.day
    → Publishable day
left_publishable d t rows lent s r e =
    moved_publishable d t rows s (e ∙ ap (λ (h : Held). at t h.day) r.state)

-- the row of the new time
pub row_then : (d : Day) (t : ℕ) {day : Day} {row : Row} → day ≡ at t d → row ≡ row_at t → row ≡ row_at day.time
unfolding at
row_then d t e f = rw e f

module _ (d : Day) (t : ℕ) (rows : List Order) (lent : List Trade) {n : ℕ} (e : n ≡ first_of (clock_rules d t rows (length lent))) where
  first : first_of (clock_rules d t rows (length lent)) ≡ n
  first = ap (λ (k : ℕ). first_of (clock_rules d t rows k)) (refl) ∙ sym e

  pub clock_refused_lem :
      (n ≡ 0 → ⊥)
      → call_left (record { reply = Refused n; made = 0; day = d }) rows lent ≡ clock_call d t rows lent
  unfolding clock_call
  clock_refused_lem z = rw (first, ne_eqb n 0 z)

  pub clock_accepted :
      (p : Passage) (rows₁ : List Order) (after : List Trade) {phase : ℕ} {then day : Day}
      → n ≡ 0
      → Reached (moved d t rows) lent p rows₁ after
      → phase ≡ phase_now then
      → then ≡ at t p.day
      → day ≡ update (take p.made after) rows₁ then
      → call_left (record { reply = Moved phase p.made; made = p.made; day = day }) rows₁ after
      ≡ clock_call d t rows lent
  unfolding clock_call
  clock_accepted p rows₁ after {phase} {then} {day} z r f g u =
      let m : p.made ≡ length (moved d t rows).trades = reached_made r in
      let b : rows₁ ≡ (moved d t rows).book = ap (λ (h : Held). h.book) r.state in
      let w : after ≡ written (moved d t rows).trades lent = reached_written r in
      let e : then ≡ at t (moved d t rows).day = g ∙ ap (λ (h : Held). at t h.day) r.state in
      let s : day ≡ update (moved d t rows).trades (moved d t rows).book (at t (moved d t rows).day) =
      u ∙ ap (λ (x : Day). update (take p.made after) rows₁ x) g ∙ ap (λ (h : Held). update h.trades h.book (at t h.day)) r.state
      in
      rw (first, eq-eqb n 0 z, f ∙ ap phase_now e, m, b, w, s)
