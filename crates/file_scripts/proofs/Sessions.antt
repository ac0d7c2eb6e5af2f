-- What is stored of a script, and its session: records can hold it, and the lines that are left out change no desk. Assumes
-- nothing.
use Prim.Native.Nat.{ℕ, ◌≤◌}
use mathlib.Core.Path.{◌≡◌, refl, sym, ap, ◌∙◌}
use mathlib.Core.Bool.{Bool, true, false, not, cond, ◌&&◌}
use mathlib.Core.List.{List, [], ◌∷◌, ◌++◌, map}
use mathlib.Core.Option.{Option, none, some}
use native.Mathlib.Omega.{arith}
use lib.Dec.{leb, ltb, eqb}
use lib.ListN.{length}
use borrow.Author.Tests.{leb-true, lt-ltb, le-ltb, ne_eqb}
use Rattle.model.specs.declared.Asked.{Asked}
use Rattle.model.specs.declared.Day.{Day}
use Rattle.model.specs.declared.Order as Stands
use Rattle.model.specs.declared.Event.{Event}
use Rattle.model.specs.declared.Event.TheVariants.{Open, Clock, Order, Cancel}
use Rattle.model.specs.declared.Command.{Command}
use Rattle.model.specs.declared.Command.TheVariants.{Malformed, Asks}
use Rattle.model.specs.Lists.{keep, all, any}
use Rattle.model.specs.Lines.{Line, lines_of, bare, is_digit, number_of, value_from, numbers_of, command_of, words_of, words_command, line_command}
use Rattle.model.specs.Refusals.{Rule, ◌when◌, first_of}
use Rattle.model.specs.Calls.{order_rules, order_call}
use Rattle.model.specs.Session.{Desk, answer, answers, session, event_answer, on_desk, order_answer, lent_trades}
use Rattle.model.proofs.Bools.{and_both, not_both}
use Rattle.text.specs.Answers.{rehearsal, replies_to}
use Rattle.text.proofs.Sessions.{answers_are}
use Rattle.file_records.specs.Records.{is_wide, is32, is_event}
use Rattle.file_scripts.specs.Scripts.{commands_of, stored, stored_of, script_of}
use Rattle.file_scripts.specs.Promises.{is_stored, answers_to_stored, Scripts}
use Rattle.file_scripts.proofs.Lines.{Held, script_asks}

-- ---- the numbers of a line have 32 bits

number_held : (w : List ℕ) (n : ℕ) → number_of w ≡ some n → n ≤ 4_294_967_295
unfolding number_of
number_held w n e = go (leb (value_from 0 w) 4_294_967_295) (bare w && all is_digit w) refl e
  where
    go : (t s : Bool) → leb (value_from 0 w) 4_294_967_295 ≡ t → cond (s && t) (some (value_from 0 w)) none ≡ some n → n ≤ 4_294_967_295
    go true true h f = let same : value_from 0 w ≡ n = cc in omega (arith, leb-true (value_from 0 w) 4_294_967_295 h)
    go true false h f = let z : ◌≡◌ {A = ℕ} 0 1 = cc in absurd (omega arith)
    go false true h f = let z : ◌≡◌ {A = ℕ} 0 1 = cc in absurd (omega arith)
    go false false h f = let z : ◌≡◌ {A = ℕ} 0 1 = cc in absurd (omega arith)

numbers_held : (ws : List (List ℕ)) (ns : List ℕ) → numbers_of ws ≡ some ns → Held ns
unfolding numbers_of
numbers_held [] ns e = let none : ns ≡ [] = cc in rw none tt
numbers_held (w ∷ ws) ns e = go (number_of w) (numbers_of ws) refl (numbers_held ws) e
  where
    go :
        (o : Option ℕ) (os : Option (List ℕ))
        → number_of w ≡ o
        → ((ms : List ℕ) → os ≡ some ms → Held ms)
        → (elim o as (λ _. Option (List ℕ)) [ none ↦ none | some n ↦ elim os as (λ _. Option (List ℕ)) [ none ↦ none | some ms ↦ some (n ∷ ms) ] ])
        ≡ some ns
        → Held ns
    go none os p h f = let z : ◌≡◌ {A = ℕ} 0 1 = cc in absurd (omega arith)
    go (some n) none p h f = let z : ◌≡◌ {A = ℕ} 0 1 = cc in absurd (omega arith)
    go (some n) (some ms) p h f = let same : ns ≡ n ∷ ms = cc in rw same (number_held w n p, h ms refl)

-- a command whose event a record can hold
unfoldable held_by : Command → Bool
held_by Malformed = true
held_by (Asks e) = is_event e

by_test : (t : Bool) (c d : Command) → held_by c ≡ true → held_by d ≡ true → held_by (cond t c d) ≡ true
by_test true c d e f = e
by_test false c d e f = f

fits : (n : ℕ) → n ≤ 4_294_967_295 → is32 n ≡ true
fits n h = lt-ltb n 4_294_967_296 (omega arith)

command_held : (c : ℕ) (ns : List ℕ) → Held ns → held_by (command_of c ns) ≡ true
unfolding command_of held_by is_event
command_held c [] h = refl
command_held c (t ∷ []) h = by_test (eqb c 84) (Asks (Clock t)) Malformed (fits t h.0) refl
command_held c (m ∷ n ∷ []) h =
    let two : is32 m && is32 n ≡ true = and_both (fits m h.0) (fits n h.1.0) in
    by_test (eqb c 68) (Asks (Open m n)) (cond (eqb c 67) (Asks (Cancel m n)) Malformed) two
    (by_test (eqb c 67) (Asks (Cancel m n)) Malformed two refl)
command_held c (x ∷ y ∷ z ∷ []) h = refl
command_held c (x ∷ y ∷ z ∷ u ∷ []) h = refl
command_held c (x ∷ y ∷ z ∷ u ∷ v ∷ []) h = refl
command_held c (x ∷ y ∷ z ∷ u ∷ v ∷ w ∷ []) h =
    by_test (eqb c 79) (Asks (Order (record { side = x; kind = y; account = z; quantity = u; price = v; balance = w }))) Malformed
    (and_both
    (and_both
    (and_both (and_both (and_both (fits x h.0) (fits y h.1.0)) (fits z h.1.1.0)) (fits u h.1.1.1.0))
    (fits v h.1.1.1.1.0))
    (fits w h.1.1.1.1.1.0))
    refl
command_held c (x ∷ y ∷ z ∷ u ∷ v ∷ w ∷ t ∷ ns) h = refl

words_held : (ws : List (List ℕ)) → held_by (words_command ws) ≡ true
unfolding words_command held_by
words_held [] = refl
words_held ([] ∷ ws) = refl
words_held ((c ∷ []) ∷ ws) = go (numbers_of ws) (numbers_held ws)
  where
    go :
        (o : Option (List ℕ))
        → ((ns : List ℕ) → o ≡ some ns → Held ns)
        → held_by (elim o as (λ _. Command) [ none ↦ Malformed | some ns ↦ command_of c ns ]) ≡ true
    go none h = refl
    go (some ns) h = command_held c ns (h ns refl)
words_held ((c ∷ d ∷ w) ∷ ws) = refl

line_held : (l : Line) → held_by (line_command l) ≡ true
unfolding line_command held_by
line_held l = by_test (l.ended && leb (length l.text) 79) (words_command (words_of l.text)) Malformed (words_held (words_of l.text)) refl

-- what is stored of a command, in front of others
store_held : (c : Command) (es : List Event) → held_by c ≡ true → all is_event es ≡ true → all is_event (stored c ++ es) ≡ true
unfolding stored held_by all
store_held Malformed es h k = k
store_held (Asks e) es h k = go (is_wide e)
  where
    go : (t : Bool) → all is_event (cond {A = List Event} t [] (e ∷ []) ++ es) ≡ true
    go true = k
    go false = and_both h k

store_narrow : (c : Command) (es : List Event) → any is_wide es ≡ false → any is_wide (stored c ++ es) ≡ false
unfolding stored any
store_narrow Malformed es k = k
store_narrow (Asks e) es k = go (is_wide e) refl
  where
    go : (t : Bool) → is_wide e ≡ t → any is_wide (cond {A = List Event} t [] (e ∷ []) ++ es) ≡ false
    go true w = k
    go false w = rw (w, k)

-- ---- a line that is not stored changes no desk

first_two : (u w : Bool) (rs : List Rule) → w ≡ true → first_of (15 when u ∷ 2 when w ∷ rs) ≡ 0 → ⊥
unfolding first_of ◌when◌
first_two true w rs e f = omega arith
first_two false w rs e f = let z : ◌≡◌ {A = ℕ} 2 0 = rw e at f in omega arith

-- an order with a side or kind above 255 is refused: 15 or 2 holds
not_allowed : (a : Asked) → is_wide (Order a) ≡ true → not (leb a.side 1 && leb a.kind 4) ≡ true
unfolding is_wide
not_allowed a w = go (leb a.side 1) (leb a.kind 4) refl refl
  where
    go : (s t : Bool) → leb a.side 1 ≡ s → leb a.kind 4 ≡ t → not (s && t) ≡ true
    go true true e f =
        let side : ltb 255 a.side ≡ false = le-ltb 255 a.side (omega (arith, leb-true a.side 1 e)) in
        let kind : ltb 255 a.kind ≡ false = le-ltb 255 a.kind (omega (arith, leb-true a.kind 4 f)) in
        absurd (not_both (rw (side, kind) at w) refl)
    go true false e f = refl
    go false t e f = refl

wide_refused : (d : Day) (a : Asked) (book : List Stands.Order) (room : ℕ) → is_wide (Order a) ≡ true → first_of (order_rules d a book room) ≡ 0 → ⊥
unfolding order_rules
wide_refused d a book room w e = first_two _ _ _ (not_allowed a w) e

wide_untouched : (a : Asked) (s : Desk) → is_wide (Order a) ≡ true → (order_answer a s).desk ≡ some s
unfolding order_answer order_call
wide_untouched a s w =
    rw (ne_eqb _ 0 (wide_refused s.day a s.book (length lent_trades) w))

event_untouched : (e : Event) (desk : Option Desk) → is_wide e ≡ true → (event_answer e desk).desk ≡ desk
unfolding event_answer on_desk is_wide
event_untouched (Open close mark) desk w = absurd (not_both w refl)
event_untouched (Clock t) desk w = absurd (not_both w refl)
event_untouched (Order a) none w = refl
event_untouched (Order a) (some s) w = wide_untouched a s w
event_untouched (Cancel account number) desk w = absurd (not_both w refl)

pub untouched : (c : Command) (desk : Option Desk) → ltb 0 (length (stored c)) ≡ false → (answer c desk).desk ≡ desk
unfolding answer stored
untouched Malformed desk e = refl
untouched (Asks e) desk f = event_untouched e desk (go (is_wide e) refl f)
  where
    go : (t : Bool) → is_wide e ≡ t → ltb 0 (length (cond {A = List Event} t [] (e ∷ []))) ≡ false → is_wide e ≡ true
    go true w f = w
    go false w f = absurd (not_both refl f)

pub left_out_lem : (ls : List Line) (desk : Option Desk) → answers (keep is_stored ls) desk ≡ answers_to_stored ls desk
unfolding answers keep answers_to_stored is_stored
left_out_lem [] desk = refl
left_out_lem (l ∷ ls) desk = go (ltb 0 (length (stored (line_command l)))) refl (left_out_lem ls)
  where
    go :
        (t : Bool)
        → ltb 0 (length (stored (line_command l))) ≡ t
        → ((desk : Option Desk) → answers (keep is_stored ls) desk ≡ answers_to_stored ls desk)
        → answers (cond t (l ∷ keep is_stored ls) (keep is_stored ls)) desk
        ≡ cond t (answer (line_command l) desk).text [] ++ answers_to_stored ls (answer (line_command l) desk).desk
    go true e more = ap (λ (t : List ℕ). (answer (line_command l) desk).text ++ t) (more (answer (line_command l) desk).desk)
    go false e more = rw (untouched (line_command l) desk e) (more desk)

-- ---- the session of what is stored

store_one :
    (c : Command) (l : Line) (ls : List Line) (es : List Event)
    → line_command l ≡ c
    → map Asks es ≡ map line_command ls
    → map Asks (stored c ++ es) ≡ map line_command (cond (ltb 0 (length (stored c))) (l ∷ ls) ls)
unfolding stored
store_one Malformed l ls es p m = m
store_one (Asks e) l ls es p m = go (is_wide e)
  where
    go :
        (t : Bool)
        → map Asks (cond {A = List Event} t [] (e ∷ []) ++ es)
        ≡ map line_command (cond (ltb 0 (length (cond {A = List Event} t [] (e ∷ [])))) (l ∷ ls) ls)
    go true = m
    go false = rw (p, m)

stored_asks : (ls : List Line) → map Asks (stored_of (map line_command ls)) ≡ map line_command (keep is_stored ls)
unfolding keep stored_of is_stored
stored_asks [] = refl
stored_asks (l ∷ ls) = store_one (line_command l) l (keep is_stored ls) (stored_of (map line_command ls)) refl (stored_asks ls)

pub stored_held : (ls : List Line) → all is_event (stored_of (map line_command ls)) ≡ true
unfolding stored_of all
stored_held [] = refl
stored_held (l ∷ ls) = store_held (line_command l) (stored_of (map line_command ls)) (line_held l) (stored_held ls)

pub stored_narrow : (cs : List Command) → any is_wide (stored_of cs) ≡ false
unfolding stored_of any
stored_narrow [] = refl
stored_narrow (c ∷ cs) = store_narrow c (stored_of cs) (stored_narrow cs)

same_session :
    (script : List ℕ) → session (script_of (stored_of (commands_of script))) ≡ answers (keep is_stored (lines_of script)) none
unfolding session
same_session script =
    answers_are (lines_of (script_of (stored_of (commands_of script)))) none
    ∙ ap (λ (cs : List Command). replies_to rehearsal cs none)
    (script_asks (stored_of (commands_of script)) (stored_held (lines_of script)) ∙ stored_asks (lines_of script))
    ∙ sym (answers_are (keep is_stored (lines_of script)) none)

pub scripts : Scripts
scripts =
    record {
      read_back = script_asks;
      held = λ script. stored_held (lines_of script);
      narrow = λ script. stored_narrow (commands_of script);
      same_session = same_session;
      left_out = left_out_lem;
    }
