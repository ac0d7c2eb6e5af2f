-- The session of a converted script is the session that the script had. Assumes nothing.
use Prim.Native.Nat.{ℕ}
use mathlib.Core.Path.{◌≡◌, refl, sym, ap, ◌∙◌}
use mathlib.Core.Bool.{Bool, true, false, cond}
use mathlib.Core.List.{List, [], ◌∷◌, ◌++◌, map, append_assoc}
use mathlib.Core.Option.{Option, none}
use native.Mathlib.Omega.{arith}
use Rattle.model.specs.declared.Command.{Command}
use Rattle.model.specs.Lines.{Line, lines_of, line_command}
use Rattle.model.specs.Session.{Desk, answer, session}
use Rattle.text.specs.Answers.{rehearsal, replies_to}
use Rattle.text.proofs.Chunks.{Unended, Cut, cut, uncut, cut_up, onto_all, grown_first, lines_ended, lines_open}
use Rattle.text.proofs.Sessions.{answers_are}
use Rattle.convert.specs.Older.{older_command, older_answers, older_session}
use Rattle.convert.specs.Converting.{taken_as_five, converted}
use Rattle.convert.specs.Chunkwise.{added}
use Rattle.convert.proofs.OneLine.{asks_same, added_once}
use Rattle.convert.proofs.Bytes.{is_ended, is_open}

-- ---- the lines of a converted input

unended_both : (s t : List ℕ) → Unended s → Unended t → Unended (s ++ t)
unended_both [] t u v = v
unended_both (b ∷ s) t u v = (u.0, unended_both s t u.1 v)

added_unended : (t : List ℕ) → Unended (added t)
unfolding added
added_unended t = go (taken_as_five (record { text = t; ended = true }))
  where
    go : (x : Bool) → Unended (cond x (32 ∷ 48 ∷ []) [])
    go true = (λ e. omega arith, (λ e. omega arith, tt))
    go false = tt

line_unended : (t : List ℕ) → Unended t → Unended (t ++ added t)
line_unended t u = unended_both t (added t) u (added_unended t)

ended_is :
    (t rest : List ℕ) → Unended t → converted (t ++ 10 ∷ rest) ≡ (t ++ added t) ++ (10 ∷ converted rest)
ended_is t rest u = is_ended t rest u ∙ sym (append_assoc t (added t) (10 ∷ converted rest))

-- a line with its newline becomes one line
ended_line :
    (t rest : List ℕ)
    → Unended t
    → lines_of (converted (t ++ 10 ∷ rest)) ≡ record { text = t ++ added t; ended = true } ∷ lines_of (converted rest)
ended_line t rest u =
    ap lines_of (ended_is t rest u) ∙ lines_ended (t ++ added t) (converted rest) (line_unended t u)

-- a tail asks for nothing that could be taken
tail_same : (t : List ℕ) → map line_command (onto_all t []) ≡ map older_command (onto_all t [])
unfolding onto_all line_command older_command
tail_same [] = refl
tail_same (b ∷ t) = rw (grown_first b t [])

-- what the lines of a converted input ask for is what its lines asked for
pub lines_same : (input : List ℕ) → Cut input → map line_command (lines_of (converted input)) ≡ map older_command (lines_of input)
lines_same input (cut t rest u e c) =
    ap (λ (s : List ℕ). map line_command (lines_of (converted s))) e
    ∙ ap (map line_command) (ended_line t rest u)
    ∙ ap (λ (d : Command). d ∷ map line_command (lines_of (converted rest))) (asks_same t)
    ∙ ap (λ (ds : List Command). older_command (record { text = t; ended = true }) ∷ ds) (lines_same rest c)
    ∙ sym (ap (map older_command) (ap lines_of e ∙ lines_ended t rest u))
lines_same input (uncut u) =
    ap (λ (s : List ℕ). map line_command (lines_of s)) (is_open input u)
    ∙ ap (map line_command) (lines_open input u)
    ∙ tail_same input
    ∙ sym (ap (map older_command) (lines_open input u))

-- ---- the session

older_are : (ls : List Line) (desk : Option Desk) → older_answers ls desk ≡ replies_to rehearsal (map older_command ls) desk
unfolding older_answers replies_to
older_are [] desk = refl
older_are (l ∷ ls) desk =
    ap (λ (t : List ℕ). (answer (older_command l) desk).text ++ t) (older_are ls (answer (older_command l) desk).desk)

-- for every old script: the converted script gives, byte for byte, the replies that the script gave
pub same_session : (input : List ℕ) → session (converted input) ≡ older_session input
unfolding session older_session
same_session input =
    answers_are (lines_of (converted input)) none
    ∙ ap (λ (cs : List Command). replies_to rehearsal cs none) (lines_same input (cut_up input))
    ∙ sym (older_are (lines_of input) none)

-- and for every line of it, on any desk: the same reply, and the same desk after it
pub same_answer :
    (t : List ℕ) (desk : Option Desk)
    → answer (line_command (record { text = t ++ added t; ended = true })) desk
    ≡ answer (older_command (record { text = t; ended = true })) desk
same_answer t desk = ap (λ (c : Command). answer c desk) (asks_same t)

-- ---- a script that is converted already

again : (input : List ℕ) → Cut input → converted (converted input) ≡ converted input
again input (cut t rest u e c) =
    let once : converted input ≡ (t ++ added t) ++ (10 ∷ converted rest) = ap converted e ∙ ended_is t rest u in
    ap converted once
    ∙ is_ended (t ++ added t) (converted rest) (line_unended t u)
    ∙ rw (added_once t, again rest c) (sym once)
again input (uncut u) = ap converted (is_open input u)

-- stays as it is
pub converted_again : (input : List ℕ) → converted (converted input) ≡ converted input
converted_again input = again input (cut_up input)
