-- Beside ./run: without a letter of ./floor's own both programs have the same session, and a question changes neither day nor book.
-- Assumes nothing.
use Prim.Native.Nat.{ℕ}
use mathlib.Core.Path.{◌≡◌, refl, ap, ◌∙◌}
use mathlib.Core.Bool.{Bool, true, false, cond, not, ◌&&◌, ◌||◌}
use mathlib.Core.List.{List, [], ◌∷◌, ◌++◌}
use mathlib.Core.Option.{Option, none, some}
use native.Mathlib.Omega.{arith}
use lib.Dec.{eqb, leb}
use lib.ListN.{length}
use Rattle.model.specs.declared.Command.{Command}
use Rattle.model.specs.Lists.{keep}
use Rattle.model.specs.Words.{Each}
use Rattle.model.specs.Lines.{Line, lines_of, words_of, onto_word, numbers_of, line_command}
use Rattle.model.specs.Session.{Desk, answer, answers, session}
use Rattle.judge.specs.declared.Claim.{Claim}
use Rattle.floors.specs.declared.Question.{Question}
use Rattle.floors.specs.declared.Wish.{Wish}
use Rattle.floors.specs.declared.Wish.TheVariants.{Says, Wants}
use Rattle.floors.specs.Wishes.{question_of, question_with, words_question, line_question, wish_of, line_wish}
use Rattle.floors.specs.Floor.{Floor, command_answer, question_answer, wish_answer, floor_answers, no_floor, floor_session}
use Rattle.floors.specs.Beside.{is_own_letter, is_plain, is_question, text_unless, other_replies}

-- ---- a line that begins with another letter is no question

record Other (c : ℕ) : Type 0 where
  r : eqb c 82 ≡ false
  l : eqb c 76 ≡ false
  q : eqb c 81 ≡ false
  j : eqb c 74 ≡ false
  s : eqb c 83 ≡ false

other : (c : ℕ) → not (is_own_letter c) ≡ true → Other c
unfolding is_own_letter
other c e = go (eqb c 82) (eqb c 76) (eqb c 81) (eqb c 74) (eqb c 83) refl refl refl refl refl e
  where
    go :
        (x y z w v : Bool)
        → eqb c 82 ≡ x
        → eqb c 76 ≡ y
        → eqb c 81 ≡ z
        → eqb c 74 ≡ w
        → eqb c 83 ≡ v
        → not (x || y || z || w || v) ≡ true
        → Other c
    go true y z w v r l q j s e = let f : ◌≡◌ {A = ℕ} 0 1 = cc in absurd (omega arith)
    go false true z w v r l q j s e = let f : ◌≡◌ {A = ℕ} 0 1 = cc in absurd (omega arith)
    go false false true w v r l q j s e = let f : ◌≡◌ {A = ℕ} 0 1 = cc in absurd (omega arith)
    go false false false true v r l q j s e = let f : ◌≡◌ {A = ℕ} 0 1 = cc in absurd (omega arith)
    go false false false false true r l q j s e = let f : ◌≡◌ {A = ℕ} 0 1 = cc in absurd (omega arith)
    go false false false false false r l q j s e = record { r = r; l = l; q = q; j = j; s = s }

no_question : (c : ℕ) (ns : List ℕ) → Other c → question_of c ns ≡ none
unfolding question_of
no_question c [] o = rw (o.r, o.s)
no_question c (x ∷ []) o = rw o.j
no_question c (x ∷ y ∷ []) o = rw o.l
no_question c (x ∷ y ∷ z ∷ []) o = rw o.q
no_question c (x ∷ y ∷ z ∷ u ∷ ns) o = refl

no_numbers_lem : (c : ℕ) (n : Option (List ℕ)) → Other c → question_with c n ≡ none
unfolding question_with
no_numbers_lem c none o = refl
no_numbers_lem c (some ns) o = no_question c ns o

no_words : (c : ℕ) (ws : List (List ℕ)) → Other c → words_question (onto_word c ws) ≡ none
unfolding words_question onto_word numbers_of
no_words c [] o = no_numbers_lem c (some []) o
no_words c ([] ∷ ws) o = no_numbers_lem c (numbers_of ws) o
no_words c ((d ∷ w) ∷ ws) o = refl

no_line : (t : List ℕ) (b : Bool) → is_plain (record { text = t; ended = b }) ≡ true → words_question (words_of t) ≡ none
unfolding is_plain words_of words_question
no_line [] b e = refl
no_line (c ∷ cs) b e = go (eqb c 32)
  where
    go : (s : Bool) → words_question (cond s ([] ∷ words_of cs) (onto_word c (words_of cs))) ≡ none
    go true = refl
    go false = no_words c (words_of cs) (other c e)

pub plain_says : (l : Line) → is_plain l ≡ true → line_wish l ≡ Says (line_command l)
unfolding line_wish line_question wish_of
plain_says l e = go (l.ended && leb (length l.text) 79)
  where
    go : (b : Bool) → wish_of (cond b (words_question (words_of l.text)) none) (line_command l) ≡ Says (line_command l)
    go true = rw (no_line l.text l.ended e)
    go false = refl

-- what is said is what ./run reads
says_read : (l : Line) (c : Command) → line_wish l ≡ Says c → line_command l ≡ c
unfolding line_wish wish_of
says_read l c e = go (line_question l) e
  where
    go : (o : Option Question) → wish_of o (line_command l) ≡ Says c → line_command l ≡ c
    go none e = cc
    go (some q) e = let z : ◌≡◌ {A = ℕ} 0 1 = cc in absurd (omega arith)

-- ---- a question changes neither day nor book

pub desk_stays : (q : Question) (f : Floor) → (question_answer q f).floor.desk ≡ f.desk
unfolding question_answer
desk_stays q f = go f.desk f.noted
  where
    go : (k : Option Desk) (cs : List Claim) → (question_answer q (record { desk = k; noted = cs })).floor.desk ≡ k
    go none cs = refl
    go (some s) cs = refl

-- so the replies to all other lines are those of ./run to them alone
pub others_same :
    (ls : List Line) (f : Floor)
    → other_replies ls f ≡ answers (keep (λ l. not (is_question (line_wish l))) ls) f.desk
unfolding other_replies answers keep is_question text_unless wish_answer command_answer
others_same [] f = refl
others_same (l ∷ ls) f = go (line_wish l) refl (others_same ls)
  where
    go :
        (w : Wish)
        → line_wish l ≡ w
        → ((g : Floor) → other_replies ls g ≡ answers (keep (λ l. not (is_question (line_wish l))) ls) g.desk)
        → other_replies (l ∷ ls) f ≡ answers (keep (λ l. not (is_question (line_wish l))) (l ∷ ls)) f.desk
    go (Says c) e h =
        rw (other_replies, keep, e, answers, says_read l c e) (ap (λ (t : List ℕ). (answer c f.desk).text ++ t) (h (command_answer c f).floor))
    go (Wants q) e h =
        rw (other_replies, keep, e) (h (question_answer q f).floor ∙ ap (answers (keep (λ l. not (is_question (line_wish l))) ls)) (desk_stays q f))

-- ---- the same session

answers_same : (ls : List Line) (f : Floor) → Each (λ l. is_plain l ≡ true) ls → floor_answers ls f ≡ answers ls f.desk
unfolding floor_answers answers wish_answer command_answer
answers_same [] f p = refl
answers_same (l ∷ ls) f p =
    rw (plain_says l p.0)
    (ap (λ (t : List ℕ). (answer (line_command l) f.desk).text ++ t)
    (answers_same ls (command_answer (line_command l) f).floor p.1))

pub same_session : (input : List ℕ) → Each (λ l. is_plain l ≡ true) (lines_of input) → floor_session input ≡ session input
unfolding floor_session session no_floor
same_session input p = answers_same (lines_of input) no_floor p
