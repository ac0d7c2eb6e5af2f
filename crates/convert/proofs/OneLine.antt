-- A line with balance 0 after its five numbers asks for what it asked for without, and every other line asks for what it
-- asked for. Assumes nothing.
use Prim.Native.Nat.{ℕ, ◌≤◌, ◌<◌}
use mathlib.Core.Path.{◌≡◌, refl, sym, ap, ◌∙◌}
use mathlib.Core.Bool.{Bool, true, false, cond, not, ◌&&◌}
use mathlib.Core.List.{List, [], ◌∷◌, ◌++◌, append-nil}
use mathlib.Core.Option.{Option, none, some}
use native.Mathlib.Omega.{arith}
use lib.Dec.{eqb, leb}
use lib.ListN.{length, length-append}
use borrow.Author.Tests.{eqb-true, le-leb}
use Rattle.model.specs.declared.Asked.{Asked}
use Rattle.model.specs.declared.Command.{Command}
use Rattle.model.specs.declared.Command.TheVariants.{Malformed, Asks}
use Rattle.model.specs.declared.Event.TheVariants.{Open, Clock, Order, Cancel}
use Rattle.model.specs.Lists.{all}
use Rattle.model.specs.Lines.{
  Line,
  words_of,
  onto_word,
  is_digit,
  value_from,
  bare,
  number_of,
  numbers_of,
  command_of,
  words_command,
  line_command,
}
use Rattle.model.proofs.Bools.{and_left, and_right, not_both, not_true_false}
use Rattle.parsing.specs.Words.{command_with}
use Rattle.convert.specs.Older.{older_order, older_of, older_words, older_command}
use Rattle.convert.specs.Converting.{are_five, five_words, taken_as_five}
use Rattle.convert.specs.Chunkwise.{added}
use Rattle.convert.specs.Promises.{is_order}
use Rattle.convert.proofs.Balances.{words_append, with_last, numbers_more, five_short}

-- ---- a letter with its numbers

-- an order's numbers, by how many they are
order_five : (ns : List ℕ) → eqb (length ns) 5 ≡ true → command_of 79 (ns ++ (0 ∷ [])) ≡ older_order ns
unfolding command_of older_order
order_five [] e = absurd (not_both e refl)
order_five (a ∷ []) e = absurd (not_both e refl)
order_five (a ∷ b ∷ []) e = absurd (not_both e refl)
order_five (a ∷ b ∷ d ∷ []) e = absurd (not_both e refl)
order_five (a ∷ b ∷ d ∷ f ∷ []) e = absurd (not_both e refl)
order_five (a ∷ b ∷ d ∷ f ∷ g ∷ []) e = refl
order_five (a ∷ b ∷ d ∷ f ∷ g ∷ h ∷ ns) e = let z = eqb-true (length (a ∷ b ∷ d ∷ f ∷ g ∷ h ∷ ns)) 5 e in absurd (omega arith)

order_other : (ns : List ℕ) → eqb (length ns) 5 ≡ false → command_of 79 ns ≡ older_order ns
unfolding command_of older_order
order_other [] e = refl
order_other (a ∷ []) e = refl
order_other (a ∷ b ∷ []) e = refl
order_other (a ∷ b ∷ d ∷ []) e = refl
order_other (a ∷ b ∷ d ∷ f ∷ []) e = refl
order_other (a ∷ b ∷ d ∷ f ∷ g ∷ []) e = absurd (not_both refl e)
order_other (a ∷ b ∷ d ∷ f ∷ g ∷ h ∷ []) e = refl
order_other (a ∷ b ∷ d ∷ f ∷ g ∷ h ∷ i ∷ ns) e = refl

by_test : (t : Bool) (c d : Command) → is_order c ≡ false → is_order d ≡ false → is_order (cond t c d) ≡ false
by_test true c d e f = e
by_test false c d e f = f

and_never : (t : Bool) → false ≡ (t && false)
and_never true = refl
and_never false = refl

-- a letter with numbers and a 0 after them is an order exactly when they are an order's first five
is_order_with : (c : ℕ) (ns : List ℕ) → is_order (command_of c (ns ++ (0 ∷ []))) ≡ (eqb c 79 && eqb (length ns) 5)
unfolding command_of is_order
is_order_with c [] = by_test (eqb c 84) (Asks (Clock 0)) Malformed refl refl ∙ and_never (eqb c 79)
is_order_with c (a ∷ []) =
    by_test (eqb c 68) (Asks (Open a 0)) (cond (eqb c 67) (Asks (Cancel a 0)) Malformed) refl (by_test (eqb c 67) (Asks (Cancel a 0)) Malformed refl refl)
    ∙ and_never (eqb c 79)
is_order_with c (a ∷ b ∷ []) = and_never (eqb c 79)
is_order_with c (a ∷ b ∷ d ∷ []) = and_never (eqb c 79)
is_order_with c (a ∷ b ∷ d ∷ f ∷ []) = and_never (eqb c 79)
is_order_with c (a ∷ b ∷ d ∷ f ∷ g ∷ []) = go (eqb c 79) _
  where
    go : (t : Bool) (x : Asked) → is_order (cond t (Asks (Order x)) Malformed) ≡ (t && true)
    go true x = refl
    go false x = refl
is_order_with c (a ∷ b ∷ d ∷ f ∷ g ∷ h ∷ ns) =
    let e : eqb (length (a ∷ b ∷ d ∷ f ∷ g ∷ h ∷ ns)) 5 ≡ false =
    not_true_false (λ t. let z = eqb-true (length (a ∷ b ∷ d ∷ f ∷ g ∷ h ∷ ns)) 5 t in omega arith)
    in
    rw e (many ns ∙ and_never (eqb c 79))
  where
    many : (ns : List ℕ) → is_order (command_of c (a ∷ b ∷ d ∷ f ∷ g ∷ h ∷ ns ++ (0 ∷ []))) ≡ false
    many [] = refl
    many (i ∷ ns) = refl

-- an order's numbers are five exactly when the older form takes them and the newer does not
order_exactly : (ns : List ℕ) → eqb (length ns) 5 ≡ (is_order (older_order ns) && not (is_order (command_of 79 ns)))
unfolding command_of older_order is_order
order_exactly [] = refl
order_exactly (a ∷ []) = refl
order_exactly (a ∷ b ∷ []) = refl
order_exactly (a ∷ b ∷ d ∷ []) = refl
order_exactly (a ∷ b ∷ d ∷ f ∷ []) = refl
order_exactly (a ∷ b ∷ d ∷ f ∷ g ∷ []) = refl
order_exactly (a ∷ b ∷ d ∷ f ∷ g ∷ h ∷ []) = refl
order_exactly (a ∷ b ∷ d ∷ f ∷ g ∷ h ∷ i ∷ ns) =
    not_true_false
    (λ t. let z = eqb-true (length (a ∷ b ∷ d ∷ f ∷ g ∷ h ∷ i ∷ ns)) 5 t in omega arith)

-- ---- the numbers of some words

abbrev older_with : ℕ → Option (List ℕ) → Command
older_with c none = Malformed
older_with c (some ns) = older_of c ns

with_five : (c : ℕ) (o : Option (List ℕ)) → (eqb c 79 && are_five o) ≡ true → command_with c (with_last o 0) ≡ older_with c o
unfolding command_with older_of are_five
with_five c none e = absurd (not_both (and_right (eqb c 79) false e) refl)
with_five c (some ns) e =
    let f = and_left (eqb c 79) (eqb (length ns) 5) e in
    rw (f, eqb-true c 79 f) (order_five ns (and_right (eqb c 79) (eqb (length ns) 5) e))

with_other : (c : ℕ) (o : Option (List ℕ)) → (eqb c 79 && are_five o) ≡ false → command_with c o ≡ older_with c o
unfolding command_with older_of are_five
with_other c none e = refl
with_other c (some ns) e = go (eqb c 79) refl e
  where
    go :
        (t : Bool)
        → eqb c 79 ≡ t
        → (t && eqb (length ns) 5) ≡ false
        → command_of c ns ≡ cond t (older_order ns) (command_of c ns)
    go true p f = rw (eqb-true c 79 p) (order_other ns f)
    go false p f = refl

with_order : (c : ℕ) (o : Option (List ℕ)) → is_order (command_with c (with_last o 0)) ≡ (eqb c 79 && are_five o)
unfolding command_with are_five is_order
with_order c none = and_never (eqb c 79)
with_order c (some ns) = is_order_with c ns

neither : (t : Bool) → false ≡ (t && not t)
neither true = refl
neither false = refl

with_exactly :
    (c : ℕ) (o : Option (List ℕ))
    → (eqb c 79 && are_five o) ≡ (is_order (older_with c o) && not (is_order (command_with c o)))
unfolding command_with older_of are_five is_order
with_exactly c none = sym (and_never (eqb c 79))
with_exactly c (some ns) = go (eqb c 79) refl
  where
    go :
        (t : Bool)
        → eqb c 79 ≡ t
        → (t && eqb (length ns) 5) ≡ (is_order (cond t (older_order ns) (command_of c ns)) && not (is_order (command_of c ns)))
    go true p = rw (eqb-true c 79 p) (order_exactly ns)
    go false p = neither (is_order (command_of c ns))

-- ---- words

command_is : (c : ℕ) (ws : List (List ℕ)) → words_command ((c ∷ []) ∷ ws) ≡ command_with c (numbers_of ws)
unfolding words_command command_with
command_is c ws = go (numbers_of ws)
  where
    go : (o : Option (List ℕ)) → (elim o as (λ _. Command) [ none ↦ Malformed | some ns ↦ command_of c ns ]) ≡ command_with c o
    go none = refl
    go (some ns) = refl

older_is : (c : ℕ) (ws : List (List ℕ)) → older_words ((c ∷ []) ∷ ws) ≡ older_with c (numbers_of ws)
unfolding older_words
older_is c ws = go (numbers_of ws)
  where
    go : (o : Option (List ℕ)) → (elim o as (λ _. Command) [ none ↦ Malformed | some ns ↦ older_of c ns ]) ≡ older_with c o
    go none = refl
    go (some ns) = refl

-- words with a 0 after them
abbrev balanced : List (List ℕ) → List (List ℕ)
balanced ws = ws ++ ((48 ∷ []) ∷ [])

zero_is : number_of (48 ∷ []) ≡ some 0
unfolding number_of bare all is_digit value_from
zero_is = refl

balanced_is : (c : ℕ) (ws : List (List ℕ)) → words_command ((c ∷ []) ∷ balanced ws) ≡ command_with c (with_last (numbers_of ws) 0)
balanced_is c ws = command_is c (balanced ws) ∙ ap (command_with c) (numbers_more ws (48 ∷ []) 0 zero_is)

words_five : (ws : List (List ℕ)) → five_words ws ≡ true → words_command (balanced ws) ≡ older_words ws
unfolding five_words
words_five [] e = absurd (not_both e refl)
words_five ([] ∷ ws) e = absurd (not_both e refl)
words_five ((c ∷ []) ∷ ws) e = balanced_is c ws ∙ with_five c (numbers_of ws) e ∙ sym (older_is c ws)
words_five ((c ∷ d ∷ w) ∷ ws) e = absurd (not_both e refl)

words_other : (ws : List (List ℕ)) → five_words ws ≡ false → words_command ws ≡ older_words ws
unfolding five_words words_command older_words
words_other [] e = refl
words_other ([] ∷ ws) e = refl
words_other ((c ∷ []) ∷ ws) e = command_is c ws ∙ with_other c (numbers_of ws) e ∙ sym (older_is c ws)
words_other ((c ∷ d ∷ w) ∷ ws) e = refl

words_order : (ws : List (List ℕ)) → is_order (words_command (balanced ws)) ≡ five_words ws
unfolding five_words words_command is_order numbers_of command_of
words_order [] = refl
words_order ([] ∷ ws) = refl
words_order ((c ∷ []) ∷ ws) = ap is_order (balanced_is c ws) ∙ with_order c (numbers_of ws)
words_order ((c ∷ d ∷ w) ∷ ws) = refl

words_exactly : (ws : List (List ℕ)) → five_words ws ≡ (is_order (older_words ws) && not (is_order (words_command ws)))
unfolding five_words words_command older_words is_order
words_exactly [] = refl
words_exactly ([] ∷ ws) = refl
words_exactly ((c ∷ []) ∷ ws) = with_exactly c (numbers_of ws) ∙ rw (older_is c ws, command_is c ws)
words_exactly ((c ∷ d ∷ w) ∷ ws) = refl

-- ---- lines

-- taken as an order of five numbers: an order in the older form, and none now
pub taken_exactly : (l : Line) → taken_as_five l ≡ (is_order (older_command l) && not (is_order (line_command l)))
unfolding taken_as_five older_command line_command is_order
taken_exactly l = go l.ended (leb (length l.text) 79)
  where
    go :
        (x y : Bool)
        → (x && y && five_words (words_of l.text))
        ≡ (is_order (cond (x && y) (older_words (words_of l.text)) Malformed)
        && not (is_order (cond (x && y) (words_command (words_of l.text)) Malformed)))
    go true true = words_exactly (words_of l.text)
    go true false = refl
    go false y = refl

abbrev ended : List ℕ → Line
ended t = record { text = t; ended = true }

module _ (t : List ℕ) where
  abbrev with_balance : List ℕ
  with_balance = t ++ 32 ∷ 48 ∷ []

  balance_words : words_of with_balance ≡ balanced (words_of t)
  unfolding words_of onto_word
  balance_words = words_append t (48 ∷ [])

  -- an order of five numbers is never too long, nor is it with its balance
  taken_short : taken_as_five (ended t) ≡ true → length t ≤ 56
  unfolding taken_as_five
  taken_short e = five_short t (and_right (leb (length t) 79) (five_words (words_of t)) e)

  pub long_none : 56 < length t → taken_as_five (ended t) ≡ false
  long_none h = not_true_false (λ e. let k = taken_short e in omega arith)

  -- with balance 0 after it, it is an order
  pub is_five : length t ≤ 77 → is_order (line_command (ended with_balance)) ≡ taken_as_five (ended t)
  unfolding line_command taken_as_five
  is_five h =
      let l : length with_balance ≤ 79 = rw length-append (omega arith) in
      rw (le-leb (length with_balance) 79 l, le-leb (length t) 79 (omega arith), balance_words) (words_order (words_of t))

  five_asks : taken_as_five (ended t) ≡ true → line_command (ended with_balance) ≡ older_command (ended t)
  unfolding line_command older_command taken_as_five
  five_asks e =
      let f = and_right (leb (length t) 79) (five_words (words_of t)) e in
      let k = taken_short e in
      let l : length with_balance ≤ 79 = rw length-append (omega arith) in
      rw (le-leb (length with_balance) 79 l, le-leb (length t) 79 (omega arith), balance_words) (words_five (words_of t) f)

  other_asks : taken_as_five (ended t) ≡ false → line_command (ended t) ≡ older_command (ended t)
  unfolding line_command older_command taken_as_five
  other_asks e = go (leb (length t) 79) e
    where
      go :
          (x : Bool)
          → (x && five_words (words_of t)) ≡ false
          → cond x (words_command (words_of t)) Malformed ≡ cond x (older_words (words_of t)) Malformed
      go true f = words_other (words_of t) f
      go false f = refl

  -- what a line asks for is what it asked for before it was converted
  pub asks_same : line_command (ended (t ++ added t)) ≡ older_command (ended t)
  unfolding added
  asks_same = go (taken_as_five (ended t)) refl
    where
      go :
          (x : Bool)
          → taken_as_five (ended t) ≡ x
          → line_command (ended (t ++ cond x (32 ∷ 48 ∷ []) [])) ≡ older_command (ended t)
      go true e = five_asks e
      go false e = rw append-nil (other_asks e)

pub nothing_added : (t : List ℕ) → taken_as_five (ended t) ≡ false → added t ≡ []
unfolding added
nothing_added t e = rw e

-- a converted line is no order of five numbers
pub added_once : (t : List ℕ) → added (t ++ added t) ≡ []
unfolding added
added_once t = go (taken_as_five (ended t)) refl
  where
    go : (x : Bool) → taken_as_five (ended t) ≡ x → added (t ++ cond x (32 ∷ 48 ∷ []) []) ≡ []
    go true e =
        let k = taken_short t e in
        let b : Line = ended (with_balance t) in
        let o : is_order (line_command b) ≡ true = is_five t (omega arith) ∙ e in
        nothing_added (with_balance t) (taken_exactly b ∙ rw o (sym (and_never (is_order (older_command b)))))
    go false e = rw append-nil (nothing_added t e)
