-- The line of an event, read back: its words, its numbers, and what it asks for. Assumes nothing.
use Prim.Native.Nat.{ℕ, ◌*◌, ◌≤◌, ◌<◌}
use mathlib.Core.Path.{◌≡◌, refl, ap, ◌∙◌}
use mathlib.Core.Bool.{true}
use mathlib.Core.List.{List, [], ◌∷◌, ◌++◌, map, append_assoc, append-nil}
use mathlib.Core.Option.{some}
use native.Mathlib.Omega.{arith}
use lib.ListN.{length, length-append}
use borrow.Author.Tests.{le-leb, ne_eqb, ltb-true}
use Rattle.model.specs.declared.Asked.{Asked}
use Rattle.model.specs.declared.Event.{Event}
use Rattle.model.specs.declared.Event.TheVariants.{Open, Clock, Order, Cancel}
use Rattle.model.specs.declared.Command.{Command}
use Rattle.model.specs.declared.Command.TheVariants.{Asks}
use Rattle.model.specs.Lists.{all}
use Rattle.model.specs.Lines.{lines_of, words_of, onto_word, digits, is_digit, numbers_of, command_of, words_command, line_command, spaced, reply}
use Rattle.model.proofs.Bools.{and_left, and_right}
use Rattle.model.specs.Words.{Each}
use Rattle.parsing.proofs.Words.{digit_from}
use Rattle.text.proofs.Chunks.{Unended, lines_ended}
use Rattle.octets.specs.Numbers.{flat}
use Rattle.file_records.specs.Records.{is32, is_event}
use Rattle.file_records.proofs.Recorded.{six}
use Rattle.file_scripts.specs.Scripts.{commands_of, letter_of, numbers_in, event_line, script_of}
use Rattle.file_scripts.proofs.Printed.{digits_digits, number_back, number_few}

-- ---- words

-- no space in it
abbrev Spaceless : List ℕ → Type 0
Spaceless w = Each (λ b. b ≡ 32 → ⊥) w

word_alone : (w : List ℕ) → Spaceless w → words_of w ≡ w ∷ []
unfolding words_of onto_word
word_alone [] u = refl
word_alone (b ∷ w) u = rw (words_of, ne_eqb b 32 u.0, word_alone w u.1)

word_first : (w s : List ℕ) → Spaceless w → words_of (w ++ 32 ∷ s) ≡ w ∷ words_of s
unfolding words_of onto_word
word_first [] s u = refl
word_first (b ∷ w) s u = rw (words_of, ne_eqb b 32 u.0, word_first w s u.1)

-- digits are no spaces, and no newlines
digits_plain : (w : List ℕ) (c : ℕ) → c < 48 → all is_digit w ≡ true → Each (λ b. b ≡ c → ⊥) w
unfolding all
digits_plain [] c h e = tt
digits_plain (b ∷ w) c h e =
    let k = digit_from b (and_left (is_digit b) _ e) in
    (λ z. omega arith, digits_plain w c h (and_right (is_digit b) _ e))

words_of_lem : (w ns : List ℕ) → Spaceless w → words_of (w ++ spaced ns) ≡ w ∷ map (digits 20) ns
unfolding spaced
words_of_lem w [] u = rw append-nil (word_alone w u)
words_of_lem w (n ∷ ns) u =
    word_first w (digits 20 n ++ spaced ns) u
    ∙ ap (λ (ws : List (List ℕ)). w ∷ ws) (words_of_lem (digits 20 n) ns (digits_plain (digits 20 n) 32 (omega arith) (digits_digits 20 n)))

-- ---- numbers

abbrev pub Held : List ℕ → Type 0
Held ns = Each (λ n. n ≤ 4_294_967_295) ns

numbers_back : (ns : List ℕ) → Held ns → numbers_of (map (digits 20) ns) ≡ some ns
unfolding numbers_of
numbers_back [] h = refl
numbers_back (n ∷ ns) h = rw (numbers_of, number_back n h.0, numbers_back ns h.1)

spaced_few : (ns : List ℕ) → Held ns → length (spaced ns) ≤ 11 * length ns
unfolding spaced
spaced_few [] h = omega arith
spaced_few (n ∷ ns) h =
    let f = number_few n h.0 in let g = spaced_few ns h.1 in rw length-append (omega arith)

spaced_unended : (ns : List ℕ) → Unended (spaced ns)
unfolding spaced
spaced_unended [] = tt
spaced_unended (n ∷ ns) =
    (λ z. omega arith, each_append (digits 20 n) (spaced ns) (digits_plain (digits 20 n) 10 (omega arith) (digits_digits 20 n)) (spaced_unended ns))
  where
    each_append : (a b : List ℕ) → Unended a → Unended b → Unended (a ++ b)
    each_append [] b u v = v
    each_append (x ∷ a) b u v = (u.0, each_append a b u.1 v)

-- ---- a line

words_ask : (c : ℕ) (ws : List (List ℕ)) (ns : List ℕ) → numbers_of ws ≡ some ns → words_command ((c ∷ []) ∷ ws) ≡ command_of c ns
unfolding words_command
words_ask c ws ns e = rw (words_command, e)

short_line : (t : List ℕ) → length t ≤ 79 → line_command (record { text = t; ended = true }) ≡ words_command (words_of t)
unfolding line_command
short_line t h = rw (le-leb (length t) 79 h)

line_asks :
    (c : ℕ) (ns : List ℕ)
    → (c ≡ 32 → ⊥)
    → Held ns
    → length ns ≤ 6
    → line_command (record { text = c ∷ spaced ns; ended = true }) ≡ command_of c ns
line_asks c ns u h few =
    short_line (c ∷ spaced ns) (omega (arith, spaced_few ns h))
    ∙ ap words_command (words_of_lem (c ∷ []) ns (u, tt))
    ∙ words_ask c (map (digits 20) ns) ns (numbers_back ns h)

lines_more :
    (c : ℕ) (ns rest : List ℕ)
    → (c ≡ 10 → ⊥)
    → lines_of (reply c ns ++ rest) ≡ record { text = c ∷ spaced ns; ended = true } ∷ lines_of rest
unfolding reply
lines_more c ns rest u = rw append_assoc (lines_ended (c ∷ spaced ns) rest (u, spaced_unended ns))

-- ---- an event

held : (n : ℕ) → is32 n ≡ true → n ≤ 4_294_967_295
held n h = omega (arith, ltb-true n 4_294_967_296 h)

event_held : (e : Event) → is_event e ≡ true → Held (numbers_in e)
unfolding is_event numbers_in
event_held (Open close mark) h = (held close (and_left _ _ h), (held mark (and_right (is32 close) _ h), tt))
event_held (Clock time) h = (held time h, tt)
event_held (Order a) h =
    let k = six (is32 a.side) (is32 a.kind) (is32 a.account) (is32 a.quantity) (is32 a.price) (is32 a.balance) h in
    (held a.side k.0, (held a.kind k.1, (held a.account k.2, (held a.quantity k.3, (held a.price k.4, (held a.balance k.5, tt))))))
event_held (Cancel account number) h = (held account (and_left _ _ h), (held number (and_right (is32 account) _ h), tt))

-- a letter is neither a space nor a newline, wants at most six numbers, and is told by them
record Form (e : Event) : Type 0 where
  pub no_space : letter_of e ≡ 32 → ⊥
  pub no_newline : letter_of e ≡ 10 → ⊥
  pub few : length (numbers_in e) ≤ 6
  pub asks : command_of (letter_of e) (numbers_in e) ≡ Asks e

form : (e : Event) → Form e
unfolding letter_of numbers_in command_of
form (Open close mark) = record { no_space = λ z. omega arith; no_newline = λ z. omega arith; few = omega arith; asks = refl }
form (Clock time) = record { no_space = λ z. omega arith; no_newline = λ z. omega arith; few = omega arith; asks = refl }
form (Order a) = record { no_space = λ z. omega arith; no_newline = λ z. omega arith; few = omega arith; asks = refl }
form (Cancel account number) = record { no_space = λ z. omega arith; no_newline = λ z. omega arith; few = omega arith; asks = refl }

-- the lines of a script of events ask for these events
pub script_asks : (es : List Event) → all is_event es ≡ true → commands_of (script_of es) ≡ map Asks es
unfolding script_of event_line flat all lines_of
script_asks [] h = refl
script_asks (e ∷ es) h =
    let f : Form e = form e in
    let own : is_event e ≡ true = and_left (is_event e) _ h in
    let line : line_command (record { text = letter_of e ∷ spaced (numbers_in e); ended = true }) ≡ Asks e =
    line_asks (letter_of e) (numbers_in e) f.no_space (event_held e own) f.few ∙ f.asks in
    ap (map line_command) (lines_more (letter_of e) (numbers_in e) (flat event_line es) f.no_newline)
    ∙ rw line (ap (λ (cs : List Command). Asks e ∷ cs) (script_asks es (and_right (is_event e) _ h)))

-- ---- an event's line, by its kind

pub line_open : {e : Event} {close mark : ℕ} → e ≡ Open close mark → reply 68 (close ∷ mark ∷ []) ≡ event_line e
unfolding event_line letter_of numbers_in
line_open e = rw e

pub line_clock : {e : Event} {time : ℕ} → e ≡ Clock time → reply 84 (time ∷ []) ≡ event_line e
unfolding event_line letter_of numbers_in
line_clock e = rw e

pub line_order :
    {e : Event} {a : Asked}
    → e ≡ Order a
    → reply 79 (a.side ∷ a.kind ∷ a.account ∷ a.quantity ∷ a.price ∷ a.balance ∷ []) ≡ event_line e
unfolding event_line letter_of numbers_in
line_order e = rw e

pub line_cancel : {e : Event} {account number : ℕ} → e ≡ Cancel account number → reply 67 (account ∷ number ∷ []) ≡ event_line e
unfolding event_line letter_of numbers_in
line_cancel e = rw e
