-- The lines of the rehearsal program, as bytes: what a line asks for, and how a reply is printed.
use Rattle.std.specs.Prelude.{ℕ, zero, suc, ◌+◌, ◌-◌, ◌*◌, ◌/◌, ◌%◌, Bool, true, false, not, ◌&&◌, List, [], ◌∷◌, ◌++◌, length, leb, ltb, eqb, if◌then◌else◌}
use Prim.Native.Char.{code}
use Rattle.std.proofs.Math.Option.{Option, none, some}
use Rattle.model.specs.declared.Trade.{Trade}
use Rattle.model.specs.declared.Command.{Command}
use Rattle.model.specs.declared.Command.TheVariants.{Malformed, Asks}
use Rattle.model.specs.declared.Event.TheVariants.{Open, Clock, Order, Cancel}
use Rattle.model.specs.declared.OpenReply as OpenReply
use Rattle.model.specs.declared.OrderReply as OrderReply
use Rattle.model.specs.declared.CancelReply as CancelReply
use Rattle.model.specs.declared.ClockReply as ClockReply
use Rattle.model.specs.Lists.{all}
use Rattle.model.specs.Replies.{open_numbers, clock_numbers, order_numbers, cancel_numbers}

abbrev newline : ℕ
newline = code "\n"

abbrev space : ℕ
space = code " "

abbrev digit0 : ℕ
digit0 = code "0"

-- ---- lines

pub record Line : Type 0 where
  pub text : List ℕ
  pub ended : Bool

-- the line that goes on with a byte in front
unfoldable pub onto : ℕ → List Line → List Line
onto b [] = record { text = b ∷ []; ended = false } ∷ []
onto b (l ∷ ls) = record { text = b ∷ l.text; ended = l.ended } ∷ ls

-- cut after each newline; an unended tail is a line too
unfoldable pub lines_of : List ℕ → List Line
lines_of [] = []
lines_of (b ∷ bs) =
    if eqb b newline then record { text = []; ended = true } ∷ lines_of bs else onto b (lines_of bs)

-- ---- words and numbers

unfoldable pub onto_word : ℕ → List (List ℕ) → List (List ℕ)
onto_word b [] = (b ∷ []) ∷ []
onto_word b (w ∷ ws) = (b ∷ w) ∷ ws

-- cut at each space: two spaces together, or one at either end, leave an empty word
unfoldable pub words_of : List ℕ → List (List ℕ)
words_of [] = [] ∷ []
words_of (b ∷ bs) = if eqb b space then [] ∷ words_of bs else onto_word b (words_of bs)

unfoldable pub is_digit : ℕ → Bool
is_digit b = leb digit0 b && leb b (code "9")

unfoldable pub value_from : ℕ → List ℕ → ℕ
value_from n [] = n
value_from n (b ∷ bs) = value_from (10 * n + (b - digit0)) bs

-- no extra leading zero: a 0 in front stands alone
unfoldable pub bare : List ℕ → Bool
bare [] = false
bare (b ∷ []) = true
bare (b ∷ c ∷ bs) = not (eqb b digit0)

-- decimals up to 4,294,967,295
unfoldable pub number_of : List ℕ → Option ℕ
number_of w = if bare w && all is_digit w && leb (value_from 0 w) 4_294_967_295 then some (value_from 0 w) else none

unfoldable pub numbers_of : List (List ℕ) → Option (List ℕ)
numbers_of [] = some []
numbers_of (w ∷ ws) =
    elim (number_of w) [ none ↦ none | some n ↦ elim (numbers_of ws) [ none ↦ none | some ns ↦ some (n ∷ ns) ] ]

-- ---- what a line asks for

-- a letter, with as many numbers as it wants
unfoldable pub command_of : ℕ → List ℕ → Command
command_of c [] = Malformed
command_of c (time ∷ []) = if eqb c (code "T") then Asks (Clock time) else Malformed
command_of c (m ∷ n ∷ []) =
    if eqb c (code "D") then Asks (Open m n) else if eqb c (code "C") then Asks (Cancel m n) else Malformed
command_of c (x ∷ y ∷ z ∷ []) = Malformed
command_of c (x ∷ y ∷ z ∷ u ∷ []) = Malformed
command_of c (x ∷ y ∷ z ∷ u ∷ v ∷ []) = Malformed
command_of c (side ∷ kind ∷ account ∷ quantity ∷ price ∷ balance ∷ []) =
    if eqb c (code "O")
    then
    Asks
    (Order
    (record { side = side; kind = kind; account = account; quantity = quantity; price = price; balance = balance }))
    else Malformed
command_of c (x ∷ y ∷ z ∷ u ∷ v ∷ w ∷ t ∷ ns) = Malformed

unfoldable pub words_command : List (List ℕ) → Command
words_command [] = Malformed
words_command ([] ∷ ws) = Malformed
words_command ((c ∷ []) ∷ ws) = elim (numbers_of ws) [ none ↦ Malformed | some ns ↦ command_of c ns ]
words_command ((c ∷ d ∷ w) ∷ ws) = Malformed

-- at most 80 bytes with the newline
unfoldable pub line_command : Line → Command
line_command l = if l.ended && leb (length l.text) 79 then words_command (words_of l.text) else Malformed

-- ---- replies

-- the decimal digits of n, of which there are at most `most`
unfoldable pub digits : ℕ → ℕ → List ℕ
digits zero n = []
digits (suc most) n =
    if ltb n 10 then (digit0 + n) ∷ [] else digits most (n / 10) ++ ((digit0 + n % 10) ∷ [])

-- each number with a space in front; 20 digits hold every 64-bit number
unfoldable pub spaced : List ℕ → List ℕ
spaced [] = []
spaced (n ∷ ns) = space ∷ digits 20 n ++ spaced ns

-- a letter and numbers, with single spaces and a newline
unfoldable pub reply : ℕ → List ℕ → List ℕ
reply c ns = c ∷ spaced ns ++ (newline ∷ [])

unfoldable pub refusal_line : ℕ → List ℕ
refusal_line n = reply (code "X") (n ∷ [])

unfoldable pub trade_lines : List Trade → List ℕ
trade_lines [] = []
trade_lines (t ∷ ts) =
    reply (code "M") (t.price ∷ t.quantity ∷ t.buyer ∷ t.seller ∷ t.buyerleft ∷ t.sellerleft ∷ []) ++ trade_lines ts

-- a reply by its numbers, of which the refusal's stands first: X and that one, or the letter and the values
unfoldable pub reply_line : ℕ → List ℕ → List ℕ
reply_line c [] = reply c []
reply_line c (n ∷ values) = if eqb n 0 then reply c values else refusal_line n

unfoldable pub open_line : OpenReply.OpenReply → List ℕ
open_line r = reply_line (code "D") (open_numbers r)

unfoldable pub clock_line : ClockReply.ClockReply → List ℕ
clock_line r = reply_line (code "K") (clock_numbers r)

unfoldable pub order_line : OrderReply.OrderReply → List ℕ
order_line r = reply_line (code "A") (order_numbers r)

-- the number that was asked for, in front of the values
unfoldable pub with_number : ℕ → List ℕ → List ℕ
with_number number [] = []
with_number number (n ∷ values) = n ∷ number ∷ values

unfoldable pub cancel_line : ℕ → CancelReply.CancelReply → List ℕ
cancel_line number r = reply_line (code "W") (with_number number (cancel_numbers r))
