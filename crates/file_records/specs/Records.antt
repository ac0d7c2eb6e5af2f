-- A record of 20 bytes: kind, side, order kind, zero, then four 32-bit numbers.
use Rattle.std.specs.Prelude.{ℕ, ◌+◌, ◌*◌, Bool, false, ◌&&◌, ◌||◌, List, ◌∷◌, ◌++◌, get_or, take, drop, leb, ltb, eqb, if◌then◌else◌}
use Rattle.model.specs.Lists.{all}
use Rattle.octets.specs.Numbers.{worth, digits}
use Rattle.model.specs.declared.Event.{Event}
use Rattle.model.specs.declared.Event.TheVariants.{Open, Clock, Order, Cancel}

-- ---- written

abbrev pub row : ℕ → ℕ → ℕ → ℕ → ℕ → ℕ → ℕ → List ℕ
row kind side orderKind a b c d =
    kind ∷ side ∷ orderKind ∷ 0 ∷ digits 4 a ++ digits 4 b ++ digits 4 c ++ digits 4 d

-- 1 open: close, mark, 0, 0; 2 clock: time, 0, 0, 0; 3 order: account, quantity, price, balance; 4 cancel: account, number, 0, 0
unfoldable pub record_bytes : Event → List ℕ
record_bytes (Open close mark) = row 1 0 0 close mark 0 0
record_bytes (Clock time) = row 2 0 0 time 0 0 0
record_bytes (Order o) = row 3 o.side o.kind o.account o.quantity o.price o.balance
record_bytes (Cancel account number) = row 4 0 0 account number 0 0

-- a side or order kind above 255
unfoldable pub is_wide : Event → Bool
is_wide (Open close mark) = false
is_wide (Clock time) = false
is_wide (Order o) = ltb 255 o.side || ltb 255 o.kind
is_wide (Cancel account number) = false

-- what a record can hold: numbers of 32 bits, as those of a line are
abbrev pub is32 : ℕ → Bool
is32 n = ltb n 4_294_967_296

unfoldable pub is_event : Event → Bool
is_event (Open close mark) = is32 close && is32 mark
is_event (Clock time) = is32 time
is_event (Order o) =
    is32 o.side
    && is32 o.kind
    && is32 o.account
    && is32 o.quantity
    && is32 o.price
    && is32 o.balance
is_event (Cancel account number) = is32 account && is32 number

-- ---- read

abbrev pub byte : List ℕ → ℕ → ℕ
byte b i = get_or b i 0

-- the 32-bit number that begins at byte i
abbrev pub four_at : List ℕ → ℕ → ℕ
four_at b i = worth (take 4 (drop i b))

unfoldable pub event_in : List ℕ → Event
event_in r =
    if eqb (byte r 0) 1 then Open (four_at r 4) (four_at r 8)
    else if eqb (byte r 0) 2 then Clock (four_at r 4)
    else if eqb (byte r 0) 3 then
    Order
    (record {
      side = byte r 1;
      kind = byte r 2;
      account = four_at r 4;
      quantity = four_at r 8;
      price = four_at r 12;
      balance = four_at r 16;
    })
    else Cancel (four_at r 4) (four_at r 8)

-- how many of the four numbers a kind uses
unfoldable pub used : ℕ → ℕ
used kind = if eqb kind 2 then 1 else if eqb kind 3 then 4 else 2

unfoldable pub all_zero : List ℕ → Bool
all_zero b = all (λ x. eqb x 0) b

-- kind 1 to 4; unused bytes are zero, side and order kind too outside kind 3
unfoldable pub is_record : List ℕ → Bool
is_record r =
    leb 1 (byte r 0)
    && leb (byte r 0) 4
    && (eqb (byte r 0) 3 || (eqb (byte r 1) 0 && eqb (byte r 2) 0))
    && eqb (byte r 3) 0
    && all_zero (drop (4 + 4 * used (byte r 0)) r)
