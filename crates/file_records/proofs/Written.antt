-- A record put into bytes, number by number. Assumes nothing.
use Prim.Native.Nat.{ℕ, ◌≤◌, ◌<◌}
use mathlib.Core.Path.{◌≡◌, refl, ◌∙◌}
use mathlib.Core.Bool.{Bool, true, false, ◌||◌}
use mathlib.Core.List.{List, [], ◌∷◌}
use lib.ListN.{get_or}
use lib.Dec.{ltb}
use borrow.Author.Tests.{ltb-false, lt-ltb, le-ltb}
use Rattle.model.specs.declared.Asked.{Asked}
use Rattle.model.specs.declared.Event.{Event}
use Rattle.model.specs.declared.Event.TheVariants.{Open, Clock, Order, Cancel}
use Rattle.model.proofs.Bools.{not_both}
use Rattle.octets.specs.Numbers.{digits}
use Rattle.file_records.specs.Records.{row, record_bytes, is_wide}

pub neither : (a b : Bool) → a || b ≡ false → (a ≡ false) × (b ≡ false)
neither true b e = absurd (not_both refl e)
neither false b e = (refl, e)

pub wide_side : (a : Asked) {e : Event} → e ≡ Order a → 255 < a.side → ltb 255 a.side ≡ is_wide e
unfolding is_wide
wide_side a e h = rw (e, lt-ltb 255 a.side h)

pub wide_kind : (a : Asked) {e : Event} → e ≡ Order a → a.side ≤ 255 → ltb 255 a.kind ≡ is_wide e
unfolding is_wide
wide_kind a e h = rw (e, le-ltb 255 a.side h)

pub no_order : (e : Event) → ((a : Asked) → e ≡ Order a → ⊥) → false ≡ is_wide e
unfolding is_wide
no_order (Open close mark) h = refl
no_order (Clock time) h = refl
no_order (Order a) h = absurd (h a refl)
no_order (Cancel account number) h = refl

-- a side and an order kind that are not wide are bytes
pub narrow : (a : Asked) {e : Event} → e ≡ Order a → is_wide e ≡ false → (a.side ≤ 255) × (a.kind ≤ 255)
unfolding is_wide
narrow a e w =
    let k = neither (ltb 255 a.side) (ltb 255 a.kind) (rw e at w) in
    (ltb-false 255 a.side k.0, ltb-false 255 a.kind k.1)

-- a row of bytes: kind, side and order kind, and four numbers of four bytes each
pub row_is :
    {kind side order : ℕ} {a b c d : List ℕ} (x y z w : ℕ)
    → a ≡ digits 4 x
    → b ≡ digits 4 y
    → c ≡ digits 4 z
    → d ≡ digits 4 w
    → kind
    ∷ side
    ∷ order
    ∷ 0
    ∷ get_or a 0 0
    ∷ get_or a 1 0
    ∷ get_or a 2 0
    ∷ get_or a 3 0
    ∷ get_or b 0 0
    ∷ get_or b 1 0
    ∷ get_or b 2 0
    ∷ get_or b 3 0
    ∷ get_or c 0 0
    ∷ get_or c 1 0
    ∷ get_or c 2 0
    ∷ get_or c 3 0
    ∷ get_or d 0 0
    ∷ get_or d 1 0
    ∷ get_or d 2 0
    ∷ get_or d 3 0
    ∷ []
    ≡ row kind side order x y z w
unfolding digits
row_is x y z w e f g h = rw (e, f, g, h)

-- the row of each kind of event is its record
pub row_open : {e : Event} {r : List ℕ} {close mark : ℕ} → e ≡ Open close mark → r ≡ row 1 0 0 close mark 0 0 → r ≡ record_bytes e
unfolding record_bytes
row_open e f = f ∙ rw e

pub row_clock : {e : Event} {r : List ℕ} {time : ℕ} → e ≡ Clock time → r ≡ row 2 0 0 time 0 0 0 → r ≡ record_bytes e
unfolding record_bytes
row_clock e f = f ∙ rw e

pub row_order :
    (a : Asked) {e : Event} {r : List ℕ} {side kind : ℕ}
    → e ≡ Order a
    → side ≡ a.side
    → kind ≡ a.kind
    → r ≡ row 3 side kind a.account a.quantity a.price a.balance
    → r ≡ record_bytes e
unfolding record_bytes
row_order a e s k f = f ∙ rw (e, s, k)

pub row_cancel :
    {e : Event} {r : List ℕ} {account number : ℕ} → e ≡ Cancel account number → r ≡ row 4 0 0 account number 0 0 → r ≡ record_bytes e
unfolding record_bytes
row_cancel e f = f ∙ rw e
