-- One record: what is written is read back, and 20 bytes that are a record are those of the event that they tell. Assumes nothing.
use Prim.Native.Nat.{ℕ, zero, suc, ◌+◌, ◌*◌, ◌≤◌}
use mathlib.Core.Path.{◌≡◌, refl, sym, ap, ap₂, ◌∙◌}
use mathlib.Core.Bool.{Bool, true, ◌&&◌, ◌||◌}
use mathlib.Core.List.{List, [], ◌∷◌, ◌++◌}
use native.Mathlib.Omega.{arith}
use lib.ListN.{length, take, drop, replicate, length-drop}
use lib.Seq.{length-take-le, take_all, take-add, drop-drop}
use lib.Dec.{leb, eqb}
use borrow.Author.Tests.{eqb-true, ltb-true, leb-true}
use Rattle.model.specs.Lists.{all}
use Rattle.model.proofs.Bools.{and_left, and_right, and_both}
use Rattle.octets.specs.Numbers.{AllBytes, worth, digits}
use Rattle.octets.proofs.Digits.{worth_digits, digits_worth, bytes_take, bytes_drop}
use Rattle.model.specs.declared.Event.{Event}
use Rattle.model.specs.declared.Event.TheVariants.{Open, Clock, Order, Cancel}
use Rattle.file_records.specs.Records.{record_bytes, is32, is_event, event_in, used, all_zero, is_record}

-- ---- written and read

pub length_record : (e : Event) → length (record_bytes e) ≡ 20
unfolding record_bytes digits
length_record (Open close mark) = refl
length_record (Clock time) = refl
length_record (Order o) = refl
length_record (Cancel account number) = refl

pub record_sound : (e : Event) → is_record (record_bytes e) ≡ true
unfolding record_bytes digits is_record used all_zero all
record_sound (Open close mark) = refl
record_sound (Clock time) = refl
record_sound (Order o) = refl
record_sound (Cancel account number) = refl

-- a number of 32 bits in its four bytes
back : (n : ℕ) → is32 n ≡ true → worth (digits 4 n) ≡ n
back n h = worth_digits 4 n (omega (arith, ltb-true n 4_294_967_296 h))

-- six tests that all hold
pub six :
    (a b c d e f : Bool)
    → a && b && c && d && e && f ≡ true
    → (a ≡ true) × (b ≡ true) × (c ≡ true) × (d ≡ true) × (e ≡ true) × (f ≡ true)
six a b c d e f h =
    let h₅ = and_left (a && b && c && d && e) f h in
    let h₄ = and_left (a && b && c && d) e h₅ in
    let h₃ = and_left (a && b && c) d h₄ in
    let h₂ = and_left (a && b) c h₃ in
    (and_left a b h₂, and_right a b h₂, and_right (a && b) c h₃, and_right (a && b && c) d h₄, and_right (a && b && c && d) e h₅, and_right (a && b && c && d && e) f h)

pub event_back : (e : Event) → is_event e ≡ true → event_in (record_bytes e) ≡ e
unfolding record_bytes event_in digits is_event
event_back (Open close mark) h = ap₂ Open (back close (and_left _ _ h)) (back mark (and_right (is32 close) _ h))
event_back (Clock time) h = ap Clock (back time h)
event_back (Order o) h =
    let k = six (is32 o.side) (is32 o.kind) (is32 o.account) (is32 o.quantity) (is32 o.price) (is32 o.balance) h in
    rw (back o.account k.2, back o.quantity k.3, back o.price k.4, back o.balance k.5)
event_back (Cancel account number) h =
    ap₂ Cancel (back account (and_left _ _ h)) (back number (and_right (is32 account) _ h))

-- ---- read and written

pub four_again : (b : List ℕ) → length b ≡ 4 → AllBytes b → digits 4 (worth b) ≡ b
four_again b e h = rw e at (digits_worth b h)

zero_take : (n : ℕ) (b : List ℕ) → all_zero b ≡ true → all_zero (take n b) ≡ true
unfolding all_zero all
zero_take zero b e = refl
zero_take (suc n) [] e = refl
zero_take (suc n) (x ∷ b) e = and_both (and_left (eqb x 0) _ e) (zero_take n b (and_right (eqb x 0) _ e))

pub zero_drop : (n : ℕ) (b : List ℕ) → all_zero b ≡ true → all_zero (drop n b) ≡ true
unfolding all_zero all
zero_drop zero b e = e
zero_drop (suc n) [] e = refl
zero_drop (suc n) (x ∷ b) e = zero_drop n b (and_right (eqb x 0) _ e)

-- bytes that are zero are as many zeros
pub all_zeros : (b : List ℕ) → all_zero b ≡ true → b ≡ replicate (length b) 0
unfolding all_zero all
all_zeros [] e = refl
all_zeros (x ∷ b) e = ap₂ ◌∷◌ (eqb-true x 0 (and_left (eqb x 0) _ e)) (all_zeros b (and_right (eqb x 0) _ e))

zero_four : (b : List ℕ) → length b ≡ 4 → all_zero b ≡ true → digits 4 0 ≡ b
unfolding digits
zero_four b e z = rw e at (sym (all_zeros b z))

-- the four numbers of a record
module _ (s : List ℕ) (long : length s ≡ 16) where
  quarter : (n : ℕ) → n ≤ 12 → length (take 4 (drop n s)) ≡ 4
  quarter n h = length-take-le 4 (drop n s) (rw length-drop (omega arith))

  quarters : take 4 s ++ take 4 (drop 4 s) ++ take 4 (drop 8 s) ++ take 4 (drop 12 s) ≡ s
  quarters =
      rw (← take-add 4 4 s, ← take-add 8 4 s, ← take-add 12 4 s) (take_all 16 s (omega arith))

  module _ (bytes : AllBytes s) where
    number_again : (n : ℕ) → n ≤ 12 → digits 4 (worth (take 4 (drop n s))) ≡ take 4 (drop n s)
    number_again n h = four_again (take 4 (drop n s)) (quarter n h) (bytes_take 4 (drop n s) (bytes_drop n s bytes))

    -- a number that is not used
    zero_again : (n k : ℕ) → n + k ≤ 12 → all_zero (drop n s) ≡ true → digits 4 0 ≡ take 4 (drop (n + k) s)
    zero_again n k h z =
        zero_four (take 4 (drop (n + k) s)) (quarter (n + k) h)
        (zero_take 4 (drop (n + k) s) (rw (drop-drop k n s) at (zero_drop k (drop n s) z)))

    all_four : (side kind : ℕ) → record_bytes (Order (record { side = side; kind = kind; account = worth (take 4 s); quantity = worth (take 4 (drop 4 s)); price = worth (take 4 (drop 8 s)); balance = worth (take 4 (drop 12 s)) })) ≡ 3 ∷ side ∷ kind ∷ 0 ∷ s
    unfolding record_bytes
    all_four side kind =
        ap (λ (l : List ℕ). 3 ∷ side ∷ kind ∷ 0 ∷ l)
        (rw (number_again 0 (omega arith), number_again 4 (omega arith), number_again 8 (omega arith), number_again 12 (omega arith)) quarters)

    -- kinds that use two numbers, and the one that uses one
    two_numbers :
        all_zero (drop 8 s) ≡ true
        → digits 4 (worth (take 4 s)) ++ digits 4 (worth (take 4 (drop 4 s))) ++ digits 4 0 ++ digits 4 0 ≡ s
    two_numbers z =
        ap₂ ◌++◌
        (ap₂ ◌++◌ (ap₂ ◌++◌ (number_again 0 (omega arith)) (number_again 4 (omega arith))) (zero_again 8 0 (omega arith) z))
        (zero_again 8 4 (omega arith) z)
        ∙ quarters

    one_number :
        all_zero (drop 4 s) ≡ true
        → digits 4 (worth (take 4 s)) ++ digits 4 0 ++ digits 4 0 ++ digits 4 0 ≡ s
    one_number z =
        ap₂ ◌++◌
        (ap₂ ◌++◌ (ap₂ ◌++◌ (number_again 0 (omega arith)) (zero_again 4 0 (omega arith) z)) (zero_again 4 4 (omega arith) z))
        (zero_again 4 8 (omega arith) z)
        ∙ quarters

-- by the kind of the record
by_kind :
    (a b c : ℕ) (s : List ℕ)
    → length s ≡ 16
    → AllBytes s
    → leb 1 a ≡ true
    → leb a 4 ≡ true
    → (eqb a 3 || (eqb b 0 && eqb c 0)) ≡ true
    → all_zero (drop (4 + 4 * used a) (a ∷ b ∷ c ∷ 0 ∷ s)) ≡ true
    → record_bytes (event_in (a ∷ b ∷ c ∷ 0 ∷ s)) ≡ a ∷ b ∷ c ∷ 0 ∷ s
unfolding record_bytes event_in used
by_kind zero b c s long bytes low high plain rest = absurd (omega (arith, leb-true 1 0 low))
by_kind (suc zero) b c s long bytes low high plain rest =
    rw (eqb-true b 0 (and_left (eqb b 0) _ plain), eqb-true c 0 (and_right (eqb b 0) _ plain))
    (ap (λ (l : List ℕ). 1 ∷ 0 ∷ 0 ∷ 0 ∷ l) (two_numbers s long bytes rest))
by_kind (suc (suc zero)) b c s long bytes low high plain rest =
    rw (eqb-true b 0 (and_left (eqb b 0) _ plain), eqb-true c 0 (and_right (eqb b 0) _ plain))
    (ap (λ (l : List ℕ). 2 ∷ 0 ∷ 0 ∷ 0 ∷ l) (one_number s long bytes rest))
by_kind (suc (suc (suc zero))) b c s long bytes low high plain rest = all_four s long bytes b c
by_kind (suc (suc (suc (suc zero)))) b c s long bytes low high plain rest =
    rw (eqb-true b 0 (and_left (eqb b 0) _ plain), eqb-true c 0 (and_right (eqb b 0) _ plain))
    (ap (λ (l : List ℕ). 4 ∷ 0 ∷ 0 ∷ 0 ∷ l) (two_numbers s long bytes rest))
by_kind (suc (suc (suc (suc (suc a))))) b c s long bytes low high plain rest = absurd (omega (arith, leb-true (suc (suc (suc (suc (suc a))))) 4 high))

pub record_again : (r : List ℕ) → length r ≡ 20 → AllBytes r → is_record r ≡ true → record_bytes (event_in r) ≡ r
unfolding is_record
record_again [] long bytes e = absurd (omega arith)
record_again (a ∷ []) long bytes e = absurd (omega arith)
record_again (a ∷ b ∷ []) long bytes e = absurd (omega arith)
record_again (a ∷ b ∷ c ∷ []) long bytes e = absurd (omega arith)
record_again (a ∷ b ∷ c ∷ d ∷ s) long bytes e =
    let k = five (leb 1 a) (leb a 4) (eqb a 3 || (eqb b 0 && eqb c 0)) (eqb d 0) _ e in
    let z : d ≡ 0 = eqb-true d 0 k.3 in
    let rest : all_zero (drop (4 + 4 * used a) (a ∷ b ∷ c ∷ 0 ∷ s)) ≡ true = rw z at k.4 in
    rw z (by_kind a b c s (omega arith) (λ i. bytes (suc (suc (suc (suc i))))) k.0 k.1 k.2 rest)
  where
    five :
        (a b c d e : Bool)
        → a && b && c && d && e ≡ true
        → (a ≡ true) × (b ≡ true) × (c ≡ true) × (d ≡ true) × (e ≡ true)
    five a b c d e h =
        let h₄ = and_left (a && b && c && d) e h in
        let h₃ = and_left (a && b && c) d h₄ in
        let h₂ = and_left (a && b) c h₃ in
        (and_left a b h₂, and_right a b h₂, and_right (a && b) c h₃, and_right (a && b && c) d h₄, and_right (a && b && c && d) e h)
