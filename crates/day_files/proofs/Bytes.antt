-- What is written is bytes: none is above 255 where no side or order kind is. Assumes nothing.
use Prim.Native.Nat.{ℕ, zero, suc, ◌+◌, ◌-◌, ◌*◌, ◌/◌, ◌%◌}
use mathlib.Core.Path.{◌≡◌, refl}
use mathlib.Core.Bool.{Bool, true, false, ◌||◌}
use mathlib.Core.List.{List, [], ◌∷◌, ◌++◌}
use native.Mathlib.Omega.{arith}
use lib.ListN.{length, take, drop, replicate}
use lib.Dec.{ltb}
use borrow.Author.Tests.{ltb-true, ltb-false, lt-ltb}
use Rattle.model.specs.Lists.{all, any}
use Rattle.model.proofs.Bools.{and_left, and_right, and_both, not_both}
use Rattle.octets.specs.Numbers.{AllBytes, digits, flat}
use Rattle.model.specs.declared.Event.{Event}
use Rattle.model.specs.declared.Event.TheVariants.{Open, Clock, Order, Cancel}
use Rattle.file_records.specs.Records.{record_bytes, is_wide}
use Rattle.file_blocks.specs.Blocks.{places_bytes, body_bytes, block_bytes}
use Rattle.day_files.specs.Files.{blocks_from, file_bytes}

is_byte : ℕ → Bool
is_byte x = ltb x 256

both : (a b : List ℕ) → all is_byte a ≡ true → all is_byte b ≡ true → all is_byte (a ++ b) ≡ true
unfolding all
both [] b h k = k
both (x ∷ a) b h k = and_both (and_left (is_byte x) _ h) (both a b (and_right (is_byte x) _ h) k)

digits_bytes : (n x : ℕ) → all is_byte (digits n x) ≡ true
unfolding all digits is_byte
digits_bytes zero x = refl
digits_bytes (suc n) x = and_both (lt-ltb (x % 256) 256 (omega arith)) (digits_bytes n (x / 256))

zeros_bytes : (n : ℕ) → all is_byte (replicate n 0) ≡ true
unfolding all is_byte
zeros_bytes zero = refl
zeros_bytes (suc n) = zeros_bytes n

neither : (a b : Bool) → a || b ≡ false → (a ≡ false) × (b ≡ false)
neither true b e = absurd (not_both refl e)
neither false b e = (refl, e)

numbers_bytes : (a b c d : ℕ) → all is_byte (digits 4 a ++ digits 4 b ++ digits 4 c ++ digits 4 d) ≡ true
numbers_bytes a b c d =
    both (digits 4 a ++ digits 4 b ++ digits 4 c) (digits 4 d)
    (both (digits 4 a ++ digits 4 b) (digits 4 c) (both (digits 4 a) (digits 4 b) (digits_bytes 4 a) (digits_bytes 4 b)) (digits_bytes 4 c))
    (digits_bytes 4 d)

record_bytes_lem : (e : Event) → is_wide e ≡ false → all is_byte (record_bytes e) ≡ true
unfolding record_bytes is_wide all is_byte
record_bytes_lem (Open close mark) w = numbers_bytes close mark 0 0
record_bytes_lem (Clock time) w = numbers_bytes time 0 0 0
record_bytes_lem (Order o) w =
    let k = neither (ltb 255 o.side) (ltb 255 o.kind) w in
    let side : is_byte o.side ≡ true = lt-ltb o.side 256 (omega (arith, ltb-false 255 o.side k.0)) in
    let kind : is_byte o.kind ≡ true = lt-ltb o.kind 256 (omega (arith, ltb-false 255 o.kind k.1)) in
    rw (side, kind) (numbers_bytes o.account o.quantity o.price o.balance)
record_bytes_lem (Cancel account number) w = numbers_bytes account number 0 0

records_bytes : (es : List Event) → any is_wide es ≡ false → all is_byte (flat record_bytes es) ≡ true
unfolding flat any all
records_bytes [] w = refl
records_bytes (e ∷ es) w =
    let k = neither (is_wide e) (any is_wide es) w in
    both (record_bytes e) (flat record_bytes es) (record_bytes_lem e k.0) (records_bytes es k.1)

body_bytes_lem : (number : ℕ) (es : List Event) → any is_wide es ≡ false → all is_byte (body_bytes number es) ≡ true
unfolding body_bytes places_bytes
body_bytes_lem number es w =
    both (digits 4 number ++ digits 2 (length es) ++ (0 ∷ 0 ∷ [])) _
    (both (digits 4 number ++ digits 2 (length es)) (0 ∷ 0 ∷ [])
    (both (digits 4 number) (digits 2 (length es)) (digits_bytes 4 number) (digits_bytes 2 (length es)))
    (zeros_bytes 2))
    (both (flat record_bytes es) _ (records_bytes es w) (zeros_bytes (20 * (25 - length es))))

block_bytes_lem : (number : ℕ) (es : List Event) → any is_wide es ≡ false → all is_byte (block_bytes number es) ≡ true
unfolding block_bytes
block_bytes_lem number es w = both (body_bytes number es) _ (body_bytes_lem number es w) (digits_bytes 4 _)

any_take : (n : ℕ) (es : List Event) → any is_wide es ≡ false → any is_wide (take n es) ≡ false
unfolding any
any_take zero es w = refl
any_take (suc n) [] w = refl
any_take (suc n) (e ∷ es) w = let k = neither (is_wide e) _ w in rw k.0 (any_take n es k.1)

any_drop : (n : ℕ) (es : List Event) → any is_wide es ≡ false → any is_wide (drop n es) ≡ false
unfolding any
any_drop zero es w = w
any_drop (suc n) [] w = refl
any_drop (suc n) (e ∷ es) w = any_drop n es (neither (is_wide e) _ w).1

blocks_bytes : (blocks number : ℕ) (es : List Event) → any is_wide es ≡ false → all is_byte (blocks_from blocks number es) ≡ true
unfolding blocks_from all
blocks_bytes zero number es w = refl
blocks_bytes (suc blocks) number es w =
    both (block_bytes number (take 25 es)) _ (block_bytes_lem number (take 25 es) (any_take 25 es w))
    (blocks_bytes blocks (suc number) (drop 25 es) (any_drop 25 es w))

each_byte : (b : List ℕ) → all is_byte b ≡ true → AllBytes b
unfolding all is_byte
each_byte [] e i = omega arith
each_byte (x ∷ b) e zero = ltb-true x 256 (and_left (is_byte x) _ e)
each_byte (x ∷ b) e (suc i) = each_byte b (and_right (is_byte x) _ e) i

pub of_bytes : (es : List Event) → any is_wide es ≡ false → AllBytes (file_bytes es)
unfolding file_bytes
of_bytes es w = each_byte _ (blocks_bytes ((length es + 24) / 25) 1 es w)
