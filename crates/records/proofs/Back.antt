-- What is stored is read back, and bytes that are read and stored again are the same bytes. Assumes nothing.
use Prim.Native.Nat.{ℕ, zero, suc, ◌+◌, ◌*◌, ◌/◌, ◌≤◌}
use mathlib.Core.Path.{◌≡◌, refl, sym, ap, ◌∙◌}
use mathlib.Core.List.{List, [], ◌∷◌, ◌++◌, append_assoc}
use native.Mathlib.Omega.{arith}
use native.Mathlib.Nat.{mul-suc, mul-zero, add_comm, mul-le-mul_left}
use lib.ListN.{length, get_or, take, drop, length-append, length-take, length-drop, take-append-drop}
use lib.Seq.{take_at, drop_at, drop-append-le, take-add, length-take-le}
use Rattle.model.specs.declared.Order.{Order}
use Rattle.model.specs.declared.Declaration.{Declaration}
use Rattle.model.specs.declared.Trade.{Trade}
use Rattle.model.specs.declared.Day.{Day}
use Rattle.records.specs.Layout.{order_of, row_of, declaration_of, declaration_row}
use Rattle.model.specs.Words.{Each}
use Rattle.book.proofs.Lists.{each}
use Rattle.octets.specs.Numbers.{AllBytes, digits, parts, flat}
use Rattle.octets.proofs.Digits.{length_digits, worth_digits, digits_worth, few_bytes, bytes_take, bytes_drop}
use Rattle.octets.proofs.Parts.{length_flat, length_parts, flat_append, flat_drop}
use Rattle.replies.proofs.Signs.{word_signed, signed_word}
use Rattle.records.specs.Layout.{Word, Fits, DeclarationFits, DayFits, number_in, numbers, order_in, declaration_in, day_of, day_in, book_in, declarations_in, prices_in, bytes, order_bytes, declaration_bytes, trade_in, trade_bytes, trades_in, trades_bytes, book_bytes, declarations_bytes, day_row, day_bytes, over}
use Rattle.records.proofs.Sizes.{length_order, length_declaration, length_trade, length_book, length_declarations}

pub length_book_in : (b : List ℕ) → length (book_in b) ≡ length b / 40
unfolding book_in
length_book_in b = length_parts order_in 40 (length b / 40) b

pub length_declarations_in : (b : List ℕ) → length (declarations_in b) ≡ length b / 56
unfolding declarations_in
length_declarations_in b = length_parts declaration_in 56 (length b / 56) b

pub length_trades_in : (b : List ℕ) → length (trades_in b) ≡ length b / 48
unfolding trades_in
length_trades_in b = length_parts trade_in 48 (length b / 48) b

pub length_prices_in : (b : List ℕ) → length (prices_in b) ≡ length b / 8
unfolding prices_in numbers
length_prices_in b = length_parts number_in 8 (length b / 8) b

-- ---- read and stored again, over the record and its size

module _ {A : Type 0} (f : List ℕ → A) (g : A → List ℕ) (size : ℕ)
    (same : (b : List ℕ) → size ≤ length b → AllBytes b → g (f b) ≡ take size b) where
  flat_parts : (n : ℕ) (b : List ℕ) → size * n ≤ length b → AllBytes b → flat g (parts f size n b) ≡ take (size * n) b
  unfolding flat parts
  flat_parts zero b h s = rw mul-zero
  flat_parts (suc n) b h s =
      let m : size * suc n ≡ size + size * n = mul-suc size n ∙ add_comm (size * n) size in
      let k : size + size * n ≤ length b = rw m at h in
      let r : size * n ≤ length (drop size b) = rw length-drop (omega arith) in
      rw (m, take-add, same b (omega arith) s, flat_parts n (drop size b) r (bytes_drop size b s))

  -- behind new records stand the old ones, with their old bytes
  module _ (long : (x : A) → length (g x) ≡ size) (new : List A) (n : ℕ) (b : List ℕ) (h : size * n ≤ length b) (s : AllBytes b)
      (k : length new ≤ n) where
    new_bytes : flat g (new ++ drop (length new) (parts f size n b)) ≡ flat g new ++ drop (size * length new) (take (size * n) b)
    new_bytes =
        let l : length new ≤ length (parts f size n b) = rw length_parts k in
        flat_append g new (drop (length new) (parts f size n b))
        ∙ ap (λ (t : List ℕ). flat g new ++ t)
        (flat_drop g size long (length new) (parts f size n b) l ∙ ap (drop (size * length new)) (flat_parts n b h s))

    over_front : over (flat g (new ++ drop (length new) (parts f size n b))) b ≡ over (flat g new) b
    unfolding over
    over_front =
        let t : List ℕ = flat g new in
        let j : ℕ = size * length new in
        let m : ℕ = size * n in
        let tl : length t ≡ j = length_flat g size long new in
        let ml : length (take m b) ≡ m = length-take-le m b h in
        let jm : j ≤ m = mul-le-mul_left size k in
        let le : j ≤ length (take m b) = omega arith in
        let x : length (t ++ drop j (take m b)) ≡ m = simp (length-append, length-drop) (omega arith) in
        let y : drop j (take m b) ++ drop m b ≡ drop j b =
        sym (drop-append-le j (take m b) (drop m b) le) ∙ ap (drop j) (take-append-drop m b) in
        rw (new_bytes, x, tl, append_assoc t (drop j (take m b)) (drop m b), y)

pub length_over : (new old : List ℕ) → length new ≤ length old → length (over new old) ≡ length old
unfolding over
length_over new old h = simp (length-append, length-drop) (omega arith)

-- as many as there are places for, and the rest behind them
kept : (new b : List ℕ) (n : ℕ) → new ≡ take n b → n ≤ length b → over new b ≡ b
unfolding over
kept new b n e h = rw (e, length-take-le n b h) (take-append-drop n b)

number_again : (b : List ℕ) → 8 ≤ length b → AllBytes b → digits 8 (number_in b) ≡ take 8 b
number_again b h s = rw (length-take-le 8 b h) at (digits_worth (take 8 b) (bytes_take 8 b s))

numbers_again : (n : ℕ) (b : List ℕ) → 8 * n ≤ length b → AllBytes b → bytes (numbers n b) ≡ take (8 * n) b
unfolding numbers bytes
numbers_again n b h s = flat_parts number_in (digits 8) 8 number_again n b h s

order_again : (b : List ℕ) → 40 ≤ length b → AllBytes b → order_bytes (order_in b) ≡ take 40 b
unfolding numbers parts
order_again b h s = numbers_again 5 b h s

pub book_kept : (b : List ℕ) → AllBytes b → over (book_bytes (book_in b)) b ≡ b
unfolding book_bytes book_in
book_kept b s =
    let h : 40 * (length b / 40) ≤ length b = omega arith in
    kept _ b (40 * (length b / 40)) (flat_parts order_in order_bytes 40 order_again (length b / 40) b h s) h

declaration_again : (b : List ℕ) → 56 ≤ length b → AllBytes b → declaration_bytes (declaration_in b) ≡ take 56 b
unfolding numbers parts
declaration_again b h s = numbers_again 7 b h s

pub declarations_kept : (b : List ℕ) → AllBytes b → over (declarations_bytes (declarations_in b)) b ≡ b
unfolding declarations_bytes declarations_in
declarations_kept b s =
    let h : 56 * (length b / 56) ≤ length b = omega arith in
    kept _ b (56 * (length b / 56)) (flat_parts declaration_in declaration_bytes 56 declaration_again (length b / 56) b h s) h

trade_again : (b : List ℕ) → 48 ≤ length b → AllBytes b → trade_bytes (trade_in b) ≡ take 48 b
unfolding numbers parts
trade_again b h s = numbers_again 6 b h s

pub trades_again : (b : List ℕ) → AllBytes b → trades_bytes (trades_in b) ≡ take (48 * (length b / 48)) b
unfolding trades_bytes trades_in
trades_again b s = flat_parts trade_in trade_bytes 48 trade_again (length b / 48) b (omega arith) s

pub trades_kept : (b : List ℕ) → AllBytes b → over (trades_bytes (trades_in b)) b ≡ b
trades_kept b s = kept _ b (48 * (length b / 48)) (trades_again b s) (omega arith)

pub trades_front :
    (new : List Trade) (b : List ℕ)
    → AllBytes b
    → length new ≤ length b / 48
    → over (trades_bytes (new ++ drop (length new) (trades_in b))) b ≡ over (trades_bytes new) b
unfolding trades_bytes trades_in
trades_front new b s k = over_front trade_in trade_bytes 48 trade_again length_trade new (length b / 48) b (omega arith) s k

-- each number that is read is one of 64 bits
pub numbers_fit : (n i : ℕ) (b : List ℕ) → AllBytes b → Word (get_or (parts number_in 8 n b) i 0)
unfolding parts
numbers_fit zero i b s = omega arith
numbers_fit (suc n) zero b s = few_bytes 8 (take 8 b) (rw length-take (omega arith)) (bytes_take 8 b s)
numbers_fit (suc n) (suc i) b s = numbers_fit n i (drop 8 b) (bytes_drop 8 b s)

day_again : (b : List ℕ) → 352 ≤ length b → AllBytes b → day_bytes (day_in b) ≡ take 352 b
unfolding day_bytes day_in numbers parts
day_again b h s =
    let surplus : Word (get_or (numbers 44 b) 35 0) = numbers_fit 44 35 b s in
    rw (word_signed (get_or (numbers 44 b) 35 0) surplus) (numbers_again 44 b h s)

pub day_kept : (b : List ℕ) → length b ≡ 352 → AllBytes b → over (day_bytes (day_in b)) b ≡ b
day_kept b h s = kept _ b 352 (day_again b (omega arith) s) (omega arith)

pub prices_kept : (b : List ℕ) → AllBytes b → over (bytes (prices_in b)) b ≡ b
unfolding prices_in
prices_kept b s =
    let h : 8 * (length b / 8) ≤ length b = omega arith in
    kept _ b (8 * (length b / 8)) (numbers_again (length b / 8) b h s) h

pub prices_front :
    (new b : List ℕ)
    → AllBytes b
    → length new ≤ length b / 8
    → over (bytes (new ++ drop (length new) (prices_in b))) b ≡ over (bytes new) b
unfolding bytes prices_in numbers
prices_front new b s k = over_front number_in (digits 8) 8 number_again (length_digits 8) new (length b / 8) b (omega arith) s k

-- ---- stored and read again, over the record and its size

module _ {A : Type 0} (f : List ℕ → A) (g : A → List ℕ) (size : ℕ) (long : (x : A) → length (g x) ≡ size) where
  parts_flat :
      (xs : List A) (rest : List ℕ)
      → Each (λ x. (rest : List ℕ) → f (g x ++ rest) ≡ x) xs
      → parts f size (length xs) (flat g xs ++ rest) ≡ xs
  unfolding parts flat
  parts_flat [] rest h = refl
  parts_flat (x ∷ xs) rest h =
      rw (append_assoc, h.0 (flat g xs ++ rest), drop_at (g x) (flat g xs ++ rest) size (long x), parts_flat xs rest h.1)

  -- over old bytes
  list_back :
      (xs : List A) (b : List ℕ) {n : ℕ}
      → Each (λ x. (rest : List ℕ) → f (g x ++ rest) ≡ x) xs
      → n ≡ length xs
      → parts f size n (over (flat g xs) b) ≡ xs
  unfolding over
  list_back xs b h e = rw e (parts_flat xs (drop (length (flat g xs)) b) h)

pub number_back : (x : ℕ) → Word x → (rest : List ℕ) → number_in (digits 8 x ++ rest) ≡ x
number_back x h rest = rw (take_at (digits 8 x) rest 8 (length_digits 8 x)) (worth_digits 8 x h)

numbers_back : (ns rest : List ℕ) → Each Word ns → numbers (length ns) (bytes ns ++ rest) ≡ ns
unfolding numbers bytes
numbers_back ns rest h = parts_flat number_in (digits 8) 8 (length_digits 8) ns rest (go ns h)
  where
    go : (ns : List ℕ) → Each Word ns → Each (λ x. (rest : List ℕ) → number_in (digits 8 x ++ rest) ≡ x) ns
    go [] h = tt
    go (x ∷ ns) h = (number_back x h.0, go ns h.1)

order_back : (o : Order) → Fits o → (rest : List ℕ) → order_in (order_bytes o ++ rest) ≡ o
order_back o h rest = ap order_of (numbers_back (row_of o) rest h)

pub day_back : (d : Day) (rest : List ℕ) → DayFits d → day_in (day_bytes d ++ rest) ≡ d
unfolding day_in day_bytes
day_back d rest h = ap day_of (numbers_back (day_row d) rest h.words) ∙ rw (signed_word d.screen.surplus h.surplus)

declaration_back : (x : Declaration) → DeclarationFits x → (rest : List ℕ) → declaration_in (declaration_bytes x ++ rest) ≡ x
declaration_back x h rest = ap declaration_of (numbers_back (declaration_row x) rest h)

pub book_back : (book : List Order) (b : List ℕ) → Each Fits book → length book ≡ length b / 40 → book_in (over (book_bytes book) b) ≡ book
unfolding book_in book_bytes
book_back book b h e =
    list_back order_in order_bytes 40 length_order book b (each Fits _ book order_back h)
    (rw (length_over (book_bytes book) b (omega (arith, length_book book))) (sym e))

pub declarations_back :
    (held : List Declaration) (b : List ℕ)
    → Each DeclarationFits held
    → length held ≡ length b / 56
    → declarations_in (over (declarations_bytes held) b) ≡ held
unfolding declarations_in declarations_bytes
declarations_back held b h e =
    list_back declaration_in declaration_bytes 56 length_declaration held b (each DeclarationFits _ held declaration_back h)
    (rw (length_over (declarations_bytes held) b (omega (arith, length_declarations held))) (sym e))
