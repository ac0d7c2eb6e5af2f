-- A block that is filled in memory: records put one after the other among zeros, then closed, are the block that is written.
-- Assumes nothing.
use Prim.Native.Nat.{ℕ, ◌+◌, ◌-◌, ◌*◌, ◌≤◌, ◌<◌}
use mathlib.Core.Path.{◌≡◌, refl, sym, ap, ◌∙◌}
use mathlib.Core.List.{List, [], ◌∷◌, ◌++◌, append_assoc, append-nil}
use native.Mathlib.Omega.{arith}
use native.Mathlib.Numerals.{add-one}
use lib.ListN.{length, get_or, take, drop, set, replicate, length-append, length-replicate, length-set, replicate-append-replicate, drop_of_length-le}
use lib.Seq.{sets, sets-eq, length-sets, take_at, drop_at, take_all, take-suc-set}
use Rattle.model.specs.declared.Event.{Event}
use Rattle.book.proofs.Lists.{sets_more}
use Rattle.octets.specs.Numbers.{digits, flat}
use Rattle.octets.proofs.Digits.{length_digits}
use Rattle.octets.proofs.Parts.{flat_append, length_flat}
use Rattle.file_records.specs.Records.{record_bytes}
use Rattle.file_records.proofs.Recorded.{length_record}
use Rattle.file_blocks.specs.Blocks.{check_of, places_bytes, head_bytes, body_bytes, block_bytes, filling, closed}
use Rattle.file_blocks.proofs.Blocked.{length_body}

-- ---- bytes put by a call

pub put_same : (b xs ys : List ℕ) (at : ℕ) {b' : List ℕ} → b' ≡ sets b at xs → xs ≡ ys → b' ≡ sets b at ys
put_same b xs ys at e f = e ∙ ap (sets b at) f

pub head_is :
    {n k : List ℕ} (number count : ℕ)
    → n ≡ digits 4 number
    → k ≡ digits 2 count
    → get_or n 0 0 ∷ get_or n 1 0 ∷ get_or n 2 0 ∷ get_or n 3 0 ∷ get_or k 0 0 ∷ get_or k 1 0 ∷ 0 ∷ 0 ∷ [] ≡ head_bytes number count
unfolding digits
head_is number count e f = rw (e, f)

pub closed_is :
    (number count : ℕ) (b : List ℕ) {b₁ b₂ check : List ℕ} {sum : ℕ}
    → b₁ ≡ sets b 0 (head_bytes number count)
    → sum ≡ check_of b₁
    → check ≡ digits 4 sum
    → b₂ ≡ sets b₁ 508 check
    → b₂ ≡ closed number count b
unfolding closed
closed_is number count b e s c f = f ∙ rw (c, s, e)

-- ---- a block

check_same : (l m : List ℕ) → take 508 l ≡ m → length m ≡ 508 → check_of l ≡ check_of m
unfolding check_of
check_same l m e long = rw (e, take_all 508 m (omega arith))

pub filling_none : replicate 512 0 ≡ filling []
unfolding filling flat
filling_none = refl

pub filling_more : (es : List Event) (e : Event) → sets (filling es) (8 + 20 * length es) (record_bytes e) ≡ filling (es ++ (e ∷ []))
unfolding filling flat
filling_more es e =
    let at : 8 + 20 * length es ≡ 8 + length (flat record_bytes es) = rw (length_flat record_bytes 20 length_record es) in
    rw (at, sets_more (replicate 512 0) (flat record_bytes es) (record_bytes e) 8, flat_append record_bytes es (e ∷ []), append-nil)

-- zeros behind the records, up to the check and in it
module _ (es : List Event) (few : length es ≤ 25) where
  zeros_behind :
      drop {A = ℕ} (8 + 20 * length es) (replicate 512 0) ≡ replicate (20 * (25 - length es)) 0 ++ replicate 4 0
  zeros_behind =
      let n : ℕ = 8 + 20 * length es in
      let m : ℕ = 20 * (25 - length es) + 4 in
      let all : n + m ≡ 512 = omega arith in
      let split : ◌≡◌ {A = List ℕ} (replicate 512 0) (replicate n 0 ++ replicate m 0) =
      sym (replicate-append-replicate {A = ℕ} n m 0 ∙ ap (λ (k : ℕ). replicate {A = ℕ} k 0) all) in
      ap (drop n) split
      ∙ drop_at (replicate n 0) (replicate m 0) n (length-replicate {A = ℕ} n 0)
      ∙ sym (replicate-append-replicate {A = ℕ} (20 * (25 - length es)) 4 0)

  filling_is : filling es ≡ (0 ∷ 0 ∷ 0 ∷ 0 ∷ 0 ∷ 0 ∷ 0 ∷ 0 ∷ []) ++ (places_bytes es ++ replicate 4 0)
  unfolding filling places_bytes
  filling_is =
      let long : length (flat record_bytes es) ≡ 20 * length es = length_flat record_bytes 20 length_record es in
      sets-eq (flat record_bytes es) (replicate 512 0) 8 (rw (long, length-replicate) (omega arith))
      ∙ rw (long, zeros_behind) (simp append_assoc)

  head_put : (number : ℕ) → sets (filling es) 0 (head_bytes number (length es)) ≡ body_bytes number es ++ replicate 4 0
  unfolding body_bytes digits
  head_put number = rw filling_is

  pub closed_block : (number : ℕ) → closed number (length es) (filling es) ≡ block_bytes number es
  unfolding closed block_bytes
  closed_block number =
      let long : length (body_bytes number es) ≡ 508 = length_body number es few in
      let front : take 508 (body_bytes number es ++ replicate 4 0) ≡ body_bytes number es = take_at (body_bytes number es) _ 508 long in
      let same : check_of (body_bytes number es ++ replicate 4 0) ≡ check_of (body_bytes number es) = check_same _ _ front long in
      let none : drop 512 (body_bytes number es ++ replicate 4 0) ≡ [] =
      drop_of_length-le (body_bytes number es ++ replicate 4 0) {i = 512} (rw (length-append, long) (omega arith)) in
      rw (head_put number, same)
      (sets-eq (digits 4 (check_of (body_bytes number es))) (body_bytes number es ++ replicate 4 0) 508
      (rw (length-append, long, length_digits) (omega arith))
      ∙ rw (length_digits, front, none, append-nil))
