-- The end of a script: the last block, and what is told. Assumes nothing.
use Prim.Native.Nat.{ℕ, suc, ◌+◌, ◌*◌, ◌/◌, ◌%◌, ◌≤◌}
use mathlib.Core.Path.{◌≡◌, sym, ap, ◌∙◌}
use mathlib.Core.Bool.{Bool, true, false, cond}
use mathlib.Core.List.{List, [], ◌∷◌, ◌++◌, append-nil}
use native.Mathlib.Omega.{arith}
use lib.Dec.{eqb}
use lib.ListN.{length, length-append}
use lib.Seq.{sets}
use borrow.Author.Tests.{eq-eqb, ne_eqb}
use Rattle.model.specs.declared.Event.{Event}
use Rattle.model.specs.declared.Command.{Command}
use Rattle.model.specs.declared.Command.TheVariants.{Malformed}
use Rattle.model.specs.Lines.{reply}
use Rattle.printing.specs.Printing.{Wrote}
use Rattle.printing.proofs.Printed.{nothing_put, put_as, put_long, reply_fits}
use Rattle.text.specs.declared.Carry.{Carry}
use Rattle.text.specs.Chunks.{is_left}
use Rattle.file_blocks.specs.Blocks.{block_bytes, closed}
use Rattle.file_blocks.proofs.Blocked.{length_block}
use Rattle.file_blocks.proofs.Filled.{closed_block}
use Rattle.file_scripts.specs.Scripts.{told, told_from}
use Rattle.pack.specs.Packing.{waiting, last_block}
use Rattle.pack.specs.Chunkwise.{left_asks}
use Rattle.pack.specs.Promises.{Holds}
use Rattle.pack.proofs.Growing.{length_waiting}
use Rattle.pack.proofs.LineByLine.{told_few}

-- ---- the last block

last_none : (es : List Event) → length es % 25 ≡ 0 → last_block es ≡ []
unfolding last_block
last_none es e = rw (eq-eqb (length es % 25) 0 e)

last_some : (es : List Event) → (length es % 25 ≡ 0 → ⊥) → last_block es ≡ block_bytes (suc (length es / 25)) (waiting es)
unfolding last_block
last_some es e = rw (ne_eqb (length es % 25) 0 e)

module _ (records : ℕ) (block out : List ℕ) where
  pub puts_none : records % 25 ≡ 0 → (es : List Event) → Holds es records block → Wrote out 0 (last_block es) out 0
  puts_none z es h = put_as (sym (last_none es (rw h.count at z))) nothing_put

  pub puts_some :
      {block₁ out₁ : List ℕ}
      → (records % 25 ≡ 0 → ⊥)
      → block₁ ≡ closed (records / 25 + 1) (records % 25) block
      → out₁ ≡ sets out 0 block₁
      → (es : List Event)
      → Holds es records block
      → Wrote out 0 (last_block es) out₁ 512
  puts_some {block₁} {out₁} n shut o es h =
      let some : length es % 25 ≡ 0 → ⊥ = rw h.count at n in
      let count : records % 25 ≡ length (waiting es) = rw h.count (sym (length_waiting es)) in
      let few : length (waiting es) ≤ 25 = rw length_waiting (omega arith) in
      let number : records / 25 + 1 ≡ suc (length es / 25) = rw h.count (omega arith) in
      let same : block₁ ≡ block_bytes (suc (length es / 25)) (waiting es) =
      shut ∙ rw (count, number, h.bytes) (closed_block (waiting es) few (suc (length es / 25))) in
      let long : length block₁ ≡ 512 = ap length same ∙ length_block (suc (length es / 25)) (waiting es) few in
      put_as (same ∙ sym (last_some es some)) (record { place = sym long ∙ omega arith; bytes = o })

-- ---- what is told

pub left_told : (carry : Carry) (line : ℕ) {left : Bool} → left ≡ is_left carry → left ≡ true → reply 88 (16 ∷ line ∷ []) ≡ told_from line (left_asks carry)
unfolding told_from told
left_told carry line e t = let is : is_left carry ≡ true = sym e ∙ t in rw is (sym (append-nil (reply 88 (16 ∷ line ∷ []))))

pub none_told : (carry : Carry) (line : ℕ) {left : Bool} → left ≡ is_left carry → left ≡ false → [] ≡ told_from line (left_asks carry)
unfolding told_from
none_told carry line e t = let is : is_left carry ≡ false = sym e ∙ t in rw is

left_few : (carry : Carry) → length (left_asks carry) ≤ 1
left_few carry = go (is_left carry)
  where
    go : (t : Bool) → length (cond {A = List Command} t (Malformed ∷ []) []) ≤ 1
    go true = omega arith
    go false = omega arith

-- there is room for the count behind it
pub end_room :
    (carry : Carry) (line : ℕ) {said said' : List ℕ} {at : ℕ}
    → 88 ≤ length said
    → Wrote said 0 (told_from line (left_asks carry)) said' at
    → at + 21 * 1 + 2 ≤ length said'
end_room carry line h w =
    let few = told_few line (left_asks carry) in
    let one = left_few carry in
    omega (arith, w.place, put_long w)

-- ---- what is put ends in the output

pub last_fits : (es : List Event) → length (last_block es) ≤ 512
unfolding last_block
last_fits es = go (eqb (length es % 25) 0)
  where
    few : length (waiting es) ≤ 25
    few = rw length_waiting (omega arith)

    go : (t : Bool) → length (cond {A = List ℕ} t [] (block_bytes (suc (length es / 25)) (waiting es))) ≤ 512
    go true = omega arith
    go false = omega (arith, length_block (suc (length es / 25)) (waiting es) few)

pub end_fits_lem : (carry : Carry) (line records : ℕ) → length (told_from line (left_asks carry) ++ reply 75 (records ∷ [])) ≤ 88
end_fits_lem carry line records =
    let few = told_few line (left_asks carry) in
    let one = left_few carry in
    let end = reply_fits 75 (records ∷ []) in
    rw length-append (omega arith)
