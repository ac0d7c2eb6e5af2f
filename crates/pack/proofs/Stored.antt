-- One event more in memory: its record is put into the block that fills, and a full block into the output. Assumes nothing.
use Prim.Native.Nat.{ℕ, suc, ◌+◌, ◌*◌, ◌/◌, ◌%◌, ◌≤◌, ◌<◌}
use mathlib.Core.Path.{◌≡◌, sym, ap, ◌∙◌}
use mathlib.Core.List.{List, [], ◌∷◌, ◌++◌, append_assoc, append-nil}
use native.Mathlib.Omega.{arith}
use lib.ListN.{length, replicate, length-append}
use lib.Seq.{sets}
use Rattle.model.specs.declared.Event.{Event}
use Rattle.printing.proofs.Printed.{nothing_put, and_then, put_as}
use Rattle.file_records.specs.Records.{record_bytes}
use Rattle.file_blocks.specs.Blocks.{block_bytes, filling, closed}
use Rattle.file_blocks.proofs.Blocked.{length_block}
use Rattle.file_blocks.proofs.Filled.{filling_none, filling_more, closed_block}
use Rattle.pack.specs.Packing.{waiting}
use Rattle.pack.specs.Promises.{Holds, Stores}
use Rattle.pack.proofs.Growing.{length_waiting, new_none, new_more, new_part, new_full, waiting_part, waiting_full}

-- what stands in the block once the record is put
module _ (e : Event) (records count : ℕ) (block : List ℕ) {block₁ : List ℕ}
    (c : count ≡ records % 25)
    (put : block₁ ≡ sets block (8 + 20 * count) (record_bytes e)) where
  more_waits : (es : List Event) → Holds es records block → block₁ ≡ filling (waiting es ++ (e ∷ []))
  more_waits es h =
      let n : count ≡ length (waiting es) = c ∙ rw (length_waiting, h.count) in
      put ∙ rw (h.bytes, n) (filling_more (waiting es) e)

  one_more : (es : List Event) → Holds es records block → records + 1 ≡ length (es ++ (e ∷ []))
  one_more es h = rw length-append (omega (arith, h.count))

  -- the block is not full yet
  pub stores_part : (out : List ℕ) (at : ℕ) → count < 24 → Stores (e ∷ []) records block out at block₁ out at
  stores_part out at less =
      record {
        filed = omega arith;
        holds = λ es h.
            let few : length es % 25 < 24 = omega (arith, h.count) in
            record { count = one_more es h; bytes = more_waits es h ∙ ap filling (sym (waiting_part es e few)) };
        text = λ es h.
            let few : length es % 25 < 24 = omega (arith, h.count) in put_as (sym (new_part es e few)) nothing_put;
      }

  full_waits : (es : List Event) → 24 ≤ length es % 25 → length (waiting es ++ (e ∷ [])) ≡ 25
  full_waits es many = rw (length-append, length_waiting) (omega arith)

  shut_block :
      (es : List Event) {block₂ : List ℕ}
      → Holds es records block
      → 24 ≤ length es % 25
      → block₂ ≡ closed (records / 25 + 1) 25 block₁
      → (block₂ ≡ block_bytes (suc (length es / 25)) (waiting es ++ (e ∷ []))) × (512 ≡ length block₂)
  shut_block es h many shut =
      let all : length (waiting es ++ (e ∷ [])) ≡ 25 = full_waits es many in
      let number : records / 25 + 1 ≡ suc (length es / 25) = rw h.count (omega arith) in
      let same : _ ≡ block_bytes (suc (length es / 25)) (waiting es ++ (e ∷ [])) =
      shut
      ∙ rw (more_waits es h, number)
      (ap (λ (n : ℕ). closed (suc (length es / 25)) n (filling (waiting es ++ (e ∷ [])))) (sym all)
      ∙ closed_block (waiting es ++ (e ∷ [])) (omega arith) (suc (length es / 25))) in
      (same, sym (ap length same ∙ length_block (suc (length es / 25)) (waiting es ++ (e ∷ [])) (omega arith)))

  -- it is full: closed, put out, and cleared
  pub stores_full :
      (out : List ℕ) (at : ℕ) {block₂ block₃ out' : List ℕ} (n : ℕ)
      → 24 ≤ count
      → block₂ ≡ closed (records / 25 + 1) 25 block₁
      → out' ≡ sets out at block₂
      → block₃ ≡ replicate n 0
      → n ≡ 512
      → Stores (e ∷ []) records block out at block₃ out' (at + 512)
  stores_full out at {block₂} {block₃} {out'} n more shut o z long =
      record {
        filed = omega arith;
        holds = λ es h.
            let many : 24 ≤ length es % 25 = omega (arith, h.count) in
            record { count = one_more es h; bytes = z ∙ ap (λ (m : ℕ). replicate {A = ℕ} m 0) long ∙ filling_none ∙ ap filling (sym (waiting_full es e many)) };
        text = λ es h.
            let many : 24 ≤ length es % 25 = omega (arith, h.count) in
            let k = shut_block es h many shut in
            put_as (k.0 ∙ sym (new_full es e many)) (record { place = ap (λ (n : ℕ). at + n) k.1; bytes = o });
      }

-- ---- none, and one after the other

pub stores_none : (records : ℕ) (block out : List ℕ) (at : ℕ) → Stores [] records block out at block out at
stores_none records block out at =
    record {
      filed = omega arith;
      holds = λ es h.
          let same : records + 0 ≡ records = omega arith in rw (append-nil, same) h;
      text = λ es h. put_as (sym (new_none es)) nothing_put;
    }

pub stores_then :
    (a b : List Event) (records : ℕ) (block out : List ℕ) (at : ℕ) {block₁ out₁ block₂ out₂ : List ℕ} {n m : ℕ}
    → Stores a records block out at block₁ out₁ n
    → Stores b (records + length a) block₁ out₁ n block₂ out₂ m
    → Stores (a ++ b) records block out at block₂ out₂ m
stores_then a b records block out at s t =
    record {
      filed = rw length-append (omega (arith, s.filed, t.filed));
      holds = λ es h.
          let all : records + length (a ++ b) ≡ records + length a + length b = rw length-append (omega arith) in
          rw (all, ← append_assoc es a b) (t.holds (es ++ a) (s.holds es h));
      text = λ es h. put_as (sym (new_more es a b)) (and_then (s.text es h) (t.text (es ++ a) (s.holds es h)));
    }
