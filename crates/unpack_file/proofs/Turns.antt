-- Turn by turn the memory holds what the chunks so far have made of the outset. Assumes nothing.
use Prim.Native.Nat.{ℕ, suc, ◌+◌, ◌-◌, ◌*◌, ◌/◌, ◌≤◌}
use mathlib.Core.Path.{◌≡◌, refl, sym, ap, subst, ◌∙◌}
use mathlib.Core.Bool.{false}
use mathlib.Core.List.{List, [], ◌∷◌, ◌++◌}
use native.Mathlib.Omega.{arith}
use lib.ListN.{length, take, drop, length-drop}
use lib.Seq.{take_at, length-take-le}
use Rattle.text.proofs.Carrying.{drop_take}
use Rattle.fronts.specs.Good.{front_from, followed, some_refusal, look_from}
use Rattle.fronts.proofs.Cutting.{good_followed}
use Rattle.fronts.proofs.Read.{good_most}
use Rattle.std.specs.Option.{is_some}
use Rattle.unpack.proofs.Put.{none_refused}
use Rattle.streams.proofs.Filling.{read, read_on_lem}
use Rattle.unpack_file.specs.declared.AfterChunk.{AfterChunk}
use Rattle.unpack_file.specs.Serving.{Between, outset, after_chunk, after_chunks, Holds, Reached, Turned, Steps}

-- ---- a chunk

followed_is : (n : ℕ) (buf : List ℕ) → n ≤ length buf → followed (take n buf) ≡ n / 512 - 1
unfolding followed
followed_is n buf h = rw (length-take-le n buf h)

module _
    (buf after : List ℕ) (n blocks : ℕ) (h : AfterChunk)
    (inside : n ≤ length buf)
    (b : blocks ≡ n / 512 - 1)
    (front : after ≡ take (n - 512 * blocks) (drop (512 * blocks) buf) ++ drop (n - 512 * blocks) buf)
    (none : is_some (some_refusal (look_from h.passed (take n buf)).refusal) ≡ false) where
  same_blocks : followed (take n buf) ≡ blocks
  same_blocks = followed_is n buf inside ∙ sym b

  pub steps : Steps (take n buf) h after (record { passed = h.passed + blocks; kept = n - 512 * blocks })
  steps =
      let long : length (take (n - 512 * blocks) (drop (512 * blocks) buf)) ≡ n - 512 * blocks =
      length-take-le (n - 512 * blocks) (drop (512 * blocks) buf) (rw length-drop (omega arith)) in
      record {
        passed = rw same_blocks;
        kept =
            rw same_blocks
            (ap (take (n - 512 * blocks)) front
            ∙ take_at (take (n - 512 * blocks) (drop (512 * blocks) buf)) (drop (n - 512 * blocks) buf) (n - 512 * blocks) long
            ∙ sym (drop_take (512 * blocks) n buf));
        count = rw (same_blocks, drop_take (512 * blocks) n buf) (sym long);
        passes = none_refused _ none;
      }

-- few enough blocks for their place to be counted
pub part_few : (buf : List ℕ) (n passed : ℕ) → n ≤ length buf → length buf ≡ 4096 → {g : ℕ} → g ≡ (look_from passed (take n buf)).good → g ≤ 4_096
part_few buf n passed h l {g} e =
    omega (arith, good_followed passed (take n buf), length-take-le n buf h, e)

-- ---- a turn

module _ (h : AfterChunk) (before buf : List ℕ) (n : ℕ)
    (f : (h.kept ≤ n) × (n ≤ length buf) × (take h.kept buf ≡ take h.kept before)) where
  whole : (s : Between) → Holds s before h → take n buf ≡ s.kept ++ read h.kept n buf
  whole s k = read_on_lem h.kept n before buf f ∙ ap (λ (b : List ℕ). b ++ read h.kept n buf) k.kept

  pub turned : {buf' : List ℕ} {r : AfterChunk} → Steps (take n buf) h buf' r → Turned before h buf' r
  unfolding after_chunk
  turned t =
      record {
        chunk = read h.kept n buf;
        holds = λ s k.
            record {
              passed = rw (← whole s k, ← k.passed) t.passed;
              kept = rw (← whole s k) t.kept;
              count = rw (← whole s k) t.count;
            };
        passes = λ s k. rw (← whole s k, ← k.passed) t.passes;
      }

-- ---- all turns

pub at_outset : (buf : List ℕ) → Reached buf (record { passed = 0; kept = 0 })
unfolding outset after_chunks
at_outset buf = record { chunks = []; holds = record { passed = refl; kept = refl; count = refl } }

one_more : (s : Between) (bs : List (List ℕ)) (b : List ℕ) → after_chunks s (bs ++ (b ∷ [])) ≡ after_chunk (after_chunks s bs) b
unfolding after_chunks
one_more s [] b = refl
one_more s (c ∷ bs) b = one_more (after_chunk s c) bs b

pub reached_on :
    {buf : List ℕ} {h : AfterChunk} {buf' : List ℕ} {r : AfterChunk} → Reached buf h → Turned buf h buf' r → Reached buf' r
reached_on {buf' = buf'} {r} c t =
    record {
      chunks = c.chunks ++ (t.chunk ∷ []);
      holds =
          subst (λ (s : Between). Holds s buf' r) (sym (one_more outset c.chunks t.chunk))
          (t.holds (after_chunks outset c.chunks) c.holds);
    }

still_few : (bs : List (List ℕ)) (s : Between) → length s.kept ≤ 1023 → length (after_chunks s bs).kept ≤ 1023
unfolding after_chunks after_chunk followed
still_few [] s f = f
still_few (b ∷ bs) s f = still_few bs (after_chunk s b) (rw length-drop (omega arith))

first_few : length outset.kept ≤ 1023
unfolding outset
first_few = omega arith

pub reached_few : {buf : List ℕ} {h : AfterChunk} → Reached buf h → h.kept ≤ 1023
reached_few c = omega (arith, c.holds.count, still_few c.chunks outset first_few)

-- of the rest too
pub rest_few : (buf : List ℕ) (n passed : ℕ) → n ≤ 1023 → length buf ≡ 4096 → {g : ℕ} → g ≡ (front_from passed (take n buf)).good → g ≤ 4_096
unfolding front_from
rest_few buf n passed h l {g} e =
    let k : ℕ = length (take n buf) / 512 in
    omega (arith, good_most (passed + k) k (suc passed) (take n buf), length-take-le n buf (omega arith), e)
