-- Turn by turn the memory holds what the chunks so far have made of the outset. Assumes nothing.
use Prim.Native.Nat.{ℕ, zero-le, ◌-◌, ◌≤◌}
use mathlib.Core.Path.{◌≡◌, refl, sym, ap, subst, ◌∙◌}
use mathlib.Core.Bool.{false}
use mathlib.Core.List.{List, [], ◌∷◌, ◌++◌}
use lib.ListN.{length, take, drop}
use Rattle.text.specs.declared.Carry.{Carry}
use Rattle.text.specs.Chunks.{CarriedOver}
use Rattle.text.specs.Answers.{carry_after, kept_after}
use Rattle.text.proofs.Carrying.{drop_take}
use Rattle.text.proofs.Sessions.{carry_few, carried_after}
use Rattle.file_blocks.specs.Blocks.{filling}
use Rattle.pack.specs.declared.Packing.{Packing}
use Rattle.pack.specs.Packing.{waiting}
use Rattle.pack.specs.Chunkwise.{Between, outset, after_chunk}
use Rattle.pack.specs.Promises as Promises
use Rattle.streams.proofs.Filling.{read, read_on_lem}
use Rattle.pack_script.specs.declared.AfterChunk.{AfterChunk}
use Rattle.pack_script.specs.Serving.{after_chunks, Holds, Reached, Waits, Turned, Steps}

-- ---- a chunk

module _
    (buf after : List ℕ) (n : ℕ) (h : AfterChunk) (p : Packing) (c : Carry) {block out said block' out' said' : List ℕ}
    (k : Promises.PacksChunk (take n buf) (Promises.start_of h.records h.line h.carry.long) block out said p block' out' said')
    (o : CarriedOver buf (take (n - p.at) (drop p.at buf)) p.long after c) where
  carried : (c ≡ carry_after h.carry.long (take n buf)) × (take c.kept after ≡ kept_after h.carry.long (take n buf))
  carried =
      carried_after buf after p.long c h.carry.long (take n buf) (take (n - p.at) (drop p.at buf)) o
      (sym (drop_take p.at n buf) ∙ sym k.tail)
      (sym k.still)

  pub steps :
      Steps (take n buf) h block after block'
      (record { records = p.records; line = p.line; carry = c })
  steps =
      record {
        carry = carried.0;
        kept = carried.1;
        line = k.packs.line;
        waits = λ es w. rw k.packs.records (k.packs.stores.holds es w);
      }

-- ---- a turn

module _ (h : AfterChunk) (before buf block : List ℕ) (n : ℕ)
    (f : (h.carry.kept ≤ n) × (n ≤ length buf) × (take h.carry.kept buf ≡ take h.carry.kept before)) where
  pub turned :
      {buf' block' : List ℕ} {r : AfterChunk}
      → Steps (take n buf) h block buf' block' r
      → Turned before block h buf' block' r
  unfolding after_chunk
  turned t =
      record {
        chunk = read h.carry.kept n buf;
        holds = λ s k.
            let l : h.carry.long ≡ s.carry.long = ap (λ (c : Carry). c.long) k.carry in
            let w : take n buf ≡ s.kept ++ read h.carry.kept n buf =
            read_on_lem h.carry.kept n before buf f ∙ ap (λ (b : List ℕ). b ++ read h.carry.kept n buf) k.kept in
            record {
              carry = rw (← l, ← w) t.carry;
              kept = rw (← l, ← w) t.kept;
              line = rw (← l, ← w, ← k.line) t.line;
              waits = rw (← l, ← w) (t.waits s.events k.waits);
            };
      }

-- ---- all turns

none_wait : Promises.Holds [] 0 (filling [])
unfolding waiting
none_wait = record { count = refl; bytes = refl }

pub at_outset :
    (buf block : List ℕ) → block ≡ filling [] → Reached buf block (record { records = 0; line = 1; carry = record { kept = 0; long = false } })
unfolding outset after_chunks
at_outset buf block e =
    record { chunks = []; holds = record { carry = refl; kept = refl; line = refl; waits = rw e none_wait } }

one_more : (s : Between) (bs : List (List ℕ)) (b : List ℕ) → after_chunks s (bs ++ (b ∷ [])) ≡ after_chunk (after_chunks s bs) b
unfolding after_chunks
one_more s [] b = refl
one_more s (c ∷ bs) b = one_more (after_chunk s c) bs b

pub reached_on :
    {buf block : List ℕ} {h : AfterChunk} {buf' block' : List ℕ} {r : AfterChunk}
    → Reached buf block h
    → Turned buf block h buf' block' r
    → Reached buf' block' r
reached_on {buf' = buf'} {block'} {r} c t =
    record {
      chunks = c.chunks ++ (t.chunk ∷ []);
      holds =
          subst (λ (s : Between). Holds s buf' block' r) (sym (one_more outset c.chunks t.chunk))
          (t.holds (after_chunks outset c.chunks) c.holds);
    }

still_few : (bs : List (List ℕ)) (s : Between) → s.carry.kept ≤ 79 → (after_chunks s bs).carry.kept ≤ 79
unfolding after_chunks after_chunk
still_few [] s f = f
still_few (b ∷ bs) s f = still_few bs (after_chunk s b) (carry_few s.carry.long (s.kept ++ b))

first_few : outset.carry.kept ≤ 79
unfolding outset
first_few = zero-le

module _ {buf block : List ℕ} {h : AfterChunk} (c : Reached buf block h) where
  pub reached_few : h.carry.kept ≤ 79
  reached_few = rw (ap (λ (k : Carry). k.kept) c.holds.carry) (still_few c.chunks outset first_few)

  pub reached_waits : Waits h block
  reached_waits = record { events = (after_chunks outset c.chunks).events; holds = c.holds.waits }
