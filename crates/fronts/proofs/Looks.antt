-- A look at blocks one after the other, with their records counted. Assumes nothing.
use Rattle.std.proofs.Common.{Ok, Err, None, Some}
use Prim.Native.Nat.{ℕ, ◌+◌, ◌-◌, ◌*◌, ◌≤◌, ◌<◌}
use mathlib.Core.Path.{◌≡◌, refl, ap, ◌∙◌}
use mathlib.Core.List.{List}
use native.Mathlib.Omega.{arith}
use lib.ListN.{length, take, drop, length-append}
use Rattle.file_blocks.specs.Blocks.{records_in, events_in, read_block}
use Rattle.day_files.specs.Files.{events_of}
use borrow.Author.Tests.{ne_eqb}
use Rattle.fronts.specs.Looking.{Looks}
use Rattle.fronts.proofs.Walking.{Walking, walking_start, walking_end, walking_pass, walking_refused, events_count}

-- when so many blocks have passed
pub record Looking (whole blocks place : ℕ) (file : List ℕ) (count good : ℕ) : Type 0 where
  pub walk : Walking whole blocks place file good
  pub records : count ≡ length (events_of good file)
  pub few : count ≤ 25 * good

module _ (whole blocks place : ℕ) (file : List ℕ) where
  pub looking_start : Looking whole blocks place file 0 0
  unfolding events_of
  looking_start = record { walk = walking_start whole blocks place file; records = refl; few = omega arith }

  module _ {records good : ℕ} (k : Looking whole blocks place file records good) where
    pub looking_end : good ≡ blocks → Looks whole blocks place file (record { good = blocks; records = records; refusal = None })
    looking_end h =
        let e = walking_end whole blocks place file k.walk (omega arith) in
        record { good = rw h at e.0; records = rw h at k.records; few = rw h at k.few; refusal = rw (← e.1) }

    module _ (l : good < blocks) (long : 512 * blocks ≤ length file) {b : List ℕ}
        (e : b ≡ take (512 * good + 512 - 512 * good) (drop (512 * good) file)) where
      pub looking_count : {count : ℕ} → Ok count ≡ read_block whole (place + good) b → count ≤ 25
      looking_count f = (walking_pass whole blocks place file k.walk l long e f).1

      pub looking_pass :
          {count : ℕ}
          → Ok count ≡ read_block whole (place + good) b
          → Looking whole blocks place file (records + count) (good + 1)
      looking_pass {count} f =
          let w = walking_pass whole blocks place file k.walk l long e f in
          let more : length (events_of (good + 1) file) ≡ length (events_of good file) + records_in b =
          ap length w.3 ∙ length-append (events_of good file) (events_in b) ∙ rw (events_count b) in
          record {
            walk = w.0;
            records = omega (arith, more, k.records, w.2);
            few = omega (arith, k.few, w.1);
          }

      pub looking_refused :
          {n : ℕ}
          → Err n ≡ read_block whole (place + good) b
          → Looks whole blocks place file (record { good = good; records = records; refusal = Some n })
      looking_refused {n} f =
          let w = walking_refused whole blocks place file k.walk l long e f in
          record { good = w.0; records = k.records; few = k.few; refusal = rw (← w.1, ne_eqb n 0 w.2) }
