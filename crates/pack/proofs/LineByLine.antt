-- The lines of a chunk packed one after the other. Assumes nothing.
use Prim.Native.Nat.{ℕ, suc, ◌+◌, ◌-◌, ◌*◌, ◌/◌, ◌≤◌, ◌<◌}
use mathlib.Core.Path.{◌≡◌, refl, sym, ◌∙◌}
use mathlib.Core.Bool.{Bool, true, false, cond}
use mathlib.Core.List.{List, [], ◌∷◌, ◌++◌, append_assoc, append-nil}
use native.Mathlib.Omega.{arith}
use lib.ListN.{length, drop, length-append}
use Rattle.std.specs.Prelude.{Some, None}
use Rattle.model.specs.declared.Event.{Event}
use Rattle.model.specs.declared.Command.{Command}
use Rattle.model.specs.declared.Command.TheVariants.{Malformed, Asks}
use Rattle.model.specs.Lines.{lines_of, reply}
use Rattle.printing.specs.Printing.{Wrote}
use Rattle.printing.proofs.Printed.{nothing_put, and_then, put_as, reply_fits}
use Rattle.text.specs.Readers.{asks_of, commands}
use Rattle.text.specs.Chunks.{tail_of, tail_long, next_command}
use Rattle.text.proofs.Chunks.{reads, Taken, taken, AllTaken, all_taken}
use Rattle.file_records.specs.Records.{is_wide}
use Rattle.file_scripts.specs.Scripts.{stored, stored_of, told, told_from}
use Rattle.pack.specs.declared.Packing.{Packing}
use Rattle.pack.specs.Promises.{Stores, start_of, left_out, stored_then, Packs, PacksChunk}
use Rattle.pack.proofs.Stored.{stores_none, stores_then}

-- ---- one line

one_stored : (c : Command) (es : List Event) → stored c ≡ es → stored_of (c ∷ []) ≡ es
unfolding stored_of
one_stored c es e = append-nil (stored c) ∙ e

one_told : (line : ℕ) (c : Command) (text : List ℕ) → told line c ≡ text → text ≡ told_from line (c ∷ [])
unfolding told_from
one_told line c text e = sym (append-nil (told line c) ∙ e)

wide_none : (e : Event) → is_wide e ≡ true → stored (Asks e) ≡ []
unfolding stored
wide_none e w = rw w

wide_told : (e : Event) (line : ℕ) → is_wide e ≡ true → told line (Asks e) ≡ reply 88 (27 ∷ line ∷ [])
unfolding told
wide_told e line w = rw w

malformed_none : stored Malformed ≡ []
unfolding stored
malformed_none = refl

malformed_told : (line : ℕ) → told line Malformed ≡ reply 88 (16 ∷ line ∷ [])
unfolding told
malformed_told line = refl

narrow_one : (e : Event) → is_wide e ≡ false → stored (Asks e) ≡ e ∷ []
unfolding stored
narrow_one e w = rw w

narrow_silent : (e : Event) (line : ℕ) → is_wide e ≡ false → told line (Asks e) ≡ []
unfolding told
narrow_silent e line w = rw w

module _ (p : Packing) (place : ℕ) (block out said : List ℕ) where
  packs_left :
      (why : ℕ) (c : Command) {n : ℕ} {said' : List ℕ} {r : Packing}
      → stored c ≡ []
      → told p.line c ≡ reply 88 (why ∷ p.line ∷ [])
      → Wrote said p.told (reply 88 (why ∷ p.line ∷ [])) said' n
      → r ≡ left_out p place n
      → Packs (c ∷ []) p block out said r block out said' × (r.at ≡ place) × (r.long ≡ false)
  packs_left why c {n} {said'} {r} none text w e =
      let empty : stored_of (c ∷ []) ≡ [] = one_stored c [] none in
      let same : p.records + 0 ≡ p.records = omega arith in
      rw e (
        record {
          records = rw (empty, same);
          line = refl;
          stores = rw empty (stores_none p.records block out p.filed);
          told = put_as (one_told p.line c _ text) w;
        },
        refl,
        refl,
      )

  pub packs_malformed :
      {c : Command} {n : ℕ} {said' : List ℕ} {r : Packing}
      → c ≡ Malformed
      → Wrote said p.told (reply 88 (16 ∷ p.line ∷ [])) said' n
      → r ≡ left_out p place n
      → Packs (c ∷ []) p block out said r block out said' × (r.at ≡ place) × (r.long ≡ false)
  packs_malformed e w f = rw e (packs_left 16 Malformed malformed_none (malformed_told p.line) w f)

  module _ {c : Command} (e : Event) (asks : c ≡ Asks e) {w : Bool} (wide : w ≡ is_wide e) where
    pub packs_wide :
        {n : ℕ} {said' : List ℕ} {r : Packing}
        → w ≡ true
        → Wrote said p.told (reply 88 (27 ∷ p.line ∷ [])) said' n
        → r ≡ left_out p place n
        → Packs (c ∷ []) p block out said r block out said' × (r.at ≡ place) × (r.long ≡ false)
    packs_wide t v f =
        let is : is_wide e ≡ true = sym wide ∙ t in
        rw asks (packs_left 27 (Asks e) (wide_none e is) (wide_told e p.line is) v f)

    pub packs_stored :
        {n : ℕ} {block' out' : List ℕ} {r : Packing}
        → w ≡ false
        → Stores (e ∷ []) p.records block out p.filed block' out' n
        → r ≡ stored_then p place n
        → Packs (c ∷ []) p block out said r block' out' said × (r.at ≡ place) × (r.long ≡ false)
    packs_stored t s f =
        let is : is_wide e ≡ false = sym wide ∙ t in
        let one : stored_of (Asks e ∷ []) ≡ e ∷ [] = one_stored (Asks e) (e ∷ []) (narrow_one e is) in
        rw (asks, f) (
          record {
            records = rw one;
            line = refl;
            stores = rw one s;
            told = put_as (one_told p.line (Asks e) [] (narrow_silent e p.line is)) nothing_put;
          },
          refl,
          refl,
        )

-- ---- one after the other

pub stored_append : (a b : List Command) → stored_of (a ++ b) ≡ stored_of a ++ stored_of b
unfolding stored_of
stored_append [] b = refl
stored_append (c ∷ a) b = rw (stored_append a b, append_assoc)

pub told_append : (line : ℕ) (a b : List Command) → told_from line (a ++ b) ≡ told_from line a ++ told_from (line + length a) b
unfolding told_from
told_append line [] b = let z : line + 0 ≡ line = omega arith in rw z
told_append line (c ∷ a) b = let z : line + suc (length a) ≡ suc line + length a = omega arith in rw (told_append (suc line) a b, z, append_assoc)

packs_none : (p : Packing) (block out said : List ℕ) → Packs [] p block out said p block out said
unfolding stored_of told_from
packs_none p block out said =
    record { records = omega arith; line = omega arith; stores = stores_none p.records block out p.filed; told = nothing_put }

packs_then :
    (a b : List Command) {p q r : Packing} {block out said block₁ out₁ said₁ block₂ out₂ said₂ : List ℕ}
    → Packs a p block out said q block₁ out₁ said₁
    → Packs b q block₁ out₁ said₁ r block₂ out₂ said₂
    → Packs (a ++ b) p block out said r block₂ out₂ said₂
packs_then a b {p} {q} {r} s t =
    record {
      records = rw (stored_append, length-append) (omega (arith, s.records, t.records));
      line = rw length-append (omega (arith, s.line, t.line));
      stores =
          rw stored_append
          (stores_then (stored_of a) (stored_of b) p.records _ _ p.filed s.stores (rw s.records at t.stores));
      told = rw told_append (and_then s.told (rw s.line at t.told));
    }

-- ---- through a chunk

by_test : {A : Type 0} (t : Bool) (a b : List A) (n : ℕ) → length a ≤ n → length b ≤ n → length (cond t a b) ≤ n
by_test true a b n h k = h
by_test false a b n h k = k

one_few : (c : Command) → length (stored c) ≤ 1
unfolding stored
one_few Malformed = omega arith
one_few (Asks e) = by_test (is_wide e) [] (e ∷ []) 1 (omega arith) (omega arith)

one_short : (line : ℕ) (c : Command) → length (told line c) ≤ 44
unfolding told
one_short line Malformed = reply_fits 88 (16 ∷ line ∷ [])
one_short line (Asks e) = by_test (is_wide e) (reply 88 (27 ∷ line ∷ [])) [] 44 (reply_fits 88 (27 ∷ line ∷ [])) (omega arith)

stored_few : (cs : List Command) → length (stored_of cs) ≤ length cs
unfolding stored_of
stored_few [] = omega arith
stored_few (c ∷ cs) = let g = stored_few cs in let h = one_few c in rw length-append (omega arith)

pub told_few : (line : ℕ) (cs : List Command) → length (told_from line cs) ≤ 44 * length cs
unfolding told_from
told_few line [] = omega arith
told_few line (c ∷ cs) = let g = told_few (suc line) cs in let h = one_short line c in rw length-append (omega arith)

-- the lines up to a place are packed
pub record Going (chunk : List ℕ) (p₀ : Packing) (block₀ out₀ said₀ : List ℕ) (p : Packing) (block out said : List ℕ) : Type 0 where
  pub lines : List Command
  pub asks : asks_of commands p₀.long (lines_of chunk) ≡ lines ++ asks_of commands p.long (lines_of (drop p.at chunk))
  pub tail : tail_of (lines_of chunk) ≡ tail_of (lines_of (drop p.at chunk))
  pub still : tail_long p₀.long (lines_of chunk) ≡ tail_long p.long (lines_of (drop p.at chunk))
  pub packs : Packs lines p₀ block₀ out₀ said₀ p block out said
  pub few : length lines ≤ p.at
  pub inside : p.at ≤ length chunk

module _ (chunk : List ℕ) (records line : ℕ) (long : Bool) (block₀ out₀ said₀ : List ℕ) where
  abbrev p₀ : Packing
  p₀ = start_of records line long

  pub going_start : Going chunk p₀ block₀ out₀ said₀ p₀ block₀ out₀ said₀
  going_start =
      record {
        lines = [];
        asks = refl;
        tail = refl;
        still = refl;
        packs = packs_none p₀ block₀ out₀ said₀;
        few = omega arith;
        inside = omega arith;
      }

  module _ {p : Packing} {block out said : List ℕ} (g : Going chunk p₀ block₀ out₀ said₀ p block out said) where
    pub going_end :
        next_command p.long chunk p.at ≡ None
        → PacksChunk chunk p₀ block₀ out₀ said₀ p block out said
    going_end e =
        let t : AllTaken chunk p.at commands p.long = all_taken chunk p.at p.long e in
        let all : asks_of commands long (lines_of chunk) ≡ g.lines = g.asks ∙ rw t.asks (append-nil g.lines) in
        record {
          packs = rw all g.packs;
          few = rw all (omega (arith, g.few, g.inside));
          inside = g.inside;
          tail = g.tail ∙ t.tail;
          still = g.still ∙ t.still;
        }

    module _ (command : Command) (place : ℕ) (e : next_command p.long chunk p.at ≡ Some (reads command place)) where
      next : Taken chunk p.at commands p.long command place
      next = taken chunk p.at p.long command place e

      pub going_room :
          512 * (length chunk / 25 + 2) ≤ length out₀
          → 44 * length chunk ≤ length said₀
          → line + length chunk ≤ 9_223_372_036_854_775_808
          → records + length chunk ≤ 9_223_372_036_854_775_808
          → (p.filed + 512 ≤ length out₀)
          × (p.told + 44 ≤ length said₀)
          × (p.line ≤ 9_223_372_036_854_775_808)
          × (p.records ≤ 9_223_372_036_854_775_808)
      going_room a b c d =
          let n : ℕ = length (stored_of g.lines) in
          let few : n ≤ length g.lines = stored_few g.lines in
          let short : length (told_from line g.lines) ≤ 44 * length g.lines = told_few line g.lines in
          let more : p.at < length chunk = omega (arith, next.onward, next.inside) in
          let least : length g.lines < length chunk = omega (arith, g.few) in
          let filed : p.filed ≡ 512 * ((records + n) / 25 - records / 25) = omega (arith, g.packs.stores.filed) in
          let blocks : (records + n) / 25 - records / 25 ≤ n / 25 + 1 = omega arith in
          let fewer : n / 25 ≤ length chunk / 25 = omega arith in (
            omega arith,
            omega (arith, g.packs.told.place),
            omega (arith, g.packs.line),
            omega (arith, g.packs.records),
          )

      pub going_on :
          {r : Packing} {block' out' said' : List ℕ}
          → Packs (command ∷ []) p block out said r block' out' said' × (r.at ≡ place) × (r.long ≡ false)
          → Going chunk p₀ block₀ out₀ said₀ r block' out' said'
      going_on {r} (k, at, long) =
          let n : Taken chunk p.at commands p.long command place = next in
          record {
            lines = g.lines ++ (command ∷ []);
            asks = g.asks ∙ rw (at, long, n.asks, append_assoc);
            tail = g.tail ∙ rw at n.tail;
            still = g.still ∙ rw (at, long) n.still;
            packs = packs_then g.lines (command ∷ []) g.packs k;
            few = rw (at, length-append) (omega (arith, g.few, n.onward));
            inside = rw at n.inside;
          }

      pub going_less : (n : ℕ) → n ≡ place → length chunk - n < length chunk - p.at
      going_less n at = omega (arith, next.onward, next.inside)

-- what is put ends in the output
pub chunk_within :
    (chunk : List ℕ) (records line : ℕ) (long : Bool) (block out said : List ℕ) {r : Packing} {block' out' said' : List ℕ}
    → PacksChunk chunk (start_of records line long) block out said r block' out' said'
    → 512 * (length chunk / 25 + 2) ≤ length out
    → 44 * length chunk ≤ length said
    → (r.filed ≤ length out) × (r.told ≤ length said)
chunk_within chunk records line long block out said {r} k a b =
    let cs : List Command = asks_of commands long (lines_of chunk) in
    let n : ℕ = length (stored_of cs) in
    let few : n ≤ length cs = stored_few cs in
    let short : length (told_from line cs) ≤ 44 * length cs = told_few line cs in
    let most : length cs ≤ length chunk = k.few in
    let filed : r.filed ≡ 512 * ((records + n) / 25 - records / 25) = omega (arith, k.packs.stores.filed) in
    let blocks : (records + n) / 25 - records / 25 ≤ n / 25 + 1 = omega arith in
    let fewer : n / 25 ≤ length chunk / 25 = omega arith in
    (omega arith, omega (arith, k.packs.told.place))
