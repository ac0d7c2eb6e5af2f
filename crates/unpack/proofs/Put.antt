-- The lines of records and of blocks, put one after the other. Assumes nothing.
use Rattle.std.proofs.Common.{Ok, Err, Option, None, Some}
use Prim.Native.Nat.{ℕ, zero, suc, ◌+◌, ◌-◌, ◌*◌, ◌/◌, ◌≤◌, ◌<◌}
use mathlib.Core.Path.{◌≡◌, refl, sym, ap, ◌∙◌}
use mathlib.Core.Bool.{Bool, true, false, cond}
use mathlib.Core.List.{List, [], ◌∷◌, ◌++◌, append_assoc, append-nil}
use native.Mathlib.Omega.{arith}
use native.Mathlib.Numerals.{add-one}
use lib.Dec.{eqb}
use lib.ListN.{length, take, drop, length-append, length-drop}
use lib.Seq.{drop-drop, length-take-le}
use borrow.Author.Tests.{eqb-true, eq-eqb, ne_eqb}
use Rattle.model.specs.declared.Event.{Event}
use Rattle.model.specs.declared.Event.TheVariants.{Open, Clock, Order, Cancel}
use Rattle.model.specs.Lines.{reply}
use Rattle.std.proofs.lemmas.Bool.{false≢true}
use Rattle.std.specs.Option.{is_some}
use Rattle.printing.specs.Printing.{Wrote}
use Rattle.printing.proofs.Printed.{nothing_put, and_then, put_as, put_long, reply_fits}
use Rattle.octets.specs.Numbers.{parts, flat}
use Rattle.octets.proofs.Parts.{flat_append}
use Rattle.file_records.specs.Records.{event_in}
use Rattle.file_blocks.specs.Blocks.{records_in, events_in, read_block}
use Rattle.model.specs.Refusals.{first_of}
use Rattle.day_files.specs.Files.{rules_from, events_of}
use Rattle.file_scripts.specs.Scripts.{letter_of, numbers_in, event_line, script_of}
use Rattle.fronts.specs.Good.{good_from, refusal_from, some_refusal, front_from, followed, look_from}
use Rattle.fronts.proofs.Walking.{
  Walking,
  walking_start,
  walking_end,
  walking_pass,
  walking_refused,
  rules_refused,
  rules_none,
  rules_tail,
}
use Rattle.unpack.specs.declared.Unpacking.{Unpacking}
use Rattle.unpack.specs.Unpacking.{refused_line, told_refusal}
use Rattle.unpack.specs.Promises.{Puts, Gives}

-- ---- records

numbers_few : (e : Event) → length (numbers_in e) ≤ 6
unfolding numbers_in
numbers_few (Open close mark) = omega arith
numbers_few (Clock time) = omega arith
numbers_few (Order a) = omega arith
numbers_few (Cancel account number) = omega arith

line_short : (e : Event) → length (event_line e) ≤ 128
unfolding event_line
line_short e = omega (arith, reply_fits (letter_of e) (numbers_in e), numbers_few e)

-- n records from a place on
abbrev told : ℕ → List ℕ → List ℕ
told n b = script_of (parts (λ r. event_in (take 20 r)) 20 n b)

script_short : (n : ℕ) (b : List ℕ) → length (told n b) ≤ 128 * n
unfolding parts script_of flat
script_short zero b = omega arith
script_short (suc n) b =
    let g = script_short n (drop 20 b) in
    let h = line_short (event_in (take 20 b)) in
    rw length-append (omega arith)

pub record Listing (block : List ℕ) (n : ℕ) (out₀ : List ℕ) (at : ℕ) (out : List ℕ) (p i : ℕ) : Type 0 where
  pub done : i ≤ n
  pub long : length out ≡ length out₀
  pub room : p ≤ at + 128 * i
  pub text : List ℕ
  pub put : Wrote out₀ at text out p
  pub all : text ++ told (n - i) (drop (8 + 20 * i) block) ≡ told n (drop 8 block)

module _ (block : List ℕ) (n : ℕ) (out₀ : List ℕ) (at : ℕ) where
  pub listing_start : Listing block n out₀ at out₀ at 0
  listing_start =
      let m : n - 0 ≡ n = omega arith in
      record { done = omega arith; long = refl; room = omega arith; text = []; put = nothing_put; all = rw m }

  module _ {out : List ℕ} {p i : ℕ} (k : Listing block n out₀ at out p i) where
    pub listing_next :
        i < n
        → {e : Event} {out' : List ℕ} {p' : ℕ}
        → e ≡ event_in (take 20 (drop (8 + 20 * i) block))
        → Wrote out p (event_line e) out' p'
        → Listing block n out₀ at out' p' (i + 1)
    unfolding parts script_of flat
    listing_next h {e} f w =
        let m : n - i ≡ suc (n - (i + 1)) = omega arith in
        let next : 8 + 20 * (i + 1) ≡ 8 + 20 * i + 20 = omega arith in
        record {
          done = omega arith;
          long = put_long w ∙ k.long;
          room = omega (arith, w.place, k.room, line_short e);
          text = k.text ++ event_line e;
          put = and_then k.put w;
          all = rw (next, ← drop-drop 20 (8 + 20 * i) block, append_assoc, f) (rw m at k.all);
        }

    pub listing_end : n ≤ i → Wrote out₀ at (told n (drop 8 block)) out p
    unfolding parts script_of flat
    listing_end h = let z : n - i ≡ 0 = omega arith in put_as (sym (append-nil k.text) ∙ (rw z at k.all)) k.put

-- ---- blocks

pub script_append : (a b : List Event) → script_of (a ++ b) ≡ script_of a ++ script_of b
unfolding script_of
script_append a b = flat_append event_line a b

records_told : (b : List ℕ) {count : ℕ} → count ≡ records_in b → told count (drop 8 b) ≡ script_of (events_in b)
unfolding events_in
records_told b e = rw e

-- so many blocks are good, and their lines are put
pub record Going (whole blocks place : ℕ) (file out₀ out : List ℕ) (next good : ℕ) : Type 0 where
  pub walk : Walking whole blocks place file good
  pub text : Wrote out₀ 0 (script_of (events_of good file)) out next
  pub room : next ≤ 3_200 * good
  pub long : length out ≡ length out₀

module _ (whole blocks place : ℕ) (file out₀ : List ℕ) where
  pub going_start : Going whole blocks place file out₀ out₀ 0 0
  unfolding events_of script_of flat
  going_start =
      record { walk = walking_start whole blocks place file; text = nothing_put; room = omega arith; long = refl }

  module _ {out : List ℕ} {next good : ℕ} (k : Going whole blocks place file out₀ out next good) where
    pub going_end : good ≡ blocks → Puts whole blocks place file out₀ (record { good = blocks; next = next; refusal = None }) out
    going_end h =
        let e = walking_end whole blocks place file k.walk (omega arith) in
        record { good = rw h at e.0; refusal = rw (← e.1); text = rw h at k.text; room = omega (arith, k.room) }

    module _ (l : good < blocks) (long : 512 * blocks ≤ length file) {b : List ℕ}
        (e : b ≡ take (512 * good + 512 - 512 * good) (drop (512 * good) file)) where
      pub going_refused :
          {n : ℕ}
          → Err n ≡ read_block whole (place + good) b
          → Puts whole blocks place file out₀ (record { good = good; next = next; refusal = Some n }) out
      going_refused {n} f =
          let w = walking_refused whole blocks place file k.walk l long e f in
          record { good = w.0; refusal = rw (← w.1, ne_eqb n 0 w.2); text = k.text; room = omega (arith, k.room, k.walk.inside) }

      module _ {count : ℕ} (f : Ok count ≡ read_block whole (place + good) b) where
        pub going_count : count ≤ 25
        going_count = (walking_pass whole blocks place file k.walk l long e f).1

        pub going_long : length b ≡ 512
        going_long =
            let n : 512 * good + 512 - 512 * good ≡ 512 = omega arith in
            ap length (rw n at e) ∙ length-take-le 512 (drop (512 * good) file) (rw length-drop (omega arith))

        pub going_pass :
            {out' : List ℕ} {p : ℕ}
            → Wrote out next (told count (drop 8 b)) out' p
            → Going whole blocks place file out₀ out' p (good + 1)
        going_pass {out'} {p} v =
            let w = walking_pass whole blocks place file k.walk l long e f in
            let lines : told count (drop 8 b) ≡ script_of (events_in b) = records_told b w.2 in
            record {
              walk = w.0;
              text =
                  put_as
                  (ap (λ (t : List ℕ). script_of (events_of good file) ++ t) lines
                  ∙ sym (ap script_of w.3 ∙ script_append (events_of good file) (events_in b)))
                  (and_then k.text v);
              room = omega (arith, v.place, k.room, script_short count (drop 8 b), w.1);
              long = put_long v ∙ k.long;
            }

-- ---- a refusal

-- what is told of a refusal is the line of its number
pub refusal_told : (n place : ℕ) → told_refusal (some_refusal n) place ≡ refused_line n place
unfolding refused_line
refusal_told n place = go (eqb n 0)
  where
    go :
        (t : Bool)
        → told_refusal (cond {A = Option ℕ} t None (Some n)) place ≡ cond {A = List ℕ} t [] (reply 88 (n ∷ place ∷ []))
    go true = refl
    go false = refl

pub refusal_short : (r : Option ℕ) (place : ℕ) → length (told_refusal r place) ≤ 44
refusal_short None place = omega arith
refusal_short (Some n) place = reply_fits 88 (n ∷ place ∷ [])

is_refused : (n : ℕ) → is_some (some_refusal n) ≡ true → n ≡ 0 → ⊥
is_refused n e z = false≢true (rw (eq-eqb n 0 z) at e)

pub none_refused : (n : ℕ) → is_some (some_refusal n) ≡ false → n ≡ 0
none_refused n e = go (eqb n 0) refl e
  where
    go : (t : Bool) → eqb n 0 ≡ t → is_some (cond {A = Option ℕ} t None (Some n)) ≡ false → n ≡ 0
    go true z f = eqb-true n 0 z
    go false z f = absurd (false≢true (sym f))

-- ---- a part of a file, and its rest

module _ (file out : List ℕ) (passed : ℕ) {r : Unpacking} {out' : List ℕ} where
  text_of :
      (whole blocks : ℕ) (g : ℕ)
      → Puts whole blocks (passed + 1) file out r out'
      → good_from whole blocks (suc passed) file ≡ g
      → (r.good ≡ g) × Wrote out 0 (script_of (events_of g file)) out' r.next
  text_of whole blocks g k e =
      let good : r.good ≡ g = k.good ∙ rw add-one e in (good, rw (← good) k.text)

  pub part_gives :
      {blocks : ℕ}
      → blocks ≡ length file / 512 - 1
      → Puts 0 blocks (passed + 1) file out r out'
      → 3_200 * (length file / 512) ≤ length out
      → Gives (look_from passed file) file out r out'
  unfolding look_from followed
  part_gives {blocks} e k h =
      let t = text_of 0 blocks (good_from 0 (length file / 512 - 1) (suc passed) file) k (rw e) in
      record { good = t.0; refusal = k.refusal ∙ rw (add-one, e); text = t.1; room = omega (arith, k.room) }

  module _ (k : Puts (passed + length file / 512) (length file / 512) (passed + 1) file out r out')
      (h : 3_200 * (length file / 512) ≤ length out) where
    abbrev n : ℕ
    n = length file / 512

    same_refusal : r.refusal ≡ some_refusal (refusal_from (passed + n) n (suc passed) file)
    same_refusal = k.refusal ∙ rw add-one

    rest_gives :
        (m : ℕ) (refusal : Option ℕ)
        → first_of (rules_from (passed + n) n (suc passed) file) ≡ m
        → refusal ≡ some_refusal m
        → Gives (front_from passed file) file out (record { good = r.good; next = r.next; refusal = refusal }) out'
    unfolding front_from
    rest_gives m refusal e f =
        let t = text_of (passed + n) n (good_from (passed + n) n (suc passed) file) k refl in
        record { good = t.0; refusal = rw (← e) at f; text = t.1; room = omega (arith, k.room) }

    pub rest_refused : is_some r.refusal ≡ true → Gives (front_from passed file) file out r out'
    rest_refused e =
        let m : ℕ = refusal_from (passed + n) n (suc passed) file in
        rest_gives m r.refusal
        (rules_refused (passed + n) n (suc passed) file (is_refused m (ap is_some (sym same_refusal) ∙ e))) same_refusal

    module _ (none : is_some r.refusal ≡ false) where
      no_refusal : refusal_from (passed + n) n (suc passed) file ≡ 0
      no_refusal = none_refused _ (ap is_some (sym same_refusal) ∙ none)

      pub rest_none : length file ≤ 512 * n → Gives (front_from passed file) file out r out'
      rest_none l =
          rest_gives 0 r.refusal (rules_none (passed + n) n (suc passed) file no_refusal l) (same_refusal ∙ ap some_refusal no_refusal)

      pub rest_tail :
          512 * n < length file
          → Gives (front_from passed file) file out (record { good = r.good; next = r.next; refusal = Some 26 }) out'
      rest_tail l = rest_gives 26 (Some 26) (rules_tail (passed + n) n (suc passed) file no_refusal l) refl
