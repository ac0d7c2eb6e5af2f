-- Turn by turn the memory holds what the chunks so far have made of the outset. Assumes nothing.
use Prim.Native.Nat.{ℕ, suc, ◌+◌, ◌-◌, ◌*◌, ◌/◌, ◌≤◌}
use mathlib.Core.Path.{◌≡◌, refl, sym, ap, subst, ◌∙◌}
use mathlib.Core.Bool.{Bool, true, false, not, cond}
use Rattle.std.proofs.Common.{Option, None, Some}
use Rattle.std.specs.Option.{is_some}
use mathlib.Core.List.{List, [], ◌∷◌, ◌++◌}
use native.Mathlib.Omega.{arith}
use native.Mathlib.Numerals.{add-one}
use lib.Dec.{eqb}
use lib.ListN.{length, take, drop, length-drop}
use lib.Seq.{take_at, length-take-le}
use borrow.Author.Tests.{eqb-true, not-false}
use Rattle.text.proofs.Carrying.{drop_take}
use Rattle.fronts.specs.declared.Looked.{Looked}
use Rattle.fronts.specs.Looking.{Looks}
use Rattle.fronts.specs.Good.{good_from, refusal_from, some_refusal, followed, look_from}
use Rattle.fronts.proofs.Read.{good_most}
use Rattle.fronts.proofs.Cutting.{front_on}
use Rattle.streams.proofs.Filling.{read, read_on_lem}
use Rattle.rescue_file.specs.declared.AfterChunk.{AfterChunk}
use Rattle.rescue_file.specs.Serving.{Between, outset, after_keep, after_list, with_more, served, after_chunk, after_chunks, Holds, Reached, Turned, to_serve, Keeps, Lists, Steps}

-- ---- what is moved to the front

module _ (buf after : List ℕ) (n end : ℕ) (inside : n ≤ length buf) (e : end ≤ n)
    (f : after ≡ take (n - end) (drop end buf) ++ drop (n - end) buf) where
  moved_long : length (take (n - end) (drop end buf)) ≡ n - end
  moved_long = length-take-le (n - end) (drop end buf) (rw length-drop (omega arith))

  moved : take (n - end) after ≡ drop end (take n buf)
  moved =
      ap (take (n - end)) f
      ∙ take_at (take (n - end) (drop end buf)) (drop (n - end) buf) (n - end) moved_long
      ∙ sym (drop_take end n buf)

  moved_count : n - end ≡ length (drop end (take n buf))
  moved_count = rw (drop_take end n buf) (sym moved_long)

-- ---- blocks that are kept

is_some_refusal : (n : ℕ) → is_some (some_refusal n) ≡ not (eqb n 0)
is_some_refusal n = go (eqb n 0)
  where
    go : (t : Bool) → is_some (cond {A = Option ℕ} t None (Some n)) ≡ not t
    go true = refl
    go false = refl

module _ (buf after : List ℕ) (n whole blocks : ℕ) (h : AfterChunk) (seen : Looked)
    (inside : n ≤ length buf)
    (fits : 512 * blocks ≤ n)
    (l : Looks whole blocks (h.behind + 1) (take n buf) seen) where
  pub seen_few : seen.good ≤ blocks
  seen_few = rw l.good (good_most whole blocks (h.behind + 1) (take n buf))

  pub keeps :
      {listing : Bool}
      → listing ≡ is_some seen.refusal
      → after ≡ take (n - 512 * seen.good) (drop (512 * seen.good) buf) ++ drop (n - 512 * seen.good) buf
      → Keeps whole blocks (take n buf) h after
      (record {
        listing = listing;
        behind = h.behind + seen.good;
        records = h.records + seen.records;
        kept = n - 512 * seen.good;
      })
  unfolding after_keep
  keeps t f =
      let few = seen_few in
      let good : seen.good ≡ good_from whole blocks (suc h.behind) (take n buf) = l.good ∙ rw add-one in
      let refusal : seen.refusal ≡ some_refusal (refusal_from whole blocks (suc h.behind) (take n buf)) = l.refusal ∙ rw add-one in
      let end : 512 * seen.good ≤ n = omega arith in
      record {
        listing = t ∙ ap is_some refusal ∙ is_some_refusal (refusal_from whole blocks (suc h.behind) (take n buf));
        behind = rw good;
        records = rw (l.records, good);
        kept = rw (← good) (moved buf after n (512 * seen.good) inside end f);
        count = rw (← good) (moved_count buf after n (512 * seen.good) inside end f);
      }

-- ---- blocks that are listed

module _ (buf after : List ℕ) (h : AfterChunk) (inside : h.kept ≤ length buf) where
  pub lists :
      after ≡ take (h.kept - 512 * (h.kept / 512)) (drop (512 * (h.kept / 512)) buf) ++ drop (h.kept - 512 * (h.kept / 512)) buf
      → Lists (take h.kept buf) h after
      (record {
        listing = true;
        behind = h.behind + h.kept / 512;
        records = h.records;
        kept = h.kept - 512 * (h.kept / 512);
      })
  unfolding after_list
  lists f =
      let long : length (take h.kept buf) ≡ h.kept = length-take-le h.kept buf inside in
      let end : 512 * (h.kept / 512) ≤ h.kept = omega arith in
      record {
        listing = refl;
        behind = rw long;
        records = refl;
        kept = rw long (moved buf after h.kept (512 * (h.kept / 512)) inside end f);
        count = rw long (moved_count buf after h.kept (512 * (h.kept / 512)) inside end f);
      }

-- ---- a chunk

by_eta : (s : Between) (buf : List ℕ) (h : AfterChunk) → Holds s buf h → to_serve h (take h.kept buf) ≡ s
by_eta s buf h k = rw (k.listing, k.behind, k.records, k.kept)

served_listing : (s : Between) → s.listing ≡ true → served s ≡ after_list s
unfolding served
served_listing s e = rw e

served_kept : (s : Between) → s.listing ≡ false → (after_keep 0 (followed s.kept) s).listing ≡ false → served s ≡ after_keep 0 (followed s.kept) s
unfolding served after_keep
served_kept s e f = rw (e, f)

served_listed :
    (s : Between) → s.listing ≡ false → (after_keep 0 (followed s.kept) s).listing ≡ true → served s ≡ after_list (after_keep 0 (followed s.kept) s)
unfolding served after_keep after_list
served_listed s e f = rw (e, f)

module _ (chunk : List ℕ) (h : AfterChunk) where
  pub steps_listing : {buf' : List ℕ} {r : AfterChunk} → h.listing ≡ true → Lists chunk h buf' r → Steps chunk h buf' r
  steps_listing e k = rw (served_listing (to_serve h chunk) e) k

  module _ (blocks : ℕ) (buf : List ℕ) (k : AfterChunk) (e : h.listing ≡ false) (b : blocks ≡ followed chunk) (kept : Keeps 0 blocks chunk h buf k) where
    now : Holds (after_keep 0 (followed chunk) (to_serve h chunk)) buf k
    now = rw (← b) kept

    pub steps_kept : k.listing ≡ false → Steps chunk h buf k
    steps_kept l = rw (served_kept (to_serve h chunk) e (sym now.listing ∙ l)) now

    pub steps_listed : {buf' : List ℕ} {r : AfterChunk} → k.listing ≡ true → Lists (take k.kept buf) k buf' r → Steps chunk h buf' r
    steps_listed {buf'} {r} l listed =
        let same : to_serve k (take k.kept buf) ≡ after_keep 0 (followed chunk) (to_serve h chunk) = by_eta _ buf k now in
        rw (served_listed (to_serve h chunk) e (sym now.listing ∙ l)) (subst (λ (s : Between). Holds (after_list s) buf' r) same listed)

pub followed_is : (n : ℕ) (buf : List ℕ) → n ≤ length buf → n / 512 - 1 ≡ followed (take n buf)
unfolding followed
followed_is n buf h = rw (length-take-le n buf h)

-- ---- a turn

module _ (h : AfterChunk) (before buf : List ℕ) (n : ℕ)
    (f : (h.kept ≤ n) × (n ≤ length buf) × (take h.kept buf ≡ take h.kept before)) where
  pub turned : {buf' : List ℕ} {r : AfterChunk} → Steps (take n buf) h buf' r → Turned before h buf' r
  unfolding after_chunk
  turned {buf'} {r} t =
      record {
        chunk = read h.kept n buf;
        holds = λ s k.
            let whole : take n buf ≡ s.kept ++ read h.kept n buf =
            read_on_lem h.kept n before buf f ∙ ap (λ (b : List ℕ). b ++ read h.kept n buf) k.kept in
            let same : to_serve h (take n buf) ≡ with_more s (read h.kept n buf) =
            ap (to_serve h) whole ∙ rw (k.listing, k.behind, k.records) in
            subst (λ (x : Between). Holds (served x) buf' r) same t;
      }

-- ---- all turns

pub at_outset : (buf : List ℕ) → Reached buf (record { listing = false; behind = 0; records = 0; kept = 0 })
unfolding outset after_chunks
at_outset buf =
    record { chunks = []; holds = record { listing = refl; behind = refl; records = refl; kept = refl; count = refl } }

one_more : (s : Between) (bs : List (List ℕ)) (b : List ℕ) → after_chunks s (bs ++ (b ∷ [])) ≡ after_chunk (after_chunks s bs) b
unfolding after_chunks
one_more s [] b = refl
one_more s (c ∷ bs) b = one_more (after_chunk s c) bs b

pub reached_on :
    {buf : List ℕ} {h : AfterChunk} {buf' : List ℕ} {r : AfterChunk} → Reached buf h → Turned buf h buf' r → Reached buf' r
reached_on {buf' = buf'} {r} c t =
    record {
      chunks = c.chunks ++ (t.chunk ∷ []);
      holds =
          subst (λ (s : Between). Holds s buf' r) (sym (one_more outset c.chunks t.chunk))
          (t.holds (after_chunks outset c.chunks) c.holds);
    }

-- a block and less than another is kept
list_few : (s : Between) → length (after_list s).kept ≤ 1023
unfolding after_list
list_few s = rw length-drop (omega arith)

all_good :
    (s : Between)
    → refusal_from 0 (followed s.kept) (suc s.behind) s.kept ≡ 0
    → good_from 0 (followed s.kept) (suc s.behind) s.kept ≡ followed s.kept
unfolding look_from
all_good s e = (front_on s.behind s.kept [] e).0

left_few : (s : Between) → length s.kept - 512 * followed s.kept ≤ 1023
unfolding followed
left_few s = omega arith

keep_few : (s : Between) → (after_keep 0 (followed s.kept) s).listing ≡ false → length (after_keep 0 (followed s.kept) s).kept ≤ 1023
unfolding after_keep
keep_few s e =
    let none : refusal_from 0 (followed s.kept) (suc s.behind) s.kept ≡ 0 = eqb-true _ 0 (not-false _ e) in
    let all : good_from 0 (followed s.kept) (suc s.behind) s.kept ≡ followed s.kept = all_good s none in
    rw (length-drop, all) (left_few s)

served_few : (s : Between) → length (served s).kept ≤ 1023
served_few s = go s.listing refl
  where
    go : (t : Bool) → s.listing ≡ t → length (served s).kept ≤ 1023
    go true e = rw (served_listing s e) (list_few s)
    go false e = next (after_keep 0 (followed s.kept) s).listing refl
      where
        next : (t : Bool) → (after_keep 0 (followed s.kept) s).listing ≡ t → length (served s).kept ≤ 1023
        next true f = rw (served_listed s e f) (list_few (after_keep 0 (followed s.kept) s))
        next false f = rw (served_kept s e f) (keep_few s f)

still_few : (bs : List (List ℕ)) (s : Between) → length s.kept ≤ 1023 → length (after_chunks s bs).kept ≤ 1023
unfolding after_chunks after_chunk
still_few [] s f = f
still_few (b ∷ bs) s f = still_few bs (after_chunk s b) (served_few (with_more s b))

first_few : length outset.kept ≤ 1023
unfolding outset
first_few = omega arith

pub reached_few : {buf : List ℕ} {h : AfterChunk} → Reached buf h → h.kept ≤ 1023
reached_few c = omega (arith, c.holds.count, still_few c.chunks outset first_few)

-- few blocks are behind then, and no more bytes are left than there were
pub keeps_few :
    (whole blocks n : ℕ) (buf : List ℕ) (h : AfterChunk) {buf' : List ℕ} {r : AfterChunk}
    → Keeps whole blocks (take n buf) h buf' r
    → n ≤ length buf
    → (r.kept ≤ n) × (r.behind ≤ h.behind + blocks)
unfolding after_keep
keeps_few whole blocks n buf h {buf'} {r} k inside =
    let g : ℕ = good_from whole blocks (suc h.behind) (take n buf) in
    let few : g ≤ blocks = good_most whole blocks (suc h.behind) (take n buf) in
    let long : length (take n buf) ≡ n = length-take-le n buf inside in
    let left : length (drop (512 * g) (take n buf)) ≡ n - 512 * g = length-drop (512 * g) (take n buf) ∙ rw long in
    (omega (arith, k.count, left), omega (arith, k.behind, few))
