-- Records copied one by one out of a file's blocks: when i of them stand in the list, the others bring the rest. Assumes nothing.
use Prim.Native.Nat.{ℕ, zero, suc, ◌+◌, ◌-◌, ◌*◌, ◌/◌, ◌≤◌, ◌<◌}
use mathlib.Core.Path.{◌≡◌, refl, sym, ◌∙◌}
use mathlib.Core.List.{List}
use native.Mathlib.Omega.{arith}
use native.Mathlib.Nat.{add-zero, zero-add}
use lib.ListN.{length, get_or, take, drop, length-append, length-drop}
use lib.Seq.{sets, length-take-le}
use Rattle.model.specs.Lists.{from}
use Rattle.octets.specs.Numbers.{flat}
use Rattle.records.specs.Layout.{over}
use Rattle.records.proofs.Counted.{length_from}
use Rattle.records.proofs.Runs.{Storing, storing_start, storing_next, storing_end, sets_over}
use Rattle.file_lists.specs.Lists.{place_of, record_at}

get_d_from : (a n i d : ℕ) → i < n → get_or (from a n) i d ≡ a + i
unfolding from
get_d_from a zero i d h = absurd (omega arith)
get_d_from a (suc n) zero d h = sym (add-zero a)
get_d_from a (suc n) (suc i) d h = get_d_from (suc a) n i d (omega arith) ∙ omega arith

module _ (file list₀ : List ℕ) (count : ℕ) where
  abbrev pub Copying : List ℕ → ℕ → Type 0
  Copying list i = Storing (record_at file) 20 (from 0 count) list₀ 0 list i

  pub copying_start : Copying list₀ 0
  copying_start = storing_start (record_at file) 20 (from 0 count) list₀ 0

  module _ (inside : count ≤ 25 * (length file / 512)) where
    long_record : (i : ℕ) → i < count → length (record_at file i) ≡ 20
    unfolding record_at
    long_record i h =
        let block : i / 25 + 1 ≤ length file / 512 = omega (arith, inside) in
        let end : place_of i + 20 ≤ length file = omega arith in
        length-take-le 20 (drop (place_of i) file) (rw length-drop (omega arith))

    pub copying_next :
        {list b list' : List ℕ} {i : ℕ}
        → Copying list i
        → i < count
        → b ≡ take (place_of i + 20 - place_of i) (drop (place_of i) file)
        → list' ≡ sets list (20 * i) b
        → Copying list' (i + 1)
    unfolding record_at
    copying_next {list} {b} {list'} {i} c h e w =
        let it : get_or (from 0 count) i 0 ≡ i = get_d_from 0 count i 0 h ∙ zero-add i in
        let twenty : place_of i + 20 - place_of i ≡ 20 = omega arith in
        let same : b ≡ record_at file i = rw twenty at e in
        let n : length (record_at file (get_or (from 0 count) i 0)) ≡ 20 = rw it (long_record i h) in
        let put : list' ≡ sets list (0 + 20 * i) (record_at file (get_or (from 0 count) i 0)) = rw (zero-add, it, ← same) w in
        storing_next (record_at file) 20 (from 0 count) list₀ 0 0 c (rw length_from h) n put

    length_copied : (a n : ℕ) → a + n ≤ count → length (flat (record_at file) (from a n)) ≡ 20 * n
    unfolding flat from
    length_copied a zero h = refl
    length_copied a (suc n) h =
        rw (length-append, long_record a (omega arith), length_copied (suc a) n (omega arith)) (omega arith)

    pub copying_end :
        {list : List ℕ} {i : ℕ}
        → 20 * count ≤ length list₀
        → Copying list i
        → count ≤ i
        → list ≡ over (flat (record_at file) (from 0 count)) list₀
    copying_end room c h =
        storing_end (record_at file) 20 (from 0 count) list₀ 0 c (rw length_from h)
        ∙ sets_over (flat (record_at file) (from 0 count)) list₀ (omega (arith, length_copied 0 count (omega arith)))
