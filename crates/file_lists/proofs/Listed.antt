-- The list that is written: the records that a file has one after the other are those of its events. Assumes nothing.
use Rattle.std.proofs.Common.{Result, Ok, Err}
use Rattle.std.specs.Result.{result_unwrap_or}
use Prim.Native.Nat.{ℕ, zero, suc, ◌+◌, ◌*◌, ◌/◌, ◌≤◌, ◌<◌, min}
use mathlib.Core.Path.{◌≡◌, refl, ap, ◌∙◌}
use mathlib.Core.Bool.{Bool, true, false}
use mathlib.Core.List.{List}
use native.Mathlib.Omega.{arith}
use lib.ListN.{length, get_or, take, drop}
use lib.Seq.{drop-cons, take_all}
use lib.Dec.{leb}
use borrow.Author.Tests.{leb-true, leb-false}
use Rattle.model.specs.Lists.{from}
use Rattle.model.specs.declared.Event.TheVariants.{Clock}
use Rattle.octets.specs.Numbers.{AllBytes, flat}
use Rattle.records.specs.Layout.{over}
use Rattle.file_records.specs.Records.{record_bytes}
use Rattle.day_files.specs.Files.{Reading, read_file, counted, count_file}
use Rattle.file_lists.specs.Lists.{record_at, listed, listed_from, fitting_records}
use Rattle.file_lists.proofs.Placed.{few_records, placed}

-- how many are written: none of a refused file, all that there are, or as many as there is room for
pub fits_written :
    (found : Result ℕ ℕ) (room : ℕ) {all n : ℕ} → all ≡ result_unwrap_or found 0 → n ≡ min all room → n ≡ fitting_records found room
unfolding fitting_records
fits_written (Err m) room e f = omega arith
fits_written (Ok m) room e f = rw e at f

-- what stands at each place in turn is the row of what belongs there
flat_from :
    {A : Type 0} (f : ℕ → List ℕ) (g : A → List ℕ) (xs : List A) (d : A)
    → ((i : ℕ) → i < length xs → f i ≡ g (get_or xs i d))
    → (a n : ℕ)
    → a + n ≤ length xs
    → flat f (from a n) ≡ flat g (take n (drop a xs))
unfolding flat from
flat_from f g xs d same a zero h = refl
flat_from f g xs d same a (suc n) h =
    let l : a < length xs = omega arith in
    rw (drop-cons xs a d l, same a l, flat_from f g xs d same (suc a) n (omega arith))

-- as many as there are, or as there is room for
take_min : {A : Type 0} (xs : List A) (n : ℕ) → take (min (length xs) n) xs ≡ take n xs
take_min xs n = go (leb (length xs) n) refl
  where
    go : (t : Bool) → leb (length xs) n ≡ t → take (min (length xs) n) xs ≡ take n xs
    go true t =
        let l : length xs ≤ n = leb-true _ _ t in
        let m : min (length xs) n ≡ length xs = omega arith in
        rw (m, take_all (length xs) xs (omega arith), take_all n xs l)
    go false t =
        let l : n < length xs = leb-false _ _ t in
        let m : min (length xs) n ≡ n = omega arith in
        rw m

module _ (file list : List ℕ) (bytes : AllBytes file) where
  -- the records that are written are there in the file, and have room in the list
  pub written_inside : {found : Result ℕ ℕ} {n : ℕ} → found ≡ count_file file → n ≡ fitting_records found (length list / 20) → (n ≤ 25 * (length file / 512)) × (20 * n ≤ length list)
  unfolding count_file counted fitting_records
  written_inside {found} {n} e w = go (read_file file) refl (w ∙ ap (λ (b : Result ℕ ℕ). fitting_records b (length list / 20)) e)
    where
      go :
          (r : Reading)
          → read_file file ≡ r
          → n ≡ fitting_records (counted r) (length list / 20)
          → (n ≤ 25 * (length file / 512)) × (20 * n ≤ length list)
      go (Reading.Refused m) f w = (omega arith, omega arith)
      go (Reading.Read es) f w = let most : length es ≤ 25 * (length file / 512) = few_records file es bytes f in (omega arith, omega arith)

  -- and they are those of the events that are read; none is written of a refused file
  pub list_written :
      {found : Result ℕ ℕ} {n : ℕ} {list' : List ℕ}
      → found ≡ count_file file
      → n ≡ fitting_records found (length list / 20)
      → list' ≡ over (flat (record_at file) (from 0 n)) list
      → list' ≡ listed_from (read_file file) list
  unfolding count_file counted fitting_records listed_from listed over flat from
  list_written {found} {n} {list'} e w put = go (read_file file) refl (w ∙ ap (λ (b : Result ℕ ℕ). fitting_records b (length list / 20)) e)
    where
      go :
          (r : Reading)
          → read_file file ≡ r
          → n ≡ fitting_records (counted r) (length list / 20)
          → list' ≡ listed_from r list
      go (Reading.Refused m) f w = put ∙ rw w
      go (Reading.Read es) f w =
          let some : n ≤ length es = omega arith in
          let same : flat (record_at file) (from 0 n) ≡ flat record_bytes (take n es) =
          flat_from (record_at file) record_bytes es (Clock 0) (placed file es bytes f (Clock 0)) 0 n (omega arith) in
          put ∙ rw (same, w, take_min es (length list / 20))
