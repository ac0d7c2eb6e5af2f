-- What is promised of the records of a day file as a list holds. Assumes nothing.
use Prim.Native.Nat.{ℕ, zero, suc, ◌*◌, ◌/◌, ◌≤◌}
use mathlib.Core.Path.{◌≡◌, refl}
use mathlib.Core.Bool.{Bool, true, false, cond}
use mathlib.Core.Logic.{◌⊎◌, inl, inr}
use mathlib.Core.List.{List, [], ◌∷◌, ◌++◌}
use native.Mathlib.Omega.{arith}
use lib.ListN.{length, take, drop}
use lib.Seq.{take_all}
use lib.Dec.{eqb}
use borrow.Author.Tests.{eqb-false}
use Rattle.model.specs.Words.{Each}
use Rattle.model.specs.Refusals.{Rule, ◌when◌, first_of}
use Rattle.model.specs.declared.Event.{Event}
use Rattle.book.proofs.Lists.{each_append}
use Rattle.octets.specs.Numbers.{flat}
use Rattle.octets.proofs.Parts.{length_flat}
use Rattle.records.specs.Layout.{over}
use Rattle.file_records.specs.Records.{record_bytes}
use Rattle.file_records.proofs.Recorded.{length_record}
use Rattle.file_blocks.specs.Blocks.{block_rules}
use Rattle.day_files.specs.Files.{Reading, whole_blocks, rules_from, read_rules, events_of, read_file}
use Rattle.file_lists.specs.Lists.{listed, listed_from}
use Rattle.file_lists.specs.Promises.{FileLists}
use Rattle.file_lists.proofs.Placed.{placed}
use Rattle.file_lists.proofs.Told.{list_tells}

refused_stays : (file list : List ℕ) (n : ℕ) → read_file file ≡ Reading.Refused n → listed_from (read_file file) list ≡ list
unfolding listed_from
refused_stays file list n e = rw e

all_written :
    (file list : List ℕ) (es : List Event)
    → read_file file ≡ Reading.Read es
    → 20 * length es ≤ length list
    → listed_from (read_file file) list ≡ flat record_bytes es ++ drop (20 * length es) list
unfolding listed_from listed over
all_written file list es e room =
    let few : length es ≤ length list / 20 = omega arith in
    rw (e, take_all (length list / 20) es few, length_flat record_bytes 20 length_record es)

-- ---- the refusals of a file

Its : ℕ → Type 0
Its n = (n ≡ 24) ⊎ (n ≡ 25) ⊎ (n ≡ 26)

Mine : Rule → Type 0
Mine r = Its r.number

-- the first rule that holds is one of the rules
one_of : (rs : List Rule) → Each Mine rs → (first_of rs ≡ 0 → ⊥) → Its (first_of rs)
unfolding first_of Mine
one_of [] m k = absurd (k refl)
one_of (r ∷ rs) m k = go r.holds k (one_of rs m.1)
  where
    go :
        (t : Bool)
        → (cond t r.number (first_of rs) ≡ 0 → ⊥)
        → ((first_of rs ≡ 0 → ⊥) → Its (first_of rs))
        → Its (cond t r.number (first_of rs))
    go true k more = m.0
    go false k more = more k

block_mine : (whole place : ℕ) (b : List ℕ) → Each Mine (block_rules whole place b)
unfolding block_rules ◌when◌ Mine Its
block_mine whole place b = (inl refl, (inr (inl refl), (inr (inr refl), tt)))

rules_mine : (whole blocks place : ℕ) (rest : List ℕ) → Each Mine (rules_from whole blocks place rest)
unfolding rules_from ◌when◌ Mine Its
rules_mine whole zero place rest = (inr (inr refl), tt)
rules_mine whole (suc blocks) place rest =
    each_append Mine (block_rules whole place (take 512 rest)) _ (block_mine whole place (take 512 rest)) (rules_mine whole blocks (suc place) (drop 512 rest))

refused_means : (file : List ℕ) (n : ℕ) → read_file file ≡ Reading.Refused n → (first_of (read_rules file) ≡ n) × (first_of (read_rules file) ≡ 0 → ⊥)
unfolding read_file
refused_means file n e = go (eqb (first_of (read_rules file)) 0) refl e
  where
    go :
        (t : Bool)
        → eqb (first_of (read_rules file)) 0 ≡ t
        → cond t (Reading.Read (events_of (whole_blocks file) file)) (Reading.Refused (first_of (read_rules file))) ≡ Reading.Refused n
        → (first_of (read_rules file) ≡ n) × (first_of (read_rules file) ≡ 0 → ⊥)
    go true s f = let z : ◌≡◌ {A = ℕ} 0 1 = cc in absurd (omega arith)
    go false s f = (cc, eqb-false _ 0 s)

its_refusals : (file : List ℕ) (n : ℕ) → read_file file ≡ Reading.Refused n → (n ≡ 24) ⊎ (n ≡ 25) ⊎ (n ≡ 26)
unfolding read_rules Its
its_refusals file n e =
    let k = refused_means file n e in
    rw k.0 at (one_of (read_rules file) (rules_mine (whole_blocks file) (whole_blocks file) 1 file) k.1)

pub file_lists : FileLists
file_lists =
    record { refused = refused_stays; refusals = its_refusals; whole = all_written; own_bytes = placed; tells = list_tells }
