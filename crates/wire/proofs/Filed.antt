-- A day file read, on bytes: the list and the reply, and no two differing outcomes meet the promise. Assumes nothing.
use Prim.Native.Nat.{ℕ}
use mathlib.Core.Path.{◌≡◌, sym, ap, ◌∙◌}
use mathlib.Core.List.{List}
use Rattle.std.proofs.Common.{Result}
use Rattle.day_files.specs.Files.{read_file, count_file}
use Rattle.file_lists.specs.Lists.{listed_from, found_numbers}
use Rattle.wire.specs.Files.{FileLeft, file_left, file_leaves, ReadFilePromise}
use Rattle.wire.proofs.Refused.{Answered}

pub file_answered :
    (file records reply : List ℕ) {found : Result ℕ ℕ} {row records' reply' : List ℕ} {r : ℕ}
    → (found ≡ count_file file) × (records' ≡ listed_from (read_file file) records)
    → row ≡ found_numbers found
    → Answered row reply r reply'
    → file_left r records' reply' ≡ file_leaves file records reply
unfolding file_leaves
file_answered file records reply {found} {row} {records'} {reply'} {r} e f a =
    let n : row ≡ found_numbers (count_file file) = f ∙ ap found_numbers e.0 in
    let told : Answered (found_numbers (count_file file)) reply r reply' = rw n at a in
    rw (told.0, told.1, e.1)

-- `flemorix_read_file`
pub read_file_determined :
    (file records reply : List ℕ) (r s : ℕ) (records₁ reply₁ records₂ reply₂ : List ℕ)
    → ReadFilePromise file records reply r records₁ reply₁
    → ReadFilePromise file records reply s records₂ reply₂
    → (r ≡ s) × (records₁ ≡ records₂) × (reply₁ ≡ reply₂)
read_file_determined file records reply r s records₁ reply₁ records₂ reply₂ e f =
    let g = e ∙ sym f in
    (ap (λ (o : FileLeft). o.returns) g, ap (λ (o : FileLeft). o.records) g, ap (λ (o : FileLeft). o.reply) g)
