-- What every call on bytes shares: lengths that are refused before anything is read, and a reply that is put. Assumes nothing.
use Prim.Native.Nat.{ℕ, ◌/◌, ◌<◌}
use mathlib.Core.Path.{◌≡◌}
use mathlib.Core.Logic.{◌⊎◌}
use mathlib.Core.Bool.{true, false}
use mathlib.Core.List.{List}
use native.Mathlib.Omega.{arith}
use lib.ListN.{length}
use borrow.Author.Tests.{le-leb, lt-leb}
use Rattle.model.specs.declared.Day.{Day}
use Rattle.model.specs.Sound.{has_places}
use Rattle.model.specs.Refusals.{unsound}
use Rattle.records.specs.Layout.{book_in, returned, replied}
use Rattle.records.proofs.Back.{length_book_in}

-- a day of another length, or a book of too many places
abbrev pub Unread : List ℕ → List ℕ → Type 0
Unread day book = (length day ≡ 352 → ⊥) ⊎ ((length day ≡ 352) × (4096 < length book / 40))

pub too_many : (book : List ℕ) → 4096 < length book / 40 → has_places (book_in book) ≡ false
unfolding has_places
too_many book h =
    let n : length (book_in book) ≡ length book / 40 = length_book_in book in
    rw (le-leb 1 (length (book_in book)) (omega arith), lt-leb (length (book_in book)) 4096 (omega arith))

pub too_many_unsound : (d : Day) (book : List ℕ) → 4096 < length book / 40 → unsound d (book_in book) ≡ true
unfolding unsound
too_many_unsound d book h = rw (too_many book h)

-- a reply of these numbers is put, and the first returned
abbrev pub Answered : List ℕ → List ℕ → ℕ → List ℕ → Type 0
Answered ns reply r reply' = (r ≡ returned ns) × (reply' ≡ replied ns reply)

pub answered : (reply : List ℕ) {row ns reply' : List ℕ} {r : ℕ} → row ≡ ns → Answered row reply r reply' → Answered ns reply r reply'
answered reply e a = rw e at a
