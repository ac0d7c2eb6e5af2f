-- One claim after another off the bytes, and the judge on the rows of a book's bytes. Assumes nothing.
use Prim.Native.Nat.{ℕ, zero, suc, ◌+◌, ◌*◌, ◌/◌, ◌≤◌, ◌<◌}
use mathlib.Core.Path.{◌≡◌, refl, sym, ap, ◌∙◌}
use mathlib.Core.List.{List, [], ◌∷◌}
use native.Mathlib.Numerals.{add-one}
use native.Mathlib.Omega.{arith}
use lib.ListN.{length, drop}
use lib.Seq.{drop-drop}
use Rattle.model.specs.declared.Day.{Day}
use Rattle.octets.specs.Numbers.{parts}
use Rattle.octets.proofs.Parts.{length_parts}
use Rattle.records.specs.Layout.{book_in}
use Rattle.judge.specs.declared.Claim.{Claim}
use Rattle.judge.specs.declared.Verdict.{Verdict}
use Rattle.judge.specs.Judging.{judge_call}
use Rattle.byte_judge.specs.Claims.{claim_in, claims_in}
use Rattle.model.specs.declared.Order.{Order}

-- the part at a place, and those behind it
part_next :
    {A : Type 0} (f : List ℕ → A) (size n i : ℕ) (b : List ℕ)
    → i < n
    → drop i (parts f size n b) ≡ f (drop (size * i) b) ∷ drop (suc i) (parts f size n b)
unfolding parts
part_next f size zero i b h = absurd (omega arith)
part_next f size (suc n) zero b h =
    let z : size * 0 ≡ 0 = omega arith in
    rw z
part_next {A} f size (suc n) (suc i) b h =
    let e : size + size * i ≡ size * suc i = omega arith in
    part_next f size n i (drop size b) (omega arith)
    ∙ ap (λ (l : List ℕ). f l ∷ drop (suc i) (parts f size n (drop size b))) (drop-drop (size * i) size b ∙ ap (λ (k : ℕ). drop k b) e)

pub claims_length : (b : List ℕ) → length (claims_in b) ≡ length b / 24
unfolding claims_in
claims_length b = length_parts claim_in 24 (length b / 24) b

pub byte_claim_next :
    (b : List ℕ) (i : ℕ) {c : Claim}
    → i < length b / 24
    → c ≡ claim_in (drop (24 * i) b)
    → drop i (claims_in b) ≡ c ∷ drop (i + 1) (claims_in b)
unfolding claims_in
byte_claim_next b i {c} h e =
    part_next claim_in 24 (length b / 24) i b h
    ∙ ap (λ (x : Claim). x ∷ drop (suc i) (parts claim_in 24 (length b / 24) b)) (sym e)
    ∙ ap (λ (n : ℕ). c ∷ drop n (parts claim_in 24 (length b / 24) b)) (sym (add-one i))

pub rows_judged :
    (d : Day) (book : List ℕ) (rows : List Order) (cs : List Claim) (price : ℕ) {v : Verdict}
    → rows ≡ book_in book
    → v ≡ judge_call d price rows cs
    → v ≡ judge_call d price (book_in book) cs
rows_judged d book rows cs price b e = e ∙ rw b
