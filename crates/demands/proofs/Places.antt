-- Where an order stands in a book: once, and behind those of its side at its price that came before it. Assumes nothing.
use Prim.Native.Nat.{ℕ, zero, suc, ◌≤◌, ◌<◌}
use mathlib.Core.Path.{◌≡◌, refl, sym, ap, ◌∙◌}
use mathlib.Core.List.{List, [], ◌∷◌}
use native.Mathlib.Decide.{dec_lt}
use native.Mathlib.Omega.{arith}
use native.Mathlib.Nat.{le_of_suc-le-suc, not-suc-le-zero}
use lib.ListN.{length, get_or}
use Rattle.model.specs.declared.Order.{Order}
use Rattle.model.specs.Book.{free}
use Rattle.model.specs.Words.{Some, Apart}
use Rattle.book.specs.Standing.{Ranked}
use Rattle.book.specs.Priority.{rank, key}
use Rattle.book.specs.Seats.{seat, Seated}
use Rattle.book.proofs.Lists.{each_at}
use Rattle.book.proofs.Parts.{parts_of}
use Rattle.book.proofs.Seating.{seat_live, seated}
use Rattle.demands.specs.Owning.{StandsOnce}
use Rattle.demands.proofs.Elements.{some_place}

-- ---- once

-- one number, one live order
pub one_place :
    (book : List Order)
    → Apart book
    → (i j : ℕ)
    → i < length book
    → j < length book
    → (get_or book i free).number ≡ (get_or book j free).number
    → ((get_or book j free).number ≡ 0 → ⊥)
    → i ≡ j
one_place [] a i j l m e n = absurd (not-suc-le-zero l)
one_place (o ∷ os) a zero zero l m e n = refl
one_place (o ∷ os) a zero (suc j) l m e n =
    absurd (n (sym e ∙ each_at (λ p. p.number ≡ o.number → o.number ≡ 0) os free a.0 j (le_of_suc-le-suc m) (sym e)))
one_place (o ∷ os) a (suc i) zero l m e n =
    absurd (n (each_at (λ p. p.number ≡ o.number → o.number ≡ 0) os free a.0 i (le_of_suc-le-suc l) e))
one_place (o ∷ os) a (suc i) (suc j) l m e n =
    ap suc (one_place os a.1 i j (le_of_suc-le-suc l) (le_of_suc-le-suc m) e n)

pub stands_once :
    (book : List Order)
    → Apart book
    → (o : Order)
    → (o.number ≡ 0 → ⊥)
    → Some (λ (p : Order). p ≡ o) book
    → StandsOnce o book
stands_once book a o live h =
    let r = some_place book free o h in
    let number : (get_or book r.0 free).number ≡ o.number = ap (λ (p : Order). p.number) r.2 in
    record {
      place = r.0;
      inside = r.1;
      there = r.2;
      only = λ i l e. one_place book a i r.0 l r.1 (e ∙ sym number) (λ z. live (sym number ∙ z));
    }

-- ---- behind its equals

seat_from : (a : ℕ) (os : List Order) → Seated a os → (j : ℕ) → j < length os → a ≤ seat (get_or os j free)
seat_from a [] s j l = absurd (not-suc-le-zero l)
seat_from a (o ∷ os) s zero l = s.0
seat_from a (o ∷ os) s (suc j) l = omega (arith, s.0, seat_from (seat o) os s.1 j (le_of_suc-le-suc l))

seats_rise :
    (a : ℕ) (os : List Order)
    → Seated a os
    → (i j : ℕ)
    → i < j
    → j < length os
    → seat (get_or os i free) ≤ seat (get_or os j free)
seats_rise a [] s i j h l = absurd (not-suc-le-zero l)
seats_rise a (o ∷ os) s i zero h l = absurd (not-suc-le-zero h)
seats_rise a (o ∷ os) s zero (suc j) h l = seat_from (seat o) os s.1 j (le_of_suc-le-suc l)
seats_rise a (o ∷ os) s (suc i) (suc j) h l = seats_rise (seat o) os s.1 i j (le_of_suc-le-suc h) (le_of_suc-le-suc l)

-- of two orders of a side at one price, the one that stands first has the lower number
same_price :
    (o p : Order)
    → (o.number ≡ 0 → ⊥)
    → (p.number ≡ 0 → ⊥)
    → o.side ≡ p.side
    → o.price ≡ p.price
    → seat o ≤ seat p
    → o.number ≤ p.number
unfolding key
same_price o p m n e f l =
    let r : rank o.side o.price ≡ rank p.side p.price = rw (e, f) in
    omega (arith, seat_live o m, seat_live p n)

module _ (book : List Order) (r : Ranked book) where
  -- so none of them stands behind the one with the highest number
  pub behind_equals :
      (i j : ℕ)
      → i < length book
      → j < length book
      → ((get_or book i free).number ≡ 0 → ⊥)
      → ((get_or book j free).number ≡ 0 → ⊥)
      → (get_or book i free).side ≡ (get_or book j free).side
      → (get_or book i free).price ≡ (get_or book j free).price
      → (get_or book i free).number ≤ (get_or book j free).number
      → i ≤ j
  behind_equals i j l m live there e f h = elim (dec_lt j i) [
    | no k ↦ omega arith
    | yes k ↦
        let n : (get_or book j free).number ≤ (get_or book i free).number =
        same_price (get_or book j free) (get_or book i free) there live (sym e) (sym f) (seats_rise 0 book (seated (parts_of book r)) j i k l)
        in
        let same : i ≡ j = one_place book r.stands.apart i j l m (omega arith) there in
        omega arith
  ]
