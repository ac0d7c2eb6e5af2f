-- An accepted cancel takes out of the fixed-price book the one order with that number and account. Assumes nothing.
use Prim.Native.Nat.{ℕ, suc, ◌≤◌, ◌<◌}
use mathlib.Core.Path.{◌≡◌, refl, sym, ap, ◌∙◌}
use mathlib.Core.Logic.{⊎_elim}
use mathlib.Core.Bool.{true, not, ◌&&◌}
use mathlib.Core.List.{List, [], ◌∷◌, ◌++◌}
use native.Mathlib.Omega.{arith}
use native.Mathlib.Numerals.{add-one}
use lib.ListN.{length, get_or, take, drop}
use lib.Dec.{eqb}
use borrow.Author.Tests.{eqb-true, ltb-true}
use Rattle.model.specs.declared.Order.{Order}
use Rattle.model.specs.declared.Day.{Day}
use Rattle.model.specs.declared.CancelReply as CancelReply
use Rattle.model.specs.Lists.{keep}
use Rattle.model.specs.Book.{free, is_live}
use Rattle.model.specs.Auction.{shares_of}
use Rattle.model.specs.FixedBook.{lined}
use Rattle.model.specs.Calls.{is_own}
use Rattle.model.specs.FixedCalls.{fixed_cancel_call}
use Rattle.model.specs.Words.{Apart}
use Rattle.model.proofs.Bools.{and_left, and_right}
use Rattle.book.specs.Places.{place_of}
use Rattle.book.proofs.Lists.{each, each_at}
use Rattle.book.proofs.Kept.{free_number}
use Rattle.book.proofs.Queues.{live_number}
use Rattle.book.proofs.Finding.{first_passes, own_any, cancel_keeps, cancel_left_lem}
use Rattle.soundness.specs.SoundDay.{Rests, Place}
use Rattle.arrivals.proofs.Lines.{one_place}
use Rattle.arrivals.proofs.Places.{places_without}
use Rattle.fixed_demands.specs.FixedDay.{of_fixed, FixedDay}
use Rattle.fixed_demands.specs.SeparateFixed.{TakesOut}
use Rattle.fixed_demands.proofs.FixedClauses.{fixed_day_lem, numberless}
use Rattle.fixed_demands.proofs.Allowed.{Cancellable, cancellable}
use Rattle.fixed_demands.proofs.FixedCases.{cancel_cases}
use Rattle.fixed_demands.proofs.Lining.{nr, rising_apart}
use Rattle.fixed_demands.proofs.FixedPlaces.{book_line}

module _ (d : Day) (account number : ℕ) (main book : List Order) (k : Cancellable d account number main book) where
  abbrev day : FixedDay d book
  day = fixed_day_lem d book k.fixed_sound

  abbrev place : ℕ
  place = place_of account number book

  abbrev order : Order
  order = get_or book place free

  apart : Apart book
  apart = rising_apart 0 book (book_line d book day).rises

  inside : place < length book
  inside = ltb-true place (length book) (sym (own_any account number book) ∙ k.there)

  is_own_lem : is_own account number order ≡ true
  unfolding place_of
  is_own_lem = first_passes (is_own account number) book free inside

  named : is_live order && eqb order.number number ≡ true
  unfolding is_own
  named = and_left (is_live order && eqb order.number number) (eqb order.account account) is_own_lem

  is_live_lem : order.number ≡ 0 → ⊥
  is_live_lem = live_number order (and_left (is_live order) (eqb order.number number) named)

  number_is : order.number ≡ number
  number_is = eqb-true order.number number (and_right (is_live order) (eqb order.number number) named)

  account_is : order.account ≡ account
  unfolding is_own
  account_is = eqb-true order.account account (and_right (is_live order && eqb order.number number) (eqb order.account account) is_own_lem)

  some_left : 1 ≤ order.left
  some_left =
      ⊎_elim (λ e. absurd (is_live_lem (ap nr e ∙ free_number))) (λ (r : Rests (of_fixed d) order). r.some)
      (each_at (Place (of_fixed d)) book free day.places place inside)

  without : lined (length book) (keep (λ o. not (is_own account number o)) book) ≡ take place book ++ (drop (suc place) book ++ (free ∷ []))
  unfolding lined
  without =
      places_without nr free free_number book (book_line d book day)
      (each (Place (of_fixed d)) (λ o. o.number ≡ 0 → o ≡ free) book (numberless d) day.places)
      (λ o. not (is_own account number o)) place inside
      (cancel_keeps account number book apart ∙ ap (λ n. take place book ++ drop n book) (sym (add-one place)))
      ∙ ap (λ n. take place book ++ (drop n book ++ (free ∷ []))) (add-one place)

  own_out :
      TakesOut account number (shares_of (is_own account number) book) book
      (lined (length book) (keep (λ o. not (is_own account number o)) book))
  unfolding shares_of
  own_out =
      let left = cancel_left_lem account number book apart in
      record {
        place = place;
        inside = inside;
        real = λ z. is_live_lem (number_is ∙ z);
        its_number = number_is;
        its_account = account_is;
        its_shares = sym left;
        some = rw left some_left;
        only = λ i l e. one_place nr free free_number book (book_line d book day) i place (λ z. is_live_lem (number_is ∙ sym e ∙ z)) (e ∙ sym number_is);
        taken_out = without;
      }

pub takes_out :
    (d : Day) (account number shares : ℕ) (main book : List Order)
    → (fixed_cancel_call d account number main book).reply ≡ CancelReply.TheVariants.Withdrawn shares
    → TakesOut account number shares book (fixed_cancel_call d account number main book).book
takes_out d account number shares main book =
    cancel_cases d account number main book
    (λ o. o.reply ≡ CancelReply.TheVariants.Withdrawn shares → TakesOut account number shares book o.book)
    (λ z r.
    let e : shares_of (is_own account number) book ≡ shares = cc in
    rw (← e) (own_out d account number main book (cancellable d account number main book z)))
    (λ _ r. let z : ◌≡◌ {A = ℕ} 0 1 = cc in absurd (omega arith))

pub cancel_refused_lem :
    (d : Day) (account number : ℕ) (main book : List Order) (n : ℕ)
    → (fixed_cancel_call d account number main book).reply ≡ CancelReply.TheVariants.Refused n
    → (fixed_cancel_call d account number main book).book ≡ book
cancel_refused_lem d account number main book n =
    cancel_cases d account number main book (λ o. o.reply ≡ CancelReply.TheVariants.Refused n → o.book ≡ book)
    (λ _ r. let z : ◌≡◌ {A = ℕ} 0 1 = cc in absurd (omega arith))
    (λ _ r. refl)
