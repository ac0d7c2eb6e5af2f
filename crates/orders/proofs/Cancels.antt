-- A cancel: which of its rules is the first to hold, and what it comes to. Assumes nothing.
use Prim.Native.Nat.{ℕ, ◌+◌, ◌≤◌, ◌<◌}
use mathlib.Core.Path.{◌≡◌, refl, sym, ap, ◌∙◌}
use mathlib.Core.Bool.{true, false, not}
use mathlib.Core.List.{List, [], ◌∷◌, ◌++◌}
use native.Mathlib.Omega.{arith}
use lib.ListN.{length, get_or, take, drop}
use borrow.Author.Tests.{lt-ltb, le-ltb, ltb-true, eqb-false, eq-eqb, ne_eqb, not-false}
use Rattle.model.specs.declared.Order.{Order}
use Rattle.model.specs.declared.Day.{Day}
use Rattle.model.specs.declared.CancelReply.TheVariants.{Withdrawn}
use Rattle.model.specs.Lists.{any, keep, total}
use Rattle.model.specs.Clock.{takes_cancels}
use Rattle.model.specs.Book.{free, queue, arranged}
use Rattle.model.specs.Screen.{update}
use Rattle.model.specs.Refusals.{◌when◌, first_of, unsound}
use Rattle.model.specs.Calls.{is_own, cancel_rules, cancel_call}
use Rattle.model.proofs.Rules.{Numbered, NoneHolds, none_holds}
use Rattle.book.specs.Places.{place_of}
use Rattle.book.specs.Standing.{Standing, Ranked}
use Rattle.book.proofs.Finding.{own_any, own_live, cancel_left_lem}
use Rattle.book.proofs.Lists.{length_keep}
use Rattle.book.proofs.Kept.{standing_keep}
use Rattle.book.proofs.Counting.{queues_fit}
use Rattle.book.proofs.Arranging.{arranged_ranked}
use Rattle.book.proofs.TakenOut.{live_before, cancel_arranged}
use Rattle.book.specs.Promises.{cancel_left, cancel_refused}

module _ (d : Day) (account number : ℕ) (rows : List Order) where
  abbrev book : List Order
  book = rows

  abbrev rules : ℕ
  rules = first_of (cancel_rules d account number book)

  pub cancel_unsound : unsound d book ≡ true → 15 ≡ rules
  unfolding cancel_rules first_of ◌when◌
  cancel_unsound u = rw u

  module _ (u : unsound d book ≡ false) where
    pub cancel_shut : takes_cancels d.time ≡ false → 4 ≡ rules
    unfolding cancel_rules first_of ◌when◌
    cancel_shut t = rw (u, t)

    module _ (t : takes_cancels d.time ≡ true) {place : ℕ} (e : place ≡ place_of account number book) where
      places : length book ≡ length rows
      places = refl

      pub cancel_unknown : length rows ≤ place → 12 ≡ rules
      unfolding cancel_rules first_of ◌when◌
      cancel_unknown h =
          rw (u, t, own_any account number book, le-ltb (place_of account number book) (length book) (omega (arith, places)))

      pub cancel_none : place < length rows → 0 ≡ rules
      unfolding cancel_rules first_of ◌when◌
      cancel_none h =
          rw (u, t, own_any account number book, lt-ltb (place_of account number book) (length book) (omega (arith, places)))

  numbered : Numbered (cancel_rules d account number book)
  unfolding cancel_rules ◌when◌
  numbered = (eqb-false 15 0 refl, (eqb-false 4 0 refl, (eqb-false 12 0 refl, tt)))

  module _ {n : ℕ} (r : n ≡ rules) where
    pub cancel_refused_lem : (n ≡ 0 → ⊥) → cancel_left (cancel_refused d n) rows ≡ cancel_call d account number book
    unfolding cancel_call
    cancel_refused_lem z = rw (ne_eqb rules 0 (λ y. z (r ∙ y)), r)

    module _ (z : n ≡ 0) where
      -- none of the rules holds: the day is sound, and the account has such an order
      none : NoneHolds (cancel_rules d account number book)
      none = none_holds _ numbered (sym r ∙ z)

      module _ {place : ℕ} (e : place ≡ place_of account number book) where
        cancel_place : place < length rows
        unfolding cancel_rules ◌when◌
        cancel_place =
            let h : any (is_own account number) book ≡ true = not-false _ none.1.1.0 in
            let k : place_of account number book < length book = ltb-true _ _ (sym (own_any account number book) ∙ h) in
            omega arith

        -- it is live, so it stands before the free places
        pub cancel_live : Ranked book → place < length (queue 0 book) + length (queue 1 book)
        cancel_live r =
            live_before book r place
            (λ n.
            own_live account number book (omega (arith, e, cancel_place))
            (ap (λ (i : ℕ). (get_or book i free).number) (sym e) ∙ n))

        module _ (after : List Order) (r₁ : Ranked book) (g : after ≡ take place book ++ (drop (place + 1) book ++ (free ∷ []))) where
          left_book : after ≡ arranged (length book) (keep (λ o. not (is_own account number o)) book)
          left_book = g ∙ cancel_arranged book r₁ account number e (omega (arith, cancel_place))

          pub cancel_ranked : Ranked after
          cancel_ranked =
              let others : List Order = keep (λ o. not (is_own account number o)) book in
              let s : Standing others = standing_keep (λ o. not (is_own account number o)) book r₁.stands in
              rw left_book
              (arranged_ranked (length book) others s
              (omega (arith, queues_fit others s.fair, length_keep (λ o. not (is_own account number o)) book))
              r₁.few)

          pub cancel_accepted :
              {own : Order} {day : Day}
              → own ≡ get_or rows place free
              → day ≡ update [] after d
              → cancel_left (record { reply = Withdrawn own.left; day = day }) after ≡ cancel_call d account number book
          unfolding cancel_call
          cancel_accepted {own} {day} f u =
              let l : own.left ≡ total (λ o. o.left) (keep (is_own account number) book) =
              ap (λ (o : Order). o.left) (f ∙ ap (λ (k : ℕ). get_or rows k free) e)
              ∙ sym (cancel_left_lem account number book r₁.stands.apart)
              in
              rw (eq-eqb rules 0 (sym r ∙ z), l, u, left_book)
