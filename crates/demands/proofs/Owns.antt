-- An accepted cancel takes out the one order with that number and account. Assumes nothing.
use Prim.Native.Nat.{ℕ, ◌<◌}
use mathlib.Core.Path.{◌≡◌, refl, sym, ap, ◌∙◌}
use mathlib.Core.Bool.{true, not, ◌&&◌}
use mathlib.Core.List.{List, [], ◌∷◌, ◌++◌}
use native.Mathlib.Omega.{arith}
use native.Mathlib.Numerals.{add-one}
use lib.ListN.{length, get_or, take, drop}
use lib.Dec.{eqb}
use borrow.Author.Tests.{eqb-true, ltb-true, not-false}
use Rattle.model.specs.declared.Order.{Order}
use Rattle.model.specs.declared.Day.{Day}
use Rattle.model.specs.declared.CancelReply as CancelReply
use Rattle.model.specs.Lists.{any, keep, total}
use Rattle.model.specs.Book.{free, is_live, arranged}
use Rattle.model.specs.Refusals.{◌when◌, first_of}
use Rattle.model.specs.Calls.{is_own, cancel_rules, cancel_call}
use Rattle.model.proofs.Bools.{and_left, and_right}
use Rattle.book.specs.Standing.{Fair, Standing, Ranked}
use Rattle.book.specs.Places.{place_of}
use Rattle.book.proofs.Lists.{each_at}
use Rattle.book.proofs.Queues.{live_number}
use Rattle.book.proofs.Finding.{first_passes, own_any, cancel_left_lem}
use Rattle.book.proofs.TakenOut.{cancel_arranged}
use Rattle.demands.specs.Refusing.{NoneOf}
use Rattle.model.specs.Words.{Sound}
use Rattle.demands.specs.Owning.{TakesOut}
use Rattle.demands.proofs.FirstRules.{gives_none}
use Rattle.demands.proofs.Refusals.{cancel_numbers_lem}
use Rattle.demands.proofs.Cases.{cancel_cases}
use Rattle.demands.proofs.Pricings.{sound_ranked}
use Rattle.demands.proofs.Places.{one_place}

module _ (d : Day) (account number : ℕ) (book : List Order) (s : Sound d book) where
  in_order_lem : Ranked book
  in_order_lem = sound_ranked d book s

  stands : Standing book
  stands = in_order_lem.stands

  abbrev place : ℕ
  place = place_of account number book

  module _ (z : first_of (cancel_rules d account number book) ≡ 0) where
    inside : place < length book
    unfolding cancel_rules ◌when◌
    inside =
        let n : NoneOf (cancel_rules d account number book) =
        gives_none (cancel_rules d account number book) (cancel_numbers_lem d account number book) z in
        ltb-true place (length book) (sym (own_any account number book) ∙ not-false (any (is_own account number) book) n.1.1.0)

    is_own_lem : is_own account number (get_or book place free) ≡ true
    unfolding place_of
    is_own_lem = first_passes (is_own account number) book free inside

    abbrev order : Order
    order = get_or book place free

    is_live_lem : order.number ≡ 0 → ⊥
    unfolding is_own
    is_live_lem =
        live_number order
        (and_left (is_live order) (eqb order.number number) (and_left (is_live order && eqb order.number number) (eqb order.account account) is_own_lem))

    number_is : order.number ≡ number
    unfolding is_own
    number_is =
        eqb-true order.number number
        (and_right (is_live order) (eqb order.number number) (and_left (is_live order && eqb order.number number) (eqb order.account account) is_own_lem))

    account_is : order.account ≡ account
    unfolding is_own
    account_is =
        eqb-true order.account account
        (and_right (is_live order && eqb order.number number) (eqb order.account account) is_own_lem)

    takes_out :
        TakesOut account number (total (λ o. o.left) (keep (is_own account number) book)) book
        (arranged (length book) (keep (λ o. not (is_own account number o)) book))
    takes_out =
        let left = cancel_left_lem account number book stands.apart in
        record {
          place = place;
          inside = inside;
          real = λ z. is_live_lem (number_is ∙ z);
          its_number = number_is;
          its_account = account_is;
          its_shares = sym left;
          some = rw left ((each_at Fair book free stands.fair place inside).some is_live_lem);
          only = λ i l e. one_place book stands.apart i place l inside (e ∙ sym number_is) is_live_lem;
          taken_out =
              sym (cancel_arranged book in_order_lem account number refl inside)
              ∙ ap (λ k. take place book ++ (drop k book ++ (free ∷ []))) (add-one place);
        }

  pub cancel_own :
      (shares : ℕ)
      → (cancel_call d account number book).answer.reply ≡ CancelReply.TheVariants.Withdrawn shares
      → TakesOut account number shares book (cancel_call d account number book).book
  cancel_own shares =
      cancel_cases d account number book
      (λ o. o.answer.reply ≡ CancelReply.TheVariants.Withdrawn shares → TakesOut account number shares book o.book)
      (λ z r. let e : total (λ o. o.left) (keep (is_own account number) book) ≡ shares = cc in rw (← e) (takes_out z))
      (λ _ r. let z : ◌≡◌ {A = ℕ} 0 1 = cc in absurd (omega arith))
