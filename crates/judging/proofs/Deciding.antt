-- The call step by step: what is known by the day and the price, and what the claims decide then. Assumes nothing.
use Rattle.std.specs.Prelude.{if◌then◌else◌}
use Prim.Native.Nat.{ℕ}
use mathlib.Core.Path.{◌≡◌, refl, sym, ◌∙◌}
use mathlib.Core.Bool.{Bool, true, false}
use mathlib.Core.List.{List}
use native.Mathlib.Omega.{arith}
use lib.Dec.{eqb}
use borrow.Author.Tests.{eq-eqb, ne_eqb, eqb-true}
use Rattle.model.specs.declared.Order.{Order}
use Rattle.model.specs.declared.Day.{Day}
use Rattle.model.specs.Refusals.{◌when◌, first_of, unsound}
use Rattle.model.specs.Auction.{auction_price}
use Rattle.book.specs.Standing.{Ranked}
use Rattle.soundness.proofs.Readiness.{ready_if}
use Rattle.judge.specs.declared.Claim.{Claim}
use Rattle.judge.specs.declared.Verdict.{Verdict}
use Rattle.judge.specs.declared.Verdict.TheVariants.{Refused, Yes, No}
use Rattle.judge.specs.Judging.{claims_right, agrees, judge_rules, judge_call}
use Rattle.judging.specs.Prices.{price_verdict}
use Rattle.judge.proofs.Rightness.{by_tests, by_fifteen}

module _ (d : Day) (price : ℕ) (book : List Order) where
  pub price_refused : unsound d book ≡ true → Refused 15 ≡ price_verdict d price book
  unfolding price_verdict judge_rules first_of ◌when◌
  price_refused u = rw u

  by_price : unsound d book ≡ false → price_verdict d price book ≡ (if eqb price (auction_price d book) then Yes else No)
  unfolding price_verdict judge_rules first_of ◌when◌
  by_price u = rw u

  pub price_wrong : unsound d book ≡ false → {p : ℕ} → p ≡ auction_price d book → (price ≡ p → ⊥) → No ≡ price_verdict d price book
  price_wrong u e n = sym (by_price u ∙ rw (ne_eqb price (auction_price d book) (λ f. n (f ∙ sym e))))

  pub price_right : unsound d book ≡ false → {p : ℕ} → p ≡ auction_price d book → price ≡ p → Yes ≡ price_verdict d price book
  price_right u e f = sym (by_price u ∙ rw (eq-eqb price (auction_price d book) (f ∙ e)))

  -- where that is a yes, the day is sound and the price is the one that is left
  price_yes : Yes ≡ price_verdict d price book → (unsound d book ≡ false) × (price ≡ auction_price d book)
  price_yes e = go (unsound d book) refl (eqb price (auction_price d book)) refl
    where
      go :
          (u : Bool)
          → unsound d book ≡ u
          → (b : Bool)
          → eqb price (auction_price d book) ≡ b
          → (unsound d book ≡ false) × (price ≡ auction_price d book)
      go true u b f = let bad : Yes ≡ Refused 15 = e ∙ sym (price_refused u) in let z : ◌≡◌ {A = ℕ} 0 1 = cc in absurd (omega arith)
      go false u true f = (u, eqb-true price (auction_price d book) f)
      go false u false f = let bad : Yes ≡ No = e ∙ by_price u ∙ rw f in let z : ◌≡◌ {A = ℕ} 0 1 = cc in absurd (omega arith)

  pub decided_ranked : {v : Verdict} → v ≡ price_verdict d price book → v ≡ Yes → Ranked book
  decided_ranked p y = (ready_if d book (price_yes (sym y ∙ p)).0).ranked

  module _ (cs : List Claim) where
    -- no, or 15, whatever is claimed
    pub unread : {v : Verdict} → v ≡ price_verdict d price book → (v ≡ Yes → ⊥) → v ≡ judge_call d price book cs
    unread {v} e n = go (unsound d book) refl (eqb price (auction_price d book)) refl
      where
        off : eqb price (auction_price d book) ≡ false → agrees (auction_price d book) price book cs ≡ false
        off f = unfold agrees in rw f

        go : (u : Bool) → unsound d book ≡ u → (b : Bool) → eqb price (auction_price d book) ≡ b → v ≡ judge_call d price book cs
        go true u b f = e ∙ sym (price_refused u) ∙ sym (by_fifteen d price book cs u)
        go false u true f = absurd (n (e ∙ by_price u ∙ rw f))
        go false u false f =
            let no : No ≡ price_verdict d price book = sym (by_price u ∙ rw f) in
            let told : judge_call d price book cs ≡ No = by_tests d price book cs u ∙ rw (off f) in
            e ∙ sym no ∙ sym told

    -- the claims decide
    module _
        {v : Verdict} (p : v ≡ price_verdict d price book) (y : v ≡ Yes) {r : Bool}
        (f : r ≡ claims_right price book cs) where
      e : Yes ≡ price_verdict d price book
      e = sym y ∙ p

      tests : agrees (auction_price d book) price book cs ≡ r
      unfolding agrees
      tests =
          let left = (price_yes e).1 in
          rw (sym left, eq-eqb price price refl) (sym f)

      pub claims_yes : r ≡ true → Yes ≡ judge_call d price book cs
      claims_yes t = sym (by_tests d price book cs (price_yes e).0 ∙ rw (tests ∙ t))

      pub claims_no : r ≡ false → No ≡ judge_call d price book cs
      claims_no t = sym (by_tests d price book cs (price_yes e).0 ∙ rw (tests ∙ t))
