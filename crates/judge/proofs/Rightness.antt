-- The judge's tests as plain facts: when it refuses, and when it says yes. Assumes nothing.
use Rattle.std.specs.Prelude.{if◌then◌else◌}
use Prim.Native.Nat.{ℕ}
use mathlib.Core.Path.{◌≡◌, refl, sym, ◌∙◌}
use mathlib.Core.Logic.{◌↔◌}
use mathlib.Core.Bool.{Bool, true, false, not, ◌||◌}
use mathlib.Core.List.{List}
use native.Mathlib.Omega.{arith}
use lib.Dec.{eqb}
use borrow.Author.Tests.{eqb-true, eq-eqb}
use Rattle.model.specs.declared.Order.{Order}
use Rattle.model.specs.declared.Day.{Day}
use Rattle.model.specs.Book.{is_live}
use Rattle.model.specs.Refusals.{◌when◌, first_of, unsound}
use Rattle.model.specs.Auction.{auction_price}
use Rattle.model.specs.Words.{Each, Sound}
use Rattle.model.proofs.Bools.{not_both}
use Rattle.soundness.proofs.Says.{Says, says_and, says_all, says_le, says_eq, says_itself, says_too}
use Rattle.demands.proofs.Pricings.{not_unsound, sound_if}
use Rattle.judge.specs.declared.Claim.{Claim}
use Rattle.judge.specs.declared.Verdict.TheVariants.{Refused, Yes, No}
use Rattle.judge.specs.Judging.{has_order, joins, claimed_for, granted_to, fills_right, claims_right, agrees, judge_rules, judge_call}
use Rattle.judge.specs.Verdicts.{Joins, Right}

-- ---- the tests of a list

says_joins : (book : List Order) (c : Claim) → Says (joins book c) (Joins book c)
unfolding joins
says_joins book c =
    says_too (λ h. record { some = h.0.0; buy = h.0.1; sell = h.1 }) (λ j. ((j.some, j.buy), j.sell))
    (says_and (says_and (says_le 1 c.shares) (says_itself (has_order 0 book c.buyer))) (says_itself (has_order 1 book c.seller)))

says_fills :
    (p : ℕ) (book : List Order) (cs : List Claim) (o : Order)
    → Says (fills_right p book cs o) (is_live o ≡ true → claimed_for o cs ≡ granted_to p book o)
unfolding fills_right
says_fills p book cs o = go (is_live o) refl
  where
    go : (t : Bool) → is_live o ≡ t → Says (not t || eqb (claimed_for o cs) (granted_to p book o)) (t ≡ true → claimed_for o cs ≡ granted_to p book o)
    go true e = (λ h x. eqb-true _ _ h, λ h. eq-eqb _ _ (h refl))
    go false e = (λ h x. absurd (not_both x refl), λ h. refl)

pub says_claims :
    (p : ℕ) (book : List Order) (cs : List Claim)
    → Says (claims_right p book cs) (Each (Joins book) cs × Each (λ o. is_live o ≡ true → claimed_for o cs ≡ granted_to p book o) book)
unfolding claims_right
says_claims p book cs =
    says_and (says_all (joins book) (Joins book) (says_joins book) cs)
    (says_all (fills_right p book cs) (λ o. is_live o ≡ true → claimed_for o cs ≡ granted_to p book o) (says_fills p book cs) book)

-- ---- the call

module _ (d : Day) (price : ℕ) (book : List Order) (cs : List Claim) where
  pub says_right : Says (agrees (auction_price d book) price book cs) (Right d price book cs)
  unfolding agrees
  says_right =
      says_too
      (λ h. record { left = h.0; joined = h.1.0; granted = rw h.0 h.1.1 })
      (λ r. (r.left, (r.joined, rw r.left at r.granted)))
      (says_and (says_eq price (auction_price d book)) (says_claims (auction_price d book) book cs))

  pub by_tests : unsound d book ≡ false → judge_call d price book cs ≡ (if agrees (auction_price d book) price book cs then Yes else No)
  unfolding judge_call judge_rules first_of ◌when◌
  by_tests u = rw u

  pub by_fifteen : unsound d book ≡ true → judge_call d price book cs ≡ Refused 15
  unfolding judge_call judge_rules first_of ◌when◌
  by_fifteen u = rw u

  told : (b : Bool) (n : ℕ) → (if b then Yes else No) ≡ Refused n → ⊥
  told true n e = let z : ◌≡◌ {A = ℕ} 0 1 = cc in omega arith
  told false n e = let z : ◌≡◌ {A = ℕ} 0 1 = cc in omega arith

  pub refused : (n : ℕ) → (judge_call d price book cs ≡ Refused n) ↔ ((n ≡ 15) × (unsound d book ≡ true))
  refused n = (λ e. go (unsound d book) refl e, λ h. by_fifteen h.1 ∙ rw h.0)
    where
      go : (b : Bool) → unsound d book ≡ b → judge_call d price book cs ≡ Refused n → (n ≡ 15) × (unsound d book ≡ true)
      go true u e = let same : Refused 15 ≡ Refused n = sym (by_fifteen u) ∙ e in (cc, u)
      go false u e = absurd (told (agrees (auction_price d book) price book cs) n (sym (by_tests u) ∙ e))

  yes_or_no : (b : Bool) → (if b then Yes else No) ≡ Yes → b ≡ true
  yes_or_no true e = refl
  yes_or_no false e = let z : ◌≡◌ {A = ℕ} 0 1 = cc in absurd (omega arith)

  -- no yes without a sound day
  pub yes_sound : judge_call d price book cs ≡ Yes → Sound d book
  yes_sound e = go (unsound d book) refl
    where
      go : (b : Bool) → unsound d book ≡ b → Sound d book
      go true u =
          let same : Refused 15 ≡ Yes = sym (by_fifteen u) ∙ e in
          let z : ◌≡◌ {A = ℕ} 0 1 = cc in
          absurd (omega arith)
      go false u = sound_if d book u

  pub exactly : Sound d book → (judge_call d price book cs ≡ Yes) ↔ Right d price book cs
  exactly s = (
    λ e. says_right.0 (yes_or_no _ (sym (by_tests (not_unsound d book s)) ∙ e)),
    λ r. by_tests (not_unsound d book s) ∙ rw (says_right.1 r),
  )
