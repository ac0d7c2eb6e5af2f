-- What a list of claims is free to choose: its order, and how shares between two orders are cut into trades. Assumes nothing.
use Rattle.std.specs.Prelude.{if◌then◌else◌}
use Prim.Native.Nat.{ℕ, ◌+◌, ◌≤◌}
use mathlib.Core.Path.{◌≡◌, refl, sym, ap, ap₂, ◌∙◌}
use mathlib.Core.Bool.{Bool, true, false, not, cond, ◌&&◌, ◌||◌}
use mathlib.Core.List.{List, [], ◌∷◌, ◌++◌}
use native.Mathlib.Omega.{arith}
use lib.Dec.{eqb}
use borrow.Author.Tests.{le-leb}
use Rattle.model.specs.declared.Order.{Order}
use Rattle.model.specs.declared.Day.{Day}
use Rattle.model.specs.Lists.{all}
use Rattle.model.specs.Book.{is_live}
use Rattle.model.specs.Auction.{auction_price}
use Rattle.judge.specs.declared.Claim.{Claim}
use Rattle.judge.specs.Judging.{has_order, joins, party, claimed_for, granted_to, fills_right, claims_right, agrees, judge_call}
use Rattle.judge.proofs.Own.{claimed_more}

fills_alike :
    (p : ℕ) (book : List Order) (cs ds : List Claim) (os : List Order)
    → ((o : Order) → claimed_for o cs ≡ claimed_for o ds)
    → all (fills_right p book cs) os ≡ all (fills_right p book ds) os
unfolding all fills_right
fills_alike p book cs ds [] f = refl
fills_alike p book cs ds (o ∷ os) f =
    ap₂ ◌&&◌ (ap (λ (n : ℕ). not (is_live o) || eqb n (granted_to p book o)) (f o)) (fills_alike p book cs ds os f)

-- lists that join alike and are claimed alike are judged alike
alike :
    (d : Day) (price : ℕ) (book : List Order) (cs ds : List Claim)
    → all (joins book) cs ≡ all (joins book) ds
    → ((o : Order) → claimed_for o cs ≡ claimed_for o ds)
    → judge_call d price book cs ≡ judge_call d price book ds
unfolding judge_call agrees claims_right
alike d price book cs ds e f = rw (e, fills_alike (auction_price d book) book cs ds book f)

-- ---- its order

all_swap : (book : List Order) (cs ds : List Claim) (a b : Claim) → all (joins book) (cs ++ (a ∷ b ∷ ds)) ≡ all (joins book) (cs ++ (b ∷ a ∷ ds))
unfolding all
all_swap book [] ds a b = swap (joins book a) (joins book b) (all (joins book) ds)
  where
    swap : (x y z : Bool) → (x && (y && z)) ≡ (y && (x && z))
    swap true y z = refl
    swap false true z = refl
    swap false false z = refl
all_swap book (c ∷ cs) ds a b = ap (λ (t : Bool). joins book c && t) (all_swap book cs ds a b)

claimed_swap : (o : Order) (cs ds : List Claim) (a b : Claim) → claimed_for o (cs ++ (a ∷ b ∷ ds)) ≡ claimed_for o (cs ++ (b ∷ a ∷ ds))
claimed_swap o [] ds a b =
    omega (arith, claimed_more o a (b ∷ ds), claimed_more o b ds, claimed_more o b (a ∷ ds), claimed_more o a ds)
claimed_swap o (c ∷ cs) ds a b =
    claimed_more o c (cs ++ (a ∷ b ∷ ds)) ∙ rw (claimed_swap o cs ds a b) (sym (claimed_more o c (cs ++ (b ∷ a ∷ ds))))

pub any_order :
    (d : Day) (price : ℕ) (book : List Order) (cs ds : List Claim) (a b : Claim)
    → judge_call d price book (cs ++ (a ∷ b ∷ ds)) ≡ judge_call d price book (cs ++ (b ∷ a ∷ ds))
any_order d price book cs ds a b = alike d price book _ _ (all_swap book cs ds a b) (λ o. claimed_swap o cs ds a b)

-- ---- one claim for the shares of two

claim : ℕ → ℕ → ℕ → Claim
claim buyer seller q = record { shares = q; buyer = buyer; seller = seller }

cut_joined :
    (book : List Order) (m n buyer seller : ℕ) (cs : List Claim)
    → 1 ≤ m
    → 1 ≤ n
    → all (joins book) (claim buyer seller (m + n) ∷ cs) ≡ all (joins book) (claim buyer seller m ∷ claim buyer seller n ∷ cs)
unfolding all joins claim
cut_joined book m n buyer seller cs h k =
    rw (le-leb 1 (m + n) (omega arith), le-leb 1 m h, le-leb 1 n k) (again (has_order 0 book buyer && has_order 1 book seller) _)
  where
    again : (t u : Bool) → (t && u) ≡ (t && (t && u))
    again true u = refl
    again false u = refl

cut_claimed :
    (o : Order) (m n buyer seller : ℕ) (cs : List Claim)
    → claimed_for o (claim buyer seller (m + n) ∷ cs) ≡ claimed_for o (claim buyer seller m ∷ claim buyer seller n ∷ cs)
unfolding claim party
cut_claimed o m n buyer seller cs =
    claimed_more o (claim buyer seller (m + n)) cs
    ∙ go (eqb (if eqb o.side 0 then buyer else seller) o.number)
    ∙ ap (λ (x : ℕ). (if eqb (if eqb o.side 0 then buyer else seller) o.number then m else 0) + x) (sym (claimed_more o (claim buyer seller n) cs))
    ∙ sym (claimed_more o (claim buyer seller m) (claim buyer seller n ∷ cs))
  where
    go : (t : Bool) → cond t (m + n) 0 + claimed_for o cs ≡ cond t m 0 + (cond t n 0 + claimed_for o cs)
    go true = omega arith
    go false = omega arith

pub any_cut :
    (d : Day) (price : ℕ) (book : List Order) (m n buyer seller : ℕ) (cs : List Claim)
    → 1 ≤ m
    → 1 ≤ n
    → judge_call d price book (record { shares = m + n; buyer = buyer; seller = seller } ∷ cs)
    ≡ judge_call d price book
    (record { shares = m; buyer = buyer; seller = seller } ∷ record { shares = n; buyer = buyer; seller = seller } ∷ cs)
unfolding claim
any_cut d price book m n buyer seller cs h k =
    alike d price book _ _ (cut_joined book m n buyer seller cs h k) (λ o. cut_claimed o m n buyer seller cs)
