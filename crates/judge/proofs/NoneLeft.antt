-- With no price left nothing is granted, so that no claim is right. Assumes nothing.
use Rattle.std.specs.Prelude.{if◌then◌else◌}
use Prim.Native.Nat.{ℕ}
use mathlib.Core.Path.{◌≡◌, refl, sym, ◌∙◌}
use mathlib.Core.Logic.{◌↔◌}
use mathlib.Core.Bool.{Bool, true, false, ◌&&◌, ◌||◌}
use mathlib.Core.List.{List, [], ◌∷◌}
use native.Mathlib.Omega.{arith}
use lib.Dec.{eqb}
use borrow.Author.Tests.{eqb-true, eq-eqb}
use Rattle.model.specs.declared.Order.{Order}
use Rattle.model.specs.declared.Day.{Day}
use Rattle.model.specs.Lists.{any, at_least}
use Rattle.model.specs.Book.{is_live, stands_on, queue}
use Rattle.model.specs.Auction.{volume, qualifying, least_difference, left_by, auction_price}
use Rattle.model.specs.Words.{Each, Sound}
use Rattle.model.proofs.Bools.{and_left, and_right, not_both}
use Rattle.book.specs.Standing.{Fair, Standing}
use Rattle.book.proofs.Lists.{each}
use Rattle.auction.proofs.Sides.{supply_bottom}
use Rattle.auction.proofs.Conditions.{volume_is}
use Rattle.pairing.proofs.Turns.{cut_nothing}
use Rattle.pairing.proofs.Grants.{granted_none}
use Rattle.demands.proofs.Pricings.{sound_stands}
use Rattle.judge.specs.declared.Claim.{Claim}
use Rattle.judge.specs.declared.Verdict.TheVariants.{Yes}
use Rattle.judge.specs.Judging.{has_order, party, claimed_for, granted_to, judge_call}
use Rattle.judge.specs.Verdicts.{Joins}
use Rattle.judge.proofs.Rightness.{exactly}
use Rattle.judge.proofs.Own.{claimed_more, claimed_none}

no_price : (d : Day) (book : List Order) → qualifying book ≡ [] → auction_price d book ≡ 0
unfolding auction_price left_by least_difference at_least
no_price d book e = rw e

-- a test that holds of one of them, where those of which it holds give the same fact
one_gives : {A : Type 0} (R : Type 0) (t : A → Bool) (xs : List A) → any t xs ≡ true → Each (λ x. t x ≡ true → R) xs → R
unfolding any
one_gives R t [] e h = absurd (not_both e refl)
one_gives R t (x ∷ xs) e h = go (t x) refl e (λ f. one_gives R t xs f h.1)
  where
    go : (b : Bool) → t x ≡ b → (b || any t xs) ≡ true → (any t xs ≡ true → R) → R
    go true s f more = h.0 s
    go false s f more = more f

module _ (book : List Order) (s : Standing book) where
  nothing_granted : (o : Order) → granted_to 0 book o ≡ 0
  unfolding granted_to
  nothing_granted o =
      let none : volume book 0 ≡ 0 = omega (arith, volume_is book 0, supply_bottom book s) in
      rw (none, cut_nothing (queue o.side book)) (granted_none o.number)

  -- a claim that joins live orders fills one of which nothing is granted
  none_claimed : (cs : List Claim) → Each (Joins book) cs → Each (λ o. is_live o ≡ true → claimed_for o cs ≡ granted_to 0 book o) book → cs ≡ []
  unfolding has_order
  none_claimed [] j g = refl
  none_claimed (c ∷ cs) j g =
      absurd
      (one_gives ⊥ (λ o. stands_on 0 o && eqb o.number c.buyer) book j.0.buy
      (each _ _ book (λ o h e. no o (h (live o (and_left (stands_on 0 o) _ e))) (side o (and_left (stands_on 0 o) _ e)) (and_right (stands_on 0 o) _ e)) g))
    where
      live : (o : Order) → stands_on 0 o ≡ true → is_live o ≡ true
      live o e = unfold stands_on in and_left (is_live o) _ e

      side : (o : Order) → stands_on 0 o ≡ true → eqb o.side 0 ≡ true
      side o e = unfold stands_on in and_right (is_live o) _ e

      named : (o : Order) → eqb o.side 0 ≡ true → eqb c.buyer o.number ≡ true → (if eqb (party o.side c) o.number then c.shares else 0) ≡ c.shares
      named o z w = unfold party in rw (z, w)

      no : (o : Order) → claimed_for o (c ∷ cs) ≡ granted_to 0 book o → eqb o.side 0 ≡ true → eqb o.number c.buyer ≡ true → ⊥
      no o e z n =
          let whose : eqb c.buyer o.number ≡ true = eq-eqb c.buyer o.number (sym (eqb-true o.number c.buyer n)) in
          omega (arith, claimed_more o c cs, named o z whose, nothing_granted o, j.0.some)

pub none_left :
    (d : Day) (price : ℕ) (book : List Order) (cs : List Claim)
    → Sound d book
    → qualifying book ≡ []
    → (judge_call d price book cs ≡ Yes) ↔ ((price ≡ 0) × (cs ≡ []))
none_left d price book cs s q = (
  λ e.
      let r = (exactly d price book cs s).0 e in
      let z : price ≡ 0 = r.left ∙ no_price d book q in
      (z, none_claimed book (sound_stands d book s) cs r.joined (rw z at r.granted)),
  λ h.
      (exactly d price book cs s).1
      (rw (h.0, h.1)
      (record {
        left = sym (no_price d book q);
        joined = tt;
        granted = each Fair _ book (λ o f x. claimed_none o ∙ sym (nothing_granted book (sound_stands d book s) o)) (sound_stands d book s).fair;
      })),
)
