-- One order against a line of the other side: it trades with the first, one after the other, each but the last whole, until it is filled or
-- nobody is left. Buyers and sellers may change places. Assumes nothing.
use Prim.Native.Nat.{ℕ, suc, ◌+◌, ◌-◌, ◌≤◌, ◌<◌, min}
use mathlib.Core.Path.{◌≡◌, refl, ap, ap₂, ◌∙◌}
use mathlib.Core.List.{List, [], ◌∷◌, map}
use native.Mathlib.Decide.{dec_le}
use native.Mathlib.Nat.{le_refl, min_comm}
use native.Mathlib.Omega.{arith}
use lib.ListN.{length, take}
use Rattle.model.specs.declared.Trade.{Trade}
use Rattle.model.specs.Lists.{total}
use Rattle.model.specs.Matching.{filled}
use Rattle.model.specs.Pairing.{Share, head_less}
use Rattle.model.specs.Words.{Each, held}
use Rattle.book.proofs.Settlements.{filled_nil, filled_more}
use Rattle.pairing.specs.Dealing.{dealt}
use Rattle.pairing.proofs.Turns.{less, head_stays, head_goes, pair_no_sell, pairs, no_buys, turn}
use Rattle.pairing.proofs.Grants.{held_none}
use Rattle.fixed_demands.proofs.Walking.{walk}

-- ---- the two sides changed

abbrev pub mirror : Trade → Trade
mirror t =
    record {
      price = t.price;
      quantity = t.quantity;
      buyer = t.seller;
      seller = t.buyer;
      buyerleft = t.sellerleft;
      sellerleft = t.buyerleft;
    }

dealt_mirror : (p : ℕ) (b s : Share) → dealt p s b ≡ mirror (dealt p b s)
unfolding dealt
dealt_mirror p b s = rw (min_comm s.left b.left)

-- nobody sells
pub no_sells : (p : ℕ) (bs : List Share) → pairs p bs [] ≡ []
unfolding pairs
no_sells p bs = pair_no_sell (length bs + 0) p bs

pub pairs_mirror : (p : ℕ) (bs ss : List Share) → pairs p ss bs ≡ map mirror (pairs p bs ss)
pairs_mirror p =
    walk p (λ bs ss ts. pairs p ss bs ≡ map mirror ts)
    (λ ss. no_sells p ss)
    (λ b bs. no_buys p (b ∷ bs))
    (λ b s bs ss ts more.
    turn p s b ss bs
    ∙ ap₂ (λ x y. x ∷ y) (dealt_mirror p b s)
    (ap (λ q. pairs p (head_less q s ss) (head_less q b bs)) (min_comm s.left b.left) ∙ more))

-- ---- one buyer

-- of these shares nothing has traded yet
abbrev pub Whole : List Share → Type 0
Whole ss = Each (λ (s : Share). s.whole ≡ s.left) ss

pub record Takes (b : Share) (ss : List Share) (ts : List Trade) : Type 0 where
  pub own : Each (λ (t : Trade). t.buyer ≡ b.number) ts
  pub partners : map (λ (t : Trade). t.seller) ts ≡ take (length ts) (map (λ (s : Share). s.number) ss)
  pub whole : Each (λ (t : Trade). t.sellerleft ≡ 0) (take (length ts - 1) ts)
  pub in_all : filled ts ≡ min b.left (held ss)

held_more : (s : Share) (ss : List Share) → held (s ∷ ss) ≡ s.left + held ss
unfolding held total
held_more s ss = refl

one_off : (n : ℕ) → suc n - 1 ≡ n
one_off n = omega arith

nobody_sells : (b : Share) → Takes b [] []
nobody_sells b = record { own = tt; partners = refl; whole = tt; in_all = omega (arith, filled_nil, held_none) }

module _ (p : ℕ) (b s : Share) (ss : List Share) where
  -- the first is enough
  last_one : b.left ≤ s.left → Takes b (s ∷ ss) (dealt p b s ∷ [])
  unfolding dealt
  last_one h =
      record {
        own = (refl, tt);
        partners = refl;
        whole = tt;
        in_all = omega (arith, filled_more (dealt p b s) [], filled_nil, held_more s ss);
      }

  -- it is filled whole, and the rest goes on
  then_more : (ts : List Trade) → s.whole ≡ s.left → s.left < b.left → Takes (less s.left b) ss ts → Takes b (s ∷ ss) (dealt p b s ∷ ts)
  unfolding dealt
  then_more ts e h k =
      record {
        own = (refl, k.own);
        partners = ap (λ (l : List ℕ). s.number ∷ l) k.partners;
        whole = rw (one_off (length ts)) (first ts (omega arith) k.whole);
        in_all = omega (arith, filled_more (dealt p b s) ts, k.in_all, held_more s ss);
      }
    where
      first : (ts : List Trade) → (dealt p b s).sellerleft ≡ 0 → Each (λ (t : Trade). t.sellerleft ≡ 0) (take (length ts - 1) ts) → Each (λ (t : Trade). t.sellerleft ≡ 0) (take (length ts) (dealt p b s ∷ ts))
      first [] z w = tt
      first (t ∷ ts) z w = (z, rw (one_off (length ts)) at w)

pub takes : (p : ℕ) (ss : List Share) → Whole ss → (b : Share) → Takes b ss (pairs p (b ∷ []) ss)
takes p [] e b = rw (no_sells p (b ∷ [])) (nobody_sells b)
takes p (s ∷ ss) e b = go (takes p ss e.1)
  where
    go : ((c : Share) → Takes c ss (pairs p (c ∷ []) ss)) → Takes b (s ∷ ss) (pairs p (b ∷ []) (s ∷ ss))
    go more = elim (dec_le b.left s.left) [
      | yes l ↦
          let q : ℕ = min b.left s.left in
          let g : b.left ≤ q = omega arith in
          rw (turn p b s [] ss, head_goes q b [] g, no_buys p (head_less q s ss)) (last_one p b s ss l)
      | no l ↦
          let h : s.left < b.left = omega arith in
          let m : min b.left s.left ≡ s.left = omega arith in
          rw (turn p b s [] ss, m, head_stays s.left b [] h, head_goes s.left s ss (le_refl s.left))
          (then_more p b s ss (pairs p (less s.left b ∷ []) ss) e.0 h (more (less s.left b)))
    ]
