-- Our own auction's trades as claims: each joins a live buy with a live sell for at least one share, and each order is filled what
-- priority grants it. Assumes nothing.
use Rattle.std.specs.Prelude.{if◌then◌else◌}
use Prim.Native.Nat.{ℕ, zero, suc, ◌+◌, ◌-◌, ◌≤◌, ◌<◌, min}
use mathlib.Core.Path.{◌≡◌, refl, sym, ap, ◌∙◌}
use mathlib.Core.Bool.{Bool, true, false, not, cond, ◌&&◌}
use mathlib.Core.List.{List, [], ◌∷◌, map}
use native.Mathlib.Omega.{arith}
use lib.Dec.{ltb, eqb}
use borrow.Author.Tests.{ltb-true, eqb-true, eqb-false, eq-eqb}
use Rattle.model.specs.declared.Order.{Order}
use Rattle.model.specs.declared.Trade.{Trade}
use Rattle.model.specs.declared.Day.{Day}
use Rattle.model.specs.Lists.{keep, any, total}
use Rattle.model.specs.Book.{is_live, stands_on, queue}
use Rattle.model.specs.Auction.{volume, auction_price}
use Rattle.model.specs.Pairing.{Share, cut, head_less, pair, trades_at}
use Rattle.model.specs.ClockCall.{auction_trades}
use Rattle.model.specs.Words.{Each, Sound, granted}
use Rattle.book.specs.Standing.{Fair, Standing}
use Rattle.book.proofs.Lists.{each, both, kept_next}
use Rattle.book.proofs.Queues.{Stands, queue_stands, on_live}
use Rattle.book.proofs.Best.{on_each}
use Rattle.pairing.specs.Fills.{bought, sold}
use Rattle.pairing.proofs.Grants.{bought_next, bought_none, sold_next, sold_none}
use Rattle.pairing.proofs.Filling.{no_grant}
use Rattle.pairing.proofs.Auctioned.{trades_fill}
use Rattle.pairing.proofs.Auctions.{auction_trades_are}
use Rattle.soundness.proofs.Says.{says_none, says_and, says_eq, says_itself}
use Rattle.demands.proofs.Pricings.{sound_stands}
use Rattle.judge.specs.declared.Claim.{Claim}
use Rattle.judge.specs.declared.Verdict.TheVariants.{Yes}
use Rattle.judge.specs.Judging.{has_order, party, claimed_for, granted_to, judge_call}
use Rattle.judge.specs.Verdicts.{Joins, our_claim}
use Rattle.judge.proofs.Rightness.{exactly}

-- ---- what is claimed, one claim at a time

module _ (o : Order) where
  pub claimed_more :
      (c : Claim) (cs : List Claim)
      → claimed_for o (c ∷ cs) ≡ (if eqb (party o.side c) o.number then c.shares else 0) + claimed_for o cs
  unfolding claimed_for
  claimed_more c cs = kept_next (λ (c : Claim). eqb (party o.side c) o.number) (λ (c : Claim). c.shares) c cs

  pub claimed_none : claimed_for o [] ≡ 0
  unfolding claimed_for keep total
  claimed_none = refl

-- ---- at least one share

some_cut : (v : ℕ) (os : List Order) → Each (λ o. 1 ≤ o.left) os → Each (λ s. 1 ≤ s.left) (cut v os)
unfolding cut
some_cut v [] h = tt
some_cut v (o ∷ os) h = go (ltb 0 v) refl (some_cut (v - o.left) os h.1)
  where
    go :
        (t : Bool)
        → ltb 0 v ≡ t
        → Each (λ s. 1 ≤ s.left) (cut (v - o.left) os)
        → Each (λ s. 1 ≤ s.left) (cond t (record { number = o.number; left = min v o.left; whole = o.left } ∷ cut (v - o.left) os) [])
    go true e r = (omega (arith, ltb-true 0 v e, h.0), r)
    go false e r = tt

some_less : (q : ℕ) (s : Share) (ss : List Share) → Each (λ s. 1 ≤ s.left) ss → Each (λ s. 1 ≤ s.left) (head_less q s ss)
unfolding head_less
some_less q s ss h = go (ltb q s.left) refl
  where
    go :
        (t : Bool)
        → ltb q s.left ≡ t
        → Each (λ s. 1 ≤ s.left) (cond t (record { number = s.number; left = s.left - q; whole = s.whole - q } ∷ ss) ss)
    go true e = let l : q < s.left = ltb-true q s.left e in (omega arith, h)
    go false e = h

some_pair :
    (n p : ℕ) (bs ss : List Share)
    → Each (λ s. 1 ≤ s.left) bs
    → Each (λ s. 1 ≤ s.left) ss
    → Each (λ t. 1 ≤ t.quantity) (pair n p bs ss)
unfolding pair
some_pair zero p bs ss h k = tt
some_pair (suc n) p [] ss h k = tt
some_pair (suc n) p (b ∷ bs) [] h k = tt
some_pair (suc n) p (b ∷ bs) (s ∷ ss) h k =
    let q : ℕ = min b.left s.left in (
      omega (arith, h.0, k.0),
      some_pair n p (head_less q b bs) (head_less q s ss) (some_less q b bs h.1) (some_less q s ss k.1),
    )

-- ---- what is claimed of our trades is what they fill

claimed_bought : (o : Order) → eqb o.side 0 ≡ true → (ts : List Trade) → claimed_for o (map our_claim ts) ≡ bought o.number ts
claimed_bought o e [] = claimed_none o ∙ sym (bought_none o.number)
claimed_bought o e (t ∷ ts) =
    claimed_more o (our_claim t) (map our_claim ts) ∙ rw (claimed_bought o e ts) (mine ∙ sym (bought_next o.number t ts))
  where
    mine :
        (if eqb (party o.side (our_claim t)) o.number then (our_claim t).shares else 0) + bought o.number ts
        ≡ (if eqb t.buyer o.number then t.quantity else 0) + bought o.number ts
    mine = unfold party our_claim in rw e

claimed_sold : (o : Order) → eqb o.side 0 ≡ false → (ts : List Trade) → claimed_for o (map our_claim ts) ≡ sold o.number ts
claimed_sold o e [] = claimed_none o ∙ sym (sold_none o.number)
claimed_sold o e (t ∷ ts) =
    claimed_more o (our_claim t) (map our_claim ts) ∙ rw (claimed_sold o e ts) (mine ∙ sym (sold_next o.number t ts))
  where
    mine :
        (if eqb (party o.side (our_claim t)) o.number then (our_claim t).shares else 0) + sold o.number ts
        ≡ (if eqb t.seller o.number then t.quantity else 0) + sold o.number ts
    mine = unfold party our_claim in rw e

-- a trade fills its buyer and its seller
at_least_lem :
    (f : ℕ → List Trade → ℕ) (who : Trade → ℕ)
    → ((n : ℕ) (t : Trade) (ts : List Trade) → f n (t ∷ ts) ≡ (if eqb (who t) n then t.quantity else 0) + f n ts)
    → (ts : List Trade)
    → Each (λ t. t.quantity ≤ f (who t) ts) ts
at_least_lem f who more [] = tt
at_least_lem f who more (t ∷ ts) = (
  let e = more (who t) t ts in
      let own : (if eqb (who t) (who t) then t.quantity else 0) ≡ t.quantity = rw (eq-eqb (who t) (who t) refl) in
      omega arith,
  each (λ u. u.quantity ≤ f (who u) ts) (λ u. u.quantity ≤ f (who u) (t ∷ ts)) ts
      (λ u h. let e = more (who u) t ts in omega arith)
      (at_least_lem f who more ts),
)

each_map : {A B : Type 0} (g : A → B) (P : B → Type 0) (xs : List A) → Each (λ x. P (g x)) xs → Each P (map g xs)
each_map g P [] h = tt
each_map g P (x ∷ xs) h = (h.0, each_map g P xs h.1)

-- ---- together

module _ (p : ℕ) (book : List Order) (s : Standing book) where
  some_left : (side : ℕ) → Each (λ o. 1 ≤ o.left) (queue side book)
  some_left side =
      each (Stands side) (λ o. 1 ≤ o.left) (queue side book) (λ o k. k.0.some (on_live side o k.1)) (queue_stands side book s.fair)

  some_shares : Each (λ t. 1 ≤ t.quantity) (trades_at p book)
  unfolding trades_at
  some_shares =
      some_pair _ p _ _ (some_cut (volume book p) (queue 0 book) (some_left 0)) (some_cut (volume book p) (queue 1 book) (some_left 1))

  -- who is granted a share stands there
  granted_has : (side n : ℕ) → 1 ≤ granted n (cut (volume book p) (queue side book)) → has_order side book n ≡ true
  unfolding has_order
  granted_has side n h = go (any (λ o. stands_on side o && eqb o.number n) book) refl
    where
      go : (t : Bool) → any (λ o. stands_on side o && eqb o.number n) book ≡ t → any (λ o. stands_on side o && eqb o.number n) book ≡ true
      go true e = e
      go false e =
          let none =
          (says_none (λ o. stands_on side o && eqb o.number n) (λ o. (stands_on side o ≡ true) × (o.number ≡ n))
          (λ o. says_and (says_itself (stands_on side o)) (says_eq o.number n)) book).0 (ap not e) in
          let off : Each (λ o. o.number ≡ n → ⊥) (queue side book) =
          on_each (λ o. o.number ≡ n → ⊥) side book (each _ (λ o. stands_on side o ≡ true → o.number ≡ n → ⊥) book (λ o f x y. f (x, y)) none) in
          absurd (omega (arith, no_grant n (volume book p) (queue side book) off))

  own_joined : Each (Joins book) (map our_claim (trades_at p book))
  unfolding our_claim
  own_joined =
      each_map our_claim (Joins book) (trades_at p book)
      (both (λ t. 1 ≤ t.quantity) (λ t. (t.quantity ≤ bought t.buyer (trades_at p book)) × (t.quantity ≤ sold t.seller (trades_at p book)))
      (λ t. Joins book (our_claim t)) (trades_at p book)
      (λ t h k.
      record {
        some = h;
        buy = granted_has 0 t.buyer (omega (arith, (trades_fill p book s t.buyer).buyer, k.0));
        sell = granted_has 1 t.seller (omega (arith, (trades_fill p book s t.seller).seller, k.1));
      })
      some_shares
      (both _ _ _ (trades_at p book) (λ t x y. (x, y)) (at_least_lem bought (λ t. t.buyer) bought_next (trades_at p book))
      (at_least_lem sold (λ t. t.seller) sold_next (trades_at p book))))

  own_granted : Each (λ o. is_live o ≡ true → claimed_for o (map our_claim (trades_at p book)) ≡ granted_to p book o) book
  unfolding granted_to
  own_granted = each Fair _ book (λ o f x. by_side o f (eqb o.side 0) refl) s.fair
    where
      by_side :
          (o : Order)
          → Fair o
          → (t : Bool)
          → eqb o.side 0 ≡ t
          → claimed_for o (map our_claim (trades_at p book)) ≡ granted o.number (cut (volume book p) (queue o.side book))
      by_side o f true e =
          claimed_bought o e (trades_at p book) ∙ (trades_fill p book s o.number).buyer
          ∙ ap (λ (side : ℕ). granted o.number (cut (volume book p) (queue side book))) (sym (eqb-true _ _ e))
      by_side o f false e =
          let off : o.side ≡ 0 → ⊥ = eqb-false _ _ e in
          let one : 1 ≡ o.side = omega (arith, f.side) in
          claimed_sold o e (trades_at p book) ∙ (trades_fill p book s o.number).seller
          ∙ ap (λ (side : ℕ). granted o.number (cut (volume book p) (queue side book))) one

pub own :
    (d : Day) (book : List Order)
    → Sound d book
    → judge_call d (auction_price d book) book (map our_claim (auction_trades d book)) ≡ Yes
own d book s =
    let k = sound_stands d book s in
    let p = auction_price d book in
    (exactly d p book (map our_claim (auction_trades d book)) s).1
    (rw (auction_trades_are book k d)
    (record { left = refl; joined = own_joined p book k; granted = own_granted p book k }))
