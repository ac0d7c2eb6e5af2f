-- Fixed-price orders that match, all at the close: nobody is filled more than he has, the orders have less by what was bought and what was
-- sold, and of one side nobody is left. Assumes nothing.
use Prim.Native.Nat.{ℕ, ◌+◌, ◌-◌, ◌*◌, ◌≤◌}
use mathlib.Core.Path.{◌≡◌, refl, sym, ap, ◌∙◌}
use mathlib.Core.Logic.{◌⊎◌, inl, inr, ⊎_elim}
use mathlib.Core.Bool.{Bool, true, false}
use mathlib.Core.List.{List, [], ◌∷◌, map}
use native.Mathlib.Decide.{dec_lt}
use native.Mathlib.Omega.{arith}
use lib.ListN.{length}
use borrow.Author.Tests.{lt-ltb, le-ltb}
use Rattle.model.specs.declared.Order.{Order}
use Rattle.model.specs.declared.Trade.{Trade}
use Rattle.model.specs.Lists.{keep, total}
use Rattle.model.specs.Book.{free, stands_on}
use Rattle.model.specs.Matching.{filled, filled_of, less_by, settle}
use Rattle.model.specs.Figures.{money}
use Rattle.model.specs.Pairing.{Share, head_less}
use Rattle.model.specs.FixedBook.{arrivals, matches}
use Rattle.model.specs.Words.{Each, Apart}
use Rattle.book.specs.Standing.{Fair, Standing}
use Rattle.book.proofs.Lists.{each, both, every, each_keep, kept, keep_true, keep_false}
use Rattle.book.proofs.Best.{each_kept}
use Rattle.book.proofs.Kept.{Less, after, after_less}
use Rattle.book.proofs.Settlements.{filled_nil, filled_more}
use Rattle.book.proofs.Shares.{of_number, Only, each_only, stake, filled_stakes, settle_total}
use Rattle.book.proofs.Numbers.{tick}
use Rattle.book.proofs.Queues.{place_of, on_live, same_stand}
use Rattle.book.proofs.Thinning.{free_nowhere}
use Rattle.book.proofs.Parts.{not_here}
use Rattle.pairing.specs.Fills.{bought, sold}
use Rattle.pairing.proofs.Turns.{pairs, head_stays, head_goes}
use Rattle.pairing.proofs.Grants.{pairs_at, in_both}
use Rattle.pairing.proofs.Auctioned.{priced_money}
use Rattle.fixed_demands.proofs.Walking.{Own, HasShares, parties, left_over, Took, took, one_done}

pub each_map : {A B : Type 0} (P : B → Type 0) (f : A → B) (xs : List A) → Each (λ x. P (f x)) xs → Each P (map f xs)
each_map P f [] h = tt
each_map P f (x ∷ xs) h = (h.0, each_map P f xs h.1)

-- what an order brings
abbrev share : Order → Share
share o = record { number = o.number; left = o.left; whole = o.left }

pub matches_are : (close : ℕ) (os : List Order) → matches close os ≡ pairs close (arrivals 0 os) (arrivals 1 os)
unfolding matches pairs
matches_are close os = refl

-- what each order of a side has, each of its shares has, and back
module _ (P : Share → Type 0) (side : ℕ) (os : List Order) where
  pub each_share : Each (λ o. stands_on side o ≡ true → P (share o)) os → Each P (arrivals side os)
  unfolding arrivals
  each_share e =
      each_map P share (keep (stands_on side) os)
      (both (λ o. stands_on side o ≡ true → P (share o)) (λ o. stands_on side o ≡ true) (λ o. P (share o)) (keep (stands_on side) os) (λ o f t. f t)
      (each_keep (λ o. stands_on side o ≡ true → P (share o)) (stands_on side) os e) (kept (stands_on side) os))

  pub share_each : Each P (arrivals side os) → Each (λ o. stands_on side o ≡ true → P (share o)) os
  unfolding arrivals
  share_each e = each_kept (λ o. P (share o)) (stands_on side) os (go (keep (stands_on side) os) e)
    where
      go : (xs : List Order) → Each P (map share xs) → Each (λ o. P (share o)) xs
      go [] h = tt
      go (x ∷ xs) h = (h.0, go xs h.1)

arrivals_on : (side : ℕ) (o : Order) (os : List Order) → stands_on side o ≡ true → arrivals side (o ∷ os) ≡ share o ∷ arrivals side os
unfolding arrivals
arrivals_on side o os e = rw (keep_true (stands_on side) o os e)

arrivals_off : (side : ℕ) (o : Order) (os : List Order) → stands_on side o ≡ false → arrivals side (o ∷ os) ≡ arrivals side os
unfolding arrivals
arrivals_off side o os e = rw (keep_false (stands_on side) o os e)

-- ---- each order's own shares

pub shares_own : (side : ℕ) (os : List Order) → Apart os → Own (arrivals side os)
shares_own side [] a = unfold arrivals keep in tt
shares_own side (o ∷ os) a = go (stands_on side o) refl (shares_own side os a.1)
  where
    go : (b : Bool) → stands_on side o ≡ b → Own (arrivals side os) → Own (arrivals side (o ∷ os))
    go true e more =
        rw (arrivals_on side o os e) (
          each_share (λ (s : Share). s.number ≡ o.number → ⊥) side os
              (each (λ p. p.number ≡ o.number → o.number ≡ 0) (λ p. stands_on side p ≡ true → p.number ≡ o.number → ⊥) os
              (λ p f _ z. on_live side o e (f z)) a.0),
          more,
        )
    go false e more = rw (arrivals_off side o os e) more

pub shares_some : (side : ℕ) (os : List Order) → Each Fair os → HasShares (arrivals side os)
shares_some side os f =
    each_share (λ (s : Share). 1 ≤ s.left) side os
    (each Fair (λ o. stands_on side o ≡ true → 1 ≤ o.left) os (λ o h e. h.some (on_live side o e)) f)

-- ---- after trades

-- who stood on the other side, or on none, is not on this one afterwards
off_after : (side : ℕ) (ts : List Trade) (o : Order) → stands_on side o ≡ false → stands_on side (after ts o) ≡ false
off_after side ts o e = go (after_less ts o)
  where
    go : (after ts o ≡ free) ⊎ Less o (after ts o) → stands_on side (after ts o) ≡ false
    go (inl z) = ap (stands_on side) z ∙ free_nowhere side
    go (inr l) = sym (same_stand side o (after ts o) l.side l.number) ∙ e

-- what q shares leave of an order is what they leave of its share
share_less :
    (side q : ℕ) (o : Order) (os : List Order)
    → stands_on side o ≡ true
    → arrivals side (less_by q o ∷ os) ≡ head_less q (share o) (arrivals side os)
unfolding less_by
share_less side q o os e = elim (dec_lt q o.left) [
  | yes l ↦
      let p : Order = record { side = o.side; account = o.account; left = o.left - q; price = o.price; number = o.number } in
      rw (lt-ltb q o.left l) (arrivals_on side p os (same_stand side p o refl refl ∙ e) ∙ sym (head_stays q (share o) (arrivals side os) l))
  | no l ↦
      rw (le-ltb q o.left (omega arith))
      (arrivals_off side free os (free_nowhere side) ∙ sym (head_goes q (share o) (arrivals side os) (omega arith)))
]

-- the shares of a side are what the trades leave of them
settled_shares :
    (side : ℕ) (ts : List Trade) (f : ℕ → ℕ) (os : List Order)
    → Each (λ o. stands_on side o ≡ true → filled_of o.number ts ≡ f o.number) os
    → arrivals side (settle ts os) ≡ left_over f (arrivals side os)
unfolding settle
settled_shares side ts f [] e = unfold arrivals keep left_over in refl
settled_shares side ts f (o ∷ os) e = go (stands_on side o) refl (settled_shares side ts f os e.1)
  where
    go :
        (b : Bool)
        → stands_on side o ≡ b
        → arrivals side (map (after ts) os) ≡ left_over f (arrivals side os)
        → arrivals side (after ts o ∷ map (after ts) os) ≡ left_over f (arrivals side (o ∷ os))
    go false x more =
        arrivals_off side (after ts o) (map (after ts) os) (off_after side ts o x)
        ∙ more
        ∙ ap (left_over f) (sym (arrivals_off side o os x))
    go true x more =
        share_less side (filled_of o.number ts) o (map (after ts) os) x
        ∙ (unfold left_over in rw (e.0 x, more, arrivals_on side o os x))

-- ---- who bears a number

module _ (os : List Order) (s : Standing os) where
  -- how many orders of a side bear it
  abbrev bears : ℕ → ℕ → ℕ
  bears side n = of_number n (λ o. tick (stands_on side o)) os

  -- an order's number is its own alone
  own_number : (side other : ℕ) → Each (λ o. stands_on side o ≡ true → bears other o.number ≡ tick (stands_on other o)) os
  own_number side other =
      each (Only os) (λ o. stands_on side o ≡ true → bears other o.number ≡ tick (stands_on other o)) os
      (λ o h e. h (on_live side o e) (λ x. tick (stands_on other x))) (each_only os s.apart)

  one_bears : (side : ℕ) → Each (λ (x : Share). bears side x.number ≡ 1) (arrivals side os)
  one_bears side =
      each_share (λ (x : Share). bears side x.number ≡ 1) side os
      (each (λ o. stands_on side o ≡ true → bears side o.number ≡ tick (stands_on side o)) (λ o. stands_on side o ≡ true → bears side o.number ≡ 1) os
      (λ o h e. h e ∙ rw e) (own_number side side))

  none_bears : (side other : ℕ) → (side ≡ other → ⊥) → Each (λ (x : Share). bears other x.number ≡ 0) (arrivals side os)
  none_bears side other n =
      each_share (λ (x : Share). bears other x.number ≡ 0) side os
      (each (λ o. stands_on side o ≡ true → bears other o.number ≡ tick (stands_on other o)) (λ o. stands_on side o ≡ true → bears other o.number ≡ 0) os
      (λ o h e. h e ∙ rw (not_here side other o n e)) (own_number side other))

  -- so no share of the other side bears an order's number
  elsewhere : (side other : ℕ) → (side ≡ other → ⊥) → Each (λ o. stands_on side o ≡ true → Each (λ (x : Share). x.number ≡ o.number → ⊥) (arrivals other os)) os
  elsewhere side other n =
      share_each (λ (y : Share). Each (λ (x : Share). x.number ≡ y.number → ⊥) (arrivals other os)) side os
      (each (λ (y : Share). bears other y.number ≡ 0) (λ (y : Share). Each (λ (x : Share). x.number ≡ y.number → ⊥) (arrivals other os)) (arrivals side os)
      (λ y z.
      each (λ (x : Share). bears other x.number ≡ 1) (λ (x : Share). x.number ≡ y.number → ⊥) (arrivals other os)
      (λ x o e. omega (arith, sym o ∙ ap (bears other) e ∙ z)) (one_bears other))
      (none_bears side other n))

  -- ---- the trades

  module _ (close : ℕ) where
    abbrev ts : List Trade
    ts = matches close os

    pub all_took : Took (arrivals 0 os) (arrivals 1 os) ts
    all_took = rw (matches_are close os) (took close (arrivals 0 os) (arrivals 1 os))

    pub matches_priced : Each (λ t. t.price ≡ close) ts
    matches_priced = rw (matches_are close os) (pairs_at close (arrivals 0 os) (arrivals 1 os))

    pub matches_money : money ts ≡ close * filled ts
    matches_money = priced_money close ts matches_priced

    -- who only buys is filled what he bought, who only sells what he sold
    pub bought_only : Each (λ o. stands_on 0 o ≡ true → filled_of o.number ts ≡ bought o.number ts) os
    bought_only =
        each (λ o. stands_on 0 o ≡ true → Each (λ (x : Share). x.number ≡ o.number → ⊥) (arrivals 1 os)) (λ o. stands_on 0 o ≡ true → filled_of o.number ts ≡ bought o.number ts) os
        (λ o h e. omega (arith, in_both o.number ts, all_took.sellers o.number (h e))) (elsewhere 0 1 (omega arith))

    pub sold_only : Each (λ o. stands_on 1 o ≡ true → filled_of o.number ts ≡ sold o.number ts) os
    sold_only =
        each (λ o. stands_on 1 o ≡ true → Each (λ (x : Share). x.number ≡ o.number → ⊥) (arrivals 0 os)) (λ o. stands_on 1 o ≡ true → filled_of o.number ts ≡ sold o.number ts) os
        (λ o h e. omega (arith, in_both o.number ts, all_took.buyers o.number (h e))) (elsewhere 1 0 (omega arith))

    -- ---- never more than he has

    -- no order has the number 0
    numbered : (side : ℕ) → Each (λ (x : Share). x.number ≡ 0 → ⊥) (arrivals side os)
    numbered side =
        each_share (λ (x : Share). x.number ≡ 0 → ⊥) side os
        (every (λ (o : Order). stands_on side o ≡ true → o.number ≡ 0 → ⊥) os (λ o e. on_live side o e))

    none_filled : filled_of 0 ts ≡ 0
    none_filled = omega (arith, in_both 0 ts, all_took.buyers 0 (numbered 0), all_took.sellers 0 (numbered 1))

    abbrev Within : Order → Type 0
    Within o = filled_of o.number ts ≤ o.left

    buys_within : Each (λ o. stands_on 0 o ≡ true → Within o) os
    buys_within =
        both (λ o. stands_on 0 o ≡ true → filled_of o.number ts ≡ bought o.number ts) (λ o. stands_on 0 o ≡ true → bought o.number ts ≤ o.left) (λ o. stands_on 0 o ≡ true → Within o) os
        (λ o x y e. omega (arith, x e, y e)) bought_only
        (share_each (λ (x : Share). bought x.number ts ≤ x.left) 0 os (all_took.buys (shares_own 0 os s.apart)))

    sells_within : Each (λ o. stands_on 1 o ≡ true → Within o) os
    sells_within =
        both (λ o. stands_on 1 o ≡ true → filled_of o.number ts ≡ sold o.number ts) (λ o. stands_on 1 o ≡ true → sold o.number ts ≤ o.left) (λ o. stands_on 1 o ≡ true → Within o) os
        (λ o x y e. omega (arith, x e, y e)) sold_only
        (share_each (λ (x : Share). sold x.number ts ≤ x.left) 1 os (all_took.sells (shares_own 1 os s.apart)))

    pub never_over : Each (λ o. filled_of o.number ts ≤ o.left) os
    never_over =
        both Fair (λ o. (stands_on 0 o ≡ true → Within o) × (stands_on 1 o ≡ true → Within o)) Within os
        (λ o f w. ⊎_elim (λ k. w.0 k.0) (λ l. ⊎_elim (λ k. w.1 k.1) (λ k. free_within o k.2) l) (place_of o f))
        s.fair
        (both (λ o. stands_on 0 o ≡ true → Within o) (λ o. stands_on 1 o ≡ true → Within o) (λ o. (stands_on 0 o ≡ true → Within o) × (stands_on 1 o ≡ true → Within o)) os (λ o x y. (x, y)) buys_within sells_within)
      where
        free_within : (o : Order) → o.number ≡ 0 → Within o
        free_within o z = rw z (omega (arith, none_filled))

    -- ---- each share that trades was bought and sold

    -- the number of just one order
    abbrev OneHas : ℕ → Type 0
    OneHas n = (q : ℕ) → of_number n (λ o. q) os ≡ q

    ones : (side : ℕ) → Each (λ (x : Share). OneHas x.number) (arrivals side os)
    ones side =
        each_share (λ (x : Share). OneHas x.number) side os
        (each (Only os) (λ o. stands_on side o ≡ true → OneHas o.number) os (λ o h e q. h (on_live side o e) (λ _. q)) (each_only os s.apart))

    parties_have : Each (λ (t : Trade). OneHas t.buyer × OneHas t.seller) ts
    parties_have = rw (matches_are close os) (parties close OneHas OneHas (arrivals 0 os) (arrivals 1 os) (ones 0) (ones 1))

    -- a buyer is no seller
    parties_differ : Each (λ (t : Trade). t.buyer ≡ t.seller → ⊥) ts
    parties_differ =
        each (λ (t : Trade). (bears 0 t.buyer ≡ 1) × (bears 0 t.seller ≡ 0)) (λ (t : Trade). t.buyer ≡ t.seller → ⊥) ts
        (λ t h e. omega (arith, sym h.0 ∙ ap (bears 0) e ∙ h.1))
        (rw (matches_are close os)
        (parties close (λ n. bears 0 n ≡ 1) (λ n. bears 0 n ≡ 0) (arrivals 0 os) (arrivals 1 os) (one_bears 0) (none_bears 1 0 (omega arith))))

    twice : (rs : List Trade) → Each (λ (t : Trade). OneHas t.buyer × OneHas t.seller) rs → total (stake os) rs ≡ 2 * filled rs
    unfolding total
    twice [] e = omega (arith, filled_nil)
    twice (r ∷ rs) e = omega (arith, e.0.0 r.quantity, e.0.1 r.quantity, twice rs e.1, filled_more r rs)

    pub both_filled : total (λ o. filled_of o.number ts) os ≡ 2 * filled ts
    both_filled = filled_stakes ts os parties_differ ∙ twice ts parties_have

    -- so the orders have as much less afterwards
    pub settled_total : total (λ o. o.left) (settle ts os) + 2 * filled ts ≡ total (λ o. o.left) os
    settled_total = omega (arith, settle_total ts os never_over, both_filled)

    -- ---- of one side nobody is left

    pub buys_settled : arrivals 0 (settle ts os) ≡ left_over (λ n. bought n ts) (arrivals 0 os)
    buys_settled = settled_shares 0 ts (λ n. bought n ts) os bought_only

    pub sells_settled : arrivals 1 (settle ts os) ≡ left_over (λ n. sold n ts) (arrivals 1 os)
    sells_settled = settled_shares 1 ts (λ n. sold n ts) os sold_only

    nobody_left : (side : ℕ) (xs : List Order) → arrivals side xs ≡ [] → keep (stands_on side) xs ≡ []
    unfolding arrivals
    nobody_left side xs e = go (keep (stands_on side) xs) e
      where
        go : (ys : List Order) → map share ys ≡ [] → ys ≡ []
        go [] h = refl
        go (y ∷ ys) h = absurd (omega (arith, ap length h))

    pub one_side_left : (keep (stands_on 0) (settle ts os) ≡ []) ⊎ (keep (stands_on 1) (settle ts os) ≡ [])
    one_side_left =
        ⊎_elim (λ e. inl (nobody_left 0 (settle ts os) (buys_settled ∙ e))) (λ e. inr (nobody_left 1 (settle ts os) (sells_settled ∙ e))) done
      where
        done : (left_over (λ n. bought n ts) (arrivals 0 os) ≡ []) ⊎ (left_over (λ n. sold n ts) (arrivals 1 os) ≡ [])
        done =
            rw (matches_are close os)
            (one_done close (arrivals 0 os) (arrivals 1 os) (shares_own 0 os s.apart) (shares_own 1 os s.apart) (shares_some 0 os s.fair) (shares_some 1 os s.fair))
