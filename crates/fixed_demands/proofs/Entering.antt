-- A fixed-price order that is taken: its reply, and from 15:05 on its trades with the first of the other side, one after the other. Assumes
-- nothing.
use Prim.Native.Nat.{ℕ, zero, suc, ◌-◌, ◌≤◌, min}
use mathlib.Core.Path.{◌≡◌, refl, sym, ap, ap₂, ◌∙◌, subst}
use mathlib.Core.Logic.{◌⊎◌, ⊎_elim}
use mathlib.Core.Bool.{true, false}
use mathlib.Core.List.{List, [], ◌∷◌, ◌++◌, map, map-map, map-append, append-nil}
use native.Mathlib.Decide.{ℕ_discrete}
use native.Mathlib.Omega.{arith}
use lib.ListN.{length, take, length-map}
use lib.Dec.{eqb}
use borrow.Author.Tests.{eq-eqb, ne_eqb}
use Rattle.model.specs.declared.Order.{Order}
use Rattle.model.specs.declared.AskedFixed.{AskedFixed}
use Rattle.model.specs.declared.Trade.{Trade}
use Rattle.model.specs.declared.Day.{Day}
use Rattle.model.specs.Lists.{keep, total}
use Rattle.model.specs.Book.{is_live, stands_on, other}
use Rattle.model.specs.Matching.{filled}
use Rattle.model.specs.Figures.{close_price, next_fixed}
use Rattle.model.specs.Pairing.{Share}
use Rattle.model.specs.FixedBook.{arrivals, matches}
use Rattle.model.specs.FixedCalls.{arriving, fixed_trades}
use Rattle.model.specs.Words.{Each, held}
use Rattle.book.proofs.Lists.{every, keep_append}
use Rattle.book.proofs.Settlements.{filled_more}
use Rattle.book.proofs.Queues.{number_live}
use Rattle.fixed_demands.specs.FixedPrice.{WithinLimits, ByTime}
use Rattle.fixed_demands.proofs.Allowed.{Allowed}
use Rattle.fixed_demands.proofs.Lining.{live_taken, taken_side}
use Rattle.fixed_demands.proofs.FixedClauses.{fixed_day_lem}
use Rattle.fixed_demands.proofs.Matched.{matches_are, each_share}
use Rattle.fixed_demands.proofs.OneTaker.{mirror, no_sells, pairs_mirror, Whole, Takes, takes}
use Rattle.fixed_demands.proofs.Limits.{within_limits}
use Rattle.fixed_demands.proofs.KeptFixed.{arriving_stands, arriving_right, late}

-- ---- the shares of a side

-- each with all that is left of its order
all_whole : (side : ℕ) (os : List Order) → Whole (arrivals side os)
all_whole side os = each_share (λ (x : Share). x.whole ≡ x.left) side os (every (λ (o : Order). stands_on side o ≡ true → o.left ≡ o.left) os (λ o e. refl))

pub shares_append : (side : ℕ) (xs ys : List Order) → arrivals side (xs ++ ys) ≡ arrivals side xs ++ arrivals side ys
unfolding arrivals
shares_append side xs ys =
    rw (keep_append (stands_on side) xs ys)
    (map-append (λ (o : Order). record { number = o.number; left = o.left; whole = o.left }) (keep (stands_on side) xs) (keep (stands_on side) ys))

-- the live ones have them all
pub shares_live : (side : ℕ) (os : List Order) → arrivals side (keep is_live os) ≡ arrivals side os
unfolding arrivals
shares_live side os = rw (live_taken os, taken_side side os)

pub shares_none : (side : ℕ) (os : List Order) → keep (stands_on side) os ≡ [] → arrivals side os ≡ []
unfolding arrivals
shares_none side os e = rw e

-- their numbers and what they hold
share_numbers : (side : ℕ) (os : List Order) → map (λ (x : Share). x.number) (arrivals side os) ≡ map (λ (o : Order). o.number) (keep (stands_on side) os)
unfolding arrivals
share_numbers side os = map-map (λ (x : Share). x.number) (λ (o : Order). record { number = o.number; left = o.left; whole = o.left }) (keep (stands_on side) os)

share_total : (side : ℕ) (os : List Order) → held (arrivals side os) ≡ total (λ (o : Order). o.left) (keep (stands_on side) os)
unfolding arrivals held total
share_total side os = go (keep (stands_on side) os)
  where
    go : (xs : List Order) → total (λ (x : Share). x.left) (map (λ (o : Order). record { number = o.number; left = o.left; whole = o.left }) xs) ≡ total (λ (o : Order). o.left) xs
    go [] = refl
    go (x ∷ xs) = omega (arith, go xs)

-- ---- the new order, behind all others

module _ (d : Day) (a : AskedFixed) (book : List Order) where
  abbrev new : Order
  new = record { side = a.side; account = a.account; left = a.quantity; price = a.price; number = next_fixed d }

  abbrev brought : Share
  brought = record { number = next_fixed d; left = a.quantity; whole = a.quantity }

  abbrev os : List Order
  os = arriving d a book

  new_live : is_live new ≡ true
  unfolding next_fixed
  new_live = number_live new (λ z. omega arith)

  new_on : stands_on a.side new ≡ true
  unfolding stands_on
  new_on = rw (new_live, eq-eqb a.side a.side refl)

  new_off : (side : ℕ) → (a.side ≡ side → ⊥) → stands_on side new ≡ false
  unfolding stands_on
  new_off side n = rw (new_live, ne_eqb a.side side n)

  its_share : arrivals a.side (new ∷ []) ≡ brought ∷ []
  unfolding arrivals keep
  its_share = rw new_on

  no_share : (side : ℕ) → (a.side ≡ side → ⊥) → arrivals side (new ∷ []) ≡ []
  unfolding arrivals keep
  no_share side n = rw (new_off side n)

  own_shares : arrivals a.side os ≡ arrivals a.side book ++ (brought ∷ [])
  unfolding arriving
  own_shares =
      shares_append a.side (keep is_live book) (new ∷ [])
      ∙ ap₂ (λ x y. x ++ y) (shares_live a.side book) its_share

  other_shares : (side : ℕ) → (a.side ≡ side → ⊥) → arrivals side os ≡ arrivals side book
  unfolding arriving
  other_shares side n =
      shares_append side (keep is_live book) (new ∷ [])
      ∙ ap₂ (λ x y. x ++ y) (shares_live side book) (no_share side n)
      ∙ append-nil (arrivals side book)

  -- where one side has nobody, the new one meets all of the other side alone
  module _ (close : ℕ) (one_sided_lem : (keep (stands_on 0) book ≡ []) ⊎ (keep (stands_on 1) book ≡ [])) where
    buys : a.side ≡ 0 → Takes brought (arrivals 1 book) (matches close os)
    buys z =
        rw (matches_are close os, own, other_shares 1 (λ e. omega arith))
        (⊎_elim
        (λ e. rw (shares_none 0 book e) (takes close (arrivals 1 book) (all_whole 1 book) brought))
        (λ e. rw (shares_none 1 book e, no_sells close (arrivals 0 book ++ (brought ∷ []))) (rw (no_sells close (brought ∷ [])) at (takes close [] tt brought)))
        one_sided_lem)
      where
        own : arrivals 0 os ≡ arrivals 0 book ++ (brought ∷ [])
        own = subst (λ (side : ℕ). arrivals side os ≡ arrivals side book ++ (brought ∷ [])) z own_shares

    sells : a.side ≡ 1 → Takes brought (arrivals 0 book) (map mirror (matches close os))
    sells z =
        rw (matches_are close os, own, other_shares 0 (λ e. omega arith), ← pairs_mirror close (arrivals 0 book) (arrivals 1 book ++ (brought ∷ [])))
        (⊎_elim
        (λ e. rw (shares_none 0 book e, no_sells close (arrivals 1 book ++ (brought ∷ []))) (rw (no_sells close (brought ∷ [])) at (takes close [] tt brought)))
        (λ e. rw (shares_none 1 book e) (takes close (arrivals 0 book) (all_whole 0 book) brought))
        one_sided_lem)
      where
        own : arrivals 1 os ≡ arrivals 1 book ++ (brought ∷ [])
        own = subst (λ (side : ℕ). arrivals side os ≡ arrivals side book ++ (brought ∷ [])) z own_shares

-- ---- the two sides changed

unmap : (P : Trade → Type 0) (rs : List Trade) → Each P (map mirror rs) → Each (λ (t : Trade). P (mirror t)) rs
unmap P [] e = tt
unmap P (r ∷ rs) e = (e.0, unmap P rs e.1)

take_mirror : (n : ℕ) (rs : List Trade) → take n (map mirror rs) ≡ map mirror (take n rs)
take_mirror zero rs = refl
take_mirror (suc n) [] = refl
take_mirror (suc n) (r ∷ rs) = ap (λ (l : List Trade). mirror r ∷ l) (take_mirror n rs)

filled_mirror : (rs : List Trade) → filled (map mirror rs) ≡ filled rs
filled_mirror [] = refl
filled_mirror (r ∷ rs) = omega (arith, filled_more (mirror r) (map mirror rs), filled_more r rs, filled_mirror rs)

module _ (d : Day) (a : AskedFixed) (book : List Order) (ts : List Trade) (w : Each (WithinLimits (close_price d) (arriving d a book)) ts) where
  buy_by_time : a.side ≡ 0 → Takes (brought d a book) (arrivals 1 book) ts → ByTime d a book ts
  unfolding next_fixed other
  buy_by_time z k =
      let e : eqb a.side 0 ≡ true = eq-eqb a.side 0 z in
      record {
        own = rw e k.own;
        partners = rw e (k.partners ∙ ap (take (length ts)) (share_numbers 1 book));
        whole = rw e k.whole;
        in_all = rw e (k.in_all ∙ ap (min a.quantity) (share_total 1 book));
        limits = w;
      }

  sell_by_time : (a.side ≡ 0 → ⊥) → Takes (brought d a book) (arrivals 0 book) (map mirror ts) → ByTime d a book ts
  unfolding next_fixed other
  sell_by_time n k =
      let e : eqb a.side 0 ≡ false = ne_eqb a.side 0 n in
      let long : length (map mirror ts) ≡ length ts = length-map ts mirror in
      record {
        own = rw e (unmap (λ (t : Trade). t.buyer ≡ suc d.fixed.issued) ts k.own);
        partners =
            rw e
            (sym (map-map (λ (t : Trade). t.seller) mirror ts)
            ∙ k.partners
            ∙ ap₂ take long (share_numbers 0 book));
        whole =
            rw e
            (unmap (λ (t : Trade). t.sellerleft ≡ 0) (take (length ts - 1) ts)
            (subst (Each (λ (t : Trade). t.sellerleft ≡ 0)) (ap (λ n. take (n - 1) (map mirror ts)) long ∙ take_mirror (length ts - 1) ts) k.whole));
        in_all = rw e (sym (filled_mirror ts) ∙ k.in_all ∙ ap (min a.quantity) (share_total 0 book));
        limits = w;
      }

-- ---- an order that no rule refuses, from 15:05 on

pub by_time :
    (d : Day) (a : AskedFixed) (main book : List Order) (room : ℕ)
    → Allowed d a main book room
    → 54_300 ≤ d.time
    → ByTime d a book (fixed_trades d a book)
by_time d a main book room k l =
    rw (late d a main book room k l)
    (elim (ℕ_discrete a.side 0) [
      | yes z ↦ buy_by_time d a book (matches (close_price d) (arriving d a book)) limits z (buys d a book (close_price d) one_sided_lem z)
      | no n ↦
          sell_by_time d a book (matches (close_price d) (arriving d a book)) limits n
          (sells d a book (close_price d) one_sided_lem (omega (arith, k.side, n)))
    ])
  where
    one_sided_lem : (keep (stands_on 0) book ≡ []) ⊎ (keep (stands_on 1) book ≡ [])
    one_sided_lem = (fixed_day_lem d book k.fixed_sound).one_sided l

    limits : Each (WithinLimits (close_price d) (arriving d a book)) (matches (close_price d) (arriving d a book))
    limits = within_limits (close_price d) (arriving d a book) (arriving_stands d a main book room k) (arriving_right d a main book room k l)
