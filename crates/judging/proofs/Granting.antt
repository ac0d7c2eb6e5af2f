-- The grants along a book in order: each place gets what priority grants the order there. Assumes nothing.
use Rattle.std.specs.Prelude.{if◌then◌else◌}
use Prim.Native.Nat.{ℕ, ◌+◌, ◌-◌, ◌≤◌, ◌<◌, min}
use mathlib.Core.Path.{◌≡◌, refl, sym, ap, ◌∙◌}
use mathlib.Core.Bool.{Bool, true, false, and-false}
use mathlib.Core.List.{List, [], ◌∷◌, ◌++◌, map, append-nil}
use native.Mathlib.Decide.{ℕ_discrete}
use native.Mathlib.Numerals.{add-one}
use native.Mathlib.Omega.{arith}
use lib.ListN.{length, get_or, set, take, drop, length-set, drop_of_length-le}
use lib.Seq.{take-suc-set, take_all, append_snoc}
use lib.Dec.{eqb}
use borrow.Author.Tests.{eq-eqb, ne_eqb, eqb-true, eqb-false}
use Rattle.model.specs.declared.Order.{Order}
use Rattle.model.specs.Lists.{keep}
use Rattle.model.specs.Book.{is_live, stands_on, queue, free}
use Rattle.model.specs.Auction.{volume}
use Rattle.model.specs.Pairing.{cut}
use Rattle.model.specs.Words.{Each, Apart, granted}
use Rattle.book.specs.Standing.{Fair, Ranked}
use Rattle.book.proofs.Lists.{both, each, each_keep, keep_true, keep_false, map_same}
use Rattle.book.proofs.Queues.{live_number}
use Rattle.book.proofs.Parts.{keep_buys, keep_sells, parts_of}
use Rattle.soundness.proofs.Onward.{onward}
use Rattle.pairing.proofs.Filling.{first_grant, grant_behind}
use Rattle.judging.specs.declared.Volumes.{Volumes}
use Rattle.judge.specs.Judging.{granted_to}
use Rattle.judging.specs.Slates.{volume_of, grant_of, volumes_past, grants_by, grants_at}

-- ---- the loop: what is written, and what is still to come, is the whole

pub record Granted (rows : List Order) (whole slate : List ℕ) (v : Volumes) (i : ℕ) : Type 0 where
  pub long : length slate ≡ length rows
  pub within : i ≤ length rows
  pub same : take i slate ++ grants_by v (drop i rows) ≡ whole

module _ (rows : List Order) (whole slate : List ℕ) (v : Volumes) (i : ℕ) (g : Granted rows whole slate v i) where
  pub granted_more :
      {o : Order} {r : ℕ} {v' : Volumes} {slate' : List ℕ}
      → i < length rows
      → o ≡ get_or rows i free
      → r ≡ grant_of v o
      → v' ≡ volumes_past v o
      → slate' ≡ set slate i r
      → Granted rows whole slate' v' (i + 1)
  granted_more {o} {r} {v'} {slate'} l e f h k =
      rw (k, h)
      record {
        long = length-set slate i r ∙ g.long;
        within = omega arith;
        same = written ∙ g.same;
      }
    where
      inside : i < length slate
      inside = omega (arith, g.long)

      split : grants_by v (drop i rows) ≡ r ∷ grants_by (volumes_past v o) (drop (i + 1) rows)
      split = ap (grants_by v) (onward rows i o l e) ∙ unfold grants_by in ap (λ (n : ℕ). n ∷ grants_by (volumes_past v o) (drop (i + 1) rows)) (sym f)

      written :
          take (i + 1) (set slate i r) ++ grants_by (volumes_past v o) (drop (i + 1) rows)
          ≡ take i slate ++ grants_by v (drop i rows)
      written =
          ap (λ (n : ℕ). take n (set slate i r) ++ grants_by (volumes_past v o) (drop (i + 1) rows)) (add-one i)
          ∙ ap (λ (l : List ℕ). l ++ grants_by (volumes_past v o) (drop (i + 1) rows)) (take-suc-set slate i r inside)
          ∙ append_snoc (take i slate) r (grants_by (volumes_past v o) (drop (i + 1) rows))
          ∙ ap (λ (l : List ℕ). take i slate ++ l) (sym split)

  pub granted_all : length rows ≤ i → slate ≡ whole
  unfolding grants_by
  granted_all h =
      let all : take i slate ≡ slate = take_all i slate (omega (arith, g.long)) in
      let none : drop i rows ≡ [] = drop_of_length-le rows h in
      sym all ∙ sym (append-nil (take i slate)) ∙ ap (λ (r : List Order). take i slate ++ grants_by v r) (sym none) ∙ g.same

-- ---- it is what priority grants

-- what a list's own queues grant an order of it
abbrev grant_in : Volumes → List Order → Order → ℕ
grant_in v os o =
    if is_live o then granted o.number (cut (volume_of o.side v) (keep (stands_on o.side) os)) else 0

stands_as : (o : Order) (side : ℕ) → is_live o ≡ true → o.side ≡ side → stands_on side o ≡ true
unfolding stands_on
stands_as o side e s = rw (e, eq-eqb o.side side s)

less_buys : Volumes → Order → Volumes
less_buys v o = record { buys = v.buys - o.left; sells = v.sells }

less_sells : Volumes → Order → Volumes
less_sells v o = record { buys = v.buys; sells = v.sells - o.left }

module _ (v : Volumes) (o : Order) (os : List Order) where
  grant_first : Each (λ p. p.number ≡ o.number → o.number ≡ 0) os → grant_of v o ≡ grant_in v (o ∷ os) o
  unfolding grant_of
  grant_first a = go (is_live o) refl
    where
      go :
          (t : Bool)
          → is_live o ≡ t
          → (if t then min (volume_of o.side v) o.left else 0)
          ≡ (if t then granted o.number (cut (volume_of o.side v) (keep (stands_on o.side) (o ∷ os))) else 0)
      go false e = refl
      go true e =
          rw (keep_true (stands_on o.side) o os (stands_as o o.side e refl))
          (sym
          (first_grant (volume_of o.side v) o (keep (stands_on o.side) os)
          (each_keep (λ p. p.number ≡ o.number → ⊥) (stands_on o.side) os
          (each (λ p. p.number ≡ o.number → o.number ≡ 0) (λ p. p.number ≡ o.number → ⊥) os (λ p f x. live_number o e (f x)) a))))

  -- an order of the same side in front takes what it has, one of the other side nothing, a free place nothing
  volume_same : is_live o ≡ true → (side : ℕ) → o.side ≡ side → volume_of side (volumes_past v o) ≡ volume_of side v - o.left
  unfolding volume_of volumes_past less_buys less_sells
  volume_same e side s = rw (e, sym s) (go (eqb o.side 0) refl)
    where
      chosen : Bool → Volumes
      chosen t = if t then less_buys v o else less_sells v o

      go :
          (t : Bool)
          → eqb o.side 0 ≡ t
          → (if t then (chosen t).buys
          else (chosen t).sells)
          ≡ (if t then v.buys else v.sells) - o.left
      go true f = refl
      go false f = refl

  volume_other : (side : ℕ) → side ≤ 1 → o.side ≤ 1 → (o.side ≡ side → ⊥) → volume_of side (volumes_past v o) ≡ volume_of side v
  unfolding volume_of volumes_past less_buys less_sells
  volume_other side a b d = go (is_live o) (eqb o.side 0) refl (eqb side 0) refl
    where
      chosen : Bool → Bool → Volumes
      chosen l t = if l then (if t then less_buys v o else less_sells v o) else v

      go :
          (l t : Bool)
          → eqb o.side 0 ≡ t
          → (u : Bool)
          → eqb side 0 ≡ u
          → (if u then (chosen l t).buys
          else (chosen l t).sells)
          ≡ (if u then v.buys else v.sells)
      go false t e true f = refl
      go false t e false f = refl
      go true true e false f = refl
      go true false e true f = refl
      go true true e true f = absurd (d (eqb-true o.side 0 e ∙ sym (eqb-true side 0 f)))
      go true false e false f =
          let x : o.side ≡ 0 → ⊥ = eqb-false o.side 0 e in
          let y : side ≡ 0 → ⊥ = eqb-false side 0 f in
          absurd (d (omega arith))

  grant_later : (p : Order) → Fair o → Fair p → (p.number ≡ o.number → o.number ≡ 0) → grant_in (volumes_past v o) os p ≡ grant_in v (o ∷ os) p
  grant_later p fo fp a = go (is_live p) refl (is_live o) refl
    where
      off : stands_on p.side o ≡ false → volume_of p.side (volumes_past v o) ≡ volume_of p.side v → granted p.number (cut (volume_of p.side (volumes_past v o)) (keep (stands_on p.side) os)) ≡ granted p.number (cut (volume_of p.side v) (keep (stands_on p.side) (o ∷ os)))
      off e f = rw (keep_false (stands_on p.side) o os e, f)

      on :
          is_live o ≡ true
          → o.side ≡ p.side
          → (o.number ≡ p.number → ⊥)
          → granted p.number (cut (volume_of p.side (volumes_past v o)) (keep (stands_on p.side) os))
          ≡ granted p.number (cut (volume_of p.side v) (keep (stands_on p.side) (o ∷ os)))
      on e s n =
          rw (keep_true (stands_on p.side) o os (stands_as o p.side e s), volume_same e p.side s)
          (sym (grant_behind (volume_of p.side v) p.number o (keep (stands_on p.side) os) n))

      elsewhere : (is_live o ≡ false) → stands_on p.side o ≡ false
      elsewhere e = unfold stands_on in rw e

      across : (o.side ≡ p.side → ⊥) → stands_on p.side o ≡ false
      across d = unfold stands_on in rw (ne_eqb o.side p.side d) (and-false (is_live o))

      still : is_live o ≡ false → volume_of p.side (volumes_past v o) ≡ volume_of p.side v
      still e = unfold volumes_past in rw e

      go :
          (t : Bool)
          → is_live p ≡ t
          → (u : Bool)
          → is_live o ≡ u
          → (if t then granted p.number (cut (volume_of p.side (volumes_past v o)) (keep (stands_on p.side) os)) else 0)
          ≡ (if t then granted p.number (cut (volume_of p.side v) (keep (stands_on p.side) (o ∷ os))) else 0)
      go false e u f = refl
      go true e false f = off (elsewhere f) (still f)
      go true e true f = elim (ℕ_discrete o.side p.side) [
        | yes s ↦ on f s (λ x. live_number o f (a (sym x)))
        | no d ↦ off (across d) (volume_other p.side fp.side fo.side d)
      ]

grants_in : (v : Volumes) (os : List Order) → Each Fair os → Apart os → grants_by v os ≡ map (grant_in v os) os
unfolding grants_by
grants_in v [] f a = refl
grants_in v (o ∷ os) f a =
    ap (λ (n : ℕ). n ∷ grants_by (volumes_past v o) os) (grant_first v o os a.0)
    ∙ ap (λ (l : List ℕ). grant_in v (o ∷ os) o ∷ l)
    (grants_in (volumes_past v o) os f.1 a.1
    ∙ map_same (grant_in (volumes_past v o) os) (grant_in v (o ∷ os)) os
    (both Fair (λ p. p.number ≡ o.number → o.number ≡ 0) (λ p. grant_in (volumes_past v o) os p ≡ grant_in v (o ∷ os) p) os
    (λ p g b. grant_later v o os p f.0 g b) f.1 a.0))

-- what is granted at a place: nothing at a free one
abbrev pub grant_at : ℕ → List Order → Order → ℕ
grant_at p book o = if is_live o then granted_to p book o else 0

pub grants_are :
    (p : ℕ) (book : List Order)
    → Ranked book
    → grants_by (record { buys = volume book p; sells = volume book p }) book ≡ map (grant_at p book) book
grants_are p book r =
    grants_in (record { buys = volume book p; sells = volume book p }) book r.stands.fair r.stands.apart
    ∙ map_same (grant_in (record { buys = volume book p; sells = volume book p }) book) (grant_at p book) book
    (each Fair (λ o. grant_in (record { buys = volume book p; sells = volume book p }) book o ≡ grant_at p book o) book
    (λ o f. same o f) r.stands.fair)
  where
    in_place : (side : ℕ) → side ≤ 1 → keep (stands_on side) book ≡ queue side book
    in_place side h = elim (ℕ_discrete side 0) [
      | yes z ↦ rw z (keep_buys (parts_of book r))
      | no n ↦ let one : side ≡ 1 = omega arith in rw one (keep_sells (parts_of book r))
    ]

    both_sides : (side : ℕ) → volume_of side (record { buys = volume book p; sells = volume book p }) ≡ volume book p
    both_sides side = unfold volume_of in go (eqb side 0)
      where
        go : (t : Bool) → (if t then volume book p else volume book p) ≡ volume book p
        go true = refl
        go false = refl

    same : (o : Order) → Fair o → grant_in (record { buys = volume book p; sells = volume book p }) book o ≡ grant_at p book o
    same o f = unfold granted_to in rw (both_sides o.side, in_place o.side f.side)

-- as the code has it
pub granted_at :
    (p : ℕ) (book : List Order) {v : ℕ} {slate : List ℕ}
    → v ≡ volume book p
    → slate ≡ grants_by (record { buys = v; sells = v }) book
    → slate ≡ grants_at p book
unfolding grants_at
granted_at p book e f = f ∙ ap (λ (n : ℕ). grants_by (record { buys = n; sells = n }) book) e
