-- A claim taken off a slate: what is right of the claims behind it stays the same; and what a slate of the grants asks for is what the
-- judge's tests ask. Assumes nothing.
use Rattle.std.specs.Prelude.{if◌then◌else◌}
use Prim.Native.Nat.{ℕ, zero, suc, ◌+◌, ◌-◌, ◌≤◌, ◌<◌}
use mathlib.Core.Path.{◌≡◌, refl, sym, ap, ◌∙◌}
use mathlib.Core.Logic.{◌↔◌}
use mathlib.Core.Bool.{Bool, true, false, not, ◌&&◌, or-true}
use mathlib.Core.List.{List, [], ◌∷◌}
use native.Mathlib.Decide.{ℕ_discrete}
use native.Mathlib.Omega.{arith}
use lib.ListN.{length, get_or, set, length-set}
use lib.Seq.{get_or-set_same, get_or-set_other}
use lib.Dec.{eqb}
use borrow.Author.Tests.{eq-eqb, ne_eqb, eqb-true, le-leb, leb-true, ltb-true, not-true, not-false}
use Rattle.model.specs.declared.Order.{Order}
use Rattle.model.specs.Lists.{any}
use Rattle.model.specs.Book.{free, is_live, stands_on}
use Rattle.model.specs.Words.{Apart}
use Rattle.model.proofs.Bools.{and_left, and_right, and_both, not_both}
use Rattle.book.specs.Standing.{Fair, Standing}
use Rattle.book.specs.Places.{first_with}
use Rattle.book.proofs.Lists.{each_at}
use Rattle.book.proofs.Finding.{any_first, first_passes}
use Rattle.book.proofs.Queues.{live_number, on_side}
use Rattle.lookup.specs.Piles.{last_of, bears, place_by}
use Rattle.lookup.proofs.Lasts.{last_passes, last_none}
use Rattle.judge.specs.declared.Claim.{Claim}
use Rattle.judge.specs.Judging.{has_order, party, claimed_for}
use Rattle.judge.specs.Verdicts.{Joins}
use Rattle.judging.specs.Slates.{claimed_at, Settles, may_fill, Taken}
use Rattle.judge.proofs.Own.{claimed_more, claimed_none}

-- ---- one number, one place

apart_at :
    (book : List Order) (j k : ℕ)
    → Apart book
    → j < length book
    → k < length book
    → (get_or book j free).number ≡ (get_or book k free).number
    → ((get_or book j free).number ≡ 0 → ⊥)
    → j ≡ k
apart_at [] j k a h l e n = absurd (omega arith)
apart_at (o ∷ os) zero zero a h l e n = refl
apart_at (o ∷ os) zero (suc k) a h l e n =
    absurd (n (each_at (λ p. p.number ≡ o.number → o.number ≡ 0) os free a.0 k (omega arith) (sym e)))
apart_at (o ∷ os) (suc j) zero a h l e n =
    absurd (n (e ∙ each_at (λ p. p.number ≡ o.number → o.number ≡ 0) os free a.0 j (omega arith) e))
apart_at (o ∷ os) (suc j) (suc k) a h l e n = ap suc (apart_at os j k a.1 (omega arith) (omega arith) e n)

-- an order of a side with a number stands at a place
pub record Names (book : List Order) (side n j : ℕ) : Type 0 where
  pub inside : j < length book
  pub live : is_live (get_or book j free) ≡ true
  pub stands : (get_or book j free).side ≡ side
  pub number : (get_or book j free).number ≡ n

any_at : {A : Type 0} (t : A → Bool) (xs : List A) (d : A) (j : ℕ) → j < length xs → t (get_or xs j d) ≡ true → any t xs ≡ true
unfolding any
any_at t [] d j h e = absurd (omega arith)
any_at t (x ∷ xs) d zero h e = rw e
any_at t (x ∷ xs) d (suc j) h e = rw (any_at t xs d j (omega arith) e) (or-true (t x))

module _ (book : List Order) (side n : ℕ) where
  has_it : (j : ℕ) → Names book side n j → has_order side book n ≡ true
  unfolding has_order stands_on
  has_it j m =
      any_at (λ o. stands_on side o && eqb o.number n) book free j m.inside
      (and_both (and_both m.live (eq-eqb (get_or book j free).side side m.stands)) (eq-eqb (get_or book j free).number n m.number))

  has_place : has_order side book n ≡ true → (j : ℕ) × Names book side n j
  unfolding has_order
  has_place e =
      let t : Order → Bool = λ o. stands_on side o && eqb o.number n in
      let j : ℕ = first_with t book in
      let h : j < length book = ltb-true j (length book) (sym (any_first t book) ∙ e) in
      let p : t (get_or book j free) ≡ true = first_passes t book free h in
      let s : stands_on side (get_or book j free) ≡ true = and_left (stands_on side (get_or book j free)) _ p in (
        j,
        record {
          inside = h;
          live = live_on (get_or book j free) s;
          stands = on_side side (get_or book j free) s;
          number = eqb-true _ n (and_right (stands_on side (get_or book j free)) _ p);
        },
      )
    where
      live_on : (o : Order) → stands_on side o ≡ true → is_live o ≡ true
      live_on o e = unfold stands_on in and_left (is_live o) _ e

  bears_there : (j : ℕ) → Names book side n j → bears n (get_or book j free) ≡ true
  unfolding bears
  bears_there j m = and_both m.live (eq-eqb _ n m.number)

  number_there : (j : ℕ) → bears n (get_or book j free) ≡ true → (is_live (get_or book j free) ≡ true) × ((get_or book j free).number ≡ n)
  unfolding bears
  number_there j e = (and_left (is_live (get_or book j free)) _ e, eqb-true _ n (and_right (is_live (get_or book j free)) _ e))

  module _ (s : Standing book) where
    -- the place that is found is the only one
    only : (j : ℕ) → Names book side n j → place_by n book ≡ suc j
    unfolding place_by
    only j m = go (last_of (bears n) book (length book)) refl
      where
        go : (at : ℕ) → last_of (bears n) book (length book) ≡ at → at ≡ suc j
        go zero e = absurd (not_both (bears_there j m) (last_none (bears n) book (length book) e j m.inside))
        go (suc k) e =
            let p = last_passes (bears n) book (length book) k e in
            let q = number_there k p.0 in
            ap suc
            (apart_at book k j s.apart p.1 m.inside (q.1 ∙ sym m.number) (live_number (get_or book k free) q.0))

-- ---- what is claimed at a place, one claim at a time

part : Claim → Order → ℕ
part c o = if is_live o && eqb (party o.side c) o.number then c.shares else 0

claimed_next : (c : Claim) (cs : List Claim) (o : Order) → claimed_at (c ∷ cs) o ≡ part c o + claimed_at cs o
unfolding claimed_at part
claimed_next c cs o = go (is_live o)
  where
    go :
        (t : Bool)
        → (if t then claimed_for o (c ∷ cs) else 0)
        ≡ (if t && eqb (party o.side c) o.number then c.shares else 0) + (if t then claimed_for o cs else 0)
    go true = claimed_more o c cs
    go false = omega arith

pub claimed_nothing : (o : Order) → claimed_at [] o ≡ 0
unfolding claimed_at
claimed_nothing o = go (is_live o)
  where
    go : (t : Bool) → (if t then claimed_for o [] else 0) ≡ 0
    go true = claimed_none o
    go false = refl

-- ---- the two orders of a claim

module _ (book : List Order) (s : Standing book) (c : Claim) where
  part_named : (side j : ℕ) → Names book side (party side c) j → part c (get_or book j free) ≡ c.shares
  unfolding part
  part_named side j m =
      let e : eqb (party (get_or book j free).side c) (get_or book j free).number ≡ true =
      eq-eqb _ _ (ap (λ (x : ℕ). party x c) m.stands ∙ sym m.number) in
      rw (m.live, e)

  -- who trades is its buyer or its seller
  part_other :
      (b t j : ℕ)
      → Names book 0 (party 0 c) b
      → Names book 1 (party 1 c) t
      → j < length book
      → (j ≡ b → ⊥)
      → (j ≡ t → ⊥)
      → part c (get_or book j free) ≡ 0
  unfolding part
  part_other b t j mb mt h nb nt = go (is_live o) refl (eqb (party o.side c) o.number) refl
    where
      o : Order
      o = get_or book j free

      fair : Fair (get_or book j free)
      fair = each_at Fair book free s.fair j h

      mine : (side k : ℕ) → Names book side (party side c) k → is_live (get_or book j free) ≡ true → (get_or book j free).side ≡ side → party (get_or book j free).side c ≡ (get_or book j free).number → j ≡ k
      mine side k m l z e =
          apart_at book j k s.apart h m.inside (sym e ∙ ap (λ (x : ℕ). party x c) z ∙ sym m.number) (live_number (get_or book j free) l)

      go :
          (l : Bool)
          → is_live (get_or book j free) ≡ l
          → (n : Bool)
          → eqb (party (get_or book j free).side c) (get_or book j free).number ≡ n
          → (if l && n then c.shares else 0) ≡ 0
      go false l n e = refl
      go true l false e = refl
      go true l true e =
          let same : party (get_or book j free).side c ≡ (get_or book j free).number = eqb-true _ _ e in
          elim (ℕ_discrete (get_or book j free).side 0) [
            | yes z ↦ absurd (nb (mine 0 b mb l z same))
            | no z ↦ absurd (nt (mine 1 t mt l (omega (arith, fair.side)) same))
          ]

  party_buys : party 0 c ≡ c.buyer
  unfolding party
  party_buys = refl

  party_sells : party 1 c ≡ c.seller
  unfolding party
  party_sells = refl

  -- ---- taken

  module _ (slate : List ℕ) (long : length slate ≡ length book) where
    abbrev q : ℕ
    q = c.shares

    module _
        (b t : ℕ) (mb : Names book 0 (party 0 c) b) (mt : Names book 1 (party 1 c) t)
        (some : 1 ≤ c.shares) (lb : c.shares ≤ get_or slate b 0) (lt : c.shares ≤ get_or slate t 0) where
      apart : b ≡ t → ⊥
      apart e =
          let z : ◌≡◌ {A = ℕ} 0 1 = sym mb.stands ∙ ap (λ (j : ℕ). (get_or book j free).side) e ∙ mt.stands in
          omega arith

      abbrev once : List ℕ
      once = set slate b (get_or slate b 0 - c.shares)

      abbrev twice : List ℕ
      twice = set once t (get_or once t 0 - c.shares)

      at_seller : get_or once t 0 ≡ get_or slate t 0
      at_seller = get_or-set_other slate b t (get_or slate b 0 - c.shares) 0 (λ e. apart (sym e))

      -- what has come off each place
      off : (j : ℕ) → j < length book → part c (get_or book j free) + get_or twice j 0 ≡ get_or slate j 0
      off j h = elim (ℕ_discrete j t) [
        | yes e ↦
            rw e
            (let x : get_or twice t 0 ≡ get_or once t 0 - c.shares =
            get_or-set_same once t (get_or once t 0 - c.shares) 0 (omega (arith, mt.inside, length-set slate b (get_or slate b 0 - c.shares))) in
            omega (arith, part_named 1 t mt, at_seller))
        | no n ↦ elim (ℕ_discrete j b) [
          | yes e ↦
              rw e
              (let x : get_or twice b 0 ≡ get_or once b 0 = get_or-set_other once t b (get_or once t 0 - c.shares) 0 apart in
              let y : get_or once b 0 ≡ get_or slate b 0 - c.shares = get_or-set_same slate b (get_or slate b 0 - c.shares) 0 (omega (arith, mb.inside)) in
              omega (arith, part_named 0 b mb))
          | no m ↦
              let x : get_or twice j 0 ≡ get_or once j 0 = get_or-set_other once t j (get_or once t 0 - c.shares) 0 n in
              let y : get_or once j 0 ≡ get_or slate j 0 = get_or-set_other slate b j (get_or slate b 0 - c.shares) 0 m in
              omega (arith, part_other b t j mb mt h m n)
        ]
      ]

      joined : Joins book c
      joined =
          record {
            some = some;
            buy = ap (has_order 0 book) (sym party_buys) ∙ has_it book 0 (party 0 c) b mb;
            sell = ap (has_order 1 book) (sym party_sells) ∙ has_it book 1 (party 1 c) t mt;
          }

      pub taken_yes : (cs : List Claim) → Settles book slate (c ∷ cs) ↔ Settles book twice cs
      taken_yes cs = (
        λ r.
            record {
              joined = r.joined.1;
              filled = λ j h. omega (arith, r.filled j h, claimed_next c cs (get_or book j free), off j h);
            },
        λ r.
            record {
              joined = (joined, r.joined);
              filled = λ j h. omega (arith, r.filled j h, claimed_next c cs (get_or book j free), off j h);
            },
      )

    -- ---- as the code finds it

    -- a place that may be filled
    fill_names :
        (side at : ℕ)
        → at ≡ place_by (party side c) book
        → may_fill side c.shares book slate at ≡ true
        → Names book side (party side c) (at - 1) × (c.shares ≤ get_or slate (at - 1) 0) × (0 < at)
    unfolding may_fill
    fill_names side at e f =
        let some : (at ≡ 0 → ⊥) = λ z. not_both (and_left (not (eqb at 0)) _ f) (ap not (eq-eqb at 0 z)) in
        let rest = and_right (not (eqb at 0)) _ f in
        let from : last_of (bears (party side c)) book (length book) ≡ suc (at - 1) = sym (e ∙ placed) ∙ omega arith in
        let p = last_passes (bears (party side c)) book (length book) (at - 1) from in
        let m = number_there book side (party side c) (at - 1) p.0 in (
          record {
            inside = p.1;
            live = m.0;
            stands = eqb-true _ side (and_left (eqb (get_or book (at - 1) free).side side) _ rest);
            number = m.1;
          },
          leb-true _ _ (and_right (eqb (get_or book (at - 1) free).side side) _ rest),
          omega arith,
        )
      where
        placed : place_by (party side c) book ≡ last_of (bears (party side c)) book (length book)
        placed = unfold place_by in refl

    -- one that may not: then the claim is not right
    not_filled :
        (side at : ℕ) (cs : List Claim)
        → at ≡ place_by (party side c) book
        → may_fill side c.shares book slate at ≡ false
        → has_order side book (party side c) ≡ true
        → Settles book slate (c ∷ cs)
        → ⊥
    not_filled side at cs e f h r =
        let w = has_place book side (party side c) h in
        let j : ℕ = w.0 in
        let m : Names book side (party side c) j = w.1 in
        let it : at ≡ suc j = e ∙ only book side (party side c) s j m in
        let less : c.shares ≤ get_or slate j 0 =
        omega (arith, r.filled j m.inside, claimed_next c cs (get_or book j free), part_named side j m) in
        not_both (may side j m less) (ap (may_fill side c.shares book slate) (sym it) ∙ f)
      where
        may : (side j : ℕ) → Names book side (party side c) j → c.shares ≤ get_or slate j 0 → may_fill side c.shares book slate (suc j) ≡ true
        may side j m l =
            unfold may_fill in
            let d : suc j - 1 ≡ j = omega arith in
            rw (ne_eqb (suc j) 0 (λ z. omega arith), d, eq-eqb (get_or book j free).side side m.stands, le-leb c.shares (get_or slate j 0) l)

    pub no_shares : c.shares ≡ 0 → Taken book slate c false slate
    no_shares z =
        record {
          no = λ _ cs r. omega (arith, r.joined.0.some);
          yes = λ e. absurd (not_both e refl);
          long = refl;
        }

    module _ {b : ℕ} (eb : b ≡ place_by c.buyer book) where
      pub no_buyer : {r : Bool} → r ≡ may_fill 0 c.shares book slate b → not r ≡ true → Taken book slate c false slate
      no_buyer {r} f n =
          record {
            no = λ _ cs k.
                not_filled 0 b cs (eb ∙ ap (λ (n : ℕ). place_by n book) (sym party_buys)) (sym f ∙ not-true r n)
                (ap (has_order 0 book) party_buys ∙ k.joined.0.buy) k;
            yes = λ e. absurd (not_both e refl);
            long = refl;
          }

      module _ {t : ℕ} (et : t ≡ place_by c.seller book) where
        pub no_seller : {r : Bool} → r ≡ may_fill 1 c.shares book slate t → not r ≡ true → Taken book slate c false slate
        no_seller {r} f n =
            record {
              no = λ _ cs k.
                  not_filled 1 t cs (et ∙ ap (λ (n : ℕ). place_by n book) (sym party_sells)) (sym f ∙ not-true r n)
                  (ap (has_order 1 book) party_sells ∙ k.joined.0.sell) k;
              yes = λ e. absurd (not_both e refl);
              long = refl;
            }

        -- both have so many left
        module _
            {r u : Bool} (f : r ≡ may_fill 0 c.shares book slate b) (x : not r ≡ false)
            (g : u ≡ may_fill 1 c.shares book slate t) (y : not u ≡ false) where
          first : Names book 0 (party 0 c) (b - 1) × (c.shares ≤ get_or slate (b - 1) 0) × (0 < b)
          first = fill_names 0 b (eb ∙ ap (λ (n : ℕ). place_by n book) (sym party_buys)) (sym f ∙ not-false r x)

          second : Names book 1 (party 1 c) (t - 1) × (c.shares ≤ get_or slate (t - 1) 0) × (0 < t)
          second = fill_names 1 t (et ∙ ap (λ (n : ℕ). place_by n book) (sym party_sells)) (sym g ∙ not-false u y)

          pub buyer_fills : (0 < b) × ((b ≤ length slate) × (c.shares ≤ get_or slate (b - 1) 0))
          buyer_fills = (first.2, (omega (arith, first.0.inside), first.1))

          module _ (some : c.shares ≡ 0 → ⊥) {slate₁ : List ℕ} (k : slate₁ ≡ set slate (b - 1) (get_or slate (b - 1) 0 - c.shares)) where
            pub seller_fills : (0 < t) × ((t ≤ length slate₁) × (c.shares ≤ get_or slate₁ (t - 1) 0))
            seller_fills =
                let far = apart (b - 1) (t - 1) first.0 second.0 (omega arith) first.1 second.1 in
                let far_off : get_or slate₁ (t - 1) 0 ≡ get_or slate (t - 1) 0 =
                ap (λ (l : List ℕ). get_or l (t - 1) 0) k ∙ get_or-set_other slate (b - 1) (t - 1) (get_or slate (b - 1) 0 - c.shares) 0 (λ e. far (sym e)) in
                let same : length slate₁ ≡ length slate = ap length k ∙ length-set slate (b - 1) (get_or slate (b - 1) 0 - c.shares) in
                (second.2, (omega (arith, second.0.inside), omega (arith, second.1)))

            -- they come off both
            pub came_off : {slate₂ : List ℕ} → slate₂ ≡ set slate₁ (t - 1) (get_or slate₁ (t - 1) 0 - c.shares) → Taken book slate c true slate₂
            came_off l =
                rw (l, k)
                record {
                  no = λ z. absurd (not_both refl z);
                  yes = λ _ cs. taken_yes (b - 1) (t - 1) first.0 second.0 (omega arith) first.1 second.1 cs;
                  long = length-set (set slate (b - 1) (get_or slate (b - 1) 0 - c.shares)) (t - 1) _ ∙ length-set slate (b - 1) _;
                }
