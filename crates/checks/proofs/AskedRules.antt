-- An order's rules before the book is looked at: which is the first to hold, from the tests' answers; and the groups in which
-- the code goes through them are document 01's rules in its order. Assumes nothing.
use Prim.Native.Nat.{ℕ, ◌≤◌, ◌<◌}
use mathlib.Core.Path.{◌≡◌, refl}
use mathlib.Core.Bool.{Bool, true, false, not, ◌||◌}
use mathlib.Core.List.{List, [], ◌∷◌, ◌++◌}
use lib.Dec.{eqb}
use borrow.Author.Tests.{le-leb, lt-leb, eq-eqb, ne_eqb, eqb-false}
use Rattle.model.specs.declared.Order.{Order}
use Rattle.model.specs.declared.Asked.{Asked}
use Rattle.model.specs.declared.Day.{Day}
use Rattle.model.specs.Clock.{continuous, takes_orders}
use Rattle.model.specs.Halts.{phase_now}
use Rattle.model.specs.Limits.{is_price, is_quantity, in_band}
use Rattle.model.specs.Refusals.{Rule, ◌when◌, first_of, unsound}
use Rattle.model.specs.Calls.{order_rules}
use Rattle.model.proofs.Rules.{Numbered, given_by, passed_by}
use Rattle.checks.specs.Checks.{form_rules, hour_rules, number_rules, asked_rules, book_rules, list_rules}

pub order_groups :
    (d : Day) (a : Asked) (book : List Order) (room : ℕ)
    → order_rules d a book room
    ≡ 15 when (unsound d book) ∷ ((asked_rules d a ++ book_rules d a book) ++ list_rules d a book room)
unfolding order_rules asked_rules form_rules hour_rules number_rules book_rules list_rules
order_groups d a book room = refl

pub numbered_append : (rs ss : List Rule) → Numbered rs → Numbered ss → Numbered (rs ++ ss)
numbered_append [] ss k l = l
numbered_append (r ∷ rs) ss k l = (k.0, numbered_append rs ss k.1 l)

-- ---- what is asked by itself

module _ (a : Asked) where
  pub form_side : 1 < a.side → 2 ≡ first_of (form_rules a)
  unfolding form_rules first_of ◌when◌
  form_side h = rw (lt-leb a.side 1 h)

  pub form_kind : a.side ≤ 1 → 4 < a.kind → 2 ≡ first_of (form_rules a)
  unfolding form_rules first_of ◌when◌
  form_kind s h = rw (le-leb a.side 1 s, lt-leb a.kind 4 h)

  pub form_account : a.side ≤ 1 → a.kind ≤ 4 → a.account ≡ 0 → 3 ≡ first_of (form_rules a)
  unfolding form_rules first_of ◌when◌
  form_account s k h = rw (le-leb a.side 1 s, le-leb a.kind 4 k, eq-eqb a.account 0 h)

  pub form_none : a.side ≤ 1 → a.kind ≤ 4 → (a.account ≡ 0 → ⊥) → 0 ≡ first_of (form_rules a)
  unfolding form_rules first_of ◌when◌
  form_none s k h = rw (le-leb a.side 1 s, le-leb a.kind 4 k, ne_eqb a.account 0 h)

  pub form_numbered : Numbered (form_rules a)
  unfolding form_rules ◌when◌
  form_numbered = (eqb-false 2 0 refl, (eqb-false 3 0 refl, tt))

-- ---- when it is asked

module _ (d : Day) (a : Asked) {takes : Bool} {phase : ℕ} (r : takes ≡ takes_orders d.time) (p : phase ≡ phase_now d) where
  pub hour_shut : takes ≡ false → 4 ≡ first_of (hour_rules d a)
  unfolding hour_rules first_of ◌when◌
  hour_shut h = rw (← r, h)

  module _ (h : takes ≡ true) where
    pub hour_limit : a.kind ≡ 0 → 0 ≡ first_of (hour_rules d a)
    unfolding hour_rules first_of ◌when◌
    hour_limit k = rw (← r, h, eq-eqb a.kind 0 k)

    module _ (k : a.kind ≡ 0 → ⊥) where
      pub hour_market : (not (eqb phase 4) || eqb d.limited 0) ≡ true → 5 ≡ first_of (hour_rules d a)
      unfolding hour_rules first_of ◌when◌ continuous
      hour_market e = rw (← r, h, ne_eqb a.kind 0 k, ← p, e)

      pub hour_none : (not (eqb phase 4) || eqb d.limited 0) ≡ false → 0 ≡ first_of (hour_rules d a)
      unfolding hour_rules first_of ◌when◌ continuous
      hour_none e = rw (← r, h, ne_eqb a.kind 0 k, ← p, e)

module _ (d : Day) (a : Asked) where
  pub hour_numbered : Numbered (hour_rules d a)
  unfolding hour_rules ◌when◌
  hour_numbered = (eqb-false 4 0 refl, (eqb-false 5 0 refl, tt))

-- ---- its numbers

module _ (d : Day) (a : Asked) where
  pub number_quantity : is_quantity a.side a.quantity a.balance ≡ false → 6 ≡ first_of (number_rules d a)
  unfolding number_rules first_of ◌when◌
  number_quantity q = rw q

  module _ (q : is_quantity a.side a.quantity a.balance ≡ true) where
    pub number_price : is_price a.price ≡ false → 7 ≡ first_of (number_rules d a)
    unfolding number_rules first_of ◌when◌
    number_price p = rw (q, p)

    module _ (p : is_price a.price ≡ true) where
      pub number_unlimited : (d.limited ≡ 1 → ⊥) → 0 ≡ first_of (number_rules d a)
      unfolding number_rules first_of ◌when◌
      number_unlimited l = rw (q, p, ne_eqb d.limited 1 l)

      pub number_band : d.limited ≡ 1 → in_band d.close a.price ≡ false → 8 ≡ first_of (number_rules d a)
      unfolding number_rules first_of ◌when◌
      number_band l b = rw (q, p, eq-eqb d.limited 1 l, b)

      pub number_none : d.limited ≡ 1 → in_band d.close a.price ≡ true → 0 ≡ first_of (number_rules d a)
      unfolding number_rules first_of ◌when◌
      number_none l b = rw (q, p, eq-eqb d.limited 1 l, b)

  pub number_numbered : Numbered (number_rules d a)
  unfolding number_rules ◌when◌
  number_numbered = (eqb-false 6 0 refl, (eqb-false 7 0 refl, (eqb-false 8 0 refl, tt)))

-- ---- one group after the other

module _ (d : Day) (a : Asked) where
  pub asked_form : {r : ℕ} → r ≡ first_of (form_rules a) → (r ≡ 0 → ⊥) → r ≡ first_of (asked_rules d a)
  unfolding asked_rules
  asked_form e n = given_by (form_rules a) (hour_rules d a ++ number_rules d a) e n

  module _ {f : ℕ} (e : f ≡ first_of (form_rules a)) (z : f ≡ 0) where
    pub asked_hour : {r : ℕ} → r ≡ first_of (hour_rules d a) → (r ≡ 0 → ⊥) → r ≡ first_of (asked_rules d a)
    unfolding asked_rules
    asked_hour g n =
        passed_by (form_rules a) (hour_rules d a ++ number_rules d a) (form_numbered a) e z
        (given_by (hour_rules d a) (number_rules d a) g n)

    pub asked_number :
        {h r : ℕ} → h ≡ first_of (hour_rules d a) → h ≡ 0 → r ≡ first_of (number_rules d a) → r ≡ first_of (asked_rules d a)
    unfolding asked_rules
    asked_number g y n =
        passed_by (form_rules a) (hour_rules d a ++ number_rules d a) (form_numbered a) e z
        (passed_by (hour_rules d a) (number_rules d a) (hour_numbered d a) g y n)

  pub asked_numbered : Numbered (asked_rules d a)
  unfolding asked_rules form_rules hour_rules number_rules ◌when◌
  asked_numbered =
      let f : Numbered (form_rules a) = form_numbered a in
      let h : Numbered (hour_rules d a) = hour_numbered d a in
      let n : Numbered (number_rules d a) = number_numbered d a in
      (f.0, (f.1.0, (h.0, (h.1.0, n))))
