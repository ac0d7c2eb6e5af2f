-- What it says of a fixed-price order, and of a cancel, that no rule refuses it. Assumes nothing.
use Prim.Native.Nat.{ℕ, ◌≤◌, ◌<◌}
use mathlib.Core.Path.{◌≡◌, refl}
use mathlib.Core.Logic.{⊎_elim}
use mathlib.Core.Bool.{Bool, true, false, not, ◌&&◌, ◌||◌}
use mathlib.Core.List.{List, [], ◌∷◌}
use native.Mathlib.Omega.{arith}
use lib.ListN.{length}
use lib.Dec.{leb, ltb, eqb}
use borrow.Author.Tests.{leb-true, ltb-true, ltb-false, eqb-true, eqb-false, eq-eqb, le-leb, not-true, not-false}
use Rattle.model.specs.declared.Order.{Order}
use Rattle.model.specs.declared.AskedFixed.{AskedFixed}
use Rattle.model.specs.declared.Day.{Day}
use Rattle.model.specs.Lists.{all, any}
use Rattle.model.specs.Clock.{long_hours, matching_from}
use Rattle.model.specs.Limits.{is_price, is_quantity, in_band}
use Rattle.model.specs.Book.{is_live}
use Rattle.model.specs.Figures.{close_price}
use Rattle.model.specs.FixedBook.{wrong_side}
use Rattle.model.specs.Refusals.{Rule, ◌when◌, first_of, unsound, unsound_fixed}
use Rattle.model.specs.Calls.{is_own}
use Rattle.model.specs.FixedCalls.{fixed_trades, fixed_rules, fixed_cancel_rules}
use Rattle.model.specs.Words.{Price, Sized, OddLot}
use Rattle.model.proofs.Bools.{and_left, and_right, and_true, not_both}
use Rattle.model.proofs.Rules.{Numbered, NoneHolds, none_holds}
use Rattle.soundness.specs.SoundDay.{InBand}
use Rattle.soundness.proofs.Clauses.{says_price, says_band}
use Rattle.soundness.proofs.Sizes.{says_quantity, sized_most}

-- the hours of orders and cancels
pub record InHours (t : ℕ) : Type 0 where
  pub from : 33_300 ≤ t
  pub until : t < 55_800

in_hours_lem : (t : ℕ) → long_hours t ≡ true → InHours t
unfolding long_hours
in_hours_lem t e = go (leb 33_300 t && ltb t 41_400) refl e
  where
    go : (b : Bool) → leb 33_300 t && ltb t 41_400 ≡ b → b || (leb 46_800 t && ltb t 55_800) ≡ true → InHours t
    go true f _ =
        let h : t < 41_400 = ltb-true t 41_400 (and_right (leb 33_300 t) (ltb t 41_400) f) in
        record { from = leb-true 33_300 t (and_left (leb 33_300 t) (ltb t 41_400) f); until = omega arith }
    go false _ f =
        let h : 46_800 ≤ t = leb-true 46_800 t (and_left (leb 46_800 t) (ltb t 55_800) f) in
        record { from = omega arith; until = ltb-true t 55_800 (and_right (leb 46_800 t) (ltb t 55_800) f) }

-- both of two tests fail
pub neither : (a b : Bool) → a || b ≡ false → (a ≡ false) × (b ≡ false)
neither true b e = absurd (not_both refl e)
neither false b e = (refl, e)

sized_some : (side q balance : ℕ) → Sized side q balance → 1 ≤ q
sized_some side q balance s = go (eqb side 0) refl
  where
    go : (t : Bool) → eqb side 0 ≡ t → 1 ≤ q
    go true e = let h : 100 ≤ q = (s.buy (eqb-true side 0 e)).0.0 in omega arith
    go false e =
        ⊎_elim (λ h. let l : 100 ≤ q = h.0 in omega arith) (λ (h : OddLot q balance). h.0) (s.sell (eqb-false side 0 e))

-- a list of rules whose numbers are told one by one
pub all_numbered : (rs : List Rule) → all (λ r. not (eqb r.number 0)) rs ≡ true → Numbered rs
unfolding all
all_numbered [] e = tt
all_numbered (r ∷ rs) e = (
  eqb-false r.number 0 (not-true (eqb r.number 0) (and_left (not (eqb r.number 0)) (all (λ x. not (eqb x.number 0)) rs) e)),
  all_numbered rs (and_right (not (eqb r.number 0)) (all (λ x. not (eqb x.number 0)) rs) e),
)

-- ---- an order

pub record Allowed (d : Day) (a : AskedFixed) (main book : List Order) (space : ℕ) : Type 0 where
  pub sound : unsound d main ≡ false
  pub fixed_sound : unsound_fixed d book ≡ false
  pub side : a.side ≤ 1
  pub account : a.account ≡ 0 → ⊥
  pub hours : InHours d.time
  pub some : 1 ≤ a.quantity
  pub most : a.quantity ≤ 1_000_000
  pub price : Price a.price
  pub band : d.limited ≡ 1 → InBand d.close a.price
  pub right : 54_300 ≤ d.time → wrong_side a.side a.price (close_price d) ≡ false
  pub place : all is_live book ≡ false
  pub number : d.fixed.issued ≡ 999_999 → ⊥
  pub room : length (fixed_trades d a book) ≤ space

module _ (d : Day) (a : AskedFixed) (main book : List Order) (room : ℕ) where
  numbered : Numbered (fixed_rules d a main book room)
  unfolding fixed_rules ◌when◌ all
  numbered = all_numbered (fixed_rules d a main book room) refl

  pub allowed : first_of (fixed_rules d a main book room) ≡ 0 → Allowed d a main book room
  unfolding fixed_rules ◌when◌ matching_from
  allowed z =
      let n : NoneHolds (fixed_rules d a main book room) = none_holds (fixed_rules d a main book room) numbered z in
      let sound = neither (unsound d main) (unsound_fixed d book) n.0 in
      let size = (says_quantity a.side a.quantity a.balance).0 (not-false (is_quantity a.side a.quantity a.balance) n.1.1.1.1.0) in
      record {
        sound = sound.0;
        fixed_sound = sound.1;
        side = leb-true a.side 1 (not-false (leb a.side 1) n.1.0);
        account = eqb-false a.account 0 n.1.1.0;
        hours = in_hours_lem d.time (not-false (long_hours d.time) n.1.1.1.0);
        some = sized_some a.side a.quantity a.balance size;
        most = sized_most a.side a.quantity a.balance size;
        price = (says_price a.price).0 (not-false (is_price a.price) n.1.1.1.1.1.0);
        band = λ l. (says_band d.close a.price).0 (not-false (in_band d.close a.price) (and_true (eq-eqb d.limited 1 l) n.1.1.1.1.1.1.0));
        right = λ l. and_true (le-leb 54_300 d.time l) n.1.1.1.1.1.1.1.0;
        place = n.1.1.1.1.1.1.1.1.0;
        number = eqb-false d.fixed.issued 999_999 n.1.1.1.1.1.1.1.1.1.0;
        room = ltb-false room (length (fixed_trades d a book)) n.1.1.1.1.1.1.1.1.1.1.0;
      }

-- ---- a cancel

pub record Cancellable (d : Day) (account number : ℕ) (main book : List Order) : Type 0 where
  pub sound : unsound d main ≡ false
  pub fixed_sound : unsound_fixed d book ≡ false
  pub hours : InHours d.time
  pub there : any (is_own account number) book ≡ true

pub cancellable :
    (d : Day) (account number : ℕ) (main book : List Order)
    → first_of (fixed_cancel_rules d account number main book) ≡ 0
    → Cancellable d account number main book
unfolding fixed_cancel_rules ◌when◌ all
cancellable d account number main book z =
    let n : NoneHolds (fixed_cancel_rules d account number main book) =
    none_holds (fixed_cancel_rules d account number main book) (all_numbered (fixed_cancel_rules d account number main book) refl) z
    in
    let sound = neither (unsound d main) (unsound_fixed d book) n.0 in
    record {
      sound = sound.0;
      fixed_sound = sound.1;
      hours = in_hours_lem d.time (not-false (long_hours d.time) n.1.0);
      there = not-false (any (is_own account number) book) n.1.1.0;
    }
