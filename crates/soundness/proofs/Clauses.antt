-- What each clause of a sound day says, as a plain fact. Assumes nothing.
use Prim.Native.Nat.{ℕ, ◌+◌, ◌*◌, ◌≤◌}
use mathlib.Core.Path.{◌≡◌, refl, ap}
use mathlib.Core.Bool.{Bool, true, false, cond, not, ◌&&◌, ◌||◌, not-not}
use mathlib.Core.List.{List, [], ◌∷◌}
use lib.Dec.{eqb}
use borrow.Author.Tests.{eqb-true, eqb-false}
use Rattle.model.specs.declared.Order.{Order}
use Rattle.model.specs.declared.Day.{Day}
use Rattle.model.specs.Lists.{all, any, total}
use Rattle.model.specs.Limits.{is_price, in_band}
use Rattle.model.specs.Book.{free, is_live, best}
use Rattle.model.specs.Sound.{is_mark, may_stand, sound_figures, is_free, is_order_of, is_order, own_numbers, is_empty, crosses, between, shares_fit, prices_fit, turnover_fits}
use Rattle.model.specs.Clock.{is_time}
use Rattle.model.specs.Words.{Each, Price, Apart}
use Rattle.book.proofs.Lists.{each, every}
use Rattle.soundness.specs.SoundDay.{InBand, Rests, Place}
use Rattle.soundness.proofs.Says.{Says, says_le, says_eq, says_and, says_or, says_unless, says_too, says_not, says_all, says_none}

-- ---- numbers

pub says_price : (p : ℕ) → Says (is_price p) (Price p)
unfolding is_price
says_price p =
    says_too (λ h. record { low = h.0; high = h.1 }) (λ h. (h.low, h.high)) (says_and (says_le 1 p) (says_le p 999_999))

pub says_band : (close p : ℕ) → Says (in_band close p) (InBand close p)
unfolding in_band
says_band close p =
    says_too
    (λ h. record { low = h.0; high = h.1 })
    (λ h. (h.low, h.high))
    (says_and (says_le (70 * close) (100 * p)) (says_le (100 * p) (130 * close)))

pub says_between : (a b t : ℕ) → Says (between a b t) ((a ≤ t) × (t ≤ b))
unfolding between
says_between a b t = says_and (says_le a t) (says_le t b)

-- ---- one place

pub says_stand : (d : Day) (p : ℕ) → Says (may_stand d p) (Price p × ((d.limited ≡ 0 → ⊥) → InBand d.close p))
unfolding may_stand
says_stand d p = says_and (says_price p) (says_unless (says_eq d.limited 0) (says_band d.close p))

pub says_rests : (d : Day) (o : Order) → Says (is_order d o) (Rests d o)
unfolding is_order is_order_of
says_rests d o =
    says_too
    (λ h.
    record {
      side = h.0.0.0.0.0.0;
      account = h.0.0.0.0.0.1;
      some = h.0.0.0.0.1;
      left = h.0.0.0.1;
      price = h.0.0.1.0;
      band = h.0.0.1.1;
      numbered = h.0.1;
      issued = h.1;
    })
    (λ h. ((((((h.side, h.account), h.some), h.left), (h.price, h.band)), h.numbered), h.issued))
    (says_and
    (says_and
    (says_and
    (says_and (says_and (says_and (says_le o.side 1) (says_not (says_eq o.account 0))) (says_le 1 o.left)) (says_le o.left 1_000_000))
    (says_stand d o.price))
    (says_le 1 o.number))
    (says_le o.number d.issued))

zeros :
    (o : Order)
    → o.side ≡ 0
    → o.account ≡ 0
    → o.left ≡ 0
    → o.price ≡ 0
    → o.number ≡ 0
    → o ≡ free
unfolding free
zeros o s a l p n = rw (s, a, l, p, n)

pub says_free : (o : Order) → Says (is_free o) (o ≡ free)
unfolding is_free free
says_free o =
    says_too
    (λ h. zeros o h.0.0.0.0 h.0.0.0.1 h.0.0.1 h.0.1 h.1)
    (λ e. ((((ap (λ (x : Order). x.side) e, ap (λ (x : Order). x.account) e), ap (λ (x : Order). x.left) e), ap (λ (x : Order). x.price) e), ap (λ (x : Order). x.number) e))
    (says_and (says_and (says_and (says_and (says_eq o.side 0) (says_eq o.account 0)) (says_eq o.left 0)) (says_eq o.price 0)) (says_eq o.number 0))

pub says_place : (d : Day) (o : Order) → Says (is_free o || is_order d o) (Place d o)
says_place d o = says_or (says_free o) (says_rests d o)

-- ---- the places together

pub says_live : (o : Order) → Says (is_live o) (o.number ≡ 0 → ⊥)
unfolding is_live
says_live o = says_not (says_eq o.number 0)

says_idle : (o : Order) → Says (not (is_live o)) (o.number ≡ 0)
unfolding is_live
says_idle o = rw (not-not (eqb o.number 0)) (says_eq o.number 0)

pub says_empty : (book : List Order) → Says (is_empty book) (Each (λ o. o.number ≡ 0) book)
unfolding is_empty
says_empty book = says_all (λ o. not (is_live o)) (λ o. o.number ≡ 0) says_idle book

-- another place has not an order's number: nothing is said where the first is free
abbrev pub Beside : Order → Order → Type 0
Beside o p = p.number ≡ o.number → o.number ≡ 0

says_lone :
    (o : Order) (os : List Order)
    → Says (not (is_live o && any (λ p. eqb p.number o.number) os)) (Each (Beside o) os)
says_lone o os = go (is_live o) refl
  where
    go :
        (t : Bool)
        → is_live o ≡ t
        → Says (not (t && any (λ p. eqb p.number o.number) os)) (Each (Beside o) os)
    go false e = (
      λ _. every (Beside o) os (λ p _. (says_idle o).0 (ap not e)),
      λ _. refl,
    )
    go true e =
        says_too
        (each (λ p. p.number ≡ o.number → ⊥) (Beside o) os (λ p n q. absurd (n q)))
        (each (Beside o) (λ p. p.number ≡ o.number → ⊥) os (λ p z q. (says_live o).0 e (z q)))
        (says_none (λ p. eqb p.number o.number) (λ p. p.number ≡ o.number) (λ p. says_eq p.number o.number) os)

pub says_apart : (book : List Order) → Says (own_numbers book) (Apart book)
unfolding own_numbers
says_apart [] = (λ e. tt, λ h. refl)
says_apart (o ∷ os) = says_and (says_lone o os) (says_apart os)

-- each place free or an order, and each order with its own number
abbrev pub sits : Day → Order → Bool
sits d o = is_free o || is_order d o

abbrev pub whole : Day → List Order → Bool
whole d book = all (sits d) book && own_numbers book

pub says_whole : (d : Day) (book : List Order) → Says (whole d book) (Each (Place d) book × Apart book)
says_whole d book = says_and (says_all (sits d) (Place d) (says_place d) book) (says_apart book)

pub says_crosses : (book : List Order) → Says (crosses book) ((best 0 book ≡ 0 → ⊥) × (best 1 book ≡ 0 → ⊥) × (best 1 book ≤ best 0 book))
unfolding crosses
says_crosses book =
    says_too (λ h. (h.0.0, h.0.1, h.1)) (λ h. ((h.0, h.1), h.2)) (says_and (says_and (says_not (says_eq (best 0 book) 0)) (says_not (says_eq (best 1 book) 0))) (says_le (best 1 book) (best 0 book)))

-- ---- the day's figures

pub says_figures :
    (d : Day) → Says (sound_figures d) (Price d.close × (d.limited ≤ 1) × (d.time ≤ 86_399) × (d.issued ≤ 999_999))
unfolding sound_figures is_mark is_time
says_figures d =
    says_too
    (λ h. (h.0.0.0, h.0.0.1, h.0.1, h.1))
    (λ h. (((h.0, h.1), h.2), h.3))
    (says_and (says_and (says_and (says_price d.close) (says_le d.limited 1)) (says_le d.time 86_399)) (says_le d.issued 999_999))

pub says_fit :
    (d : Day) (book : List Order)
    → Says (shares_fit d book) (2 * d.shares + total (λ (o : Order). o.left) book ≤ 1_000_000 * d.issued)
unfolding shares_fit
says_fit d book = says_le (2 * d.shares + total (λ (o : Order). o.left) book) (1_000_000 * d.issued)

pub says_turnover : (d : Day) → Says (turnover_fits d) ((d.shares ≤ d.turnover) × (d.turnover ≤ 999_999 * d.shares))
unfolding turnover_fits
says_turnover d = says_and (says_le d.shares d.turnover) (says_le d.turnover (999_999 * d.shares))

-- no trade yet, or two prices
abbrev pub Traded : Day → Type 0
Traded d =
    (d.shares ≡ 0 → (d.first ≡ 0) × (d.last ≡ 0)) × ((d.shares ≡ 0 → ⊥) → Price d.first × Price d.last)

pub says_traded : (d : Day) → Says (prices_fit d) (Traded d)
unfolding prices_fit
says_traded d = go (eqb d.shares 0) refl
  where
    go :
        (t : Bool)
        → eqb d.shares 0 ≡ t
        → Says (cond t (eqb d.first 0 && eqb d.last 0) (is_price d.first && is_price d.last)) (Traded d)
    go true e =
        let none : d.shares ≡ 0 = eqb-true d.shares 0 e in
        says_too (λ h. (λ _. h, λ n. absurd (n none))) (λ h. h.0 none) (says_and (says_eq d.first 0) (says_eq d.last 0))
    go false e =
        let some : d.shares ≡ 0 → ⊥ = eqb-false d.shares 0 e in
        says_too (λ h. (λ z. absurd (some z), λ _. h)) (λ h. h.1 some) (says_and (says_price d.first) (says_price d.last))
