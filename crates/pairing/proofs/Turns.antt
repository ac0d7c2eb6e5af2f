-- One turn of the pairing: the two heads trade the smaller remainder, and one of them is used up, so there are turns enough.
use Prim.Native.Nat.{ℕ, zero, suc, ◌+◌, ◌-◌, ◌≤◌, ◌<◌, min}
use mathlib.Core.Path.{◌≡◌, refl, sym, ap, ◌∙◌}
use mathlib.Core.List.{List, [], ◌∷◌}
use native.Mathlib.Nat.{le_refl}
use native.Mathlib.Decide.{dec_lt, dec_le}
use native.Mathlib.Omega.{arith}
use borrow.Author.Tests.{lt-ltb, le-ltb}
use lib.ListN.{length}
use Rattle.model.specs.declared.Order.{Order}
use Rattle.model.specs.declared.Trade.{Trade}
use Rattle.model.specs.Pairing.{Share, cut, head_less, pair}
use Rattle.pairing.specs.Dealing.{dealt}

-- what an order brings to a volume, and a share of which q have traded
abbrev pub brings : ℕ → Order → Share
brings v o = record { number = o.number; left = min v o.left; whole = o.left }

abbrev pub less : ℕ → Share → Share
less q s = record { number = s.number; left = s.left - q; whole = s.whole - q }

-- ---- a head that has traded
pub head_stays :
    (q : ℕ) (s : Share) (ss : List Share)
    → q < s.left
    → head_less q s ss ≡ less q s ∷ ss
unfolding head_less
head_stays q s ss h = rw (lt-ltb q s.left h)

pub head_goes : (q : ℕ) (s : Share) (ss : List Share) → s.left ≤ q → head_less q s ss ≡ ss
unfolding head_less
head_goes q s ss h = rw (le-ltb q s.left h)

head_long : (q : ℕ) (s : Share) (ss : List Share) → length (head_less q s ss) ≤ suc (length ss)
head_long q s ss = elim (dec_lt q s.left) [
  | yes h ↦ rw (head_stays q s ss h) (le_refl (suc (length ss)))
  | no h ↦ let k : s.left ≤ q = omega arith in rw (head_goes q s ss k) (omega arith)
]

-- of two heads that trade the smaller remainder one is used up
pub one_goes :
    (b s : Share) (bs ss : List Share)
    → length (head_less (min b.left s.left) b bs) + length (head_less (min b.left s.left) s ss) ≤ length bs + suc (length ss)
one_goes b s bs ss =
    let q : ℕ = min b.left s.left in
    elim (dec_le b.left s.left) [
      | yes h ↦
          let k : b.left ≤ q = omega arith in
          rw (head_goes q b bs k) (omega (arith, head_long q s ss))
      | no h ↦
          let k : s.left ≤ q = omega arith in
          rw (head_goes q s ss k) (omega (arith, head_long q b bs))
    ]

-- ---- turns enough
pub dealt_quantity : (p : ℕ) (b s : Share) → (dealt p b s).quantity ≡ min b.left s.left
unfolding dealt
dealt_quantity p b s = refl

pub pair_turn :
    (n p : ℕ) (b s : Share) (bs ss : List Share)
    → pair (suc n) p (b ∷ bs) (s ∷ ss) ≡ dealt p b s ∷ pair n p (head_less (min b.left s.left) b bs) (head_less (min b.left s.left) s ss)
unfolding pair dealt
pair_turn n p b s bs ss = refl

pub pair_no_buy : (n p : ℕ) (ss : List Share) → pair n p [] ss ≡ []
unfolding pair
pair_no_buy zero p ss = refl
pair_no_buy (suc n) p ss = refl

pub pair_no_sell : (n p : ℕ) (bs : List Share) → pair n p bs [] ≡ []
unfolding pair
pair_no_sell zero p bs = refl
pair_no_sell (suc n) p [] = refl
pair_no_sell (suc n) p (b ∷ bs) = refl

-- with as many turns as there are shares, or more, nothing changes
abbrev Enough : ℕ → ℕ → Type 0
Enough n p =
    (m : ℕ) (bs ss : List Share) → length bs + length ss ≤ n → length bs + length ss ≤ m → pair n p bs ss ≡ pair m p bs ss

none_enough : (p : ℕ) → Enough 0 p
none_enough p m [] ss h k = pair_no_buy 0 p ss ∙ sym (pair_no_buy m p ss)
none_enough p m (b ∷ bs) ss h k = absurd (omega arith)

more_enough : (n p : ℕ) → Enough n p → Enough (suc n) p
more_enough n p more m [] ss h k = pair_no_buy (suc n) p ss ∙ sym (pair_no_buy m p ss)
more_enough n p more m (b ∷ bs) [] h k = pair_no_sell (suc n) p (b ∷ bs) ∙ sym (pair_no_sell m p (b ∷ bs))
more_enough n p more zero (b ∷ bs) (s ∷ ss) h k = absurd (omega arith)
more_enough n p more (suc m) (b ∷ bs) (s ∷ ss) h k =
    let l = one_goes b s bs ss in
    let q : ℕ = min b.left s.left in
    pair_turn n p b s bs ss
    ∙ ap (λ ts. dealt p b s ∷ ts) (more m (head_less q b bs) (head_less q s ss) (omega arith) (omega arith))
    ∙ sym (pair_turn m p b s bs ss)

enough : (n p : ℕ) → Enough n p
enough zero p = none_enough p
enough (suc n) p = more_enough n p (enough n p)

-- the trades of two lists of shares
unfoldable pub pairs : ℕ → List Share → List Share → List Trade
pairs p bs ss = pair (length bs + length ss) p bs ss

pub no_buys : (p : ℕ) (ss : List Share) → pairs p [] ss ≡ []
unfolding pairs
no_buys p ss = pair_no_buy (0 + length ss) p ss

pub turn :
    (p : ℕ) (b s : Share) (bs ss : List Share)
    → pairs p (b ∷ bs) (s ∷ ss) ≡ dealt p b s ∷ pairs p (head_less (min b.left s.left) b bs) (head_less (min b.left s.left) s ss)
unfolding pairs
turn p b s bs ss =
    let q : ℕ = min b.left s.left in
    let l = one_goes b s bs ss in
    let e : suc (length bs) + suc (length ss) ≡ suc (length bs + suc (length ss)) = omega arith in
    ap (λ n. pair n p (b ∷ bs) (s ∷ ss)) e
    ∙ pair_turn (length bs + suc (length ss)) p b s bs ss
    ∙ ap (λ ts. dealt p b s ∷ ts)
    (enough (length bs + suc (length ss)) p (length (head_less q b bs) + length (head_less q s ss)) (head_less q b bs)
    (head_less q s ss) (omega arith) (le_refl _))

-- ---- a queue cut to a volume
pub cut_some :
    (v : ℕ) (o : Order) (os : List Order)
    → 0 < v
    → cut v (o ∷ os) ≡ brings v o ∷ cut (v - o.left) os
unfolding cut
cut_some v o os h = rw (lt-ltb 0 v h)

pub cut_nothing : (os : List Order) → cut 0 os ≡ []
unfolding cut
cut_nothing [] = refl
cut_nothing (o ∷ os) = refl

pub cut_nobody : (v : ℕ) → cut v [] ≡ []
unfolding cut
cut_nobody v = refl

pub cut_short : (v : ℕ) (os : List Order) → length (cut v os) ≤ length os
cut_short v [] = rw (cut_nobody v) (le_refl 0)
cut_short v (o ∷ os) = go (cut_short (v - o.left) os)
  where
    go : length (cut (v - o.left) os) ≤ length os → length (cut v (o ∷ os)) ≤ suc (length os)
    go h = elim (dec_lt 0 v) [
      | yes k ↦ rw (cut_some v o os k) (omega arith)
      | no k ↦ let z : v ≡ 0 = omega arith in rw (z, cut_nothing (o ∷ os)) (omega arith)
    ]

-- ---- fewer trades than shares
abbrev Fewer : ℕ → ℕ → Type 0
Fewer n p = (bs ss : List Share) → length (pair n p bs ss) ≤ length bs + length ss - 1

more_fewer : (n p : ℕ) → Fewer n p → Fewer (suc n) p
more_fewer n p more [] ss = rw (pair_no_buy (suc n) p ss) (omega arith)
more_fewer n p more (b ∷ bs) [] = rw (pair_no_sell (suc n) p (b ∷ bs)) (omega arith)
more_fewer n p more (b ∷ bs) (s ∷ ss) =
    let q : ℕ = min b.left s.left in
    let l = one_goes b s bs ss in
    let r = more (head_less q b bs) (head_less q s ss) in
    omega (arith, ap length (pair_turn n p b s bs ss))

none_fewer : (p : ℕ) → Fewer 0 p
unfolding pair
none_fewer p bs ss = omega arith

fewer : (n p : ℕ) → Fewer n p
fewer zero p = none_fewer p
fewer (suc n) p = more_fewer n p (fewer n p)

pub fewer_trades : (p : ℕ) (bs ss : List Share) → length (pairs p bs ss) ≤ length bs + length ss - 1
unfolding pairs
fewer_trades p bs ss = fewer (length bs + length ss) p bs ss
