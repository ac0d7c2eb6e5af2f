-- The pairing of two lists of shares, turn by turn: who trades, never more than he has; what is left of both lists, from which the pairing
-- goes on when more shares come behind them; and that one list is used up. Assumes nothing.
use Prim.Native.Nat.{ℕ, zero, suc, ◌+◌, ◌-◌, ◌≤◌, ◌<◌, min}
use mathlib.Core.Path.{◌≡◌, refl, sym, ap, ap₂, ◌∙◌}
use mathlib.Core.Logic.{◌⊎◌, inl, inr}
use mathlib.Core.List.{List, [], ◌∷◌, ◌++◌, append-nil}
use native.Mathlib.Decide.{dec_lt}
use native.Mathlib.Nat.{le_refl}
use native.Mathlib.Omega.{arith}
use lib.ListN.{length, length-append}
use borrow.Author.Tests.{eq-eqb, ne_eqb}
use Rattle.model.specs.declared.Trade.{Trade}
use Rattle.model.specs.Pairing.{Share, head_less, pair}
use Rattle.model.specs.Words.{Each}
use Rattle.book.proofs.Lists.{each, both, every}
use Rattle.book.proofs.Sorting.{Distinct}
use Rattle.pairing.specs.Fills.{bought, sold}
use Rattle.pairing.specs.Dealing.{dealt}
use Rattle.pairing.proofs.Turns.{less, head_stays, head_goes, one_goes, pair_turn, pair_no_buy, pair_no_sell, pairs, turn}
use Rattle.pairing.proofs.Grants.{bought_next, bought_none, sold_next, sold_none}

-- ---- one turn after the other

-- what holds where a list is empty, and before a trade of the heads where it holds behind it, holds of the whole pairing
module _ (p : ℕ) (P : List Share → List Share → List Trade → Type 0)
    (no_buyer : (ss : List Share) → P [] ss [])
    (no_seller : (b : Share) (bs : List Share) → P (b ∷ bs) [] [])
    (deal : (b s : Share) (bs ss : List Share) (ts : List Trade)
    → P (head_less (min b.left s.left) b bs) (head_less (min b.left s.left) s ss) ts
    → P (b ∷ bs) (s ∷ ss) (dealt p b s ∷ ts)) where
  abbrev Within : ℕ → Type 0
  Within n = (bs ss : List Share) → length bs + length ss ≤ n → P bs ss (pair n p bs ss)

  no_turn : Within 0
  no_turn [] ss h = rw (pair_no_buy 0 p ss) (no_buyer ss)
  no_turn (b ∷ bs) ss h = absurd (omega arith)

  one_turn : (n : ℕ) → Within n → Within (suc n)
  one_turn n more [] ss h = rw (pair_no_buy (suc n) p ss) (no_buyer ss)
  one_turn n more (b ∷ bs) [] h = rw (pair_no_sell (suc n) p (b ∷ bs)) (no_seller b bs)
  one_turn n more (b ∷ bs) (s ∷ ss) h =
      let q : ℕ = min b.left s.left in
      let l = one_goes b s bs ss in
      rw (pair_turn n p b s bs ss)
      (deal b s bs ss (pair n p (head_less q b bs) (head_less q s ss)) (more (head_less q b bs) (head_less q s ss) (omega arith)))

  by_turns : (n : ℕ) → Within n
  by_turns zero = no_turn
  by_turns (suc n) = one_turn n (by_turns n)

  pub walk : (bs ss : List Share) → P bs ss (pairs p bs ss)
  unfolding pairs
  walk bs ss = by_turns (length bs + length ss) bs ss (le_refl (length bs + length ss))

-- ---- a head that has traded

-- what each has by its number, each still has
numbers_left :
    (Q : ℕ → Type 0) (q : ℕ) (s : Share) (ss : List Share)
    → Each (λ (x : Share). Q x.number) (s ∷ ss)
    → Each (λ (x : Share). Q x.number) (head_less q s ss)
numbers_left Q q s ss e = elim (dec_lt q s.left) [
  | yes l ↦ rw (head_stays q s ss l) e
  | no l ↦ rw (head_goes q s ss (omega arith)) e.1
]

abbrev pub Own : List Share → Type 0
Own ss = Distinct (λ (s : Share). s.number) ss

own_left : (q : ℕ) (s : Share) (ss : List Share) → Own (s ∷ ss) → Own (head_less q s ss)
own_left q s ss o = elim (dec_lt q s.left) [
  | yes l ↦ rw (head_stays q s ss l) o
  | no l ↦ rw (head_goes q s ss (omega arith)) o.1
]

-- each share has something to trade
abbrev pub HasShares : List Share → Type 0
HasShares ss = Each (λ (s : Share). 1 ≤ s.left) ss

some_left : (q : ℕ) (s : Share) (ss : List Share) → HasShares (s ∷ ss) → HasShares (head_less q s ss)
some_left q s ss e = elim (dec_lt q s.left) [
  | yes l ↦ rw (head_stays q s ss l) (omega arith, e.1)
  | no l ↦ rw (head_goes q s ss (omega arith)) e.1
]

-- ---- who trades

pub parties :
    (p : ℕ) (Q R : ℕ → Type 0) (bs ss : List Share)
    → Each (λ (b : Share). Q b.number) bs
    → Each (λ (s : Share). R s.number) ss
    → Each (λ (t : Trade). Q t.buyer × R t.seller) (pairs p bs ss)
unfolding dealt
parties p Q R =
    walk p
    (λ bs ss ts. Each (λ (b : Share). Q b.number) bs → Each (λ (s : Share). R s.number) ss → Each (λ (t : Trade). Q t.buyer × R t.seller) ts)
    (λ ss e f. tt)
    (λ b bs e f. tt)
    (λ b s bs ss ts more e f. (
      (e.0, f.0),
      more (numbers_left Q (min b.left s.left) b bs e) (numbers_left R (min b.left s.left) s ss f),
    ))

-- ---- what a trade of the heads adds

module _ (p : ℕ) (b s : Share) (ts : List Trade) where
  buyer_more : bought b.number (dealt p b s ∷ ts) ≡ min b.left s.left + bought b.number ts
  unfolding dealt
  buyer_more = bought_next b.number (dealt p b s) ts ∙ rw (eq-eqb b.number b.number refl)

  seller_more : sold s.number (dealt p b s ∷ ts) ≡ min b.left s.left + sold s.number ts
  unfolding dealt
  seller_more = sold_next s.number (dealt p b s) ts ∙ rw (eq-eqb s.number s.number refl)

  buyer_same : (n : ℕ) → (b.number ≡ n → ⊥) → bought n (dealt p b s ∷ ts) ≡ bought n ts
  unfolding dealt
  buyer_same n d = bought_next n (dealt p b s) ts ∙ rw (ne_eqb b.number n d) (omega arith)

  seller_same : (n : ℕ) → (s.number ≡ n → ⊥) → sold n (dealt p b s ∷ ts) ≡ sold n ts
  unfolding dealt
  seller_same n d = sold_next n (dealt p b s) ts ∙ rw (ne_eqb s.number n d) (omega arith)

  buyers_same : (bs : List Share) → Own (b ∷ bs) → Each (λ (x : Share). bought x.number (dealt p b s ∷ ts) ≡ bought x.number ts) bs
  buyers_same bs o =
      each (λ (x : Share). x.number ≡ b.number → ⊥) (λ (x : Share). bought x.number (dealt p b s ∷ ts) ≡ bought x.number ts) bs
      (λ x d. buyer_same x.number (λ e. d (sym e))) o.0

  sellers_same : (ss : List Share) → Own (s ∷ ss) → Each (λ (x : Share). sold x.number (dealt p b s ∷ ts) ≡ sold x.number ts) ss
  sellers_same ss o =
      each (λ (x : Share). x.number ≡ s.number → ⊥) (λ (x : Share). sold x.number (dealt p b s ∷ ts) ≡ sold x.number ts) ss
      (λ x d. seller_same x.number (λ e. d (sym e))) o.0

-- ---- what is left of a list of which so much of each number has traded

module _ (f : ℕ → ℕ) where
  unfoldable pub left_over : List Share → List Share
  left_over [] = []
  left_over (s ∷ ss) = head_less (f s.number) s (left_over ss)

  -- nothing has traded
  pub left_all : (ss : List Share) → HasShares ss → Each (λ (s : Share). f s.number ≡ 0) ss → left_over ss ≡ ss
  unfolding left_over
  left_all [] e z = refl
  left_all (s ∷ ss) e z = rw (z.0, left_all ss e.1 z.1) (head_stays 0 s ss e.0 ∙ rw (none_off s.left, none_off s.whole))
    where
      none_off : (n : ℕ) → n - 0 ≡ n
      none_off n = omega arith

left_same : (f g : ℕ → ℕ) (ss : List Share) → Each (λ (s : Share). g s.number ≡ f s.number) ss → left_over f ss ≡ left_over g ss
unfolding left_over
left_same f g [] e = refl
left_same f g (s ∷ ss) e = rw (e.0, left_same f g ss e.1)

-- one trade of the head, and then others
head_twice : (q r : ℕ) (s : Share) (ss : List Share) → q < s.left → head_less r (less q s) ss ≡ head_less (q + r) s ss
head_twice q r s ss l = elim (dec_lt (q + r) s.left) [
  | yes k ↦
      let a : s.left - q - r ≡ s.left - (q + r) = omega arith in
      let b : s.whole - q - r ≡ s.whole - (q + r) = omega arith in
      head_stays r (less q s) ss (omega arith) ∙ rw (a, b) (sym (head_stays (q + r) s ss k))
  | no k ↦ head_goes r (less q s) ss (omega arith) ∙ sym (head_goes (q + r) s ss (omega arith))
]

left_more :
    (f g : ℕ → ℕ) (q : ℕ) (s : Share) (ss : List Share)
    → g s.number ≡ q + f s.number
    → Each (λ (x : Share). g x.number ≡ f x.number) ss
    → left_over f (head_less q s ss) ≡ left_over g (s ∷ ss)
unfolding left_over
left_more f g q s ss e h = elim (dec_lt q s.left) [
  | yes l ↦
      ap (left_over f) (head_stays q s ss l)
      ∙ head_twice q (f s.number) s (left_over f ss) l
      ∙ rw (sym e, left_same f g ss h)
  | no l ↦
      ap (left_over f) (head_goes q s ss (omega arith))
      ∙ left_same f g ss h
      ∙ sym (head_goes (g s.number) s (left_over g ss) (omega arith))
]

-- ---- never more than he has

within_more :
    (f g : ℕ → ℕ) (q : ℕ) (s : Share) (ss : List Share)
    → q ≤ s.left
    → g s.number ≡ q + f s.number
    → Each (λ (x : Share). g x.number ≡ f x.number) ss
    → (Each (λ (x : Share). x.number ≡ s.number → ⊥) (head_less q s ss) → f s.number ≡ 0)
    → Each (λ (x : Share). x.number ≡ s.number → ⊥) ss
    → Each (λ (x : Share). f x.number ≤ x.left) (head_less q s ss)
    → Each (λ (x : Share). g x.number ≤ x.left) (s ∷ ss)
within_more f g q s ss h e same gone apart w = elim (dec_lt q s.left) [
  | yes l ↦
      let v : Each (λ (x : Share). f x.number ≤ x.left) (less q s ∷ ss) = rw (head_stays q s ss l) at w in
      (omega (arith, v.0), others v.1)
  | no l ↦
      let v : head_less q s ss ≡ ss = head_goes q s ss (omega arith) in
      let z : f s.number ≡ 0 = gone (rw v apart) in
      (omega arith, others (rw v at w))
]
  where
    others : Each (λ (x : Share). f x.number ≤ x.left) ss → Each (λ (x : Share). g x.number ≤ x.left) ss
    others v = both (λ (x : Share). g x.number ≡ f x.number) (λ (x : Share). f x.number ≤ x.left) (λ (x : Share). g x.number ≤ x.left) ss (λ x a b. omega arith) same v

pub record Took (bs ss : List Share) (ts : List Trade) : Type 0 where
  pub buyers : (n : ℕ) → Each (λ (b : Share). b.number ≡ n → ⊥) bs → bought n ts ≡ 0
  pub sellers : (n : ℕ) → Each (λ (s : Share). s.number ≡ n → ⊥) ss → sold n ts ≡ 0
  pub buys : Own bs → Each (λ (b : Share). bought b.number ts ≤ b.left) bs
  pub sells : Own ss → Each (λ (s : Share). sold s.number ts ≤ s.left) ss

none_took : (bs ss : List Share) → Took bs ss []
none_took bs ss =
    record {
      buyers = λ n e. bought_none n;
      sellers = λ n e. sold_none n;
      buys = λ o. every (λ (b : Share). bought b.number [] ≤ b.left) bs (λ b. omega (arith, bought_none b.number));
      sells = λ o. every (λ (s : Share). sold s.number [] ≤ s.left) ss (λ s. omega (arith, sold_none s.number));
    }

deal_took :
    (p : ℕ) (b s : Share) (bs ss : List Share) (ts : List Trade)
    → Took (head_less (min b.left s.left) b bs) (head_less (min b.left s.left) s ss) ts
    → Took (b ∷ bs) (s ∷ ss) (dealt p b s ∷ ts)
deal_took p b s bs ss ts k =
    let q : ℕ = min b.left s.left in
    record {
      buyers = λ n e. buyer_same p b s ts n e.0 ∙ k.buyers n (numbers_left (λ m. m ≡ n → ⊥) q b bs e);
      sellers = λ n e. seller_same p b s ts n e.0 ∙ k.sellers n (numbers_left (λ m. m ≡ n → ⊥) q s ss e);
      buys = λ o.
          within_more (λ n. bought n ts) (λ n. bought n (dealt p b s ∷ ts)) q b bs (omega arith) (buyer_more p b s ts) (buyers_same p b s ts bs o)
          (k.buyers b.number) o.0 (k.buys (own_left q b bs o));
      sells = λ o.
          within_more (λ n. sold n ts) (λ n. sold n (dealt p b s ∷ ts)) q s ss (omega arith) (seller_more p b s ts) (sellers_same p b s ts ss o)
          (k.sellers s.number) o.0 (k.sells (own_left q s ss o));
    }

pub took : (p : ℕ) (bs ss : List Share) → Took bs ss (pairs p bs ss)
took p = walk p Took (λ ss. none_took [] ss) (λ b bs. none_took (b ∷ bs) []) (deal_took p)

-- ---- more shares behind both lists

head_append : (q : ℕ) (s : Share) (ss more : List Share) → head_less q s (ss ++ more) ≡ head_less q s ss ++ more
head_append q s ss more = elim (dec_lt q s.left) [
  | yes l ↦ head_stays q s (ss ++ more) l ∙ ap (λ (l : List Share). l ++ more) (sym (head_stays q s ss l))
  | no l ↦
      let k : s.left ≤ q = omega arith in
      head_goes q s (ss ++ more) k ∙ ap (λ (l : List Share). l ++ more) (sym (head_goes q s ss k))
]

module _ (p : ℕ) (bs' ss' : List Share) where
  -- the pairing with these behind both goes on where the pairing without them ended
  abbrev GoesOn : List Share → List Share → List Trade → Type 0
  GoesOn bs ss ts =
      Own bs
      → Own ss
      → HasShares bs
      → HasShares ss
      → pairs p (bs ++ bs') (ss ++ ss') ≡ ts ++ pairs p (left_over (λ n. bought n ts) bs ++ bs') (left_over (λ n. sold n ts) ss ++ ss')

  none_goes : (bs ss : List Share) → GoesOn bs ss []
  none_goes bs ss o u e f =
      ap₂ (λ x y. pairs p (x ++ bs') (y ++ ss'))
      (sym (left_all (λ n. bought n []) bs e (every (λ (b : Share). bought b.number [] ≡ 0) bs (λ b. bought_none b.number))))
      (sym (left_all (λ n. sold n []) ss f (every (λ (s : Share). sold s.number [] ≡ 0) ss (λ s. sold_none s.number))))

  deal_goes :
      (b s : Share) (bs ss : List Share) (ts : List Trade)
      → GoesOn (head_less (min b.left s.left) b bs) (head_less (min b.left s.left) s ss) ts
      → GoesOn (b ∷ bs) (s ∷ ss) (dealt p b s ∷ ts)
  deal_goes b s bs ss ts more o u e f =
      let q : ℕ = min b.left s.left in
      turn p b s (bs ++ bs') (ss ++ ss')
      ∙ ap (λ l. dealt p b s ∷ l)
      (ap₂ (λ x y. pairs p x y) (head_append q b bs bs') (head_append q s ss ss')
      ∙ more (own_left q b bs o) (own_left q s ss u) (some_left q b bs e) (some_left q s ss f)
      ∙ ap₂ (λ x y. ts ++ pairs p (x ++ bs') (y ++ ss'))
      (left_more (λ n. bought n ts) (λ n. bought n (dealt p b s ∷ ts)) q b bs (buyer_more p b s ts) (buyers_same p b s ts bs o))
      (left_more (λ n. sold n ts) (λ n. sold n (dealt p b s ∷ ts)) q s ss (seller_more p b s ts) (sellers_same p b s ts ss u)))

  pub goes_on : (bs ss : List Share) → GoesOn bs ss (pairs p bs ss)
  goes_on = walk p GoesOn (λ ss. none_goes [] ss) (λ b bs. none_goes (b ∷ bs) []) deal_goes

-- ---- one list is used up

same_behind : (ts more : List Trade) → ts ≡ ts ++ more → more ≡ []
same_behind ts [] e = refl
same_behind ts (t ∷ more) e = absurd (omega (arith, ap length e, length-append ts (t ∷ more)))

none_paired : (p : ℕ) (bs ss : List Share) → pairs p bs ss ≡ [] → (bs ≡ []) ⊎ (ss ≡ [])
none_paired p [] ss e = inl refl
none_paired p (b ∷ bs) [] e = inr refl
none_paired p (b ∷ bs) (s ∷ ss) e = absurd (omega (arith, ap length (sym e ∙ turn p b s bs ss)))

module _ (p : ℕ) (bs ss : List Share) (o : Own bs) (u : Own ss) (e : HasShares bs) (f : HasShares ss) where
  abbrev ts : List Trade
  ts = pairs p bs ss

  pub one_done : (left_over (λ n. bought n ts) bs ≡ []) ⊎ (left_over (λ n. sold n ts) ss ≡ [])
  one_done =
      let left = left_over (λ n. bought n ts) bs in
      let right = left_over (λ n. sold n ts) ss in
      none_paired p left right
      (same_behind ts (pairs p left right)
      (ap₂ (λ x y. pairs p x y) (sym (append-nil bs)) (sym (append-nil ss))
      ∙ goes_on p [] [] bs ss o u e f
      ∙ ap₂ (λ x y. ts ++ pairs p x y) (append-nil left) (append-nil right)))
