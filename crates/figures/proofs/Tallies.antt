-- What a run of trades adds up to, one trade after the other, and the day's figures with it. Assumes nothing.
use Prim.Native.Nat.{ℕ, zero, suc, ◌+◌, ◌*◌, ◌≤◌, ◌<◌}
use mathlib.Core.Path.{◌≡◌, refl, sym, ap, ◌∙◌}
use mathlib.Core.Bool.{Bool, true, false, cond}
use mathlib.Core.List.{List, [], ◌∷◌}
use native.Mathlib.Omega.{arith}
use native.Mathlib.Numerals.{add-one}
use native.Mathlib.Nat.{le_of_suc-le-suc, not-suc-le-zero}
use lib.ListN.{length, take, drop, get_or, drop_of_length-le}
use lib.Seq.{drop-cons}
use lib.Dec.{eqb}
use borrow.Author.Tests.{eqb-true}
use Rattle.model.specs.declared.Trade.{Trade}
use Rattle.model.specs.declared.Day.{Day}
use Rattle.model.specs.Lists.{total}
use Rattle.model.specs.Matching.{filled, first_price, last_price, no_trade}
use Rattle.model.specs.Figures.{money, tally}
use Rattle.figures.specs.declared.Totals.{Totals}
use Rattle.figures.specs.Figures.{totals}

-- ---- sums

-- what is added up so far, and what the trades still to come add, is the whole
pub record Adding (ts rest : List Trade) (sold paid : ℕ) : Type 0 where
  pub shares : sold + filled rest ≡ filled ts
  pub cash : paid + money rest ≡ money ts

pub adding_start : (ts : List Trade) → Adding ts ts 0 0
adding_start ts = record { shares = omega arith; cash = omega arith }

adding_end :
    (ts : List Trade) (sold paid : ℕ) → Adding ts [] sold paid → record { shares = sold; money = paid } ≡ totals ts
unfolding totals filled money total
adding_end ts sold paid a =
    let s : sold + 0 ≡ filled ts = a.shares in
    let m : paid + 0 ≡ money ts = a.cash in
    let s' : sold ≡ filled ts = omega arith in
    let m' : paid ≡ money ts = omega arith in
    cc

-- one trade more
module _ (ts : List Trade) (i sold paid : ℕ) (h : i < length ts) (a : Adding ts (drop i ts) sold paid) where
  abbrev here : Trade
  here = get_or ts i no_trade

  abbrev rest : List Trade
  rest = drop (i + 1) ts

  begins : drop i ts ≡ here ∷ rest
  begins = drop-cons ts i no_trade h ∙ ap (λ (k : ℕ). here ∷ drop k ts) (sym (add-one i))

  shares_more : sold + (here.quantity + filled rest) ≡ filled ts
  unfolding filled total
  shares_more = sym (ap (λ (l : List Trade). sold + filled l) begins) ∙ a.shares

  cash_more : paid + (here.price * here.quantity + money rest) ≡ money ts
  unfolding money total
  cash_more = sym (ap (λ (l : List Trade). paid + money l) begins) ∙ a.cash

  pub adding_next : Adding ts rest (sold + here.quantity) (paid + here.price * here.quantity)
  adding_next = record { shares = omega (arith, shares_more); cash = omega (arith, cash_more) }

  pub adding_fits : (sold + here.quantity ≤ filled ts) × (paid + here.price * here.quantity ≤ money ts)
  adding_fits = (omega (arith, shares_more), omega (arith, cash_more))

-- past the last place nothing is to come
pub adding_over :
    (ts : List Trade) (i sold paid : ℕ)
    → length ts ≤ i
    → Adding ts (drop i ts) sold paid
    → record { shares = sold; money = paid } ≡ totals ts
adding_over ts i sold paid h a = adding_end ts sold paid (rw (drop_of_length-le ts h) at a)

pub shares_fit_lem : (ts : List Trade) (sum : Totals) → sum ≡ totals ts → sum.shares ≡ filled ts
unfolding totals
shares_fit_lem ts sum e = rw e

pub money_fit : (ts : List Trade) (sum : Totals) → sum ≡ totals ts → sum.money ≡ money ts
unfolding totals
money_fit ts sum e = rw e

-- ---- the day's figures

first_none : (p : ℕ) → p ≡ cond (eqb p 0) 0 p
first_none p = go (eqb p 0) refl
  where
    go : (b : Bool) → eqb p 0 ≡ b → p ≡ cond (eqb p 0) 0 p
    go true e = rw e (eqb-true p 0 e)
    go false e = rw e refl

-- a day with other figures of its trades
abbrev with : Day → ℕ → ℕ → ℕ → ℕ → Day
with d shares turnover first last =
    record {
      close = d.close;
      limited = d.limited;
      time = d.time;
      issued = d.issued;
      shares = shares;
      turnover = turnover;
      first = first;
      last = last;
      screen = d.screen;
      halt = d.halt;
      used30 = d.used30;
      used60 = d.used60;
      fixed = d.fixed;
      blocks = d.blocks;
    }

tally_none : (d : Day) → d ≡ tally [] d
unfolding tally filled money total first_price last_price
tally_none d =
    let s : d.shares ≡ d.shares + 0 = omega arith in
    let m : d.turnover ≡ d.turnover + 0 = omega arith in
    let f : d.first ≡ cond (eqb d.first 0) 0 d.first = first_none d.first in
    let r :
    with d d.shares d.turnover d.first d.last
    ≡ with d (d.shares + 0) (d.turnover + 0) (cond (eqb d.first 0) 0 d.first) d.last =
    cc in
    r

pub tally_zero : (d : Day) (rows : List Trade) (n : ℕ) → n ≡ 0 → d ≡ tally (take n rows) d
tally_zero d rows n e = rw e (tally_none d)

-- the first and the last of n trades
pub first_of_lem : (rows : List Trade) (m : ℕ) → m < length rows → first_price 0 (take (suc m) rows) ≡ (get_or rows 0 no_trade).price
unfolding first_price
first_of_lem [] m h = absurd (not-suc-le-zero h)
first_of_lem (r ∷ rs) m h = refl

last_of : (p : ℕ) (rows : List Trade) (m : ℕ) → m < length rows → last_price p (take (suc m) rows) ≡ (get_or rows m no_trade).price
unfolding last_price
last_of p [] m h = absurd (not-suc-le-zero h)
last_of p (r ∷ rs) zero h = refl
last_of p (r ∷ rs) (suc m) h = last_of r.price rs m (le_of_suc-le-suc h)

-- the figures with n trades added, from their totals and the prices of the first and the last
module _ (d : Day) (rows : List Trade) (n m : ℕ) (e : n ≡ suc m) (h : m < length rows) where
  abbrev added : ℕ → Totals → ℕ → Day
  added first sum last = with d (d.shares + sum.shares) (d.turnover + sum.money) first last

  module _ (sum : Totals) (first last : Trade)
      (s : sum ≡ totals (take n rows))
      (f : first ≡ get_or rows 0 no_trade)
      (l : last ≡ get_or rows m no_trade) where
    last_price_lem : last.price ≡ last_price d.last (take n rows)
    last_price_lem = rw (l, e) (sym (last_of d.last rows m h))

    -- the price of the first trade stays once there is one
    pub tally_some : (p : ℕ) → p ≡ cond (eqb d.first 0) first.price d.first → added p sum last.price ≡ tally (take n rows) d
    unfolding tally totals
    tally_some p y =
        let f : p ≡ cond (eqb d.first 0) (first_price 0 (take n rows)) d.first =
        y ∙ ap (λ (q : ℕ). cond (eqb d.first 0) q d.first) (rw (f, e) (sym (first_of_lem rows m h)))
        in
        cc last_price_lem
