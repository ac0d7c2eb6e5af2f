-- Trades written into what is left of a list, behind those so far. Assumes nothing.
use Prim.Native.Nat.{ℕ, ◌+◌, ◌-◌, ◌≤◌}
use mathlib.Core.Path.{◌≡◌, refl, sym, ap, ◌∙◌}
use mathlib.Core.List.{List, [], ◌++◌, map-append, append-nil}
use native.Mathlib.Omega.{arith}
use lib.ListN.{length, take, drop, length-map, length-append, length-drop, drop_of_length-le}
use lib.Seq.{length-take-le, take_all, take-append-le, take-append-add, drop-append-add, drop_at, drop-drop}
use Rattle.model.specs.declared.Trade.{Trade}
use Rattle.model.specs.Matching.{filled}
use Rattle.book.specs.declared.Dealt.{Dealt}
use Rattle.book.specs.Deals.{dealt}
use Rattle.book.specs.Writing.{fitted}
use Rattle.book.proofs.Written.{fitted_all, fitted_trades}
use Rattle.model.specs.declared.Order.{Order}

-- what was counted of them
module _ (ts : List Trade) {r : Dealt} (e : r ≡ dealt ts) where
  pub shares_of : filled ts ≡ r.shares
  unfolding dealt
  shares_of = sym (ap (λ (x : Dealt). x.shares) e)

  pub sum_within : (n : ℕ) {m : ℕ} → n + length ts ≤ m → n + r.made ≤ m
  unfolding dealt
  sum_within n h = omega (arith, h, ap (λ (x : Dealt). x.made) e)

-- after the first n places stand these trades, and behind them the list is as it was
pub record Behind (n : ℕ) (ts : List Trade) (before after : List Trade) : Type 0 where
  pub list : (take (n + length ts) after) ≡ (take n before) ++ ts
  pub past : drop (n + length ts) after ≡ drop (n + length ts) before
  pub within : n + length ts ≤ length after

module _ (n : ℕ) (lent : List Trade) (w : n ≤ length lent) where
  -- those so far, what is left of the list, and what is left after that
  abbrev old : List Trade
  old = take n lent

  abbrev rest : List Trade
  rest = take (length lent - n) (drop n lent)

  abbrev beyond : List Trade
  beyond = drop (length lent - n) (drop n lent)

  old_long : length old ≡ n
  old_long = length-take-le n lent w

  rest_is : rest ≡ drop n lent
  rest_is = take_all (length lent - n) (drop n lent) (omega (arith, length-drop n lent))

  beyond_is : beyond ≡ []
  beyond_is = drop_of_length-le (drop n lent) {i = length lent - n} (omega (arith, length-drop n lent))

  pub rest_long : length rest ≡ length lent - n
  rest_long = ap length rest_is ∙ length-drop n lent

  module _ (ts : List Trade) (fits : n + length ts ≤ length lent) {part : List Trade} (e : part ≡ fitted ts rest) where
    abbrev after : List Trade
    after = old ++ (part ++ beyond)

    room : length ts ≤ length rest
    room = omega (arith, rest_long, fits)

    written_so : part ≡ ts ++ drop (length ts) rest
    written_so = e ∙ fitted_all ts rest (omega (arith, room))

    part_long : length ts ≤ length part
    part_long =
        omega (
          arith,
          ap length written_so,
          length-append ts (drop (length ts) rest),
        )

    after_long : length after ≡ length lent
    after_long =
        length-append old (part ++ beyond)
        ∙ ap (λ (k : ℕ). length old + k) (length-append part beyond)
        ∙ omega (
          arith,
          old_long,
          ap length beyond_is,
          ap length written_so,
          length-append ts (drop (length ts) rest),
          length-drop (length ts) rest,
          rest_long,
          room,
        )

    listed : (take (n + length ts) after) ≡ (take n lent) ++ ts
    listed =
        ap (λ (k : ℕ). (take (k + length ts) after)) (sym old_long)
        ∙ (take-append-add old (part ++ beyond) (length ts))
        ∙ ap (λ (l : List Trade). (old ++ l)) (take-append-le (length ts) part beyond part_long)
        ∙ ap (λ (l : List Trade). old ++ l) (ap (λ (l : List Trade). (take (length ts) l)) e ∙ fitted_trades ts rest room)

    untouched : drop (n + length ts) after ≡ drop (n + length ts) lent
    untouched =
        ap (λ (k : ℕ). drop (k + length ts) after) (sym old_long)
        ∙ drop-append-add old (part ++ beyond) (length ts)
        ∙ ap (λ (l : List Trade). drop (length ts) (part ++ l)) beyond_is
        ∙ ap (drop (length ts)) (append-nil part)
        ∙ ap (drop (length ts)) written_so
        ∙ drop_at ts (drop (length ts) rest) (length ts) refl
        ∙ ap (drop (length ts)) rest_is
        ∙ drop-drop (length ts) n lent

    pub appended : Behind n ts lent after
    appended = record { list = listed; past = untouched; within = omega (arith, fits, after_long) }
