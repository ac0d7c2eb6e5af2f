-- Who is still to trade on a side: the head, as a walk goes along the side, and those behind it.
use Prim.Native.Nat.{ℕ, ◌+◌, ◌-◌, ◌≤◌, ◌<◌}
use mathlib.Core.Path.{◌≡◌, refl, sym}
use mathlib.Core.List.{List, [], ◌∷◌}
use mathlib.Core.Logic.{◌⊎◌, inl, inr}
use native.Mathlib.Decide.{dec_lt}
use native.Mathlib.Omega.{arith}
use lib.ListN.{length, get_or, take}
use borrow.Author.Tests.{lt-ltb, le-ltb}
use Rattle.model.specs.declared.Order.{Order}
use Rattle.book.specs.declared.Head.{Head}
use Rattle.model.specs.Words.{Each}
use Rattle.book.specs.Heads.{head_of, head_past, as_order, waiting}
use Rattle.book.specs.Lines.{line}
use Rattle.book.proofs.Lists.{each_drop}
use Rattle.book.proofs.Lines.{line_end, line_cons}
use Rattle.model.specs.Book.{free}

pub waiting_some : (h : Head) (os : List Order) → 0 < h.left → waiting h os ≡ as_order h ∷ os
unfolding waiting
waiting_some h os k = rw (lt-ltb 0 h.left k)

pub waiting_none : (h : Head) (os : List Order) → h.left ≤ 0 → waiting h os ≡ os
unfolding waiting
waiting_none h os k = rw (le-ltb 0 h.left k)

-- ---- the code's two cases

pub head_some : (at : ℕ) {o : Order} {os behind : List Order} → os ≡ o ∷ behind → record { at = at; number = o.number; price = o.price; left = o.left } ≡ head_of at os
unfolding head_of
head_some at e = rw e

pub head_none : (at : ℕ) {os : List Order} → os ≡ [] → record { at = at; number = 0; price = 0; left = 0 } ≡ head_of at os
unfolding head_of
head_none at e = rw e

module _ (q : ℕ) (h : Head) (os : List Order) where
  pub past_kept : q < h.left → record { at = h.at; number = h.number; price = h.price; left = h.left - q } ≡ head_past q h os
  unfolding head_past
  past_kept l = rw (lt-ltb q h.left l)

  pub past_next : {n : Head} → h.left ≤ q → n ≡ head_of (h.at + 1) os → n ≡ head_past q h os
  unfolding head_past
  past_next l e = rw (le-ltb q h.left l) e

-- ---- along a line whose orders all have shares

module _ (end : ℕ) (rows : List Order) (short : end ≤ length rows) (full : Each (λ o. 1 ≤ o.left) (take end rows)) where
  pub some_left : (at : ℕ) → Each (λ o. 1 ≤ o.left) (line at end rows)
  unfolding line
  some_left at = each_drop (λ o. 1 ≤ o.left) at (take end rows) full

  -- those behind a head
  abbrev pub behind : Head → List Order
  behind h = line (h.at + 1) end rows

  -- a head has shares and stands before the end, or neither
  abbrev pub Placed : Head → Type 0
  Placed h = ((0 < h.left) × (h.at < end)) ⊎ ((h.left ≡ 0) × (end ≤ h.at))

  pub placed_first : (at : ℕ) → Placed (head_of at (line at end rows))
  placed_first at = elim (dec_lt at end) [
    | yes l ↦
        let e : line at end rows ≡ get_or rows at free ∷ line (at + 1) end rows = line_cons at end rows l short refl in
        let g : Each (λ o. 1 ≤ o.left) (get_or rows at free ∷ line (at + 1) end rows) = rw e at (some_left at) in
        rw (e, ← head_some at {o = get_or rows at free} {behind = line (at + 1) end rows} refl) (inl (g.0, l))
    | no l ↦
        rw (line_end at end rows (omega arith), ← head_none at {os = []} refl) (inr (refl, omega arith))
  ]

  -- ---- a head that trades q

  -- who waits then
  abbrev pub then_waiting : ℕ → Head → List Order
  then_waiting q h = waiting (head_past q h (behind h)) (behind (head_past q h (behind h)))

  module _ (q : ℕ) (h : Head) where
    abbrev pub less : Head
    less = record { at = h.at; number = h.number; price = h.price; left = h.left - q }

    pub then_some : q < h.left → then_waiting q h ≡ as_order less ∷ behind h
    then_some l = rw (sym (past_kept q h (behind h) l)) (waiting_some less (behind h) (omega arith))

    next_head : h.left ≤ q → head_of (h.at + 1) (behind h) ≡ head_past q h (behind h)
    next_head l = past_next q h (behind h) l refl

    head_place : (head_of (h.at + 1) (behind h)).at ≡ h.at + 1
    head_place = go (behind h)
      where
        go : (os : List Order) → (head_of (h.at + 1) os).at ≡ h.at + 1
        go [] = unfold head_of in refl
        go (o ∷ os) = unfold head_of in refl

    pub then_next : h.left ≤ q → then_waiting q h ≡ waiting (head_of (h.at + 1) (behind h)) (line (h.at + 1 + 1) end rows)
    then_next l = rw (sym (next_head l), head_place)

    pub placed_past : h.at < end → Placed (head_past q h (behind h))
    placed_past a = elim (dec_lt q h.left) [
      | yes l ↦ rw (sym (past_kept q h (behind h) l)) (inl (omega arith, a))
      | no l ↦ rw (sym (next_head (omega arith))) (placed_first (h.at + 1))
    ]
