-- The lines of a screen one after the other, and the room that they take. Assumes nothing.
use Prim.Native.Nat.{ℕ, ◌+◌, ◌≤◌}
use mathlib.Core.Path.{◌≡◌}
use mathlib.Core.Bool.{Bool, true, false, cond}
use mathlib.Core.List.{List, [], ◌∷◌}
use native.Mathlib.Omega.{arith}
use lib.Dec.{eqb}
use lib.IntN.{ℤ}
use lib.ListN.{length, length-append}
use borrow.Author.Tests.{eq-eqb, ne_eqb}
use Rattle.model.specs.declared.Level.{Level}
use Rattle.model.specs.declared.Levels.{Levels}
use Rattle.model.specs.declared.Screen.{Screen}
use Rattle.model.specs.Lines.{reply}
use Rattle.printing.specs.Printing.{Wrote}
use Rattle.printing.proofs.Printed.{nothing_put, and_then, put_long, reply_fits}
use Rattle.floors.specs.Floor.{signed_reply, level_line, level_lines, figures_line, screen_lines}
use Rattle.floor_printing.proofs.Signing.{signed_reply_fits}

-- what room there is after a text of at most so many bytes
pub room_after :
    (most rest : ℕ) {o text o' : List ℕ} {at p : ℕ}
    → Wrote o at text o' p
    → length text ≤ most
    → at + (most + rest) ≤ length o
    → p + rest ≤ length o'
room_after most rest w h room = omega (arith, w.place, put_long w)

-- ---- a level

pub unused_put : (c : ℕ) (l : Level) {o : List ℕ} {at : ℕ} → l.price ≡ 0 → Wrote o at (level_line c l) o at
unfolding level_line
unused_put c l e = rw (eq-eqb l.price 0 e) nothing_put

pub used_line : (c : ℕ) (l : Level) → (l.price ≡ 0 → ⊥) → reply c (l.price ∷ l.shares ∷ []) ≡ level_line c l
unfolding level_line
used_line c l e = rw (ne_eqb l.price 0 e)

pub level_fits : (c : ℕ) (l : Level) → length (level_line c l) ≤ 44
unfolding level_line
level_fits c l = go (eqb l.price 0)
  where
    go : (b : Bool) → length (cond b [] (reply c (l.price ∷ l.shares ∷ []))) ≤ 44
    go true = omega arith
    go false = omega (arith, reply_fits c (l.price ∷ l.shares ∷ []))

-- ---- the levels of a side

pub put_five :
    (c : ℕ) (ls : Levels) {o o₁ o₂ o₃ o₄ o₅ : List ℕ} {at p q r s t : ℕ}
    → Wrote o at (level_line c ls.first) o₁ p
    → Wrote o₁ p (level_line c ls.second) o₂ q
    → Wrote o₂ q (level_line c ls.third) o₃ r
    → Wrote o₃ r (level_line c ls.fourth) o₄ s
    → Wrote o₄ s (level_line c ls.fifth) o₅ t
    → Wrote o at (level_lines c ls) o₅ t
unfolding level_lines
put_five c ls u v w x y = and_then (and_then (and_then (and_then u v) w) x) y

pub levels_fit : (c : ℕ) (ls : Levels) → length (level_lines c ls) ≤ 220
unfolding level_lines
levels_fit c ls =
    let f = level_fits c ls.first in
    let g = level_fits c ls.second in
    let h = level_fits c ls.third in
    let i = level_fits c ls.fourth in
    let j = level_fits c ls.fifth in
    rw (length-append, length-append, length-append, length-append) (omega arith)

-- ---- the whole screen

pub figures_line_lem :
    (s : Screen) {shown : ℤ}
    → shown ≡ s.surplus
    → signed_reply 83 (s.last ∷ s.high ∷ s.low ∷ s.shares ∷ s.turnover ∷ s.price ∷ s.volume ∷ []) shown ≡ figures_line s
unfolding figures_line
figures_line_lem s e = rw e

pub figures_fit_lem : (s : Screen) → length (figures_line s) ≤ 171
unfolding figures_line
figures_fit_lem s =
    omega (arith, signed_reply_fits 83 (s.last ∷ s.high ∷ s.low ∷ s.shares ∷ s.turnover ∷ s.price ∷ s.volume ∷ []) s.surplus)

pub put_parts :
    (s : Screen) {o o₁ o₂ o₃ : List ℕ} {at p q r : ℕ}
    → Wrote o at (figures_line s) o₁ p
    → Wrote o₁ p (level_lines 43 s.buys) o₂ q
    → Wrote o₂ q (level_lines 45 s.sells) o₃ r
    → Wrote o at (screen_lines s) o₃ r
unfolding screen_lines
put_parts s u v w = and_then (and_then u v) w

-- a screen never needs more than 611 bytes
pub screen_fits_lem : (s : Screen) → length (screen_lines s) ≤ 611
unfolding screen_lines
screen_fits_lem s =
    let f = figures_fit_lem s in
    let g = levels_fit 43 s.buys in
    let h = levels_fit 45 s.sells in
    rw (length-append, length-append) (omega arith)
