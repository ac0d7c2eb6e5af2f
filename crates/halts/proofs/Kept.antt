-- What a halt leaves of a day: whatever holds of the day with and without a halt holds of the day that its trades leave. Assumes nothing.
use Prim.Native.Nat.{ℕ}
use mathlib.Core.Path.{◌≡◌, refl}
use mathlib.Core.Bool.{Bool, true, false, cond}
use mathlib.Core.List.{List}
use lib.Dec.{eqb}
use borrow.Author.Tests.{eqb-false}
use Rattle.model.specs.declared.Trade.{Trade}
use Rattle.model.specs.declared.Day.{Day}
use Rattle.model.specs.Halts.{reach, halt_end, halting, fires, fired, resumed}
use Rattle.model.specs.ClockCall.{Held, auction_trades, auction, resume}

module _ (P : Day → Type 0) where
  -- the day as it was, or with a halt that begins at this second
  pub fired_cases :
      (s : ℕ) (ts : List Trade) (d : Day)
      → (fires ts d ≡ false → P d)
      → (fires ts d ≡ true → P (halting (halt_end s) 1 (cond (reach 60 ts d) 1 d.used60) d))
      → P (fired s ts d)
  unfolding fired
  fired_cases s ts d none some = go (fires ts d) refl
    where
      go : (b : Bool) → fires ts d ≡ b → P (cond b (halting (halt_end s) 1 (cond (reach 60 ts d) 1 d.used60) d) d)
      go true e = some e
      go false e = none e

  -- after the auction that ends a halt
  pub resume_cases :
      (s : ℕ) (h : Held)
      → let d : Day = resumed (auction h).day in
      let ts : List Trade = auction_trades h.day h.book in
      P d
      → ((s ≡ 53_820 → ⊥) → fires ts d ≡ true → P (halting (halt_end s) 1 (cond (reach 60 ts d) 1 d.used60) d))
      → P (resume s h).day
  unfolding resume
  resume_cases s h over again = go (eqb s 53_820) refl
    where
      go : (b : Bool) → eqb s 53_820 ≡ b → P (cond b (resumed (auction h).day) (fired s (auction_trades h.day h.book) (resumed (auction h).day)))
      go true e = over
      go false e =
          fired_cases s (auction_trades h.day h.book) (resumed (auction h).day) (λ _. over) (again (eqb-false s 53_820 e))
