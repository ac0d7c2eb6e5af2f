-- The calls of the main book leave the day's figures of the other lists, and where these are 0 the published totals are the main
-- book's. Assumes nothing.
use Prim.Native.Nat.{ℕ, ◌+◌}
use mathlib.Core.Path.{◌≡◌, refl, ◌∙◌}
use mathlib.Core.Bool.{Bool, true, false, cond}
use mathlib.Core.List.{List, [], ◌∷◌}
use native.Mathlib.Omega.{arith}
use lib.Dec.{leb}
use Rattle.model.specs.declared.Order.{Order}
use Rattle.model.specs.declared.Asked.{Asked}
use Rattle.model.specs.declared.Trade.{Trade}
use Rattle.model.specs.declared.Day.{Day}
use Rattle.model.specs.declared.Event as Event
use Rattle.model.specs.Clock.{passed, day_end}
use Rattle.model.specs.Figures.{at, issue, tally, published_shares, published_turnover}
use Rattle.model.specs.Screen.{update}
use Rattle.model.specs.Entry.{entry_trades}
use Rattle.model.specs.Calls.{entered, order_call, cancel_call}
use Rattle.model.specs.ClockCall.{Held, auction, lapse, pass, start, moved, clock_call}
use Rattle.model.specs.Session.{Desk}
use Rattle.model.proofs.Bools.{not_both}
use Rattle.model.proofs.Seconds.{pass_cases, through_keeps}
use Rattle.demands.specs.Running.{is_opening, Call, stepped_by, stepped, after}
use Rattle.demands.proofs.Cases.{order_cases, cancel_cases, clock_cases}
use Rattle.demands.proofs.SameFigures.{same_fired, same_resumed}

pub record SameOthers (d e : Day) : Type 0 where
  pub fixed : e.fixed ≡ d.fixed
  pub blocks : e.blocks ≡ d.blocks

pub others_itself : (d : Day) → SameOthers d d
others_itself d = record { fixed = refl; blocks = refl }

pub others_then : (d e f : Day) → SameOthers d e → SameOthers e f → SameOthers d f
others_then d e f x y = record { fixed = y.fixed ∙ x.fixed; blocks = y.blocks ∙ x.blocks }

-- ---- the calls

pub order_others :
    (d : Day) (a : Asked) (book : List Order) (lent : List Trade) → SameOthers d (order_call d a book lent).answer.day
unfolding entered update tally issue
order_others d a book lent =
    let ts = entry_trades d a book in
    let f = same_fired d.time ts (tally ts (issue d)) in
    order_cases d a book lent (λ o. SameOthers d o.answer.day) (λ _. record { fixed = f.fixed; blocks = f.blocks })
    (λ _. others_itself d)

pub cancel_others :
    (d : Day) (account number : ℕ) (book : List Order) → SameOthers d (cancel_call d account number book).answer.day
unfolding update
cancel_others d account number book =
    cancel_cases d account number book (λ o. SameOthers d o.answer.day) (λ _. record { fixed = refl; blocks = refl }) (λ _. others_itself d)

pass_others : (d : Day) (s : ℕ) (h : Held) → SameOthers d h.day → SameOthers d (pass s h).day
unfolding lapse auction tally
pass_others d s h k =
    let f = same_resumed s h in
    pass_cases (λ x. SameOthers d x.day) s h (λ _. record { fixed = k.fixed; blocks = k.blocks })
    (λ _. record { fixed = f.fixed ∙ k.fixed; blocks = f.blocks ∙ k.blocks })
    (λ _. record { fixed = k.fixed; blocks = k.blocks })
    (λ _ _ _. k)

pub moved_others : (d : Day) (t : ℕ) (book : List Order) → SameOthers d (moved d t book).day
unfolding moved start
moved_others d t book =
    through_keeps (λ x. SameOthers d x.day) (pass_others d) (passed d.time t) (start d book) (others_itself d)

pub clock_others :
    (d : Day) (t : ℕ) (book : List Order) (lent : List Trade) → SameOthers d (clock_call d t book lent).answer.day
unfolding update at
clock_others d t book lent =
    clock_cases d t book lent (λ o. SameOthers d o.answer.day)
    (λ _. let m = moved_others d t book in record { fixed = m.fixed; blocks = m.blocks })
    (λ _. others_itself d)

-- ---- a run of them

event_others :
    (e : Event.Event) → is_opening e ≡ false → (lent : List Trade) (s : Desk) → SameOthers s.day (stepped_by e lent s).day
unfolding is_opening stepped_by
event_others (Event.TheVariants.Open close mark) o lent s = absurd (not_both refl o)
event_others (Event.TheVariants.Clock t) o lent s = clock_others s.day t s.book lent
event_others (Event.TheVariants.Order a) o lent s = order_others s.day a s.book lent
event_others (Event.TheVariants.Cancel account number) o lent s = cancel_others s.day account number s.book

pub run_others : (es : List Call) (s : Desk) → SameOthers s.day (after es s).day
unfolding after
run_others [] s = others_itself s.day
run_others (e ∷ es) s =
    others_then s.day (stepped e s).day (after es (stepped e s)).day (event_others e.event e.within e.lent s)
    (run_others es (stepped e s))

-- ---- the published totals

module _ (d : Day) where
  pub main_shares : d.fixed.shares ≡ 0 → d.blocks.shares ≡ 0 → published_shares d ≡ d.shares
  unfolding published_shares
  main_shares f b = go (leb day_end d.time)
    where
      go : (x : Bool) → cond x (d.shares + d.fixed.shares + d.blocks.shares) d.shares ≡ d.shares
      go true = omega (arith, f, b)
      go false = refl

  pub main_turnover : d.fixed.money ≡ 0 → published_turnover d ≡ d.turnover
  unfolding published_turnover
  main_turnover f = go (leb day_end d.time)
    where
      go : (x : Bool) → cond x (d.turnover + d.fixed.money) d.turnover ≡ d.turnover
      go true = omega (arith, f)
      go false = refl
