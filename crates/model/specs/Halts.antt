-- First-day halts (4.2.5, 4.2.6): phase 7, what starts a halt, and when it ends.
use Rattle.std.specs.Prelude.{ℕ, ◌+◌, ◌-◌, ◌*◌, Bool, not, ◌&&◌, ◌||◌, List, leb, ltb, eqb, if◌then◌else◌}
use Rattle.model.specs.declared.Trade.{Trade}
use Rattle.model.specs.declared.Day.{Day}
use Rattle.model.specs.Lists.{any}
use Rattle.model.specs.Clock.{phase_at, continuous}
use Rattle.model.specs.Figures.{open_price}

-- a halt runs
unfoldable pub runs : Day → Bool
runs d = not (eqb d.halt 0)

-- the table's phase; where that is 4 and a halt runs it is 7, in which orders and cancels are taken as in 4. Noon stays phase 5.
unfoldable pub phase_now : Day → ℕ
phase_now d = if eqb (phase_at d.time) continuous && runs d then 7 else phase_at d.time

-- so many percent away from the day's open, up or down, compared exactly
unfoldable pub away : ℕ → ℕ → ℕ → Bool
away percent opened p = leb ((100 + percent) * opened) (100 * p) || leb (100 * p) ((100 - percent) * opened)

unfoldable pub reach : ℕ → List Trade → Day → Bool
reach percent ts d = any (λ t. away percent (open_price d) t.price) ts

-- 600 seconds; an end after 14:57 moves to 14:57, one in the noon break to 13:00 (H)
unfoldable pub halt_end : ℕ → ℕ
halt_end s =
    let end : ℕ = s + 600 in if ltb 53_820 end then 53_820 else if eqb (phase_at end) 5 then 46_800 else end

-- the day with this end of a halt, 0 when none runs, and these thresholds used
unfoldable pub halting : ℕ → ℕ → ℕ → Day → Day
halting end used30 used60 d =
    record {
      close = d.close;
      limited = d.limited;
      time = d.time;
      issued = d.issued;
      shares = d.shares;
      turnover = d.turnover;
      first = d.first;
      last = d.last;
      screen = d.screen;
      halt = end;
      used30 = used30;
      used60 = used60;
      fixed = d.fixed;
      blocks = d.blocks;
    }

-- each threshold fires once a day, on unlimited days
unfoldable pub fires : List Trade → Day → Bool
fires ts d =
    eqb d.limited 0 && ((eqb d.used30 0 && reach 30 ts d) || (eqb d.used60 0 && reach 60 ts d))

-- the day, with these trades among its figures: where they fire, a halt begins at this second; at or past 60% both are used up
unfoldable pub fired : ℕ → List Trade → Day → Day
fired s ts d =
    if fires ts d then halting (halt_end s) 1 (if reach 60 ts d then 1 else d.used60) d else d

-- the halt is over
unfoldable pub resumed : Day → Day
resumed d = halting 0 d.used30 d.used60 d
