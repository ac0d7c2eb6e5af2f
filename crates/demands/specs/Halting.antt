-- Demand 2, halts (4.2.5, 4.2.6): what a sound day says of its halt; what starts one, and when it ends; that each threshold fires once
-- a day; what a halt does to orders; and that demand 3 covers the auction at its end.
use Rattle.std.specs.Prelude.{ℕ, ◌+◌, ◌-◌, ◌*◌, ◌≤◌, ◌<◌, ◌≡◌, ◌⊎◌, ◌↔◌, Bool, true, false, not, ◌&&◌, List, [], ◌∷◌, ◌++◌, take, leb, ltb, eqb, if◌then◌else◌}
use Rattle.model.specs.declared.Order.{Order}
use Rattle.model.specs.declared.Asked.{Asked}
use Rattle.model.specs.declared.Trade.{Trade}
use Rattle.model.specs.declared.Entry.{Entry}
use Rattle.model.specs.declared.Day.{Day}
use Rattle.model.specs.declared.Event as Event
use Rattle.model.specs.declared.OrderReply as OrderReply
use Rattle.model.specs.declared.OrderAnswer.{OrderAnswer}
use Rattle.model.specs.declared.ClockReply as ClockReply
use Rattle.model.specs.declared.ClockAnswer.{ClockAnswer}
use Rattle.model.specs.Clock.{phase_at, takes_orders, takes_cancels}
use Rattle.model.specs.Figures.{reference, open_price}
use Rattle.model.specs.Halts.{phase_now}
use Rattle.model.specs.Auction.{qualifying}
use Rattle.model.specs.Calls.{Outcome, order_call, cancel_call}
use Rattle.model.specs.ClockCall.{clock_call}
use Rattle.model.specs.Session.{Desk}
use Rattle.model.specs.Words.{Some, Sound}
use Rattle.demands.specs.Pricing.{Listing, OneLeft, TradesThere}
use Rattle.demands.specs.Running.{Call, stepped, trades_of_event, after, Fresh}

-- ---- a sound day

-- an end or a used threshold is there on unlimited days that have traded, and 60% is not used without 30%; an end lies ahead, and from
-- 14:57 on there is none
pub record Halted (d : Day) : Type 0 where
  pub unlimited : d.used30 ≡ 1 → (d.limited ≡ 0) × (d.shares ≡ 0 → ⊥)
  pub thirty_first : d.used60 ≡ 1 → d.used30 ≡ 1
  pub uses : (d.halt ≡ 0 → ⊥) → d.used30 ≡ 1
  pub ahead : (d.halt ≡ 0 → ⊥) → (34_200 ≤ d.time) × (d.time < d.halt) × (d.halt ≤ 53_820)
  pub over : 53_820 ≤ d.time → d.halt ≡ 0
  -- it lies in continuous trading, or is 14:57
  pub lands : (d.halt ≡ 0 → ⊥) → (phase_at d.halt ≡ 4) ⊎ (d.halt ≡ 53_820)

-- ---- what starts a halt

-- so many percent away from the open, up or down, compared exactly
abbrev pub Away : ℕ → ℕ → ℕ → Type 0
Away percent opened p = ((100 + percent) * opened ≤ 100 * p) ⊎ (100 * p ≤ (100 - percent) * opened)

abbrev pub Reached : ℕ → ℕ → List Trade → Type 0
Reached percent opened ts = Some (λ (t : Trade). Away percent opened t.price) ts

-- on an unlimited day one of these trades reaches a threshold that is not used
abbrev pub Fires : Day → ℕ → List Trade → Type 0
Fires d opened ts =
    (d.limited ≡ 0) × (((d.used30 ≡ 0) × Reached 30 opened ts) ⊎ ((d.used60 ≡ 0) × Reached 60 opened ts))

-- a halt that begins at s ends 600 seconds later; an end in the noon break moves to 13:00, one after 14:57 to 14:57
pub record EndsAt (s end : ℕ) : Type 0 where
  pub morning : 34_200 ≤ s → s < 40_800 → end ≡ s + 600
  pub over_noon : 40_800 ≤ s → s < 41_400 → end ≡ 46_800
  pub afternoon : 46_800 ≤ s → s < 53_220 → end ≡ s + 600
  pub to_close : 53_220 ≤ s → s < 53_820 → end ≡ 53_820

-- the halt and the thresholds are as they were
pub record Unchanged (d after : Day) : Type 0 where
  pub halt : after.halt ≡ d.halt
  pub thirty : after.used30 ≡ d.used30
  pub sixty : after.used60 ≡ d.used60

-- the day after an order, with its trades, measured from the open that they leave. None ran, and one runs now; it uses 30%, and at or
-- past 60% both
pub record Begun (d after : Day) (ts : List Trade) : Type 0 where
  pub none_before : d.halt ≡ 0
  pub phase_before : phase_now d ≡ 4
  pub ends : EndsAt d.time after.halt
  pub runs : d.time < after.halt
  pub phase : phase_now after ≡ 7
  pub thirty : after.used30 ≡ 1
  pub not_sixty : (Reached 60 (open_price after) ts → ⊥) → after.used60 ≡ d.used60

-- a halt begins exactly where the order's trades fire, all of them: the order in hand finishes first
pub record ByOrder (d : Day) (ts : List Trade) (after : Day) : Type 0 where
  pub begins : Fires d (open_price after) ts → Begun d after ts
  pub none_else : (Fires d (open_price after) ts → ⊥) → Unchanged d after
  -- at or past 60% both are used, by it or before
  pub both : d.limited ≡ 0 → Reached 60 (open_price after) ts → (after.used30 ≡ 1) × (after.used60 ≡ 1)

-- ---- what ends one

-- another halt has begun where the first ended, and has ended too where the move passes its end; both thresholds are used now
pub record Another (d : Day) (t : ℕ) (after : Day) : Type 0 where
  pub end : ℕ
  pub ends : EndsAt d.halt end
  pub first_sixty : d.used60 ≡ 0
  pub thirty : after.used30 ≡ 1
  pub sixty : after.used60 ≡ 1
  pub runs : t < end → after.halt ≡ end
  pub over : end ≤ t → after.halt ≡ 0

-- the day after a move to t, with its trades
pub record ByMove (d : Day) (t : ℕ) (ts : List Trade) (after : Day) : Type 0 where
  -- without a halt none begins: opening and closing auction fire nothing
  pub none : d.halt ≡ 0 → Unchanged d after
  -- up to its end it goes on
  pub goes_on : t < d.halt → Unchanged d after
  -- at its end another one begins exactly where its auction fires before 14:57
  pub again : (d.halt ≡ 0 → ⊥) → d.halt ≤ t → d.halt < 53_820 → Fires d (open_price after) ts → Another d t after
  pub over :
      (d.halt ≡ 0 → ⊥)
      → d.halt ≤ t
      → ((d.halt < 53_820) × Fires d (open_price after) ts → ⊥)
      → (after.halt ≡ 0) × (after.used30 ≡ d.used30) × (after.used60 ≡ d.used60)

-- ---- each threshold once a day

-- how many calls of a run use a threshold that was not used before
unfoldable pub firings : (Day → ℕ) → List Call → Desk → ℕ
firings mark [] s = 0
firings mark (c ∷ cs) s =
    (if eqb (mark s.day) 0 && not (eqb (mark (stepped c s).day) 0) then 1 else 0) + firings mark cs (stepped c s)

-- a move to t ends a halt whose auction may fire: before 14:57
unfoldable pub ends_halt : Day → ℕ → Bool
ends_halt d t = not (eqb d.halt 0) && leb d.halt t && ltb d.halt 53_820

-- the trades of an event that may fire: those of an order on entry, and those of such a move
unfoldable pub firing_by : Event.Event → List Trade → Desk → List Trade
firing_by (Event.TheVariants.Open close mark) lent s = []
firing_by (Event.TheVariants.Clock t) lent s =
    if ends_halt s.day t then trades_of_event (Event.TheVariants.Clock t) lent s else []
firing_by (Event.TheVariants.Order a) lent s = trades_of_event (Event.TheVariants.Order a) lent s
firing_by (Event.TheVariants.Cancel account number) lent s = []

unfoldable pub firing_in : List Call → Desk → List Trade
firing_in [] s = []
firing_in (c ∷ cs) s = firing_by c.event c.lent s ++ firing_in cs (stepped c s)

pub record OnceADay (cs : List Call) (s : Desk) : Type 0 where
  -- a mark counts how often its threshold fired, and is at most 1
  pub thirty : firings (λ d. d.used30) cs s ≡ (after cs s).day.used30
  pub sixty : firings (λ d. d.used60) cs s ≡ (after cs s).day.used60
  pub thirty_once : firings (λ d. d.used30) cs s ≤ 1
  pub sixty_once : firings (λ d. d.used60) cs s ≤ 1
  -- each is used exactly where one of the trades that may fire reached it, from the day's open, on an unlimited day
  pub thirty_exactly :
      ((after cs s).day.used30 ≡ 1) ↔ ((s.day.limited ≡ 0) × Reached 30 (open_price (after cs s).day) (firing_in cs s))
  pub sixty_exactly :
      ((after cs s).day.used60 ≡ 1) ↔ ((s.day.limited ≡ 0) × Reached 60 (open_price (after cs s).day) (firing_in cs s))
  -- at or past 60% both are used
  pub both : (after cs s).day.used60 ≡ 1 → (after cs s).day.used30 ≡ 1

-- nothing of a halt shows
pub record NoHalt (d : Day) : Type 0 where
  pub halt : d.halt ≡ 0
  pub thirty : d.used30 ≡ 0
  pub sixty : d.used60 ≡ 0
  pub phase : phase_now d ≡ phase_at d.time

-- ---- phase 7

-- orders and cancels are taken, of orders those with a limit alone and without a range, and no order trades on entry
pub record Collects (d : Day) : Type 0 where
  pub takes : (takes_orders d.time ≡ true) × (takes_cancels d.time ≡ true)
  pub no_trade : (a : Asked) (book : List Order) (lent : List Trade) → (order_call d a book lent).answer.made ≡ 0
  pub limit_alone :
      (a : Asked) (book : List Order) (lent : List Trade) (e : Entry)
      → (order_call d a book lent).answer.reply ≡ OrderReply.TheVariants.Accepted e
      → a.kind ≡ 0
  pub no_range :
      (a : Asked) (book : List Order) (lent : List Trade)
      → (order_call d a book lent).answer.reply ≡ OrderReply.TheVariants.Refused 9
      → ⊥

-- ---- together

pub record Halting : Type 0 where
  pub halted : (d : Day) (book : List Order) → Sound d book → Halted d
  pub order :
      (d : Day) (a : Asked) (book : List Order) (lent : List Trade)
      → Sound d book
      → let o : Outcome OrderAnswer = order_call d a book lent in ByOrder d (take o.answer.made o.trades) o.answer.day
  pub clock :
      (d : Day) (t : ℕ) (book : List Order) (lent : List Trade) (phase made : ℕ)
      → Sound d book
      → let o : Outcome ClockAnswer = clock_call d t book lent in
      o.answer.reply ≡ ClockReply.TheVariants.Moved phase made → ByMove d t (take made o.trades) o.answer.day
  -- nor does a cancel start or end one
  pub cancel : (d : Day) (account number : ℕ) (book : List Order) → Unchanged d (cancel_call d account number book).answer.day
  -- the auction at its end: the price list, the one price left, and the trades there
  pub auction :
      (d : Day) (t : ℕ) (book : List Order) (lent : List Trade) (phase made : ℕ)
      → Sound d book
      → (clock_call d t book lent).answer.reply ≡ ClockReply.TheVariants.Moved phase made
      → (d.halt ≡ 0 → ⊥)
      → d.halt ≤ t
      → Listing book
      × ((qualifying book ≡ [] → ⊥) → OneLeft book (reference d))
      × TradesThere d book (take made (clock_call d t book lent).trades)
  pub collects : (d : Day) → phase_now d ≡ 7 → Collects d
  -- noon stays noon, and takes nothing
  pub noon :
      (d : Day) → phase_at d.time ≡ 5 → (phase_now d ≡ 5) × (takes_orders d.time ≡ false) × (takes_cancels d.time ≡ false)
  -- over any run from an accepted opening
  pub once : (cs : List Call) (s : Desk) → Fresh s → OnceADay cs s
  pub limited : (cs : List Call) (s : Desk) → Fresh s → s.day.limited ≡ 1 → NoHalt (after cs s).day
