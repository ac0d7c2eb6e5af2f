-- Chains of calls, at any door: each call meets its promise on the memory that the one before it left, and nobody else writes to that
-- memory. What such a chain gives, begun by an accepted opening, is what the definitions' calls give one after the other.
use Rattle.std.specs.Prelude.{ℕ, ◌≡◌, List, [], ◌∷◌, get_or}
use Rattle.model.specs.declared.ReportReply as ReportReply
use Rattle.model.specs.Replies.{open_numbers, order_numbers, cancel_numbers, clock_numbers, list_numbers}
use Rattle.model.specs.Session.{Desk}
use Rattle.model.specs.Words.{Each, Sound}
use Rattle.demands.specs.Running.{Call, Running}
use Rattle.demands.specs.Running as run
use Rattle.demands.specs.Halting.{OnceADay, NoHalt}
use Rattle.demands.specs.Histories.{AnyCall, Happens, Reports, Lists, Seen, Opened, Moved, Entered, Cancelled, Reported, Listed, present, seen, stepped, all_seen, after}

-- ---- a door, and what a chain of its calls is

-- what a call hands back, and the list that it was lent as it leaves it
pub record Gave (A L : Type 0) : Type 0 where
  pub answer : A
  pub list : L

pub record Door : Type 1 where
  -- the memory that holds day and book from call to call
  pub Memory : Type 0
  -- a call with the lists that it is lent, and what it gives: its reply, and these lists as it leaves them
  pub Asks : Type 0
  pub Gives : Asks → Type 0
  -- its promise, from the memory that it finds to the memory that it leaves
  pub Promise : (a : Asks) → Memory → Gives a → Memory → Type 0
  -- which call of the definitions it is, and which day and book the memory holds
  pub call : Asks → AnyCall
  pub desk : Memory → Desk
  -- what it gives where the definitions' call is seen like this
  pub Shows : (a : Asks) → Seen → Gives a → Type 0

module _ (D : Door) where
  -- a call that was made: what was asked, what it gave, and the memory that it left
  pub record Link : Type 0 where
    pub asks : D.Asks
    pub gives : D.Gives asks
    pub left : D.Memory

  abbrev pub Chained : D.Memory → List Link → Type 0
  Chained m [] = Unit {0}
  Chained m (l ∷ ls) = D.Promise l.asks m l.gives l.left × Chained l.left ls

  -- the memory in the end
  unfoldable pub last_left : D.Memory → List Link → D.Memory
  last_left m [] = m
  last_left m (l ∷ ls) = last_left l.left ls

  unfoldable pub calls_of : List Link → List AnyCall
  calls_of [] = []
  calls_of (l ∷ ls) = D.call l.asks ∷ calls_of ls

  -- each call gives what is seen of the definitions' call
  abbrev pub Shown : List Link → List Seen → Type 0
  Shown [] [] = Unit {0}
  Shown [] (x ∷ xs) = ⊥
  Shown (l ∷ ls) [] = ⊥
  Shown (l ∷ ls) (x ∷ xs) = D.Shows l.asks x l.gives × Shown ls xs

  -- a chain goes as the definitions' history does: what each call gives, and the day and the book in the end
  pub record Runs (m : D.Memory) (ls : List Link) : Type 0 where
    pub shown : Shown ls (all_seen present (calls_of ls) (D.desk m))
    pub ends : D.desk (last_left m ls) ≡ after present (calls_of ls) (D.desk m)

  -- a door keeps step where each promise, met on a sound day, gives what is seen of the definitions' call and leaves the day and
  -- the book of it. `Holds` is what the door's memory has to have beside a sound day, and keeps.
  pub record KeepsStep (Holds : D.Memory → Type 0) : Type 0 where
    pub shows :
        (a : D.Asks) (m : D.Memory) (g : D.Gives a) (n : D.Memory)
        → Holds m
        → Sound (D.desk m).day (D.desk m).book
        → D.Promise a m g n
        → D.Shows a (seen present (D.call a) (D.desk m)) g
    pub leaves :
        (a : D.Asks) (m : D.Memory) (g : D.Gives a) (n : D.Memory)
        → Holds m
        → Sound (D.desk m).day (D.desk m).book
        → D.Promise a m g n
        → D.desk n ≡ stepped present (D.call a) (D.desk m)
    pub holds :
        (a : D.Asks) (m : D.Memory) (g : D.Gives a) (n : D.Memory)
        → Holds m
        → Sound (D.desk m).day (D.desk m).book
        → D.Promise a m g n
        → Holds n

-- ---- what demand 2 then says of it

-- the refusal that is seen, 0 where a call is accepted
unfoldable pub refusal_of : Seen → ℕ
refusal_of (Opened r) = get_or (open_numbers r) 0 0
refusal_of (Moved r made trades) = get_or (clock_numbers r) 0 0
refusal_of (Entered r made trades) = get_or (order_numbers r) 0 0
refusal_of (Cancelled r) = get_or (cancel_numbers r) 0 0
refusal_of (Reported (ReportReply.TheVariants.Refused n)) = n
refusal_of (Reported (ReportReply.TheVariants.Priced price volume surplus)) = 0
refusal_of (Listed r prices) = get_or (list_numbers r) 0 0

-- the events of a history
unfoldable pub events_of : List AnyCall → List Call
events_of [] = []
events_of (Happens c ∷ vs) = c ∷ events_of vs
events_of (Reports ∷ vs) = events_of vs
events_of (Lists asked lent ∷ vs) = events_of vs

-- a history from an accepted opening: no call of it is refused with 15, report and price list included, and day and book are those of
-- the run of its events, of which `Running` says the rest, and `OnceADay` and `NoHalt` what there is to halts
pub record Told (vs : List AnyCall) (s : Desk) : Type 0 where
  pub never_unsound : Each (λ (x : Seen). refusal_of x ≡ 15 → ⊥) (all_seen present vs s)
  pub ends : after present vs s ≡ run.after (events_of vs) s
  pub running : Running (events_of vs) s
  pub once_a_day : OnceADay (events_of vs) s
  pub limited_none : s.day.limited ≡ 1 → NoHalt (after present vs s).day

-- so a chain that begins with an accepted opening has the answers, trades, day and book of the model's run, and what demand 2 says
-- of the run holds of the chain
pub record FromOpening (D : Door) (m : D.Memory) (ls : List (Link D)) : Type 0 where
  pub runs : Runs D m ls
  pub told : Told (calls_of D ls) (D.desk m)
