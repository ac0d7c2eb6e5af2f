-- A slate has a number for each place: what is still to be filled of the order there. It starts with the grants, each claim takes its
-- shares off two of them, and a list of claims is right where it leaves nothing.
use Rattle.std.specs.Prelude.{ℕ, ◌-◌, ◌<◌, min, ◌≡◌, ◌↔◌, Bool, true, false, not, ◌&&◌, List, [], ◌∷◌, length, get_or, leb, eqb, if◌then◌else◌}
use Rattle.model.specs.declared.Order.{Order}
use Rattle.model.specs.Book.{free, is_live}
use Rattle.model.specs.Auction.{volume}
use Rattle.model.specs.Words.{Each}
use Rattle.judge.specs.declared.Claim.{Claim}
use Rattle.judging.specs.declared.Volumes.{Volumes}
use Rattle.judge.specs.Judging.{claimed_for}
use Rattle.judge.specs.Verdicts.{Joins}

-- ---- the grants, along a book in order

unfoldable pub volume_of : ℕ → Volumes → ℕ
volume_of side v = if eqb side 0 then v.buys else v.sells

-- the next order of a side gets what it has, up to what is left of the volume
unfoldable pub grant_of : Volumes → Order → ℕ
grant_of v o = if is_live o then min (volume_of o.side v) o.left else 0

-- and those behind it what is left then
unfoldable pub volumes_past : Volumes → Order → Volumes
volumes_past v o =
    if is_live o
    then
    (if eqb o.side 0
    then record { buys = v.buys - o.left; sells = v.sells }
    else record { buys = v.buys; sells = v.sells - o.left })
    else v

unfoldable pub grants_by : Volumes → List Order → List ℕ
grants_by v [] = []
grants_by v (o ∷ os) = grant_of v o ∷ grants_by (volumes_past v o) os

-- at a price
unfoldable pub grants_at : ℕ → List Order → List ℕ
grants_at p book = grants_by (record { buys = volume book p; sells = volume book p }) book

-- ---- the claims

-- what is claimed for a place: nothing for a free one
unfoldable pub claimed_at : List Claim → Order → ℕ
claimed_at cs o = if is_live o then claimed_for o cs else 0

-- claims that a slate asks for: each joins, and each place is claimed what the slate has there
pub record Settles (book : List Order) (slate : List ℕ) (cs : List Claim) : Type 0 where
  pub joined : Each (Joins book) cs
  pub filled : (j : ℕ) → j < length book → claimed_at cs (get_or book j free) ≡ get_or slate j 0

-- whether the order at a place, counted from 1, is of this side, and so many shares of it are still to be filled
unfoldable pub may_fill : ℕ → ℕ → List Order → List ℕ → ℕ → Bool
may_fill side q book slate at =
    not (eqb at 0) && (eqb (get_or book (at - 1) free).side side && leb q (get_or slate (at - 1) 0))

-- a claim that was taken off a slate, or was not: then no list that starts with it is right
pub record Taken (book : List Order) (slate : List ℕ) (c : Claim) (r : Bool) (slate' : List ℕ) : Type 0 where
  pub no : r ≡ false → (cs : List Claim) → Settles book slate (c ∷ cs) → ⊥
  pub yes : r ≡ true → (cs : List Claim) → Settles book slate (c ∷ cs) ↔ Settles book slate' cs
  pub long : length slate' ≡ length slate
