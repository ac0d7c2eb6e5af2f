-- Orders arranged in a book: each of them stands there and nobody else does, and where they make up a sound day so does the
-- book. Assumes nothing.
use Prim.Native.Nat.{ℕ, ◌+◌, ◌≤◌}
use mathlib.Core.Path.{◌≡◌, refl, ◌∙◌}
use mathlib.Core.Logic.{inl, inr}
use mathlib.Core.Bool.{true}
use mathlib.Core.List.{List, ◌++◌}
use native.Mathlib.Omega.{arith}
use lib.ListN.{length, replicate}
use Rattle.model.specs.declared.Order.{Order}
use Rattle.model.specs.declared.Day.{Day}
use Rattle.model.specs.Book.{free, stands_on, queue, arranged}
use Rattle.model.specs.Sound.{has_places}
use Rattle.model.specs.Words.{Each, Some, Ordered}
use Rattle.book.specs.Standing.{Fair, Standing}
use Rattle.book.proofs.Lists.{both, each, at_each}
use Rattle.book.proofs.Queues.{Place as Side, place_of}
use Rattle.book.proofs.Best.{each_on}
use Rattle.book.proofs.Kept.{free_left}
use Rattle.book.proofs.Parts.{spare_in, arranged_is}
use Rattle.book.proofs.Arranging.{each_arranged, arranged_length, arranged_stands, arranged_ranked, arranged_crosses, total_arranged}
use Rattle.soundness.specs.SoundDay.{Place, HaltDay, EveningDay}
use Rattle.soundness.proofs.SoundDays.{few_places}
use Rattle.demands.specs.Owning.{StandsOnce}
use Rattle.demands.proofs.Elements.{some_left, some_right, some_at, each_some}
use Rattle.demands.proofs.Places.{stands_once}
use Rattle.demands.proofs.Wholes.{Whole, Timely, whole_stands, sound_of}
use Rattle.demands.proofs.BeforeScreens.{BeforeScreen}

-- ---- who stands there

module _ (n : ℕ) (os : List Order) (s : Standing os) (fit : length (queue 0 os) + length (queue 1 os) ≤ n) where
  abbrev There : Order → Type 0
  There o = Some (λ (p : Order). p ≡ o) (arranged n os)

  -- each element is one of the list
  each_itself : (xs : List Order) → Each (λ (o : Order). Some (λ (p : Order). p ≡ o) xs) xs
  each_itself xs = at_each (λ (o : Order). Some (λ (p : Order). p ≡ o) xs) xs free (some_at xs free)

  buys_there : Each (λ (o : Order). stands_on 0 o ≡ true → There o) os
  buys_there =
      each_on There 0 os
      (each (λ (o : Order). Some (λ (p : Order). p ≡ o) (queue 0 os)) There (queue 0 os)
      (λ o h. rw (arranged_is n os fit) (some_left (λ (p : Order). p ≡ o) (queue 0 os) (queue 1 os ++ replicate (spare_in n os fit) free) h))
      (each_itself (queue 0 os)))

  sells_there : Each (λ (o : Order). stands_on 1 o ≡ true → There o) os
  sells_there =
      each_on There 1 os
      (each (λ (o : Order). Some (λ (p : Order). p ≡ o) (queue 1 os)) There (queue 1 os)
      (λ o h.
      rw (arranged_is n os fit)
      (some_right (λ (p : Order). p ≡ o) (queue 0 os) (queue 1 os ++ replicate (spare_in n os fit) free)
      (some_left (λ (p : Order). p ≡ o) (queue 1 os) (replicate (spare_in n os fit) free) h)))
      (each_itself (queue 1 os)))

  -- each order stands in the book, on its side
  each_there : Each (λ (o : Order). (o.number ≡ 0 → ⊥) → There o) os
  each_there =
      both Fair (λ (o : Order). (stands_on 0 o ≡ true → There o) × (stands_on 1 o ≡ true → There o))
      (λ (o : Order). (o.number ≡ 0 → ⊥) → There o)
      os (λ o f h live. go o live h (place_of o f)) s.fair
      (both (λ (o : Order). stands_on 0 o ≡ true → There o) (λ (o : Order). stands_on 1 o ≡ true → There o)
      (λ (o : Order). (stands_on 0 o ≡ true → There o) × (stands_on 1 o ≡ true → There o)) os (λ o b s. (b, s)) buys_there sells_there)
    where
      go :
          (o : Order)
          → (o.number ≡ 0 → ⊥)
          → (stands_on 0 o ≡ true → There o) × (stands_on 1 o ≡ true → There o)
          → Side o
          → There o
      go o live h (inl k) = h.0 k.0
      go o live h (inr (inl k)) = h.1 k.1
      go o live h (inr (inr k)) = absurd (live k.2)

  pub stands_there : (x : Order) → (x.number ≡ 0 → ⊥) → Some (λ (p : Order). p ≡ x) os → StandsOnce x (arranged n os)
  stands_there x live h =
      stands_once (arranged n os) (arranged_stands n os s fit).apart x live
      (each_some (λ (o : Order). (o.number ≡ 0 → ⊥) → There o) os x each_there h live)

-- ---- a sound day

module _ (d : Day) (n : ℕ) (os : List Order) (w : Whole d os) (fit : length (queue 0 os) + length (queue 1 os) ≤ n) where
  stands : Standing os
  stands = whole_stands d os w

  pub arranged_whole : Whole d (arranged n os)
  arranged_whole =
      record {
        close = w.close;
        limited = w.limited;
        issued = w.issued;
        places = each_arranged (Place d) n os (inl refl) w.places;
        apart = (arranged_stands n os stands fit).apart;
        shares = omega (arith, w.shares, total_arranged n os stands fit (λ (o : Order). o.left) free_left);
        figures = w.figures;
      }

  pub arranged_ordered : n ≤ 4_096 → Ordered (arranged n os)
  arranged_ordered few = (arranged_ranked n os stands fit few).ordered

  arranged_timely : (t halt : ℕ) → Timely t halt os → Timely t halt (arranged n os)
  arranged_timely t halt h =
      record {
        time = h.time;
        early = λ l. each_arranged (λ o. o ≡ free) n os refl (h.early l);
        late = λ l. each_arranged (λ o. o ≡ free) n os refl (h.late l);
        uncrossed = λ a b z. arranged_crosses n os stands fit ∙ h.uncrossed a b z;
      }

-- as many places as before
pub arranged_many :
    (book os : List Order)
    → has_places book ≡ true
    → has_places (arranged (length book) os) ≡ true
unfolding has_places
arranged_many book os e = rw (arranged_length (length book) os) e

pub arranged_before :
    (d : Day) (book os : List Order)
    → has_places book ≡ true
    → Whole d os
    → Timely d.time d.halt os
    → HaltDay d
    → EveningDay d
    → length (queue 0 os) + length (queue 1 os) ≤ length book
    → BeforeScreen d (arranged (length book) os)
arranged_before d book os many w t halt evening fit =
    let n = length book in
    record {
      places = arranged_many book os many;
      day = sound_of d (arranged n os) (arranged_whole d n os w fit) (arranged_timely d n os w fit d.time d.halt t);
      ordered = arranged_ordered d n os w fit (few_places book many);
      halt = halt;
      evening = evening;
    }
