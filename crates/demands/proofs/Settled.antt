-- The places of a sound day after trades, and after numbers were issued: each is still free or an order. Assumes nothing.
use Prim.Native.Nat.{ℕ, ◌-◌, ◌≤◌, ◌<◌}
use mathlib.Core.Path.{◌≡◌, refl, ap, ◌∙◌}
use mathlib.Core.Logic.{inl, inr, ⊎_elim}
use mathlib.Core.Bool.{Bool, true, false, cond}
use mathlib.Core.List.{List}
use native.Mathlib.Omega.{arith}
use lib.Dec.{ltb}
use lib.ListN.{length, length-map}
use borrow.Author.Tests.{ltb-true}
use Rattle.model.specs.declared.Order.{Order}
use Rattle.model.specs.declared.Trade.{Trade}
use Rattle.model.specs.declared.Day.{Day}
use Rattle.model.specs.Book.{free}
use Rattle.model.specs.Matching.{filled_of, less_by, settle}
use Rattle.model.specs.Words.{Each}
use Rattle.book.proofs.Lists.{each}
use Rattle.demands.proofs.Elements.{each_map}
use Rattle.soundness.specs.SoundDay.{Rests, Place}

-- the same share, at a later point of the day
pub record Later (d e : Day) : Type 0 where
  pub close : e.close ≡ d.close
  pub limited : e.limited ≡ d.limited
  pub issued : d.issued ≤ e.issued

module _ (d e : Day) (l : Later d e) where
  rests_later : (o : Order) → Rests d o → Rests e o
  rests_later o r =
      record {
        side = r.side;
        account = r.account;
        some = r.some;
        left = r.left;
        price = r.price;
        band = λ n. rw l.close (r.band (λ z. n (l.limited ∙ z)));
        numbered = r.numbered;
        issued = omega (arith, r.issued, l.issued);
      }

  pub places_later : (book : List Order) → Each (Place d) book → Each (Place e) book
  places_later book = each (Place d) (Place e) book (λ o p. ⊎_elim inl (λ r. inr (rests_later o r)) p)

  -- with q shares fewer, some still left
  rests_less :
      (q : ℕ) (o : Order)
      → q < o.left
      → Rests e o
      → Rests e (record { side = o.side; account = o.account; left = o.left - q; price = o.price; number = o.number })
  rests_less q o h r =
      record {
        side = r.side;
        account = r.account;
        some = omega arith;
        left = omega (arith, r.left);
        price = r.price;
        band = r.band;
        numbered = r.numbered;
        issued = r.issued;
      }

  less_place : (q : ℕ) (o : Order) → Place d o → Place e (less_by q o)
  unfolding less_by
  less_place q o p = go (ltb q o.left) refl
    where
      go :
          (b : Bool)
          → ltb q o.left ≡ b
          → Place e (cond b (record { side = o.side; account = o.account; left = o.left - q; price = o.price; number = o.number }) free)
      go true x =
          let h : q < o.left = ltb-true q o.left x in
          ⊎_elim (λ f. absurd (nothing f h)) (λ r. inr (rests_less q o h (rests_later o r))) p
        where
          nothing : o ≡ free → q < o.left → ⊥
          nothing f h = unfold free in let z : o.left ≡ 0 = ap (λ (x : Order). x.left) f in omega arith
      go false x = inl refl

  pub settle_places : (ts : List Trade) (book : List Order) → Each (Place d) book → Each (Place e) (settle ts book)
  unfolding settle
  settle_places ts book p =
      each_map (Place e) (λ (o : Order). less_by (filled_of o.number ts) o) book
      (each (Place d) (λ o. Place e (less_by (filled_of o.number ts) o)) book (λ o h. less_place (filled_of o.number ts) o h) p)

pub settle_length : (ts : List Trade) (book : List Order) → length (settle ts book) ≡ length book
unfolding settle
settle_length ts book = length-map book (λ (o : Order). less_by (filled_of o.number ts) o)
