-- What the tests of the declarations give, place by place and together, and back: a declaration stays well formed as more numbers
-- are issued.
use Prim.Native.Nat.{◌*◌, ◌≤◌}
use mathlib.Core.Path.{◌≡◌, refl, ap, ◌∙◌}
use mathlib.Core.Bool.{Bool, true, false, not, ◌&&◌, ◌||◌}
use mathlib.Core.List.{List}
use native.Mathlib.Omega.{arith}
use lib.ListN.{length}
use lib.Dec.{leb, eqb}
use borrow.Author.Tests.{leb-true, eqb-true}
use Rattle.model.specs.declared.Declaration.{Declaration}
use Rattle.model.specs.declared.Day.{Day}
use Rattle.model.specs.Lists.{all}
use Rattle.model.specs.Limits.{is_price, in_band}
use Rattle.model.specs.Arrival.{in_arrival}
use Rattle.model.specs.Sound.{has_places, blocks_fit}
use Rattle.model.specs.Blocks.{undeclared, is_block}
use Rattle.model.specs.SoundBlocks.{is_undeclared, is_declaration}
use Rattle.model.proofs.Bools.{and_left, and_right}
use Rattle.book.proofs.Lists.{each}
use Rattle.declarations.specs.Declared.{WellFormed, Declared}
use Rattle.held.proofs.Walks.{all_each}

-- ---- one place

abbrev pub is_formed : Day → Declaration → Bool
is_formed d x = is_undeclared x || is_declaration d x

pub none_declared : (x : Declaration) → is_undeclared x ≡ true → x ≡ undeclared
unfolding is_undeclared undeclared
none_declared x e =
    let e6 = and_left _ _ e in
    let e5 = and_left _ _ e6 in
    let e4 = and_left _ _ e5 in
    let e3 = and_left _ _ e4 in
    let e2 = and_left _ _ e3 in
    rw
    (eqb-true x.side 0 (and_left _ _ e2), eqb-true x.account 0 (and_right (eqb x.side 0) _ e2), eqb-true x.counter 0 (and_right (eqb x.side 0 && eqb x.account 0) _ e3), eqb-true x.quantity 0 (and_right (eqb x.side 0 && eqb x.account 0 && eqb x.counter 0) _ e4), eqb-true x.price 0 (and_right (eqb x.side 0 && eqb x.account 0 && eqb x.counter 0 && eqb x.quantity 0) _ e5), eqb-true x.agreement 0 (and_right (eqb x.side 0 && eqb x.account 0 && eqb x.counter 0 && eqb x.quantity 0 && eqb x.price 0) _ e6), eqb-true x.number 0 (and_right (eqb x.side 0 && eqb x.account 0 && eqb x.counter 0 && eqb x.quantity 0 && eqb x.price 0 && eqb x.agreement 0) _ e))

-- a declaration, test by test
pub record Tested (d : Day) (x : Declaration) : Type 0 where
  pub side : leb x.side 1 ≡ true
  pub account : not (eqb x.account 0) ≡ true
  pub counter : not (eqb x.counter 0) ≡ true
  pub limited : eqb d.limited 1 ≡ true
  pub price : is_price x.price ≡ true
  pub size : is_block x.price x.quantity ≡ true
  pub band : in_band d.close x.price ≡ true
  pub numbered : leb 1 x.number ≡ true
  pub issued : leb x.number d.blocks.issued ≡ true

pub tests : (d : Day) (x : Declaration) → is_declaration d x ≡ true → Tested d x
unfolding is_declaration
tests d x e =
    go
    (leb x.side 1)
    (not (eqb x.account 0))
    (not (eqb x.counter 0))
    (eqb d.limited 1)
    (is_price x.price)
    (is_block x.price x.quantity)
    (in_band d.close x.price)
    (leb 1 x.number)
    (leb x.number d.blocks.issued)
    refl refl refl refl refl refl refl refl refl e
  where
    go :
        (a b c l p s n m i : Bool)
        → leb x.side 1 ≡ a
        → not (eqb x.account 0) ≡ b
        → not (eqb x.counter 0) ≡ c
        → eqb d.limited 1 ≡ l
        → is_price x.price ≡ p
        → is_block x.price x.quantity ≡ s
        → in_band d.close x.price ≡ n
        → leb 1 x.number ≡ m
        → leb x.number d.blocks.issued ≡ i
        → a && b && c && l && p && s && n && m && i ≡ true
        → Tested d x
    go a b c l p s n m i ea eb ec el ep es en em ei h =
        let h8 = and_left (a && b && c && l && p && s && n && m) i h in
        let h7 = and_left (a && b && c && l && p && s && n) m h8 in
        let h6 = and_left (a && b && c && l && p && s) n h7 in
        let h5 = and_left (a && b && c && l && p) s h6 in
        let h4 = and_left (a && b && c && l) p h5 in
        let h3 = and_left (a && b && c) l h4 in
        let h2 = and_left (a && b) c h3 in
        record {
          side = ea ∙ and_left a b h2;
          account = eb ∙ and_right a b h2;
          counter = ec ∙ and_right (a && b) c h3;
          limited = el ∙ and_right (a && b && c) l h4;
          price = ep ∙ and_right (a && b && c && l) p h5;
          size = es ∙ and_right (a && b && c && l && p) s h6;
          band = en ∙ and_right (a && b && c && l && p && s) n h7;
          numbered = em ∙ and_right (a && b && c && l && p && s && n) m h8;
          issued = ei ∙ and_right (a && b && c && l && p && s && n && m) i h;
        }

pub tested : {d : Day} {x : Declaration} → Tested d x → is_declaration d x ≡ true
unfolding is_declaration
tested t = rw (t.side, t.account, t.counter, t.limited, t.price, t.size, t.band, t.numbered, t.issued)

-- as plain facts
module _ {d : Day} {x : Declaration} (t : Tested d x) where
  pub tested_side : x.side ≤ 1
  tested_side = leb-true x.side 1 t.side

  pub tested_quantity : x.quantity ≤ 100_000_000
  unfolding is_block
  tested_quantity =
      leb-true x.quantity 100_000_000
      (and_right (leb 100_000 x.quantity || leb 100_000_000 (x.price * x.quantity)) (leb x.quantity 100_000_000) t.size)

  pub tested_price : (1 ≤ x.price) × (x.price ≤ 999_999)
  unfolding is_price
  tested_price = (
    leb-true 1 x.price (and_left (leb 1 x.price) (leb x.price 999_999) t.price),
    leb-true x.price 999_999 (and_right (leb 1 x.price) (leb x.price 999_999) t.price),
  )

  pub tested_number : (1 ≤ x.number) × (x.number ≤ d.blocks.issued)
  tested_number = (leb-true 1 x.number t.numbered, leb-true x.number d.blocks.issued t.issued)

  pub tested_formed : d.blocks.issued ≤ 999_999 → WellFormed x
  tested_formed h =
      record {
        side = tested_side;
        quantity = tested_quantity;
        price = tested_price.1;
        number = omega (arith, tested_number.1);
        none = λ z. absurd (omega (arith, tested_number.0));
        priced = λ _. tested_price.0;
      }

pub free_formed : WellFormed undeclared
unfolding undeclared
free_formed =
    record {
      side = omega arith;
      quantity = omega arith;
      price = omega arith;
      number = omega arith;
      none = λ _. refl;
      priced = λ n. absurd (n refl);
    }

pub well_formed : (d : Day) (x : Declaration) → d.blocks.issued ≤ 999_999 → is_formed d x ≡ true → WellFormed x
well_formed d x h e = go (is_undeclared x) refl e
  where
    go : (b : Bool) → is_undeclared x ≡ b → b || is_declaration d x ≡ true → WellFormed x
    go true f _ = rw (none_declared x f) free_formed
    go false f g = tested_formed (tests d x g) h

pub formed_number : (d : Day) (x : Declaration) → is_formed d x ≡ true → x.number ≤ d.blocks.issued
formed_number d x e = go (is_undeclared x) refl e
  where
    zero_number : undeclared.number ≡ 0
    zero_number = unfold undeclared in refl

    go : (b : Bool) → is_undeclared x ≡ b → b || is_declaration d x ≡ true → x.number ≤ d.blocks.issued
    go true f _ = omega (arith, ap (λ (y : Declaration). y.number) (none_declared x f) ∙ zero_number)
    go false f g = (tested_number (tests d x g)).1

-- ---- all places

pub declared :
    (d : Day) (held : List Declaration)
    → blocks_fit d ≡ true
    → has_places held ≡ true
    → all (λ x. is_undeclared x || is_declaration d x) held ≡ true
    → in_arrival (λ x. x.number) held ≡ true
    → Declared held
unfolding blocks_fit has_places
declared d held b h a r =
    let issued : d.blocks.issued ≤ 999_999 = leb-true d.blocks.issued 999_999 (and_left _ _ b) in
    record {
      formed = each (λ x. is_formed d x ≡ true) WellFormed held (λ x. well_formed d x issued) (all_each (is_formed d) held a);
      arrived = r;
      few = leb-true (length held) 4_096 (and_right (leb 1 (length held)) (leb (length held) 4_096) h);
    }

pub some_places : {A : Type 0} (xs : List A) → has_places xs ≡ true → 1 ≤ length xs
unfolding has_places
some_places xs h = leb-true 1 (length xs) (and_left (leb 1 (length xs)) (leb (length xs) 4_096) h)
