-- Buyers in turn, among declarations as a sound day holds them: their confirmations name nobody else, and nobody twice.
-- Assumes nothing.
use Prim.Native.Nat.{ℕ, ◌≤◌}
use mathlib.Core.Path.{◌≡◌, refl, sym, ap, ◌∙◌}
use mathlib.Core.Bool.{Bool, true, not, ◌&&◌}
use mathlib.Core.List.{List, ◌∷◌}
use native.Mathlib.Omega.{arith}
use lib.Dec.{eqb}
use borrow.Author.Tests.{eq-eqb, ne_eqb, eqb-true, not-true}
use Rattle.model.specs.declared.Declaration.{Declaration}
use Rattle.model.specs.declared.Trade.{Trade}
use Rattle.model.specs.Lists.{keep, any}
use Rattle.model.specs.Book.{other}
use Rattle.model.specs.Arrival.{is_taken}
use Rattle.model.specs.Matching.{is_in}
use Rattle.model.specs.Blocks.{undeclared, is_held, fits, confirmation, unnamed, in_turn}
use Rattle.model.specs.Words.{Each}
use Rattle.model.proofs.Bools.{and_left, and_right, and_both, not_both}
use Rattle.book.proofs.Lists.{each, both, each_keep, kept}
use Rattle.declarations.specs.Declared.{WellFormed, Declared}
use Rattle.partners.specs.Partners.{is_buyer}
use Rattle.partners.proofs.Line.{Behind, InLine, Own, in_line, line_keep, own_number}
use Rattle.partners.proofs.Naming.{Numbered, Leaves, names_none}
use Rattle.partners.proofs.Turns.{each_in_turn}

pub record Buys (b : Declaration) : Type 0 where
  pub side : b.side ≡ 0
  pub number : b.number ≡ 0 → ⊥
  pub price : 1 ≤ b.price

-- no seller has this number
abbrev pub Unsold : ℕ → Declaration → Type 0
Unsold n s = (s.side ≡ 0 → ⊥) → s.number ≡ n → ⊥

pub buyer_buys : (x : Declaration) → WellFormed x → is_buyer x ≡ true → Buys x
unfolding is_buyer is_held is_taken
buyer_buys x w e =
    let taken : x.number ≡ 0 → ⊥ = λ z. not_both (eq-eqb x.number 0 z) (not-true (eqb x.number 0) (and_left _ _ e)) in
    record {
      side = eqb-true x.side 0 (and_right (not (eqb x.number 0)) _ e);
      number = taken;
      price = w.priced taken;
    }

-- what two that fit have in common
pub record Fitting (x y : Declaration) : Type 0 where
  pub price : x.price ≡ y.price
  pub quantity : x.quantity ≡ y.quantity
  pub agreement : x.agreement ≡ y.agreement
  pub side : x.side ≡ other y.side
  pub counter : x.counter ≡ y.account
  pub account : y.counter ≡ x.account

pub fits_fitting : (x y : Declaration) → fits x y ≡ true → Fitting x y
unfolding fits
fits_fitting x y e =
    let h =
    six
    (eqb x.price y.price)
    (eqb x.quantity y.quantity)
    (eqb x.agreement y.agreement)
    (eqb x.side (other y.side))
    (eqb x.counter y.account)
    (eqb y.counter x.account)
    e in
    record {
      price = eqb-true x.price y.price h.0;
      quantity = eqb-true x.quantity y.quantity h.1;
      agreement = eqb-true x.agreement y.agreement h.2;
      side = eqb-true x.side (other y.side) h.3;
      counter = eqb-true x.counter y.account h.4;
      account = eqb-true y.counter x.account h.5;
    }
  where
    six :
        (a b c d e f : Bool)
        → a && b && c && d && e && f ≡ true
        → (a ≡ true) × (b ≡ true) × (c ≡ true) × (d ≡ true) × (e ≡ true) × (f ≡ true)
    six a b c d e f h =
        let h5 = and_left (a && b && c && d && e) f h in
        let h4 = and_left (a && b && c && d) e h5 in
        let h3 = and_left (a && b && c) d h4 in
        let h2 = and_left (a && b) c h3 in
        (and_left a b h2, and_right a b h2, and_right (a && b) c h3, and_right (a && b && c) d h4, and_right (a && b && c && d) e h5, and_right (a && b && c && d && e) f h)

pub fitting_fits : {x y : Declaration} → Fitting x y → fits x y ≡ true
unfolding fits
fitting_fits {x} {y} f =
    and_both
    (and_both
    (and_both
    (and_both (and_both (eq-eqb x.price y.price f.price) (eq-eqb x.quantity y.quantity f.quantity))
    (eq-eqb x.agreement y.agreement f.agreement))
    (eq-eqb x.side (other y.side) f.side))
    (eq-eqb x.counter y.account f.counter))
    (eq-eqb y.counter x.account f.account)

pub other_buyer : (side : ℕ) → side ≡ 0 → other side ≡ 1
unfolding other
other_buyer side e = rw (eq-eqb side 0 e)

pub other_seller : (side : ℕ) → (side ≡ 0 → ⊥) → other side ≡ 0
unfolding other
other_seller side n = rw (ne_eqb side 0 n)

-- a free place
pub free_side : undeclared.side ≡ 0
free_side = unfold undeclared in refl

pub free_price : undeclared.price ≡ 0
free_price = unfold undeclared in refl

-- whoever fits a buyer sells, and has a number
pub fits_seller : (b s : Declaration) → Buys b → fits b s ≡ true → s.side ≡ 0 → ⊥
fits_seller b s h e z =
    omega (arith, h.side, (fits_fitting b s e).side, other_buyer s.side z)

pub fits_numbered : (b s : Declaration) → Buys b → WellFormed s → fits b s ≡ true → s.number ≡ 0 → ⊥
fits_numbered b s h w e z =
    let none : s.price ≡ undeclared.price = ap (λ (x : Declaration). x.price) (w.none z) in
    omega (arith, h.price, (fits_fitting b s e).price, none ∙ free_price)

-- buyers, and those among whom each finds its earliest
pub record Turning (bs held : List Declaration) : Type 0 where
  pub buys : Each Buys bs
  pub line : InLine bs
  pub apart : Each (λ s. Each (λ b. Unsold b.number s) bs) held
  pub formed : Each WellFormed held

pub turning_numbered : (bs held : List Declaration) → Each Buys bs → Each WellFormed held → Each Numbered (in_turn bs held)
turning_numbered bs held p w =
    each_in_turn Buys WellFormed Numbered
    (λ b s p q e. unfold confirmation in record { buyer = p.number; seller = fits_numbered b s p q e })
    bs held p w

-- a number that no buyer of them has, and no seller
pub turning_leaves :
    (n : ℕ) (bs held : List Declaration)
    → Each Buys bs
    → Each (λ b. b.number ≡ n → ⊥) bs
    → Each (Unsold n) held
    → Each (Leaves n) (in_turn bs held)
turning_leaves n bs held p d q =
    each_in_turn (λ b. Buys b × (b.number ≡ n → ⊥)) (Unsold n) (Leaves n)
    (λ b s f g e. unfold confirmation in names_none n (confirmation b s) f.1 (g (fits_seller b s f.0 e)))
    bs held (both Buys _ _ bs (λ b f g. (f, g)) p d) q

-- the next buyer, among the same or among fewer
pub turning_skip : {b : Declaration} {bs held : List Declaration} → Turning (b ∷ bs) held → Turning bs held
turning_skip {b} {bs} {held} t =
    record {
      buys = t.buys.1;
      line = t.line.1;
      apart = each (λ s. Each (λ c. Unsold c.number s) (b ∷ bs)) (λ s. Each (λ c. Unsold c.number s) bs) held (λ s h. h.1) t.apart;
      formed = t.formed;
    }

pub turning_less : {bs held : List Declaration} (ts : List Trade) → Turning bs held → Turning bs (unnamed ts held)
unfolding unnamed
turning_less {bs} {held} ts t =
    record {
      buys = t.buys;
      line = t.line;
      apart = each_keep (λ s. Each (λ c. Unsold c.number s) bs) (λ x. not (any (is_in x.number) ts)) held t.apart;
      formed = each_keep WellFormed (λ x. not (any (is_in x.number) ts)) held t.formed;
    }

-- a buyer that stands in front has another number than those behind it
pub others_number : (b : Declaration) (bs : List Declaration) → Buys b → Each Buys bs → Each (Behind b) bs → Each (λ c. c.number ≡ b.number → ⊥) bs
others_number b bs p q l =
    both Buys (Behind b) _ bs (λ c f g e. let h = g f.number in omega (arith, h.1)) q l

-- what a sound day holds
module _ (held : List Declaration) (d : Declared held) where
  pub held_line : InLine held
  held_line = in_line held d.arrived

  pub held_turning : Turning (keep is_buyer held) held
  held_turning =
      record {
        buys = buys;
        line = line_keep is_buyer held held_line;
        apart =
            each (λ s. Each (Own s) held) (λ s. Each (λ b. Unsold b.number s) (keep is_buyer held)) held
            (λ s o.
            both Buys (Own s) (λ b. Unsold b.number s) (keep is_buyer held)
            (λ b p h n e. n (ap (λ (x : Declaration). x.side) (sym (h (λ z. p.number (sym e ∙ z)) (sym e))) ∙ p.side))
            buys (each_keep (Own s) is_buyer held o))
            (own_number held held_line);
        formed = d.formed;
      }
    where
      buys : Each Buys (keep is_buyer held)
      buys =
          both (λ x. is_buyer x ≡ true) WellFormed Buys (keep is_buyer held) (λ x e w. buyer_buys x w e)
          (kept is_buyer held) (each_keep WellFormed is_buyer held d.formed)
