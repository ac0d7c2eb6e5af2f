-- The confirmations as pairs of a buyer and a seller: of those that are held the buyers come in turn, and the sellers leave.
-- Assumes nothing.
use Rattle.std.specs.Prelude.{if◌then◌else◌}
use Prim.Native.Nat.{ℕ}
use mathlib.Core.Path.{◌≡◌, refl, sym, ap, ◌∙◌}
use mathlib.Core.Bool.{Bool, true, false, not, ◌&&◌, ◌||◌}
use mathlib.Core.List.{List, [], ◌∷◌, ◌++◌, map, map-append}
use native.Mathlib.Omega.{arith}
use lib.Dec.{eqb}
use borrow.Author.Tests.{eq-eqb, ne_eqb, eqb-true, not-true}
use Rattle.model.specs.declared.Declaration.{Declaration}
use Rattle.model.specs.declared.Trade.{Trade}
use Rattle.model.specs.Lists.{keep, any}
use Rattle.model.specs.Arrival.{is_taken}
use Rattle.model.specs.Matching.{is_in}
use Rattle.model.specs.Blocks.{is_held, fits, confirmation, with_earliest, unnamed, in_turn, confirmations}
use Rattle.model.specs.Words.{Each}
use Rattle.model.proofs.Bools.{and_left, and_right, and_both, not_both}
use Rattle.book.proofs.Lists.{each, both, kept, each_keep, keep_true, keep_false, keep_all, keep_keep, keep_same, every}
use Rattle.declarations.specs.Declared.{WellFormed, Declared}
use Rattle.partners.specs.Partners.{is_buyer}
use Rattle.partners.specs.Places.{is_on}
use Rattle.partners.proofs.Tests.{none_any, each_map}
use Rattle.partners.proofs.Line.{Behind, InLine, line_keep}
use Rattle.partners.proofs.Naming.{Leaves, names_none}
use Rattle.partners.proofs.Buyers.{Buys, Unsold, Turning, fits_seller, fits_numbered, turning_skip, turning_less, held_line, held_turning}
use Rattle.partners.proofs.Pairs.{Pair, Both, each_picked, picked, rest, paired, picks_this, picks_further, rest_this, rest_further}

abbrev pub trade_of : Pair → Trade
trade_of p = confirmation p.buyer p.seller

abbrev pub is_seller : Declaration → Bool
is_seller x = is_on 1 x

pub record Sells (s : Declaration) : Type 0 where
  pub side : s.side ≡ 0 → ⊥
  pub number : s.number ≡ 0 → ⊥

pub seller_sells : (x : Declaration) → is_seller x ≡ true → Sells x
unfolding is_on is_held is_taken
seller_sells x e =
    record {
      side = λ z. omega (arith, z, eqb-true x.side 1 (and_right (not (eqb x.number 0)) _ e));
      number = λ z. not_both (eq-eqb x.number 0 z) (not-true (eqb x.number 0) (and_left _ _ e));
    }

-- whoever fits a buyer is one of the sellers
fits_is_seller : (b x : Declaration) → Buys b → WellFormed x → fits b x ≡ true → is_seller x ≡ true
unfolding is_on is_held is_taken
fits_is_seller b x p w f =
    let one : x.side ≡ 1 = seller_side (fits_seller b x p f) in
    and_both (ap not (ne_eqb x.number 0 (fits_numbered b x p w f))) (eq-eqb x.side 1 one)
  where
    seller_side : (x.side ≡ 0 → ⊥) → x.side ≡ 1
    seller_side n = omega (arith, w.side)

earliest_picked :
    (b : Declaration) (held : List Declaration)
    → Buys b
    → Each WellFormed held
    → with_earliest b held ≡ map trade_of (picked b (keep is_seller held))
unfolding with_earliest
earliest_picked b [] p w = unfold keep picked in refl
earliest_picked b (x ∷ held) p w = go (fits b x) refl (is_seller x) refl (earliest_picked b held p w.1)
  where
    go :
        (t : Bool)
        → fits b x ≡ t
        → (u : Bool)
        → is_seller x ≡ u
        → with_earliest b held ≡ map trade_of (picked b (keep is_seller held))
        → (if t then confirmation b x ∷ [] else with_earliest b held) ≡ map trade_of (picked b (keep is_seller (x ∷ held)))
    go true f true g h =
        sym
        (ap (λ (l : List Declaration). map trade_of (picked b l)) (keep_true is_seller x held g)
        ∙ ap (map trade_of) (picks_this b x (keep is_seller held) f))
    go true f false g h = absurd (not_both (fits_is_seller b x p w.0 f) g)
    go false f true g h =
        h
        ∙ sym
        (ap (λ (l : List Declaration). map trade_of (picked b l)) (keep_true is_seller x held g)
        ∙ ap (map trade_of) (picks_further b x (keep is_seller held) f))
    go false f false g h = h ∙ sym (ap (λ (l : List Declaration). map trade_of (picked b l)) (keep_false is_seller x held g))

-- ---- those that are left

sellers_left : (ts : List Trade) (held : List Declaration) → keep is_seller (unnamed ts held) ≡ unnamed ts (keep is_seller held)
unfolding unnamed
sellers_left ts held =
    keep_keep is_seller left held
    ∙ keep_same (λ x. left x && is_seller x) (λ x. is_seller x && left x) held (every _ held (λ x. swap (left x) (is_seller x)))
    ∙ sym (keep_keep left is_seller held)
  where
    left : Declaration → Bool
    left x = not (any (is_in x.number) ts)

    swap : (a b : Bool) → a && b ≡ b && a
    swap true true = refl
    swap true false = refl
    swap false true = refl
    swap false false = refl

-- who is named, and who is not
out_by_one : (t : Trade) (n : ℕ) → t.seller ≡ n → not (any (is_in n) (t ∷ [])) ≡ false
unfolding any is_in
out_by_one t n e = ap not (ap (λ (b : Bool). (eqb t.buyer n || b) || false) (eq-eqb t.seller n e) ∙ either (eqb t.buyer n))
  where
    either : (a : Bool) → (a || true) || false ≡ true
    either true = refl
    either false = refl

left_by_all : (ts : List Trade) (n : ℕ) → Each (Leaves n) ts → not (any (is_in n) ts) ≡ true
left_by_all ts n e = ap not (none_any (is_in n) ts e)

picked_leaves :
    (b : Declaration) (ss : List Declaration)
    → InLine ss
    → Each Sells ss
    → Each (Unsold b.number) ss
    → unnamed (map trade_of (picked b ss)) ss ≡ rest b ss
unfolding unnamed
picked_leaves b [] l p u = unfold rest keep in refl
picked_leaves b (s ∷ ss) l p u = go (fits b s) refl (picked_leaves b ss l.1 p.1 u.1)
  where
    left : List Trade → Declaration → Bool
    left ts x = not (any (is_in x.number) ts)

    -- the others have other numbers than s and than b
    other_than_s : Each (λ r. r.number ≡ s.number → ⊥) ss
    other_than_s =
        both Sells (Behind s) (λ r. r.number ≡ s.number → ⊥) ss
        (λ r q h e. let k = h q.number in omega (arith, k.1)) p.1 l.0

    other_than_b : Each (λ r. r.number ≡ b.number → ⊥) ss
    other_than_b = both Sells (Unsold b.number) (λ r. r.number ≡ b.number → ⊥) ss (λ r q h. h q.side) p.1 u.1

    others_left : Each (λ r. left (confirmation b s ∷ []) r ≡ true) ss
    others_left =
        both (λ r. r.number ≡ s.number → ⊥) (λ r. r.number ≡ b.number → ⊥) _ ss
        (λ r g h.
        left_by_all (confirmation b s ∷ []) r.number
        (unfold confirmation in names_none r.number (confirmation b s) (λ e. h (sym e)) (λ e. g (sym e)), tt))
        other_than_s other_than_b

    s_left : Each (Leaves s.number) (map trade_of (picked b ss))
    s_left =
        each_map trade_of (Leaves s.number) (picked b ss)
        (each (Both (λ x. x.number ≡ s.number → ⊥) (λ r. r.number ≡ s.number → ⊥)) _ (picked b ss)
        (λ q h. unfold confirmation in names_none s.number (trade_of q) h.0 h.1)
        (each_picked (λ x. x.number ≡ s.number → ⊥) (λ r. r.number ≡ s.number → ⊥) b ss (λ e. u.0 p.0.side (sym e)) other_than_s))

    go :
        (t : Bool)
        → fits b s ≡ t
        → keep (left (map trade_of (picked b ss))) ss ≡ rest b ss
        → keep (left (map trade_of (picked b (s ∷ ss)))) (s ∷ ss) ≡ rest b (s ∷ ss)
    go true f h =
        ap (λ (ps : List Pair). keep (left (map trade_of ps)) (s ∷ ss)) (picks_this b s ss f)
        ∙ keep_false (left (confirmation b s ∷ [])) s ss (unfold confirmation in out_by_one (confirmation b s) s.number refl)
        ∙ keep_all (left (confirmation b s ∷ [])) ss others_left
        ∙ sym (rest_this b s ss f)
    go false f h =
        ap (λ (ps : List Pair). keep (left (map trade_of ps)) (s ∷ ss)) (picks_further b s ss f)
        ∙ keep_true (left (map trade_of (picked b ss))) s ss (left_by_all (map trade_of (picked b ss)) s.number s_left)
        ∙ ap (λ (l : List Declaration). s ∷ l) h
        ∙ sym (rest_further b s ss f)

-- ---- one buyer after the other

pub in_turn_pairs :
    (bs held : List Declaration) → Turning bs held → InLine held → in_turn bs held ≡ map trade_of (paired bs (keep is_seller held))
unfolding in_turn paired
in_turn_pairs [] held t l = refl
in_turn_pairs (b ∷ bs) held t l =
    let ts : List Trade = with_earliest b held in
    ap (λ (us : List Trade). ts ++ us) (in_turn_pairs bs (unnamed ts held) (turning_less ts (turning_skip t)) (left_line ts))
    ∙ ap (λ (ss : List Declaration). ts ++ map trade_of (paired bs ss)) (sellers_left ts held ∙ gone)
    ∙ ap (λ (us : List Trade). us ++ map trade_of (paired bs (rest b (keep is_seller held)))) now
    ∙ sym (map-append trade_of (picked b (keep is_seller held)) (paired bs (rest b (keep is_seller held))))
  where
    now : with_earliest b held ≡ map trade_of (picked b (keep is_seller held))
    now = earliest_picked b held t.buys.0 t.formed

    left_line : (ts : List Trade) → InLine (unnamed ts held)
    left_line ts = unfold unnamed in line_keep (λ x. not (any (is_in x.number) ts)) held l

    sells : Each Sells (keep is_seller held)
    sells = each (λ x. is_seller x ≡ true) Sells (keep is_seller held) (λ x e. seller_sells x e) (kept is_seller held)

    unsold : Each (Unsold b.number) (keep is_seller held)
    unsold =
        each_keep (Unsold b.number) is_seller held
        (each (λ s. Each (λ c. Unsold c.number s) (b ∷ bs)) (Unsold b.number) held (λ s h. h.0) t.apart)

    gone : unnamed (with_earliest b held) (keep is_seller held) ≡ rest b (keep is_seller held)
    gone =
        ap (λ (ts : List Trade). unnamed ts (keep is_seller held)) now
        ∙ picked_leaves b (keep is_seller held) (line_keep is_seller held l) sells unsold

pub confirmed_pairs : (held : List Declaration) → Declared held → confirmations held ≡ map trade_of (paired (keep is_buyer held) (keep is_seller held))
unfolding confirmations is_buyer
confirmed_pairs held d = in_turn_pairs (keep is_buyer held) held (held_turning held d) (held_line held d)
