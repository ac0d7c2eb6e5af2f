-- One turn: a buyer is joined with the earliest that fits of those still there. The two are the partners for either of them, neither
-- was named before, and what is left stands as before the next turn. Assumes nothing.
use Prim.Native.Nat.{ℕ, ◌+◌, ◌*◌, ◌≤◌, ◌<◌}
use mathlib.Core.Path.{◌≡◌, refl, sym, ap, ◌∙◌, subst}
use mathlib.Core.Logic.{inl, inr, ⊎_elim}
use mathlib.Core.Bool.{Bool, true, false, ◌&&◌, ◌||◌, or-true}
use mathlib.Core.List.{List, [], ◌∷◌, ◌++◌, append_assoc}
use native.Mathlib.Omega.{arith}
use lib.ListN.{length}
use lib.Dec.{eqb}
use borrow.Author.Tests.{eqb-true, eq-eqb, ne_eqb}
use Rattle.model.specs.declared.Declaration.{Declaration}
use Rattle.model.specs.declared.Trade.{Trade}
use Rattle.model.specs.Lists.{keep, any, total}
use Rattle.model.specs.Matching.{is_in, filled}
use Rattle.model.specs.Blocks.{is_held, fits, confirmation, unnamed}
use Rattle.model.specs.Words.{Each, Some}
use Rattle.model.proofs.Bools.{not_both, not_true_false, not_false_true, and_left, and_right, and_both}
use Rattle.book.proofs.Lists.{each, each_append, keep_true, keep_false, keep_none}
use Rattle.block_demands.specs.Held.{NoneFit}
use Rattle.block_demands.specs.Confirming.{Pair, Joins, Before, Earliest}
use Rattle.block_demands.proofs.Plain.{says_held, none_any}
use Rattle.block_demands.proofs.Fitting.{says_fits, fits_turned, buyer_fits, seller_fits}
use Rattle.block_demands.proofs.Members.{In, each_in, in_some, in_behind, in_either, each_of, Later, InTurn, turn_behind, only_one}
use Rattle.block_demands.proofs.Partners.{Partner}
use Rattle.block_demands.proofs.Naming.{number_of, shares_of, named, unnamed_more, each_unnamed, in_unnamed, unnamed_in, still_unnamed, unnamed_turn, unnamed_each, named_more, names, buyer_of, seller_of, quantity_of, two_out}
use Rattle.model.specs.Book.{free}

-- ---- a list in which all of this goes through

pub record Lined (held : List Declaration) : Type 0 where
  pub sides : Each (λ x. x.side ≤ 1) held
  -- a free place fits nobody
  pub real : Each (λ x. Each (λ y. fits x y ≡ true → (x.number ≡ 0 → ⊥) × (y.number ≡ 0 → ⊥)) held) held
  pub turn : InTurn number_of held

module _ (held : List Declaration) (l : Lined held) where
  pub lined_side : (x : Declaration) → In x held → x.side ≤ 1
  lined_side x h = each_in (λ z. z.side ≤ 1) held x l.sides h

  pub lined_real :
      (x y : Declaration)
      → In x held
      → In y held
      → fits x y ≡ true
      → (x.number ≡ 0 → ⊥) × (y.number ≡ 0 → ⊥)
  lined_real x y hx hy =
      each_in (λ z. fits x z ≡ true → (x.number ≡ 0 → ⊥) × (z.number ≡ 0 → ⊥)) held y
      (each_in (λ w. Each (λ z. fits w z ≡ true → (w.number ≡ 0 → ⊥) × (z.number ≡ 0 → ⊥)) held) held x l.real hx)
      hy

-- whose turn it is to be confirmed
abbrev pub is_buyer : Declaration → Bool
is_buyer x = is_held x && eqb x.side 0

pub buyer_held : (x : Declaration) → is_buyer x ≡ true → is_held x ≡ true
buyer_held x e = and_left (is_held x) (eqb x.side 0) e

pub buyer_side : (x : Declaration) → is_buyer x ≡ true → x.side ≡ 0
buyer_side x e = eqb-true x.side 0 (and_right (is_held x) (eqb x.side 0) e)

pub is_buyer_lem : (x : Declaration) → (x.number ≡ 0 → ⊥) → x.side ≡ 0 → is_buyer x ≡ true
is_buyer_lem x n z = and_both ((says_held x).1 n) (eq-eqb x.side 0 z)

module _ (held : List Declaration) where
  -- between two turns
  pub record Turn (earlier later : List Declaration) (done : List Trade) : Type 0 where
    pub whole : held ≡ earlier ++ later
    -- a buyer whose turn has come is named, or fits nobody that is still there
    pub past :
        Each (λ x. is_buyer x ≡ true → named x.number done ≡ false → Each (λ y. fits x y ≡ false) (unnamed done held)) earlier
    -- a buyer whose turn is to come is not named
    pub to_come : Each (λ x. is_buyer x ≡ true → named x.number done ≡ false) later

  -- what the turns to come add
  pub record Added (done ts : List Trade) : Type 0 where
    pub joins : Each (Joins held) ts
    pub again : (n : ℕ) → named n done ≡ true → named n ts ≡ false
    pub once : (n : ℕ) → length (keep (is_in n) ts) ≤ 1
    pub earliest : Earliest held done ts
    pub none_left : NoneFit (unnamed (done ++ ts) held)
    pub shares : shares_of (unnamed done held) ≡ 2 * filled ts + shares_of (unnamed (done ++ ts) held)

module _ (held : List Declaration) (l : Lined held) where
  -- where the confirmations so far leave the list
  abbrev left : List Trade → List Declaration
  left done = unnamed done held

  -- ---- one turn that confirms

  module _
      (earlier later : List Declaration) (done : List Trade) (b s : Declaration)
      (turn : Turn held earlier (b ∷ later) done) (buys : is_buyer b ≡ true)
      (partner : Partner b s (left done)) (there : In s (left done))
    where
      abbrev trade : Trade
      trade = confirmation b s

      abbrev then : List Trade
      then = done ++ (trade ∷ [])

      b_in : In b held
      b_in = subst (In b) (sym turn.whole) (in_behind earlier (b ∷ later) b (inl refl))

      s_in : In s held
      s_in = unnamed_in done held s there

      b_side : b.side ≡ 0
      b_side = buyer_side b buys

      b_sided : b.side ≤ 1
      b_sided = lined_side held l b b_in

      s_sided : s.side ≤ 1
      s_sided = lined_side held l s s_in

      s_side : s.side ≡ 1
      s_side = buyer_fits b s b_sided s_sided partner.fit b_side

      numbers : (b.number ≡ 0 → ⊥) × (s.number ≡ 0 → ⊥)
      numbers = lined_real held l b s b_in s_in partner.fit

      b_unnamed : named b.number done ≡ false
      b_unnamed = turn.to_come.0 buys

      s_unnamed : named s.number done ≡ false
      s_unnamed = each_in (λ x. named x.number done ≡ false) (left done) s (still_unnamed done held) there

      -- one number, one declaration
      only_b : Each (λ x. x.number ≡ b.number → x ≡ b) held
      only_b = only_one number_of held b l.turn b_in numbers.0

      only_s : Each (λ x. x.number ≡ s.number → x ≡ s) held
      only_s = only_one number_of held s l.turn s_in numbers.1

      -- a buyer is not its partner
      other_number : (x : Declaration) → In x held → x.side ≡ 0 → x.number ≡ s.number → ⊥
      other_number x h z e =
          omega (arith, z, s_side, ap (λ (y : Declaration). y.side) (each_in (λ y. y.number ≡ s.number → y ≡ s) held x only_s h e))

      joined : Joins held trade
      joined =
          in_some (λ x. Some (λ y. Pair trade x y) held) held b
          (in_some (λ y. Pair trade b y) held s
          (record {
            buys = b_side;
            sells = s_side;
            buyer_held = buyer_held b buys;
            seller_held = (says_held s).1 numbers.1;
            fit = partner.fit;
            trade = refl;
          })
          s_in)
          b_in

      -- ---- the earliest is the partner, for either

      earlier_seller : (y : Declaration) → In y held → fits b y ≡ true → y.number < s.number → named y.number done ≡ true
      earlier_seller y h f k =
          not_false_true
          (λ n.
          omega (
            arith,
            k,
            each_in (λ z. named z.number done ≡ false → fits b z ≡ true → (z.number ≡ 0 → ⊥) → s.number ≤ z.number) held y
                (each_unnamed (λ z. fits b z ≡ true → (z.number ≡ 0 → ⊥) → s.number ≤ z.number) done held partner.first)
                h
                n
                f
                (lined_real held l b y b_in h f).1,
          ))

      behind : InTurn number_of (b ∷ later)
      behind = turn_behind number_of earlier (b ∷ later) (subst (InTurn number_of) turn.whole l.turn)

      -- a buyer that came before this one has had its turn
      had_turn : (y : Declaration) → In y held → (y.number ≡ 0 → ⊥) → y.number < b.number → In y earlier
      had_turn y h n k =
          ⊎_elim
          (λ i. i)
          (λ i.
          absurd
          (⊎_elim
          (λ (e : b ≡ y). omega (arith, k, ap number_of e))
          (λ j. omega (arith, k, each_in (Later number_of b) later y behind.0 j numbers.0 n))
          i))
          (in_either earlier (b ∷ later) y (subst (In y) turn.whole h))

      earlier_buyer : (y : Declaration) → In y held → fits s y ≡ true → y.number < b.number → named y.number done ≡ true
      earlier_buyer y h f k =
          let sided : y.side ≤ 1 = lined_side held l y h in
          let n : y.number ≡ 0 → ⊥ = (lined_real held l s y s_in h f).1 in
          not_false_true
          (λ free.
          not_both
          (fits_turned s y s_sided sided f)
          (each_in (λ z. fits y z ≡ false) (left done) s
          (each_in
          (λ x. is_buyer x ≡ true → named x.number done ≡ false → Each (λ z. fits x z ≡ false) (left done))
          earlier
          y
          turn.past
          (had_turn y h n k)
          (is_buyer_lem y n (seller_fits s y s_sided sided f s_side))
          free)
          there))

      said :
          Each
          (λ x. Each (λ y. fits x y ≡ true → Before trade x y → named y.number done ≡ true) held)
          held
      said =
          each_of _ held
          (λ x hx.
          each_of _ held
          (λ y hy f.
          ⊎_elim
          (λ k.
          let e : x ≡ b = each_in (λ z. z.number ≡ b.number → z ≡ b) held x only_b hx (k.0 ∙ buyer_of b s) in
          earlier_seller y hy (subst (λ z. fits z y ≡ true) e f) (omega (arith, k.1, seller_of b s)))
          (λ k.
          let e : x ≡ s = each_in (λ z. z.number ≡ s.number → z ≡ s) held x only_s hx (k.0 ∙ seller_of b s) in
          earlier_buyer y hy (subst (λ z. fits z y ≡ true) e f) (omega (arith, k.1, buyer_of b s)))))

      -- ---- the next turn

      -- who is named then: those before, and the two
      then_unnamed : (n : ℕ) → named n done ≡ false → (b.number ≡ n → ⊥) → (s.number ≡ n → ⊥) → named n then ≡ false
      then_unnamed n e f g =
          named_more n done trade
          ∙ rw (e, names n b s, ne_eqb b.number n f, ne_eqb s.number n g)

      then_named : (n : ℕ) → is_in n trade ≡ true → named n then ≡ true
      then_named n e = named_more n done trade ∙ ap (λ (t : Bool). named n done || t) e ∙ or-true (named n done)

      still_named : (n : ℕ) → named n done ≡ true → named n then ≡ true
      still_named n e = named_more n done trade ∙ ap (λ (t : Bool). t || is_in n trade) e

      was_unnamed : (n : ℕ) → named n then ≡ false → named n done ≡ false
      was_unnamed n e = not_true_false (λ t. not_both (still_named n t) e)

      names_b : is_in b.number trade ≡ true
      names_b = names b.number b s ∙ rw (eq-eqb b.number b.number refl)

      fewer : (P : Declaration → Type 0) → Each P (left done) → Each P (left then)
      fewer P e = subst (Each P) (unnamed_more done (trade ∷ []) held) (unnamed_each P (trade ∷ []) (left done) e)

      pub next_turn : Turn held (earlier ++ (b ∷ [])) later then
      next_turn =
          record {
            whole = turn.whole ∙ sym (append_assoc earlier (b ∷ []) later);
            past =
                each_append _ earlier (b ∷ [])
                (each
                (λ x. is_buyer x ≡ true → named x.number done ≡ false → Each (λ y. fits x y ≡ false) (left done))
                (λ x. is_buyer x ≡ true → named x.number then ≡ false → Each (λ y. fits x y ≡ false) (left then))
                earlier
                (λ x f e n. fewer (λ y. fits x y ≡ false) (f e (was_unnamed x.number n)))
                turn.past)
                (λ _ n. absurd (not_both (then_named b.number names_b) n), tt);
            to_come =
                each_of _ later
                (λ x h e.
                let here : In x held = subst (In x) (sym turn.whole) (in_behind earlier (b ∷ later) x (inr h)) in
                let n : x.number ≡ 0 → ⊥ = (says_held x).0 (buyer_held x e) in
                then_unnamed x.number
                (each_in (λ z. is_buyer z ≡ true → named z.number done ≡ false) later x turn.to_come.1 h e)
                (λ k. omega (arith, k, each_in (Later number_of b) later x behind.0 h numbers.0 n))
                (λ k. other_number x here (buyer_side x e) (sym k)));
          }

      -- ---- and what it adds

      names_new : (n : ℕ) → named n done ≡ true → is_in n trade ≡ false
      names_new n e =
          names n b s
          ∙ rw (
            ne_eqb b.number n (λ k. not_both e (subst (λ m. named m done ≡ false) k b_unnamed)),
            ne_eqb s.number n (λ k. not_both e (subst (λ m. named m done ≡ false) k s_unnamed)),
          )

      same_left : (ts : List Trade) → then ++ ts ≡ done ++ (trade ∷ ts)
      same_left ts = append_assoc done (trade ∷ []) ts

      module _ (ts : List Trade) (a : Added held then ts) where
        added_again : (n : ℕ) → named n done ≡ true → named n (trade ∷ ts) ≡ false
        unfolding any
        added_again n e = rw (names_new n e) (a.again n (still_named n e))

        added_once : (n : ℕ) → length (keep (is_in n) (trade ∷ ts)) ≤ 1
        added_once n = go (is_in n trade) refl
          where
            go : (t : Bool) → is_in n trade ≡ t → length (keep (is_in n) (trade ∷ ts)) ≤ 1
            go true e =
                let none : keep (is_in n) ts ≡ [] =
                keep_none (is_in n) ts (none_any (is_in n) ts (a.again n (then_named n e)))
                in
                rw (keep_true (is_in n) trade ts e, none) (omega arith)
            go false e = rw (keep_false (is_in n) trade ts e) (a.once n)

        added_shares : shares_of (left done) ≡ 2 * filled (trade ∷ ts) + shares_of (left (done ++ (trade ∷ ts)))
        unfolding filled total
        added_shares =
            omega (
              arith,
              two_out (left done) b s (unnamed_turn done held l.turn) (in_unnamed done held b b_unnamed b_in) there numbers.0 numbers.1
                  (other_number b b_in b_side)
                  ((says_fits b s).0 partner.fit).quantity,
              ap shares_of (unnamed_more done (trade ∷ []) held),
              a.shares,
              ap (λ (t : List Trade). shares_of (left t)) (same_left ts),
              quantity_of b s,
            )

        pub added : Added held done (trade ∷ ts)
        added =
            record {
              joins = (joined, a.joins);
              again = added_again;
              once = added_once;
              earliest = (said, a.earliest);
              none_left = subst (λ t. NoneFit (left t)) (same_left ts) a.none_left;
              shares = added_shares;
            }
