-- Turn after turn: what is confirmed of a list in order of arrival. Who is joined with whom, that nobody is joined twice, that the
-- earliest is the partner for either of two, that none that fits is left, and what the shares come to. Assumes nothing.
use Prim.Native.Nat.{ℕ, zero, suc, ◌≤◌, ◌<◌}
use mathlib.Core.Path.{◌≡◌, refl, sym, ap, ◌∙◌, subst}
use mathlib.Core.Logic.{⊎_elim}
use mathlib.Core.Bool.{Bool, true, false, cond}
use mathlib.Core.List.{List, [], ◌∷◌, ◌++◌, map, append_assoc, append-nil}
use native.Mathlib.Omega.{arith}
use native.Mathlib.Decide.{ℕ_discrete}
use lib.ListN.{length, get_or}
use Rattle.model.specs.declared.Declaration.{Declaration}
use Rattle.model.specs.declared.Trade.{Trade}
use Rattle.model.specs.Lists.{keep, any, total}
use Rattle.model.specs.Matching.{filled}
use Rattle.model.specs.Blocks.{fits, confirmation, unnamed, in_turn, confirmations}
use Rattle.model.specs.Words.{Each, Some}
use Rattle.model.specs.Words as Words
use Rattle.model.proofs.Bools.{not_both, not_true_false}
use Rattle.book.proofs.Lists.{each, every, each_append, keep_true, keep_false}
use Rattle.book.proofs.Sorting.{Rising}
use Rattle.block_demands.specs.Held.{NoneFit}
use Rattle.block_demands.specs.Confirming.{Pair, Joins, Confirms}
use Rattle.block_demands.proofs.Plain.{says_held}
use Rattle.block_demands.proofs.Fitting.{fits_turned, seller_fits}
use Rattle.block_demands.proofs.Members.{In, Picked, pick, each_in, each_of, Later, InTurn}
use Rattle.block_demands.proofs.Naming.{number_of, shares_of, named, unnamed_none, unnamed_more, unnamed_in, still_unnamed, unnamed_turn, buyer_of}
use Rattle.block_demands.proofs.Partners.{Partner, Nobody, meets}
use Rattle.block_demands.proofs.Turns.{Lined, lined_side, lined_real, is_buyer, buyer_held, is_buyer_lem, Turn, Added, next_turn, added}

module _ (held : List Declaration) (l : Lined held) where
  abbrev left : List Trade → List Declaration
  left done = unnamed done held

  -- a turn that joins nobody
  passed_over :
      (earlier later : List Declaration) (done : List Trade) (b : Declaration)
      → Turn held earlier (b ∷ later) done
      → (is_buyer b ≡ true → Each (λ y. fits b y ≡ false) (left done))
      → Turn held (earlier ++ (b ∷ [])) later done
  passed_over earlier later done b turn none =
      record {
        whole = turn.whole ∙ sym (append_assoc earlier (b ∷ []) later);
        past = each_append _ earlier (b ∷ []) turn.past (λ e _. none e, tt);
        to_come = turn.to_come.1;
      }

  -- no turn is left: neither of two that are still there has fitted the other in its turn
  no_turn_left : (earlier : List Declaration) (done : List Trade) → Turn held earlier [] done → NoneFit (left done)
  no_turn_left earlier done turn =
      each_of _ (left done)
      (λ x hx.
      each_of _ (left done)
      (λ y hy.
      not_true_false
      (λ f.
      let in_x : In x held = unnamed_in done held x hx in
      let in_y : In y held = unnamed_in done held y hy in
      let x_sided : x.side ≤ 1 = lined_side held l x in_x in
      let y_sided : y.side ≤ 1 = lined_side held l y in_y in
      let n = lined_real held l x y in_x in_y f in
      elim (ℕ_discrete x.side 0) [
        | yes z ↦ not_both f (had x y hx hy in_x (is_buyer_lem x n.0 z))
        | no z ↦
            not_both (fits_turned x y x_sided y_sided f)
            (had y x hy hx in_y (is_buyer_lem y n.1 (seller_fits x y x_sided y_sided f (omega (arith, z, x_sided)))))
      ])))
    where
      -- a buyer that is still there has had its turn
      had :
          (x y : Declaration)
          → In x (left done)
          → In y (left done)
          → In x held
          → is_buyer x ≡ true
          → fits x y ≡ false
      had x y hx hy h e =
          each_in (λ z. fits x z ≡ false) (left done) y
          (each_in
          (λ w. is_buyer w ≡ true → named w.number done ≡ false → Each (λ z. fits w z ≡ false) (left done))
          earlier
          x
          turn.past
          (subst (In x) (turn.whole ∙ append-nil earlier) h)
          e
          (each_in (λ w. named w.number done ≡ false) (left done) x (still_unnamed done held) hx))
          hy

  -- ---- turn after turn

  abbrev turns : List Declaration → List Trade → List Trade
  turns later done = in_turn (keep is_buyer later) (left done)

  end : (earlier : List Declaration) (done : List Trade) → Turn held earlier [] done → Added held done []
  unfolding any keep filled total
  end earlier done turn =
      record {
        joins = tt;
        again = λ n _. refl;
        once = λ n. omega arith;
        earliest = tt;
        none_left = subst (λ t. NoneFit (left t)) (sym (append-nil done)) (no_turn_left earlier done turn);
        shares = omega (arith, ap (λ (t : List Trade). shares_of (left t)) (append-nil done));
      }

  abbrev Ahead : List Declaration → Type 0
  Ahead later = (earlier : List Declaration) (done : List Trade) → Turn held earlier later done → Added held done (turns later done)

  -- a buyer's turn
  buyer_turn : (b : Declaration) (later : List Declaration) → is_buyer b ≡ true → Ahead later → Ahead (b ∷ later)
  unfolding in_turn
  buyer_turn b later buys rest earlier done turn =
      rw (keep_true is_buyer b later buys)
      (⊎_elim
      (λ (k : Nobody b (left done)).
      rw (k.made, unnamed_none (left done)) (rest (earlier ++ (b ∷ [])) done (passed_over earlier later done b turn (λ _. k.none))))
      (λ k.
      let p : Picked (λ s. Partner b s (left done)) (left done) = pick (λ s. Partner b s (left done)) (left done) k in
      let s : Declaration = p.one in
      rw (p.has.made, unnamed_more done (confirmation b s ∷ []) held)
      (added held l earlier later done b s turn buys p.has p.there (turns later (done ++ (confirmation b s ∷ [])))
      (rest (earlier ++ (b ∷ [])) (done ++ (confirmation b s ∷ [])) (next_turn held l earlier later done b s turn buys p.has p.there))))
      (meets b (left done) (unnamed_turn done held l.turn)))

  ahead : (later : List Declaration) → Ahead later
  unfolding in_turn keep
  ahead [] = end
  ahead (b ∷ later) = go (is_buyer b) refl (ahead later)
    where
      go : (t : Bool) → is_buyer b ≡ t → Ahead later → Ahead (b ∷ later)
      go true e rest = buyer_turn b later e rest
      go false e rest = λ earlier done turn.
          rw (keep_false is_buyer b later e)
          (rest (earlier ++ (b ∷ [])) done (passed_over earlier later done b turn (λ t. absurd (not_both t e))))

  pub confirmed : Added held [] (confirmations held)
  unfolding confirmations any
  confirmed =
      subst (λ h. Added held [] (in_turn (keep is_buyer held) h)) (unnamed_none held)
      (ahead held [] [] (record { whole = refl; past = tt; to_come = every _ held (λ x _. refl) }))

-- ---- lower buyer first

buyers_rise :
    (later left : List Declaration) (a : ℕ)
    → InTurn number_of later
    → InTurn number_of left
    → Each (λ x. (x.number ≡ 0 → ⊥) → a < x.number) later
    → Rising (λ (t : Trade). t.buyer) a (in_turn (keep is_buyer later) left)
unfolding in_turn keep
buyers_rise [] left a r k o = tt
buyers_rise (b ∷ later) left a r k o = go (is_buyer b) refl (λ left k. buyers_rise later left b.number r.1 k) (buyers_rise later left a r.1 k o.1)
  where
    go :
        (t : Bool)
        → is_buyer b ≡ t
        → ((left : List Declaration)
        → InTurn number_of left
        → Each (λ x. (x.number ≡ 0 → ⊥) → b.number < x.number) later
        → Rising (λ (t : Trade). t.buyer) b.number (in_turn (keep is_buyer later) left))
        → Rising (λ (t : Trade). t.buyer) a (in_turn (keep is_buyer later) left)
        → Rising (λ (t : Trade). t.buyer) a (in_turn (cond t (b ∷ keep is_buyer later) (keep is_buyer later)) left)
    go false e from-b from-a = from-a
    go true e from-b from-a =
        let n : b.number ≡ 0 → ⊥ = (says_held b).0 (buyer_held b e) in
        ⊎_elim
        (λ (h : Nobody b left). rw (h.made, unnamed_none left) from-a)
        (λ h.
        let p : Picked (λ s. Partner b s left) left = pick (λ s. Partner b s left) left h in
        let s : Declaration = p.one in
        rw p.has.made (
          omega (arith, o.0 n, buyer_of b s),
          subst
              (λ m. Rising (λ (t : Trade). t.buyer) m (in_turn (keep is_buyer later) (unnamed (confirmation b s ∷ []) left)))
              (sym (buyer_of b s))
              (from-b (unnamed (confirmation b s ∷ []) left) (unnamed_turn (confirmation b s ∷ []) left k)
              (each (Later number_of b) (λ x. (x.number ≡ 0 → ⊥) → b.number < x.number) later (λ x f m. f n m) r.0)),
        ))
        (meets b left k)

-- the same of the numbers, place by place
module _ {A : Type 0} (key : A → ℕ) where
  above : (a : ℕ) (xs : List A) → Rising key a xs → (j : ℕ) → j < length (map key xs) → a < get_or (map key xs) j 0
  above a [] r j h = absurd (omega arith)
  above a (x ∷ xs) r zero h = r.0
  above a (x ∷ xs) r (suc j) h = omega (arith, r.0, above (key x) xs r.1 j (omega arith))

  rising_keys : (a : ℕ) (xs : List A) → Rising key a xs → Words.Rising (map key xs)
  rising_keys a [] r i j k h = absurd (omega arith)
  rising_keys a (x ∷ xs) r zero zero k h = absurd (omega arith)
  rising_keys a (x ∷ xs) r (suc i) zero k h = absurd (omega arith)
  rising_keys a (x ∷ xs) r zero (suc j) k h = above (key x) xs r.1 j (omega arith)
  rising_keys a (x ∷ xs) r (suc i) (suc j) k h = rising_keys (key x) xs r.1 i j (omega arith) (omega arith)

pub confirms : (held : List Declaration) → Lined held → Confirms held (confirmations held)
confirms held l =
    let a = confirmed held l in
    record {
      joins = a.joins;
      buyers = rising_keys (λ (t : Trade). t.buyer) 0 (confirmations held) rises;
      once = a.once;
      earliest = a.earliest;
      all_of_them = a.none_left;
    }
  where
    rises : Rising (λ (t : Trade). t.buyer) 0 (confirmations held)
    rises = unfold confirmations in buyers_rise held held 0 l.turn l.turn (every _ held (λ x n. omega (arith, n)))

-- ---- some two fit exactly where something is confirmed

pub none_due : (held : List Declaration) → Lined held → confirmations held ≡ [] → NoneFit held
none_due held l e =
    subst NoneFit (unnamed_none held) (subst (λ ts. NoneFit (unnamed ts held)) e (confirms held l).all_of_them)

pub due_none : (held : List Declaration) → Lined held → NoneFit held → confirmations held ≡ []
due_none held l n = go (confirmations held) (confirms held l).joins
  where
    nobody : (t : Trade) → Joins held t → ⊥
    nobody t j =
        let b = pick (λ x. Some (λ y. Pair t x y) held) held j in
        let s = pick (λ y. Pair t b.one y) held b.has in
        not_both s.has.fit
        (each_in (λ y. fits b.one y ≡ false) held s.one
        (each_in (λ x. Each (λ y. fits x y ≡ false) held) held b.one n b.there)
        s.there)

    go : (ts : List Trade) → Each (Joins held) ts → ts ≡ []
    go [] j = refl
    go (t ∷ ts) j = absurd (nobody t j.0)
