-- A new declaration from 15:00 on, when no two of those held fit: the confirmations of all of them with it are its own with the
-- earliest that it fits. No other order of asking matters: nobody else has anybody.
use Prim.Native.Nat.{◌≤◌}
use mathlib.Core.Path.{◌≡◌, refl, sym, ap, ◌∙◌}
use mathlib.Core.Bool.{Bool, true, false, cond, not, ◌&&◌, ◌||◌}
use mathlib.Core.List.{List, [], ◌∷◌, ◌++◌, append-nil}
use native.Mathlib.Omega.{arith}
use native.Mathlib.Decide.{ℕ_discrete}
use lib.Dec.{eqb}
use borrow.Author.Tests.{eq-eqb, ne_eqb, eqb-true, eqb-false}
use Rattle.model.specs.declared.Declaration.{Declaration}
use Rattle.model.specs.declared.Trade.{Trade}
use Rattle.model.specs.Lists.{keep, any}
use Rattle.model.specs.Matching.{is_in}
use Rattle.model.specs.Arrival.{is_taken}
use Rattle.model.specs.Blocks.{is_held, fits, confirmation, with_earliest, unnamed, in_turn, confirmations}
use Rattle.model.specs.Words.{Each}
use Rattle.model.proofs.Bools.{and_right}
use Rattle.book.proofs.Lists.{both, each, every, kept, each_keep, each_append, keep_true, keep_false, keep_append, keep_keep, keep_same}
use Rattle.declarations.specs.Declared.{WellFormed}
use Rattle.partners.specs.Partners.{is_buyer}
use Rattle.partners.proofs.Turns.{none_earliest, turn_nobody, unnamed_none, in_turn_append}
use Rattle.blocks.specs.Ready.{NoneFit}
use Rattle.held.specs.Meeting.{joining, meeting}
use Rattle.held.proofs.Holding.{unheld_number}
use Rattle.blocks.proofs.Fitting.{same_side, unfit_free, fits_turned}

-- ---- nobody, or nobody before

abbrev pub Unfit : Declaration → List Declaration → Type 0
Unfit b xs = Each (λ s. fits b s ≡ false) xs

pub nobody_in_turn : (bs held : List Declaration) → Each (λ b. Unfit b held) bs → in_turn bs held ≡ []
unfolding in_turn
nobody_in_turn [] held u = refl
nobody_in_turn (b ∷ bs) held u = turn_nobody b bs held (none_earliest b held u.0) ∙ nobody_in_turn bs held u.1

-- those in front do not fit
earliest_behind : (b : Declaration) (xs ys : List Declaration) → Unfit b xs → with_earliest b (xs ++ ys) ≡ with_earliest b ys
unfolding with_earliest
earliest_behind b [] ys u = refl
earliest_behind b (x ∷ xs) ys u = rw u.0 (earliest_behind b xs ys u.1)

-- those behind do not
earliest_front : (b : Declaration) (xs ys : List Declaration) → Unfit b ys → with_earliest b (xs ++ ys) ≡ with_earliest b xs
unfolding with_earliest
earliest_front b [] ys u = none_earliest b ys u
earliest_front b (x ∷ xs) ys u = ap (λ (ts : List Trade). cond (fits b x) (confirmation b x ∷ []) ts) (earliest_front b xs ys u)

earliest_alone : (b s : Declaration) → fits b s ≡ true → with_earliest b (s ∷ []) ≡ confirmation b s ∷ []
unfolding with_earliest
earliest_alone b s e = rw e

-- one turn that finds somebody
pub turn_one :
    (b s : Declaration) (bs held : List Declaration)
    → with_earliest b held ≡ confirmation b s ∷ []
    → in_turn (b ∷ bs) held ≡ confirmation b s ∷ in_turn bs (unnamed (confirmation b s ∷ []) held)
unfolding in_turn
turn_one b s bs held e = rw e

-- ---- the new one buys

module _ (x : Declaration) (priced : 1 ≤ x.price) where
  -- free places do not matter
  earliest_held : (held : List Declaration) → Each WellFormed held → with_earliest x (keep is_held held) ≡ with_earliest x held
  unfolding with_earliest keep
  earliest_held [] w = refl
  earliest_held (y ∷ ys) w = go (is_held y) refl (earliest_held ys w.1)
    where
      go :
          (b : Bool)
          → is_held y ≡ b
          → with_earliest x (keep is_held ys) ≡ with_earliest x ys
          → with_earliest x (cond b (y ∷ keep is_held ys) (keep is_held ys)) ≡ cond (fits x y) (confirmation x y ∷ []) (with_earliest x ys)
      go true e h = ap (λ (ts : List Trade). cond (fits x y) (confirmation x y ∷ []) ts) h
      go false e h = rw (unfit_free x y priced w.0 (unheld_number y e)) h

  buying : (held : List Declaration) → x.side ≡ 0 → with_earliest x held ≡ meeting x held
  unfolding with_earliest meeting joining
  buying [] z = refl
  buying (y ∷ ys) z = rw (eq-eqb x.side 0 z) (ap (λ (ts : List Trade). cond (fits x y) (confirmation x y ∷ []) ts) (buying ys z))

-- ---- the new one sells

module _ (x : Declaration) where
  -- it is confirmed with the first of these buyers that fits it
  unfoldable selling : List Declaration → List Trade
  selling [] = []
  selling (b ∷ bs) = cond (fits b x) (confirmation b x ∷ []) (selling bs)

  selling_here : (b : Declaration) (bs : List Declaration) → fits b x ≡ true → selling (b ∷ bs) ≡ confirmation b x ∷ []
  unfolding selling
  selling_here b bs e = rw e

  selling_later : (b : Declaration) (bs : List Declaration) → fits b x ≡ false → selling (b ∷ bs) ≡ selling bs
  unfolding selling
  selling_later b bs e = rw e

  -- with its confirmation it is gone
  gone : (b : Declaration) (xs : List Declaration) → unnamed (confirmation b x ∷ []) (xs ++ (x ∷ [])) ≡ unnamed (confirmation b x ∷ []) xs
  unfolding unnamed confirmation is_in any keep
  gone b xs =
      keep_append (λ y. not (any (is_in y.number) (confirmation b x ∷ []))) xs (x ∷ [])
      ∙ ap (λ (l : List Declaration). keep (λ y. not (any (is_in y.number) (confirmation b x ∷ []))) xs ++ l)
      (keep_false (λ y. not (any (is_in y.number) (confirmation b x ∷ []))) x [] (named (eqb b.number x.number)))
      ∙ append-nil (keep (λ y. not (any (is_in y.number) (confirmation b x ∷ []))) xs)
    where
      named : (t : Bool) → not ((t || eqb x.number x.number) || false) ≡ false
      named true = refl
      named false = rw (eq-eqb x.number x.number refl)

  -- nobody else has anybody
  in_turn_selling :
      (xs bs : List Declaration) → Each (λ b. Unfit b xs) bs → in_turn bs (xs ++ (x ∷ [])) ≡ selling bs
  in_turn_selling xs [] u = unfold in_turn selling in refl
  in_turn_selling xs (b ∷ bs) u = go (fits b x) refl (in_turn_selling xs bs u.1)
    where
      others : Each (λ c. Unfit c (unnamed (confirmation b x ∷ []) xs)) bs
      others =
          unfold unnamed in
          each (λ c. Unfit c xs) (λ c. Unfit c (keep (λ y. not (any (is_in y.number) (confirmation b x ∷ []))) xs)) bs
          (λ c h. each_keep (λ s. fits c s ≡ false) (λ y. not (any (is_in y.number) (confirmation b x ∷ []))) xs h)
          u.1

      go :
          (t : Bool)
          → fits b x ≡ t
          → in_turn bs (xs ++ (x ∷ [])) ≡ selling bs
          → in_turn (b ∷ bs) (xs ++ (x ∷ [])) ≡ selling (b ∷ bs)
      go true e h =
          turn_one b x bs (xs ++ (x ∷ [])) (earliest_behind b xs (x ∷ []) u.0 ∙ earliest_alone b x e)
          ∙ ap (λ (l : List Declaration). confirmation b x ∷ in_turn bs l) (gone b xs)
          ∙ ap (λ (ts : List Trade). confirmation b x ∷ ts) (nobody_in_turn bs (unnamed (confirmation b x ∷ []) xs) others)
          ∙ sym (selling_here b bs e)
      go false e h =
          turn_nobody b bs (xs ++ (x ∷ []))
          (none_earliest b (xs ++ (x ∷ [])) (each_append (λ s. fits b s ≡ false) xs (x ∷ []) u.0 (e, tt)))
          ∙ h
          ∙ sym (selling_later b bs e)

  module _ (sells : x.side ≡ 0 → ⊥) (w : WellFormed x) (priced : 1 ≤ x.price) where
    joins : (y : Declaration) → joining x y ≡ confirmation y x
    unfolding joining
    joins y = rw (ne_eqb x.side 0 sells)

    -- who is no buyer does not fit it
    no_buyer : (y : Declaration) → WellFormed y → is_buyer y ≡ false → fits x y ≡ false
    unfolding is_buyer
    no_buyer y v e = go (is_held y) refl e
      where
        go : (b : Bool) → is_held y ≡ b → b && eqb y.side 0 ≡ false → fits x y ≡ false
        go true h f = same_side x y (omega (arith, w.side, v.side, sells, eqb-false y.side 0 f))
        go false h f = unfit_free x y priced v (unheld_number y h)

    meeting_here : (y : Declaration) (ys : List Declaration) → meeting x (y ∷ ys) ≡ cond (fits x y) (joining x y ∷ []) (meeting x ys)
    unfolding meeting
    meeting_here y ys = refl

    selling_cons : (b : Declaration) (bs : List Declaration) → selling (b ∷ bs) ≡ cond (fits b x) (confirmation b x ∷ []) (selling bs)
    unfolding selling
    selling_cons b bs = refl

    selling_meets : (held : List Declaration) → Each WellFormed held → selling (keep is_buyer held) ≡ meeting x held
    selling_meets [] v = unfold selling meeting keep in refl
    selling_meets (y ∷ ys) v = go (is_buyer y) refl (selling_meets ys v.1)
      where
        go :
            (b : Bool)
            → is_buyer y ≡ b
            → selling (keep is_buyer ys) ≡ meeting x ys
            → selling (keep is_buyer (y ∷ ys)) ≡ meeting x (y ∷ ys)
        go true e h =
            ap selling (keep_true is_buyer y ys e)
            ∙ selling_cons y (keep is_buyer ys)
            ∙ rw (fits_turned y x v.0.side w.side, h, ← joins y)
            (sym (meeting_here y ys))
        go false e h =
            ap selling (keep_false is_buyer y ys e)
            ∙ h
            ∙ sym (meeting_here y ys ∙ rw (no_buyer y v.0 e))

-- ---- either

module _ (held : List Declaration) (v : Each WellFormed held) (none : NoneFit held) (x : Declaration) (w : WellFormed x) (new : x.number ≡ 0 → ⊥) where
  abbrev present : List Declaration
  present = keep is_held held

  -- the buyers among those held
  buyers : keep is_buyer present ≡ keep is_buyer held
  unfolding is_buyer
  buyers =
      keep_keep is_buyer is_held held
      ∙ keep_same (λ y. is_held y && is_buyer y) is_buyer held
      (every (λ y. is_held y && is_buyer y ≡ is_buyer y) held (λ y. twice (is_held y) (eqb y.side 0)))
    where
      twice : (a b : Bool) → a && (a && b) ≡ a && b
      twice true b = refl
      twice false b = refl

  buyer_side : (y : Declaration) → is_buyer y ≡ true → y.side ≡ 0
  unfolding is_buyer
  buyer_side y e = eqb-true y.side 0 (and_right (is_held y) (eqb y.side 0) e)

  nobody : Each (λ b. Unfit b present) (keep is_buyer held)
  nobody =
      each_keep (λ b. Unfit b present) is_buyer held
      (each (λ b. Unfit b held) (λ b. Unfit b present) held (λ b h. each_keep (λ s. fits b s ≡ false) is_held held h) none)

  is_buyer_lem : x.side ≡ 0 → is_buyer x ≡ true
  unfolding is_buyer is_held is_taken
  is_buyer_lem z = rw (ne_eqb x.number 0 new, eq-eqb x.side 0 z)

  no_buyer_itself : (x.side ≡ 0 → ⊥) → is_buyer x ≡ false
  unfolding is_buyer is_held is_taken
  no_buyer_itself n = rw (ne_eqb x.number 0 new, ne_eqb x.side 0 n)

  all_confirmed : confirmations (present ++ (x ∷ [])) ≡ in_turn (keep is_buyer (present ++ (x ∷ []))) (present ++ (x ∷ []))
  unfolding confirmations is_buyer
  all_confirmed = refl

  meets_buying : x.side ≡ 0 → confirmations (present ++ (x ∷ [])) ≡ meeting x held
  unfolding keep
  meets_buying z =
      let line : List Declaration = present ++ (x ∷ []) in
      let asked : keep is_buyer line ≡ keep is_buyer held ++ (x ∷ []) =
      keep_append is_buyer present (x ∷ [])
      ∙ ap (λ (l : List Declaration). l ++ keep is_buyer (x ∷ [])) buyers
      ∙ ap (λ (l : List Declaration). keep is_buyer held ++ l) (keep_true is_buyer x [] (is_buyer_lem z)) in
      let others : in_turn (keep is_buyer held) line ≡ [] =
      nobody_in_turn (keep is_buyer held) line
      (both (λ b. Unfit b present) (λ b. is_buyer b ≡ true) (λ b. Unfit b line) (keep is_buyer held)
      (λ b h e. each_append (λ s. fits b s ≡ false) present (x ∷ []) h (same_side b x (buyer_side b e ∙ sym z), tt))
      nobody (kept is_buyer held)) in
      all_confirmed
      ∙ ap (λ (bs : List Declaration). in_turn bs line) asked
      ∙ in_turn_append (keep is_buyer held) (x ∷ []) line
      ∙ ap (λ (ts : List Trade). ts ++ in_turn (x ∷ []) (unnamed ts line)) others
      ∙ ap (in_turn (x ∷ [])) (unnamed_none line)
      ∙ alone_in_turn line
      ∙ earliest_front x present (x ∷ []) (same_side x x refl, tt)
      ∙ earliest_held x (w.priced new) held v
      ∙ buying x (w.priced new) held z
    where
      alone_in_turn : (l : List Declaration) → in_turn (x ∷ []) l ≡ with_earliest x l
      alone_in_turn l = unfold in_turn in append-nil (with_earliest x l)

  meets_selling : (x.side ≡ 0 → ⊥) → confirmations (present ++ (x ∷ [])) ≡ meeting x held
  unfolding keep
  meets_selling n =
      let asked : keep is_buyer (present ++ (x ∷ [])) ≡ keep is_buyer held =
      keep_append is_buyer present (x ∷ [])
      ∙ ap (λ (l : List Declaration). keep is_buyer present ++ l) (keep_false is_buyer x [] (no_buyer_itself n))
      ∙ append-nil (keep is_buyer present)
      ∙ buyers in
      all_confirmed
      ∙ ap (λ (bs : List Declaration). in_turn bs (present ++ (x ∷ []))) asked
      ∙ in_turn_selling x present (keep is_buyer held) nobody
      ∙ selling_meets x n w (w.priced new) held v

  pub meets : confirmations (present ++ (x ∷ [])) ≡ meeting x held
  meets = elim (ℕ_discrete x.side 0) [ yes z ↦ meets_buying z | no n ↦ meets_selling n ]
