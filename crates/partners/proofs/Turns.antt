-- One buyer after the other: whom its trades name, and the same in two runs. Assumes nothing.
use Rattle.std.specs.Prelude.{if◌then◌else◌}
use mathlib.Core.Path.{◌≡◌, refl}
use mathlib.Core.Logic.{◌⊎◌, inl, inr}
use mathlib.Core.Bool.{Bool, true, false, not}
use mathlib.Core.List.{List, [], ◌∷◌, ◌++◌, append_assoc}
use Rattle.model.specs.declared.Declaration.{Declaration}
use Rattle.model.specs.declared.Trade.{Trade}
use Rattle.model.specs.Lists.{any}
use Rattle.model.specs.Matching.{is_in}
use Rattle.model.specs.Blocks.{fits, confirmation, with_earliest, unnamed, in_turn}
use Rattle.model.specs.Words.{Each}
use Rattle.book.proofs.Lists.{keep_all, every, each_keep, each_append}
use Rattle.partners.proofs.Naming.{unnamed_append}

-- what holds for a confirmation of any two that fit
module _
    (P Q : Declaration → Type 0) (T : Trade → Type 0)
    (two : (b s : Declaration) → P b → Q s → fits b s ≡ true → T (confirmation b s)) where
  pub each_earliest : (b : Declaration) (held : List Declaration) → P b → Each Q held → Each T (with_earliest b held)
  unfolding with_earliest
  each_earliest b [] p q = tt
  each_earliest b (s ∷ held) p q = go (fits b s) refl (each_earliest b held p q.1)
    where
      go : (t : Bool) → fits b s ≡ t → Each T (with_earliest b held) → Each T (if t then confirmation b s ∷ [] else with_earliest b held)
      go true e h = (two b s p q.0 e, tt)
      go false e h = h

  pub each_in_turn : (bs held : List Declaration) → Each P bs → Each Q held → Each T (in_turn bs held)
  unfolding in_turn
  each_in_turn [] held p q = tt
  each_in_turn (b ∷ bs) held p q =
      each_append T (with_earliest b held) (in_turn bs (unnamed (with_earliest b held) held)) (each_earliest b held p.0 q)
      (each_in_turn bs (unnamed (with_earliest b held) held) p.1 (left (with_earliest b held)))
    where
      left : (ts : List Trade) → Each Q (unnamed ts held)
      left ts = unfold unnamed in each_keep Q (λ x. not (any (is_in x.number) ts)) held q

-- nobody fits a buyer
pub none_earliest : (b : Declaration) (held : List Declaration) → Each (λ s. fits b s ≡ false) held → with_earliest b held ≡ []
unfolding with_earliest
none_earliest b [] e = refl
none_earliest b (s ∷ held) e = rw e.0 (none_earliest b held e.1)

pub unnamed_none : (held : List Declaration) → unnamed [] held ≡ held
unfolding unnamed any
unnamed_none held = keep_all (λ x. true) held (every _ held (λ x. refl))

pub turn_nobody :
    (b : Declaration) (bs held : List Declaration) → with_earliest b held ≡ [] → in_turn (b ∷ bs) held ≡ in_turn bs held
unfolding in_turn
turn_nobody b bs held e = rw (e, unnamed_none held)

-- the buyers in two runs
pub in_turn_append :
    (bs cs held : List Declaration) → in_turn (bs ++ cs) held ≡ in_turn bs held ++ in_turn cs (unnamed (in_turn bs held) held)
unfolding in_turn
in_turn_append [] cs held = rw (unnamed_none held)
in_turn_append (b ∷ bs) cs held =
    let ts : List Trade = with_earliest b held in
    rw (in_turn_append bs cs (unnamed ts held), unnamed_append ts (in_turn bs (unnamed ts held)) held, append_assoc)

-- the earliest that fits, if one does
pub earliest_cases :
    (Q : Declaration → Type 0) (b : Declaration) (held : List Declaration)
    → Each Q held
    → (with_earliest b held ≡ [])
    ⊎ ((s : Declaration) × (with_earliest b held ≡ confirmation b s ∷ []) × (fits b s ≡ true) × Q s)
unfolding with_earliest
earliest_cases Q b [] q = inl refl
earliest_cases Q b (s ∷ held) q = go (fits b s) refl (earliest_cases Q b held q.1)
  where
    go :
        (t : Bool)
        → fits b s ≡ t
        → ((with_earliest b held ≡ []) ⊎ ((s : Declaration) × (with_earliest b held ≡ confirmation b s ∷ []) × (fits b s ≡ true) × Q s))
        → ((if t then confirmation b s ∷ [] else with_earliest b held) ≡ [])
        ⊎ ((r : Declaration) × ((if t then confirmation b s ∷ [] else with_earliest b held) ≡ confirmation b r ∷ []) × (fits b r ≡ true) × Q r)
    go true e h = inr (s, refl, e, q.0)
    go false e h = h
