-- The first rule that holds: a list of rules gives a number exactly when it splits there, and 0 exactly when none holds.
-- Assumes nothing.
use Prim.Native.Nat.{ℕ}
use mathlib.Core.Path.{◌≡◌, refl, sym, ap, ◌∙◌}
use mathlib.Core.Bool.{Bool, true, false, cond}
use mathlib.Core.List.{List, [], ◌∷◌, ◌++◌}
use lib.Dec.{eqb}
use borrow.Author.Tests.{eqb-true, eqb-false, eq-eqb, ne_eqb}
use Rattle.model.specs.Refusals.{Rule, first_of}
use Rattle.model.specs.Words.{Each}
use Rattle.demands.specs.Refusing.{NoneOf, FirstIs, Numbers, FirstHolds, RefusesBy}

-- ---- none holds

none_gives : (rs : List Rule) → NoneOf rs → first_of rs ≡ 0
unfolding first_of
none_gives [] h = refl
none_gives (r ∷ rs) h = rw h.0 (none_gives rs h.1)

pub gives_none : (rs : List Rule) → Numbers rs → first_of rs ≡ 0 → NoneOf rs
unfolding first_of
gives_none [] k e = tt
gives_none (r ∷ rs) k e = go r.holds refl e (gives_none rs k.1)
  where
    go :
        (b : Bool)
        → r.holds ≡ b
        → cond b r.number (first_of rs) ≡ 0
        → (first_of rs ≡ 0 → NoneOf rs)
        → (r.holds ≡ false) × NoneOf rs
    go true h z f = absurd (k.0 z)
    go false h z f = (h, f z)

-- ---- one holds

split_gives : (n : ℕ) (before : List Rule) (rule : Rule) (behind : List Rule)
    → NoneOf before
    → rule.holds ≡ true
    → rule.number ≡ n
    → first_of (before ++ (rule ∷ behind)) ≡ n
unfolding first_of
split_gives n [] rule behind p h e = rw h e
split_gives n (r ∷ rs) rule behind p h e = rw p.0 (split_gives n rs rule behind p.1 h e)

pub first_gives : (n : ℕ) (rs : List Rule) → FirstIs n rs → first_of rs ≡ n
first_gives n rs f = ap first_of f.order ∙ split_gives n f.before f.rule f.behind f.passed f.holds f.number

further : {n : ℕ} (r : Rule) {rs : List Rule} → r.holds ≡ false → FirstIs n rs → FirstIs n (r ∷ rs)
further r h f =
    record {
      before = r ∷ f.before;
      rule = f.rule;
      behind = f.behind;
      order = ap (λ (l : List Rule). r ∷ l) f.order;
      passed = (h, f.passed);
      holds = f.holds;
      number = f.number;
    }

gives_first : (n : ℕ) (rs : List Rule) → (n ≡ 0 → ⊥) → first_of rs ≡ n → FirstIs n rs
unfolding first_of
gives_first n [] z e = absurd (z (sym e))
gives_first n (r ∷ rs) z e = go r.holds refl e (gives_first n rs z)
  where
    go :
        (b : Bool)
        → r.holds ≡ b
        → cond b r.number (first_of rs) ≡ n
        → (first_of rs ≡ n → FirstIs n rs)
        → FirstIs n (r ∷ rs)
    go true h x f =
        record { before = []; rule = r; behind = rs; order = refl; passed = tt; holds = h; number = x }
    go false h x f = further r h (f x)

pub first_holds : (rs : List Rule) → Numbers rs → FirstHolds rs
first_holds rs k =
    record {
      first_holds = λ n z. (gives_first n rs z, first_gives n rs);
      none_holds = (gives_none rs k, none_gives rs);
    }

-- the rule that is first has a number
first_real : (n : ℕ) (rs : List Rule) → Numbers rs → FirstIs n rs → n ≡ 0 → ⊥
first_real n rs k f = go f.before rs k f.order
  where
    go : (before rs : List Rule) → Numbers rs → rs ≡ before ++ (f.rule ∷ f.behind) → n ≡ 0 → ⊥
    go [] rs k e z = let h : Numbers (f.rule ∷ f.behind) = rw e at k in h.0 (f.number ∙ z)
    go (r ∷ before) rs k e z =
        let h : Numbers (r ∷ (before ++ (f.rule ∷ f.behind))) = rw e at k in go before _ h.1 refl z

-- a number that no rule has is not given
pub not_given : (n : ℕ) (rs : List Rule) → (n ≡ 0 → ⊥) → Each (λ (r : Rule). r.number ≡ n → ⊥) rs → first_of rs ≡ n → ⊥
unfolding first_of
not_given n [] z h e = z (sym e)
not_given n (r ∷ rs) z h e = go r.holds (not_given n rs z h.1) e
  where
    go : (b : Bool) → (first_of rs ≡ n → ⊥) → cond b r.number (first_of rs) ≡ n → ⊥
    go true f x = h.0 x
    go false f x = f x

-- ---- a reply that is the refusal where a number is given, and another where none is

module _ {Reply : Type 0} (refused : ℕ → Reply) (rules : List Rule) (reply accepted : Reply) (k : Numbers rules) (same : (m n : ℕ) → refused m ≡ refused n → m ≡ n) (apart : (n : ℕ) → accepted ≡ refused n → ⊥) (e : reply ≡ cond (eqb (first_of rules) 0) accepted (refused (first_of rules))) where
  told : first_of rules ≡ 0 → reply ≡ accepted
  told z = e ∙ ap (λ (b : Bool). cond b accepted (refused (first_of rules))) (eq-eqb (first_of rules) 0 z)

  refused_told : (first_of rules ≡ 0 → ⊥) → reply ≡ refused (first_of rules)
  refused_told z = e ∙ ap (λ (b : Bool). cond b accepted (refused (first_of rules))) (ne_eqb (first_of rules) 0 z)

  given : (n : ℕ) → reply ≡ refused n → (first_of rules ≡ n) × (first_of rules ≡ 0 → ⊥)
  given n h = (same (first_of rules) n (sym (refused_told some) ∙ h), some)
    where
      some : first_of rules ≡ 0 → ⊥
      some z = apart n (sym (told z) ∙ h)

  pub refuses_by : RefusesBy refused rules reply
  refuses_by =
      record {
        refuses = λ n. (
          λ h. let g = given n h in gives_first n rules (λ z. g.1 (g.0 ∙ z)) g.0,
          λ f.
              let g : first_of rules ≡ n = first_gives n rules f in
              refused_told (λ z. first_real n rules k f (sym g ∙ z)) ∙ ap refused g,
        );
        accepts = (
          λ h. gives_none rules k (go h (eqb (first_of rules) 0) refl),
          λ h n r. (given n r).1 (none_gives rules h),
        );
      }
    where
      go : ((n : ℕ) → reply ≡ refused n → ⊥) → (b : Bool) → eqb (first_of rules) 0 ≡ b → first_of rules ≡ 0
      go h true x = eqb-true (first_of rules) 0 x
      go h false x = absurd (h (first_of rules) (refused_told (eqb-false (first_of rules) 0 x)))
