-- The loop: one claim after another taken off a slate, and what the judge's tests say then. Assumes nothing.
use Rattle.std.specs.Prelude.{if◌then◌else◌}
use Prim.Native.Nat.{ℕ, zero, suc, ◌+◌, ◌≤◌, ◌<◌}
use mathlib.Core.Path.{◌≡◌, refl, sym, ap, ◌∙◌}
use mathlib.Core.Logic.{◌↔◌}
use mathlib.Core.Bool.{Bool, true, false, not}
use mathlib.Core.List.{List, [], ◌∷◌, map}
use native.Mathlib.Numerals.{add-one}
use native.Mathlib.Omega.{arith}
use lib.ListN.{length, get_or, drop, drop_of_length-le}
use lib.Seq.{drop-cons}
use lib.Dec.{eqb}
use borrow.Author.Tests.{not-true, not-false}
use Rattle.model.specs.declared.Order.{Order}
use Rattle.model.specs.Lists.{all}
use Rattle.model.specs.Book.{free, is_live}
use Rattle.model.specs.Words.{Each}
use Rattle.model.proofs.Bools.{not_both}
use Rattle.book.specs.Standing.{Ranked}
use Rattle.book.proofs.Lists.{each_at, at_each}
use Rattle.soundness.proofs.Says.{Says, says_all, says_eq, says_same}
use Rattle.judge.specs.declared.Claim.{Claim}
use Rattle.judge.specs.Judging.{claimed_for, granted_to, claims_right, no_claim}
use Rattle.judge.specs.Verdicts.{Joins}
use Rattle.judging.specs.Slates.{grants_at, claimed_at, Settles, Taken}
use Rattle.judge.proofs.Rightness.{says_claims}
use Rattle.judging.proofs.Granting.{grant_at, grants_are}
use Rattle.judging.proofs.Settling.{claimed_nothing}

-- ---- one claim after another

pub record Turned (book : List Order) (whole : List Claim) (slate₀ slate : List ℕ) (i : ℕ) : Type 0 where
  pub long : length slate ≡ length slate₀
  pub same : Settles book slate₀ whole ↔ Settles book slate (drop i whole)

module _ (book : List Order) (whole : List Claim) (slate₀ : List ℕ) where
  pub turned_none : Turned book whole slate₀ slate₀ 0
  turned_none = record { long = refl; same = (λ r. r, λ r. r) }

  module _ (slate : List ℕ) (i : ℕ) (t : Turned book whole slate₀ slate i) where
    module _ {c : Claim} {r : Bool} {slate' : List ℕ} (k : Taken book slate c r slate') (e : drop i whole ≡ c ∷ drop (i + 1) whole) where
      pub turned_no : not r ≡ true → (false ≡ true) ↔ Settles book slate₀ whole
      turned_no n = let f = not-true r n in (λ x. absurd (not_both x refl), λ s. absurd (k.no f (drop (i + 1) whole) (rw e at (t.same.0 s))))

      pub turned_more : not r ≡ false → Turned book whole slate₀ slate' (i + 1)
      turned_more n =
          let y = k.yes (not-false r n) (drop (i + 1) whole) in
          record {
            long = k.long ∙ t.long;
            same = (λ s. y.0 (rw e at (t.same.0 s)), λ s. t.same.1 (rw e (y.1 s)));
          }

    -- at the end the slate has to be empty
    pub turned_all : {r : Bool} → length slate₀ ≡ length book → length whole ≤ i → r ≡ all (eqb 0) slate → (r ≡ true) ↔ Settles book slate₀ whole
    turned_all {r} l h e =
        let end : drop i whole ≡ [] = drop_of_length-le whole h in (
          λ f. t.same.1 (rw end (nothing (rest.0 (sym e ∙ f)))),
          λ s. e ∙ rest.1 (left (rw end at (t.same.0 s))),
        )
      where
        rest : Says (all (eqb 0) slate) (Each (λ n. 0 ≡ n) slate)
        rest = says_all (eqb 0) (λ n. 0 ≡ n) (λ n. says_eq 0 n) slate

        nothing : Each (λ n. 0 ≡ n) slate → Settles book slate []
        nothing f =
            record {
              joined = tt;
              filled = λ j h. claimed_nothing (get_or book j free) ∙ each_at (λ n. 0 ≡ n) slate 0 f j (omega (arith, t.long));
            }

        left : Settles book slate [] → Each (λ n. 0 ≡ n) slate
        left s = at_each (λ n. 0 ≡ n) slate 0 (λ j h. sym (claimed_nothing (get_or book j free)) ∙ s.filled j (omega (arith, t.long)))

-- a claim of a list in memory, and those behind it
pub claim_next :
    (claims : List Claim) (i : ℕ) {c : Claim}
    → i < length claims
    → c ≡ get_or claims i no_claim
    → drop i claims ≡ c ∷ drop (i + 1) claims
claim_next claims i {c} h e =
    drop-cons claims i no_claim (omega arith)
    ∙ ap (λ (x : Claim). x ∷ drop (suc i) claims) (sym e)
    ∙ ap (λ (n : ℕ). c ∷ drop n claims) (sym (add-one i))

-- ---- the grants as a slate

map_at : {A B : Type 0} (f : A → B) (xs : List A) (d : A) (e : B) (j : ℕ) → j < length xs → get_or (map f xs) j e ≡ f (get_or xs j d)
map_at f [] d e j h = absurd (omega arith)
map_at f (x ∷ xs) d e zero h = refl
map_at f (x ∷ xs) d e (suc j) h = map_at f xs d e j (omega arith)

module _ (p : ℕ) (book : List Order) (cs : List Claim) where
  abbrev Fits : Order → Type 0
  Fits o = is_live o ≡ true → claimed_for o cs ≡ granted_to p book o

  fits_at : (o : Order) → Fits o → claimed_at cs o ≡ grant_at p book o
  unfolding claimed_at
  fits_at o f = go (is_live o) refl
    where
      go : (t : Bool) → is_live o ≡ t → (if t then claimed_for o cs else 0) ≡ (if t then granted_to p book o else 0)
      go true e = f e
      go false e = refl

  at_fits : (o : Order) → claimed_at cs o ≡ grant_at p book o → Fits o
  unfolding claimed_at
  at_fits o f e = rw e at f

  settles_facts : Settles book (map (grant_at p book) book) cs → Each (Joins book) cs × Each Fits book
  settles_facts s = (
    s.joined,
    at_each Fits book free (λ j h. at_fits (get_or book j free) (s.filled j h ∙ map_at (grant_at p book) book free 0 j h)),
  )

  facts_settle : Each (Joins book) cs × Each Fits book → Settles book (map (grant_at p book) book) cs
  facts_settle f =
      record {
        joined = f.0;
        filled = λ j h. fits_at (get_or book j free) (each_at Fits book free f.1 j h) ∙ sym (map_at (grant_at p book) book free 0 j h);
      }

  -- a slate of the grants asks for what the judge's tests ask
  pub tests_told :
      {r : Bool} {slate : List ℕ}
      → Ranked book
      → slate ≡ grants_at p book
      → (r ≡ true) ↔ Settles book slate cs
      → r ≡ claims_right p book cs
  unfolding grants_at
  tests_told {r} {slate} k e s =
      let g : slate ≡ map (grant_at p book) book = e ∙ grants_are p book k in
      let told : Says r (Settles book (map (grant_at p book) book) cs) = (λ t. rw g at (s.0 t), λ k. s.1 (rw g k)) in
      says_same settles_facts facts_settle told (says_claims p book cs)
