-- Who is named by confirmations, those that are not, and what one confirmation takes out. Assumes nothing.
use Prim.Native.Nat.{ℕ, ◌+◌, ◌*◌}
use mathlib.Core.Path.{◌≡◌, refl, sym, ap, ◌∙◌}
use mathlib.Core.Bool.{Bool, true, false, not, ◌&&◌, ◌||◌, or_assoc, or-false}
use mathlib.Core.List.{List, [], ◌∷◌, ◌++◌}
use native.Mathlib.Omega.{arith}
use lib.Dec.{eqb}
use borrow.Author.Tests.{ne_eqb, not-true}
use Rattle.model.specs.declared.Declaration.{Declaration}
use Rattle.model.specs.declared.Trade.{Trade}
use Rattle.model.specs.Lists.{keep, any, total}
use Rattle.model.specs.Matching.{is_in}
use Rattle.model.specs.Blocks.{confirmation, unnamed}
use Rattle.model.specs.Words.{Each}
use Rattle.book.proofs.Lists.{each, every, each_keep, kept, keep_all, keep_keep, keep_same}
use Rattle.block_demands.proofs.Members.{In, in_kept, kept_in, each_passing, InTurn, turn_keep, others, total_others}

abbrev pub number_of : Declaration → ℕ
number_of x = x.number

abbrev pub shares_of : List Declaration → ℕ
shares_of held = total (λ (x : Declaration). x.quantity) held

abbrev pub named : ℕ → List Trade → Bool
named n ts = any (is_in n) ts

-- ---- who is named

any_append : {A : Type 0} (p : A → Bool) (xs ys : List A) → any p (xs ++ ys) ≡ (any p xs || any p ys)
unfolding any
any_append p [] ys = refl
any_append p (x ∷ xs) ys =
    ap (λ (b : Bool). p x || b) (any_append p xs ys) ∙ sym (or_assoc (p x) (any p xs) (any p ys))

neither : (a b : Bool) → (not a && not b) ≡ not (a || b)
neither true b = refl
neither false b = refl

-- with one confirmation more
pub named_more : (n : ℕ) (done : List Trade) (t : Trade) → named n (done ++ (t ∷ [])) ≡ (named n done || is_in n t)
unfolding any
named_more n done t = any_append (is_in n) done (t ∷ []) ∙ ap (λ (b : Bool). named n done || b) (or-false (is_in n t))

pub unnamed_none : (held : List Declaration) → unnamed [] held ≡ held
unfolding unnamed any
unnamed_none held = keep_all (λ x. not false) held (every (λ (x : Declaration). not false ≡ true) held (λ x. refl))

-- first by some confirmations, then by others
pub unnamed_more : (done ts : List Trade) (held : List Declaration) → unnamed ts (unnamed done held) ≡ unnamed (done ++ ts) held
unfolding unnamed
unnamed_more done ts held =
    keep_keep (λ x. not (named x.number ts)) (λ x. not (named x.number done)) held
    ∙ keep_same
    (λ (x : Declaration). not (named x.number done) && not (named x.number ts))
    (λ x. not (named x.number (done ++ ts)))
    held
    (every
    (λ (x : Declaration). (not (named x.number done) && not (named x.number ts)) ≡ not (named x.number (done ++ ts)))
    held
    (λ x.
    neither (named x.number done) (named x.number ts)
    ∙ ap not (sym (any_append (is_in x.number) done ts))))

-- what each of those has that no confirmation names
pub each_unnamed :
    (P : Declaration → Type 0) (done : List Trade) (held : List Declaration)
    → Each P (unnamed done held)
    → Each (λ x. named x.number done ≡ false → P x) held
unfolding unnamed
each_unnamed P done held e =
    each (λ (x : Declaration). not (named x.number done) ≡ true → P x) (λ x. named x.number done ≡ false → P x) held
    (λ x f n. f (ap not n))
    (each_passing P (λ x. not (named x.number done)) held e)

pub in_unnamed : (done : List Trade) (held : List Declaration) (x : Declaration) → named x.number done ≡ false → In x held → In x (unnamed done held)
unfolding unnamed
in_unnamed done held x n h = in_kept (λ y. not (named y.number done)) held x (ap not n) h

pub unnamed_in : (done : List Trade) (held : List Declaration) (x : Declaration) → In x (unnamed done held) → In x held
unfolding unnamed
unnamed_in done held x h = kept_in (λ y. not (named y.number done)) held x h

pub still_unnamed : (done : List Trade) (held : List Declaration) → Each (λ x. named x.number done ≡ false) (unnamed done held)
unfolding unnamed
still_unnamed done held =
    each (λ (x : Declaration). not (named x.number done) ≡ true) (λ x. named x.number done ≡ false)
    (keep (λ x. not (named x.number done)) held)
    (λ x e. not-true (named x.number done) e)
    (kept (λ x. not (named x.number done)) held)

pub unnamed_turn : (done : List Trade) (held : List Declaration) → InTurn number_of held → InTurn number_of (unnamed done held)
unfolding unnamed
unnamed_turn done held = turn_keep number_of (λ x. not (named x.number done)) held

pub unnamed_each : (P : Declaration → Type 0) (done : List Trade) (held : List Declaration) → Each P held → Each P (unnamed done held)
unfolding unnamed
unnamed_each P done held = each_keep P (λ x. not (named x.number done)) held

-- ---- one confirmation

-- it names its buyer, its seller, and nobody else
pub names : (n : ℕ) (b s : Declaration) → is_in n (confirmation b s) ≡ (eqb b.number n || eqb s.number n)
unfolding is_in confirmation
names n b s = refl

pub buyer_of : (b s : Declaration) → (confirmation b s).buyer ≡ b.number
unfolding confirmation
buyer_of b s = refl

pub seller_of : (b s : Declaration) → (confirmation b s).seller ≡ s.number
unfolding confirmation
seller_of b s = refl

pub quantity_of : (b s : Declaration) → (confirmation b s).quantity ≡ b.quantity
unfolding confirmation
quantity_of b s = refl

-- those whom it does not name
without_two :
    (held : List Declaration) (b s : Declaration)
    → keep (others number_of s.number) (keep (others number_of b.number) held) ≡ unnamed (confirmation b s ∷ []) held
unfolding unnamed any
without_two held b s =
    keep_keep (others number_of s.number) (others number_of b.number) held
    ∙ keep_same
    (λ (x : Declaration). not (eqb b.number x.number) && not (eqb s.number x.number))
    (λ x. not (named x.number (confirmation b s ∷ [])))
    held
    (every
    (λ (x : Declaration).
    (not (eqb b.number x.number) && not (eqb s.number x.number)) ≡ not (named x.number (confirmation b s ∷ [])))
    held
    (λ x.
    neither (eqb b.number x.number) (eqb s.number x.number)
    ∙ ap not (sym (names x.number b s) ∙ sym (or-false (is_in x.number (confirmation b s))))))

-- what the shares come to without the two
pub two_out :
    (held : List Declaration) (b s : Declaration)
    → InTurn number_of held
    → In b held
    → In s held
    → (b.number ≡ 0 → ⊥)
    → (s.number ≡ 0 → ⊥)
    → (b.number ≡ s.number → ⊥)
    → b.quantity ≡ s.quantity
    → shares_of held ≡ 2 * b.quantity + shares_of (unnamed (confirmation b s ∷ []) held)
two_out held b s r hb hs nb ns apart q =
    let rest : List Declaration = keep (others number_of b.number) held in
    let one : shares_of held ≡ b.quantity + shares_of rest = total_others number_of (λ (x : Declaration). x.quantity) held b r hb nb in
    let there : In s rest = in_kept (others number_of b.number) held s (ap not (ne_eqb b.number s.number apart)) hs in
    let two : shares_of rest ≡ s.quantity + shares_of (keep (others number_of s.number) rest) =
    total_others number_of (λ (x : Declaration). x.quantity) rest s (turn_keep number_of (others number_of b.number) held r) there ns
    in
    omega (arith, one, two, ap shares_of (without_two held b s))
