-- A number that is printed is read back: its digits are digits, without a leading zero, at most ten, and worth the number.
-- Assumes nothing.
use Prim.Native.Nat.{ℕ, zero, suc, ◌+◌, ◌-◌, ◌*◌, ◌/◌, ◌%◌, ◌^◌, ◌≤◌, ◌<◌}
use mathlib.Core.Path.{◌≡◌, refl}
use mathlib.Core.Bool.{Bool, true, false, cond}
use mathlib.Core.List.{List, [], ◌∷◌, ◌++◌}
use mathlib.Core.Option.{some}
use native.Mathlib.Omega.{arith}
use native.Mathlib.Nat.{div-lt_iff_lt-mul, pow-suc}
use lib.Dec.{ltb, leb, lit<}
use lib.ListN.{length, length-append}
use borrow.Author.Tests.{ltb-true, ltb-false, lt-ltb, le-leb, ne_eqb, leb-true, leb-false}
use Rattle.model.specs.Lists.{all}
use Rattle.model.specs.Lines.{digits, is_digit, value_from, bare, number_of}
use Rattle.model.proofs.Bools.{and_left, and_right, and_both}

-- a tenth has a digit less
tenth : (k n : ℕ) → n < 10 ^ suc k → n / 10 < 10 ^ k
tenth k n h = (div-lt_iff_lt-mul (lit< tt)).1 (rw pow-suc at h)

-- ---- what the digits are worth

value_last : (v : ℕ) (w : List ℕ) (b : ℕ) → value_from v (w ++ (b ∷ [])) ≡ 10 * value_from v w + (b - 48)
unfolding value_from
value_last v [] b = refl
value_last v (x ∷ w) b = value_last (10 * v + (x - 48)) w b

pub digits_value : (k n : ℕ) → n < 10 ^ k → value_from 0 (digits k n) ≡ n
unfolding digits value_from
digits_value zero n h = omega arith
digits_value (suc k) n h = go (ltb n 10) refl (digits_value k (n / 10) (tenth k n h))
  where
    go :
        (t : Bool)
        → ltb n 10 ≡ t
        → value_from 0 (digits k (n / 10)) ≡ n / 10
        → value_from 0 (cond t ((48 + n) ∷ []) (digits k (n / 10) ++ ((48 + n % 10) ∷ []))) ≡ n
    go true s e = omega arith
    go false s e = rw (value_last 0 (digits k (n / 10)) (48 + n % 10), e) (omega arith)

-- ---- they are digits

pub all_append : {A : Type 0} (p : A → Bool) (a b : List A) → all p a ≡ true → all p b ≡ true → all p (a ++ b) ≡ true
unfolding all
all_append p [] b h k = k
all_append p (x ∷ a) b h k = and_both (and_left (p x) _ h) (all_append p a b (and_right (p x) _ h) k)

digit : (n : ℕ) → n < 10 → is_digit (48 + n) ≡ true
unfolding is_digit
digit n h = and_both (le-leb 48 (48 + n) (omega arith)) (le-leb (48 + n) 57 (omega arith))

one_digit : (n : ℕ) → n < 10 → all is_digit ((48 + n) ∷ []) ≡ true
unfolding all
one_digit n h = and_both (digit n h) refl

pub digits_digits : (k n : ℕ) → all is_digit (digits k n) ≡ true
unfolding digits all
digits_digits zero n = refl
digits_digits (suc k) n = go (ltb n 10) refl (digits_digits k (n / 10))
  where
    go :
        (t : Bool)
        → ltb n 10 ≡ t
        → all is_digit (digits k (n / 10)) ≡ true
        → all is_digit (cond t ((48 + n) ∷ []) (digits k (n / 10) ++ ((48 + n % 10) ∷ []))) ≡ true
    go true s e = one_digit n (ltb-true n 10 s)
    go false s e = all_append is_digit (digits k (n / 10)) _ e (one_digit (n % 10) (omega arith))

-- ---- the first is no zero, unless it stands alone

abbrev Leads : List ℕ → Type 0
Leads [] = ⊥
Leads (b ∷ w) = b ≡ 48 → ⊥

leads_append : (a b : List ℕ) → Leads a → Leads (a ++ b)
leads_append [] b l = absurd l
leads_append (x ∷ a) b l = l

digits_lead : (k n : ℕ) → 1 ≤ n → n < 10 ^ k → Leads (digits k n)
unfolding digits
digits_lead zero n l h = absurd (omega arith)
digits_lead (suc k) n l h = go (ltb n 10) refl (λ m. digits_lead k (n / 10) m (tenth k n h))
  where
    go :
        (t : Bool)
        → ltb n 10 ≡ t
        → (1 ≤ n / 10 → Leads (digits k (n / 10)))
        → Leads (cond t ((48 + n) ∷ []) (digits k (n / 10) ++ ((48 + n % 10) ∷ [])))
    go true s more = λ e. omega arith
    go false s more = leads_append (digits k (n / 10)) _ (more (omega (arith, ltb-false n 10 s)))

leads_bare : (w : List ℕ) → Leads w → bare w ≡ true
unfolding bare
leads_bare [] l = absurd l
leads_bare (b ∷ []) l = refl
leads_bare (b ∷ c ∷ w) l = rw (ne_eqb b 48 l)

pub digits_bare : (k n : ℕ) → n < 10 ^ suc k → bare (digits (suc k) n) ≡ true
unfolding digits bare
digits_bare k n h = go (leb 1 n) refl
  where
    go : (t : Bool) → leb 1 n ≡ t → bare (digits (suc k) n) ≡ true
    go true s = leads_bare (digits (suc k) n) (digits_lead (suc k) n (leb-true 1 n s) h)
    go false s = rw (lt-ltb n 10 (omega (arith, leb-false 1 n s)))

-- ---- and at most ten

pub digits_few : (m k n : ℕ) → 1 ≤ k → n < 10 ^ k → length (digits m n) ≤ k
unfolding digits
digits_few zero k n l h = omega arith
digits_few (suc m) zero n l h = absurd (omega arith)
digits_few (suc m) (suc zero) n l h = rw (lt-ltb n 10 h) (omega arith)
digits_few (suc m) (suc (suc k)) n l h = go (ltb n 10) (digits_few m (suc k) (n / 10) (omega arith) (tenth (suc k) n h))
  where
    go :
        (t : Bool)
        → length (digits m (n / 10)) ≤ suc k
        → length (cond t ((48 + n) ∷ []) (digits m (n / 10) ++ ((48 + n % 10) ∷ []))) ≤ suc (suc k)
    go true e = omega arith
    go false e = rw length-append (omega arith)

-- ---- read back

pub number_back : (n : ℕ) → n ≤ 4_294_967_295 → number_of (digits 20 n) ≡ some n
unfolding number_of
number_back n h =
    let value : value_from 0 (digits 20 n) ≡ n = digits_value 20 n (omega arith) in
    rw (digits_bare 19 n (omega arith), digits_digits 20 n, value, le-leb n 4_294_967_295 h)

pub number_few : (n : ℕ) → n ≤ 4_294_967_295 → length (digits 20 n) ≤ 10
number_few n h = digits_few 20 10 n (omega arith) (omega arith)
