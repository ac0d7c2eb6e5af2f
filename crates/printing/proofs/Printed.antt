-- Texts put one after the other are one text; a number's digits, a line's numbers and their lengths. Assumes nothing.
use Prim.Native.Nat.{ℕ, zero, suc, ◌+◌, ◌*◌, ◌/◌, ◌%◌, ◌^◌, ◌≤◌, ◌<◌}
use mathlib.Core.Path.{◌≡◌, refl, sym, ap, subst, ◌∙◌}
use mathlib.Core.Bool.{Bool, true, false, cond}
use mathlib.Core.List.{List, [], ◌∷◌, ◌++◌, append_assoc, append-nil}
use native.Mathlib.Nat.{div-lt_iff_lt-mul, pow-suc, le_refl, add-zero}
use native.Mathlib.Numerals.{add-one}
use native.Mathlib.Omega.{arith}
use lib.Dec.{ltb, lit<}
use lib.ListN.{length, take, drop, get_or, set, length-append}
use lib.Seq.{length-sets, sets-eq, take-suc, take_at, length-take-le}
use borrow.Author.Tests.{lt-ltb, le-ltb}
use Rattle.model.specs.Lines.{digits, spaced, reply}
use Rattle.book.proofs.Lists.{sets_more}
use Rattle.printing.specs.Printing.{Wrote}

-- ---- one after the other

module _ {out : List ℕ} {at : ℕ} where
  pub nothing_put : Wrote out at [] out at
  nothing_put = record { place = sym (add-zero at); bytes = refl }

  pub and_then :
      {out₁ out₂ : List ℕ} {p q : ℕ} {xs ys : List ℕ}
      → Wrote out at xs out₁ p
      → Wrote out₁ p ys out₂ q
      → Wrote out at (xs ++ ys) out₂ q
  and_then {xs = xs} {ys = ys} w v = record {
    place = rw length-append (omega (arith, w.place, v.place));
    bytes = rw (v.bytes, w.place, w.bytes) (sets_more out xs ys at);
  }

  pub put_as : {out' : List ℕ} {p : ℕ} {xs ys : List ℕ} → xs ≡ ys → Wrote out at xs out' p → Wrote out at ys out' p
  put_as {out'} {p} e w = subst (λ (t : List ℕ). Wrote out at t out' p) e w

-- what is put changes no length
pub put_long : {out : List ℕ} {at : ℕ} {xs out' : List ℕ} {p : ℕ} → Wrote out at xs out' p → length out' ≡ length out
put_long {out} {at} {xs} w = ap length w.bytes ∙ length-sets out at xs

-- where there is room for a line, the text ends in the buffer
pub line_within :
    {out text out' : List ℕ} {at p : ℕ}
    → Wrote out at text out' p
    → length text ≤ 110
    → at + 110 ≤ length out
    → p ≤ length out'
line_within w h room = omega (arith, w.place, put_long w)

-- what was put at the front of a buffer that holds it is what stands there
pub put_shown : {out text out' : List ℕ} {p : ℕ} → Wrote out 0 text out' p → length text ≤ length out → take p out' ≡ text
put_shown {out} {text} {out'} {p} w h =
    let e : p ≡ length text = omega (arith, w.place) in
    ap (λ (l : List ℕ). take p l) (w.bytes ∙ sets-eq text out 0 (omega arith))
    ∙ take_at text (drop (0 + length text) out) p (sym e)

-- ---- digits

-- one place more changes nothing where the number has no more digits
fewer : (k n : ℕ) → n < 10 ^ suc k → digits (suc (suc k)) n ≡ digits (suc k) n
unfolding digits
fewer zero n h = rw (lt-ltb n 10 h)
fewer (suc k) n h =
    ap (λ (t : List ℕ). cond (ltb n 10) ((48 + n) ∷ []) (t ++ ((48 + n % 10) ∷ [])))
    (fewer k (n / 10) ((div-lt_iff_lt-mul (lit< tt)).1 (rw pow-suc at h)))

most : (k n : ℕ) → length (digits k n) ≤ k
unfolding digits
most zero n = le_refl 0
most (suc k) n = go (ltb n 10) (most k (n / 10))
  where
    go : (t : Bool) → length (digits k (n / 10)) ≤ k → length (cond t ((48 + n) ∷ []) (digits k (n / 10) ++ ((48 + n % 10) ∷ []))) ≤ suc k
    go true g = omega arith
    go false g = rw length-append (omega arith)

one_digit : (n : ℕ) → n < 10 → digits 20 n ≡ (48 + n) ∷ []
unfolding digits
one_digit n h = rw (lt-ltb n 10 h)

last_digit : (k n : ℕ) → 10 ≤ n → digits (suc k) n ≡ digits k (n / 10) ++ ((48 + n % 10) ∷ [])
unfolding digits
last_digit k n h = rw (le-ltb n 10 h)

more_digits : (n : ℕ) → 10 ≤ n → n < 2 ^ 64 → digits 20 n ≡ digits 20 (n / 10) ++ ((48 + n % 10) ∷ [])
more_digits n h f =
    last_digit 19 n h
    ∙ ap (λ (t : List ℕ). t ++ ((48 + n % 10) ∷ [])) (sym (fewer 18 (n / 10) (omega arith)))

-- a tenth of a 64-bit number has a digit less
pub tenth_short : (n : ℕ) → n < 2 ^ 64 → length (digits 20 (n / 10)) ≤ 19
tenth_short n f = rw (fewer 18 (n / 10) (omega arith)) (most 19 (n / 10))

module _ (out : List ℕ) (at x d : ℕ) where
  pub put_one_digit : x < 10 → d ≡ 48 + x → Wrote out at (digits 20 x) (set out at d) (at + 1)
  put_one_digit h e = rw (one_digit x h, e) (record { place = refl; bytes = refl })

  pub put_last_digit :
      10 ≤ x
      → x < 2 ^ 64
      → d ≡ 48 + x % 10
      → {out' : List ℕ} {last : ℕ}
      → Wrote out at (digits 20 (x / 10)) out' last
      → Wrote out at (digits 20 x) (set out' last d) (last + 1)
  put_last_digit h f e w = rw (more_digits x h f, e) (and_then w (record { place = refl; bytes = refl }))

-- ---- a line's numbers

spaced_more : (ns : List ℕ) (n : ℕ) → spaced (ns ++ (n ∷ [])) ≡ spaced ns ++ (32 ∷ digits 20 n)
unfolding spaced
spaced_more [] n = append-nil (32 ∷ digits 20 n)
spaced_more (m ∷ ns) n = rw (spaced_more ns n, append_assoc)

pub spaced_fits : (ns : List ℕ) → length (spaced ns) ≤ 21 * length ns
unfolding spaced
spaced_fits [] = le_refl 0
spaced_fits (n ∷ ns) = let g = spaced_fits ns in let h = most 20 n in rw length-append (omega arith)

pub reply_fits : (c : ℕ) (ns : List ℕ) → length (reply c ns) ≤ 21 * length ns + 2
unfolding reply
reply_fits c ns = let g = spaced_fits ns in rw length-append (omega arith)

-- the next number after those that are put
module _
    (ns : List ℕ) {out₀ : List ℕ} {p₀ : ℕ} {out : List ℕ} {p : ℕ} (i : ℕ)
    (w : Wrote out₀ p₀ (spaced (take i ns)) out p) where
  pub numbers_room : i ≤ length ns → p ≤ p₀ + 21 * i
  numbers_room h = omega (arith, w.place, spaced_fits (take i ns), length-take-le i ns h)

  pub numbers_on :
      i < length ns
      → {out' : List ℕ} {p' : ℕ}
      → Wrote out p (32 ∷ digits 20 (get_or ns i 0)) out' p'
      → Wrote out₀ p₀ (spaced (take (i + 1) ns)) out' p'
  numbers_on h v =
      let e : take (i + 1) ns ≡ take i ns ++ (get_or ns i 0 ∷ []) = rw add-one (take-suc ns i 0 h) in
      put_as (sym (ap spaced e ∙ spaced_more (take i ns) (get_or ns i 0))) (and_then w v)

pub numbers_start : (ns : List ℕ) {out : List ℕ} {p : ℕ} → Wrote out p (spaced (take 0 ns)) out p
unfolding spaced
numbers_start ns = nothing_put

-- a letter in front of the numbers, and a newline after them
pub put_whole :
    (c : ℕ) (ns : List ℕ) {out out₁ out₂ out₃ : List ℕ} {at p q r : ℕ}
    → Wrote out at (c ∷ []) out₁ p
    → Wrote out₁ p (spaced ns) out₂ q
    → Wrote out₂ q (10 ∷ []) out₃ r
    → Wrote out at (reply c ns) out₃ r
unfolding reply
put_whole c ns u v w = and_then (and_then u v) w
