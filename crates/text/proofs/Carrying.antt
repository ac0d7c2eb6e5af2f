-- What is carried over from chunk to chunk stands for the bytes that it leaves out. Assumes nothing.
use Prim.Native.Nat.{ℕ, zero, suc, ◌-◌, ◌≤◌, ◌<◌}
use mathlib.Core.Path.{◌≡◌, refl, sym, ap, ◌∙◌}
use mathlib.Core.Bool.{Bool, true, false, cond, ◌||◌}
use mathlib.Core.List.{List, [], ◌∷◌, ◌++◌, map, append-nil}
use native.Mathlib.Nat.{le_refl}
use native.Mathlib.Omega.{arith}
use lib.Dec.{ltb}
use lib.ListN.{length, take, drop, length-append}
use lib.Seq.{take-length, take-nil}
use borrow.Author.Tests.{lt-ltb, le-ltb, ltb-true, ltb-false}
use Rattle.model.specs.Lines.{lines_of}
use Rattle.text.specs.declared.Carry.{Carry}
use Rattle.text.specs.Readers.{Reader, Strict, after_first, rest_asks, commands}
use Rattle.text.specs.Chunks.{carry_of, CarriedOver, is_left}
use Rattle.parsing.proofs.Forms.{unended_is, long_is}
use Rattle.text.proofs.Chunks.{Unended, onto_all, grown_first, first_text, first_ended, lines_grow}

-- what is read from a buffer up to n stands there from any place on
pub drop_take : (at n : ℕ) (buf : List ℕ) → drop at (take n buf) ≡ take (n - at) (drop at buf)
drop_take zero n buf = let e : n ≡ n - 0 = omega arith in ap (λ (k : ℕ). take k buf) e
drop_take (suc at) zero buf =
    let e : 0 ≡ 0 - suc at = omega arith in ap (λ (k : ℕ). take k (drop (suc at) buf)) e
drop_take (suc at) (suc n) [] = sym (take-nil (suc n - suc at))
drop_take (suc at) (suc n) (b ∷ buf) =
    let e : n - at ≡ suc n - suc at = omega arith in drop_take at n buf ∙ ap (λ (k : ℕ). take k (drop at buf)) e

-- ---- the carry

abbrev kept_if : Bool → List ℕ → Carry
kept_if b t = cond b (record { kept = 0; long = true }) (record { kept = length t; long = false })

-- it keeps no more than there is, and never more than 79 bytes
pub kept_fits : (long : Bool) (t : List ℕ) → (carry_of long t).kept ≤ length t
unfolding carry_of
kept_fits long t = go (long || ltb 79 (length t))
  where
    go : (b : Bool) → (kept_if b t).kept ≤ length t
    go true = omega arith
    go false = le_refl (length t)

pub kept_few : (long : Bool) (t : List ℕ) → (carry_of long t).kept ≤ 79
unfolding carry_of
kept_few true t = omega arith
kept_few false t = go (ltb 79 (length t)) refl
  where
    go : (b : Bool) → ltb 79 (length t) ≡ b → (kept_if b t).kept ≤ 79
    go true e = omega arith
    go false e = ltb-false 79 (length t) e

pub commands_strict : Strict commands
commands_strict = record { unended = λ t. sym (unended_is t false refl); long = λ t b h. sym (long_is t b h) }

module _ {A : Type 0} (r : Reader A) (strict : Strict r) where
  module _ (more : List ℕ) where
    -- more bytes of a line that is too long change nothing
    long_on : (t : List ℕ) → Unended t → rest_asks r true (t ++ more) ≡ rest_asks r true more
    unfolding rest_asks onto_all
    long_on [] u = refl
    long_on (b ∷ t) u = rw (lines_grow (b ∷ t) more u, grown_first b t (lines_of more))

    -- a line of 80 bytes is malformed, however it goes on
    long_now : (t : List ℕ) → Unended t → 79 < length t → rest_asks r false (t ++ more) ≡ rest_asks r true more
    unfolding rest_asks onto_all
    long_now [] u h = absurd (omega arith)
    long_now (b ∷ t) u h =
        rw (lines_grow (b ∷ t) more u, grown_first b t (lines_of more))
        (ap (λ (a : A). a ∷ map r.asks (after_first (lines_of more)))
        (strict.long ((b ∷ t) ++ first_text (lines_of more)) (first_ended (lines_of more)) (rw length-append (omega arith))))

    pub carried :
        (long : Bool) (t : List ℕ)
        → Unended t
        → rest_asks r long (t ++ more) ≡ rest_asks r (carry_of long t).long (take (carry_of long t).kept t ++ more)
    unfolding carry_of
    carried true t u = long_on t u
    carried false t u = go (ltb 79 (length t)) refl
      where
        go :
            (b : Bool)
            → ltb 79 (length t) ≡ b
            → rest_asks r false (t ++ more)
            ≡ rest_asks r (kept_if b t).long (take (kept_if b t).kept t ++ more)
        go true e = long_now t u (ltb-true 79 (length t) e)
        go false e = ap (λ (l : List ℕ). rest_asks r false (l ++ more)) (sym (take-length t))

  -- an unended line at the end of the input is malformed
  end_open : (t : List ℕ) → Unended t → rest_asks r false t ≡ cond (ltb 0 (length t)) (r.malformed ∷ []) []
  unfolding rest_asks lines_of
  end_open [] u = refl
  end_open (b ∷ t) u =
      sym (ap (λ (l : List ℕ). map r.asks (lines_of l)) (append-nil (b ∷ t)))
      ∙ rw (lines_grow (b ∷ t) [] u, grown_first b t [], lt-ltb 0 (suc (length t)) (omega arith))
      (ap (λ (a : A). a ∷ []) (strict.unended (b ∷ t ++ [])))

  end_long : (t : List ℕ) → Unended t → rest_asks r true t ≡ r.malformed ∷ []
  unfolding rest_asks lines_of
  end_long t u = sym (ap (rest_asks r true) (append-nil t)) ∙ long_on [] t u

  pub ended :
      (c : Carry) (t : List ℕ)
      → Unended t
      → length t ≡ c.kept
      → rest_asks r c.long t ≡ cond (is_left c) (r.malformed ∷ []) []
  ended c t u e = go c.long
    where
      go : (b : Bool) → rest_asks r b t ≡ cond (b || ltb 0 c.kept) (r.malformed ∷ []) []
      go true = end_long t u
      go false = end_open t u ∙ ap (λ (k : ℕ). cond (ltb 0 k) (r.malformed ∷ []) []) e

-- ---- the buffer that is carried over

module _ (before tail after : List ℕ) where
  pub carried_long :
      (long : Bool)
      → long ≡ true
      → after ≡ before
      → CarriedOver before tail long after (record { kept = 0; long = true })
  unfolding carry_of
  carried_long long e f = record { carry = rw e; bytes = f }

  pub carried_grown :
      (long : Bool)
      → long ≡ false
      → 79 < length tail
      → after ≡ before
      → CarriedOver before tail long after (record { kept = 0; long = true })
  unfolding carry_of
  carried_grown long e h f = record { carry = rw (e, lt-ltb 79 (length tail) h); bytes = f }

  pub carried_whole :
      (long : Bool) (n : ℕ)
      → long ≡ false
      → n ≡ length tail
      → n ≤ 79
      → after ≡ tail ++ drop n before
      → CarriedOver before tail long after (record { kept = n; long = false })
  unfolding carry_of
  carried_whole long n e l h f = record {
    carry = rw (e, le-ltb 79 (length tail) (omega arith), l);
    bytes = f ∙ ap (λ (t : List ℕ). t ++ drop n before) (sym (ap (λ (k : ℕ). take k tail) l ∙ take-length tail));
  }
