-- A fixed-price cancel: which of its rules is the first to hold, and what it comes to. Assumes nothing.
use Prim.Native.Nat.{ℕ, zero, suc, ◌≤◌, ◌<◌}
use mathlib.Core.Path.{◌≡◌, refl, sym, ap, ◌∙◌}
use mathlib.Core.Bool.{Bool, true, false, not}
use mathlib.Core.List.{List, [], ◌∷◌, ◌++◌}
use native.Mathlib.Omega.{arith}
use lib.ListN.{length, get_or, set, take, drop, replicate, length-map, length-set}
use lib.Seq.{set_split}
use lib.Dec.{eqb}
use borrow.Author.Tests.{lt-ltb, le-ltb, eq-eqb, ne_eqb}
use Rattle.model.specs.declared.Order.{Order}
use Rattle.model.specs.declared.Day.{Day}
use Rattle.model.specs.declared.CancelReply.TheVariants.{Refused, Withdrawn}
use Rattle.model.specs.Lists.{keep, total}
use Rattle.model.specs.Clock.{long_hours}
use Rattle.model.specs.Book.{free, is_live}
use Rattle.model.specs.Arrival.{is_taken, in_places}
use Rattle.model.specs.Auction.{shares_of}
use Rattle.model.specs.FixedBook.{lined}
use Rattle.model.specs.Refusals.{◌when◌, first_of, unsound, unsound_fixed}
use Rattle.model.specs.Calls.{is_own}
use Rattle.model.specs.FixedCalls.{fixed_cancel_rules, fixed_cancel_call}
use Rattle.model.specs.Words.{Each, Apart}
use Rattle.model.proofs.Bools.{not_both}
use Rattle.book.specs.Places.{place_of}
use Rattle.book.specs.Standing.{Fair}
use Rattle.book.specs.Promises.{fixed_cancel_left}
use Rattle.book.proofs.Finding.{own_any, cancel_keeps, cancel_left_lem}
use Rattle.book.proofs.Lists.{each, every, keep_append, keep_true, keep_false}
use Rattle.book.proofs.Kept.{free_number}
use Rattle.book.proofs.Sorting.{Distinct}
use Rattle.book.proofs.Counting.{not_live}
use Rattle.arrivals.proofs.Lines.{in_line, not_taken, rising_distinct}
use Rattle.fixed_book.specs.Ready.{Lined}
use Rattle.fixed_book.specs.Line.{Tidy}
use Rattle.fixed_book.proofs.Sides.{live_taken}

abbrev number : Order → ℕ
number o = o.number

-- ---- one number, one order

-- who is live has what all live ones have
passing : (P : Order → Type 0) (os : List Order) → Each P (keep is_live os) → Each (λ o. is_live o ≡ true → P o) os
passing P [] e = tt
passing P (o ∷ os) e = go (is_live o) refl (passing P os)
  where
    go :
        (b : Bool)
        → is_live o ≡ b
        → (Each P (keep is_live os) → Each (λ x. is_live x ≡ true → P x) os)
        → (is_live o ≡ true → P o) × Each (λ x. is_live x ≡ true → P x) os
    go true t more = let f : Each P (o ∷ keep is_live os) = rw (keep_true is_live o os t) at e in (λ _. f.0, more f.1)
    go false t more = (λ u. absurd (not_both u t), more (rw (keep_false is_live o os t) at e))

distinct_apart : (os : List Order) → Distinct number (keep is_live os) → Apart os
distinct_apart [] d = tt
distinct_apart (o ∷ os) d = go (is_live o) refl (distinct_apart os)
  where
    beside : (p : Order) → (is_live p ≡ true → p.number ≡ o.number → ⊥) → (b : Bool) → is_live p ≡ b → p.number ≡ o.number → o.number ≡ 0
    beside p f true e z = absurd (f e z)
    beside p f false e z = sym z ∙ not_live p e

    go : (b : Bool) → is_live o ≡ b → (Distinct number (keep is_live os) → Apart os) → Apart (o ∷ os)
    go true e more =
        let f : Distinct number (o ∷ keep is_live os) = rw (keep_true is_live o os e) at d in (
          each (λ p. is_live p ≡ true → p.number ≡ o.number → ⊥) (λ p. p.number ≡ o.number → o.number ≡ 0) os (λ p h. beside p h (is_live p) refl)
              (passing (λ p. p.number ≡ o.number → ⊥) os f.0),
          more f.1,
        )
    go false e more =
        (every (λ (p : Order). p.number ≡ o.number → o.number ≡ 0) os (λ p _. not_live o e), more (rw (keep_false is_live o os e) at d))

lined_apart : (book : List Order) → Lined book → Apart book
lined_apart book l =
    distinct_apart book
    (rw (live_taken book) (rising_distinct number 0 (keep (is_taken number) book) (in_line number book l.arrived).rises))

-- ---- the line without an order

tidy_set : (book : List Order) (i : ℕ) → Tidy book → Tidy (set book i free)
tidy_set [] i t = tt
tidy_set (o ∷ os) zero t = (λ _. refl, t.1)
tidy_set (o ∷ os) (suc i) t = (t.0, tidy_set os i t.1)

module _ (account wanted : ℕ) (book : List Order) (l : Lined book) where
  abbrev place : ℕ
  place = place_of account wanted book

  left_out_lem : place < length book → lined (length book) (set book place free) ≡ lined (length book) (keep (λ o. not (is_own account wanted o)) book)
  unfolding lined in_places
  left_out_lem h =
      ap (λ (os : List Order). take (length book) (os ++ replicate (length book) free))
      (ap (keep (is_taken number)) (set_split book place free h)
      ∙ keep_append (is_taken number) (take place book) (free ∷ drop (suc place) book)
      ∙ ap (λ (os : List Order). keep (is_taken number) (take place book) ++ os)
      (keep_false (is_taken number) free (drop (suc place) book) (not_taken number free free_number))
      ∙ sym (keep_append (is_taken number) (take place book) (drop (suc place) book))
      ∙ ap (keep (is_taken number)) (sym (cancel_keeps account wanted book (lined_apart book l))))

-- ---- the rules

module _ (d : Day) (account wanted : ℕ) (main : List Order) (rows : List Order) where
  abbrev book : List Order
  book = rows

  abbrev told : ℕ
  told = first_of (fixed_cancel_rules d account wanted main book)

  pub main_unsound : unsound d main ≡ true → 15 ≡ told
  unfolding fixed_cancel_rules first_of ◌when◌
  main_unsound u = rw u

  pub cancel_refused_lem : {n : ℕ} → n ≡ told → (n ≡ 0 → ⊥) → fixed_cancel_left (Refused n) rows ≡ fixed_cancel_call d account wanted main book
  unfolding fixed_cancel_call
  cancel_refused_lem {n} e z = rw (ne_eqb told 0 (λ y. z (e ∙ y)), e)

  module _ (u : unsound d main ≡ false) where
    pub fixed_unsound : unsound_fixed d book ≡ true → 15 ≡ told
    unfolding fixed_cancel_rules first_of ◌when◌
    fixed_unsound v = rw (u, v)

    module _ (v : unsound_fixed d book ≡ false) where
      pub shut : long_hours d.time ≡ false → 19 ≡ told
      unfolding fixed_cancel_rules first_of ◌when◌
      shut h = rw (u, v, h)

      module _ (h : long_hours d.time ≡ true) {place : ℕ} (p : place ≡ place_of account wanted book) where
        pub unknown : length rows ≤ place → 12 ≡ told
        unfolding fixed_cancel_rules first_of ◌when◌
        unknown k =
            rw (u, v, h, own_any account wanted book, le-ltb (place_of account wanted book) (length book) (omega arith))

        none_holds : place < length rows → 0 ≡ told
        unfolding fixed_cancel_rules first_of ◌when◌
        none_holds k =
            rw (u, v, h, own_any account wanted book, lt-ltb (place_of account wanted book) (length book) (omega arith))

        -- ---- what an accepted one comes to
        pub cancelled :
            (rows₂ : List Order) {o own : Order} {rows₁ : List Order}
            → Lined book
            → place < length rows
            → own ≡ get_or rows place free
            → o ≡ free
            → rows₁ ≡ set rows place o
            → rows₂ ≡ lined (length rows₁) rows₁
            → fixed_cancel_left (Withdrawn own.left) rows₂ ≡ fixed_cancel_call d account wanted main book
        unfolding fixed_cancel_call shares_of
        cancelled rows₂ {o} {own} {rows₁} l k eo e er eb =
            let z : eqb told 0 ≡ true = eq-eqb told 0 (sym (none_holds k)) in
            let shares : own.left ≡ total (λ (x : Order). x.left) (keep (is_own account wanted) book) =
            ap (λ (x : Order). x.left) (eo ∙ ap (λ n. get_or rows n free) p)
            ∙ sym (cancel_left_lem account wanted book (lined_apart book l))
            in
            let long : length rows₁ ≡ length book = ap length er ∙ length-set rows place o in
            let put : rows₁ ≡ set book (place_of account wanted book) free =
            er ∙ ap (λ (x : Order). set book place x) e ∙ ap (λ n. set book n free) p
            in
            let then : rows₂ ≡ lined (length book) (keep (λ (x : Order). not (is_own account wanted x)) book) =
            eb
            ∙ ap (λ n. lined n rows₁) long
            ∙ ap (lined (length book)) put
            ∙ left_out_lem account wanted book l (omega (arith, p))
            in
            rw (z, shares, then)

  -- who leaves leaves a place of zeros
  pub leaves_tidy : {o : Order} {rows₁ : List Order} (place : ℕ) → Lined book → o ≡ free → rows₁ ≡ set rows place o → Tidy rows₁
  leaves_tidy {o} {rows₁} place l e er =
      let put : rows₁ ≡ set book place free =
      er ∙ ap (λ (x : Order). set book place x) e
      in
      rw put (tidy_set book place (each Fair (λ x. x.number ≡ 0 → x ≡ free) book (λ x h. h.none) l.fair))
