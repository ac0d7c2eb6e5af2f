-- Orders brought up one behind the other: those looked at so far stand first, free places behind them, and the rest as it was.
-- Assumes nothing.
use Prim.Native.Nat.{ℕ, suc, ◌+◌, ◌-◌, ◌≤◌, ◌<◌}
use mathlib.Core.Path.{◌≡◌, refl, sym, ap, ◌∙◌}
use mathlib.Core.Bool.{Bool, true, false}
use mathlib.Core.List.{List, [], ◌∷◌, ◌++◌, append_assoc, append-nil}
use native.Mathlib.Omega.{arith}
use native.Mathlib.Numerals.{add-one}
use lib.ListN.{length, get_or, take, drop, set, replicate, length-append, length-replicate, length-drop, drop_of_length-le, replicate-append-replicate}
use lib.Seq.{take-suc, take_all, drop-cons, length-take-le, set_at, set-set, set_comm, set-get_or, get_or_at}
use Rattle.model.specs.declared.Order.{Order}
use Rattle.model.specs.Lists.{keep}
use Rattle.model.specs.Book.{free, is_live}
use Rattle.model.specs.FixedBook.{lined}
use Rattle.model.proofs.Bools.{not_both}
use Rattle.book.proofs.Lists.{keep_append, keep_true, keep_false, length_keep, each_at}
use Rattle.book.proofs.Kept.{free_number}
use Rattle.book.proofs.Counting.{not_live}
use Rattle.arrivals.proofs.Places.{places_fit}
use Rattle.fixed_book.specs.Line.{Tidy, BroughtUp}
use Rattle.fixed_book.proofs.Sides.{live_taken}

-- ---- one order

-- an order that stays
pub stays_up :
    (from to : ℕ) (book : List Order)
    → is_live (get_or book from free) ≡ true
    → from ≡ to
    → BroughtUp from to book book (to + 1)
stays_up from to book e s =
    record {
      live = λ _. (rw (← s) (sym (set-set book from free (get_or book from free) ∙ set-get_or book from free)), refl);
      none = λ g. absurd (not_both e g);
    }

-- an order that goes to a place before its own
pub goes_up :
    (from to : ℕ) (book : List Order) {o p : Order}
    → o ≡ get_or book from free
    → is_live (get_or book from free) ≡ true
    → (from ≡ to → ⊥)
    → p ≡ free
    → BroughtUp from to book (set (set book to o) from p) (to + 1)
goes_up from to book e f n g =
    record {
      live = λ _. (rw (e, g) (set_comm book to from (get_or book from free) free (λ s. n (sym s))), refl);
      none = λ z. absurd (not_both f z);
    }

-- ---- the loop

pub record Closing (book₀ book : List Order) (to i : ℕ) : Type 0 where
  pub made : book ≡ keep is_live (take i book₀) ++ (replicate (i - to) free ++ drop i book₀)
  pub count : to ≡ length (keep is_live (take i book₀))
  pub within : i ≤ length book₀

pub closing_start : (book₀ : List Order) → Closing book₀ book₀ 0 0
closing_start book₀ = record { made = unfold keep in refl; count = unfold keep in refl; within = omega arith }

module _ (book₀ : List Order) {book : List Order} {to i : ℕ} (c : Closing book₀ book to i) where
  abbrev front : List Order
  front = keep is_live (take i book₀)

  -- no more have come up than were looked at
  pub up_to : to ≤ i
  up_to = omega (arith, c.count, length_keep is_live (take i book₀), length-take-le i book₀ c.within)

  pub closing_long : length book ≡ length book₀
  closing_long =
      ap length c.made
      ∙ length-append front (replicate (i - to) free ++ drop i book₀)
      ∙ omega (
        arith,
        length-append (replicate (i - to) free) (drop i book₀),
        length-replicate (i - to) free,
        length-drop i book₀,
        c.count,
        c.within,
        up_to,
      )

  module _ (inside : i < length book₀) where
    abbrev o : Order
    o = get_or book₀ i free

    abbrev behind : List Order
    behind = drop (i + 1) book₀

    abbrev frees : List Order
    frees = replicate (i - to) free

    here : book ≡ front ++ (frees ++ (o ∷ behind))
    here =
        c.made
        ∙ ap (λ (l : List Order). front ++ (frees ++ l)) (drop-cons book₀ i free inside ∙ ap (λ n. o ∷ drop n book₀) (sym (add-one i)))

    long : length (front ++ frees) ≡ i
    long = length-append front frees ∙ omega (arith, c.count, length-replicate (i - to) free, up_to)

    in_two : book ≡ (front ++ frees) ++ (o ∷ behind)
    in_two = here ∙ sym (append_assoc front frees (o ∷ behind))

    pub next_is : get_or book i free ≡ get_or book₀ i free
    next_is = ap (λ (l : List Order). get_or l i free) in_two ∙ get_or_at (front ++ frees) o behind free i long

    taken_more : take (i + 1) book₀ ≡ take i book₀ ++ (o ∷ [])
    taken_more = ap (λ n. take n book₀) (add-one i) ∙ take-suc book₀ i free inside

    kept_more : keep is_live (take (i + 1) book₀) ≡ front ++ keep is_live (o ∷ [])
    kept_more = ap (keep is_live) taken_more ∙ keep_append is_live (take i book₀) (o ∷ [])

    -- a free one and its places move on by one
    shift : frees ++ (free ∷ behind) ≡ free ∷ (frees ++ behind)
    shift =
        let n : (i - to) + 1 ≡ suc (i - to) = omega arith in
        sym (append_assoc frees (free ∷ []) behind)
        ∙ ap (λ (l : List Order). l ++ behind) (replicate-append-replicate (i - to) 1 free ∙ ap (λ k. replicate k free) n)

    one_live : is_live o ≡ true → keep is_live (o ∷ []) ≡ o ∷ []
    one_live e = keep_true is_live o [] e ∙ unfold keep in refl

    one_none : is_live o ≡ false → keep is_live (o ∷ []) ≡ []
    one_none e = keep_false is_live o [] e ∙ unfold keep in refl

    module _ (tidy : Tidy book₀) {book' : List Order} {next : ℕ} (b : BroughtUp i to book book' next) where
      live_next : is_live o ≡ true → Closing book₀ book' next (i + 1)
      live_next e =
          let step = b.live (rw next_is e) in
          let n : i + 1 - (to + 1) ≡ i - to = omega arith in
          let kept : keep is_live (take (i + 1) book₀) ≡ front ++ (o ∷ []) = kept_more ∙ ap (λ (l : List Order). front ++ l) (one_live e) in
          record {
            made =
                step.0
                ∙ ap (λ (x : Order). set (set book i free) to x) next_is
                ∙ ap (λ (l : List Order). set (set l i free) to o) in_two
                ∙ ap (λ (l : List Order). set l to o) (set_at (front ++ frees) o behind free i long)
                ∙ ap (λ (l : List Order). set l to o) (append_assoc front frees (free ∷ behind) ∙ ap (λ (l : List Order). front ++ l) shift)
                ∙ set_at front free (frees ++ behind) o to (sym c.count)
                ∙ sym (append_assoc front (o ∷ []) (frees ++ behind))
                ∙ rw (kept, step.1, n);
            count = step.1 ∙ sym (ap length kept ∙ length-append front (o ∷ []) ∙ omega (arith, c.count));
            within = omega arith;
          }

      none_next : is_live o ≡ false → Closing book₀ book' next (i + 1)
      none_next e =
          let step = b.none (rw next_is e) in
          let n : i + 1 - to ≡ suc (i - to) = omega (arith, up_to) in
          let gone : o ≡ free = each_at (λ x. x.number ≡ 0 → x ≡ free) book₀ free tidy i inside (not_live o e) in
          let kept : keep is_live (take (i + 1) book₀) ≡ front =
          kept_more ∙ ap (λ (l : List Order). front ++ l) (one_none e) ∙ append-nil front
          in
          record {
            made =
                step.0
                ∙ here
                ∙ ap (λ (x : Order). front ++ (frees ++ (x ∷ behind))) gone
                ∙ ap (λ (l : List Order). front ++ l) shift
                ∙ rw (kept, step.1, n);
            count = step.1 ∙ c.count ∙ sym (ap length kept);
            within = omega arith;
          }

      pub closing_next : Closing book₀ book' next (i + 1)
      closing_next = go (is_live o) refl
        where
          go : (t : Bool) → is_live o ≡ t → Closing book₀ book' next (i + 1)
          go true e = live_next e
          go false e = none_next e

  pub closing_end : length book₀ ≤ i → book ≡ lined (length book₀) book₀
  unfolding lined
  closing_end h =
      let n : i ≡ length book₀ = omega (arith, c.within) in
      let all : take i book₀ ≡ book₀ = take_all i book₀ h in
      let none : drop i book₀ ≡ [] = drop_of_length-le book₀ h in
      let m : i - to ≡ length book₀ - length (keep is_live book₀) = omega (arith, c.count, ap (λ (l : List Order). length (keep is_live l)) all) in
      let fit : keep is_live book₀ ++ replicate (length book₀ - length (keep is_live book₀)) free ≡ lined (length book₀) book₀ =
      rw (live_taken book₀) (sym (places_fit (λ (x : Order). x.number) free free_number (length book₀) book₀ (length_keep _ book₀)))
      in
      c.made
      ∙ rw (all, none, m) (ap (λ (l : List Order). keep is_live book₀ ++ l) (append-nil (replicate (length book₀ - length (keep is_live book₀)) free)) ∙ fit)
