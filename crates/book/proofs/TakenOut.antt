-- An order taken out of a book in order: it stands before the free places, those behind it move up by one place, and that is the book
-- arranged without it.
use Prim.Native.Nat.{ℕ, zero, suc, ◌+◌, ◌-◌, ◌≤◌, ◌<◌}
use mathlib.Core.Path.{◌≡◌, refl, sym, ap, ◌∙◌}
use mathlib.Core.Bool.{Bool, true, not}
use mathlib.Core.List.{List, [], ◌∷◌, ◌++◌, append_assoc}
use native.Mathlib.Omega.{arith}
use native.Mathlib.Decide.{dec_lt}
use native.Mathlib.Numerals.{add-one}
use lib.ListN.{length, get_or, take, drop, replicate, length-append, length-drop, take-append-drop, replicate-append-replicate}
use lib.Seq.{drop-append-le, get_or-append-add, length-take-le}
use Rattle.model.specs.declared.Order.{Order}
use Rattle.model.specs.Lists.{keep}
use Rattle.model.specs.Book.{free, queue, arranged}
use Rattle.model.specs.Calls.{is_own}
use Rattle.book.specs.Standing.{Ranked}
use Rattle.book.specs.Lines.{line}
use Rattle.book.specs.Places.{place_of}
use Rattle.book.specs.Settling.{placed}
use Rattle.book.proofs.Lists.{keep_all, keep_append, length_keep}
use Rattle.book.proofs.Kept.{free_number}
use Rattle.book.proofs.Finding.{cancel_keeps, free_foreign}
use Rattle.book.proofs.Thinning.{queue_kept}
use Rattle.book.proofs.Parts.{parts_of, parts_length, each_same, placed_fit}
use Rattle.book.proofs.Lines.{rows_length}
use Rattle.book.proofs.Fronts.{free_behind, placed_more}

-- ---- the places

module _ (rows : List Order) (ranked : Ranked rows) {place end : ℕ} (en : end ≡ length (queue 0 rows) + length (queue 1 rows)) (h : place < end) where
  frees_last : drop end rows ++ (free ∷ []) ≡ free ∷ drop end rows
  frees_last =
      let frees : drop end rows ≡ replicate (length rows - end) free = free_behind rows ranked en in
      let swap : (length rows - end) + 1 ≡ suc (length rows - end) = omega arith in
      ap (λ (l : List Order). l ++ (free ∷ [])) frees
      ∙ replicate-append-replicate (length rows - end) 1 free
      ∙ ap (λ i. replicate i free) swap
      ∙ ap (λ (l : List Order). free ∷ l) (sym frees)

  line_on : drop (place + 1) rows ≡ line (place + 1) end rows ++ drop end rows
  unfolding line
  line_on =
      ap (drop (place + 1)) (sym (take-append-drop end rows))
      ∙ drop-append-le (place + 1) (take end rows) (drop end rows)
      (omega (arith, length-take-le end rows (omega (arith, en, rows_length rows (parts_of rows ranked)))))

  pub out_of_order :
      {book : List Order}
      → book ≡ take place rows ++ (line (place + 1) end rows ++ (replicate (place + 1 - place) free ++ drop end rows))
      → book ≡ take place rows ++ (drop (place + 1) rows ++ (free ∷ []))
  out_of_order e =
      let one : place + 1 - place ≡ 1 = omega arith in
      e
      ∙ ap (λ i. take place rows ++ (line (place + 1) end rows ++ (replicate i free ++ drop end rows))) one
      ∙ ap (λ (l : List Order). take place rows ++ l)
      (ap (λ (l : List Order). line (place + 1) end rows ++ l) (sym frees_last)
      ∙ sym (append_assoc (line (place + 1) end rows) (drop end rows) (free ∷ []))
      ∙ ap (λ (l : List Order). l ++ (free ∷ [])) (sym line_on))

-- ---- who is live stands before the free places

free_at : (k i : ℕ) → get_or (replicate k free) i free ≡ free
free_at zero i = refl
free_at (suc k) zero = refl
free_at (suc k) (suc i) = free_at k i

module _ (book : List Order) (r : Ranked book) where
  abbrev both : List Order
  both = queue 0 book ++ queue 1 book

  abbrev spare : ℕ
  spare = length book - (length (queue 0 book) + length (queue 1 book))

  long : length both ≡ length (queue 0 book) + length (queue 1 book)
  long = length-append (queue 0 book) (queue 1 book)

  two : book ≡ both ++ replicate spare free
  two = (parts_of book r).made ∙ sym (append_assoc (queue 0 book) (queue 1 book) (replicate spare free))

  pub live_before : (i : ℕ) → ((get_or book i free).number ≡ 0 → ⊥) → i < length (queue 0 book) + length (queue 1 book)
  live_before i n = elim (dec_lt i (length (queue 0 book) + length (queue 1 book))) [
    | yes l ↦ l
    | no l ↦ absurd (n (ap (λ (o : Order). o.number) (nobody (omega arith)) ∙ free_number))
  ]
    where
      nobody : length (queue 0 book) + length (queue 1 book) ≤ i → get_or book i free ≡ free
      nobody h =
          let k : i ≡ length both + (i - length both) = omega (arith, long) in
          ap (λ (l : List Order). get_or l i free) two
          ∙ ap (λ m. get_or (both ++ replicate spare free) m free) k
          ∙ get_or-append-add both (replicate spare free) (i - length both) free
          ∙ free_at spare (i - length both)

  -- ---- the book without those that fail a test which free places pass

  pub kept_arranged :
      (p : Order → Bool)
      → p free ≡ true
      → arranged (length book) (keep p book) ≡ placed (length book) (keep p book)
  unfolding arranged placed
  kept_arranged p f =
      rw (queue_kept 0 p book r.stands.fair, queue_kept 1 p book r.stands.fair)
      (ap (take (length book)) (sym (append_assoc (keep p (queue 0 book)) (keep p (queue 1 book)) (replicate (length book) free)))
      ∙ ap (λ (l : List Order). take (length book) (l ++ replicate (length book) free)) (sym (keep_append p (queue 0 book) (queue 1 book)))
      ∙ sym (placed_more (length book) spare (keep p both) fits)
      ∙ ap (λ (l : List Order). take (length book) (l ++ replicate (length book) free)) (sym whole))
    where
      fits : length (keep p both) + spare ≤ length book
      fits = omega (arith, length_keep p both, long, parts_length (parts_of book r))

      whole : keep p book ≡ keep p both ++ replicate spare free
      whole =
          ap (keep p) two
          ∙ keep_append p both (replicate spare free)
          ∙ ap (λ (l : List Order). keep p both ++ l) (keep_all p (replicate spare free) (each_same (λ o. p o ≡ true) spare free f))

  -- a cancel
  pub cancel_arranged :
      (account number : ℕ) {place : ℕ}
      → place ≡ place_of account number book
      → place < length book
      → take place book ++ (drop (place + 1) book ++ (free ∷ [])) ≡ arranged (length book) (keep (λ o. not (is_own account number o)) book)
  unfolding placed
  cancel_arranged account number {place} e h =
      sym
      (kept_arranged (λ o. not (is_own account number o)) (free_foreign account number)
      ∙ ap (placed (length book)) (cancel_keeps account number book r.stands.apart
      ∙ ap (λ k. take k book ++ drop (suc k) book) (sym e)
      ∙ ap (λ k. take place book ++ drop k book) (sym (add-one place)))
      ∙ placed_fit (length book) (take place book ++ drop (place + 1) book) (omega (arith, less))
      ∙ rw one (append_assoc (take place book) (drop (place + 1) book) (free ∷ [])))
    where
      less : length (take place book ++ drop (place + 1) book) + 1 ≡ length book
      less =
          omega (
            arith,
            length-append (take place book) (drop (place + 1) book),
            length-take-le place book (omega arith),
            length-drop (place + 1) book,
          )

      one : length book - length (take place book ++ drop (place + 1) book) ≡ 1
      one = omega (arith, less)
