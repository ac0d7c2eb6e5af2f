-- A cancel: the older book has a free place where the order stood, the new one closes up. Both have the same orders left.
use Prim.Native.Nat.{ℕ}
use mathlib.Core.Path.{◌≡◌, refl, sym, ap, ◌∙◌}
use mathlib.Core.Bool.{Bool, true, false, cond, not, ◌&&◌, and-false}
use mathlib.Core.List.{List, [], ◌∷◌, map}
use lib.ListN.{length-map}
use lib.Dec.{eqb}
use Rattle.model.specs.declared.Order.{Order}
use Rattle.model.specs.declared.Day.{Day}
use Rattle.model.specs.Lists.{keep, total}
use Rattle.model.specs.Book.{free, is_live, stands_on, queue, arranged}
use Rattle.model.specs.Refusals.{first_of}
use Rattle.model.specs.Calls.{CancelOutcome, is_own, cancel_rules, cancel_call}
use Rattle.model.proofs.Bools.{not_both}
use Rattle.model.specs.Words.{Each, Apart, Sound}
use Rattle.book.specs.Standing.{Fair, Standing}
use Rattle.book.specs.Priority.{key}
use Rattle.book.proofs.Lists.{each, every, keep_true, keep_false, total_kept}
use Rattle.book.proofs.Queues.{Stands, on_live, number_live, queue_stands}
use Rattle.book.proofs.Kept.{Fresh, fair_free, free_number}
use Rattle.book.proofs.Thinning.{free_nowhere, free_gone, queue_changed, queue_kept}
use Rattle.demands.specs.Older.{older_rules, older_cancel_call}
use Rattle.demands.proofs.SameQueues.{update_alike}
use Rattle.demands.proofs.Twins.{either, Twin, twin_of, twin_stands, twin_length, twin_alike, twin_none, twin_total}
use Rattle.demands.proofs.OlderSound.{older_sound, newer_sound}

-- ---- the orders that a test finds, set free

module _ (test : Order → Bool) where
  abbrev freed : Order → Order
  freed x = cond (test x) free x

  -- it is free, or the order as it was
  as_freed : (P : Order → Type 0) (x : Order) → P free → P x → P (freed x)
  as_freed P x h k = go (test x)
    where
      go : (b : Bool) → P (cond b free x)
      go true = h
      go false = k

  freed_each : (P : Order → Type 0) (os : List Order) → P free → Each P os → Each P (map freed os)
  freed_each P [] h e = tt
  freed_each P (x ∷ os) h e = (as_freed P x h e.0, freed_each P os h e.1)

  freed_apart : (os : List Order) → Apart os → Apart (map freed os)
  freed_apart [] a = tt
  freed_apart (x ∷ os) a = (
    as_freed (λ y. Fresh y.number (map freed os)) x
        (every (λ (y : Order). y.number ≡ free.number → free.number ≡ 0) (map freed os) (λ y e. free_number))
        (freed_each (λ (y : Order). y.number ≡ x.number → x.number ≡ 0) os (λ e. sym e ∙ free_number) a.0),
    freed_apart os a.1,
  )

  freed_stands : (os : List Order) → Standing os → Standing (map freed os)
  freed_stands os s =
      record { fair = freed_each Fair os fair_free s.fair; apart = freed_apart os s.apart }

  freed_on : (side : ℕ) (x : Order) → stands_on side (freed x) ≡ (stands_on side x && is_live (freed x))
  freed_on side x =
      as_freed (λ y. stands_on side y ≡ (stands_on side x && is_live y)) x
      (free_nowhere side ∙ sym (rw free_gone (and-false (stands_on side x))))
      (sym (on (stands_on side x) refl))
    where
      on : (b : Bool) → stands_on side x ≡ b → (b && is_live x) ≡ b
      on true e = number_live x (on_live side x e)
      on false e = refl

  freed_key : (x : Order) → is_live (freed x) ≡ true → key (freed x) ≡ key x
  freed_key x =
      as_freed (λ y. is_live y ≡ true → key y ≡ key x) x (λ e. absurd (not_both e free_gone)) (λ e. refl)

  -- of live orders those are left that it does not find
  freed_live :
      (os : List Order)
      → Each (λ x. is_live x ≡ true) os
      → keep is_live (map freed os) ≡ keep (λ x. not (test x)) os
  unfolding keep
  freed_live [] e = refl
  freed_live (x ∷ os) e = go (test x) (freed_live os e.1)
    where
      go :
          (b : Bool)
          → keep is_live (map freed os) ≡ keep (λ x. not (test x)) os
          → keep is_live (cond b free x ∷ map freed os)
          ≡ cond (not b) (x ∷ keep (λ x. not (test x)) os) (keep (λ x. not (test x)) os)
      go true ih = keep_false is_live free (map freed os) free_gone ∙ ih
      go false ih = keep_true is_live x (map freed os) e.0 ∙ ap (λ (l : List Order). x ∷ l) ih

  freed_queue :
      (side : ℕ) (os : List Order)
      → Standing os
      → queue side (map freed os) ≡ keep (λ x. not (test x)) (queue side os)
  freed_queue side os s =
      queue_changed side freed (freed_on side) freed_key os s.fair (freed_stands os s).fair
      ∙ freed_live (queue side os)
      (each (Stands side) (λ x. is_live x ≡ true) (queue side os) (λ x h. number_live x (on_live side x h.1))
      (queue_stands side os s.fair))

  freed_twin : {n : ℕ} {o c : List Order} → Twin n o c → Twin n (map freed o) (arranged n (keep (λ x. not (test x)) c))
  freed_twin {n} {o} {c} t =
      twin_of (map freed o) (keep (λ x. not (test x)) c) (freed_stands o t.stands) (length-map o freed ∙ t.long)
      (λ side.
      queue_kept side (λ x. not (test x)) c (twin_stands t).fair
      ∙ ap (keep (λ x. not (test x))) (sym (twin_alike t side))
      ∙ sym (freed_queue side o t.stands))

-- ---- the call

free_foreign : (account number : ℕ) → is_own account number free ≡ false
unfolding is_own
free_foreign account number = rw free_gone

-- the same answer, and the books are twins
pub record Freed (n : ℕ) (x y : CancelOutcome) : Type 0 where
  pub answer : x.answer ≡ y.answer
  pub book : Twin n x.book y.book

module _ {n : ℕ} {o c : List Order} (d : Day) (account number : ℕ) (t : Twin n o c) (s : Sound d c) where
  same_refusal : first_of (older_rules d o (cancel_rules d account number o)) ≡ first_of (cancel_rules d account number c)
  unfolding older_rules cancel_rules
  same_refusal =
      rw (older_sound d t s, newer_sound d t s, twin_none t (is_own account number) (free_foreign account number))

  same_left :
      total (λ (x : Order). x.left) (keep (is_own account number) o)
      ≡ total (λ (x : Order). x.left) (keep (is_own account number) c)
  same_left =
      total_kept (λ x. x.left) (is_own account number) o
      ∙ twin_total t (λ x. cond (is_own account number x) x.left 0) (rw (free_foreign account number))
      ∙ sym (total_kept (λ x. x.left) (is_own account number) c)

  pub older_cancel : Freed n (older_cancel_call d account number o) (cancel_call d account number c)
  unfolding older_cancel_call cancel_call
  older_cancel =
      rw (same_refusal, same_left, twin_length t)
      (either (Freed n) (eqb (first_of (cancel_rules d account number c)) 0)
      (λ e. record { answer = rw (update_alike _ _ (twin_alike left) [] d); book = left })
      (record { answer = refl; book = t }))
    where
      left : Twin n (map (freed (is_own account number)) o) (arranged n (keep (λ x. not (is_own account number x)) c))
      left = freed_twin (is_own account number) t
