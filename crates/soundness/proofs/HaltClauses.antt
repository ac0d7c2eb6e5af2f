-- What the clauses of a day's halt say, as plain facts. Assumes nothing.
use Prim.Native.Nat.{◌≤◌}
use mathlib.Core.Path.{◌≡◌}
use mathlib.Core.Logic.{◌⊎◌, inl, inr, ⊎_elim}
use mathlib.Core.Bool.{true}
use native.Mathlib.Nat.{lt_of_not-le, not-le_of_lt}
use Rattle.model.specs.declared.Day.{Day}
use Rattle.model.specs.Halts.{runs}
use Rattle.model.specs.Sound.{is_mark, is_led_to, is_used, halt_fits}
use Rattle.model.proofs.Bools.{not_both, not_false_true}
use Rattle.soundness.specs.SoundDay.{HaltDay}
use Rattle.soundness.proofs.Says.{Says, says_le, says_eq, says_and, says_or, says_too, says_not, says_itself}

pub says_runs : (d : Day) → Says (runs d) (d.halt ≡ 0 → ⊥)
unfolding runs
says_runs d = says_not (says_eq d.halt 0)

module _ (d : Day) where
  abbrev Runs : Type 0
  Runs = d.halt ≡ 0 → ⊥

  abbrev Thirty : Type 0
  Thirty = d.used30 ≡ 1

  abbrev Sixty : Type 0
  Sixty = d.used60 ≡ 1

  abbrev Led : Type 0
  Led = is_led_to d.halt d.time ≡ true

  -- the clauses, word for word
  abbrev Clauses : Type 0
  Clauses =
      (((((d.used30 ≤ 1) × (d.used60 ≤ 1)) × (Runs × ((d.halt ≤ d.time) ⊎ (Led → ⊥)) → ⊥)) × (Sixty × (Thirty → ⊥) → ⊥))
      × (Runs × (Thirty ⊎ Sixty → ⊥) → ⊥))
      × (((Runs ⊎ Thirty) ⊎ Sixty) × ((d.limited ≡ 1) ⊎ (d.shares ≡ 0)) → ⊥)

  says_clauses : Says (halt_fits d) Clauses
  unfolding halt_fits is_mark is_used
  says_clauses =
      says_and
      (says_and
      (says_and
      (says_and (says_and (says_le d.used30 1) (says_le d.used60 1))
      (says_not (says_and (says_runs d) (says_or (says_le d.halt d.time) (says_not (says_itself (is_led_to d.halt d.time)))))))
      (says_not (says_and (says_eq d.used60 1) (says_not (says_eq d.used30 1)))))
      (says_not (says_and (says_runs d) (says_not (says_or (says_eq d.used30 1) (says_eq d.used60 1))))))
      (says_not
      (says_and (says_or (says_or (says_runs d) (says_eq d.used30 1)) (says_eq d.used60 1)) (says_or (says_eq d.limited 1) (says_eq d.shares 0))))

  -- what is not refused holds
  thirty_by : ((d.used30 ≡ 1 → ⊥) → ⊥) → d.used30 ≡ 1
  thirty_by h = (says_eq d.used30 1).0 (not_false_true (λ e. h (λ t. not_both ((says_eq d.used30 1).1 t) e)))

  facts : Clauses → HaltDay d
  facts c =
      let first : Sixty → Thirty = λ s. thirty_by (λ n. c.0.0.1 (s, n)) in
      record {
        thirty = c.0.0.0.0.0;
        sixty = c.0.0.0.0.1;
        ahead = λ r. lt_of_not-le (λ l. c.0.0.0.1 (r, inl l));
        led = λ r. not_false_true (λ e. c.0.0.0.1 (r, inr (λ t. not_both t e)));
        thirty_first = first;
        uses = λ r. thirty_by (λ n. c.0.1 (r, ⊎_elim n (λ s. n (first s))));
        unlimited = λ t. (λ l. c.1 (inl (inr t), inl l), λ z. c.1 (inl (inr t), inr z));
      }

  clauses : HaltDay d → Clauses
  clauses h = (
    (
      (
        (
          (h.thirty, h.sixty),
          λ w. ⊎_elim (λ l. not-le_of_lt (h.ahead w.0) l) (λ n. n (h.led w.0)) w.1,
        ),
        λ w. w.1 (h.thirty_first w.0),
      ),
      λ w. w.1 (inl (h.uses w.0)),
    ),
    λ w.
        let t : Thirty = ⊎_elim (⊎_elim h.uses (λ x. x)) h.thirty_first w.0 in
        ⊎_elim (h.unlimited t).0 (h.unlimited t).1 w.1,
  )

  pub says_halt : Says (halt_fits d) (HaltDay d)
  says_halt = says_too facts clauses says_clauses
