-- A chunk's lines answered one after the other: the start, one line further, and either end. Assumes nothing.
use Prim.Native.Nat.{ℕ, ◌≤◌, ◌<◌}
use mathlib.Core.Path.{◌≡◌, refl, sym, ap, subst, ◌∙◌}
use mathlib.Core.Bool.{Bool, true, false}
use mathlib.Core.List.{List, [], ◌∷◌, ◌++◌, append_assoc, append-nil}
use native.Mathlib.Nat.{le_refl}
use native.Mathlib.Omega.{arith}
use lib.ListN.{length, take}
use Rattle.printing.specs.Printing.{Wrote}
use Rattle.printing.proofs.Printed.{nothing_put, and_then, put_as, put_long, put_shown}
use Rattle.text.specs.Answers.{Program, replies_to, state_after}
use Rattle.text.specs.Points.{Point, asks_from, Onward, Answers, Through, Serves}
use Rattle.text.proofs.Chunks.{Taken, AllTaken}
use Rattle.text.proofs.Sessions.{replies_append, state_append, kept_after_lem}

module _ {A S : Type 0} (P : Program A S) (chunk : List ℕ) where
  pub onward_none : (p : Point S) → p.at ≤ length chunk → Onward P chunk p p
  unfolding state_after
  onward_none p h = record { passed = []; inside = h; asks = refl; state = refl; tail = refl; still = refl }

  pub onward_more : {p q s : Point S} → Onward P chunk p q → Onward P chunk q s → Onward P chunk p s
  onward_more {p} {q} {s} a b = record {
    passed = a.passed ++ b.passed;
    inside = b.inside;
    asks = a.asks ∙ ap (λ (xs : List A). a.passed ++ xs) b.asks ∙ sym (append_assoc a.passed b.passed (asks_from P chunk s));
    state = b.state ∙ ap (state_after P b.passed) a.state ∙ sym (state_append P a.passed b.passed p.state);
    tail = a.tail ∙ b.tail;
    still = a.still ∙ b.still;
  }

  -- where no line is left, the state is the one after all lines
  pub through_state : {p q : Point S} → Onward P chunk p q → Through P chunk q → q.state ≡ state_after P (asks_from P chunk p) p.state
  through_state {p} a t =
      a.state
      ∙ ap (λ (xs : List A). state_after P xs p.state)
      (sym (a.asks ∙ ap (λ (xs : List A). a.passed ++ xs) t.asks ∙ append-nil a.passed))

  -- what each answer keeps holds further on too
  pub onward_kept :
      (Fair : S → Type 0) → ((a : A) (s : S) → Fair s → Fair (P.next a s)) → {p q : Point S} → Onward P chunk p q → Fair p.state → Fair q.state
  onward_kept Fair h {p} a f = subst Fair (sym a.state) (kept_after_lem P Fair h a.passed p.state f)

  -- one text after the other
  answers_more :
      {p q s : Point S} {text more : List ℕ}
      → Answers P chunk p text q
      → Answers P chunk q more s
      → Answers P chunk p (text ++ more) s
  unfolding onward_more
  answers_more {p} {text = text} a b = record {
    onward = onward_more a.onward b.onward;
    replies =
        ap (λ (t : List ℕ). text ++ t) (b.replies ∙ ap (replies_to P b.onward.passed) a.onward.state)
        ∙ ap (λ (t : List ℕ). t ++ replies_to P b.onward.passed (state_after P a.onward.passed p.state)) a.replies
        ∙ sym (replies_append P a.onward.passed b.onward.passed p.state);
  }

  answers_none : (p : Point S) → p.at ≤ length chunk → Answers P chunk p [] p
  unfolding replies_to onward_none
  answers_none p h = record { onward = onward_none p h; replies = refl }

  -- a line is answered
  answers_one :
      (q : Point S) (asked : A) (place : ℕ)
      → Taken chunk q.at P.reader q.long asked place
      → Answers P chunk q (P.text asked q.state) (record { state = P.next asked q.state; at = place; long = false })
  unfolding replies_to state_after
  answers_one q asked place t = record {
    onward = record { passed = asked ∷ []; inside = t.inside; asks = t.asks; state = refl; tail = t.tail; still = t.still };
    replies = sym (append-nil (P.text asked q.state));
  }

  -- ---- the loop

  module _ (p : Point S) (before : List ℕ) where
    -- the replies put so far, and the point that is reached
    pub record Going (after : List ℕ) (next : ℕ) (done : Bool) (q : Point S) : Type 0 where
      pub text : Wrote before 0 (take next after) after next
      pub answers : Answers P chunk p (take next after) q
      pub fits : next ≤ length after
      pub onward : p.at ≤ q.at
      pub past : 0 < next → p.at < q.at
      pub goes : done ≡ false

    pub going_start : p.at ≤ length chunk → Going before 0 false p
    going_start h = record {
      text = nothing_put;
      answers = answers_none p h;
      fits = omega arith;
      onward = le_refl p.at;
      past = λ z. absurd (omega arith);
      goes = refl;
    }

    module _ {after : List ℕ} {next : ℕ} {done : Bool} {q : Point S} (g : Going after next done q) where
      module _ (asked : A) (place : ℕ) (t : Taken chunk q.at P.reader q.long asked place)
          {after' : List ℕ} {next' : ℕ}
          (w : Wrote after next (P.text asked q.state) after' next')
          (h : next' ≤ length after') where
        shown : take next' after' ≡ take next after ++ P.text asked q.state
        shown =
            let v = and_then g.text w in
            put_shown v (omega (arith, v.place, put_long v, h))

        pub going_on : (s : S) → s ≡ P.next asked q.state → Going after' next' false (record { state = s; at = place; long = false })
        going_on s e = record {
          text = put_as (sym shown) (and_then g.text w);
          answers =
              subst (λ (x : List ℕ). Answers P chunk p x (record { state = s; at = place; long = false })) (sym shown)
              (subst (λ (k : S). Answers P chunk p (take next after ++ P.text asked q.state) (record { state = k; at = place; long = false }))
              (sym e) (answers_more g.answers (answers_one q asked place t)));
          fits = h;
          onward = omega (arith, t.onward, g.onward);
          past = λ z. omega (arith, t.onward, g.onward);
          goes = refl;
        }

      pub going_through : AllTaken chunk q.at P.reader q.long → Serves P chunk p before after next true q
      going_through t = record {
        text = g.text;
        answers = g.answers;
        all = λ z. record { asks = t.asks; tail = t.tail; still = t.still };
        some = λ z. let f : ◌≡◌ {A = ℕ} 0 1 = cc in absurd (omega arith);
      }

      pub going_full : 0 < next → Serves P chunk p before after next done q
      going_full h = record {
        text = g.text;
        answers = g.answers;
        all = λ z. let s = sym g.goes ∙ z in let f : ◌≡◌ {A = ℕ} 0 1 = cc in absurd (omega arith);
        some = λ z. g.past h;
      }
