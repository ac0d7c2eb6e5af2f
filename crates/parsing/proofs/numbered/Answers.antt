-- The words read so far are numbers; one that is none, or a seventh, is one of the text's.
use mathlib.Core.Path.{sym, ap, ◌∙◌}
use mathlib.Core.List.{List, ◌∷◌, [], ◌++◌, map-append}
use Prim.Native.Nat.{ℕ, ◌+◌}
use mathlib.Core.Path.{◌≡◌, refl}
use lib.Dec.{eqb}
use lib.ListN.{take, set, length-map, length-set}
use lib.Seq.{take-suc-set, length-take-le}
use native.Mathlib.Numerals.{add-one}
use denote.Ref.{Bor}
use native.Mathlib.Omega.{arith}
use borrow.Author.Rules.{rules}
use borrow.Author.Tests.{tests}
use Rattle.std.proofs.lemmas.Iterator.Splits.{YieldsList-from_slice_split}
use Rattle.std.proofs.lemmas.Iterator.Consumers.{YieldsList-turn, YieldsList-end}
use Rattle.parsing.specs.Words.{phrase_in}
use Rattle.parsing.proofs.Words.{no_words, numbers_on, numbers_read, seventh_word, word_bad}
use Rattle.parsing.proofs.Forms.{lettered, unlettered}
use Rattle.parsing.proofs.numbered.Goals as goal

pub loop-word-init : goal.loop-word-init
loop-word-init c = (omega arith, refl, no_words)

pub returns-in_err-number : goal.returns-in_err-number
returns-in_err-number c =
    let t = YieldsList-turn (YieldsList-from_slice_split _ (λ b. eqb b 32) c.args.words.now (cc) (cc) (cc) (λ x b q k. search (rules, tests))) c.loop-word.yielded _ c.loop-word.yielded_by _ _ c.in-Some.word c.in-Some.is c.next.ensures.steps in
    ap phrase_in c.from_residual.ensures ∙ unlettered _ _ (word_bad _ _ _ t.0 t.1 (sym c.number_of.ensures ∙ c.in_err-number.was))

pub returns-then-count-eq6 : goal.returns-then-count-eq6
returns-then-count-eq6 c =
    let t = YieldsList-turn (YieldsList-from_slice_split _ (λ b. eqb b 32) c.args.words.now (cc) (cc) (cc) (λ x b q k. search (rules, tests))) c.loop-word.yielded _ c.loop-word.yielded_by _ _ c.in-Some.word c.in-Some.is c.next.ensures.steps in
    let n = length-map c.loop-word.yielded (λ (w : Bor (List ℕ)). w.now) in
    let v = c.loop-word.invariant in
    let l = length-take-le c.loop-word.count c.loop-word.values (omega (arith, v.0, v.1)) in
    unlettered _ _ (seventh_word _ _ v.2 _ (l ∙ c.if-count-eq6.true) (omega (arith, t.0)))

pub loop-word-preserved : goal.loop-word-preserved
loop-word-preserved c =
    let v = c.loop-word.invariant in
    let i = c.loop-word.count in
    let x = c.in_ok-number.number in
    let l = length-take-le i c.loop-word.values (omega (arith, v.0, v.1)) in
    let e : take (i + 1) (set c.loop-word.values i x) ≡ take i c.loop-word.values ++ (x ∷ []) = rw add-one (take-suc-set c.loop-word.values i x (omega (arith, v.0, v.1, c.if-count-eq6.false))) in
    (omega (arith, v.0, c.if-count-eq6.false), length-set c.loop-word.values i x ∙ v.1, rw (map-append, e) (numbers_on _ _ v.2 _ _ (sym c.number_of.ensures ∙ c.in_ok-number.was) (omega (arith, l, v.0, c.if-count-eq6.false))))

pub returns : goal.returns
returns c =
    let t = YieldsList-end (YieldsList-from_slice_split _ (λ b. eqb b 32) c.args.words.now (cc) (cc) (cc) (λ x b q k. search (rules, tests))) c.loop-word.yielded _ c.loop-word.yielded_by _ _ c.in-None.is c.next.ensures.steps in
    lettered _ _ _ (numbers_read _ _ c.loop-word.invariant.2 _ t.0)
