-- What the confirmations of 15:00 leave: those without a partner, in their places. And none is due where none would be confirmed.
use Prim.Native.Nat.{ℕ, zero, suc, ◌+◌, ◌-◌}
use mathlib.Core.Path.{◌≡◌, refl, sym, ap, ◌∙◌}
use mathlib.Core.Bool.{Bool, not}
use mathlib.Core.List.{List}
use native.Mathlib.Omega.{arith}
use lib.ListN.{length}
use lib.Dec.{ltb, eqb}
use borrow.Author.Tests.{lt-ltb, ne_eqb}
use Rattle.model.specs.declared.Declaration.{Declaration}
use Rattle.model.specs.declared.Trade.{Trade}
use Rattle.model.specs.Lists.{keep, any}
use Rattle.model.specs.Matching.{is_in}
use Rattle.model.specs.Arrival.{in_places}
use Rattle.model.specs.Blocks.{undeclared, fits, confirmations, unnamed, held_in}
use Rattle.book.proofs.Lists.{each, each_keep, length_keep}
use Rattle.declarations.specs.Declared.{WellFormed, Declared}
use Rattle.arrivals.proofs.Lines.{InLine, in_line}
use Rattle.arrivals.proofs.Places.{Free, kept_line, places_more}
use Rattle.partners.specs.Partners.{partners, agreed, alone}
use Rattle.partners.proofs.Walked.{walked, left_alone}
use Rattle.partners.proofs.Due.{due}
use Rattle.blocks.specs.Confirming.{followed}
use Rattle.held.proofs.Holding.{number_of, free_number}

module _ (held : List Declaration) (d : Declared held) where
  pub declared_line : InLine number_of held
  declared_line = in_line number_of held d.arrived

  pub declared_free : Free number_of undeclared free_number held
  declared_free = each WellFormed (λ x. x.number ≡ 0 → x ≡ undeclared) held (λ x w. w.none) d.formed

  -- some of them, in as many places as before
  pub some_in_places : (p : Declaration → Bool) → held_in (length held) (keep p held) ≡ followed (length held) (keep p held)
  unfolding held_in followed
  some_in_places p =
      let n : ℕ = length held - length (keep p held) in
      let m : length held ≡ length (keep p held) + n = omega (arith, length_keep p held) in
      ap (λ k. in_places number_of undeclared k (keep p held)) m
      ∙ places_more number_of undeclared free_number (keep p held) (kept_line number_of undeclared free_number p held declared_line)
      (each_keep (λ x. x.number ≡ 0 → x ≡ undeclared) p held declared_free) n

  pub unnamed_in_places :
      (ts : List Trade) → held_in (length held) (unnamed ts held) ≡ followed (length held) (unnamed ts held)
  unfolding unnamed
  unnamed_in_places ts = some_in_places (λ x. not (any (is_in x.number) ts))

  pub none_due : {n : ℕ} → n ≡ length (confirmations held) → eqb n 0 ≡ not (any (λ x. any (fits x) held) held)
  none_due {n} e = rw (due held d, sym e) (turned n)
    where
      turned : (m : ℕ) → eqb m 0 ≡ not (ltb 0 m)
      turned zero = refl
      turned (suc m) = rw (lt-ltb 0 (suc m) (omega arith), ne_eqb (suc m) 0 (λ z. omega arith))

-- ---- by the partner of each place

module _ (rows : List Declaration) (d : Declared rows) {ps : List ℕ} (e : ps ≡ partners rows) where
  pub by_partners : agreed rows ps ≡ confirmations rows
  by_partners = ap (agreed rows) e ∙ sym (walked rows d)

  pub left_by_partners :
      {held : List Declaration}
      → held ≡ followed (length rows) (alone rows ps)
      → held ≡ held_in (length rows) (unnamed (confirmations rows) rows)
  left_by_partners f =
      f
      ∙ ap (λ (qs : List ℕ). followed (length rows) (alone rows qs)) e
      ∙ ap (followed (length rows)) (sym (left_alone rows d))
      ∙ sym
      (ap (λ n. held_in n (unnamed (confirmations rows) rows)) (refl)
      ∙ unnamed_in_places rows d (confirmations rows))
