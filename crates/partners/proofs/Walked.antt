-- What callers cite: the confirmations and those they leave, as one walk over the places writes them, and who has a partner.
-- Assumes nothing.
use Rattle.std.specs.Prelude.{if◌then◌else◌}
use Prim.Native.Nat.{ℕ}
use mathlib.Core.Path.{◌≡◌, refl, sym, ap, ◌∙◌}
use mathlib.Core.Logic.{⊎_elim}
use mathlib.Core.Bool.{Bool, true, false, not, ◌&&◌}
use mathlib.Core.List.{List, [], ◌∷◌, ◌++◌, map, append_assoc}
use lib.Dec.{eqb}
use borrow.Author.Tests.{eq-eqb, ne_eqb}
use Rattle.model.specs.declared.Declaration.{Declaration}
use Rattle.model.specs.declared.Trade.{Trade}
use Rattle.model.specs.Lists.{keep, any}
use Rattle.model.specs.Matching.{is_in}
use Rattle.model.specs.Blocks.{fits, confirmation, unnamed, in_turn, confirmations}
use Rattle.model.specs.Words.{Each}
use Rattle.book.proofs.Lists.{each, both, every, each_append}
use Rattle.declarations.specs.Declared.{WellFormed, Declared}
use Rattle.partners.specs.Partners.{partner_in, partners, is_buyer, confirmed_with, agreed, alone}
use Rattle.partners.proofs.Naming.{Numbered, Leaves, names_none, partner_none, partner_skip, partner_of_buyer, named_partner, unnamed_partner}
use Rattle.partners.proofs.Turns.{earliest_cases, turn_nobody}
use Rattle.partners.proofs.Buyers.{Unsold, Turning, fits_seller, fits_numbered, turning_numbered, turning_leaves, turning_skip, turning_less, others_number, held_turning}

-- each buyer with the partner that a function gives its number
unfoldable pub each_with : (ℕ → ℕ) → List Declaration → List Trade
each_with f [] = []
each_with f (b ∷ bs) = if not (eqb (f b.number) 0) then confirmed_with b (f b.number) ∷ each_with f bs else each_with f bs

agreed_buyers : (f : ℕ → ℕ) (held : List Declaration) → agreed held (map (λ x. f x.number) held) ≡ each_with f (keep is_buyer held)
unfolding agreed each_with keep
agreed_buyers f [] = refl
agreed_buyers f (x ∷ held) = go (is_buyer x) (agreed_buyers f held)
  where
    go :
        (b : Bool)
        → agreed held (map (λ y. f y.number) held) ≡ each_with f (keep is_buyer held)
        → (if b && not (eqb (f x.number) 0) then confirmed_with x (f x.number) ∷ agreed held (map (λ y. f y.number) held) else agreed held (map (λ y. f y.number) held))
        ≡ each_with f (if b then x ∷ keep is_buyer held else keep is_buyer held)
    go true h = ap (λ (l : List Trade). if not (eqb (f x.number) 0) then confirmed_with x (f x.number) ∷ l else l) h
    go false h = h

module _ (f : ℕ → ℕ) (b : Declaration) (bs : List Declaration) where
  with_nobody : f b.number ≡ 0 → each_with f (b ∷ bs) ≡ each_with f bs
  unfolding each_with
  with_nobody e = rw (eq-eqb (f b.number) 0 e)

  with_somebody : (s : Declaration) → f b.number ≡ s.number → (s.number ≡ 0 → ⊥) → each_with f (b ∷ bs) ≡ confirmation b s ∷ each_with f bs
  unfolding each_with confirmed_with confirmation
  with_somebody s e n = rw (e, ne_eqb s.number 0 n)

-- each buyer's partner among all confirmations is the one of its own
module _ (b : Declaration) (bs held : List Declaration) (t : Turning (b ∷ bs) held) (done all : List Trade) (l : Each (Leaves b.number) done) where
  others : Each (λ c. c.number ≡ b.number → ⊥) bs
  others = others_number b bs t.buys.0 t.buys.1 t.line.0

  unpaired : all ≡ done ++ in_turn bs held → partner_in all b.number ≡ 0
  unpaired e =
      ap (λ (ts : List Trade). partner_in ts b.number) e ∙ partner_skip b.number done (in_turn bs held) l
      ∙ partner_none b.number (in_turn bs held)
      (turning_leaves b.number bs held t.buys.1 others
      (each (λ s. Each (λ c. Unsold c.number s) (b ∷ bs)) (Unsold b.number) held (λ s h. h.0) t.apart))

  paired : (s : Declaration) (rest : List Trade) → all ≡ done ++ confirmation b s ∷ rest → partner_in all b.number ≡ s.number
  paired s rest e =
      ap (λ (ts : List Trade). partner_in ts b.number) e ∙ partner_skip b.number done (confirmation b s ∷ rest) l
      ∙ unfold confirmation in partner_of_buyer (confirmation b s) rest

  -- the others behind it are not named so far
  left_so_far :
      (s : Declaration)
      → Each (λ c. Unsold c.number s) bs
      → fits b s ≡ true
      → Each (λ c. Each (Leaves c.number) done) bs
      → Each (λ c. Each (Leaves c.number) (done ++ confirmation b s ∷ [])) bs
  left_so_far s u f m =
      both (λ c. Each (Leaves c.number) done) (λ c. Leaves c.number (confirmation b s)) _ bs
      (λ c g h. each_append (Leaves c.number) done (confirmation b s ∷ []) g (h, tt))
      m
      (both (λ c. c.number ≡ b.number → ⊥) (λ c. Unsold c.number s) _ bs
      (λ c g h. unfold confirmation in names_none c.number (confirmation b s) (λ e. g (sym e)) (h (fits_seller b s t.buys.0 f)))
      others u)

in_turn_with :
    (bs held : List Declaration) (done all : List Trade)
    → Turning bs held
    → Each (λ b. Each (Leaves b.number) done) bs
    → all ≡ done ++ in_turn bs held
    → each_with (partner_in all) bs ≡ in_turn bs held
unfolding each_with in_turn
in_turn_with [] held done all t l e = refl
in_turn_with (b ∷ bs) held done all t l e =
    ⊎_elim
    (λ none.
    let same : in_turn (b ∷ bs) held ≡ in_turn bs held = turn_nobody b bs held none in
    let now : all ≡ done ++ in_turn bs held = e ∙ ap (λ (ts : List Trade). done ++ ts) same in
    with_nobody (partner_in all) b bs (unpaired b bs held t done all l.0 now)
    ∙ in_turn_with bs held done all (turning_skip t) l.1 now
    ∙ sym same)
    (λ one.
    let s : Declaration = one.0 in
    let less : List Declaration = unnamed (confirmation b s ∷ []) held in
    let same : in_turn (b ∷ bs) held ≡ confirmation b s ∷ in_turn bs less = rw one.1 in
    let now : all ≡ done ++ confirmation b s ∷ in_turn bs less = e ∙ ap (λ (ts : List Trade). done ++ ts) same in
    with_somebody (partner_in all) b bs s (paired b bs held t done all l.0 s (in_turn bs less) now) (fits_numbered b s t.buys.0 one.3.0 one.2)
    ∙ ap (λ (ts : List Trade). confirmation b s ∷ ts)
    (in_turn_with bs less (done ++ confirmation b s ∷ []) all (turning_less (confirmation b s ∷ []) (turning_skip t))
    (left_so_far b bs held t done all l.0 s one.3.1 one.2 l.1)
    (now ∙ sym (append_assoc done (confirmation b s ∷ []) (in_turn bs less))))
    ∙ sym same)
    (earliest_cases (λ s. WellFormed s × Each (λ c. Unsold c.number s) bs) b held
    (both WellFormed (λ s. Each (λ c. Unsold c.number s) (b ∷ bs)) _ held (λ s w u. (w, u.1)) t.formed t.apart))

alone_kept : (f : ℕ → ℕ) (held : List Declaration) → keep (λ x. eqb (f x.number) 0) held ≡ alone held (map (λ x. f x.number) held)
unfolding keep alone
alone_kept f [] = refl
alone_kept f (x ∷ held) = ap (λ (l : List Declaration). if eqb (f x.number) 0 then x ∷ l else l) (alone_kept f held)

module _ (held : List Declaration) (d : Declared held) where
  -- one walk over the places writes the confirmations
  pub walked : confirmations held ≡ agreed held (partners held)
  unfolding confirmations partners is_buyer
  walked =
      sym
      (agreed_buyers (partner_in (confirmations held)) held
      ∙ in_turn_with (keep is_buyer held) held [] (confirmations held) (held_turning held d) (every _ (keep is_buyer held) (λ b. tt)) refl)

  pub confirmed_numbers : Each Numbered (confirmations held)
  unfolding confirmations is_buyer
  confirmed_numbers = turning_numbered (keep is_buyer held) held (held_turning held d).buys d.formed

  -- a number is named exactly where it has a partner
  pub named : (n : ℕ) → any (is_in n) (confirmations held) ≡ not (eqb (partner_in (confirmations held) n) 0)
  named n = named_partner n (confirmations held) confirmed_numbers

  -- those that no confirmation names are those without a partner
  pub left_alone : unnamed (confirmations held) held ≡ alone held (partners held)
  unfolding partners
  left_alone =
      unnamed_partner (confirmations held) held confirmed_numbers ∙ alone_kept (partner_in (confirmations held)) held

  -- a free place has no partner
  pub free_partner : partner_in (confirmations held) 0 ≡ 0
  free_partner =
      partner_none 0 (confirmations held)
      (each Numbered (Leaves 0) (confirmations held) (λ t h. names_none 0 t h.buyer h.seller) confirmed_numbers)
