-- Whom trades name, and the partner that they give a number. Assumes nothing.
use Rattle.std.specs.Prelude.{if◌then◌else◌}
use Prim.Native.Nat.{ℕ}
use mathlib.Core.Path.{◌≡◌, refl, sym, ap, ◌∙◌}
use mathlib.Core.Bool.{Bool, true, false, not, ◌&&◌, ◌||◌}
use mathlib.Core.List.{List, [], ◌∷◌, ◌++◌}
use lib.Dec.{eqb}
use borrow.Author.Tests.{eq-eqb, ne_eqb}
use Rattle.model.specs.declared.Declaration.{Declaration}
use Rattle.model.specs.declared.Trade.{Trade}
use Rattle.model.specs.Lists.{keep, any}
use Rattle.model.specs.Matching.{is_in}
use Rattle.model.specs.Blocks.{unnamed}
use Rattle.model.specs.Words.{Each}
use Rattle.model.proofs.Bools.{not_both}
use Rattle.book.proofs.Lists.{keep_same, keep_keep, every}
use Rattle.partners.specs.Partners.{partner_in}
use Rattle.partners.proofs.Tests.{any_append}

-- a trade names no place that is free
pub record Numbered (t : Trade) : Type 0 where
  pub buyer : t.buyer ≡ 0 → ⊥
  pub seller : t.seller ≡ 0 → ⊥

abbrev pub Leaves : ℕ → Trade → Type 0
Leaves n t = is_in n t ≡ false

pub names_none : (n : ℕ) (t : Trade) → (t.buyer ≡ n → ⊥) → (t.seller ≡ n → ⊥) → Leaves n t
unfolding is_in
names_none n t b s = rw (ne_eqb t.buyer n b, ne_eqb t.seller n s)

module _ (n : ℕ) where
  pub partner_none : (ts : List Trade) → Each (Leaves n) ts → partner_in ts n ≡ 0
  unfolding partner_in is_in
  partner_none [] e = refl
  partner_none (t ∷ ts) e = go (eqb t.buyer n) (eqb t.seller n) e.0 (partner_none ts e.1)
    where
      go :
          (a b : Bool)
          → a || b ≡ false
          → partner_in ts n ≡ 0
          → (if a then t.seller else if b then t.buyer else partner_in ts n) ≡ 0
      go true b h r = absurd (not_both refl h)
      go false true h r = absurd (not_both refl h)
      go false false h r = r

  pub partner_skip : (ts us : List Trade) → Each (Leaves n) ts → partner_in (ts ++ us) n ≡ partner_in us n
  unfolding partner_in is_in
  partner_skip [] us e = refl
  partner_skip (t ∷ ts) us e = go (eqb t.buyer n) (eqb t.seller n) e.0 (partner_skip ts us e.1)
    where
      go :
          (a b : Bool)
          → a || b ≡ false
          → partner_in (ts ++ us) n ≡ partner_in us n
          → (if a then t.seller else if b then t.buyer else partner_in (ts ++ us) n) ≡ partner_in us n
      go true b h r = absurd (not_both refl h)
      go false true h r = absurd (not_both refl h)
      go false false h r = r

  -- trades that do not name it, behind the others
  pub partner_before : (ts us : List Trade) → Each (Leaves n) us → partner_in (ts ++ us) n ≡ partner_in ts n
  unfolding partner_in
  partner_before [] us e = partner_none us e
  partner_before (t ∷ ts) us e =
      ap (λ (m : ℕ). if eqb t.buyer n then t.seller else if eqb t.seller n then t.buyer else m) (partner_before ts us e)

  -- a number has a partner exactly where a trade names it
  pub named_partner : (ts : List Trade) → Each Numbered ts → any (is_in n) ts ≡ not (eqb (partner_in ts n) 0)
  unfolding partner_in is_in any
  named_partner [] e = refl
  named_partner (t ∷ ts) e = go (eqb t.buyer n) (eqb t.seller n) (named_partner ts e.1)
    where
      go :
          (a b : Bool)
          → any (λ t. eqb t.buyer n || eqb t.seller n) ts ≡ not (eqb (partner_in ts n) 0)
          → (a || b) || any (λ t. eqb t.buyer n || eqb t.seller n) ts
          ≡ not (eqb (if a then t.seller else if b then t.buyer else partner_in ts n) 0)
      go true b r = rw (ne_eqb t.seller 0 e.0.seller)
      go false true r = rw (ne_eqb t.buyer 0 e.0.buyer)
      go false false r = r

-- the same first trade
pub partner_first : (t : Trade) (n : ℕ) (ts us : List Trade) → partner_in ts n ≡ partner_in us n → partner_in (t ∷ ts) n ≡ partner_in (t ∷ us) n
unfolding partner_in
partner_first t n ts us e = ap (λ (m : ℕ). if eqb t.buyer n then t.seller else if eqb t.seller n then t.buyer else m) e

-- the two of the first trade
pub partner_of_buyer : (t : Trade) (ts : List Trade) → partner_in (t ∷ ts) t.buyer ≡ t.seller
unfolding partner_in
partner_of_buyer t ts = rw (eq-eqb t.buyer t.buyer refl)

pub partner_of_seller : (t : Trade) (ts : List Trade) → (t.buyer ≡ t.seller → ⊥) → partner_in (t ∷ ts) t.seller ≡ t.buyer
unfolding partner_in
partner_of_seller t ts d = rw (ne_eqb t.buyer t.seller d, eq-eqb t.seller t.seller refl)

-- those that two runs of trades leave, one run after the other
pub unnamed_append : (ts us : List Trade) (held : List Declaration) → unnamed (ts ++ us) held ≡ unnamed us (unnamed ts held)
unfolding unnamed
unnamed_append ts us held =
    keep_same
    (λ x. not (any (is_in x.number) (ts ++ us)))
    (λ x. not (any (is_in x.number) ts) && not (any (is_in x.number) us))
    held
    (every _ held (λ x. ap not (any_append (is_in x.number) ts us) ∙ neither (any (is_in x.number) ts) (any (is_in x.number) us)))
    ∙ sym (keep_keep (λ x. not (any (is_in x.number) us)) (λ x. not (any (is_in x.number) ts)) held)
  where
    neither : (a b : Bool) → not (a || b) ≡ not a && not b
    neither true b = refl
    neither false b = refl

-- those that trades leave are those without a partner
pub unnamed_partner :
    (ts : List Trade) (held : List Declaration)
    → Each Numbered ts
    → unnamed ts held ≡ keep (λ x. eqb (partner_in ts x.number) 0) held
unfolding unnamed
unnamed_partner ts held e =
    keep_same
    (λ x. not (any (is_in x.number) ts))
    (λ x. eqb (partner_in ts x.number) 0)
    held
    (every _ held (λ x. ap not (named_partner x.number ts e) ∙ twice (eqb (partner_in ts x.number) 0)))
  where
    twice : (b : Bool) → not (not b) ≡ b
    twice true = refl
    twice false = refl
