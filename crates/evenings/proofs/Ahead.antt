-- The trades that a move will have, as the code counts them: none where it passes no such second, and never more than there are places.
-- Assumes nothing.
use Prim.Native.Nat.{ℕ, suc, ◌+◌, ◌≤◌}
use mathlib.Core.Path.{◌≡◌, refl, sym, ap, ◌∙◌}
use mathlib.Core.Bool.{Bool, true, false, not, ◌&&◌, cond}
use mathlib.Core.List.{List, [], ◌∷◌}
use native.Mathlib.Omega.{arith}
use lib.ListN.{length}
use lib.Dec.{ltb, eqb}
use borrow.Author.Tests.{not-true, not-false}
use Rattle.model.specs.declared.Order.{Order}
use Rattle.model.specs.declared.Declaration.{Declaration}
use Rattle.model.specs.declared.Day.{Day}
use Rattle.model.specs.Lists.{keep}
use Rattle.model.specs.Books.{Books}
use Rattle.model.specs.FixedBook.{is_void, matches}
use Rattle.model.specs.Blocks.{confirmations}
use Rattle.model.specs.AllCalls.{moved_on, move_trades}
use Rattle.book.specs.declared.Dealt.{Dealt}
use Rattle.book.specs.Deals.{dealt}
use Rattle.book.specs.Standing.{Ranked}
use Rattle.declarations.specs.Declared.{Declared}
use Rattle.partners.specs.Partners.{partners, is_buyer, confirmed_with, agreed}
use Rattle.partners.proofs.Walked.{walked}
use Rattle.fixed_book.specs.Ready.{Lined}
use Rattle.fixed_book.proofs.Sides.{closing_trades}
use Rattle.pairing.proofs.Moves.{moved_few}
use Rattle.moves.specs.Stops.{passes}
use Rattle.foreseen.specs.declared.Foreseen.{Foreseen}
use Rattle.foreseen.specs.Foreseen.{foreseen}
use Rattle.evenings.specs.Counts.{confirmed_ahead, matched_ahead}
use Rattle.evenings.proofs.Places.{counted}

agreed_few : (held : List Declaration) (ps : List ℕ) → length (agreed held ps) ≤ length held
unfolding agreed
agreed_few [] ps = omega arith
agreed_few (x ∷ held) [] = omega arith
agreed_few (x ∷ held) (p ∷ ps) = go (is_buyer x && not (eqb p 0)) (agreed_few held ps)
  where
    go :
        (b : Bool)
        → length (agreed held ps) ≤ length held
        → length (cond b (confirmed_with x p ∷ agreed held ps) (agreed held ps)) ≤ suc (length held)
    go true k = omega (arith, k)
    go false k = omega (arith, k)

confirmed_few : (held : List Declaration) → Declared held → length (confirmations held) ≤ 4_096
confirmed_few held d = rw (walked held d) (omega (arith, agreed_few held (partners held), d.few))

-- ---- the blocks

module _ (old new : ℕ) (held : List Declaration) (d : Declared held) {b : Bool} (e : b ≡ passes 54_000 old new) where
  pub none_ahead : not b ≡ true → (0 ≡ confirmed_ahead old new held) × (0 ≤ 4_096)
  unfolding confirmed_ahead
  none_ahead n = (rw (sym e ∙ not-true b n), omega arith)

  pub some_ahead : {n : ℕ} → not b ≡ false → n ≡ length (confirmations held) → (n ≡ confirmed_ahead old new held) × (n ≤ 4_096)
  unfolding confirmed_ahead
  some_ahead t f = (rw (sym e ∙ not-false b t) f, omega (arith, f, confirmed_few held d))

-- ---- the fixed-price trades

module _ (close old new : ℕ) (book : List Order) (l : Lined book) {b : Bool} (e : b ≡ passes 54_300 old new) where
  abbrev matched : ℕ
  matched = length (matches close (keep (λ o. not (is_void close o)) book))

  pub none_matched : not b ≡ true → (0 ≡ matched_ahead close old new book) × (0 ≤ 4_096)
  unfolding matched_ahead
  none_matched n = (rw (sym e ∙ not-true b n), omega arith)

  pub some_matched :
      {r : Dealt}
      → not b ≡ false
      → r ≡ dealt (matches close (keep (λ o. not (is_void close o)) book))
      → (r.made ≡ matched_ahead close old new book) × (r.made ≤ 4_096)
  unfolding matched_ahead dealt
  some_matched {r} t f =
      let m : r.made ≡ matched = ap (λ (x : Dealt). x.made) f in
      (rw (sym e ∙ not-false b t) m, omega (arith, m, closing_trades close book l))

-- ---- all of them

pub ahead_few :
    (d : Day) (t : ℕ) (book : List Order) {ahead : Foreseen} → ahead ≡ foreseen d t book → Ranked book → ahead.trades ≤ 4_096
unfolding foreseen
ahead_few d t book e r = rw e (omega (arith, moved_few book r.stands d t, r.few))

module _ (d : Day) (t : ℕ) (s : Books) {ahead : Foreseen} (e : ahead ≡ foreseen d t s.main) where
  pub all_counted :
      {confirmed fixed : ℕ}
      → d.time ≤ t
      → confirmed ≡ confirmed_ahead d.time t s.blocks
      → fixed ≡ matched_ahead ahead.close d.time t s.fixed
      → (places : ℕ)
      → ltb places (ahead.trades + confirmed + fixed) ≡ ltb places (length (move_trades (moved_on d t s)))
  unfolding foreseen
  all_counted l c f places = rw (counted d t s l, c, f, e)
