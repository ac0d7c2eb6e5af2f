-- Lists with nobody: a fixed-price book and declarations whose places are all free. Nothing matches, nothing is confirmed, void or lapses, and
-- they are sound. Assumes nothing.
use Prim.Native.Nat.{ℕ}
use mathlib.Core.Path.{◌≡◌, refl, sym, ap, ◌∙◌}
use mathlib.Core.Logic.{inl}
use mathlib.Core.Bool.{Bool, true, false, not, ◌&&◌, ◌||◌, or-true}
use mathlib.Core.List.{List, [], ◌∷◌}
use native.Mathlib.Omega.{arith}
use lib.ListN.{length, length-map}
use lib.Dec.{ltb, eqb}
use Rattle.model.specs.declared.Order.{Order}
use Rattle.model.specs.declared.Declaration.{Declaration}
use Rattle.model.specs.declared.Day.{Day}
use Rattle.model.specs.Lists.{keep, any, all, total}
use Rattle.model.specs.Clock.{confirming_from}
use Rattle.model.specs.Book.{free, is_live, stands_on, other}
use Rattle.model.specs.Arrival.{is_taken, in_places, in_arrival}
use Rattle.model.specs.Matching.{settle}
use Rattle.model.specs.Figures.{close_price}
use Rattle.model.specs.Auction.{shares_of}
use Rattle.model.specs.FixedBook.{is_void, arrivals, matches, lined}
use Rattle.model.specs.Blocks.{undeclared, is_held, fits, unnamed, in_turn, confirmations, held_in, none_held}
use Rattle.model.specs.Sound.{has_places, between}
use Rattle.model.specs.SoundBlocks.{is_undeclared, is_declaration, sound_blocks}
use Rattle.model.specs.Refusals.{unsound_blocks}
use Rattle.model.specs.Calls.{cleared}
use Rattle.model.specs.Words.{Each}
use Rattle.book.proofs.Lists.{each, every, keep_all, keep_none, total_zero}
use Rattle.book.proofs.Settlements.{settle_none}
use Rattle.book.proofs.Kept.{free_number, free_left, fair_free}
use Rattle.book.specs.Standing.{Fair}
use Rattle.soundness.specs.SoundDay.{Place, Empty}
use Rattle.pairing.proofs.Turns.{pair_no_buy}
use Rattle.arrivals.proofs.Lines.{InLine, line_of, arrives}
use Rattle.arrivals.proofs.Places.{places_same}
use Rattle.fixed_demands.specs.FixedDay.{of_fixed, FixedFigures, FixedDay}

-- ---- lists with nobody

-- free places stand in order of arrival, and lining them up leaves them
module _ {A : Type 0} (number : A → ℕ) (none : A) (zero-none : number none ≡ 0) (xs : List A) (e : Each (λ x. x ≡ none) xs) where
  no_numbers_lem : Each (λ x. number x ≡ 0) xs
  no_numbers_lem = each (λ x. x ≡ none) (λ x. number x ≡ 0) xs (λ x f. ap number f ∙ zero-none) e

  free_line : InLine number xs
  free_line = line_of number [] xs tt no_numbers_lem

  free_arrives : in_arrival number xs ≡ true
  free_arrives = arrives number xs free_line

  free_stay : in_places number none (length xs) xs ≡ xs
  free_stay = places_same number none zero-none xs free_line (each (λ x. x ≡ none) (λ x. number x ≡ 0 → x ≡ none) xs (λ x f _. f) e)

-- what every free place passes or fails
of_free : {A B : Type 0} (f : A → B) (none : A) (b : B) → f none ≡ b → (xs : List A) → Each (λ x. x ≡ none) xs → Each (λ x. f x ≡ b) xs
of_free f none b z xs e = each (λ x. x ≡ none) (λ x. f x ≡ b) xs (λ x g. ap f g ∙ z) e

-- a test that nobody passes
fails : {A : Type 0} (p : A → Bool) (xs : List A) → Each (λ x. p x ≡ false) xs → any p xs ≡ false
unfolding any
fails p [] e = refl
fails p (x ∷ xs) e = rw e.0 (fails p xs e.1)

passes : {A : Type 0} (p : A → Bool) (xs : List A) → Each (λ x. p x ≡ true) xs → all p xs ≡ true
unfolding all
passes p [] e = refl
passes p (x ∷ xs) e = rw e.0 (passes p xs e.1)

-- ---- the fixed-price book

module _ (book : List Order) (e : Empty book) where
  free_void : (close : ℕ) → is_void close free ≡ false
  unfolding is_void is_live free
  free_void close = refl

  free_off : (side : ℕ) → stands_on side free ≡ false
  unfolding stands_on is_live free
  free_off side = refl

  pub none_void : (close : ℕ) → Each (λ o. is_void close o ≡ false) book
  none_void close = of_free (is_void close) free false (free_void close) book e

  pub nobody : (side : ℕ) → keep (stands_on side) book ≡ []
  nobody side = keep_none (stands_on side) book (of_free (stands_on side) free false (free_off side) book e)

  pub all_valid : (close : ℕ) → keep (λ o. not (is_void close o)) book ≡ book
  all_valid close =
      keep_all (λ o. not (is_void close o)) book
      (each (λ o. is_void close o ≡ false) (λ o. not (is_void close o) ≡ true) book (λ o f. ap not f) (none_void close))

  pub none_match : (close : ℕ) → matches close book ≡ []
  unfolding matches arrivals
  none_match close = rw (nobody 0) (pair_no_buy _ close _)

  pub lined_free : lined (length book) book ≡ book
  unfolding lined
  lined_free = free_stay (λ (o : Order). o.number) free free_number book e

  pub settled_free : settle [] book ≡ book
  settled_free = settle_none book (each (λ o. o ≡ free) Fair book (λ o f. rw f fair_free) e)

  pub no_shares : total (λ (o : Order). o.left) book ≡ 0
  no_shares = total_zero (λ (o : Order). o.left) book (of_free (λ (o : Order). o.left) free 0 free_left book e)

  pub no_void_shares : (close : ℕ) → shares_of (is_void close) book ≡ 0
  unfolding shares_of
  no_void_shares close = rw (keep_none (is_void close) book (none_void close)) (unfold total in refl)

  pub cleared_free : cleared book ≡ book
  unfolding cleared
  cleared_free = go book e
    where
      go : (os : List Order) → Empty os → cleared os ≡ os
      go [] f = refl
      go (o ∷ os) f = ap (λ (x : Order). x ∷ cleared os) (sym f.0) ∙ ap (λ (l : List Order). o ∷ l) (go os f.1)

  -- it is sound on every day whose figures fit
  pub free_day : (d : Day) → FixedFigures d → FixedDay d book
  free_day d f =
      (record {
        places = each (λ o. o ≡ free) (Place (of_fixed d)) book (λ o f. inl f) e;
        line = free_arrives (λ (o : Order). o.number) free free_number book e;
        early = λ _. e;
        ended = λ _. e;
        one_sided = λ _. inl (nobody 0);
        none_void = λ _. none_void (close_price d);
        sums = omega (arith, no_shares, f.shares);
      })

-- ---- the declarations

module _ (held : List Declaration) (e : Each (λ x. x ≡ undeclared) held) where
  zero_number : undeclared.number ≡ 0
  unfolding undeclared
  zero_number = refl

  free_unheld : is_held undeclared ≡ false
  unfolding is_held is_taken undeclared
  free_unheld = refl

  free_formed : is_undeclared undeclared ≡ true
  unfolding is_undeclared undeclared
  free_formed = refl

  -- two free places are both of side 0
  unfit : fits undeclared undeclared ≡ false
  unfolding fits undeclared other
  unfit = refl

  none_held_lem : any is_held held ≡ false
  none_held_lem = fails is_held held (of_free is_held undeclared false free_unheld held e)

  no_buyers : keep (λ x. is_held x && eqb x.side 0) held ≡ []
  no_buyers =
      keep_none (λ x. is_held x && eqb x.side 0) held
      (each (λ x. is_held x ≡ false) (λ x. is_held x && eqb x.side 0 ≡ false) held (λ x f. rw f) (of_free is_held undeclared false free_unheld held e))

  pub none_confirm : confirmations held ≡ []
  unfolding confirmations in_turn
  none_confirm = rw no_buyers

  pub all_unnamed : unnamed [] held ≡ held
  unfolding unnamed any
  all_unnamed = keep_all (λ x. true) held (every (λ x. true ≡ true) held (λ x. refl))

  pub held_free : held_in (length held) held ≡ held
  unfolding held_in
  held_free = free_stay (λ (x : Declaration). x.number) undeclared zero_number held e

  pub unheld_free : none_held held ≡ held
  unfolding none_held
  unheld_free = go held e
    where
      go : (xs : List Declaration) → Each (λ x. x ≡ undeclared) xs → none_held xs ≡ xs
      go [] f = refl
      go (x ∷ xs) f = ap (λ (y : Declaration). y ∷ none_held xs) (sym f.0) ∙ ap (λ (l : List Declaration). x ∷ l) (go xs f.1)

  none_fit : any (λ x. any (fits x) held) held ≡ false
  none_fit =
      fails (λ x. any (fits x) held) held
      (each (λ x. x ≡ undeclared) (λ x. any (fits x) held ≡ false) held
      (λ x f. rw f (fails (fits undeclared) held (of_free (fits undeclared) undeclared false unfit held e))) e)

  pub blocks_free : (d : Day) → has_places held ≡ true → unsound_blocks d held ≡ false
  unfolding unsound_blocks sound_blocks
  blocks_free d p =
      let formed : all (λ x. is_undeclared x || is_declaration d x) held ≡ true =
      passes (λ x. is_undeclared x || is_declaration d x) held
      (each (λ x. x ≡ undeclared) (λ x. is_undeclared x || is_declaration d x ≡ true) held (λ x f. rw (f, free_formed)) e)
      in
      rw (p, formed, free_arrives (λ (x : Declaration). x.number) undeclared zero_number held e, none_held_lem, none_fit, or-true (between 33_300 55_799 d.time), or-true (ltb d.time confirming_from))

-- ---- a book whose places were freed

pub cleared_empty : (book : List Order) → Empty (cleared book)
unfolding cleared
cleared_empty [] = tt
cleared_empty (o ∷ os) = (refl, cleared_empty os)

pub cleared_places : (book : List Order) → has_places book ≡ true → has_places (cleared book) ≡ true
unfolding has_places cleared
cleared_places book h = rw (length-map book (λ (o : Order). free)) h
