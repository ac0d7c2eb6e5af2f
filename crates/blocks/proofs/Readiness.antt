-- A sound day and sound declarations are ready for a call.
use Prim.Native.Nat.{ℕ, ◌*◌, ◌≤◌, ◌<◌}
use mathlib.Core.Path.{◌≡◌, refl, sym, ap, ◌∙◌}
use mathlib.Core.Bool.{Bool, true, false, not, ◌&&◌, ◌||◌}
use mathlib.Core.List.{List}
use lib.Dec.{leb, ltb}
use borrow.Author.Tests.{leb-true, lt-leb, le-ltb, not-true, not-false}
use Rattle.model.specs.declared.Order.{Order}
use Rattle.model.specs.declared.Declaration.{Declaration}
use Rattle.model.specs.declared.Day.{Day}
use Rattle.model.specs.Lists.{all, any}
use Rattle.model.specs.Clock.{confirming_from}
use Rattle.model.specs.Limits.{is_price}
use Rattle.model.specs.Arrival.{in_arrival}
use Rattle.model.specs.Book.{in_order}
use Rattle.model.specs.Sound.{has_places, sound_figures, sound_anywhere, screen_fits, halt_fits, fixed_fits, sound, blocks_fit, between}
use Rattle.model.specs.Blocks.{is_held, fits}
use Rattle.model.specs.SoundBlocks.{is_undeclared, is_declaration, sound_blocks}
use Rattle.model.specs.Refusals.{unsound, unsound_blocks}
use Rattle.model.specs.Words.{Each}
use Rattle.model.proofs.Bools.{and_left, and_right}
use Rattle.book.proofs.Lists.{each}
use Rattle.partners.proofs.Tests.{any_none}
use Rattle.blocks.specs.Ready.{NoneFit, BlocksReady}
use Rattle.held.proofs.Walks.{all_each}
use Rattle.held.proofs.Holding.{unheld_number}
use Rattle.held.proofs.Formed.{is_formed, declared, formed_number, some_places}

-- ---- the day alone

pub sound_day : (d : Day) (main : List Order) → unsound d main ≡ false → sound d main ≡ true
unfolding unsound
sound_day d main e = and_right (has_places main) (sound d main) (not-false _ e)

pub sound_close : (d : Day) (main : List Order) → sound d main ≡ true → is_price d.close ≡ true
unfolding sound sound_anywhere sound_figures
sound_close d main e =
    let anywhere = and_left _ _ (and_left _ _ (and_left _ _ (and_left _ _ (and_left _ _ e)))) in
    let figures =
    and_left _ _ (and_left _ _ (and_left _ _ (and_left _ _ (and_left _ _ (and_left _ _ (and_left _ _ anywhere)))))) in
    and_left _ _ (and_left _ _ (and_left _ _ figures))

pub sound_blocks_lem : (d : Day) (main : List Order) → sound d main ≡ true → blocks_fit d ≡ true
unfolding sound
sound_blocks_lem d main e =
    and_right (sound_anywhere d main && in_order main && screen_fits d main && halt_fits d && fixed_fits d) (blocks_fit d) e

-- ---- the declarations, test by test

pub record Passing (d : Day) (held : List Declaration) : Type 0 where
  pub places : has_places held ≡ true
  pub formed : all (λ x. is_undeclared x || is_declaration d x) held ≡ true
  pub arrived : in_arrival (λ x. x.number) held ≡ true
  pub hours : between 33_300 55_799 d.time || not (any is_held held) ≡ true
  pub undue : ltb d.time confirming_from || not (any (λ x. any (fits x) held) held) ≡ true

pub passing : (d : Day) (held : List Declaration) → unsound_blocks d held ≡ false → Passing d held
unfolding unsound_blocks sound_blocks
passing d held e =
    go (all (is_formed d) held) (in_arrival (λ x. x.number) held) (between 33_300 55_799 d.time || not (any is_held held)) (ltb d.time confirming_from || not (any (λ x. any (fits x) held) held)) refl refl refl refl (not-false _ e)
  where
    go :
        (f a h u : Bool)
        → all (λ x. is_undeclared x || is_declaration d x) held ≡ f
        → in_arrival (λ x. x.number) held ≡ a
        → between 33_300 55_799 d.time || not (any is_held held) ≡ h
        → ltb d.time confirming_from || not (any (λ x. any (fits x) held) held) ≡ u
        → has_places held && (f && a && h && u) ≡ true
        → Passing d held
    go f a h u ef ea eh eu k =
        let s = and_right (has_places held) (f && a && h && u) k in
        let t = and_left (f && a && h) u s in
        let v = and_left (f && a) h t in
        record {
          places = and_left (has_places held) (f && a && h && u) k;
          formed = ef ∙ and_left f a v;
          arrived = ea ∙ and_right f a v;
          hours = eh ∙ and_right (f && a) h t;
          undue = eu ∙ and_right (f && a && h) u s;
        }

-- the second of two where the first fails
or_second : {a b : Bool} → a || b ≡ true → a ≡ false → b ≡ true
or_second {a} {b} e f = rw f at e

outside_low : (a b t : ℕ) → t < a → between a b t ≡ false
unfolding between
outside_low a b t h = rw (lt-leb a t h)

outside_high : (a b t : ℕ) → b < t → between a b t ≡ false
unfolding between
outside_high a b t h = rw (lt-leb t b h) (go (leb a t))
  where
    go : (c : Bool) → c && false ≡ false
    go true = refl
    go false = refl

none_held_lem : (held : List Declaration) → not (any is_held held) ≡ true → Each (λ x. x.number ≡ 0) held
none_held_lem held e =
    each (λ x. is_held x ≡ false) (λ x. x.number ≡ 0) held unheld_number (any_none is_held held (not-true _ e))

module _ (d : Day) (held : List Declaration) (p : Passing d held) where
  pub passing_early : d.time < 33_300 → Each (λ x. x.number ≡ 0) held
  passing_early h = none_held_lem held (or_second p.hours (outside_low 33_300 55_799 d.time h))

  pub passing_late : 55_800 ≤ d.time → Each (λ x. x.number ≡ 0) held
  passing_late h = none_held_lem held (or_second p.hours (outside_high 33_300 55_799 d.time h))

  pub passing_undue : 54_000 ≤ d.time → NoneFit held
  unfolding confirming_from
  passing_undue h =
      each (λ x. any (fits x) held ≡ false) (λ x. Each (λ y. fits x y ≡ false) held) held
      (λ x. any_none (fits x) held)
      (any_none (λ x. any (fits x) held) held (not-true _ (or_second p.undue (le-ltb d.time 54_000 h))))

pub blocks_ready :
    (d : Day) (main : List Order) (held : List Declaration)
    → unsound d main ≡ false
    → unsound_blocks d held ≡ false
    → BlocksReady d held
unfolding blocks_fit
blocks_ready d main held u e =
    let p = passing d held e in
    let s = sound_day d main u in
    let b = sound_blocks_lem d main s in
    record {
      sound = e;
      declared = declared d held b p.places p.formed p.arrived;
      some = some_places held p.places;
      close = sound_close d main s;
      issued = leb-true d.blocks.issued 999_999 (and_left _ _ b);
      bound = leb-true d.blocks.shares (50_000_000 * d.blocks.issued) (and_right (leb d.blocks.issued 999_999) _ b);
      numbered =
          each (λ x. is_formed d x ≡ true) (λ x. x.number ≤ d.blocks.issued) held (formed_number d)
          (all_each (is_formed d) held p.formed);
      early = passing_early d held p;
      late = passing_late d held p;
      undue = passing_undue d held p;
    }

-- ---- what the test tells

module _ (d : Day) (held : List Declaration) {r : Bool} (e : r ≡ (has_places held && sound_blocks d held)) where
  pub is_unsound_blocks : r ≡ false → unsound_blocks d held ≡ true
  unfolding unsound_blocks
  is_unsound_blocks f = ap not (sym e ∙ f)

  pub not_unsound_blocks : r ≡ true → unsound_blocks d held ≡ false
  unfolding unsound_blocks
  not_unsound_blocks f = ap not (sym e ∙ f)
