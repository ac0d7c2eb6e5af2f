-- A move over 15:05, and one over 15:30: who trades, who is void, and who is left. Assumes nothing.
use Prim.Native.Nat.{ℕ, ◌-◌, ◌≤◌, ◌<◌}
use mathlib.Core.Path.{◌≡◌, refl, sym, ap, ap₂, ◌∙◌}
use mathlib.Core.Logic.{◌⊎◌, inl, inr, ⊎_elim}
use mathlib.Core.Bool.{true, false, not, ◌&&◌}
use mathlib.Core.List.{List, []}
use native.Mathlib.Decide.{dec_le, dec_lt}
use native.Mathlib.Omega.{arith}
use lib.ListN.{length}
use borrow.Author.Tests.{not-true}
use Rattle.model.specs.declared.Order.{Order}
use Rattle.model.specs.declared.Trade.{Trade}
use Rattle.model.specs.declared.Day.{Day}
use Rattle.model.specs.Lists.{keep, from}
use Rattle.model.specs.Clock.{matching_from, day_end, passed}
use Rattle.model.specs.Book.{free, is_live, stands_on}
use Rattle.model.specs.Books.{Books}
use Rattle.model.specs.Matching.{filled_of, settle}
use Rattle.model.specs.Figures.{close_price}
use Rattle.model.specs.Auction.{shares_of}
use Rattle.model.specs.Pairing.{Share}
use Rattle.model.specs.FixedBook.{wrong_side, is_void, arrivals, matches}
use Rattle.model.specs.Refusals.{unsound, unsound_fixed}
use Rattle.model.specs.Calls.{cleared}
use Rattle.model.specs.ClockCall.{moved}
use Rattle.model.specs.AfterClose.{After, through_after}
use Rattle.model.specs.AllCalls.{start_after, moved_on}
use Rattle.model.specs.Words.{Each, Sound}
use Rattle.model.proofs.Bools.{and_left}
use Rattle.book.specs.Standing.{Standing}
use Rattle.book.proofs.Lists.{each, both, each_keep, kept, keep_keep, length_keep}
use Rattle.book.proofs.Kept.{free_number, standing_keep}
use Rattle.book.proofs.Shares.{of_number, Only, each_only}
use Rattle.book.proofs.Numbers.{tick}
use Rattle.book.proofs.Counting.{orders, fewer_orders}
use Rattle.book.proofs.Queues.{live_number, on_live}
use Rattle.book.proofs.Thinning.{free_gone}
use Rattle.soundness.specs.SoundDay.{Empty}
use Rattle.soundness.specs.Ready.{Ready}
use Rattle.soundness.proofs.Readiness.{ready_if}
use Rattle.pairing.proofs.Grants.{in_both}
use Rattle.pairing.proofs.Turns.{pairs}
use Rattle.arrivals.proofs.Places.{taken_kept}
use Rattle.fixed_demands.specs.Moving.{Passes, Misses, MatchedNow, Evening, valid, matched_trades, matched_book}
use Rattle.fixed_demands.specs.FixedPrice.{WithinLimits, FivePast, one_by_one}
use Rattle.fixed_demands.proofs.Evenings.{evening}
use Rattle.fixed_demands.proofs.FixedClauses.{fixed_day_lem}
use Rattle.fixed_demands.proofs.EmptyLists.{nobody, cleared_empty}
use Rattle.fixed_demands.proofs.Lining.{nr, live_taken, lined_side}
use Rattle.fixed_demands.proofs.FixedPlaces.{book_stands}
use Rattle.fixed_demands.proofs.Matched.{matches_are, each_share, all_took, one_side_left}
use Rattle.fixed_demands.proofs.Limits.{within_limits, limits_among}
use Rattle.fixed_demands.proofs.Entering.{shares_live}
use Rattle.fixed_demands.proofs.OneByOne.{one_by_one_lem}
use Rattle.fixed_demands.proofs.KeptCalls.{passes_or_misses}

-- ---- the matching of a book that stands

-- free places do not match
matches_live : (close : ℕ) (os : List Order) → matches close (keep is_live os) ≡ matches close os
matches_live close os =
    matches_are close (keep is_live os)
    ∙ ap₂ (λ x y. pairs close x y) (shares_live 0 os) (shares_live 1 os)
    ∙ sym (matches_are close os)

module _ (close : ℕ) (book : List Order) (s : Standing book) where
  abbrev ts : List Trade
  ts = matched_trades close book

  abbrev waiting : List Order
  waiting = keep (λ o. is_live o && not (is_void close o)) book

  stands : Standing (valid close book)
  stands = standing_keep (λ o. not (is_void close o)) book s

  -- the live ones of those that are not void
  live_valid : keep is_live (valid close book) ≡ waiting
  live_valid =
      live_taken (valid close book)
      ∙ taken_kept nr free free_number (λ o. not (is_void close o)) book
      ∙ ap (keep (λ o. not (is_void close o))) (sym (live_taken book))
      ∙ keep_keep (λ o. not (is_void close o)) is_live book

  pub as_they_came : ts ≡ one_by_one close [] waiting
  as_they_came =
      sym (ap (matches close) (sym live_valid) ∙ matches_live close (valid close book))
      ∙ one_by_one_lem close waiting
      (each (λ o. is_live o && not (is_void close o) ≡ true) (λ o. is_live o ≡ true) waiting (λ o e. and_left (is_live o) (not (is_void close o)) e) (kept (λ o. is_live o && not (is_void close o)) book))
      [] (standing_keep (λ o. is_live o && not (is_void close o)) book s) (inl (unfold keep in refl))

  none_void : Each (λ o. is_void close o ≡ false) (valid close book)
  none_void =
      each (λ o. not (is_void close o) ≡ true) (λ o. is_void close o ≡ false) (valid close book) (λ o n. not-true (is_void close o) n)
      (kept (λ o. not (is_void close o)) book)

  pub limits : Each (WithinLimits close book) ts
  limits = limits_among close (λ o. not (is_void close o)) book ts (within_limits close (valid close book) stands none_void)

  -- how many void orders bear a number
  abbrev voids : ℕ → ℕ
  voids n = of_number n (λ o. tick (is_void close o)) book

  own_voids : Each (λ o. (o.number ≡ 0 → ⊥) → voids o.number ≡ tick (is_void close o)) book
  own_voids = each (Only book) (λ o. (o.number ≡ 0 → ⊥) → voids o.number ≡ tick (is_void close o)) book (λ o h n. h n (λ x. tick (is_void close x))) (each_only book s.apart)

  others : (side : ℕ) → Each (λ (x : Share). voids x.number ≡ 0) (arrivals side (valid close book))
  others side =
      each_share (λ (x : Share). voids x.number ≡ 0) side (valid close book)
      (both (λ o. (o.number ≡ 0 → ⊥) → voids o.number ≡ tick (is_void close o)) (λ o. is_void close o ≡ false) (λ o. stands_on side o ≡ true → voids o.number ≡ 0) (valid close book)
      (λ o h v e. h (on_live side o e) ∙ rw v)
      (each_keep (λ o. (o.number ≡ 0 → ⊥) → voids o.number ≡ tick (is_void close o)) (λ o. not (is_void close o)) book own_voids)
      none_void)

  pub void_out : Each (λ o. is_void close o ≡ true → filled_of o.number ts ≡ 0) book
  void_out =
      each (λ o. (o.number ≡ 0 → ⊥) → voids o.number ≡ tick (is_void close o)) (λ o. is_void close o ≡ true → filled_of o.number ts ≡ 0) book
      (λ o h v. let one : voids o.number ≡ 1 = h (void_live o v) ∙ rw v in nothing o.number one) own_voids
    where
      void_live : (o : Order) → is_void close o ≡ true → o.number ≡ 0 → ⊥
      void_live o v = unfold is_void in live_number o (and_left (is_live o) (wrong_side o.side o.price close) v)

      absent : (n : ℕ) → voids n ≡ 1 → (side : ℕ) → Each (λ (x : Share). x.number ≡ n → ⊥) (arrivals side (valid close book))
      absent n one side =
          each (λ (x : Share). voids x.number ≡ 0) (λ (x : Share). x.number ≡ n → ⊥) (arrivals side (valid close book))
          (λ x z e. omega (arith, sym one ∙ ap voids (sym e) ∙ z)) (others side)

      nothing : (n : ℕ) → voids n ≡ 1 → filled_of n ts ≡ 0
      nothing n one =
          omega (arith, in_both n ts, (all_took (valid close book) stands close).buyers n (absent n one 0), (all_took (valid close book) stands close).sellers n (absent n one 1))

  pub matched_sides : (keep (stands_on 0) (matched_book close book) ≡ []) ⊎ (keep (stands_on 1) (matched_book close book) ≡ [])
  matched_sides =
      let fit : orders (settle ts (valid close book)) ≤ length book =
      omega (arith, fewer_orders ts (valid close book), length_keep is_live (valid close book), length_keep (λ o. not (is_void close o)) book) in
      ⊎_elim (λ e. inl (lined_side (length book) (settle ts (valid close book)) fit 0 ∙ e)) (λ e. inr (lined_side (length book) (settle ts (valid close book)) fit 1 ∙ e)) (one_side_left (valid close book) stands close)

-- ---- the move

sound_ready : (d : Day) (main : List Order) → Sound d main → Ready d main
unfolding unsound
sound_ready d main s = ready_if d main (rw (s.0, s.1))

module _ (d : Day) (t : ℕ) (s : Books) where
  abbrev h : After
  h = moved_on d t s

  abbrev close : ℕ
  close = close_price (moved d t s.main).day

  pub five_past_lem :
      Sound d s.main
      → unsound_fixed d s.fixed ≡ false
      → d.time < matching_from
      → matching_from ≤ t
      → FivePast close s.fixed h
  unfolding shares_of matching_from
  five_past_lem m f before reached =
      record {
        one_by_one = k.trades ∙ as_they_came close s.fixed stand;
        void = k.void;
        void_out = rw k.trades (void_out close s.fixed stand);
        limits = rw k.trades (limits close s.fixed stand);
        one_sided = ⊎_elim ended matched (passes_or_misses day_end d.time t);
      }
    where
      p : Passes matching_from d.time t
      p = record { before = before; reached = reached }

      steps : Evening d t s h
      steps = evening d t s (omega arith)

      k : MatchedNow close d s.fixed h
      k = steps.matched p

      stand : Standing s.fixed
      stand = book_stands d s.fixed (fixed_day_lem d s.fixed f) (sound_ready d s.main m).evening.fixed_issued

      ended : Passes day_end d.time t → (keep (stands_on 0) h.books.fixed ≡ []) ⊎ (keep (stands_on 1) h.books.fixed ≡ [])
      ended e = inl (rw (steps.lapsed_matched p e).fixed (nobody (cleared s.fixed) (cleared_empty s.fixed) 0))

      matched : Misses day_end d.time t → (keep (stands_on 0) h.books.fixed ≡ []) ⊎ (keep (stands_on 1) h.books.fixed ≡ [])
      matched n = rw (steps.fixed_then p n) (matched_sides close s.fixed stand)

  -- ---- 15:30

  nobody_lives : (os : List Order) → Empty os → Each (λ o. is_live o ≡ false) os
  nobody_lives os e = each (λ o. o ≡ free) (λ o. is_live o ≡ false) os (λ o f. ap is_live f ∙ free_gone) e

  -- a move that goes nowhere
  no_move : t < d.time → h.books.fixed ≡ s.fixed
  unfolding moved_on start_after passed from through_after
  no_move l = let z : t - d.time ≡ 0 = omega arith in rw z

  pub ended : unsound_fixed d s.fixed ≡ false → day_end ≤ t → Each (λ o. is_live o ≡ false) h.books.fixed
  unfolding day_end matching_from
  ended f l = elim (dec_le 55_800 d.time) [
    | yes k ↦
        let gone : Each (λ o. is_live o ≡ false) s.fixed = nobody_lives s.fixed ((fixed_day_lem d s.fixed f).ended k) in
        elim (dec_lt t d.time) [
          | yes j ↦ rw (no_move j) gone
          | no j ↦
              let g : Evening d t s h = evening d t s (omega arith) in
              rw (g.fixed_same (inr (omega arith)) (inr k)) gone
        ]
    | no k ↦
        let g : Evening d t s h = evening d t s (omega arith) in
        let p : Passes 55_800 d.time t = record { before = omega arith; reached = l } in
        let e : h.books.fixed ≡ cleared s.fixed = ⊎_elim (λ q. (g.lapsed_matched q p).fixed) (λ n. (g.lapsed n p).fixed) (passes_or_misses 54_300 d.time t) in
        rw e (nobody_lives (cleared s.fixed) (cleared_empty s.fixed))
  ]
