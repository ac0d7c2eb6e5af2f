-- What a move over all lists does to the fixed-price book and to the declarations, by the seconds that it passes. Assumes nothing.
use Rattle.std.specs.Prelude.{if◌then◌else◌}
use Prim.Native.Nat.{ℕ, ◌≤◌}
use mathlib.Core.Path.{◌≡◌, refl, ap, ◌∙◌}
use mathlib.Core.Logic.{⊎_elim}
use mathlib.Core.Bool.{Bool, true, false, ◌&&◌, and-false}
use mathlib.Core.List.{List, [], ◌∷◌}
use native.Mathlib.Omega.{arith}
use lib.ListN.{length}
use lib.Dec.{leb, ltb}
use borrow.Author.Tests.{le-leb, lt-leb, lt-ltb, le-ltb}
use Rattle.model.specs.declared.Order.{Order}
use Rattle.model.specs.declared.Declaration.{Declaration}
use Rattle.model.specs.declared.Day.{Day}
use Rattle.model.specs.Clock.{confirming_from, matching_from, day_end}
use Rattle.model.specs.Book.{free}
use Rattle.model.specs.Books.{Books, with_fixed, with_blocks}
use Rattle.model.specs.Figures.{reference, close_price, with_fixed_figures, with_block_figures, tally_fixed, tally_blocks}
use Rattle.model.specs.FixedBook.{lined}
use Rattle.model.specs.Blocks.{undeclared, held_in, none_held}
use Rattle.model.specs.Calls.{cleared}
use Rattle.model.specs.ClockCall.{Held, moved}
use Rattle.model.specs.AfterClose.{After, confirm_all, match_all, end_all}
use Rattle.model.specs.AllCalls.{start_after, moved_on}
use Rattle.model.proofs.Evening.{due, by_stops}
use Rattle.book.proofs.Kept.{free_number}
use Rattle.arrivals.proofs.Places.{places_length}
use Rattle.fixed_demands.specs.Moving.{Passes, Misses, matched_book, confirmed_held, ConfirmedNow, NoneConfirmed, MatchedNow, NoneMatched, LapsedNow, Evening}
use Rattle.fixed_demands.proofs.MainPart.{moved_others}

-- ---- what is due at a second, where it is passed and where it is not

module _ (c : ℕ) (f : After → After) (old new : ℕ) (h : After) where
  pub due_done : Passes c old new → due c f old new h ≡ f h
  due_done p = rw (le-leb c new p.reached, lt-ltb old c p.before)

  pub due_left : Misses c old new → due c f old new h ≡ h
  due_left m = ⊎_elim (λ l. rw (lt-leb c new l)) (λ l. rw (le-ltb old c l, and-false (leb c new))) m

  -- what it leaves alone either way
  pub due_same : {A : Type 0} (F : After → A) → ((k : After) → F (f k) ≡ F k) → F (due c f old new h) ≡ F h
  due_same F e = go (leb c new && ltb old c)
    where
      go : (b : Bool) → F (if b then f h else h) ≡ F h
      go true = e h
      go false = refl

-- ---- each step, on what it finds

module _ (d : Day) (k : After) where
  confirmed_at :
      (held : List Declaration)
      → k.books.blocks ≡ held
      → k.confirmed ≡ []
      → k.day.blocks ≡ d.blocks
      → ConfirmedNow d held (confirm_all k) × ((confirm_all k).books.blocks ≡ confirmed_held held)
  unfolding confirm_all with_blocks tally_blocks with_block_figures
  confirmed_at held e n f = (record { trades = rw (n, e); figures = rw (f, e) }, rw e)

  matched_at :
      (close : ℕ) (book : List Order)
      → close_price k.day ≡ close
      → k.books.fixed ≡ book
      → k.fixed ≡ []
      → k.day.fixed ≡ d.fixed
      → MatchedNow close d book (match_all k) × ((match_all k).books.fixed ≡ matched_book close book)
  unfolding match_all with_fixed tally_fixed with_fixed_figures
  matched_at close book c e n f = (
    record { trades = rw (n, c, e); void = rw (c, e); figures = rw (c, e, f) },
    rw (c, e),
  )

-- as many places as before
cleared_long : (xs ys : List Order) → length xs ≡ length ys → cleared xs ≡ cleared ys
unfolding cleared
cleared_long [] [] e = refl
cleared_long [] (y ∷ ys) e = absurd (omega arith)
cleared_long (x ∷ xs) [] e = absurd (omega arith)
cleared_long (x ∷ xs) (y ∷ ys) e = ap (λ (l : List Order). free ∷ l) (cleared_long xs ys (omega arith))

none_long : (xs ys : List Declaration) → length xs ≡ length ys → none_held xs ≡ none_held ys
unfolding none_held
none_long [] [] e = refl
none_long [] (y ∷ ys) e = absurd (omega arith)
none_long (x ∷ xs) [] e = absurd (omega arith)
none_long (x ∷ xs) (y ∷ ys) e = ap (λ (l : List Declaration). undeclared ∷ l) (none_long xs ys (omega arith))

pub matched_long : (close : ℕ) (book : List Order) → length (matched_book close book) ≡ length book
unfolding lined
matched_long close book = places_length (λ (o : Order). o.number) free free_number (length book) _

no_number : undeclared.number ≡ 0
unfolding undeclared
no_number = refl

pub confirmed_long : (held : List Declaration) → length (confirmed_held held) ≡ length held
unfolding held_in
confirmed_long held = places_length (λ (x : Declaration). x.number) undeclared no_number (length held) _

-- ---- the three steps in a row

module _ (d : Day) (t : ℕ) (s : Books) where
  abbrev m : Held
  m = moved d t s.main

  abbrev close : ℕ
  close = close_price m.day

  abbrev h0 : After
  h0 = start_after m s

  abbrev h1 : After
  h1 = due confirming_from confirm_all d.time t h0

  abbrev h2 : After
  h2 = due matching_from match_all d.time t h1

  abbrev h3 : After
  h3 = due day_end end_all d.time t h2

  -- what the first step leaves to the second
  abbrev first : {A : Type 0} (F : After → A) → ((k : After) → F (confirm_all k) ≡ F k) → F h1 ≡ F h0
  first = due_same confirming_from confirm_all d.time t h0

  abbrev second : {A : Type 0} (F : After → A) → ((k : After) → F (match_all k) ≡ F k) → F h2 ≡ F h1
  second = due_same matching_from match_all d.time t h1

  abbrev third : {A : Type 0} (F : After → A) → ((k : After) → F (end_all k) ≡ F k) → F h3 ≡ F h2
  third = due_same day_end end_all d.time t h2

  close_then : close_price h1.day ≡ close
  unfolding start_after close_price reference confirm_all tally_blocks with_block_figures
  close_then = first (λ k. close_price k.day) (λ k. refl)

  waits : h1.books.fixed ≡ s.fixed
  unfolding start_after confirm_all with_blocks
  waits = first (λ k. k.books.fixed) (λ k. refl)

  unmatched : h1.fixed ≡ []
  unfolding start_after confirm_all
  unmatched = first (λ k. k.fixed) (λ k. refl)

  unvoided : h1.void ≡ 0
  unfolding start_after confirm_all
  unvoided = first (λ k. k.void) (λ k. refl)

  untraded : h1.day.fixed ≡ d.fixed
  unfolding start_after confirm_all tally_blocks with_block_figures
  untraded =
      first (λ k. k.day.fixed) (λ k. refl) ∙ (moved_others d t s.main).fixed

  unlapsed : h2.lapsed ≡ 0
  unfolding start_after match_all confirm_all
  unlapsed =
      second (λ k. k.lapsed) (λ k. refl) ∙ first (λ k. k.lapsed) (λ k. refl)

  -- ---- 15:00

  module _ (p : Passes confirming_from d.time t) where
    confirms : ConfirmedNow d s.blocks h1 × (h1.books.blocks ≡ confirmed_held s.blocks)
    unfolding start_after
    confirms =
        rw (due_done confirming_from confirm_all d.time t h0 p)
        (confirmed_at d h0 s.blocks refl refl (moved_others d t s.main).blocks)

  later_blocks : h3.day.blocks ≡ h1.day.blocks
  unfolding end_all match_all tally_fixed with_fixed_figures
  later_blocks =
      third (λ k. k.day.blocks) (λ k. refl)
      ∙ second (λ k. k.day.blocks) (λ k. refl)

  later_confirmed : h3.confirmed ≡ h1.confirmed
  unfolding end_all match_all
  later_confirmed =
      third (λ k. k.confirmed) (λ k. refl) ∙ second (λ k. k.confirmed) (λ k. refl)

  held_then : h2.books.blocks ≡ h1.books.blocks
  unfolding match_all with_fixed
  held_then = second (λ k. k.books.blocks) (λ k. refl)

  now_confirmed : Passes confirming_from d.time t → ConfirmedNow d s.blocks h3
  now_confirmed p =
      record { trades = later_confirmed ∙ (confirms p).0.trades; figures = later_blocks ∙ (confirms p).0.figures }

  none_confirmed : Misses confirming_from d.time t → NoneConfirmed d h3
  unfolding start_after
  none_confirmed n =
      let e : h1 ≡ h0 = due_left confirming_from confirm_all d.time t h0 n in
      record {
        trades = later_confirmed ∙ ap (λ (k : After). k.confirmed) e;
        figures = later_blocks ∙ ap (λ (k : After). k.day.blocks) e ∙ (moved_others d t s.main).blocks;
      }

  -- ---- 15:05

  matching : Passes matching_from d.time t → MatchedNow close d s.fixed h2 × (h2.books.fixed ≡ matched_book close s.fixed)
  matching p =
      rw (due_done matching_from match_all d.time t h1 p) (matched_at d h1 close s.fixed close_then waits unmatched untraded)

  now_matched : Passes matching_from d.time t → MatchedNow close d s.fixed h3
  unfolding end_all
  now_matched p =
      let k = (matching p).0 in
      record {
        trades = third (λ k. k.fixed) (λ k. refl) ∙ k.trades;
        void = third (λ k. k.void) (λ k. refl) ∙ k.void;
        figures = third (λ k. k.day.fixed) (λ k. refl) ∙ k.figures;
      }

  none_matched : Misses matching_from d.time t → NoneMatched d h3
  unfolding end_all
  none_matched n =
      let e : h2 ≡ h1 = due_left matching_from match_all d.time t h1 n in
      record {
        trades = third (λ k. k.fixed) (λ k. refl) ∙ ap (λ (k : After). k.fixed) e ∙ unmatched;
        void = third (λ k. k.void) (λ k. refl) ∙ ap (λ (k : After). k.void) e ∙ unvoided;
        figures = third (λ k. k.day.fixed) (λ k. refl) ∙ ap (λ (k : After). k.day.fixed) e ∙ untraded;
      }

  fixed_left : Misses matching_from d.time t → h2.books.fixed ≡ s.fixed
  fixed_left n = ap (λ (k : After). k.books.fixed) (due_left matching_from match_all d.time t h1 n) ∙ waits

  -- ---- 15:30

  held_long : length h2.books.blocks ≡ length s.blocks
  unfolding start_after confirm_all with_blocks
  held_long = ap length held_then ∙ first (λ k. length k.books.blocks) (λ k. confirmed_long k.books.blocks)

  lapsing :
      (before : List Order)
      → h2.books.fixed ≡ before
      → length before ≡ length s.fixed
      → Passes day_end d.time t
      → LapsedNow s.fixed s.blocks before h3
  lapsing before e n p =
      rw (due_done day_end end_all d.time t h2 p)
      (unfold end_all in
      record {
        fixed = ap cleared e ∙ cleared_long before s.fixed n;
        blocks = none_long h2.books.blocks s.blocks held_long;
        lapsed = rw e;
      })

  last_left_lem : Misses day_end d.time t → h3 ≡ h2
  last_left_lem n = due_left day_end end_all d.time t h2 n

  by_steps : Evening d t s h3
  unfolding start_after
  by_steps =
      record {
        confirmed = now_confirmed;
        unconfirmed = none_confirmed;
        matched = now_matched;
        unmatched = none_matched;
        lapsed_matched = λ p. lapsing (matched_book close s.fixed) (matching p).1 (matched_long close s.fixed);
        lapsed = λ n. lapsing s.fixed (fixed_left n) refl;
        unlapsed = λ n. ap (λ (k : After). k.lapsed) (last_left_lem n) ∙ unlapsed;
        fixed_then = λ p n. ap (λ (k : After). k.books.fixed) (last_left_lem n) ∙ (matching p).1;
        fixed_same = λ n l. ap (λ (k : After). k.books.fixed) (last_left_lem l) ∙ fixed_left n;
        blocks_then = λ p n. ap (λ (k : After). k.books.blocks) (last_left_lem n) ∙ held_then ∙ (confirms p).1;
        blocks_same = λ n l.
            ap (λ (k : After). k.books.blocks) (last_left_lem l)
            ∙ held_then
            ∙ ap (λ (k : After). k.books.blocks) (due_left confirming_from confirm_all d.time t h0 n);
      }

  pub evening : d.time ≤ t → Evening d t s (moved_on d t s)
  unfolding moved_on
  evening l = rw (by_stops d.time t h0 l) by_steps
