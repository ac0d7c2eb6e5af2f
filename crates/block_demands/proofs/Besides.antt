-- A move with other declarations and other figures of block trades: it does the same to the main book, second after second, and then to
-- the fixed-price book. Assumes nothing.
use Prim.Native.Nat.{ℕ, ◌≤◌}
use mathlib.Core.Path.{◌≡◌, refl, sym, ap, ◌∙◌, subst}
use mathlib.Core.Bool.{Bool, true, false, cond, ◌&&◌, not}
use mathlib.Core.List.{List, [], ◌∷◌, ◌++◌}
use lib.Dec.{leb, ltb, eqb}
use Rattle.model.specs.declared.Order.{Order}
use Rattle.model.specs.declared.Declaration.{Declaration}
use Rattle.model.specs.declared.Trade.{Trade}
use Rattle.model.specs.declared.Blocks.{Blocks}
use Rattle.model.specs.declared.Day.{Day}
use Rattle.model.specs.Lists.{keep}
use Rattle.model.specs.Clock.{passed, confirming_from, matching_from, day_end}
use Rattle.model.specs.Figures.{reference, close_price, open_price, tally, with_fixed_figures, tally_fixed, with_block_figures, tally_blocks}
use Rattle.model.specs.Halts.{reach, halt_end, halting, fires, fired, resumed}
use Rattle.model.specs.Auction.{auction_price}
use Rattle.model.specs.Books.{Books, with_fixed, with_blocks}
use Rattle.model.specs.FixedBook.{is_void, matches}
use Rattle.model.specs.Blocks.{confirmations}
use Rattle.model.specs.ClockCall.{Held, auction_trades, auction, resume, lapse, pass, through, start, moved}
use Rattle.model.specs.AfterClose.{After, confirm_all, match_all, end_all}
use Rattle.model.specs.AllCalls.{start_after, moved_on}
use Rattle.model.proofs.Evening.{due, done, by_stops}
use Rattle.block_demands.specs.Separate.{Aside, SameBeside}

-- one of two, before or after a function
chosen : {A B : Type 0} (f : A → B) (t : Bool) (x y : A) → cond t (f x) (f y) ≡ f (cond t x y)
chosen f true x y = refl
chosen f false x y = refl

-- ---- the main book's part

module _ (b : Blocks) where
  abbrev with : Day → Day
  with d = with_block_figures b d

  -- the same on the way, with these figures of block trades
  abbrev beside : Held → Held
  beside h = record { day = with h.day; book = h.book; trades = h.trades }

  auction_beside : (h : Held) → auction (beside h) ≡ beside (auction h)
  unfolding auction auction_trades auction_price reference tally with_block_figures
  auction_beside h = refl

  fired_beside : (s : ℕ) (ts : List Trade) (d : Day) → fired s ts (with d) ≡ with (fired s ts d)
  unfolding fired fires reach open_price halting with_block_figures
  fired_beside s ts d = chosen with (fires ts d) (halting (halt_end s) 1 (cond (reach 60 ts d) 1 d.used60) d) d

  resumed_beside : (d : Day) → resumed (with d) ≡ with (resumed d)
  unfolding resumed halting with_block_figures
  resumed_beside d = refl

  resume_beside : (s : ℕ) (h : Held) → resume s (beside h) ≡ beside (resume s h)
  unfolding resume
  resume_beside s h =
      rw (auction_beside h, resumed_beside (auction h).day, same_trades)
      (ap (λ (d : Day). record { day = d; book = (auction h).book; trades = (auction h).trades })
      (ap (λ (d : Day). cond (eqb s 53_820) (with (resumed (auction h).day)) d) (fired_beside s (auction_trades h.day h.book) (resumed (auction h).day))
      ∙ chosen with (eqb s 53_820) (resumed (auction h).day) (fired s (auction_trades h.day h.book) (resumed (auction h).day))))
    where
      same_trades : auction_trades (with h.day) h.book ≡ auction_trades h.day h.book
      same_trades = unfold auction_trades auction_price reference with_block_figures in refl

  lapse_beside : (h : Held) → lapse (beside h) ≡ beside (lapse h)
  unfolding lapse
  lapse_beside h = refl

  pass_beside : (s : ℕ) (h : Held) → pass s (beside h) ≡ beside (pass s h)
  unfolding pass with_block_figures
  pass_beside s h = go (eqb s 33_900) (eqb s h.day.halt) (eqb s 54_000)
    where
      go :
          (x y z : Bool)
          → cond x (auction (beside h)) (cond y (resume s (beside h)) (cond z (lapse (auction (beside h))) (beside h)))
          ≡ beside (cond x (auction h) (cond y (resume s h) (cond z (lapse (auction h)) h)))
      go true y z = auction_beside h
      go false true z = resume_beside s h
      go false false true = ap lapse (auction_beside h) ∙ lapse_beside (auction h)
      go false false false = refl

  through_beside : (ss : List ℕ) (h : Held) → through ss (beside h) ≡ beside (through ss h)
  unfolding through
  through_beside [] h = refl
  through_beside (s ∷ ss) h = ap (through ss) (pass_beside s h) ∙ through_beside ss (pass s h)

  pub moved_beside : (d : Day) (t : ℕ) (book : List Order) → moved (with d) t book ≡ beside (moved d t book)
  unfolding moved start with_block_figures
  moved_beside d t book = through_beside (passed d.time t) (start d book)

-- ---- the rest

module _ (h k : After) (s : SameBeside h k) where
  -- by the figures of block trades that the second day has
  by_figures : (P : Day → Type 0) → ((b : Blocks) → P (with_block_figures b h.day)) → P k.day
  by_figures P f = subst P (sym s.day) (f k.day.blocks)

  confirm_beside : SameBeside (confirm_all h) (confirm_all k)
  unfolding confirm_all with_blocks
  confirm_beside =
      record {
        day = by_figures (λ e. Aside (tally_blocks (confirmations h.books.blocks) h.day) (tally_blocks (confirmations k.books.blocks) e)) (tallied _ _);
        main = s.main;
        fixed_book = s.fixed_book;
        auctions = s.auctions;
        fixed = s.fixed;
        void = s.void;
        lapsed = s.lapsed;
      }
    where
      tallied : (ts us : List Trade) (b : Blocks) → Aside (tally_blocks ts h.day) (tally_blocks us (with_block_figures b h.day))
      tallied ts us b = unfold tally_blocks with_block_figures in refl

  same_close : close_price k.day ≡ close_price h.day
  same_close = by_figures (λ e. close_price e ≡ close_price h.day) same
    where
      same : (b : Blocks) → close_price (with_block_figures b h.day) ≡ close_price h.day
      same b = unfold close_price reference with_block_figures in refl

  -- the trades of the fixed-price book
  abbrev matched : List Trade
  matched = matches (close_price h.day) (keep (λ o. not (is_void (close_price h.day) o)) h.books.fixed)

  match_beside : SameBeside (match_all h) (match_all k)
  unfolding match_all with_fixed
  match_beside =
      rw (s.fixed_book, same_close)
      (record {
        day = by_figures (λ e. Aside (tally_fixed matched h.day) (tally_fixed matched e)) (tallied matched);
        main = s.main;
        fixed_book = refl;
        auctions = s.auctions;
        fixed = ap (λ (ts : List Trade). ts ++ matched) s.fixed;
        void = refl;
        lapsed = s.lapsed;
      })
    where
      tallied : (ts : List Trade) (b : Blocks) → Aside (tally_fixed ts h.day) (tally_fixed ts (with_block_figures b h.day))
      tallied ts b = unfold tally_fixed with_fixed_figures with_block_figures in refl

  end_beside : SameBeside (end_all h) (end_all k)
  unfolding end_all
  end_beside =
      rw s.fixed_book
      (record {
        day = s.day;
        main = s.main;
        fixed_book = refl;
        auctions = s.auctions;
        fixed = s.fixed;
        void = s.void;
        lapsed = refl;
      })

-- what is due is done in both, or in neither
due_beside :
    (c : ℕ) (f : After → After) (old new : ℕ) (h k : After)
    → SameBeside h k
    → SameBeside (f h) (f k)
    → SameBeside (due c f old new h) (due c f old new k)
due_beside c f old new h k s t = go (leb c new && ltb old c)
  where
    go : (b : Bool) → SameBeside (cond b (f h) h) (cond b (f k) k)
    go true = t
    go false = s

module _ (d : Day) (t : ℕ) (s : Books) (b : Blocks) (held : List Declaration) (l : d.time ≤ t) where
  abbrev one : After
  one = start_after (moved d t s.main) s

  abbrev other : After
  other = start_after (moved (with_block_figures b d) t s.main) (with_blocks held s)

  begin_beside : SameBeside one other
  unfolding start_after with_blocks
  begin_beside =
      rw (moved_beside b d t s.main)
      (record {
        day = itself (moved d t s.main).day;
        main = refl;
        fixed_book = refl;
        auctions = refl;
        fixed = refl;
        void = refl;
        lapsed = refl;
      })
    where
      itself : (e : Day) → Aside e (with_block_figures b e)
      itself e = unfold with_block_figures in refl

  three_beside : SameBeside (due confirming_from confirm_all d.time t one) (due confirming_from confirm_all d.time t other)
  three_beside = due_beside confirming_from confirm_all d.time t one other begin_beside (confirm_beside one other begin_beside)

  five_past_beside :
      SameBeside
      (due matching_from match_all d.time t (due confirming_from confirm_all d.time t one))
      (due matching_from match_all d.time t (due confirming_from confirm_all d.time t other))
  five_past_beside = due_beside matching_from match_all d.time t _ _ three_beside (match_beside _ _ three_beside)

  done_beside : SameBeside (done d.time t one) (done d.time t other)
  done_beside = due_beside day_end end_all d.time t _ _ five_past_beside (end_beside _ _ five_past_beside)

  pub moves_beside : SameBeside (moved_on d t s) (moved_on (with_block_figures b d) t (with_blocks held s))
  unfolding moved_on with_blocks with_block_figures
  moves_beside = rw (by_stops d.time t one l, by_stops d.time t other l) done_beside
