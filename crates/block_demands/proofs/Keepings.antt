-- Every call keeps sound declarations sound, accepted or refused, and an opening gives some. Assumes nothing.
use Prim.Native.Nat.{ℕ, ◌≤◌, ◌<◌}
use mathlib.Core.Path.{◌≡◌, refl, subst}
use mathlib.Core.Bool.{Bool, true, false, cond, not, ◌&&◌}
use mathlib.Core.List.{List, []}
use native.Mathlib.Omega.{arith}
use native.Mathlib.Decide.{dec_le}
use lib.ListN.{length}
use lib.Dec.{ltb, eqb}
use borrow.Author.Tests.{eqb-true, eqb-false, ltb-false, not-false}
use Rattle.model.specs.declared.Order.{Order}
use Rattle.model.specs.declared.Asked.{Asked}
use Rattle.model.specs.declared.AskedFixed.{AskedFixed}
use Rattle.model.specs.declared.AskedBlock.{AskedBlock}
use Rattle.model.specs.declared.Declaration.{Declaration}
use Rattle.model.specs.declared.Trade.{Trade}
use Rattle.model.specs.declared.Day.{Day}
use Rattle.model.specs.declared.OpenReply as OpenReply
use Rattle.model.specs.declared.OrderAnswer.{OrderAnswer}
use Rattle.model.specs.declared.BlockReply as BlockReply
use Rattle.model.specs.Lists.{total}
use Rattle.model.specs.Clock.{is_time, confirming_from, matching_from, day_end}
use Rattle.model.specs.Limits.{is_price}
use Rattle.model.specs.Figures.{fresh_day, at, issue, tally, with_fixed_figures, issue_fixed, tally_fixed, with_block_figures, tally_blocks}
use Rattle.model.specs.Books.{Books, with_fixed, with_blocks}
use Rattle.model.specs.Blocks.{none_held, confirmations}
use Rattle.model.specs.Halts.{halting, fired}
use Rattle.model.specs.Entry.{entry_trades}
use Rattle.model.specs.Screen.{update}
use Rattle.model.specs.Sound.{has_places, is_mark}
use Rattle.model.specs.Refusals.{◌when◌, first_of, unsound_fixed}
use Rattle.model.specs.Calls.{Outcome, CancelOutcome, order_rules, entered, order_call, cancel_rules, cancel_call}
use Rattle.model.specs.FixedCalls.{fixed_trades, fixed_rules, fixed_entered, fixed_call}
use Rattle.model.specs.BlockCalls.{BlockOutcome, block_trades, block_rules, block_entered, block_call}
use Rattle.model.specs.ClockCall.{moved}
use Rattle.model.specs.AfterClose.{After, confirm_all, match_all, end_all}
use Rattle.model.specs.AllCalls.{OpenAllOutcome, open_all_rules, open_all_call, ClockAllOutcome, start_after, moved_on, clock_all_rules, clock_all_call}
use Rattle.model.specs.Words.{Sound}
use Rattle.model.proofs.Bools.{and_right}
use Rattle.model.proofs.Rules.{Numbered, none_holds}
use Rattle.halts.proofs.Kept.{fired_cases}
use Rattle.block_demands.specs.Held.{Covered}
use Rattle.block_demands.specs.Keeping.{Kept, Keeping}
use Rattle.block_demands.proofs.OtherFigures.{same_fixed, with_sound}
use Rattle.block_demands.proofs.Allowed.{or_neither, real_number, Allowed, allowed}
use Rattle.block_demands.proofs.Settling.{same_places, lapsed_length, lapsed_none}
use Rattle.block_demands.proofs.KeptBlocks.{SameBlocks, main_blocks_kept, none_kept, end_kept, three_kept, entered_day, block_kept}
use Rattle.block_demands.proofs.Moves.{same_then, same_fired, same_moved, due_cases, begun, at_three, at_five_past, moved_stops}

-- a number is 0 or not
by_number : {A : Type 0} (P : A → Type 0) (n : ℕ) (x y : A) → (n ≡ 0 → P x) → ((n ≡ 0 → ⊥) → P y) → P (cond (eqb n 0) x y)
by_number P n x y f g = go (eqb n 0) refl
  where
    go : (b : Bool) → eqb n 0 ≡ b → P (cond b x y)
    go true e = f (eqb-true n 0 e)
    go false e = g (eqb-false n 0 e)

-- ---- an opening

module _ (close mark : ℕ) (s : Books) where
  abbrev open_rule : ℕ
  open_rule = first_of (open_all_rules close mark s)

  enough : open_rule ≡ 0 → has_places s.blocks ≡ true
  unfolding open_all_rules ◌when◌
  enough z =
      let lists : Bool = is_price close && is_mark mark && has_places s.main && has_places s.fixed in
      and_right lists (has_places s.blocks)
      (not-false (lists && has_places s.blocks) (none_holds (open_all_rules close mark s) (real_number 14 refl, tt) z).0)

  pub fresh_covered : Covered (fresh_day close mark) []
  unfolding fresh_day total
  fresh_covered = record { within = omega arith }

  fresh_none : has_places s.blocks ≡ true → Kept (fresh_day close mark) (none_held s.blocks)
  unfolding fresh_day
  fresh_none p =
      none_kept (fresh_day close mark) [] (none_held s.blocks) (omega arith) fresh_covered
      (same_places s.blocks (none_held s.blocks) (lapsed_length s.blocks) p)
      (lapsed_none s.blocks)

  pub fresh_kept :
      (d : Day)
      → (open_all_call close mark s).reply ≡ OpenReply.TheVariants.Opened d
      → Kept d (open_all_call close mark s).books.blocks
  unfolding open_all_call
  fresh_kept d =
      by_number (λ (o : OpenAllOutcome). o.reply ≡ OpenReply.TheVariants.Opened d → Kept d o.books.blocks) open_rule _ _
      (λ z e. let same : fresh_day close mark ≡ d = cc in subst (λ x. Kept x (none_held s.blocks)) same (fresh_none (enough z)))
      (λ _ e. let z : ◌≡◌ {A = ℕ} 0 1 = cc in absurd (omega arith))

-- ---- a declaration

module _ (d : Day) (a : AskedBlock) (main : List Order) (held : List Declaration) (lent : List Trade) where
  abbrev block_rule : ℕ
  block_rule = first_of (block_rules d a main held (length lent))

  pub block_cases :
      (P : BlockOutcome → Type 0)
      → (block_rule ≡ 0 → P (block_entered d a held lent))
      → ((block_rule ≡ 0 → ⊥)
      → P
      (record {
        answer = record { reply = BlockReply.TheVariants.Refused block_rule; made = 0; day = d };
        held = held;
        trades = lent;
      }))
      → P (block_call d a main held lent)
  unfolding block_call
  block_cases P = by_number P block_rule _ _

  abbrev Keeps : BlockOutcome → Type 0
  Keeps o =
      Kept o.answer.day o.held
      × Sound o.answer.day main
      × ((book : List Order) → unsound_fixed o.answer.day book ≡ unsound_fixed d book)

  pub declaration_kept : Sound d main → Kept d held → Keeps (block_call d a main held lent)
  declaration_kept s k = block_cases Keeps accepted (λ _. (k, s, λ _. refl))
    where
      accepted : block_rule ≡ 0 → Keeps (block_entered d a held lent)
      accepted z = unfold block_entered in
          let m : Allowed d a main held = allowed d a main held (length lent) z in
          let e = entered_day (block_trades d a held) d in
          let b = block_kept d a main held m k.covered in (
            b,
            (s.0, rw e (with_sound _ d main m.until (rw e at b.fit) s.1)),
            λ book. rw e (same_fixed _ d book),
          )

-- ---- a move of the clock

-- the declarations on the way, at a second
abbrev KeptAt : ℕ → After → Type 0
KeptAt u h = Kept (at u h.day) h.books.blocks

module _ (h : After) (u : ℕ) (k : KeptAt u h) where
  -- nothing is due
  wait : (v : ℕ) → u ≤ v → (54_000 ≤ v → 54_000 ≤ u) → (55_800 ≤ v → 55_800 ≤ u) → KeptAt v h
  unfolding at
  wait v l three end =
      main_blocks_kept (at u h.day) (at v h.day) h.books.blocks (record { close = refl; limited = refl; blocks = refl })
      l
      three
      end
      k

  confirm_kept : u < 54_000 → KeptAt 54_000 (confirm_all h)
  unfolding at confirm_all with_blocks tally_blocks with_block_figures
  confirm_kept l =
      three_kept (at u h.day) (at 54_000 (tally_blocks (confirmations h.books.blocks) h.day)) h.books.blocks refl refl refl
      (omega arith)
      (λ e. absurd (omega (arith, e)))
      k

  match_kept : KeptAt u (match_all h)
  unfolding at match_all with_fixed tally_fixed with_fixed_figures
  match_kept =
      main_blocks_kept (at u h.day) (at u (match_all h).day) h.books.blocks (record { close = refl; limited = refl; blocks = refl })
      (omega arith)
      (λ e. e)
      (λ e. e)
      k

  lapse_kept : (v : ℕ) → KeptAt v (end_all h)
  unfolding at end_all
  lapse_kept v = end_kept (at u h.day) (at v h.day) h.books.blocks refl k

-- between two of the seconds at which something is due
pub record Way (old new : ℕ) (h : After) : Type 0 where
  pub time : ℕ
  pub kept : KeptAt time h
  pub from : old ≤ time
  pub until : time ≤ new
  pub three : 54_000 ≤ new → 54_000 ≤ time
  pub end : 55_800 ≤ time → 55_800 ≤ old

module _ (d : Day) (t : ℕ) (s : Books) (l : d.time ≤ t) (k : Kept d s.blocks) where
  begin : KeptAt d.time (begun d t s)
  unfolding start_after at
  begin =
      let m : SameBlocks d (moved d t s.main).day = same_moved d t s.main in
      main_blocks_kept d (at d.time (moved d t s.main).day) s.blocks
      (record { close = m.close; limited = m.limited; blocks = m.blocks })
      (omega arith)
      (λ e. e)
      (λ e. e)
      k

  way_three : Way d.time t (at_three d t s)
  unfolding confirming_from
  way_three =
      due_cases 54_000 confirm_all d.time t (begun d t s) (Way d.time t)
      (λ a b.
      record {
        time = 54_000;
        kept = confirm_kept (begun d t s) d.time begin a;
        from = omega (arith, a);
        until = b;
        three = λ _. omega arith;
        end = λ e. absurd (omega (arith, e));
      })
      (λ n. record { time = d.time; kept = begin; from = omega arith; until = l; three = λ e. not_passed n e; end = λ e. e })
    where
      not_passed : (d.time < 54_000 → 54_000 ≤ t → ⊥) → 54_000 ≤ t → 54_000 ≤ d.time
      not_passed n e = elim (dec_le 54_000 d.time) [ yes m ↦ m | no m ↦ absurd (n (omega (arith, m)) e) ]

  way_five_past : Way d.time t (at_five_past d t s)
  way_five_past =
      due_cases matching_from match_all d.time t (at_three d t s) (Way d.time t)
      (λ _ _.
      let w = way_three in
      record {
        time = w.time;
        kept = match_kept (at_three d t s) w.time w.kept;
        from = w.from;
        until = w.until;
        three = w.three;
        end = w.end;
      })
      (λ _. way_three)

  pub move_kept : KeptAt t (moved_on d t s)
  unfolding day_end
  move_kept =
      rw (moved_stops d t s l)
      (due_cases 55_800 end_all d.time t (at_five_past d t s) (KeptAt t)
      (λ _ _. lapse_kept (at_five_past d t s) way_five_past.time way_five_past.kept t)
      (λ n.
      let w = way_five_past in
      wait (at_five_past d t s) w.time w.kept t w.until w.three
      (λ e. elim (dec_le 55_800 d.time) [ yes m ↦ omega (arith, m, w.from) | no m ↦ absurd (n (omega (arith, m)) e) ])))

-- the screen is updated last
shown : (ts : List Trade) (book : List Order) (d : Day) (held : List Declaration) → Kept d held → Kept (update ts book d) held
unfolding update
shown ts book d held =
    main_blocks_kept d (update ts book d) held (record { close = refl; limited = refl; blocks = refl }) (omega arith) (λ e. e) (λ e. e)

module _ (d : Day) (t : ℕ) (s : Books) (lent : List Trade) where
  abbrev move_rule : ℕ
  move_rule = first_of (clock_all_rules d t s (length lent))

  -- rule 1 does not hold
  not_back : move_rule ≡ 0 → d.time ≤ t
  unfolding clock_all_rules ◌when◌
  not_back z =
      ltb-false t d.time (or_neither (not (is_time t)) (ltb t d.time) (none_holds (clock_all_rules d t s (length lent)) numbers z).1.0).1
    where
      numbers : Numbered (clock_all_rules d t s (length lent))
      numbers = (real_number 15 refl, (real_number 1 refl, (real_number 13 refl, tt)))

  abbrev KeepsAll : ClockAllOutcome → Type 0
  KeepsAll o = Kept o.answer.day o.books.blocks

  pub clock_kept : Kept d s.blocks → KeepsAll (clock_all_call d t s lent)
  unfolding clock_all_call
  clock_kept k =
      by_number KeepsAll move_rule _ _
      (λ z.
      let h : After = moved_on d t s in
      shown h.auctions h.books.main (at t h.day) h.books.blocks (move_kept d t s (not_back z) k))
      (λ _. k)

-- ---- the calls of the two books

-- a day that leaves what the declarations read, at the same time
still : (d e : Day) (held : List Declaration) → SameBlocks d e → e.time ≡ d.time → Kept d held → Kept e held
still d e held b t = main_blocks_kept d e held b (omega (arith, t)) (λ l. omega (arith, t, l)) (λ l. omega (arith, t, l))

pub order_kept :
    (d : Day) (a : Asked) (book : List Order) (lent : List Trade) (held : List Declaration)
    → Kept d held
    → Kept (order_call d a book lent).answer.day held
unfolding order_call entered
order_kept d a book lent held k =
    by_number (λ (o : Outcome OrderAnswer). Kept o.answer.day held) (first_of (order_rules d a book (length lent))) _ _
    (λ _. shown (entry_trades d a book) _ _ held (traded (entry_trades d a book)))
    (λ _. k)
  where
    issued : (ts : List Trade) → SameBlocks d (tally ts (issue d))
    issued ts = unfold tally issue in record { close = refl; limited = refl; blocks = refl }

    fired_time : (ts : List Trade) → (fired d.time ts (tally ts (issue d))).time ≡ d.time
    fired_time ts = unfold tally issue halting in
        fired_cases (λ e. e.time ≡ d.time) d.time ts (tally ts (issue d)) (λ _. refl) (λ _. refl)

    traded : (ts : List Trade) → Kept (fired d.time ts (tally ts (issue d))) held
    traded ts =
        still d (fired d.time ts (tally ts (issue d))) held
        (same_then d (tally ts (issue d)) _ (issued ts) (same_fired d.time ts (tally ts (issue d))))
        (fired_time ts)
        k

pub cancel_kept :
    (d : Day) (account number : ℕ) (book : List Order) (held : List Declaration)
    → Kept d held
    → Kept (cancel_call d account number book).answer.day held
unfolding cancel_call
cancel_kept d account number book held k =
    by_number (λ (o : CancelOutcome). Kept o.answer.day held) (first_of (cancel_rules d account number book)) _ _
    (λ _. shown [] _ d held k)
    (λ _. k)

pub fixed_kept :
    (d : Day) (a : AskedFixed) (main book : List Order) (lent : List Trade) (held : List Declaration)
    → Kept d held
    → Kept (fixed_call d a main book lent).answer.day held
unfolding fixed_call fixed_entered tally_fixed issue_fixed with_fixed_figures
fixed_kept d a main book lent held k =
    by_number (λ (o : Outcome OrderAnswer). Kept o.answer.day held) (first_of (fixed_rules d a main book (length lent))) _ _
    (λ _. still d (tally_fixed (fixed_trades d a book) (issue_fixed d)) held (record { close = refl; limited = refl; blocks = refl }) refl k)
    (λ _. k)

pub keeping : Keeping
keeping =
    record {
      fresh = fresh_kept;
      declaration = declaration_kept;
      clock = clock_kept;
      order = order_kept;
      cancel = cancel_kept;
      fixed = fixed_kept;
    }
