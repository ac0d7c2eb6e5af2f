-- Demand 2 over all lists, for any run from an accepted opening. Assumes nothing.
use Prim.Native.Nat.{ℕ, suc, ◌+◌, ◌≤◌, ◌<◌}
use mathlib.Core.Path.{◌≡◌, refl, sym, ap, ap₂, subst, ◌∙◌}
use mathlib.Core.Bool.{Bool, true, false, ◌&&◌, ◌||◌}
use mathlib.Core.List.{List, [], ◌∷◌}
use native.Mathlib.Omega.{arith}
use lib.ListN.{length, get_or}
use lib.Dec.{eqb}
use borrow.Author.Tests.{eqb-true, lt-leb, le-leb}
use Rattle.model.specs.declared.Order.{Order}
use Rattle.model.specs.declared.Declaration.{Declaration}
use Rattle.model.specs.declared.Trade.{Trade}
use Rattle.model.specs.declared.Screen.{Screen}
use Rattle.model.specs.declared.Day.{Day}
use Rattle.model.specs.declared.OpenReply as OpenReply
use Rattle.model.specs.declared.CancelReply as CancelReply
use Rattle.model.specs.Lists.{any, from}
use Rattle.model.specs.Clock.{day_end}
use Rattle.model.specs.Book.{free, is_live}
use Rattle.model.specs.Books.{Books}
use Rattle.model.specs.Matching.{filled, first_price, last_price, highest, lowest}
use Rattle.model.specs.Figures.{no_screen, fresh_day, money, open_price, close_price, published_shares, published_turnover}
use Rattle.model.specs.Screen.{screen_of, high_with, low_with}
use Rattle.model.specs.Blocks.{undeclared}
use Rattle.model.specs.Refusals.{first_of}
use Rattle.model.specs.Calls.{is_own, cancel_call}
use Rattle.model.specs.FixedCalls.{fixed_cancel_call}
use Rattle.model.specs.AllCalls.{OpenAllOutcome, open_all_rules, open_all_call}
use Rattle.model.proofs.Bools.{and_left, and_right}
use Rattle.book.proofs.Lists.{each, each_at}
use Rattle.book.proofs.Kept.{free_number}
use Rattle.book.proofs.Queues.{live_number}
use Rattle.soundness.specs.SoundDay.{Empty}
use Rattle.soundness.proofs.SoundDays.{sound_day, sound_evening}
use Rattle.demands.specs.Running.{Owner, Is}
use Rattle.demands.specs.Totalling.{Totals}
use Rattle.demands.proofs.Cases.{by_number}
use Rattle.demands.proofs.Elements.{some_map}
use Rattle.demands.proofs.Fresh.{empty_total}
use Rattle.demands.proofs.Issued.{Counts, numbers}
use Rattle.demands.proofs.Owned.{Known, Owned}
use Rattle.demands.proofs.Owns.{cancel_own}
use Rattle.demands.proofs.RunTotals.{close_is}
use Rattle.demands.proofs.Screened.{sound_counted}
use Rattle.demands.proofs.ScreenRuns.{Goes}
use Rattle.fixed_demands.proofs.Allowed.{cancellable}
use Rattle.fixed_demands.proofs.FixedClauses.{fixed_day_lem}
use Rattle.fixed_demands.proofs.FixedPlaces.{book_stands}
use Rattle.fixed_demands.proofs.FixedCases.{cancel_cases}
use Rattle.arrivals.proofs.Lines.{in_line, one_place}
use Rattle.block_demands.specs.Held.{NoneHeld}
use Rattle.block_demands.proofs.Plain.{undeclared_number, held_sound}
use Rattle.day_demands.specs.Keeping.{Kept}
use Rattle.day_demands.specs.Running.{WholeDay, Event, after, trades_in, accepted_in, Fresh, Numbered, Belongs, AllWere, HeldOnce, RunningAll}
use Rattle.day_demands.proofs.OtherThrough.{resting, Meant}
use Rattle.day_demands.proofs.Steps.{Through}
use Rattle.day_demands.proofs.Keepings.{open_kept}
use Rattle.day_demands.proofs.Runs.{series_in, owners_in, fate_in, run_kept, run_never_15, run_through, run_at_close}

-- ---- an opening

open_day : (close mark : ℕ) (s : Books) (d : Day) → (open_all_call close mark s).reply ≡ OpenReply.TheVariants.Opened d → d ≡ fresh_day close mark
unfolding open_all_call
open_day close mark s d =
    by_number (λ (o : OpenAllOutcome). o.reply ≡ OpenReply.TheVariants.Opened d → d ≡ fresh_day close mark) (first_of (open_all_rules close mark s)) _ _
    (λ _ e. cc)
    (λ _ e. let z : ◌≡◌ {A = ℕ} 0 1 = cc in absurd (omega arith))

nobody_known : (book : List Order) → Empty book → Owned [] book
nobody_known book =
    each (λ o. o ≡ free) (Known []) book (λ o e n. absurd (n (ap (λ (x : Order). x.number) e ∙ free_number)))

-- ---- numbers from 1 on

module _ (n m : ℕ) (ws : List Owner) (c : Counts n m ws) (z : n ≡ 0) where
  from_one : numbers ws ≡ from 1 (length ws)
  from_one = c.order ∙ ap (λ (k : ℕ). from (suc k) (length ws)) z

  all_counted : m ≡ length ws
  all_counted = omega (arith, c.count, z)

-- ---- a cancel of a fixed-price order

own_is : (account number : ℕ) (o : Order) → is_own account number o ≡ true → (o.number ≡ 0 → ⊥) × (o.number ≡ number) × (o.account ≡ account)
unfolding is_own
own_is account number o e =
    let h = and_left (is_live o && eqb o.number number) (eqb o.account account) e in (
      live_number o (and_left (is_live o) (eqb o.number number) h),
      eqb-true o.number number (and_right (is_live o) (eqb o.number number) h),
      eqb-true o.account account (and_right (is_live o && eqb o.number number) (eqb o.account account) e),
    )

-- whoever has an order in the book had it accepted
module _ (account number : ℕ) (ws : List Owner) where
  its_owner : (o : Order) → Known ws o → is_own account number o ≡ true → Belongs account number ws
  its_owner o k e =
      let h = own_is account number o e in
      some_map (λ w (i : Is o w). (i.number ∙ h.1, i.account ∙ h.2)) ws (k h.0)

  some_owner : (book : List Order) → Owned ws book → any (is_own account number) book ≡ true → Belongs account number ws
  unfolding any
  some_owner [] w e = let z : ◌≡◌ {A = ℕ} 0 1 = cc in absurd (omega arith)
  some_owner (o ∷ os) w e = go (is_own account number o) refl e (some_owner os w.1)
    where
      go :
          (b : Bool)
          → is_own account number o ≡ b
          → b || any (is_own account number) os ≡ true
          → (any (is_own account number) os ≡ true → Belongs account number ws)
          → Belongs account number ws
      go true x y rest = its_owner o w.0 x
      go false x y rest = rest y

-- ---- a run

module _ (s : WholeDay) (f : Fresh s) where
  fresh_kept : Kept s.day s.books
  fresh_kept = rw (← f.books) (open_kept f.close f.mark f.places s.day f.opened)

  is_fresh : s.day ≡ fresh_day f.close f.mark
  is_fresh = open_day f.close f.mark f.places s.day f.opened

  of_fresh : {A : Type 0} (F : Day → A) → F s.day ≡ F (fresh_day f.close f.mark)
  of_fresh F = ap F is_fresh

  at_midnight : s.day.time ≡ 0
  unfolding fresh_day
  at_midnight = of_fresh (λ d. d.time)

  main_empty : Empty s.books.main
  main_empty = (sound_day s.day s.books.main fresh_kept.sound.main.1).early (omega (arith, at_midnight))

  fixed_empty : Empty s.books.fixed
  fixed_empty = (fixed_day_lem s.day s.books.fixed fresh_kept.sound.fixed).early (omega (arith, at_midnight))

  blocks_empty : NoneHeld s.books.blocks
  blocks_empty = (held_sound s.day s.books.blocks fresh_kept.sound.blocks).early (omega (arith, at_midnight))

  module _ (es : List Event) where
    abbrev end : WholeDay
    end = after es s

    kept : Kept end.day end.books
    kept = run_kept es s fresh_kept

    run : Through s end (series_in es s) (owners_in es s) (fate_in es s)
    run = run_through es s fresh_kept

    -- ---- each book by itself

    main_owned : Owned (accepted_in (λ w. w.main) es s) end.books.main
    main_owned = run.main.owned [] (nobody_known s.books.main main_empty)

    fixed_owned : Owned (accepted_in (λ w. w.fixed) es s) end.books.fixed
    fixed_owned = run.fixed.owned [] (nobody_known s.books.fixed fixed_empty)

    main_numbered : Numbered (accepted_in (λ w. w.main) es s) end.day.issued end.books.main
    unfolding fresh_day
    main_numbered =
        let z = of_fresh (λ d. d.issued) in
        record {
          once = from_one _ _ _ run.main.counts z;
          counted = all_counted _ _ _ run.main.counts z;
          theirs = main_owned;
          apart = (sound_day end.day end.books.main kept.sound.main.1).apart;
        }

    fixed_numbered : Numbered (accepted_in (λ w. w.fixed) es s) end.day.fixed.issued end.books.fixed
    unfolding fresh_day
    fixed_numbered =
        let z = of_fresh (λ d. d.fixed.issued) in
        record {
          once = from_one _ _ _ run.fixed.counts z;
          counted = all_counted _ _ _ run.fixed.counts z;
          theirs = fixed_owned;
          apart =
              (book_stands end.day end.books.fixed (fixed_day_lem end.day end.books.fixed kept.sound.fixed)
              (sound_evening end.day end.books.main kept.sound.main.1).fixed_issued).apart;
        }

    blocks_once : numbers (accepted_in (λ w. w.blocks) es s) ≡ from 1 end.day.blocks.issued
    unfolding fresh_day
    blocks_once =
        let z = of_fresh (λ d. d.blocks.issued) in
        from_one _ _ _ run.blocks.counts z ∙ ap (from 1) (sym (all_counted _ _ _ run.blocks.counts z))

    blocks_theirs : AllWere (accepted_in (λ w. w.blocks) es s) end.books.blocks
    blocks_theirs =
        run.blocks.meant []
        (each (λ x. x ≡ undeclared) (Meant []) s.books.blocks (λ x e n. absurd (n (undeclared_number x e))) blocks_empty)

    blocks_apart : HeldOnce end.books.blocks
    blocks_apart =
        let held = end.books.blocks in
        one_place (λ (x : Declaration). x.number) undeclared (undeclared_number undeclared refl) held
        (in_line (λ (x : Declaration). x.number) held (held_sound end.day held kept.sound.blocks).arrived)

    cancels_own :
        (account number shares : ℕ)
        → (cancel_call end.day account number end.books.main).answer.reply ≡ CancelReply.TheVariants.Withdrawn shares
        → Belongs account number (accepted_in (λ w. w.main) es s)
    cancels_own account number shares r =
        let ws = accepted_in (λ w. w.main) es s in
        let book = end.books.main in
        let t = cancel_own end.day account number book kept.sound.main shares r in
        some_map (λ w (i : Is (get_or book t.place free) w). (i.number ∙ t.its_number, i.account ∙ t.its_account)) ws
        (each_at (Known ws) book free main_owned t.place t.inside (λ z. t.real (sym t.its_number ∙ z)))

    fixed_cancels_own :
        (account number shares : ℕ)
        → (fixed_cancel_call end.day account number end.books.main end.books.fixed).reply ≡ CancelReply.TheVariants.Withdrawn shares
        → Belongs account number (accepted_in (λ w. w.fixed) es s)
    fixed_cancels_own account number shares =
        let book = end.books.fixed in
        let ws = accepted_in (λ w. w.fixed) es s in
        cancel_cases end.day account number end.books.main book
        (λ o. o.reply ≡ CancelReply.TheVariants.Withdrawn shares → Belongs account number ws)
        (λ z _. some_owner account number ws book fixed_owned (cancellable end.day account number end.books.main book z).there)
        (λ _ r. let z : ◌≡◌ {A = ℕ} 0 1 = cc in absurd (omega arith))

    -- ---- the main book's figures

    abbrev ts : List Trade
    ts = trades_in (λ r. r.main) es s

    totals : Totals s.day end.day ts
    totals = run.main.totals

    shares : end.day.shares ≡ filled ts
    unfolding fresh_day
    shares = omega (arith, totals.shares, of_fresh (λ d. d.shares))

    turnover : end.day.turnover ≡ money ts
    unfolding fresh_day
    turnover = omega (arith, totals.turnover, of_fresh (λ d. d.turnover))

    opens_at : open_price end.day ≡ first_price 0 ts
    unfolding open_price fresh_day
    opens_at = totals.first ∙ rw (of_fresh (λ d. d.first))

    closes_at : close_price end.day ≡ last_price end.day.close ts
    unfolding fresh_day
    closes_at = close_is end.day ts run.main.prices (totals.last ∙ ap (λ (p : ℕ). last_price p ts) (of_fresh (λ d. d.last)))

    -- from a screen of zeros
    goes : Goes no_screen end.day.screen ts
    unfolding fresh_day
    goes = subst (λ (x : Screen). Goes x end.day.screen ts) (of_fresh (λ d. d.screen)) run.main.goes

    high : end.day.screen.high ≡ highest (first_price 0 ts) ts
    unfolding high_with no_screen
    high = goes.high

    low : end.day.screen.low ≡ lowest (first_price 0 ts) ts
    unfolding low_with no_screen
    low = goes.low

    screen_last : end.day.screen.last ≡ last_price 0 ts
    unfolding no_screen
    screen_last = goes.last

    counted : end.day.screen ≡ screen_of end.day end.books.main end.day.screen.high end.day.screen.low
    counted = sound_counted end.day end.books.main kept.sound.main

    -- ---- the figures of the other lists

    fixed_shares : end.day.fixed.shares ≡ filled (trades_in (λ r. r.fixed) es s)
    unfolding fresh_day
    fixed_shares = omega (arith, run.fixed.shares, of_fresh (λ d. d.fixed.shares))

    fixed_money : end.day.fixed.money ≡ money (trades_in (λ r. r.fixed) es s)
    unfolding fresh_day
    fixed_money = omega (arith, run.fixed.money, of_fresh (λ d. d.fixed.money))

    block_shares : end.day.blocks.shares ≡ filled (trades_in (λ r. r.confirmed) es s)
    unfolding fresh_day
    block_shares = omega (arith, run.blocks.shares, of_fresh (λ d. d.blocks.shares))

    none_rests : resting s.books.fixed ≡ 0
    none_rests = empty_total s.books.fixed fixed_empty

    -- ---- what is published

    shown_shares : end.day.screen.shares ≡ published_shares end.day
    unfolding screen_of
    shown_shares = ap (λ (x : Screen). x.shares) counted

    shown_turnover : end.day.screen.turnover ≡ published_turnover end.day
    unfolding screen_of
    shown_turnover = ap (λ (x : Screen). x.turnover) counted

    published_before :
        end.day.time < day_end → (end.day.screen.shares ≡ filled ts) × (end.day.screen.turnover ≡ money ts)
    published_before l = (shown_shares ∙ early_shares ∙ shares, shown_turnover ∙ early_turnover ∙ turnover)
      where
        early_shares : published_shares end.day ≡ end.day.shares
        early_shares = unfold published_shares in rw (lt-leb day_end end.day.time l)

        early_turnover : published_turnover end.day ≡ end.day.turnover
        early_turnover = unfold published_turnover in rw (lt-leb day_end end.day.time l)

    published_after :
        day_end ≤ end.day.time
        → (end.day.screen.shares ≡ filled ts + filled (trades_in (λ r. r.fixed) es s) + filled (trades_in (λ r. r.confirmed) es s))
        × (end.day.screen.turnover ≡ money ts + money (trades_in (λ r. r.fixed) es s))
    published_after l = (
      shown_shares ∙ late_shares ∙ omega (arith, shares, fixed_shares, block_shares),
      shown_turnover ∙ late_turnover ∙ omega (arith, turnover, fixed_money),
    )
      where
        late_shares : published_shares end.day ≡ end.day.shares + end.day.fixed.shares + end.day.blocks.shares
        late_shares = unfold published_shares in rw (le-leb day_end end.day.time l)

        late_turnover : published_turnover end.day ≡ end.day.turnover + end.day.fixed.money
        late_turnover = unfold published_turnover in rw (le-leb day_end end.day.time l)

  pub running_all : (es : List Event) → RunningAll es s
  running_all es =
      record {
        never_unsound = run_never_15 es s fresh_kept;
        kept = kept es;
        main = main_numbered es;
        fixed = fixed_numbered es;
        blocks_once = blocks_once es;
        blocks_theirs = blocks_theirs es;
        blocks_apart = blocks_apart es;
        cancels_own = cancels_own es;
        fixed_cancels_own = fixed_cancels_own es;
        shares = shares es;
        turnover = turnover es;
        opens_at = opens_at es;
        closes_at = closes_at es;
        screen = counted es ∙ ap₂ (screen_of (end es).day (end es).books.main) (high es) (low es);
        screen_last = screen_last es;
        adds_up = omega (arith, (run es).fixed.adds_up, none_rests es);
        fixed_shares = fixed_shares es;
        fixed_money = fixed_money es;
        at_close = run_at_close es s fresh_kept;
        block_shares = block_shares es;
        published_before = published_before es;
        published_after = published_after es;
      }
