-- Demand 2 for any run from an accepted opening. Assumes nothing.
use Prim.Native.Nat.{ℕ, suc}
use mathlib.Core.Path.{◌≡◌, sym, ap, ap₂, subst, ◌∙◌}
use mathlib.Core.List.{List, [], ◌∷◌}
use native.Mathlib.Omega.{arith}
use lib.ListN.{get_or, length}
use Rattle.model.specs.declared.Order.{Order}
use Rattle.model.specs.declared.Screen.{Screen}
use Rattle.model.specs.declared.Day.{Day}
use Rattle.model.specs.declared.Fixed.{Fixed}
use Rattle.model.specs.declared.Blocks.{Blocks}
use Rattle.model.specs.declared.CancelReply as CancelReply
use Rattle.model.specs.Lists.{from}
use Rattle.model.specs.Book.{free}
use Rattle.model.specs.Matching.{filled, first_price, last_price, highest, lowest}
use Rattle.model.specs.Figures.{no_screen, fresh_day, money, open_price, close_price}
use Rattle.model.specs.Screen.{screen_of, high_with, low_with}
use Rattle.model.specs.Calls.{cancel_call}
use Rattle.model.specs.Session.{Desk}
use Rattle.model.specs.Words.{Each, Some, Sound}
use Rattle.book.proofs.Lists.{each, each_at}
use Rattle.book.proofs.Kept.{free_number}
use Rattle.soundness.proofs.SoundDays.{sound_day}
use Rattle.demands.specs.Totalling.{Totals}
use Rattle.demands.specs.Running.{Call, Owner, answers, stepped, after, trades_in, accepted_in, Fresh, Is, Running}
use Rattle.demands.proofs.Fresh.{open_fresh, open_call_lem}
use Rattle.demands.proofs.Answers.{event_sound, event_not_15}
use Rattle.demands.proofs.Issued.{run_counts}
use Rattle.demands.proofs.Owned.{Known, Owned, run_owned}
use Rattle.demands.proofs.OtherFigures.{run_others, main_shares, main_turnover}
use Rattle.demands.proofs.RunTotals.{run_prices, run_totals, close_is}
use Rattle.demands.proofs.Screened.{sound_counted}
use Rattle.demands.proofs.ScreenRuns.{Goes, run_goes}
use Rattle.demands.proofs.Owns.{cancel_own}
use Rattle.demands.proofs.Elements.{some_map}

pub run_sound : (es : List Call) (s : Desk) → Sound s.day s.book → Sound (after es s).day (after es s).book
unfolding after
run_sound [] s k = k
run_sound (e ∷ es) s k = run_sound es (stepped e s) (event_sound e.event e.within e.lent s k)

run_not_15 : (es : List Call) (s : Desk) → Sound s.day s.book → Each (λ (ns : List ℕ). get_or ns 0 0 ≡ 15 → ⊥) (answers es s)
unfolding answers
run_not_15 [] s k = tt
run_not_15 (e ∷ es) s k = (event_not_15 e.event e.within e.lent s k, run_not_15 es (stepped e s) (event_sound e.event e.within e.lent s k))

module _ (s : Desk) (f : Fresh s) where
  pub fresh_sound : Sound s.day s.book
  fresh_sound = rw (← f.book) (open_fresh f.close f.mark f.places s.day f.opened)

  pub is_fresh : s.day ≡ fresh_day f.close f.mark
  is_fresh = open_call_lem f.close f.mark f.places s.day f.opened

  none_issued : s.day.issued ≡ 0
  unfolding fresh_day
  none_issued = ap (λ (d : Day). d.issued) is_fresh

  at_midnight : s.day.time ≡ 0
  unfolding fresh_day
  at_midnight = ap (λ (d : Day). d.time) is_fresh

  nobody : Owned [] s.book
  nobody =
      each (λ o. o ≡ free) (Known []) s.book (λ o e n. absurd (n (ap (λ (x : Order). x.number) e ∙ free_number)))
      ((sound_day s.day s.book fresh_sound.1).early (omega (arith, at_midnight)))

  theirs : (es : List Call) → Owned (accepted_in es s) (after es s).book
  theirs es = run_owned [] es s nobody

  cancels_own :
      (es : List Call) (account number shares : ℕ)
      → (cancel_call (after es s).day account number (after es s).book).answer.reply ≡ CancelReply.TheVariants.Withdrawn shares
      → Some (λ (w : Owner). (w.number ≡ number) × (w.account ≡ account)) (accepted_in es s)
  cancels_own es account number shares r =
      let t = cancel_own (after es s).day account number (after es s).book (run_sound es s fresh_sound) shares r in
      some_map (λ w (i : Is (get_or (after es s).book t.place free) w). (i.number ∙ t.its_number, i.account ∙ t.its_account))
      (accepted_in es s)
      (each_at (Known (accepted_in es s)) (after es s).book free (theirs es) t.place t.inside (λ z. t.real (sym t.its_number ∙ z)))

  untraded : (s.day.shares ≡ 0) × (s.day.turnover ≡ 0) × (s.day.first ≡ 0) × (s.day.last ≡ 0)
  unfolding fresh_day
  untraded = (
    ap (λ (d : Day). d.shares) is_fresh,
    ap (λ (d : Day). d.turnover) is_fresh,
    ap (λ (d : Day). d.first) is_fresh,
    ap (λ (d : Day). d.last) is_fresh,
  )

  totals : (es : List Call) → Totals s.day (after es s).day (trades_in es s)
  totals es = run_totals es s fresh_sound

  first_traded : (es : List Call) → open_price (after es s).day ≡ first_price 0 (trades_in es s)
  unfolding open_price
  first_traded es = (totals es).first ∙ rw untraded.2

  last_traded : (es : List Call) → close_price (after es s).day ≡ last_price (after es s).day.close (trades_in es s)
  last_traded es =
      close_is (after es s).day (trades_in es s) (run_prices es s fresh_sound)
      ((totals es).last ∙ ap (λ (p : ℕ). last_price p (trades_in es s)) untraded.3)

  blank : s.day.screen ≡ no_screen
  unfolding fresh_day
  blank = ap (λ (d : Day). d.screen) is_fresh

  -- from a screen of zeros
  from_blank : (es : List Call) → Goes no_screen (after es s).day.screen (trades_in es s)
  from_blank es = subst (λ (x : Screen). Goes x (after es s).day.screen (trades_in es s)) blank (run_goes es s fresh_sound)

  counted_high : (es : List Call) → (after es s).day.screen.high ≡ highest (first_price 0 (trades_in es s)) (trades_in es s)
  unfolding high_with no_screen
  counted_high es = (from_blank es).high

  counted_low : (es : List Call) → (after es s).day.screen.low ≡ lowest (first_price 0 (trades_in es s)) (trades_in es s)
  unfolding low_with no_screen
  counted_low es = (from_blank es).low

  counted_last : (es : List Call) → (after es s).day.screen.last ≡ last_price 0 (trades_in es s)
  unfolding no_screen
  counted_last es = (from_blank es).last

  counted :
      (es : List Call)
      → (after es s).day.screen ≡ screen_of (after es s).day (after es s).book (after es s).day.screen.high (after es s).day.screen.low
  counted es = sound_counted (after es s).day (after es s).book (run_sound es s fresh_sound)

  -- nothing of the other lists has traded
  no_others : (es : List Call) → ((after es s).day.fixed.shares ≡ 0) × ((after es s).day.fixed.money ≡ 0) × ((after es s).day.blocks.shares ≡ 0)
  unfolding fresh_day
  no_others es =
      let o = run_others es s in
      let f : (after es s).day.fixed ≡ s.day.fixed = o.fixed in
      let b : (after es s).day.blocks ≡ s.day.blocks = o.blocks in (
        ap (λ (x : Fixed). x.shares) f ∙ ap (λ (d : Day). d.fixed.shares) is_fresh,
        ap (λ (x : Fixed). x.money) f ∙ ap (λ (d : Day). d.fixed.money) is_fresh,
        ap (λ (x : Blocks). x.shares) b ∙ ap (λ (d : Day). d.blocks.shares) is_fresh,
      )

  screen_shares : (es : List Call) → (after es s).day.screen.shares ≡ (after es s).day.shares
  unfolding screen_of
  screen_shares es =
      ap (λ (x : Screen). x.shares) (counted es) ∙ main_shares (after es s).day (no_others es).0 (no_others es).2

  screen_turnover : (es : List Call) → (after es s).day.screen.turnover ≡ (after es s).day.turnover
  unfolding screen_of
  screen_turnover es = ap (λ (x : Screen). x.turnover) (counted es) ∙ main_turnover (after es s).day (no_others es).1

  pub running : (es : List Call) → Running es s
  running es =
      let k = run_sound es s fresh_sound in
      let c = run_counts es s in
      let all_shares : (after es s).day.shares ≡ filled (trades_in es s) = omega (arith, (totals es).shares, untraded.0) in
      let all_turnover : (after es s).day.turnover ≡ money (trades_in es s) = omega (arith, (totals es).turnover, untraded.1) in
      record {
        never_unsound = run_not_15 es s fresh_sound;
        kept = k;
        once = c.order ∙ ap (λ (n : ℕ). from (suc n) (length (accepted_in es s))) none_issued;
        counted = omega (arith, c.count, none_issued);
        theirs = theirs es;
        apart = (sound_day (after es s).day (after es s).book k.1).apart;
        shares = all_shares;
        turnover = all_turnover;
        opens_at = first_traded es;
        closes_at = last_traded es;
        screen =
            counted es
            ∙ ap₂ (screen_of (after es s).day (after es s).book) (counted_high es) (counted_low es);
        screen_last = counted_last es;
        screen_shares = screen_shares es ∙ all_shares;
        screen_turnover = screen_turnover es ∙ all_turnover;
        cancels_own = cancels_own es;
      }
