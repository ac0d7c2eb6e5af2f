-- A move of the clock and the halt: it goes on up to its end, ends with an auction there, and where that fires another one begins,
-- which ends in its turn where the move passes its end; nothing else of a move starts one. Assumes nothing.
use Prim.Native.Nat.{ℕ, suc, ◌-◌, ◌≤◌, ◌<◌}
use mathlib.Core.Path.{◌≡◌, refl, sym, ap, ◌∙◌}
use mathlib.Core.Logic.{◌⊎◌, inl, inr, ⊎_elim}
use mathlib.Core.Bool.{Bool, true, false, cond, ◌||◌}
use mathlib.Core.List.{List, []}
use native.Mathlib.Omega.{arith}
use lib.ListN.{length, take, drop}
use lib.Seq.{take_at}
use lib.Dec.{ltb, eqb}
use borrow.Author.Tests.{ltb-true, ltb-false, eq-eqb, ne_eqb, eqb-true, eqb-false}
use Rattle.model.specs.declared.Order.{Order}
use Rattle.model.specs.declared.Trade.{Trade}
use Rattle.model.specs.declared.Day.{Day}
use Rattle.model.specs.declared.ClockReply.TheVariants.{Moved}
use Rattle.model.specs.Lists.{any}
use Rattle.model.specs.Clock.{passed}
use Rattle.model.specs.Matching.{first_price}
use Rattle.model.specs.Figures.{at, open_price, tally}
use Rattle.model.specs.Halts.{reach, halt_end, halting, fires, fired, resumed}
use Rattle.model.specs.Calls.{written}
use Rattle.model.specs.ClockCall.{auction_trades, Held, auction, resume, lapse, pass, through, start, moved, clock_call}
use Rattle.model.proofs.Bools.{not_both, true_or_false}
use Rattle.model.proofs.Seconds.{pass_quiet, pass_cases, through_quiet, through_stop, through_seconds}
use Rattle.model.proofs.HaltEnds.{Continuous, Ends, ends, found_any}
use Rattle.model.specs.Words.{Sound}
use Rattle.book.specs.Standing.{Standing}
use Rattle.halts.proofs.Kept.{fired_cases, resume_cases}
use Rattle.soundness.specs.SoundDay.{HaltDay}
use Rattle.soundness.proofs.SoundDays.{sound_halt}
use Rattle.pairing.proofs.Auctions.{uncrossed_none}
use Rattle.pairing.proofs.Moves.{Quiet, auction_quiet}
use Rattle.demands.specs.Pricing.{is_auction}
use Rattle.demands.specs.Halting.{Fires, Unchanged, Another, ByMove}
use Rattle.demands.proofs.HaltUpdates.{by_move_updated}
use Rattle.demands.proofs.Cases.{is_moved, made_of, clock_cases}
use Rattle.demands.proofs.Pricings.{sound_stands}
use Rattle.demands.proofs.HaltDays.{Runs, running}
use Rattle.demands.proofs.Firing.{none_fires}
use Rattle.demands.proofs.Moved.{in_time}
use Rattle.demands.proofs.OneAuction.{moved_trades}
use Rattle.demands.proofs.Totals.{moved_totals}
use Rattle.demands.proofs.Starting.{says_reach, says_fires, ends_at}

earlier : (a b : ℕ) → (a < b) ⊎ (b ≤ a)
earlier a b = ⊎_elim (λ e. inl (ltb-true a b e)) (λ e. inr (ltb-false a b e)) (true_or_false (ltb a b))

-- ---- while none runs none begins

module _ (thirty sixty : ℕ) where
  -- none runs, and these thresholds are used
  abbrev pub Free : Day → Type 0
  Free d = (d.halt ≡ 0) × (d.used30 ≡ thirty) × (d.used60 ≡ sixty)

  free_pass : (s : ℕ) (h : Held) → Free h.day → Free (pass (suc s) h).day
  unfolding auction lapse tally
  free_pass s h f =
      pass_cases (λ k. Free k.day) (suc s) h (λ _. f) (λ e. absurd (omega (arith, e, f.0))) (λ _. f) (λ _ _ _. f)

  pub free_through : (old new : ℕ) (h : Held) → old ≤ new → Free h.day → Free (through (passed old new) h).day
  free_through old new h l f = through_seconds (λ _ k. Free k.day) new (λ s k _ g. free_pass s k g) old h l f

-- ---- up to its end

-- nothing is due between 9:30 and 14:57 before the end
quiet_before : (s : ℕ) (h : Held) → 34_200 < s → s < h.day.halt → h.day.halt ≤ 53_820 → pass s h ≡ h
quiet_before s h a b c =
    pass_quiet s h (ne_eqb s 33_900 (λ e. omega (arith, e))) (ne_eqb s h.day.halt (λ e. omega (arith, e)))
    (ne_eqb s 54_000 (λ e. omega (arith, e)))

goes_on : (old new : ℕ) (h : Held) → 34_200 ≤ old → new < h.day.halt → h.day.halt ≤ 53_820 → old ≤ new → through (passed old new) h ≡ h
unfolding passed
goes_on old new h a b c l =
    through_quiet (suc old) (new - old) h (λ s x y. quiet_before s h (omega (arith, x)) (omega (arith, y)) c)

-- at its end
to_end :
    (old new : ℕ) (h : Held)
    → 34_200 ≤ old
    → old < h.day.halt
    → h.day.halt ≤ new
    → h.day.halt ≤ 53_820
    → through (passed old new) h ≡ through (passed h.day.halt new) (resume h.day.halt h)
to_end old new h a b c e =
    through_stop old h.day.halt new h b c (λ s x y. quiet_before s h (omega arith) y e)
    ∙ ap (through (passed h.day.halt new)) here
  where
    here : pass h.day.halt h ≡ resume h.day.halt h
    here =
        unfold pass in rw (ne_eqb h.day.halt 33_900 (λ z. omega (arith, z)), eq-eqb h.day.halt h.day.halt refl)

-- ---- a halt that begins in the middle of a move, with a book in which nothing trades

module _ (h : Held) (q : Quiet h.book) where
  nothing : auction_trades h.day h.book ≡ []
  nothing = uncrossed_none h.book q.stands h.day q.apart

  -- its auction fires nothing
  ends_free : (s : ℕ) → Free h.day.used30 h.day.used60 (resume s h).day
  unfolding auction resumed halting tally
  ends_free s =
      resume_cases (Free h.day.used30 h.day.used60) s h (refl, refl, refl)
      (λ _ f. absurd (not_both f (none_fires (auction_trades h.day h.book) (resumed (auction h).day) nothing)))

  begun_over :
      (old new : ℕ)
      → 34_200 ≤ old
      → old < h.day.halt
      → h.day.halt ≤ 53_820
      → h.day.halt ≤ new
      → Free h.day.used30 h.day.used60 (through (passed old new) h).day
  begun_over old new a b c l =
      rw (to_end old new h a b l c)
      (free_through h.day.used30 h.day.used60 h.day.halt new (resume h.day.halt h) l (ends_free h.day.halt))

-- ---- a move from a sound day

module _ (d : Day) (book : List Order) (s : Sound d book) where
  halt : HaltDay d
  halt = sound_halt d book s.1

  stands : Standing book
  stands = sound_stands d book s

  abbrev ts : List Trade
  ts = auction_trades d book

  -- the day with the auction's trades, the halt over
  abbrev over : Day
  over = resumed (tally ts d)

  module _ (n : d.halt ≡ 0 → ⊥) (t : ℕ) (l : d.halt ≤ t) where
    runs : Runs d
    runs = running d halt n

    -- the move from its end on
    abbrev held : Held
    held = resume d.halt (start d book)

    from_end : moved d t book ≡ through (passed d.halt t) held
    unfolding moved start
    from_end = to_end d.time t (start d book) runs.begun runs.ahead l runs.latest

    held_quiet : Quiet held.book
    unfolding resume
    held_quiet = auction_quiet (start d book) (unfold start in stands)

    -- it is over, and its auction fired nothing or came at 14:57; or another one has begun
    abbrev begun : Day
    begun = halting (halt_end d.halt) 1 (cond (reach 60 ts over) 1 over.used60) over

    abbrev Either : Day → Type 0
    Either e =
        (((d.halt < 53_820) × (fires ts over ≡ true) → ⊥) × (e ≡ over))
        ⊎ ((d.halt < 53_820) × (fires ts over ≡ true) × (e ≡ begun))

    held_either : Either held.day
    unfolding resume auction start
    held_either = go (eqb d.halt 53_820) refl
      where
        go : (b : Bool) → eqb d.halt 53_820 ≡ b → Either (cond b over (fired d.halt ts over))
        go true e = inl (λ c. omega (arith, c.0, eqb-true d.halt 53_820 e), refl)
        go false e =
            let c : d.halt < 53_820 = omega (arith, eqb-false d.halt 53_820 e, runs.latest) in
            fired_cases Either d.halt ts over (λ f. inl (λ x. not_both x.1 f, refl)) (λ f. inr (c, f, refl))

    over_free : held.day ≡ over → Free d.used30 d.used60 (moved d t book).day
    unfolding resumed halting tally
    over_free e =
        rw from_end
        (free_through d.used30 d.used60 d.halt t held l
        (ap (λ (x : Day). x.halt) e, ap (λ (x : Day). x.used30) e, ap (λ (x : Day). x.used60) e))

    -- what fires is 60%: 30% is used
    second_fires : fires ts over ≡ true → (d.used60 ≡ 0) × (reach 60 ts over ≡ true)
    unfolding resumed halting tally
    second_fires f =
        ⊎_elim (λ x. absurd (omega (arith, halt.uses n, x.0))) (λ x. (x.0, (says_reach 60 ts over).1 x.1)) ((says_fires ts over).0 f).1

    another : held.day ≡ begun → d.halt < 53_820 → fires ts over ≡ true → Another d t (at t (moved d t book).day)
    unfolding resumed halting tally at
    another e c f =
        let y = second_fires f in
        let k : Continuous d.halt = ⊎_elim (λ x. x) (λ z. absurd (omega (arith, z))) runs.lands in
        let x : Ends d.halt (halt_end d.halt) = ends d.halt k in
        let end : held.day.halt ≡ halt_end d.halt = ap (λ (z : Day). z.halt) e in
        let thirty : held.day.used30 ≡ 1 = ap (λ (z : Day). z.used30) e in
        let sixty : held.day.used60 ≡ 1 = ap (λ (z : Day). z.used60) e ∙ ap (λ (b : Bool). cond b 1 d.used60) y.1 in
        let morning : 34_200 ≤ d.halt = omega (arith, runs.begun, runs.ahead) in
        let still : t < halt_end d.halt → moved d t book ≡ held =
        λ (m : t < halt_end d.halt).
        from_end ∙ goes_on d.halt t held morning (omega (arith, end, m)) (omega (arith, end, x.latest)) l
        in
        let ended : halt_end d.halt ≤ t → Free held.day.used30 held.day.used60 (moved d t book).day =
        λ (m : halt_end d.halt ≤ t).
        rw from_end
        (begun_over held held_quiet d.halt t morning (omega (arith, end, x.ahead)) (omega (arith, end, x.latest)) (omega (arith, end, m)))
        in
        let marks : ((moved d t book).day.used30 ≡ 1) × ((moved d t book).day.used60 ≡ 1) =
        ⊎_elim
        (λ (m : t < halt_end d.halt).
        (ap (λ (z : Held). z.day.used30) (still m) ∙ thirty, ap (λ (z : Held). z.day.used60) (still m) ∙ sixty))
        (λ (m : halt_end d.halt ≤ t). ((ended m).1 ∙ thirty, (ended m).2 ∙ sixty))
        (earlier t (halt_end d.halt))
        in
        record {
          end = halt_end d.halt;
          ends = ends_at d.halt;
          first_sixty = y.0;
          thirty = marks.0;
          sixty = marks.1;
          runs = λ m. ap (λ (z : Held). z.day.halt) (still m) ∙ end;
          over = λ m. (ended m).0;
        }

    -- ---- the trades of the move are those of the auction at its end

    pub auction_passed : any (λ x. is_auction x d) (passed d.time t) ≡ true
    unfolding passed is_auction
    auction_passed =
        found_any (λ x. is_auction x d) (suc d.time) (t - d.time) d.halt (omega (arith, runs.ahead)) (omega arith)
        (rw (eq-eqb d.halt d.halt refl) (go (eqb d.halt 33_900)))
      where
        go : (a : Bool) → (a || true || eqb d.halt 54_000) ≡ true
        go true = refl
        go false = refl

    traded : (moved d t book).trades ≡ ts
    traded = moved_trades d t book stands ∙ ap (λ (b : Bool). cond b ts []) auction_passed

    opened : open_price (at t (moved d t book).day) ≡ open_price over
    unfolding open_price resumed halting tally
    opened = (moved_totals d book s t).first ∙ ap (λ (us : List Trade). cond (eqb d.first 0) (first_price 0 us) d.first) traded

    abbrev FiresThen : Type 0
    FiresThen = Fires d (open_price (at t (moved d t book).day)) (moved d t book).trades

    fires_told : FiresThen → fires ts over ≡ true
    unfolding resumed halting tally
    fires_told f = let g : Fires d (open_price over) ts = rw (opened, traded) at f in (says_fires ts over).1 g

    told_fires : fires ts over ≡ true → FiresThen
    unfolding resumed halting tally
    told_fires f = let g : Fires d (open_price over) ts = (says_fires ts over).0 f in rw (opened, traded) g

    again : d.halt < 53_820 → FiresThen → Another d t (at t (moved d t book).day)
    again c f =
        ⊎_elim (λ x. absurd (x.0 (c, fires_told f))) (λ x. another x.2 x.0 x.1) held_either

    ended : ((d.halt < 53_820) × FiresThen → ⊥) → Free d.used30 d.used60 (moved d t book).day
    ended m = ⊎_elim (λ x. over_free x.1) (λ x. absurd (m (x.0, told_fires x.1))) held_either

  by_move : (t : ℕ) → d.time ≤ t → ByMove d t (moved d t book).trades (at t (moved d t book).day)
  unfolding at
  by_move t l = record { none = none; goes_on = still; again = λ n m. again n t m; over = λ n m. ended n t m }
    where
      none : d.halt ≡ 0 → Unchanged d (at t (moved d t book).day)
      none z = unfold moved start at in
          let f = free_through d.used30 d.used60 d.time t (start d book) l (z, refl, refl) in
          record { halt = f.0 ∙ sym z; thirty = f.1; sixty = f.2 }

      still : t < d.halt → Unchanged d (at t (moved d t book).day)
      still m = unfold moved start at in
          let r = running d halt (λ z. omega (arith, z)) in
          let e = goes_on d.time t (start d book) r.begun m r.latest l in
          record {
            halt = ap (λ (k : Held). k.day.halt) e;
            thirty = ap (λ (k : Held). k.day.used30) e;
            sixty = ap (λ (k : Held). k.day.used60) e;
          }

  -- the two cases of a move: no threshold is used by it, or the auction at the end of a halt has fired
  module _ (t : ℕ) where
    abbrev then : Day
    then = at t (moved d t book).day

    pub record Second : Type 0 where
      pub ran : d.halt ≡ 0 → ⊥
      pub reached : d.halt ≤ t
      pub before : d.halt < 53_820
      pub fires : Fires d (open_price then) (moved d t book).trades

    pub record Same : Type 0 where
      pub thirty : then.used30 ≡ d.used30
      pub sixty : then.used60 ≡ d.used60
      pub not_fired : Second → ⊥

    pub move_either : d.time ≤ t → Same ⊎ (Second × Another d t then)
    unfolding at
    move_either l = go (earlier t d.halt) (eqb d.halt 0) refl
      where
        k : ByMove d t (moved d t book).trades then
        k = by_move t l

        go : (t < d.halt) ⊎ (d.halt ≤ t) → (b : Bool) → eqb d.halt 0 ≡ b → Same ⊎ (Second × Another d t then)
        go x true e =
            let z = eqb-true d.halt 0 e in
            inl (record { thirty = (k.none z).thirty; sixty = (k.none z).sixty; not_fired = λ c. c.ran z })
        go (inl m) false e =
            inl (record { thirty = (k.goes_on m).thirty; sixty = (k.goes_on m).sixty; not_fired = λ c. omega (arith, m, c.reached) })
        go (inr m) false e =
            let n = eqb-false d.halt 0 e in
            ⊎_elim
            (λ x.
            let f = over_free n t m x.1 in
            inl (record { thirty = f.1; sixty = f.2; not_fired = λ c. x.0 (c.before, fires_told n t m c.fires) }))
            (λ x.
            inr (
              record { ran = n; reached = m; before = x.0; fires = told_fires n t m x.1 },
              another n t m x.2 x.0 x.1,
            ))
            (held_either n t m)

  pub clock_halts :
      (t : ℕ) (lent : List Trade) (phase made : ℕ)
      → (clock_call d t book lent).answer.reply ≡ Moved phase made
      → ByMove d t (take made (clock_call d t book lent).trades) (clock_call d t book lent).answer.day
  unfolding written
  clock_halts t lent phase made =
      clock_cases d t book lent
      (λ o. o.answer.reply ≡ Moved phase made → ByMove d t (take made o.trades) o.answer.day)
      (λ z r.
      let m : made ≡ length (moved d t book).trades = sym (ap made_of r) in
      rw (m, take_at (moved d t book).trades (drop (length (moved d t book).trades) lent) (length (moved d t book).trades) refl)
      (by_move_updated (moved d t book).trades (moved d t book).book d (at t (moved d t book).day) t (moved d t book).trades
      (by_move t (in_time d t book lent z).0)))
      (λ _ r. let z : ◌≡◌ {A = ℕ} 0 1 = ap is_moved r in absurd (omega arith))
