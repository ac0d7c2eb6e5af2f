-- A move of the clock keeps all but the screen sound, second by second: through its auctions, the end of a halt and the lapse. Assumes nothing.
use Prim.Native.Nat.{ℕ, suc, ◌≤◌, ◌<◌}
use mathlib.Core.Path.{◌≡◌, refl, ◌∙◌}
use mathlib.Core.Logic.{⊎_elim}
use mathlib.Core.Bool.{Bool, true, false, cond, not, ◌||◌}
use mathlib.Core.List.{List, [], ◌∷◌}
use native.Mathlib.Omega.{arith}
use lib.ListN.{length}
use lib.Dec.{leb, ltb}
use borrow.Author.Tests.{leb-true, ltb-false}
use Rattle.model.specs.declared.Order.{Order}
use Rattle.model.specs.declared.Trade.{Trade}
use Rattle.model.specs.declared.Day.{Day}
use Rattle.model.specs.Lists.{total}
use Rattle.model.specs.Clock.{is_time, passed}
use Rattle.model.specs.Matching.{filled, settle}
use Rattle.model.specs.Figures.{at, tally}
use Rattle.model.specs.Halts.{reach, halt_end, halting, resumed}
use Rattle.model.specs.Refusals.{◌when◌, first_of}
use Rattle.model.specs.Calls.{cleared}
use Rattle.model.specs.Auction.{auction_price}
use Rattle.model.specs.ClockCall.{auction_trades, Held, auction, resume, lapse, pass, start, moved, clock_rules}
use Rattle.model.proofs.Bools.{not_both}
use Rattle.model.proofs.Seconds.{pass_cases, through_seconds}
use Rattle.model.proofs.HaltEnds.{Continuous}
use Rattle.model.specs.Words.{Price, Sound}
use Rattle.book.specs.Standing.{Standing}
use Rattle.book.proofs.Lists.{each}
use Rattle.book.proofs.Kept.{standing_settle}
use Rattle.book.proofs.Arranging.{cleared_ranked}
use Rattle.halts.proofs.Kept.{resume_cases}
use Rattle.soundness.specs.SoundDay.{SoundDay, HaltDay, EveningDay}
use Rattle.soundness.proofs.SoundDays.{day_stands, few_places}
use Rattle.pairing.proofs.Auctions.{auction_priced, auction_shares, auction_cases, settled_fit, afterwards, afterwards_uncrossed}
use Rattle.pairing.proofs.Moves.{pass_stands}
use Rattle.demands.specs.Pricing.{EachAuction}
use Rattle.demands.proofs.FirstRules.{gives_none}
use Rattle.demands.proofs.Refusals.{clock_numbers_lem}
use Rattle.demands.proofs.Pricings.{sound_stands, trades_there}
use Rattle.demands.proofs.Wholes.{Whole, whole_of, timely_of, sound_of}
use Rattle.demands.proofs.BeforeScreens.{BeforeScreen, before_of}
use Rattle.demands.proofs.Arranged.{arranged_whole, arranged_ordered, arranged_many}
use Rattle.demands.proofs.Fresh.{cleared_empty, places_cleared, whole_cleared}
use Rattle.demands.proofs.Tallied.{Proper, proper_none, traded_tally}
use Rattle.demands.proofs.Settled.{Later, settle_places}
use Rattle.demands.proofs.SameFigures.{SameFigures, same_at, same_halting, same_back, same_then, same_whole}
use Rattle.demands.proofs.Evenings.{evening_early, evening_later}
use Rattle.demands.proofs.HaltDays.{Runs, running, halt_over, halt_waits, halt_begins}
use Rattle.demands.proofs.Firing.{fires_unlimited, mark_set}

-- ---- an auction

pub auction_proper : (h : Held) → Standing h.book → Proper (auction_trades h.day h.book)
unfolding filled total
auction_proper h k =
    let ts = auction_trades h.day h.book in
    ⊎_elim
    (λ x.
    record {
      priced =
          each (λ (t : Trade). t.price ≡ auction_price h.day h.book) (λ (t : Trade). Price t.price) ts
          (λ t e. rw e (record { low = x.qualifies.price.low; high = x.qualifies.price.high }))
          (auction_priced h.book k h.day);
      some = λ z. absurd (omega (arith, x.some));
    })
    (λ x. rw x.1 proper_none)
    (auction_cases h.book k h.day)

-- each auction on the way trades as demand 3 says
pub each_auction : (ss : List ℕ) (h : Held) → Standing h.book → EachAuction ss h
each_auction [] h k = tt
each_auction (s ∷ ss) h k = (
  λ _. trades_there h.book k h.day,
  each_auction ss (pass s h) (pass_stands s h k),
)

-- ---- one second

-- a day and its book in the middle of a move, at this second: the screen is counted at its end
abbrev SoundAt : ℕ → Held → Type 0
SoundAt s h = BeforeScreen (at s h.day) h.book

module _ (s : ℕ) (h : Held) (sound : SoundAt s h) (bound : suc s ≤ 86_399) where
  abbrev now : Day
  now = at s h.day

  abbrev ts : List Trade
  ts = auction_trades h.day h.book

  day : SoundDay now h.book
  day = sound.day

  halt : HaltDay now
  halt = sound.halt

  stands : Standing h.book
  stands = day_stands now h.book day

  few : length h.book ≤ 4_096
  few = few_places h.book sound.places

  runs : (h.day.halt ≡ 0 → ⊥) → Runs now
  unfolding at
  runs n = running now halt n

  -- ---- with the trades of an auction

  abbrev traded : Day
  traded = tally ts h.day

  settled_whole : Whole traded (settle ts h.book)
  unfolding tally
  settled_whole =
      let w = same_whole now h.day (same_back h.day now (same_at s h.day)) h.book (whole_of now h.book day) in
      record {
        close = w.close;
        limited = w.limited;
        issued = w.issued;
        places = settle_places h.day traded later ts h.book w.places;
        apart = (standing_settle ts h.book stands).apart;
        shares = omega (arith, auction_shares h.book stands h.day, w.shares);
        figures = traded_tally h.day ts w.figures (auction_proper h stands);
      }
    where
      later : Later h.day traded
      later = record { close = refl; limited = refl; issued = omega arith }

  abbrev book : List Order
  book = afterwards h.book stands h.day

  -- no auction is held from 15:05 on
  evening : (e : Day) → SameFigures traded e → suc s ≤ 54_000 → EveningDay e
  unfolding at tally
  evening e f l = evening_early now e f.fixed f.blocks sound.evening (omega arith)

  auctioned :
      (e : Day)
      → SameFigures traded e
      → e.time ≡ suc s
      → 33_300 ≤ suc s
      → suc s < 54_000
      → HaltDay e
      → BeforeScreen e book
  auctioned e f t early late k =
      let places = settled_fit h.book stands h.day in
      let w = arranged_whole traded (length h.book) (settle ts h.book) settled_whole places in
      record {
        places = arranged_many h.book (settle ts h.book) sound.places;
        day =
            sound_of e book (same_whole traded e f book w)
            (record {
              time = omega (arith, t);
              early = λ l. absurd (omega (arith, t, l));
              late = λ l. absurd (omega (arith, t, l));
              uncrossed = λ _ _ _. afterwards_uncrossed h.book stands h.day;
            });
        ordered = arranged_ordered traded (length h.book) (settle ts h.book) settled_whole places few;
        halt = k;
        evening = evening e f (omega arith);
      }

  opening : suc s ≡ 33_900 → SoundAt (suc s) (auction h)
  unfolding auction at tally
  opening e =
      auctioned (at (suc s) traded) (same_at (suc s) traded) refl (omega arith) (omega arith)
      (halt_waits now (at (suc s) traded) halt (record { thirty = refl; sixty = refl; limited = refl; shares = omega arith }) refl (omega arith)
      (λ n. let r = runs n in absurd (omega (arith, e, r.begun))))

  -- the end of a halt, at which another one may begin
  resuming : suc s ≡ h.day.halt → SoundAt (suc s) (resume (suc s) h)
  unfolding resume auction resumed halting at tally
  resuming e =
      let n : h.day.halt ≡ 0 → ⊥ = λ z. omega (arith, e, z) in
      let r = runs n in
      let x = resumed traded in
      resume_cases (λ y. BeforeScreen (at (suc s) y) book) (suc s) h
      (auctioned (at (suc s) x) (same_then traded x (at (suc s) x) (same_halting _ _ _ traded) (same_at (suc s) x)) refl
      (omega (arith, r.begun)) (omega (arith, e, r.latest))
      (halt_over now (at (suc s) x) halt (record { thirty = refl; sixty = refl; limited = refl; shares = omega arith }) refl))
      (λ m f.
      let y = halting (halt_end (suc s)) 1 (cond (reach 60 ts x) 1 x.used60) x in
      let c : Continuous (suc s) =
      ⊎_elim (λ (c : Continuous h.day.halt). rw e c) (λ z. absurd (m (e ∙ z))) r.lands
      in
      auctioned (at (suc s) y)
      (same_then traded x (at (suc s) y) (same_halting _ _ _ traded) (same_then x y (at (suc s) y) (same_halting _ _ _ x) (same_at (suc s) y)))
      refl (omega (arith, r.begun)) (omega (arith, e, r.latest))
      (halt_begins (at (suc s) y) c refl refl (mark_set (reach 60 ts x) x.used60 halt.sixty) (fires_unlimited ts x f)
      (λ z. (halt.unlimited (halt.uses n)).1 (omega (arith, z)))))

  closing : suc s ≡ 54_000 → SoundAt (suc s) (lapse (auction h))
  unfolding lapse auction at tally
  closing e =
      let x = at (suc s) traded in
      let many = arranged_many h.book (settle ts h.book) sound.places in
      let n = cleared_empty book in
      record {
        places = places_cleared book many;
        day =
            sound_of x (cleared book)
            (same_whole traded x (same_at (suc s) traded) (cleared book) (whole_cleared traded (settle ts h.book) (cleared book) settled_whole n))
            (record { time = bound; early = λ _. n; late = λ _. n; uncrossed = λ _ l _. absurd (omega (arith, e, l)) });
        ordered = (cleared_ranked book (few_places book many)).ordered;
        halt =
            halt_waits now x halt (record { thirty = refl; sixty = refl; limited = refl; shares = omega arith }) refl (omega arith)
            (λ m. let r = runs m in absurd (omega (arith, e, r.ahead, r.latest)));
        evening = evening x (same_at (suc s) traded) (omega (arith, e));
      }

  quiet : (suc s ≡ 33_900 → ⊥) → (suc s ≡ h.day.halt → ⊥) → (suc s ≡ 54_000 → ⊥) → SoundAt (suc s) h
  unfolding at
  quiet a b c =
      let x = at (suc s) h.day in
      let t = timely_of now h.book day in
      record {
        places = sound.places;
        day =
            sound_of x h.book
            (same_whole now x (same_then now h.day x (same_back h.day now (same_at s h.day)) (same_at (suc s) h.day)) h.book
            (whole_of now h.book day))
            (record {
              time = bound;
              early = λ l. t.early (omega arith);
              late = λ l. t.late (omega (arith, c));
              uncrossed = λ k l z. t.uncrossed (omega (arith, a)) (omega arith) z;
            });
        ordered = sound.ordered;
        halt =
            halt_waits now x halt (record { thirty = refl; sixty = refl; limited = refl; shares = omega arith }) refl (omega arith)
            (λ n. let r = runs n in omega (arith, b, r.ahead));
        evening = evening_later now x refl refl sound.evening refl refl (omega arith);
      }

  pass_sound : SoundAt (suc s) (pass (suc s) h)
  pass_sound = pass_cases (SoundAt (suc s)) (suc s) h opening resuming closing quiet

-- ---- the call

-- rule 1 does not hold
pub in_time : (d : Day) (t : ℕ) (book : List Order) (lent : List Trade) → first_of (clock_rules d t book (length lent)) ≡ 0 → (d.time ≤ t) × (t ≤ 86_399)
unfolding clock_rules ◌when◌ is_time
in_time d t book lent z =
    go (leb t 86_399) refl (gives_none (clock_rules d t book (length lent)) (clock_numbers_lem d t book lent) z).1.0
  where
    go : (b : Bool) → leb t 86_399 ≡ b → (not b || ltb t d.time) ≡ false → (d.time ≤ t) × (t ≤ 86_399)
    go true x h = (ltb-false t d.time h, leb-true t 86_399 x)
    go false x h = absurd (not_both refl h)

module _ (d : Day) (book : List Order) (s : Sound d book) where
  pub move_auctions : (t : ℕ) → EachAuction (passed d.time t) (start d book)
  unfolding start
  move_auctions t = each_auction (passed d.time t) (start d book) (sound_stands d book s)

  pub moved_before : (t : ℕ) → d.time ≤ t → t ≤ 86_399 → BeforeScreen (at t (moved d t book).day) (moved d t book).book
  unfolding moved start at
  moved_before t l m =
      through_seconds SoundAt t (λ x h k sound. pass_sound x h sound (omega arith)) d.time (start d book) l (before_of d book s)
