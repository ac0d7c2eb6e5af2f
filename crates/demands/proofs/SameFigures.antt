-- A day of which the time, the halt or the screen alone changes: its figures are the same, and it fits its book as before. What fires changes
-- no figure either. Assumes nothing.
use Prim.Native.Nat.{ℕ}
use mathlib.Core.Path.{◌≡◌, refl, sym, ◌∙◌}
use mathlib.Core.List.{List}
use native.Mathlib.Omega.{arith}
use Rattle.model.specs.declared.Order.{Order}
use Rattle.model.specs.declared.Trade.{Trade}
use Rattle.model.specs.declared.Day.{Day}
use Rattle.model.specs.Clock.{passed}
use Rattle.model.specs.Figures.{at, issue, tally}
use Rattle.model.specs.Halts.{halting, fired, resumed}
use Rattle.model.specs.Screen.{update}
use Rattle.model.specs.ClockCall.{Held, auction, resume, lapse, pass, start, moved}
use Rattle.model.proofs.Seconds.{pass_cases, through_keeps}
use Rattle.halts.proofs.Kept.{fired_cases, resume_cases}
use Rattle.demands.proofs.Wholes.{Whole}
use Rattle.demands.proofs.Settled.{places_later}

pub record SameFigures (d e : Day) : Type 0 where
  pub close : e.close ≡ d.close
  pub limited : e.limited ≡ d.limited
  pub issued : e.issued ≡ d.issued
  pub shares : e.shares ≡ d.shares
  pub turnover : e.turnover ≡ d.turnover
  pub first : e.first ≡ d.first
  pub last : e.last ≡ d.last
  pub fixed : e.fixed ≡ d.fixed
  pub blocks : e.blocks ≡ d.blocks

pub same_at : (t : ℕ) (d : Day) → SameFigures d (at t d)
unfolding at
same_at t d =
    record { close = refl; limited = refl; issued = refl; shares = refl; turnover = refl; first = refl; last = refl; fixed = refl; blocks = refl }

pub same_halting : (end used30 used60 : ℕ) (d : Day) → SameFigures d (halting end used30 used60 d)
unfolding halting
same_halting end used30 used60 d =
    record { close = refl; limited = refl; issued = refl; shares = refl; turnover = refl; first = refl; last = refl; fixed = refl; blocks = refl }

pub same_update : (ts : List Trade) (book : List Order) (d : Day) → SameFigures d (update ts book d)
unfolding update
same_update ts book d =
    record { close = refl; limited = refl; issued = refl; shares = refl; turnover = refl; first = refl; last = refl; fixed = refl; blocks = refl }

same_itself : (d : Day) → SameFigures d d
same_itself d =
    record { close = refl; limited = refl; issued = refl; shares = refl; turnover = refl; first = refl; last = refl; fixed = refl; blocks = refl }

pub same_then : (d e f : Day) → SameFigures d e → SameFigures e f → SameFigures d f
same_then d e f x y =
    record {
      close = y.close ∙ x.close;
      limited = y.limited ∙ x.limited;
      issued = y.issued ∙ x.issued;
      shares = y.shares ∙ x.shares;
      turnover = y.turnover ∙ x.turnover;
      first = y.first ∙ x.first;
      last = y.last ∙ x.last;
      fixed = y.fixed ∙ x.fixed;
      blocks = y.blocks ∙ x.blocks;
    }

pub same_fired : (s : ℕ) (ts : List Trade) (d : Day) → SameFigures d (fired s ts d)
same_fired s ts d = fired_cases (SameFigures d) s ts d (λ _. same_itself d) (λ _. same_halting _ _ _ d)

pub same_resumed : (s : ℕ) (h : Held) → SameFigures (auction h).day (resume s h).day
unfolding resumed
same_resumed s h =
    let d = (auction h).day in
    let e = halting 0 d.used30 d.used60 d in
    resume_cases (SameFigures d) s h (same_halting _ _ _ d) (λ _ _. same_then d e _ (same_halting _ _ _ d) (same_halting _ _ _ e))

-- nor the time, nor the screen
pub fired_time : (s : ℕ) (ts : List Trade) (d : Day) → (fired s ts d).time ≡ d.time
unfolding halting
fired_time s ts d = fired_cases (λ e. e.time ≡ d.time) s ts d (λ _. refl) (λ _. refl)

fired_screen : (s : ℕ) (ts : List Trade) (d : Day) → (fired s ts d).screen ≡ d.screen
unfolding halting
fired_screen s ts d = fired_cases (λ e. e.screen ≡ d.screen) s ts d (λ _. refl) (λ _. refl)

pub entered_screen : (d : Day) (ts : List Trade) → (fired d.time ts (tally ts (issue d))).screen ≡ d.screen
unfolding tally issue
entered_screen d ts = fired_screen d.time ts (tally ts (issue d))

resumed_screen : (s : ℕ) (h : Held) → (resume s h).day.screen ≡ (auction h).day.screen
unfolding resumed halting
resumed_screen s h = resume_cases (λ e. e.screen ≡ (auction h).day.screen) s h refl (λ _ _. refl)

pub moved_screen : (d : Day) (t : ℕ) (book : List Order) → (moved d t book).day.screen ≡ d.screen
unfolding moved start
moved_screen d t book = through_keeps (λ k. k.day.screen ≡ d.screen) passing (passed d.time t) (start d book) refl
  where
    passing : (s : ℕ) (h : Held) → h.day.screen ≡ d.screen → (pass s h).day.screen ≡ d.screen
    passing s h e = unfold auction lapse tally in
        pass_cases (λ k. k.day.screen ≡ d.screen) s h (λ _. e) (λ _. resumed_screen s h ∙ e) (λ _. e) (λ _ _ _. e)

pub same_back : (d e : Day) → SameFigures d e → SameFigures e d
same_back d e f =
    record {
      close = sym f.close;
      limited = sym f.limited;
      issued = sym f.issued;
      shares = sym f.shares;
      turnover = sym f.turnover;
      first = sym f.first;
      last = sym f.last;
      fixed = sym f.fixed;
      blocks = sym f.blocks;
    }

pub same_whole : (d e : Day) → SameFigures d e → (book : List Order) → Whole d book → Whole e book
same_whole d e f book w =
    record {
      close = rw f.close w.close;
      limited = omega (arith, f.limited, w.limited);
      issued = omega (arith, f.issued, w.issued);
      places = places_later d e (record { close = f.close; limited = f.limited; issued = omega (arith, f.issued) }) book w.places;
      apart = w.apart;
      shares = omega (arith, f.shares, f.issued, w.shares);
      figures =
          record {
            untraded = λ z. rw (f.first, f.last) (w.figures.untraded (sym f.shares ∙ z));
            traded = λ n. rw (f.first, f.last) (w.figures.traded (λ z. n (f.shares ∙ z)));
            least = omega (arith, f.shares, f.turnover, w.figures.least);
            most = omega (arith, f.shares, f.turnover, w.figures.most);
          };
    }
