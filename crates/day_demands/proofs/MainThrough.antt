-- From one day and its main book to a later one, over events with these trades and these accepted orders of the main book: without any,
-- and one after the other. Assumes nothing.
use mathlib.Core.Path.{◌≡◌, sym, ap, ◌∙◌, subst}
use mathlib.Core.List.{List, [], ◌++◌, append_assoc}
use Rattle.model.specs.declared.Order.{Order}
use Rattle.model.specs.declared.Trade.{Trade}
use Rattle.model.specs.declared.Screen.{Screen}
use Rattle.model.specs.declared.Day.{Day}
use Rattle.model.specs.Figures.{with_fixed_figures, with_block_figures}
use Rattle.model.specs.Words.{Price, Sound}
use Rattle.book.proofs.Lists.{each_append}
use Rattle.soundness.proofs.SoundDays.{sound_day}
use Rattle.demands.specs.Totalling.{Totals}
use Rattle.demands.specs.Running.{Owner}
use Rattle.demands.proofs.Wholes.{whole_of}
use Rattle.demands.proofs.Totals.{Prices, totals_join, totals_none}
use Rattle.demands.proofs.Issued.{Counts, counts_none, counts_join}
use Rattle.demands.proofs.Owned.{Owned, more}
use Rattle.demands.proofs.Screened.{sound_shown}
use Rattle.demands.proofs.ScreenRuns.{Goes, goes_join, goes_none}

pub record MainThrough (d e : Day) (book after : List Order) (ts : List Trade) (ws : List Owner) : Type 0 where
  pub prices : Prices ts
  pub totals : Totals d e ts
  pub goes : Goes d.screen e.screen ts
  pub counts : Counts d.issued e.issued ws
  pub owned : (vs : List Owner) → Owned vs book → Owned (vs ++ ws) after

pub main_then :
    (d e f : Day) (a b c : List Order) (ts us : List Trade) (ws vs : List Owner)
    → MainThrough d e a b ts ws
    → MainThrough e f b c us vs
    → MainThrough d f a c (ts ++ us) (ws ++ vs)
main_then d e f a b c ts us ws vs x y =
    record {
      prices = each_append (λ (t : Trade). Price t.price) ts us x.prices y.prices;
      totals = totals_join d e f ts us x.prices x.totals y.totals;
      goes = goes_join d.screen e.screen f.screen ts us x.prices x.goes y.goes;
      counts = counts_join d.issued e.issued f.issued ws vs x.counts y.counts;
      owned = λ os h. rw (← append_assoc os ws vs) (y.owned (os ++ ws) (x.owned os h));
    }

-- the same day but for the figures of the other lists
abbrev pub Beside : Day → Day → Type 0
Beside d e = e ≡ with_fixed_figures e.fixed (with_block_figures e.blocks d)

-- an event of another list, or none
pub main_still : (d e : Day) (book : List Order) → Sound d book → Beside d e → MainThrough d e book book [] []
unfolding with_fixed_figures with_block_figures
main_still d e book s b =
    let t = totals_none d in
    record {
      prices = tt;
      totals =
          record {
            shares = ap (λ (x : Day). x.shares) b ∙ t.shares;
            turnover = ap (λ (x : Day). x.turnover) b ∙ t.turnover;
            first = ap (λ (x : Day). x.first) b ∙ t.first;
            last = ap (λ (x : Day). x.last) b ∙ t.last;
          };
      goes = subst (λ (x : Screen). Goes d.screen x []) (sym (ap (λ (x : Day). x.screen) b)) none;
      counts = counts_none d.issued e.issued (ap (λ (x : Day). x.issued) b);
      owned = λ vs h. more vs [] book h;
    }
  where
    none : Goes d.screen d.screen []
    none = goes_none d (whole_of d book (sound_day d book s.1)).figures (sound_shown d book s)
