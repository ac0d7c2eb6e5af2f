-- A sound day without its hours: what a call keeps whatever the time is. Assumes nothing.
use Prim.Native.Nat.{ℕ, ◌+◌, ◌*◌, ◌≤◌, ◌<◌}
use mathlib.Core.Path.{◌≡◌}
use mathlib.Core.Bool.{false}
use mathlib.Core.List.{List}
use native.Mathlib.Nat.{lt_of_not-le, not-le_of_lt}
use Rattle.model.specs.declared.Order.{Order}
use Rattle.model.specs.declared.Day.{Day}
use Rattle.model.specs.Lists.{total}
use Rattle.model.specs.Sound.{crosses}
use Rattle.model.proofs.Bools.{not_both, not_true_false}
use Rattle.model.specs.Words.{Each, Price, Apart}
use Rattle.book.specs.Standing.{Standing}
use Rattle.soundness.specs.SoundDay.{Place, Empty, SoundDay}
use Rattle.soundness.proofs.Clauses.{says_crosses}
use Rattle.soundness.proofs.SoundDays.{standing}

-- the figures of a day: its trades so far
pub record Traded (d : Day) : Type 0 where
  pub untraded : d.shares ≡ 0 → (d.first ≡ 0) × (d.last ≡ 0)
  pub traded : (d.shares ≡ 0 → ⊥) → Price d.first × Price d.last
  pub least : d.shares ≤ d.turnover
  pub most : d.turnover ≤ 999_999 * d.shares

pub record Whole (d : Day) (book : List Order) : Type 0 where
  pub close : Price d.close
  pub limited : d.limited ≤ 1
  pub issued : d.issued ≤ 999_999
  pub places : Each (Place d) book
  pub apart : Apart book
  pub shares : 2 * d.shares + total (λ (o : Order). o.left) book ≤ 1_000_000 * d.issued
  pub figures : Traded d

-- the book at a time: empty outside the hours, not crossed between the auctions unless a halt runs, which this is the end of
pub record Timely (t halt : ℕ) (book : List Order) : Type 0 where
  pub time : t ≤ 86_399
  pub early : t < 33_300 → Empty book
  pub late : 54_000 ≤ t → Empty book
  pub uncrossed : 33_900 ≤ t → t ≤ 53_819 → halt ≡ 0 → crosses book ≡ false

module _ (d : Day) (book : List Order) where
  pub whole_of : SoundDay d book → Whole d book
  whole_of s =
      record {
        close = s.close;
        limited = s.limited;
        issued = s.issued;
        places = s.places;
        apart = s.apart;
        shares = s.shares;
        figures = record { untraded = s.untraded; traded = s.traded; least = s.least; most = s.most };
      }

  pub timely_of : SoundDay d book → Timely d.time d.halt book
  timely_of s =
      record {
        time = s.time;
        early = s.early;
        late = s.late;
        uncrossed = λ a b z.
            not_true_false
            (λ e. let h = (says_crosses book).0 e in not-le_of_lt (s.uncrossed a b z h.0 h.1) h.2);
      }

  pub sound_of : Whole d book → Timely d.time d.halt book → SoundDay d book
  sound_of w t =
      record {
        close = w.close;
        limited = w.limited;
        time = t.time;
        issued = w.issued;
        places = w.places;
        apart = w.apart;
        early = t.early;
        late = t.late;
        uncrossed = λ a b z m n. lt_of_not-le (λ l. not_both ((says_crosses book).1 (m, n, l)) (t.uncrossed a b z));
        shares = w.shares;
        untraded = w.figures.untraded;
        traded = w.figures.traded;
        least = w.figures.least;
        most = w.figures.most;
      }

  pub whole_stands : Whole d book → Standing book
  whole_stands w = standing d book w.issued w.places w.apart
