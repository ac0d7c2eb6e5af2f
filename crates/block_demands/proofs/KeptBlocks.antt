-- Sound declarations and the bound on the confirmed shares, kept: by a day on which nothing of theirs changes, by the confirmations of
-- 15:00, by the lapse of 15:30, and by a declaration that no rule refuses. Assumes nothing.
use Prim.Native.Nat.{suc, ◌+◌, ◌*◌, ◌≤◌}
use mathlib.Core.Path.{◌≡◌, refl, sym, ap, ◌∙◌, subst}
use mathlib.Core.Logic.{inl, inr, ⊎_elim}
use mathlib.Core.Bool.{Bool, true, false, cond}
use mathlib.Core.List.{List, [], ◌∷◌}
use native.Mathlib.Omega.{arith}
use lib.ListN.{length, length-append}
use lib.Dec.{leb, ltb}
use borrow.Author.Tests.{le-leb, ltb-true, not-false}
use Rattle.model.specs.declared.Order.{Order}
use Rattle.model.specs.declared.AskedBlock.{AskedBlock}
use Rattle.model.specs.declared.Declaration.{Declaration}
use Rattle.model.specs.declared.Trade.{Trade}
use Rattle.model.specs.declared.Day.{Day}
use Rattle.model.specs.Lists.{keep, all, total}
use Rattle.model.specs.Arrival.{is_taken}
use Rattle.model.specs.Clock.{confirming_from}
use Rattle.model.specs.Matching.{filled}
use Rattle.model.specs.Figures.{next_block, with_block_figures, issue_block, tally_blocks}
use Rattle.model.specs.Blocks.{is_held, confirmations, unnamed, none_held, held_in}
use Rattle.model.specs.Sound.{has_places, blocks_fit}
use Rattle.model.specs.BlockCalls.{declaring, block_trades}
use Rattle.model.specs.Refusals.{unsound_blocks}
use Rattle.model.specs.Words.{Each, Sound}
use Rattle.model.proofs.Bools.{not_both}
use Rattle.book.proofs.Lists.{each, each_keep, each_append, total_keep}
use Rattle.arrivals.proofs.Lines.{taken, InLine, all_taken}
use Rattle.soundness.proofs.Says.{Says, says_le, says_and}
use Rattle.soundness.specs.SoundDay.{InBand, EveningDay}
use Rattle.soundness.proofs.SoundDays.{sound_evening}
use Rattle.block_demands.specs.Held.{Declares, Place, NoneHeld, NoneFit, SoundHeld, Covered}
use Rattle.block_demands.specs.Keeping.{Kept}
use Rattle.block_demands.proofs.Plain.{held_places, held_sound, sound_held}
use Rattle.block_demands.proofs.Naming.{number_of, shares_of, unnamed_none, unnamed_each}
use Rattle.block_demands.proofs.Confirmed.{confirmed}
use Rattle.block_demands.proofs.Lining.{held_line, lined_held, coming, declaring_is, declaring_line, declaring_taken, lined_declaring}
use Rattle.block_demands.proofs.Allowed.{Allowed, coming_declares}
use Rattle.block_demands.proofs.Members.{total_behind}
use Rattle.block_demands.proofs.Settling.{same_places, after_length, after_each, after_arrived, after_none_held, after_none_fit, after_shares, after_held, lapsed_length, lapsed_none, none_arrived, none_places, none_fit, none_shares}
use Rattle.model.specs.Book.{free}

-- ---- the bound on the field follows from what covers it

pub says_bounds : (d : Day) → Says (blocks_fit d) ((d.blocks.issued ≤ 999_999) × (d.blocks.shares ≤ 50_000_000 * d.blocks.issued))
unfolding blocks_fit
says_bounds d = says_and (says_le d.blocks.issued 999_999) (says_le d.blocks.shares (50_000_000 * d.blocks.issued))

pub kept_of :
    (d : Day) (held : List Declaration)
    → d.blocks.issued ≤ 999_999
    → has_places held ≡ true
    → SoundHeld d held
    → Covered d held
    → Kept d held
kept_of d held i p s c =
    record {
      fit = (says_bounds d).1 (i, omega (arith, c.within));
      sound = sound_held d held p s;
      covered = c;
    }

pub kept_issued : (d : Day) (held : List Declaration) → Kept d held → d.blocks.issued ≤ 999_999
kept_issued d held k = ((says_bounds d).0 k.fit).0

-- of a day that is sound for the main book, the first part is known
pub sound_kept :
    (d : Day) (main : List Order) (held : List Declaration)
    → Sound d main
    → unsound_blocks d held ≡ false
    → Covered d held
    → Kept d held
sound_kept d main held s u c =
    let e : EveningDay d = sound_evening d main s.1 in
    record { fit = (says_bounds d).1 (e.blocks_issued, e.blocks_shares); sound = u; covered = c }

-- ---- a later day, with more numbers at most

pub record Onward (d e : Day) : Type 0 where
  pub close : e.close ≡ d.close
  pub limited : e.limited ≡ d.limited
  pub issued : d.blocks.issued ≤ e.blocks.issued

pub onward_place : (d e : Day) → Onward d e → (x : Declaration) → Place d x → Place e x
onward_place d e o x p =
    ⊎_elim
    (λ k. inl k)
    (λ (r : Declares d x).
    inr
    (record {
      side = r.side;
      account = r.account;
      counter = r.counter;
      limited = o.limited ∙ r.limited;
      price = r.price;
      size = r.size;
      band = subst (λ c. InBand c x.price) (sym o.close) r.band;
      numbered = r.numbered;
      issued = omega (arith, o.issued, r.issued);
    }))
    p

-- the declarations read no more of a day than this and its time
pub record SameBlocks (d e : Day) : Type 0 where
  pub close : e.close ≡ d.close
  pub limited : e.limited ≡ d.limited
  pub blocks : e.blocks ≡ d.blocks

same_onward : (d e : Day) → SameBlocks d e → Onward d e
same_onward d e s = record { close = s.close; limited = s.limited; issued = omega (arith, ap (λ b. b.issued) s.blocks) }

same_covered : (d e : Day) (held : List Declaration) → e.blocks ≡ d.blocks → Covered d held → Covered e held
same_covered d e held b c = record { within = rw b c.within }

-- ---- an event, or a move, that neither touches them nor passes 15:00 or 15:30

pub main_blocks_kept :
    (d e : Day) (held : List Declaration)
    → SameBlocks d e
    → d.time ≤ e.time
    → (54_000 ≤ e.time → 54_000 ≤ d.time)
    → (55_800 ≤ e.time → 55_800 ≤ d.time)
    → Kept d held
    → Kept e held
main_blocks_kept d e held b l three end k =
    let s : SoundHeld d held = held_sound d held k.sound in
    kept_of e held (omega (arith, kept_issued d held k, ap (λ b. b.issued) b.blocks)) (held_places d held k.sound)
    (record {
      places = each (Place d) (Place e) held (onward_place d e (same_onward d e b)) s.places;
      arrived = s.arrived;
      early = λ t. s.early (omega (arith, l, t));
      late = λ t. s.late (end t);
      confirmed = λ t. s.confirmed (three t);
    })
    (same_covered d e held b.blocks k.covered)

-- ---- 15:30: all lapse

pub none_kept :
    (d : Day) (before held : List Declaration)
    → d.blocks.issued ≤ 999_999
    → Covered d before
    → has_places held ≡ true
    → NoneHeld held
    → Kept d held
none_kept d before held i c p n =
    kept_of d held i p
    (record {
      places = none_places held n d;
      arrived = none_arrived held n;
      early = λ _. n;
      late = λ _. n;
      confirmed = λ _. none_fit held n d;
    })
    (record { within = omega (arith, c.within, none_shares held n) })

pub end_kept : (d e : Day) (held : List Declaration) → e.blocks ≡ d.blocks → Kept d held → Kept e (none_held held)
end_kept d e held b k =
    none_kept e held (none_held held)
    (omega (arith, kept_issued d held k, ap (λ b. b.issued) b))
    (same_covered d e held b k.covered)
    (same_places held (none_held held) (lapsed_length held) (held_places d held k.sound))
    (lapsed_none held)

-- ---- 15:00: those that fit are confirmed

pub three_kept :
    (d e : Day) (held : List Declaration)
    → e.close ≡ d.close
    → e.limited ≡ d.limited
    → e.blocks ≡ (tally_blocks (confirmations held) d).blocks
    → d.time ≤ e.time
    → (55_800 ≤ e.time → 55_800 ≤ d.time)
    → Kept d held
    → Kept e (held_in (length held) (unnamed (confirmations held) held))
unfolding tally_blocks with_block_figures
three_kept d e held c m b l end k =
    let s : SoundHeld d held = held_sound d held k.sound in
    let ts : List Trade = confirmations held in
    let line = held_line d held s in
    let a = confirmed held (lined_held d held s) in
    let issued : e.blocks.issued ≡ d.blocks.issued = ap (λ x. x.issued) b in
    let shares : e.blocks.shares ≡ d.blocks.shares + filled ts = ap (λ x. x.shares) b in
    let places : Each (Place e) held =
    each (Place d) (Place e) held (onward_place d e (record { close = c; limited = m; issued = omega (arith, issued) })) s.places
    in
    kept_of e (held_in (length held) (unnamed ts held)) (omega (arith, issued, kept_issued d held k))
    (same_places held (held_in (length held) (unnamed ts held)) (after_length (length held) held ts) (held_places d held k.sound))
    (record {
      places = after_each (length held) held ts (Place e) (inl refl) (unnamed_each (Place e) ts held places);
      arrived = after_arrived (length held) held ts line;
      early = λ t. after_none_held (length held) held ts (s.early (omega (arith, l, t)));
      late = λ t. after_none_held (length held) held ts (s.late (end t));
      confirmed = λ _. after_none_fit (length held) held ts e places a.none_left;
    })
    (record {
      within = omega (
        arith,
        issued,
        shares,
        k.covered.within,
        after_shares (length held) held ts line (omega arith),
        a.shares,
        ap shares_of (unnamed_none held),
      );
    })

-- ---- a declaration that no rule refuses

-- the day that it leaves: one number more, and its confirmation, if it has one, among the shares
pub entered_day :
    (ts : List Trade) (d : Day)
    → tally_blocks ts (issue_block d) ≡ with_block_figures (record { issued = next_block d; shares = d.blocks.shares + filled ts }) d
unfolding tally_blocks issue_block with_block_figures
entered_day ts d = refl

module _ (d : Day) (a : AskedBlock) (main : List Order) (held : List Declaration) (k : Allowed d a main held) where
  s : SoundHeld d held
  s = held_sound d held k.held_sound

  abbrev ts : List Trade
  ts = block_trades d a held

  abbrev line : List Declaration
  line = declaring d a held

  abbrev next : Day
  next = tally_blocks ts (issue_block d)

  next_close : next.close ≡ d.close
  unfolding tally_blocks issue_block with_block_figures
  next_close = refl

  next_limited : next.limited ≡ d.limited
  unfolding tally_blocks issue_block with_block_figures
  next_limited = refl

  next_time : next.time ≡ d.time
  unfolding tally_blocks issue_block with_block_figures
  next_time = refl

  next_issued : next.blocks.issued ≡ suc d.blocks.issued
  unfolding tally_blocks issue_block with_block_figures next_block
  next_issued = refl

  next_shares : next.blocks.shares ≡ d.blocks.shares + filled ts
  unfolding tally_blocks issue_block with_block_figures
  next_shares = refl

  -- all of them, with the new one, are as they may be
  places : Each (Place next) line
  places =
      rw (declaring_is d a held)
      (each_append (Place next) (taken number_of held) (coming d a ∷ [])
      (each_keep (Place next) (is_taken number_of) held
      (each (Place d) (Place next) held
      (onward_place d next (record { close = next_close; limited = next_limited; issued = omega (arith, next_issued) }))
      s.places))
      (inr (coming_declares d next a main held k next_close next_limited next_issued), tt))

  in_arrival_lem : InLine number_of line
  in_arrival_lem = declaring_line d a held s

  -- a place is free for it
  fit : length line ≤ length held
  fit =
      let t : Bool = ltb (length (taken number_of held)) (length held) in
      let free : ltb (length (taken number_of held)) (length held) ≡ true =
      not-false t (sym (all_taken number_of held) ∙ unheld)
      in
      omega (
        arith,
        ltb-true (length (taken number_of held)) (length held) free,
        ap length (declaring_is d a held),
        length-append (taken number_of held) (coming d a ∷ []),
      )
    where
      unheld : all (is_taken number_of) held ≡ false
      unheld = unfold is_held in k.place

  -- its own shares come to those that were held
  line_shares : shares_of line ≤ shares_of held + 100_000_000
  unfolding coming
  line_shares =
      omega (
        arith,
        ap shares_of (declaring_is d a held),
        total_behind (λ (x : Declaration). x.quantity) (taken number_of held) (coming d a),
        total_keep (λ (x : Declaration). x.quantity) (is_taken number_of) held,
        k.size.most,
      )

  pub record Settles (ts : List Trade) : Type 0 where
    pub shares : shares_of line ≡ 2 * filled ts + shares_of (unnamed ts line)
    pub none_left : 54_000 ≤ d.time → NoneFit (unnamed ts line)

  nothing : filled [] ≡ 0
  unfolding filled total
  nothing = refl

  settles : Settles ts
  unfolding block_trades confirming_from
  settles = go (leb 54_000 d.time) refl
    where
      go : (b : Bool) → leb 54_000 d.time ≡ b → Settles (cond b (confirmations line) [])
      go true e =
          let r = confirmed line (lined_declaring d a held s k.side) in
          record { shares = omega (arith, r.shares, ap shares_of (unnamed_none line)); none_left = λ _. r.none_left }
      go false e =
          record {
            shares = omega (arith, nothing, ap shares_of (unnamed_none line));
            none_left = λ l. absurd (not_both (le-leb 54_000 d.time l) e);
          }

  -- whoever is not named is held then
  pub block_stays : keep is_held (held_in (length held) (unnamed ts line)) ≡ unnamed ts line
  unfolding is_held
  block_stays = after_held (length held) line ts in_arrival_lem fit ∙ ap (unnamed ts) (declaring_taken d a held s)

  module _ (c : Covered d held) where
    pub block_kept : Kept next (held_in (length held) (unnamed ts line))
    block_kept =
        let r = settles in
        kept_of next (held_in (length held) (unnamed ts line)) issued
        (same_places held (held_in (length held) (unnamed ts line)) (after_length (length held) line ts) (held_places d held k.held_sound))
        (record {
          places = after_each (length held) line ts (Place next) (inl refl) (unnamed_each (Place next) ts line places);
          arrived = after_arrived (length held) line ts in_arrival_lem;
          early = λ t. absurd (omega (arith, k.from, t, next_time));
          late = λ t. absurd (omega (arith, k.until, t, next_time));
          confirmed = λ t. after_none_fit (length held) line ts next places (r.none_left (omega (arith, t, next_time)));
        })
        (record {
          within = omega (
            arith,
            next_issued,
            next_shares,
            c.within,
            line_shares,
            r.shares,
            after_shares (length held) line ts in_arrival_lem fit,
          );
        })
      where
        issued : next.blocks.issued ≤ 999_999
        issued =
            let e : EveningDay d = sound_evening d main k.main_sound.1 in
            let n : d.blocks.issued ≡ 999_999 → ⊥ = k.number in
            omega (arith, next_issued, e.blocks_issued, n)
