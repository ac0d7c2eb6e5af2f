-- A sound day over all lists stays sound: after an accepted opening, and over every call, accepted or refused. Assumes nothing.
use Prim.Native.Nat.{ℕ}
use mathlib.Core.Path.{◌≡◌, refl, ◌∙◌, subst}
use mathlib.Core.Bool.{Bool, true, false, ◌&&◌}
use mathlib.Core.List.{List}
use native.Mathlib.Omega.{arith}
use borrow.Author.Tests.{not-false}
use Rattle.model.specs.declared.Order.{Order}
use Rattle.model.specs.declared.Asked.{Asked}
use Rattle.model.specs.declared.AskedFixed.{AskedFixed}
use Rattle.model.specs.declared.AskedBlock.{AskedBlock}
use Rattle.model.specs.declared.Trade.{Trade}
use Rattle.model.specs.declared.Day.{Day}
use Rattle.model.specs.declared.OpenReply as OpenReply
use Rattle.model.specs.Limits.{is_price}
use Rattle.model.specs.Books.{Books, with_fixed, with_blocks}
use Rattle.model.specs.Figures.{fresh_day, at}
use Rattle.model.specs.Screen.{update}
use Rattle.model.specs.Sound.{is_mark, has_places, fixed_fits, blocks_fit}
use Rattle.model.specs.Refusals.{◌when◌, first_of, unsound, unsound_fixed}
use Rattle.model.specs.Calls.{cleared, order_call, cancel_call}
use Rattle.model.specs.FixedCalls.{fixed_call, fixed_cancel_call}
use Rattle.model.specs.BlockCalls.{block_call}
use Rattle.model.specs.AllCalls.{OpenAllOutcome, open_all_rules, open_all_call, moved_on, clock_all_call}
use Rattle.model.specs.Words.{Sound}
use Rattle.model.proofs.Bools.{and_left, and_right, and_both}
use Rattle.soundness.specs.SoundDay.{EveningDay}
use Rattle.soundness.proofs.SoundDays.{sound_evening}
use Rattle.soundness.proofs.EveningClauses.{says_evening}
use Rattle.demands.proofs.Evenings.{evening_later}
use Rattle.demands.proofs.Pricings.{not_unsound, sound_if}
use Rattle.demands.proofs.Cases.{by_number}
use Rattle.demands.proofs.FirstRules.{gives_none}
use Rattle.demands.proofs.Fresh.{fresh_sound}
use Rattle.demands.proofs.Keepings as main
use Rattle.fixed_demands.proofs.KeepsFixed.{keeping_fixed}
use Rattle.block_demands.specs.Keeping as blocks
use Rattle.block_demands.proofs.Keepings.{keeping}
use Rattle.day_demands.specs.Keeping.{Kept, with_main, KeepingAll}
use Rattle.day_demands.specs.Running.{WholeDay, Event, Moves, Enters, Cancels, EntersFixed, CancelsFixed, Declares, stepped}
use Rattle.day_demands.proofs.Outcomes.{move_cases}
use Rattle.day_demands.proofs.Refusals.{open_numbers_lem}
use Rattle.day_demands.proofs.MovedMain.{moved_sound}
use Rattle.day_demands.proofs.Steps.{in_time}

-- ---- the three lists together

-- what is kept of the declarations
held_kept : (d : Day) (s : Books) → Kept d s → blocks.Kept d s.blocks
held_kept d s k =
    record {
      fit = and_right (fixed_fits d) (blocks_fit d) ((says_evening d).1 (sound_evening d s.main k.sound.main.1));
      sound = k.sound.blocks;
      covered = k.covered;
    }

all_kept : (d : Day) (s : Books) → Sound d s.main → unsound_fixed d s.fixed ≡ false → blocks.Kept d s.blocks → Kept d s
all_kept d s m f b =
    record { sound = record { main = m; fixed = f; blocks = b.sound }; covered = b.covered }

-- ---- an opening

module _ (close mark : ℕ) (s : Books) where
  -- all that rule 14 asks
  abbrev asked : Bool
  asked = is_price close && is_mark mark && has_places s.main && has_places s.fixed

  all_asked : first_of (open_all_rules close mark s) ≡ 0 → asked ≡ true
  unfolding open_all_rules ◌when◌
  all_asked z =
      and_left asked (has_places s.blocks)
      (not-false (asked && has_places s.blocks) (gives_none (open_all_rules close mark s) (open_numbers_lem close mark s) z).0)

  pub open_kept :
      (d : Day)
      → (open_all_call close mark s).reply ≡ OpenReply.TheVariants.Opened d
      → Kept d (open_all_call close mark s).books
  unfolding open_all_call
  open_kept d e =
      by_number
      (λ (o : OpenAllOutcome). o.reply ≡ OpenReply.TheVariants.Opened d → blocks.Kept d o.books.blocks → Kept d o.books)
      (first_of (open_all_rules close mark s)) _ _
      (λ z r b.
      let same : fresh_day close mark ≡ d = cc in
      let places : asked ≡ true = all_asked z in
      let three = is_price close && is_mark mark && has_places s.main in
      all_kept d _
      (subst (λ x. Sound x (cleared s.main)) same (fresh_sound close mark s.main (and_left three (has_places s.fixed) places)))
      (subst (λ x. unsound_fixed x (cleared s.fixed) ≡ false) same (keeping_fixed.fresh close mark s.fixed (and_right three (has_places s.fixed) places)))
      b)
      (λ _ r. let z : ◌≡◌ {A = ℕ} 0 1 = cc in absurd (omega arith))
      e (keeping.fresh close mark s d e)

-- ---- the main book's own calls

module _ (d : Day) (s : Books) (k : Kept d s) where
  unsound_none : unsound d s.main ≡ false
  unsound_none = not_unsound d s.main k.sound.main

  pub order_kept :
      (a : Asked) (lent : List Trade)
      → Kept (order_call d a s.main lent).answer.day (with_main (order_call d a s.main lent).book s)
  unfolding with_main
  order_kept a lent =
      all_kept _ _ (main.order_kept d a s.main lent k.sound.main) (keeping_fixed.order d a s.main s.fixed lent k.sound.fixed)
      (keeping.order d a s.main lent s.blocks (held_kept d s k))

  pub cancel_kept :
      (account number : ℕ)
      → Kept (cancel_call d account number s.main).answer.day (with_main (cancel_call d account number s.main).book s)
  unfolding with_main
  cancel_kept account number =
      all_kept _ _ (main.cancel_kept d account number s.main k.sound.main)
      (keeping_fixed.cancel d account number s.main s.fixed k.sound.fixed)
      (keeping.cancel d account number s.main s.blocks (held_kept d s k))

  -- ---- those of the other lists

  pub fixed_kept :
      (a : AskedFixed) (lent : List Trade)
      → Kept (fixed_call d a s.main s.fixed lent).answer.day (with_fixed (fixed_call d a s.main s.fixed lent).book s)
  unfolding with_fixed
  fixed_kept a lent =
      let f = keeping_fixed.fixed_order d a s.main s.fixed lent unsound_none k.sound.fixed in
      all_kept _ _ (sound_if _ s.main f.0) f.1 (keeping.fixed d a s.main s.fixed lent s.blocks (held_kept d s k))

  pub fixed_cancels_kept : (account number : ℕ) → Kept d (with_fixed (fixed_cancel_call d account number s.main s.fixed).book s)
  unfolding with_fixed
  fixed_cancels_kept account number =
      all_kept _ _ k.sound.main (keeping_fixed.fixed_cancel d account number s.main s.fixed k.sound.fixed) (held_kept d s k)

  pub block_kept :
      (a : AskedBlock) (lent : List Trade)
      → Kept (block_call d a s.main s.blocks lent).answer.day (with_blocks (block_call d a s.main s.blocks lent).held s)
  unfolding with_blocks
  block_kept a lent =
      let b = keeping.declaration d a s.main s.blocks lent k.sound.main (held_kept d s k) in
      all_kept _ _ b.1 (b.2 s.fixed ∙ k.sound.fixed) b.0

  -- ---- a move of the clock

  -- the screen is updated last
  shown_evening : (ts : List Trade) (book : List Order) (e : Day) → EveningDay (update ts book e) → EveningDay e
  unfolding update
  shown_evening ts book e v = evening_later (update ts book e) e refl refl v refl refl (omega arith)

  pub clock_kept : (t : ℕ) (lent : List Trade) → Kept (clock_all_call d t s lent).answer.day (clock_all_call d t s lent).books
  clock_kept t lent =
      let f = keeping_fixed.move d t s lent unsound_none k.sound.fixed in
      move_cases d t s lent
      (λ o.
      fixed_fits o.answer.day ≡ true
      → unsound_fixed o.answer.day o.books.fixed ≡ false
      → blocks.Kept o.answer.day o.books.blocks
      → Kept o.answer.day o.books)
      (λ z g u b.
      let h = moved_on d t s in
      let l = in_time d t s lent z in
      let v : EveningDay (update h.auctions h.books.main (at t h.day)) =
      (says_evening (update h.auctions h.books.main (at t h.day))).0 (and_both g b.fit)
      in
      all_kept _ h.books (moved_sound d t s k.sound.main l.0 l.1 (shown_evening h.auctions h.books.main (at t h.day) v)) u b)
      (λ _ _ _ _. k)
      f.0 f.1 (keeping.clock d t s lent (held_kept d s k))

-- ---- any event

pub event_kept : (e : Event) (s : WholeDay) → Kept s.day s.books → Kept (stepped e s).day (stepped e s).books
unfolding stepped
event_kept (Moves t lent) s k = clock_kept s.day s.books k t lent
event_kept (Enters a lent) s k = order_kept s.day s.books k a lent
event_kept (Cancels account number) s k = cancel_kept s.day s.books k account number
event_kept (EntersFixed a lent) s k = fixed_kept s.day s.books k a lent
event_kept (CancelsFixed account number) s k = fixed_cancels_kept s.day s.books k account number
event_kept (Declares a lent) s k = block_kept s.day s.books k a lent

pub keeping_all : KeepingAll
keeping_all =
    record {
      fresh = open_kept;
      order_kept = λ d a s lent k. order_kept d s k a lent;
      cancel_kept = λ d account number s k. cancel_kept d s k account number;
      fixed_kept = λ d a s lent k. fixed_kept d s k a lent;
      fixed_cancel_kept = λ d account number s k. fixed_cancels_kept d s k account number;
      block_kept = λ d a s lent k. block_kept d s k a lent;
      clock_kept = λ d t s lent k. clock_kept d s k t lent;
    }
