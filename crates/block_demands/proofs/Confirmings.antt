-- When declarations are confirmed: those held at 15:00, one that comes in from then on, and none at any other time; and none is held
-- from 15:30 on. Assumes nothing.
use Prim.Native.Nat.{ℕ, ◌≤◌, ◌<◌}
use mathlib.Core.Path.{◌≡◌, refl, sym, ap, ◌∙◌, subst}
use mathlib.Core.Logic.{◌⊎◌, inl, inr, ⊎_elim}
use mathlib.Core.Bool.{true, false, ◌||◌, or-true}
use mathlib.Core.List.{List, [], ◌∷◌}
use native.Mathlib.Omega.{arith}
use native.Mathlib.Decide.{dec_le}
use lib.ListN.{length}
use lib.Dec.{eqb}
use borrow.Author.Tests.{le-leb, lt-leb, eq-eqb}
use Rattle.model.specs.declared.Order.{Order}
use Rattle.model.specs.declared.AskedBlock.{AskedBlock}
use Rattle.model.specs.declared.Declaration.{Declaration}
use Rattle.model.specs.declared.Trade.{Trade}
use Rattle.model.specs.declared.Day.{Day}
use Rattle.model.specs.Clock.{confirming_from, matching_from, day_end}
use Rattle.model.specs.Lists.{keep}
use Rattle.model.specs.Arrival.{is_taken}
use Rattle.model.specs.Matching.{is_in}
use Rattle.model.specs.Figures.{next_block}
use Rattle.model.specs.Books.{Books, with_fixed, with_blocks}
use Rattle.model.specs.Blocks.{is_held, fits, confirmations, unnamed}
use Rattle.model.specs.Refusals.{first_of, unsound_blocks}
use Rattle.model.specs.BlockCalls.{declaring, block_trades, block_rules, block_entered, block_call}
use Rattle.model.specs.AfterClose.{After, confirm_all, match_all, end_all}
use Rattle.model.specs.AllCalls.{start_after, moved_on}
use Rattle.model.specs.Words.{Each, Some}
use Rattle.model.proofs.Bools.{not_both}
use Rattle.book.proofs.Lists.{each, keep_all}
use Rattle.arrivals.proofs.Lines.{taken}
use Rattle.block_demands.specs.Held.{NoneHeld, SoundHeld}
use Rattle.block_demands.specs.Confirming.{Pair, Joins, Confirms, Confirming}
use Rattle.block_demands.proofs.Plain.{held_sound}
use Rattle.block_demands.proofs.Members.{In, pick, each_in, in_either, kept_in}
use Rattle.block_demands.proofs.Naming.{number_of, unnamed_none, names}
use Rattle.block_demands.proofs.Confirmed.{confirms, none_due, due_none}
use Rattle.block_demands.proofs.Lining.{held_line, lined_held, coming, declaring_is, lined_declaring}
use Rattle.block_demands.proofs.Settling.{after_held, lapsed_none}
use Rattle.block_demands.proofs.Allowed.{allowed}
use Rattle.block_demands.proofs.KeptBlocks.{block_stays}
use Rattle.block_demands.proofs.Moves.{due_cases, begun, at_three, at_five_past, moved_stops}

-- ---- a move

module _ (d : Day) (t : ℕ) (s : Books) (l : d.time ≤ t) where
  -- nothing is confirmed after 15:00 on the way
  last_confirmed : (moved_on d t s).confirmed ≡ (at_three d t s).confirmed
  last_confirmed =
      ap (λ (h : After). h.confirmed) (moved_stops d t s l)
      ∙ due_cases day_end end_all d.time t (at_five_past d t s) (λ h. h.confirmed ≡ (at_five_past d t s).confirmed) (λ _ _. end_leaves) (λ _. refl)
      ∙ due_cases matching_from match_all d.time t (at_three d t s) (λ h. h.confirmed ≡ (at_three d t s).confirmed) (λ _ _. match_leaves) (λ _. refl)
    where
      end_leaves : (end_all (at_five_past d t s)).confirmed ≡ (at_five_past d t s).confirmed
      end_leaves = unfold end_all in refl

      match_leaves : (match_all (at_three d t s)).confirmed ≡ (at_three d t s).confirmed
      match_leaves = unfold match_all in refl

  confirmed_then : (confirm_all (begun d t s)).confirmed ≡ confirmations s.blocks
  unfolding confirm_all start_after
  confirmed_then = refl

  confirmed_before : (begun d t s).confirmed ≡ []
  unfolding start_after
  confirmed_before = refl

  -- what a move confirms: all that is held where it passes 15:00, and else nothing
  pub move_confirms : d.time < 54_000 → 54_000 ≤ t → (moved_on d t s).confirmed ≡ confirmations s.blocks
  unfolding confirming_from
  move_confirms a b =
      last_confirmed
      ∙ due_cases 54_000 confirm_all d.time t (begun d t s) (λ h. h.confirmed ≡ confirmations s.blocks)
      (λ _ _. confirmed_then)
      (λ n. absurd (n a b))

  pub move_none : (t < 54_000) ⊎ (54_000 ≤ d.time) → (moved_on d t s).confirmed ≡ []
  unfolding confirming_from
  move_none o =
      last_confirmed
      ∙ due_cases 54_000 confirm_all d.time t (begun d t s) (λ h. h.confirmed ≡ [])
      (λ a b. absurd (⊎_elim (λ k. omega (arith, k, b)) (λ k. omega (arith, k, a)) o))
      (λ _. confirmed_before)

  -- ---- from 15:30 on

  held_before : (begun d t s).books.blocks ≡ s.blocks
  unfolding start_after
  held_before = refl

  -- a move that starts at 15:30 or later finds and leaves none
  pub move_lapses : unsound_blocks d s.blocks ≡ false → 55_800 ≤ t → NoneHeld (moved_on d t s).books.blocks
  unfolding day_end
  move_lapses u e =
      rw (moved_stops d t s l)
      (due_cases 55_800 end_all d.time t (at_five_past d t s) (λ h. NoneHeld h.books.blocks)
      (λ _ _. lapsed)
      (λ n. untouched (elim (dec_le 55_800 d.time) [ yes k ↦ k | no k ↦ absurd (n (omega (arith, k)) e) ])))
    where
      lapsed : NoneHeld (end_all (at_five_past d t s)).books.blocks
      lapsed = unfold end_all in lapsed_none (at_five_past d t s).books.blocks

      matched : (match_all (at_three d t s)).books.blocks ≡ (at_three d t s).books.blocks
      matched = unfold match_all with_fixed in refl

      untouched : 55_800 ≤ d.time → NoneHeld (at_five_past d t s).books.blocks
      untouched k = unfold confirming_from in
          due_cases matching_from match_all d.time t (at_three d t s) (λ h. NoneHeld h.books.blocks) (λ _ _. rw matched at_first) (λ _. at_first)
        where
          at_first : NoneHeld (at_three d t s).books.blocks
          at_first = unfold confirming_from in
              due_cases 54_000 confirm_all d.time t (begun d t s) (λ h. NoneHeld h.books.blocks)
              (λ a _. absurd (omega (arith, a, k)))
              (λ _. rw held_before ((held_sound d s.blocks u).late k))

-- ---- a declaration that comes in

pub early_none : (d : Day) (a : AskedBlock) (held : List Declaration) → d.time < 54_000 → block_trades d a held ≡ []
unfolding block_trades confirming_from
early_none d a held l = rw (lt-leb 54_000 d.time l)

module _ (d : Day) (a : AskedBlock) (held : List Declaration) (u : unsound_blocks d held ≡ false) (k : a.side ≤ 1) (l : 54_000 ≤ d.time) where
  abbrev line : List Declaration
  line = declaring d a held

  s : SoundHeld d held
  s = held_sound d held u

  late_trades : block_trades d a held ≡ confirmations line
  unfolding block_trades confirming_from
  late_trades = rw (le-leb 54_000 d.time l)

  its_number : (x : Declaration) → coming d a ≡ x → eqb x.number (next_block d) ≡ true
  unfolding coming
  its_number x e = eq-eqb x.number (next_block d) (sym (ap number_of e))

  -- no two of those that were there fit, so one of the two is the new one
  one_is_new : (b s : Declaration) → In b line → In s line → fits b s ≡ true → (coming d a ≡ b) ⊎ (coming d a ≡ s)
  one_is_new b p hb hp f =
      ⊎_elim
      (λ ib.
      ⊎_elim
      (λ ip.
      absurd
      (not_both f
      (each_in (λ y. fits b y ≡ false) held p
      (each_in (λ x. Each (λ y. fits x y ≡ false) held) held b (s.confirmed l) (kept_in (is_taken number_of) held b ib))
      (kept_in (is_taken number_of) held p ip))))
      (λ ip. inr (only p ip))
      (split p hp))
      (λ ib. inl (only b ib))
      (split b hb)
    where
      split : (x : Declaration) → In x line → In x (taken number_of held) ⊎ In x (coming d a ∷ [])
      split x h = in_either (taken number_of held) (coming d a ∷ []) x (subst (In x) (declaring_is d a held) h)

      only : (x : Declaration) → In x (coming d a ∷ []) → coming d a ≡ x
      only x h = ⊎_elim (λ e. e) (λ e. absurd e) h

  its_own : (t : Trade) → Joins line t → is_in (next_block d) t ≡ true
  its_own t j =
      let first = pick (λ b. Some (λ p. Pair t b p) line) line j in
      let second = pick (λ p. Pair t first.one p) line first.has in
      let b : Declaration = first.one in
      let p : Declaration = second.one in
      let named : is_in (next_block d) t ≡ (eqb b.number (next_block d) || eqb p.number (next_block d)) =
      ap (is_in (next_block d)) second.has.trade ∙ names (next_block d) b p
      in
      ⊎_elim
      (λ e. named ∙ rw (its_number b e))
      (λ e. named ∙ rw (its_number p e) (or-true (eqb b.number (next_block d))))
      (one_is_new b p first.there second.there second.has.fit)

  pub entered_confirms :
      Confirms line (block_trades d a held)
      × (length (block_trades d a held) ≤ 1)
      × Each (λ (t : Trade). is_in (next_block d) t ≡ true) (block_trades d a held)
  entered_confirms =
      rw late_trades (
        c,
        omega (arith, c.once (next_block d), ap length (keep_all (is_in (next_block d)) (confirmations line) own)),
        own,
      )
    where
      c : Confirms line (confirmations line)
      c = confirms line (lined_declaring d a held s k)

      own : Each (λ (t : Trade). is_in (next_block d) t ≡ true) (confirmations line)
      own = each (Joins line) (λ (t : Trade). is_in (next_block d) t ≡ true) (confirmations line) its_own c.joins

-- ---- who stays held

pub declaration_stays :
    (d : Day) (a : AskedBlock) (main : List Order) (held : List Declaration) (lent : List Trade)
    → first_of (block_rules d a main held (length lent)) ≡ 0
    → keep is_held (block_call d a main held lent).held ≡ unnamed (block_trades d a held) (declaring d a held)
unfolding block_call block_entered
declaration_stays d a main held lent z =
    rw (eq-eqb (first_of (block_rules d a main held (length lent))) 0 z) (block_stays d a main held (allowed d a main held (length lent) z))

module _ (d : Day) (t : ℕ) (s : Books) (u : unsound_blocks d s.blocks ≡ false) (l : d.time ≤ t) (e : t < 55_800) where
  abbrev Stays : After → Type 0
  Stays h = keep is_held h.books.blocks ≡ unnamed h.confirmed (keep is_held s.blocks)

  stays_start : Stays (begun d t s)
  unfolding start_after
  stays_start = sym (unnamed_none (keep is_held s.blocks))

  stays_three : Stays (at_three d t s)
  stays_three = due_cases confirming_from confirm_all d.time t (begun d t s) Stays (λ _ _. confirmed) (λ _. stays_start)
    where
      confirmed : Stays (confirm_all (begun d t s))
      confirmed = unfold confirm_all start_after with_blocks is_held in
          after_held (length s.blocks) s.blocks (confirmations s.blocks) (held_line d s.blocks (held_sound d s.blocks u)) (omega arith)

  stays_five_past : Stays (at_five_past d t s)
  stays_five_past = due_cases matching_from match_all d.time t (at_three d t s) Stays (λ _ _. matched) (λ _. stays_three)
    where
      matched : Stays (match_all (at_three d t s))
      matched = unfold match_all with_fixed in stays_three

  pub move_stays : Stays (moved_on d t s)
  unfolding day_end
  move_stays =
      rw (moved_stops d t s l)
      (due_cases 55_800 end_all d.time t (at_five_past d t s) Stays (λ _ b. absurd (omega (arith, b, e))) (λ _. stays_five_past))

pub confirming : Confirming
unfolding confirming_from day_end
confirming =
    record {
      due =
          λ d held u.
          let l = lined_held d held (held_sound d held u) in
          (none_due held l, due_none held l);
      three = λ d t s u a b.
          rw (move_confirms d t s (omega (arith, a, b)) a b) (confirms s.blocks (lined_held d s.blocks (held_sound d s.blocks u)));
      no_other = λ d t s l o. move_none d t s l o;
      early = early_none;
      entered = entered_confirms;
      stays = declaration_stays;
      stays_on = move_stays;
      end = λ d t s u l e. move_lapses d t s l u e;
    }
