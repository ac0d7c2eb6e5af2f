-- What the call of a declaration comes to: refused, held, or confirmed. Each is the definitions' outcome.
use Prim.Native.Nat.{ℕ, ◌+◌, ◌≤◌, ◌<◌}
use mathlib.Core.Path.{◌≡◌, sym, ap, ◌∙◌}
use mathlib.Core.Bool.{true, false}
use mathlib.Core.List.{List, [], ◌∷◌, ◌++◌}
use native.Mathlib.Omega.{arith}
use native.Mathlib.Nat.{add-zero}
use lib.ListN.{length, get_or, take, drop, set, length-map}
use borrow.Author.Tests.{eq-eqb, ne_eqb}
use Rattle.model.specs.declared.Order.{Order}
use Rattle.model.specs.declared.Declaration.{Declaration}
use Rattle.model.specs.declared.AskedBlock.{AskedBlock}
use Rattle.model.specs.declared.Trade.{Trade}
use Rattle.model.specs.declared.Day.{Day}
use Rattle.model.specs.Lists.{keep, total}
use Rattle.model.specs.Matching.{filled}
use Rattle.model.specs.Figures.{with_block_figures, tally_blocks, issue_block}
use Rattle.model.specs.Blocks.{undeclared, is_held, fits, unnamed, held_in}
use Rattle.model.specs.Refusals.{first_of, unsound}
use Rattle.model.specs.Calls.{written}
use Rattle.model.specs.BlockCalls.{block_trades, block_rules, block_entered, block_call}
use Rattle.model.proofs.Bools.{not_both}
use Rattle.book.specs.Promises.{block_left, block_refused}
use Rattle.book.proofs.Lists.{each_at}
use Rattle.book.proofs.Written.{sets_fitted, fitted_written}
use Rattle.declarations.specs.Declared.{WellFormed}
use Rattle.blocks.specs.Ready.{BlocksReady}
use Rattle.held.specs.Meeting.{asking, earliest, joining, meeting}
use Rattle.held.proofs.Holding.{not_full}
use Rattle.held.proofs.Earliest.{earliest_fits, meets_one, fits_none, meets_none}
use Rattle.blocks.proofs.Fitting.{unfit_free}
use Rattle.blocks.proofs.Entered.{stands_behind, two_leave}
use Rattle.block_entries.specs.Entries.{held_answer, confirmed_answer, Taken}
use Rattle.block_calls.proofs.Refusing.{asked_well, block_lacks, block_none}
use Rattle.blocks.proofs.Newcomers.{new_number, new_formed, declaring_it, new_later, early_trades, late_trades}
use Rattle.model.specs.Book.{free}

-- no trades leave the figures
tally_none : (d : Day) → tally_blocks [] d ≡ d
unfolding tally_blocks with_block_figures filled total
tally_none d = rw (add-zero d.blocks.shares)

-- ---- the partner

pub fits_there :
    (x : Declaration) (rows : List Declaration) {place : ℕ}
    → place ≡ earliest x rows
    → place < length rows
    → fits x (get_or rows place undeclared) ≡ true
fits_there x rows {place} p h =
    ap (λ n. fits x (get_or rows n undeclared)) p
    ∙ earliest_fits x rows (omega arith)

-- ---- the outcomes

module _ (d : Day) (a : AskedBlock) (main : List Order) (rows : List Declaration) (trades : List Trade) where
  abbrev held : List Declaration
  held = rows

  abbrev lent : List Trade
  lent = trades

  abbrev refusal : ℕ
  refusal = first_of (block_rules d a main held (length lent))

  pub block_refused_lem : {n : ℕ} → n ≡ refusal → (n ≡ 0 → ⊥) → block_left (block_refused d n) rows trades ≡ block_call d a main held lent
  unfolding block_call
  block_refused_lem r z = rw (ne_eqb refusal 0 (λ y. z (r ∙ y)), r)

  entered : 0 ≡ refusal → block_entered d a held lent ≡ block_call d a main held lent
  unfolding block_call
  entered r = rw (eq-eqb refusal 0 (sym r))

  -- ---- held

  held_entered :
      (rows' : List Declaration)
      → block_trades d a held ≡ []
      → rows' ≡ held_in (length held) (unnamed [] (keep is_held held ++ (asking d a ∷ [])))
      → block_left (held_answer d) rows' trades ≡ block_entered d a held lent
  unfolding block_entered held_answer written
  held_entered rows' t g = rw (t, tally_none (issue_block d), g, declaring_it d a held)

  -- ---- confirmed

  confirmed_entered :
      (rows' : List Declaration) (trades' : List Trade) (y : Declaration)
      → block_trades d a held ≡ joining (asking d a) y ∷ []
      → rows' ≡ held_in (length held) (unnamed (joining (asking d a) y ∷ []) (keep is_held held ++ (asking d a ∷ [])))
      → trades' ≡ written (joining (asking d a) y ∷ []) lent
      → block_left (confirmed_answer d (asking d a) y) rows' trades' ≡ block_entered d a held lent
  unfolding block_entered confirmed_answer
  confirmed_entered rows' trades' y t g w = rw (t, g, w, declaring_it d a held)

  module _ (u : unsound d main ≡ false) (r : BlocksReady d held) {free : ℕ} (k : Taken d a held free) where
    some_left : d.blocks.issued ≡ 999_999 → ⊥
    some_left e = omega (arith, k.number)

    -- it is put at the first free place
    put_behind : {rows' : List Declaration} → rows' ≡ set rows free (asking d a) → rows' ≡ held_in (length held) (unnamed [] (keep is_held held ++ (asking d a ∷ [])))
    put_behind g =
        g
        ∙ ap (λ n. set held n (asking d a)) k.place
        ∙ sym (stands_behind held r.declared (asking d a) (new_number d a) (new_later d a held r) (omega (arith, k.place, k.room)))

    held_outcome :
        (rows' : List Declaration)
        → block_trades d a held ≡ []
        → rows' ≡ set rows free (asking d a)
        → block_left (held_answer d) rows' trades ≡ block_call d a main held lent
    held_outcome rows' t g =
        held_entered rows' t (put_behind g)
        ∙ entered (block_none d a main held (length lent) u r.sound k.asked (not_full held k.place k.room) some_left (omega (arith, ap length t)))

    pub held_early :
        (rows' : List Declaration)
        → d.time < 54_000
        → rows' ≡ set rows free (asking d a)
        → block_left (held_answer d) rows' trades ≡ block_call d a main held lent
    held_early rows' h g = held_outcome rows' (early_trades d a held r h) g

    module _ (late : 54_000 ≤ d.time) {place : ℕ} (p : place ≡ earliest (asking d a) held) where
      met : block_trades d a held ≡ meeting (asking d a) held
      met = late_trades d a held r (asked_well d a k.asked) k.number late

      pub held_late :
          (rows' : List Declaration)
          → length rows ≤ place
          → rows' ≡ set rows free (asking d a)
          → block_left (held_answer d) rows' trades ≡ block_call d a main held lent
      held_late rows' h g =
          held_outcome rows'
          (met ∙ meets_none (asking d a) held (fits_none (asking d a) held (omega arith)))
          g

      module _ (h : place < length rows) where
        inside : earliest (asking d a) held < length held
        inside = omega arith

        one : block_trades d a held ≡ joining (asking d a) (get_or rows place undeclared) ∷ []
        one =
            met
            ∙ meets_one (asking d a) held inside
            ∙ ap (λ n. joining (asking d a) (get_or held n undeclared) ∷ []) (sym p)

        pub lacks_room : length trades ≡ 0 → 13 ≡ refusal
        lacks_room z =
            block_lacks d a main held (length lent) u r.sound k.asked (not_full held k.place k.room) some_left (omega (arith, ap length one))

        -- the partner is held: a free place has no price
        partner_held : (get_or held place undeclared).number ≡ 0 → ⊥
        partner_held z =
            let w = new_formed d a (asked_well d a k.asked) k.number in
            let f = each_at WellFormed held undeclared r.declared.formed place (omega arith) in
            not_both (fits_there (asking d a) rows p h)
            (unfit_free (asking d a) (get_or held place undeclared) (w.priced (new_number d a)) f z)

        pub confirmed_outcome :
            (rows' : List Declaration) (trades' : List Trade)
            → (length trades ≡ 0 → ⊥)
            → trades' ≡ set trades 0 (joining (asking d a) (get_or rows place undeclared))
            → rows' ≡ take place held ++ (drop (place + 1) held ++ (undeclared ∷ []))
            → block_left (confirmed_answer d (asking d a) (get_or rows place undeclared)) rows' trades'
            ≡ block_call d a main held lent
        confirmed_outcome rows' trades' n w g =
            let t : Trade = joining (asking d a) (get_or rows place undeclared) in
            let some : 1 ≤ length trades = omega (arith, n) in
            let left : rows' ≡ held_in (length held) (unnamed (t ∷ []) (keep is_held held ++ (asking d a ∷ []))) =
            g
            ∙ sym
            (two_leave held r.declared (asking d a) (new_number d a) (new_later d a held r) place (omega arith) partner_held) in
            confirmed_entered rows' trades' (get_or rows place undeclared) one left
            ((w ∙ sets_fitted (t ∷ []) trades) ∙ fitted_written (t ∷ []) trades some)
            ∙ entered
            (block_none d a main held (length lent) u r.sound k.asked (not_full held k.place k.room) some_left
            (omega (arith, ap length one)))
