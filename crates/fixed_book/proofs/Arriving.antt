-- A new order behind all that came before it: it stands in the line, which stays in order of arrival; and from 15:05 on what it trades is
-- at most what it asks for. Assumes nothing.
use Prim.Native.Nat.{ℕ, zero, suc, ◌+◌, ◌-◌, ◌≤◌, ◌<◌}
use mathlib.Core.Path.{◌≡◌, refl, sym, ap, ap₂, ◌∙◌}
use mathlib.Core.Logic.{◌⊎◌, inl, inr, ⊎_elim}
use mathlib.Core.Bool.{Bool, true, false, not, ◌&&◌}
use mathlib.Core.List.{List, [], ◌∷◌, ◌++◌, map, append-nil}
use native.Mathlib.Omega.{arith}
use lib.ListN.{length, set, take, replicate, length-append}
use lib.Dec.{leb, eqb}
use borrow.Author.Tests.{le-leb, leb-true, eqb-true, eqb-false, not-false, eq-eqb}
use Rattle.model.specs.declared.Order.{Order}
use Rattle.model.specs.declared.AskedFixed.{AskedFixed}
use Rattle.model.specs.declared.Trade.{Trade}
use Rattle.model.specs.declared.Day.{Day}
use Rattle.model.specs.Lists.{keep, total}
use Rattle.model.specs.Clock.{long_hours, matching_from}
use Rattle.model.specs.Limits.{is_price, is_quantity, in_band}
use Rattle.model.specs.Book.{free, is_live, stands_on}
use Rattle.model.specs.Arrival.{is_taken, in_places}
use Rattle.model.specs.Matching.{filled, filled_of, settle}
use Rattle.model.specs.Figures.{close_price, next_fixed}
use Rattle.model.specs.FixedBook.{wrong_side, is_void, arrivals, matches, lined}
use Rattle.model.specs.FixedCalls.{arriving}
use Rattle.model.specs.Words.{Each, OddLot, Sized}
use Rattle.model.proofs.Bools.{and_true}
use Rattle.book.specs.Standing.{Fair}
use Rattle.book.proofs.Lists.{each, each_keep, each_append, keep_append, keep_all, kept, keep_none, total_keep}
use Rattle.book.proofs.Sorting.{Rising, Distinct}
use Rattle.book.proofs.Kept.{fair_free, free_number, after}
use Rattle.book.proofs.Queues.{number_live}
use Rattle.book.proofs.Thinning.{free_gone, free_nowhere}
use Rattle.book.proofs.Parts.{each_same}
use Rattle.soundness.specs.SoundDay.{Place}
use Rattle.soundness.proofs.Clauses.{says_price, says_band}
use Rattle.soundness.proofs.Sizes.{says_quantity, sized_most}
use Rattle.arrivals.proofs.Lines.{InLine, in_line, is_taken_lem, not_taken, rising_distinct}
use Rattle.arrivals.proofs.Places.{places_length, places_fit, places_arrive, places_each, places_with, with_rises}
use Rattle.fixed_book.specs.Ready.{Lined, as_fixed, FixedReady}
use Rattle.fixed_book.specs.Asked.{Fine, incoming}
use Rattle.fixed_book.proofs.Facing.{Cleared}
use Rattle.fixed_book.proofs.Sides.{live_taken, matched}
use Rattle.fixed_book.proofs.Settling.{less_free}

abbrev number : Order → ℕ
number o = o.number

-- ---- what is asked, once its rules have passed

sized_some : (side q balance : ℕ) → Sized side q balance → 1 ≤ q
sized_some side q balance s = go (eqb side 0) refl
  where
    go : (t : Bool) → eqb side 0 ≡ t → 1 ≤ q
    go true e = let h : 100 ≤ q = (s.buy (eqb-true side 0 e)).0.0 in omega arith
    go false e = ⊎_elim (λ h. let k : 100 ≤ q = h.0 in omega arith) (λ (h : OddLot q balance). h.0) (s.sell (eqb-false side 0 e))

module _ (d : Day) (a : AskedFixed) where
  pub fine_if :
      not (leb a.side 1) ≡ false
      → eqb a.account 0 ≡ false
      → not (long_hours d.time) ≡ false
      → not (is_quantity a.side a.quantity a.balance) ≡ false
      → not (is_price a.price) ≡ false
      → (eqb d.limited 1 && not (in_band d.close a.price)) ≡ false
      → (leb matching_from d.time && wrong_side a.side a.price (close_price d)) ≡ false
      → Fine d a
  unfolding matching_from
  fine_if s c h q p b w =
      let sized = (says_quantity a.side a.quantity a.balance).0 (not-false _ q) in
      record {
        side = leb-true a.side 1 (not-false _ s);
        account = eqb-false a.account 0 c;
        hours = not-false _ h;
        some = sized_some a.side a.quantity a.balance sized;
        most = sized_most a.side a.quantity a.balance sized;
        price = (says_price a.price).0 (not-false _ p);
        band = λ l. (says_band d.close a.price).0 (not-false _ (and_true (eq-eqb d.limited 1 l) b));
        close_side = λ l. and_true (le-leb 54_300 d.time l) w;
      }

-- ---- free places behind a list change nothing

frees_aside : (p : Order → Bool) → p free ≡ false → (os : List Order) (k : ℕ) → keep p (os ++ replicate k free) ≡ keep p os
frees_aside p e os k =
    keep_append p os (replicate k free)
    ∙ ap (λ (l : List Order). keep p os ++ l) (keep_none p (replicate k free) (each_same (λ o. p o ≡ false) k free e))
    ∙ append-nil (keep p os)

frees_match : (os : List Order) (k close : ℕ) → matches close (os ++ replicate k free) ≡ matches close os
unfolding matches arrivals
frees_match os k close =
    rw (frees_aside (stands_on 0) (free_nowhere 0) os k, frees_aside (stands_on 1) (free_nowhere 1) os k)

module _ (ts : List Trade) where
  after_frees : (j : ℕ) → map (after ts) (replicate j free) ≡ replicate j free
  after_frees zero = refl
  after_frees (suc j) = ap₂ (λ (x : Order) (l : List Order). x ∷ l) (less_free (filled_of free.number ts)) (after_frees j)

  after_append : (xs ys : List Order) → map (after ts) (xs ++ ys) ≡ map (after ts) xs ++ map (after ts) ys
  after_append [] ys = refl
  after_append (x ∷ xs) ys = ap (λ (l : List Order). after ts x ∷ l) (after_append xs ys)

  frees_settle : (os : List Order) (k n : ℕ) → lined n (settle ts (os ++ replicate k free)) ≡ lined n (settle ts os)
  unfolding lined in_places settle
  frees_settle os k n =
      ap (λ (l : List Order). take n (keep (is_taken number) l ++ replicate n free))
      (after_append os (replicate k free) ∙ ap (λ (l : List Order). map (after ts) os ++ l) (after_frees k))
      ∙ ap (λ (l : List Order). take n (l ++ replicate n free)) (frees_aside (is_taken number) (not_taken number free free_number) (map (after ts) os) k)

-- ---- the line with the new order

module _ (d : Day) (a : AskedFixed) (book : List Order) (r : FixedReady d book) (f : Fine d a) (numbers : d.fixed.issued < 999_999) (room : length (keep is_live book) < length book) where
  abbrev new : Order
  new = incoming d a

  abbrev orders : List Order
  orders = arriving d a book

  next_is : next_fixed d ≡ suc d.fixed.issued
  unfolding next_fixed
  next_is = refl

  new_live : new.number ≡ 0 → ⊥
  new_live z = omega (arith, z, next_is)

  pub new_fair : Fair new
  new_fair =
      record {
        side = f.side;
        price = f.price.high;
        number = omega (arith, next_is);
        left = f.most;
        none = λ z. absurd (new_live z);
        some = λ _. f.some;
        priced = λ _. f.price.low;
      }

  orders_are : orders ≡ keep (is_taken number) book ++ (new ∷ [])
  unfolding arriving
  orders_are = ap (λ (l : List Order). l ++ (new ∷ [])) (live_taken book)

  pub arriving_fair : Each Fair orders
  arriving_fair =
      rw orders_are (each_append Fair (keep (is_taken number) book) (new ∷ []) (each_keep Fair (is_taken number) book r.lined.fair) (new_fair, tt))

  abbrev line : InLine number book
  line = in_line number book r.lined.arrived

  tidy : Each (λ o. o.number ≡ 0 → o ≡ free) book
  tidy = each Fair (λ o. o.number ≡ 0 → o ≡ free) book (λ o h. h.none) r.lined.fair

  taken_room : length (keep (is_taken number) book) < length book
  taken_room = rw (← live_taken book) room

  -- every number so far is lower
  earlier : Each (λ o. o.number < new.number) (keep (is_taken number) book)
  earlier =
      each_keep (λ o. o.number < new.number) (is_taken number) book
      (each (Place (as_fixed d)) (λ o. o.number < new.number) book (λ o p. lower o p) r.line.places)
    where
      lower : (o : Order) → Place (as_fixed d) o → o.number < new.number
      lower o (inl e) = omega (arith, ap number e, free_number, next_is)
      lower o (inr h) = omega (arith, h.issued, next_is)

  pub arriving_rises : Rising number 0 (keep (is_taken number) orders)
  arriving_rises = rw orders_are (with_rises number free free_number book line tidy new new_live taken_room earlier)

  -- it is put at the first free place
  pub arrives_at : set book (length (keep is_live book)) new ≡ lined (length book) orders
  unfolding lined
  arrives_at = rw (orders_are, live_taken book) (sym (places_with number free free_number book line tidy new new_live taken_room))

  -- all of them have a number
  all_taken : keep (is_taken number) orders ≡ orders
  all_taken =
      rw orders_are
      (keep_all (is_taken number) (keep (is_taken number) book ++ (new ∷ []))
      (each_append (λ o. is_taken number o ≡ true) (keep (is_taken number) book) (new ∷ []) (kept (is_taken number) book) (is_taken_lem number new new_live, tt)))

  pub arriving_long : length orders ≡ length (keep is_live book) + 1
  unfolding arriving
  arriving_long = length-append (keep is_live book) (new ∷ [])

  pub fits : length (keep (is_taken number) orders) ≤ length book
  fits = omega (arith, ap length all_taken, arriving_long)

  line_is : lined (length book) orders ≡ orders ++ replicate (length book - length orders) free
  unfolding lined
  line_is =
      places_fit number free free_number (length book) orders fits
      ∙ ap (λ (l : List Order). l ++ replicate (length book - length l) free) all_taken

  pub arriving_lined : Lined (lined (length book) orders)
  unfolding lined
  arriving_lined =
      record {
        fair = places_each number free free_number Fair (length book) orders fair_free arriving_fair;
        arrived = places_arrive number free free_number (length book) orders arriving_rises;
        few = omega (arith, places_length number free free_number (length book) orders, r.lined.few);
      }

  -- ---- from 15:05 on
  module _ (late : 54_300 ≤ d.time) where
    abbrev close : ℕ
    close = close_price d

    abbrev valid : Order → Bool
    valid o = not (is_void close o)

    new_valid : is_void close new ≡ false
    unfolding is_void
    new_valid = rw (number_live new new_live) (f.close_side late)

    free_valid : is_void close free ≡ false
    unfolding is_void
    free_valid = rw free_gone

    arriving_valid : Each (λ o. is_void close o ≡ false) orders
    arriving_valid =
        rw orders_are
        (each_append (λ o. is_void close o ≡ false) (keep (is_taken number) book) (new ∷ []) (each_keep (λ o. is_void close o ≡ false) (is_taken number) book (r.line.none_void late))
        (new_valid, tt))

    all_valid : keep valid (lined (length book) orders) ≡ orders ++ replicate (length book - length orders) free
    unfolding lined
    all_valid =
        keep_all valid (lined (length book) orders)
        (each (λ o. is_void close o ≡ false) (λ o. valid o ≡ true) (lined (length book) orders) (λ o e. ap not e)
        (places_each number free free_number (λ o. is_void close o ≡ false) (length book) orders free_valid arriving_valid))
        ∙ line_is

    pub entry_matches : matches close (keep (λ o. not (is_void close o)) (lined (length book) orders)) ≡ matches close orders
    entry_matches = ap (matches close) all_valid ∙ frees_match orders (length book - length orders) close

    pub entry_settles :
        (ts : List Trade) (n : ℕ)
        → lined n (settle ts (keep (λ o. not (is_void close o)) (lined (length book) orders))) ≡ lined n (settle ts orders)
    entry_settles ts n = ap (λ (l : List Order). lined n (settle ts l)) all_valid ∙ frees_settle ts orders (length book - length orders) n

    own : Distinct number (keep is_live orders)
    own = rw (live_taken orders) (rising_distinct number 0 (keep (is_taken number) orders) arriving_rises)

    pub entry_clears : Cleared (keep (stands_on 0) orders) (keep (stands_on 1) orders) (matches close orders)
    entry_clears = matched orders arriving_fair own close

    -- who comes to a side on which nobody rests is alone there
    alone : (side : ℕ) → Each (λ o. stands_on side o ≡ false) book → total (λ (o : Order). o.left) (keep (stands_on side) orders) ≤ a.quantity
    alone side e =
        let parts : keep (stands_on side) orders ≡ keep (stands_on side) (new ∷ []) =
        ap (keep (stands_on side)) orders_are
        ∙ keep_append (stands_on side) (keep (is_taken number) book) (new ∷ [])
        ∙ ap (λ (l : List Order). l ++ keep (stands_on side) (new ∷ []))
        (keep_none (stands_on side) (keep (is_taken number) book) (each_keep (λ o. stands_on side o ≡ false) (is_taken number) book e))
        in
        rw parts (omega (arith, total_keep (λ (o : Order). o.left) (stands_on side) (new ∷ []), one))
      where
        one : total (λ (o : Order). o.left) (new ∷ []) ≡ a.quantity
        one = unfold total in omega arith

    -- one side rests at most, so it trades no more than it asks for
    pub entry_fills : filled (matches close orders) ≤ a.quantity
    entry_fills = go (r.line.one_sided late)
      where
        go : Each (λ o. stands_on 0 o ≡ false) book ⊎ Each (λ o. stands_on 1 o ≡ false) book → filled (matches close orders) ≤ a.quantity
        go (inl e) = omega (arith, entry_clears.smaller, alone 0 e)
        go (inr e) = omega (arith, entry_clears.smaller, alone 1 e)
