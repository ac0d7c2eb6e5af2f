-- What is left after each fill, for every event: from the laws of a sweep and of an auction to the book afterwards. Assumes
-- nothing.
use Rattle.std.specs.Prelude.{if◌then◌else◌}
use Prim.Native.Nat.{ℕ, ◌+◌, ◌-◌, ◌≤◌, ◌<◌}
use mathlib.Core.Path.{◌≡◌, refl, sym, ap, ◌∙◌}
use mathlib.Core.Logic.{inl, inr, ⊎_elim}
use mathlib.Core.Bool.{Bool, true, false, cond, ◌||◌}
use mathlib.Core.List.{List, [], ◌∷◌}
use native.Mathlib.Omega.{arith}
use lib.ListN.{length, get_or, take, drop}
use lib.Seq.{take_at}
use lib.Dec.{eqb}
use borrow.Author.Tests.{ne_eqb}
use Rattle.model.specs.declared.Order.{Order}
use Rattle.model.specs.declared.Asked.{Asked}
use Rattle.model.specs.declared.Trade.{Trade}
use Rattle.model.specs.declared.Day.{Day}
use Rattle.model.specs.declared.Entry.{Entry}
use Rattle.model.specs.declared.OrderReply as OrderReply
use Rattle.model.specs.Lists.{any}
use Rattle.model.specs.Clock.{passed}
use Rattle.model.specs.Book.{free, queue, arranged}
use Rattle.model.specs.Matching.{filled, is_in, filled_of, less_by, settle}
use Rattle.model.specs.Figures.{next_number}
use Rattle.model.specs.Entry.{entry_trades, rest_price}
use Rattle.model.specs.Replies.{resting_of}
use Rattle.model.specs.Calls.{written, ended, joined, entered, order_call}
use Rattle.model.specs.ClockCall.{auction_trades, start, moved, clock_call}
use Rattle.model.specs.Words.{Each, Some, Sound}
use Rattle.book.specs.Standing.{Fair, Standing}
use Rattle.book.proofs.Lists.{both as Each-both, each, every, each_at}
use Rattle.book.proofs.Kept.{New, new_fresh, free_number, less_by_lem, standing_settle, fresh_settle}
use Rattle.book.proofs.Settlements.{filled_none, part, filled_cons, less_some}
use Rattle.soundness.proofs.SoundDays.{sound_day, next_new}
use Rattle.matching.proofs.EntryLaws.{remainder, orders_then}
use Rattle.pairing.proofs.Auctions.{settled_fit}
use Rattle.demands.specs.Pricing.{is_auction}
use Rattle.demands.specs.Leaving.{left_in, Falls, last_left, Stands, EachFalls, EachStands, Incoming}
use Rattle.demands.proofs.Elements.{each_map, some_at}
use Rattle.demands.proofs.Places.{stands_once, behind_equals}
use Rattle.book.proofs.Arranging.{each_arranged}
use Rattle.demands.proofs.Arranged.{stands_there}
use Rattle.demands.proofs.Cases.{order_cases, clock_cases}
use Rattle.demands.proofs.Pricings.{sound_stands}
use Rattle.demands.proofs.Entered.{Allowed, allowed, orders_stand, orders_fit, orders_highest, entered_before}
use Rattle.demands.proofs.BeforeScreens.{before_ranked}
use Rattle.demands.proofs.Moved.{in_time}
use Rattle.demands.proofs.OneAuction.{moved_trades, up_to_close}
use Rattle.demands.proofs.Staying.{settle_has}
use Rattle.demands.proofs.Entries.{all_ends, rests_somewhere, joined_rests, entry, accepted_cases}
use Rattle.demands.proofs.Once.{Once, book_once}
use Rattle.demands.proofs.SweptLeft.{entry_own_falls, entry_own_filled, entry_falls}
use Rattle.demands.proofs.PairedLeft.{auction_falls}

-- ---- the last of the left numbers

falls_last :
    (n had : ℕ) (ts : List Trade)
    → Falls n had ts
    → (filled_of n ts ≤ had) × (last_left n had ts ≡ had - filled_of n ts)
unfolding last_left
falls_last n had [] f = (omega (arith, filled_none n), omega (arith, filled_none n))
falls_last n had (t ∷ ts) f = go (is_in n t) refl (λ left h. falls_last n left ts h)
  where
    filled_by : (b : Bool) → is_in n t ≡ b → part n t ≡ cond b t.quantity 0
    filled_by b e = unfold part in rw e

    go :
        (b : Bool)
        → is_in n t ≡ b
        → ((left : ℕ) → Falls n left ts → (filled_of n ts ≤ left) × (last_left n left ts ≡ left - filled_of n ts))
        → (filled_of n (t ∷ ts) ≤ had) × (last_left n (if is_in n t then left_in n t else had) ts ≡ had - filled_of n (t ∷ ts))
    go true e more =
        let h = f.0 e in
        let r = more (left_in n t) h.1 in
        let p = filled_by true e in
        let c = filled_cons n t ts in
        (omega (arith, h.0, r.0), rw e (omega (arith, h.0, r.0, r.1)))
    go false e more =
        let r = more had (f.1 e) in
        let p = filled_by false e in
        let c = filled_cons n t ts in
        (omega (arith, r.0), rw e (omega (arith, r.0, r.1)))

-- ---- the book after the trades

-- an order of which all is filled is gone
gone :
    (n had : ℕ) (ts : List Trade) (book : List Order)
    → (n ≡ 0 → ⊥)
    → Each (λ (o : Order). o.number ≡ n → o.left ≡ had) book
    → had ≤ filled_of n ts
    → Each (λ (o : Order). o.number ≡ n → ⊥) (settle ts book)
unfolding settle
gone n had ts book live e h =
    each_map (λ (o : Order). o.number ≡ n → ⊥) (λ (o : Order). less_by (filled_of o.number ts) o) book
    (each (λ (o : Order). o.number ≡ n → o.left ≡ had) (λ (o : Order). (less_by (filled_of o.number ts) o).number ≡ n → ⊥) book one e)
  where
    one : (o : Order) → (o.number ≡ n → o.left ≡ had) → (less_by (filled_of o.number ts) o).number ≡ n → ⊥
    one o f z =
        ⊎_elim
        (λ g. live (sym z ∙ ap (λ (x : Order). x.number) g ∙ free_number))
        (λ k.
        let e : o.number ≡ n = k.0.number ∙ z in
        let l : filled_of o.number ts ≡ filled_of n ts = ap (λ (m : ℕ). filled_of m ts) e in
        omega (arith, f e, k.0.some, k.1))
        (less_by_lem (filled_of o.number ts) o)

-- q shares are left of an order, and it is one of these; or nothing is left, and none bears its number
record Among (q : ℕ) (o : Order) (os : List Order) : Type 0 where
  some :
      (q ≡ 0 → ⊥)
      → Some (λ (p : Order). p ≡ record { side = o.side; account = o.account; left = q; price = o.price; number = o.number }) os
  none : q ≡ 0 → Each (λ (p : Order). p.number ≡ o.number → ⊥) os

abbrev EachAmong : List Trade → List Order → List Order → Type 0
EachAmong ts book os =
    (i : ℕ)
    → i < length book
    → ((get_or book i free).number ≡ 0 → ⊥)
    → Among (last_left (get_or book i free).number (get_or book i free).left ts) (get_or book i free) os

module _ (ts : List Trade) (book : List Order) (s : Standing book) (falls : EachFalls ts book) where
  settled_stands : EachAmong ts book (settle ts book)
  settled_stands i l live =
      let o = get_or book i free in
      let h = falls_last o.number o.left ts (each_at (λ (o : Order). (o.number ≡ 0 → ⊥) → Falls o.number o.left ts) book free falls i l live) in
      record {
        some = λ n.
            settle_has ts book i _ l (sym (less_some (filled_of o.number ts) (last_left o.number o.left ts) o h.1 n));
        none =
            λ z.
            gone o.number o.left ts book live
            (each_at (λ (o : Order). (o.number ≡ 0 → ⊥) → Once o.number o.left book) book free (book_once book s.apart) i l live).has
            (omega (arith, h.0, h.1, z));
      }

-- ---- with a new order, and arranged in the book

joined_among : (q : ℕ) (o x : Order) (os : List Order) → (x.number ≡ o.number → ⊥) → Among q o os → Among q o (x ∷ os)
joined_among q o x os apart k = record { some = λ n. inr (k.some n); none = λ z. (apart, k.none z) }

module _ (n : ℕ) (os : List Order) (s : Standing os) (fit : length (queue 0 os) + length (queue 1 os) ≤ n) where
  arranged_stands : (q : ℕ) (o : Order) → (o.number ≡ 0 → ⊥) → Among q o os → Stands q o (arranged n os)
  arranged_stands q o live k =
      record {
        some = λ z.
            stands_there n os s fit
            (record { side = o.side; account = o.account; left = q; price = o.price; number = o.number })
            live
            (k.some z);
        none = λ z. each_arranged (λ (p : Order). p.number ≡ o.number → ⊥) n os (λ e. live (sym e ∙ free_number)) (k.none z);
      }

  all_stand : (ts : List Trade) (book : List Order) → EachAmong ts book os → EachStands ts book (arranged n os)
  all_stand ts book k i l live =
      arranged_stands (last_left (get_or book i free).number (get_or book i free).left ts) (get_or book i free) live (k i l live)

-- ---- no trades

no_falls : (book : List Order) → EachFalls [] book
no_falls book = every (λ (o : Order). (o.number ≡ 0 → ⊥) → Falls o.number o.left []) book (λ o _. tt)

no_trade_stands : (book : List Order) → Standing book → EachStands [] book book
unfolding last_left
no_trade_stands book s i l live =
    record {
      some = λ _. stands_once book s.apart (get_or book i free) live (some_at book free i l);
      none = λ z. absurd (omega (arith, z, (each_at Fair book free s.fair i l).some live));
    }

-- ---- an order

module _ (d : Day) (a : Asked) (book : List Order) (s : Sound d book) where
  stands : Standing book
  stands = sound_stands d book s

  new : New (next_number d) book
  new = next_new d book (sound_day d book s.1)

  abbrev ts : List Trade
  ts = entry_trades d a book

  resting_fall : EachFalls ts book
  resting_fall =
      Each-both (λ (o : Order). (o.number ≡ 0 → ⊥) → Once o.number o.left book) (λ (o : Order). o.number ≡ next_number d → ⊥)
      (λ (o : Order). (o.number ≡ 0 → ⊥) → Falls o.number o.left ts) book
      (λ o k n live. entry_falls d a book o.number o.left n (k live))
      (book_once book stands.apart) new.fresh

  orders_left : EachAmong ts book (orders_then d a book (next_number d))
  unfolding joined
  orders_left i l live = go (eqb (a.quantity - filled ts) 0 || eqb (rest_price a ts book) 0)
    where
      o : Order
      o = get_or book i free

      still : Among (last_left o.number o.left ts) o (settle ts book)
      still = settled_stands ts book stands resting_fall i l live

      go : (b : Bool) → Among (last_left o.number o.left ts) o (cond b (settle ts book) (remainder d a book (next_number d) ∷ settle ts book))
      go true = still
      go false =
          joined_among (last_left o.number o.left ts) o (remainder d a book (next_number d)) (settle ts book)
          (λ e. each_at (λ (y : Order). y.number ≡ next_number d → ⊥) book free new.fresh i l (sym e)) still

  pub order_leaves_lem :
      (lent : List Trade)
      → EachFalls (take (order_call d a book lent).answer.made (order_call d a book lent).trades) book
      × EachStands (take (order_call d a book lent).answer.made (order_call d a book lent).trades) book (order_call d a book lent).book
  unfolding entered written
  order_leaves_lem lent =
      order_cases d a book lent
      (λ o. EachFalls (take o.answer.made o.trades) book × EachStands (take o.answer.made o.trades) book o.book)
      (λ z.
      let k = allowed d a book lent z in
      rw (take_at ts (drop (length ts) lent) (length ts) refl) (
        resting_fall,
        all_stand (length book) (orders_then d a book (next_number d)) (orders_stand d a book s k) (orders_fit d a book s k) ts book orders_left,
      ))
      (λ _. (no_falls book, no_trade_stands book stands))

  -- what rests of it is one of the orders, and where nothing rests its number is nowhere
  own_among :
      (q p : ℕ)
      → ((q ≡ 0 → ⊥) → p ≡ 0 → ⊥)
      → Among q (record { side = a.side; account = a.account; left = a.quantity; price = p; number = next_number d })
      (joined a (next_number d) q p (settle ts book))
  unfolding joined
  own_among q p priced =
      record {
        some = λ n. rw (ne_eqb q 0 n, ne_eqb p 0 (priced n)) (inl refl);
        none =
            λ z.
            rw z
            (each (λ (o : Order). o.number ≡ next_number d → next_number d ≡ 0) (λ (o : Order). o.number ≡ next_number d → ⊥) (settle ts book)
            (λ o f e. new.real (f e)) (fresh_settle ts (next_number d) book (new_fresh (next_number d) book new)));
      }

  module _ (k : Allowed d a book) where
    abbrev after : List Order
    after = arranged (length book) (orders_then d a book (next_number d))

    abbrev resting : ℕ
    resting = resting_of (ended (a.quantity - filled ts) (rest_price a ts book))

    own_stands :
        Stands resting
        (record { side = a.side; account = a.account; left = a.quantity; price = rest_price a ts book; number = next_number d })
        after
    own_stands =
        arranged_stands (length book) (orders_then d a book (next_number d)) (orders_stand d a book s k) (orders_fit d a book s k) resting _
        new.real
        (rw (joined_rests d a book (next_number d) (settle ts book)) (own_among resting (rest_price a ts book) (rests_somewhere d a book)))

    -- no number is higher than its own
    highest : (i : ℕ) → i < length after → (get_or after i free).number ≤ next_number d
    highest i l =
        each_at (λ (o : Order). o.number ≤ next_number d) after free
        (each_arranged (λ (o : Order). o.number ≤ next_number d) (length book) (orders_then d a book (next_number d)) (omega (arith, free_number))
        (orders_highest d a book s k)) i l

    own_left : Incoming a (entry d a book) ts book after
    own_left =
        let f = entry_own_falls d a book new in
        let h = falls_last (next_number d) a.quantity ts f in
        record {
          falls = f;
          last = omega (arith, h.0, h.1, all_ends d a book, entry_own_filled d a book);
          stands = own_stands;
          behind = λ n i l live e p.
              let x = own_stands.some n in
              let there : (get_or after x.place free).number ≡ next_number d = ap (λ (o : Order). o.number) x.there in
              behind_equals after (before_ranked _ after (entered_before d a book s k)) i x.place l x.inside live
              (λ z. new.real (sym there ∙ z))
              (e ∙ sym (ap (λ (o : Order). o.side) x.there))
              (p ∙ sym (ap (λ (o : Order). o.price) x.there))
              (omega (arith, there, highest i l));
        }

  pub incoming_leaves :
      (lent : List Trade) (e : Entry)
      → (order_call d a book lent).answer.reply ≡ OrderReply.TheVariants.Accepted e
      → Incoming a e (take (order_call d a book lent).answer.made (order_call d a book lent).trades) book (order_call d a book lent).book
  unfolding entered written
  incoming_leaves lent e =
      accepted_cases d a book lent e (λ x o. Incoming a x (take o.answer.made o.trades) book o.book)
      (λ k. rw (take_at ts (drop (length ts) lent) (length ts) refl) (own_left k))

-- ---- a move of the clock

module _ (d : Day) (t : ℕ) (book : List Order) (s : Standing book) where
  abbrev auctioned : List Trade
  auctioned = auction_trades d book

  -- at most one auction has trades
  moved_falls : EachFalls (moved d t book).trades book
  moved_falls = rw (moved_trades d t book s) (go (any (λ x. is_auction x d) (passed d.time t)))
    where
      go : (b : Bool) → EachFalls (cond b auctioned []) book
      go true = auction_falls book s d
      go false = no_falls book

  pub clock_leaves_lem :
      (lent : List Trade)
      → EachFalls (take (clock_call d t book lent).answer.made (clock_call d t book lent).trades) book
  unfolding written
  clock_leaves_lem lent =
      clock_cases d t book lent (λ o. EachFalls (take o.answer.made o.trades) book)
      (λ _.
      rw (take_at (moved d t book).trades (drop (length (moved d t book).trades) lent) (length (moved d t book).trades) refl) moved_falls)
      (λ _. no_falls book)

  moved_stands : d.time ≤ t → t < 54_000 → EachStands (moved d t book).trades book (moved d t book).book
  unfolding start
  moved_stands l c =
      ⊎_elim (λ e. rw e (no_trade_stands book s))
      (λ x.
      rw (x.orders, x.trades)
      (all_stand (length book) (settle auctioned book) (standing_settle auctioned book s) (settled_fit book s d) auctioned book
      (settled_stands auctioned book s (auction_falls book s d))))
      (up_to_close d book s t l c)

  pub clock_stands :
      (lent : List Trade)
      → t < 54_000
      → EachStands (take (clock_call d t book lent).answer.made (clock_call d t book lent).trades) book (clock_call d t book lent).book
  unfolding written
  clock_stands lent c =
      clock_cases d t book lent (λ o. EachStands (take o.answer.made o.trades) book o.book)
      (λ z.
      rw (take_at (moved d t book).trades (drop (length (moved d t book).trades) lent) (length (moved d t book).trades) refl)
      (moved_stands (in_time d t book lent z).0 c))
      (λ _. no_trade_stands book s)
