-- The walk along one side of an auction: what it has taken at each price, and what is still to come.
use Prim.Native.Nat.{ℕ, ◌+◌, ◌-◌, ◌≤◌, ◌<◌}
use mathlib.Core.Path.{◌≡◌, refl, sym, ap, ◌∙◌}
use mathlib.Core.Bool.{Bool, true, false, cond}
use mathlib.Core.List.{List, [], ◌∷◌}
use mathlib.Core.Logic.{◌⊎◌, inl, inr}
use native.Mathlib.Decide.{dec_lt}
use native.Mathlib.Omega.{arith}
use lib.ListN.{length, get_or, take}
use borrow.Author.Tests.{le-leb}
use Rattle.model.specs.declared.Order.{Order}
use Rattle.model.specs.Lists.{keep, total}
use Rattle.model.specs.Book.{stands_on, ahead, queue, free}
use Rattle.model.specs.Matching.{meets}
use Rattle.model.specs.Auction.{shares_of}
use Rattle.model.proofs.Bools.{not_both}
use Rattle.book.specs.declared.Head.{Head}
use Rattle.model.specs.Words.{Each}
use Rattle.book.specs.Standing.{Standing, Ranked}
use Rattle.book.specs.Lines.{line}
use Rattle.book.specs.Heads.{head_of, head_past, as_order, waiting}
use Rattle.book.proofs.Lists.{each, keep_keep, total_kept, total_zero}
use Rattle.book.proofs.Queues.{total_queue}
use Rattle.book.proofs.Best.{InTurn, queue_in_turn}
use Rattle.book.proofs.Lines.{line_end, line_cons}
use Rattle.book.proofs.Waiting.{some_left, waiting_some, waiting_none, then_waiting, then_some, then_next, less}
use Rattle.auction.specs.Interest.{trades_for, interest}
use Rattle.auction.specs.Walks.{reach}
use Rattle.auction.proofs.Sides.{interest_bound}
use Rattle.auction.proofs.Crossing.{ahead_meets}

-- ---- what trades at a price

pub interest_reach : (book : List Order) (side p : ℕ) → interest book side p ≡ reach side p (queue side book)
unfolding interest shares_of trades_for reach
interest_reach book side p =
    ap (total (λ o. o.left)) (sym (keep_keep (λ o. meets side o.price p) (stands_on side) book))
    ∙ total_kept (λ o. o.left) (λ o. meets side o.price p) (keep (stands_on side) book)
    ∙ sym (total_queue (λ o. cond (meets side o.price p) o.left 0) side book)

pub reach_nobody : (side p : ℕ) → reach side p [] ≡ 0
unfolding reach total
reach_nobody side p = refl

pub reach_next : (side p : ℕ) (o : Order) (os : List Order) → reach side p (o ∷ os) ≡ cond (meets side o.price p) o.left 0 + reach side p os
unfolding reach total
reach_next side p o os = refl

reach_head : (side p : ℕ) (h : Head) (os : List Order) → reach side p (as_order h ∷ os) ≡ cond (meets side h.price p) h.left 0 + reach side p os
unfolding reach total as_order
reach_head side p h os = refl

-- ---- prices that get no better

-- x is no better than m: whoever trades at it trades at m
abbrev pub NoBetter : ℕ → ℕ → ℕ → Type 0
NoBetter side m x = (p : ℕ) → meets side x p ≡ true → meets side m p ≡ true

abbrev pub Falls : ℕ → List Order → Type 0
Falls side [] = Unit {0}
Falls side (o ∷ os) = Each (λ x. NoBetter side o.price x.price) os × Falls side os

in_turn_falls : (side : ℕ) (os : List Order) → InTurn side os → Falls side os
in_turn_falls side [] t = tt
in_turn_falls side (o ∷ os) t = (
  each (λ x. ahead side o x ≡ true) (λ x. NoBetter side o.price x.price) os (λ x a p. ahead_meets side o x p a) t.0,
  in_turn_falls side os t.1,
)

pub queue_falls : (side : ℕ) (book : List Order) → Standing book → Falls side (queue side book)
queue_falls side book s = in_turn_falls side (queue side book) (queue_in_turn side book s)

-- nobody no better than m trades where m does not
pub none_reach :
    (side m p : ℕ) (os : List Order)
    → meets side m p ≡ false
    → Each (λ x. NoBetter side m x.price) os
    → reach side p os ≡ 0
unfolding reach
none_reach side m p os e f =
    total_zero (λ o. cond (meets side o.price p) o.left 0) os
    (each (λ x. NoBetter side m x.price) (λ o. cond (meets side o.price p) o.left 0 ≡ 0) os
    (λ o n. go o (meets side o.price p) refl n) f)
  where
    go : (o : Order) (b : Bool) → meets side o.price p ≡ b → NoBetter side m o.price → cond b o.left 0 ≡ 0
    go o true g n = absurd (not_both (n p g) e)
    go o false g n = refl

-- ---- along a line

head_waits : (at : ℕ) (o : Order) (os behind : List Order) → 1 ≤ o.left → waiting (head_of at (o ∷ os)) behind ≡ as_order (record { at = at; number = o.number; price = o.price; left = o.left }) ∷ behind
unfolding head_of
head_waits at o os behind l = waiting_some (head_of at (o ∷ os)) behind l

nobody_waits : (at : ℕ) (behind : List Order) → waiting (head_of at []) behind ≡ behind
unfolding head_of
nobody_waits at behind = waiting_none (head_of at []) behind (omega arith)

module _ (end : ℕ) (rows : List Order) (short : end ≤ length rows) (full : Each (λ o. 1 ≤ o.left) (take end rows)) where
  -- a line goes on with its first order, or has ended
  abbrev pub Goes : ℕ → Type 0
  Goes at =
      ((line at end rows ≡ []) × (waiting (head_of at (line at end rows)) (line (at + 1) end rows) ≡ []))
      ⊎ ((o : Order)
      × (line at end rows ≡ o ∷ line (at + 1) end rows)
      × (waiting (head_of at (line at end rows)) (line (at + 1) end rows)
      ≡ as_order (record { at = at; number = o.number; price = o.price; left = o.left }) ∷ line (at + 1) end rows))

  pub goes : (at : ℕ) → Goes at
  goes at = elim (dec_lt at end) [
    | yes l ↦
        let o : Order = get_or rows at free in
        let e : line at end rows ≡ o ∷ line (at + 1) end rows = line_cons at end rows l short refl in
        let f : Each (λ o. 1 ≤ o.left) (o ∷ line (at + 1) end rows) = rw e at (some_left end rows short full at) in
        inr (o, e, first o e f.0)
    | no l ↦
        let e : line at end rows ≡ [] = line_end at end rows (omega arith) in
        let f : line (at + 1) end rows ≡ [] = line_end (at + 1) end rows (omega arith) in
        inl (e, last e f)
  ]
    where
      first :
          (o : Order)
          → line at end rows ≡ o ∷ line (at + 1) end rows
          → 1 ≤ o.left
          → waiting (head_of at (line at end rows)) (line (at + 1) end rows)
          ≡ as_order (record { at = at; number = o.number; price = o.price; left = o.left }) ∷ line (at + 1) end rows
      first o e l =
          ap (λ (x : List Order). waiting (head_of at x) (line (at + 1) end rows)) e
          ∙ head_waits at o (line (at + 1) end rows) (line (at + 1) end rows) l

      last :
          line at end rows ≡ []
          → line (at + 1) end rows ≡ []
          → waiting (head_of at (line at end rows)) (line (at + 1) end rows) ≡ []
      last e f =
          ap (λ (x : List Order). waiting (head_of at x) (line (at + 1) end rows)) e
          ∙ nobody_waits at (line (at + 1) end rows)
          ∙ f

  -- so it trades the same, and its prices get no better
  all_reach : (side p at : ℕ) → reach side p (waiting (head_of at (line at end rows)) (line (at + 1) end rows)) ≡ reach side p (line at end rows)
  all_reach side p at = go (goes at)
    where
      go : Goes at → reach side p (waiting (head_of at (line at end rows)) (line (at + 1) end rows)) ≡ reach side p (line at end rows)
      go (inl k) = ap (reach side p) (k.1 ∙ sym k.0)
      go (inr k) =
          ap (reach side p) k.2
          ∙ reach_head side p (record { at = at; number = k.0.number; price = k.0.price; left = k.0.left }) (line (at + 1) end rows)
          ∙ sym (ap (reach side p) k.1 ∙ reach_next side p k.0 (line (at + 1) end rows))

  all_falls : (side at : ℕ) → Falls side (line at end rows) → Falls side (waiting (head_of at (line at end rows)) (line (at + 1) end rows))
  all_falls side at f = go (goes at)
    where
      go : Goes at → Falls side (waiting (head_of at (line at end rows)) (line (at + 1) end rows))
      go (inl k) = rw k.1 tt
      go (inr k) =
          let g : Falls side (k.0 ∷ line (at + 1) end rows) = rw k.1 at f in
          rw k.2 (unfold as_order in g)

  all_worse :
      (side m at : ℕ)
      → Each (λ x. NoBetter side m x.price) (line at end rows)
      → Each (λ x. NoBetter side m x.price) (waiting (head_of at (line at end rows)) (line (at + 1) end rows))
  all_worse side m at f = go (goes at)
    where
      go : Goes at → Each (λ x. NoBetter side m x.price) (waiting (head_of at (line at end rows)) (line (at + 1) end rows))
      go (inl k) = rw k.1 tt
      go (inr k) =
          let g : Each (λ x. NoBetter side m x.price) (k.0 ∷ line (at + 1) end rows) = rw k.1 at f in
          rw k.2 (unfold as_order in g)

-- ---- what the walk has taken of a side

-- so many shares are taken, the last of them at the price m; h is the head
pub record Taken (side : ℕ) (queue : List Order) (end : ℕ) (rows : List Order) (shares m : ℕ) (h : Head) : Type 0 where
  pub taken : ℕ → ℕ
  pub adds : (p : ℕ) → reach side p queue ≡ taken p + reach side p (waiting h (line (h.at + 1) end rows))
  pub all : (p : ℕ) → p ≤ 1_000_000 → meets side m p ≡ true → taken p ≡ shares
  pub less : (p : ℕ) → p ≤ 1_000_000 → meets side m p ≡ false → taken p < shares
  pub worse : Each (λ x. NoBetter side m x.price) (waiting h (line (h.at + 1) end rows))
  pub falls : Falls side (waiting h (line (h.at + 1) end rows))

module _ (side end : ℕ) (queue : List Order) (rows : List Order) (short : end ≤ length rows) (full : Each (λ o. 1 ≤ o.left) (take end rows)) where
  pub taken_start :
      (at m : ℕ) {h : Head}
      → line at end rows ≡ queue
      → Falls side queue
      → ((p : ℕ) → p ≤ 1_000_000 → meets side m p ≡ true)
      → Each (λ x. NoBetter side m x.price) queue
      → h ≡ head_of at (line at end rows)
      → h.at ≡ at
      → Taken side queue end rows 0 m h
  taken_start at m {h} e f every worse g place =
      let same : waiting h (line (h.at + 1) end rows) ≡ waiting (head_of at (line at end rows)) (line (at + 1) end rows) =
      ap (λ (n : ℕ). waiting h (line (n + 1) end rows)) place ∙ ap (λ (x : Head). waiting x (line (at + 1) end rows)) g
      in
      record {
        taken = λ p. 0;
        adds = λ p. ap (reach side p) (sym e) ∙ sym (ap (reach side p) same ∙ all_reach end rows short full side p at) ∙ omega arith;
        all = λ p k t. refl;
        less = λ p k t. absurd (not_both (every p k) t);
        worse = rw same (all_worse end rows short full side m at (rw (sym e) at worse));
        falls = rw same (all_falls end rows short full side at (rw (sym e) at f));
      }

  module _ {shares m : ℕ} {h : Head} (t : Taken side queue end rows shares m h) (some : 0 < h.left) where
    abbrev os : List Order
    os = line (h.at + 1) end rows

    now : waiting h os ≡ as_order h ∷ os
    now = waiting_some h os some

    now_falls : Each (λ x. NoBetter side h.price x.price) os × Falls side os
    now_falls = unfold as_order in (rw now at t.falls)

    now_worse : NoBetter side m h.price
    now_worse = unfold as_order in (rw now at t.worse).0

    module _ (q : ℕ) (fits : q ≤ h.left) (one : 1 ≤ q) where
      next_reach : (p : ℕ) → reach side p (waiting h os) ≡ cond (meets side h.price p) q 0 + reach side p (then_waiting end rows short full q h)
      next_reach p = elim (dec_lt q h.left) [
        | yes l ↦
            ap (reach side p) now
            ∙ reach_head side p h os
            ∙ split (meets side h.price p) (reach side p os) l
            ∙ ap (λ n. cond (meets side h.price p) q 0 + n) (sym (ap (reach side p) (then_some end rows short full q h l) ∙ reach_head side p (less end rows short full q h) os))
        | no l ↦
            let same : h.left ≡ q = omega arith in
            ap (reach side p) now
            ∙ reach_head side p h os
            ∙ ap (λ n. cond (meets side h.price p) n 0 + reach side p os) same
            ∙ ap (λ n. cond (meets side h.price p) q 0 + n) (sym (ap (reach side p) (then_next end rows short full q h (omega arith)) ∙ all_reach end rows short full side p (h.at + 1)))
      ]
        where
          split : (b : Bool) (n : ℕ) → q < h.left → cond b h.left 0 + n ≡ cond b q 0 + (cond b (h.left - q) 0 + n)
          split true n l = omega arith
          split false n l = omega arith

      next_falls : Falls side (then_waiting end rows short full q h)
      next_falls = elim (dec_lt q h.left) [
        | yes l ↦ rw (then_some end rows short full q h l) (unfold as_order in now_falls)
        | no l ↦ rw (then_next end rows short full q h (omega arith)) (all_falls end rows short full side (h.at + 1) now_falls.1)
      ]

      next_worse : Each (λ x. NoBetter side h.price x.price) (then_waiting end rows short full q h)
      next_worse = elim (dec_lt q h.left) [
        | yes l ↦ rw (then_some end rows short full q h l) (unfold as_order in (λ p e. e, now_falls.0))
        | no l ↦ rw (then_next end rows short full q h (omega arith)) (all_worse end rows short full side h.price (h.at + 1) now_falls.0)
      ]

      pub taken_next : {h' : Head} {n : ℕ} → h' ≡ head_past q h os → n ≡ shares + q → Taken side queue end rows n h.price h'
      taken_next e f =
          rw (e, f)
          (record {
            taken = λ p. t.taken p + cond (meets side h.price p) q 0;
            adds = λ p. t.adds p ∙ ap (λ n. t.taken p + n) (next_reach p) ∙ omega arith;
            all = λ p k g. rw g (omega (arith, t.all p k (now_worse p g)));
            less = λ p k g. rw g (fewer p k (meets side m p) refl);
            worse = next_worse;
            falls = next_falls;
          })
        where
          fewer : (p : ℕ) → p ≤ 1_000_000 → (b : Bool) → meets side m p ≡ b → t.taken p + 0 < shares + q
          fewer p k true g = omega (arith, t.all p k g)
          fewer p k false g = omega (arith, t.less p k g)

-- ---- where it stops

pub record Stops (side : ℕ) (book : List Order) (shares m : ℕ) (h : Head) : Type 0 where
  pub at_least_lem : (p : ℕ) → p ≤ 1_000_000 → meets side m p ≡ true → shares ≤ interest book side p
  pub below : (p : ℕ) → p ≤ 1_000_000 → meets side m p ≡ false → interest book side p < shares
  pub at_most : (p : ℕ) → p ≤ 1_000_000 → (0 < h.left → meets side h.price p ≡ false) → interest book side p ≤ shares
  pub above : (p : ℕ) → p ≤ 1_000_000 → 0 < h.left → meets side h.price p ≡ true → shares < interest book side p

module _ (side : ℕ) (book : List Order) (end : ℕ) (rows : List Order) {shares m : ℕ} {h : Head} (t : Taken side (queue side book) end rows shares m h) (placed : ((0 < h.left) × (h.at < end)) ⊎ ((h.left ≡ 0) × (end ≤ h.at))) where
  abbrev rest : List Order
  rest = waiting h (line (h.at + 1) end rows)

  pub total_at : (p : ℕ) → interest book side p ≡ t.taken p + reach side p rest
  total_at p = interest_reach book side p ∙ t.adds p

  most_taken : (p : ℕ) → p ≤ 1_000_000 → t.taken p ≤ shares
  most_taken p k = go (meets side m p) refl
    where
      go : (b : Bool) → meets side m p ≡ b → t.taken p ≤ shares
      go true g = omega (arith, t.all p k g)
      go false g = omega (arith, t.less p k g)

  pub nobody : h.left ≡ 0 → end ≤ h.at → rest ≡ []
  nobody z l = waiting_none h (line (h.at + 1) end rows) (omega arith) ∙ line_end (h.at + 1) end rows (omega arith)

  pub here : 0 < h.left → rest ≡ as_order h ∷ line (h.at + 1) end rows
  here l = waiting_some h (line (h.at + 1) end rows) l

  no_more : (p : ℕ) → (0 < h.left → meets side h.price p ≡ false) → reach side p rest ≡ 0
  no_more p f = go placed
    where
      go : ((0 < h.left) × (h.at < end)) ⊎ ((h.left ≡ 0) × (end ≤ h.at)) → reach side p rest ≡ 0
      go (inr z) = ap (reach side p) (nobody z.0 z.1) ∙ reach_nobody side p
      go (inl l) =
          let g : Falls side (as_order h ∷ line (h.at + 1) end rows) = rw (here l.0) at t.falls in
          ap (reach side p) (here l.0)
          ∙ reach_head side p h (line (h.at + 1) end rows)
          ∙ rw (f l.0, none_reach side h.price p (line (h.at + 1) end rows) (f l.0) (unfold as_order in g.0))

  pub stops : Stops side book shares m h
  stops =
      record {
        at_least_lem = λ p k e. omega (arith, total_at p, t.all p k e);
        below = λ p k e. omega (arith, total_at p, t.less p k e, none_reach side m p rest e t.worse);
        at_most = λ p k f. omega (arith, total_at p, most_taken p k, no_more p f);
        above = λ p k l e. further p k l e;
      }
    where
      further : (p : ℕ) → p ≤ 1_000_000 → 0 < h.left → meets side h.price p ≡ true → shares < interest book side p
      further p k l e =
          let w : Each (λ x. NoBetter side m x.price) (as_order h ∷ line (h.at + 1) end rows) = rw (here l) at t.worse in
          let no : NoBetter side m h.price = unfold as_order in w.0 in
          let r : reach side p rest ≡ h.left + reach side p (line (h.at + 1) end rows) =
          ap (reach side p) (here l) ∙ reach_head side p h (line (h.at + 1) end rows) ∙ rw e
          in
          omega (arith, total_at p, t.all p k (no p e))

-- the shares in all are those of the side
pub taken_fits :
    (book : List Order) (end : ℕ) (rows : List Order) {shares m : ℕ} {h : Head}
    → Ranked book
    → Taken 0 (queue 0 book) end rows shares m h
    → shares + reach 0 0 (waiting h (line (h.at + 1) end rows)) ≤ 4_096_000_000
taken_fits book end rows {shares} {m} {h} r t =
    let e : meets 0 m 0 ≡ true = unfold meets in le-leb 0 m (omega arith) in
    omega (arith, interest_reach book 0 0, t.adds 0, t.all 0 (omega arith) e, interest_bound book 0 0 r)

pub head_reach :
    (end : ℕ) (rows : List Order) (h : Head)
    → 0 < h.left
    → h.left ≤ reach 0 0 (waiting h (line (h.at + 1) end rows))
head_reach end rows h l =
    let e : meets 0 h.price 0 ≡ true = unfold meets in le-leb 0 h.price (omega arith) in
    let r : reach 0 0 (waiting h (line (h.at + 1) end rows)) ≡ h.left + reach 0 0 (line (h.at + 1) end rows) =
    ap (reach 0 0) (waiting_some h (line (h.at + 1) end rows) l) ∙ reach_head 0 0 h (line (h.at + 1) end rows) ∙ rw e
    in
    omega arith

-- a turn takes its shares from what is still to come
pub reach_falls :
    (end : ℕ) (rows : List Order) (short : end ≤ length rows) (full : Each (λ o. 1 ≤ o.left) (take end rows))
    {queue : List Order} {shares m : ℕ} {h h' : Head} {q : ℕ}
    → Taken 0 queue end rows shares m h
    → 0 < h.left
    → q ≤ h.left
    → 1 ≤ q
    → h' ≡ head_past q h (line (h.at + 1) end rows)
    → reach 0 0 (waiting h' (line (h'.at + 1) end rows)) < reach 0 0 (waiting h (line (h.at + 1) end rows))
reach_falls end rows short full {queue} {shares} {m} {h} {h'} {q} t some fits one e =
    let g : meets 0 h.price 0 ≡ true = unfold meets in le-leb 0 h.price (omega arith) in
    let r : reach 0 0 (waiting h (line (h.at + 1) end rows)) ≡ q + reach 0 0 (then_waiting end rows short full q h) =
    next_reach 0 end queue rows short full t some q fits one 0 ∙ rw g
    in
    rw e (omega arith)
