-- An order: the same trades in both books, and what rests joins the same orders, at the lowest free place or in its turn.
use Rattle.std.specs.Prelude.{if◌then◌else◌}
use Prim.Native.Nat.{ℕ, zero, suc, ◌+◌, ◌-◌, ◌≤◌, ◌<◌}
use mathlib.Core.Path.{◌≡◌, refl, sym, ap, ◌∙◌}
use mathlib.Core.Bool.{Bool, true, false, cond, ◌||◌}
use mathlib.Core.List.{List, ◌∷◌, ◌++◌}
use native.Mathlib.Omega.{arith}
use lib.ListN.{length, replicate}
use lib.Dec.{eqb}
use borrow.Author.Tests.{eqb-true, eq-eqb}
use Rattle.model.specs.declared.Order.{Order}
use Rattle.model.specs.declared.Asked.{Asked}
use Rattle.model.specs.declared.Trade.{Trade}
use Rattle.model.specs.declared.Day.{Day}
use Rattle.model.specs.Lists.{all}
use Rattle.model.specs.Book.{free, is_live, stands_on, insert, queue, arranged}
use Rattle.model.specs.Matching.{settle, filled}
use Rattle.model.specs.Figures.{next_number}
use Rattle.model.specs.Entry.{entry_trades, rest_price}
use Rattle.model.specs.Refusals.{first_of}
use Rattle.model.specs.Calls.{order_rules, joined, entered, order_call}
use Rattle.model.proofs.Bools.{and_both, not_both}
use Rattle.model.specs.Words.{Each, Sound}
use Rattle.book.specs.Standing.{Fair, Standing}
use Rattle.book.proofs.Lists.{each, each_parts, keep_true, keep_false}
use Rattle.book.proofs.Queues.{number_live, queue_length}
use Rattle.book.proofs.Best.{each_on}
use Rattle.book.proofs.Kept.{New, new_fresh, fresh_settle, standing_settle}
use Rattle.book.proofs.Counting.{orders, queues_orders, not_full, has_room, fewer_orders}
use Rattle.book.proofs.Parts.{not_here, spare_in, arranged_is}
use Rattle.book.proofs.Arranging.{queue_with}
use Rattle.soundness.proofs.SoundDays.{sound_day, day_stands, next_new}
use Rattle.demands.specs.Older.{rest, older_placed, older_rules, older_entered, older_order_call}
use Rattle.demands.proofs.Settled.{settle_length}
use Rattle.demands.proofs.Entered.{Allowed, allowed}
use Rattle.demands.proofs.SameQueues.{Alike, entry_alike, rest_alike, base_alike, update_alike}
use Rattle.demands.proofs.LowestPlace.{rest_length, rest_stands, rest_queue}
use Rattle.demands.proofs.Twins.{either, Twin, Agree, twin_of, twin_stands, twin_length, twin_alike, twin_full, settled_alike, settled_twin}
use Rattle.demands.proofs.OlderSound.{older_day, older_sound, newer_sound}

-- ---- an order more, where there is room: it stands in the arranged book

module _ (n : ℕ) (x : Order) (os : List Order) (f : Each Fair os) (room : orders os < n) where
  longer : (side : ℕ) → stands_on side x ≡ true → length (queue side (x ∷ os)) ≡ suc (length (queue side os))
  longer side e =
      queue_length side (x ∷ os)
      ∙ ap length (keep_true (stands_on side) x os e)
      ∙ ap suc (sym (queue_length side os))

  as_long : (side : ℕ) → stands_on side x ≡ false → length (queue side (x ∷ os)) ≡ length (queue side os)
  as_long side e =
      queue_length side (x ∷ os)
      ∙ ap length (keep_false (stands_on side) x os e)
      ∙ sym (queue_length side os)

  fit : length (queue 0 (x ∷ os)) + length (queue 1 (x ∷ os)) ≤ n
  fit = go (stands_on 0 x) refl (stands_on 1 x) refl
    where
      go :
          (a : Bool)
          → stands_on 0 x ≡ a
          → (b : Bool)
          → stands_on 1 x ≡ b
          → length (queue 0 (x ∷ os)) + length (queue 1 (x ∷ os)) ≤ n
      go true e true g = absurd (not_both g (not_here 0 1 x (λ z. omega arith) e))
      go true e false g = omega (arith, longer 0 e, as_long 1 g, queues_orders os f)
      go false e true g = omega (arith, as_long 0 e, longer 1 g, queues_orders os f)
      go false e false g = omega (arith, as_long 0 e, as_long 1 g, queues_orders os f)

  first_has :
      (P : Order → Type 0) (side : ℕ)
      → side ≤ 1
      → stands_on side x ≡ true
      → Each P (arranged n (x ∷ os))
      → P x
  first_has P side l e h = go side l e
    where
      parts : Each P (queue 0 (x ∷ os)) × Each P (queue 1 (x ∷ os) ++ replicate (spare_in n (x ∷ os) fit) free)
      parts =
          each_parts P (queue 0 (x ∷ os)) (queue 1 (x ∷ os) ++ replicate (spare_in n (x ∷ os) fit) free)
          (rw (arranged_is n (x ∷ os) fit) at h)

      go : (side : ℕ) → side ≤ 1 → stands_on side x ≡ true → P x
      go zero l e = (each_on P 0 (x ∷ os) parts.0).0 e
      go (suc zero) l e =
          (each_on P 1 (x ∷ os)
          (each_parts P (queue 1 (x ∷ os)) (replicate (spare_in n (x ∷ os) fit) free) parts.1).0
          ).0
          e
      go (suc (suc side)) l e = absurd (omega arith)

-- ---- it rests

new_settled : (ts : List Trade) (n : ℕ) (book : List Order) → New n book → New n (settle ts book)
new_settled ts n book w =
    record {
      real = w.real;
      fresh =
          each (λ (y : Order). y.number ≡ n → n ≡ 0) (λ (y : Order). y.number ≡ n → ⊥) (settle ts book)
          (λ y f e. w.real (f e)) (fresh_settle ts n book (new_fresh n book w));
    }

alike_with : (x : Order) (o c : List Order) → Alike o c → Alike (x ∷ o) (x ∷ c)
alike_with x o c e side =
    queue_with side x o
    ∙ ap (λ (q : List Order). if stands_on side x then insert side x q else q) (e side)
    ∙ sym (queue_with side x c)

still_room : (ts : List Trade) (os : List Order) → all is_live os ≡ false → orders (settle ts os) < length os
still_room ts os e = omega (arith, fewer_orders ts os, has_room os e)

rested_twin :
    {n : ℕ} {o c : List Order} (ts : List Trade) (x : Order)
    → Twin n o c
    → Fair x
    → New x.number o
    → all is_live o ≡ false
    → Twin n (rest x (settle ts o)) (arranged n (x ∷ settle ts c))
rested_twin {n} {o} {c} ts x t f w e =
    let s : Standing (settle ts o) = standing_settle ts o t.stands in
    let new : New x.number (settle ts o) = new_settled ts x.number o w in
    let room : all is_live (settle ts o) ≡ false =
    not_full (settle ts o) (omega (arith, still_room ts o e, settle_length ts o))
    in
    twin_of (rest x (settle ts o)) (x ∷ settle ts c) (rest_stands x (settle ts o) f new s)
    (rest_length x (settle ts o) ∙ settle_length ts o ∙ t.long)
    (λ side.
    sym (alike_with x (settle ts o) (settle ts c) (settled_alike ts o c t.stands (twin_stands t) (twin_alike t)) side)
    ∙ sym (rest_queue side x (settle ts o) s f new room))

-- ---- the call

module _ {n : ℕ} {o c : List Order} (d : Day) (a : Asked) (lent : List Trade) (t : Twin n o c) (s : Sound d c) where
  abbrev refusal : ℕ
  refusal = first_of (order_rules d a c (length lent))

  same_refusal : first_of (older_rules d o (order_rules d a o (length lent))) ≡ refusal
  unfolding older_rules order_rules
  same_refusal =
      rw (
        older_sound d t s,
        newer_sound d t s,
        base_alike o c (twin_alike t) d a.side,
        twin_full t,
        entry_alike o c (twin_alike t) d a,
      )

  module _ (z : refusal ≡ 0) (kept : Sound (entered d a c lent).answer.day (entered d a c lent).book) where
    may : Allowed d a c
    may = allowed d a c lent z

    abbrev ts : List Trade
    ts = entry_trades d a c

    abbrev q : ℕ
    q = a.quantity - filled ts

    abbrev p : ℕ
    p = rest_price a ts c

    abbrev new : Order
    new = record { side = a.side; account = a.account; left = q; price = p; number = next_number d }

    rests : (eqb q 0 || eqb p 0) ≡ false → (entered d a c lent).book ≡ arranged n (new ∷ settle ts c)
    unfolding entered joined
    rests e = rw (e, twin_length t)

    new_on : stands_on a.side new ≡ true
    unfolding stands_on next_number
    new_on = and_both (number_live new (λ e. omega arith)) (eq-eqb a.side a.side refl)

    new_fair : (eqb q 0 || eqb p 0) ≡ false → Fair new
    new_fair e =
        first_has n new (settle ts c) (standing_settle ts c (twin_stands t)).fair
        (omega (arith, still_room ts c may.place, twin_length t))
        Fair
        a.side
        may.side
        new_on
        (rw (rests e) at (day_stands _ _ (sound_day _ _ kept.1)).fair)

    placed_twin :
        Twin n (older_placed a (next_number d) q p (settle ts o)) (arranged n (joined a (next_number d) q p (settle ts c)))
    unfolding older_placed joined
    placed_twin = go (eqb q 0 || eqb p 0) refl
      where
        go :
            (b : Bool)
            → (eqb q 0 || eqb p 0) ≡ b
            → Twin n (cond b (settle ts o) (rest new (settle ts o))) (arranged n (cond b (settle ts c) (new ∷ settle ts c)))
        go true e = settled_twin ts t
        go false e = rested_twin ts new t (new_fair e) (next_new d o (older_day d t s)) (twin_full t ∙ may.place)

    entered_alike : Agree n (older_entered d a o lent) (entered d a c lent)
    unfolding older_entered entered
    entered_alike =
        rw (entry_alike o c (twin_alike t) d a, rest_alike o c (twin_alike t) a ts, twin_length t)
        (record { answer = rw (update_alike _ _ (twin_alike placed_twin) ts _); book = placed_twin; trades = refl })

  pub older_order_lem :
      Sound (order_call d a c lent).answer.day (order_call d a c lent).book
      → Agree n (older_order_call d a o lent) (order_call d a c lent)
  unfolding older_order_call order_call
  older_order_lem kept =
      rw same_refusal
      (either (Agree n) (eqb refusal 0) (λ e. entered_alike (eqb-true refusal 0 e) (rw e at kept))
      (record { answer = refl; book = t; trades = refl }))
