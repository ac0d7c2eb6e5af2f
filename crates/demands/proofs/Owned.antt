-- Whose the resting orders are: each is one of the accepted orders, with its number, account and side. Assumes nothing.
use Prim.Native.Nat.{ℕ, ◌-◌}
use mathlib.Core.Path.{◌≡◌, refl, sym, ◌∙◌}
use mathlib.Core.Logic.{inl}
use mathlib.Core.Bool.{Bool, true, false, cond, not, ◌||◌}
use mathlib.Core.List.{List, [], ◌∷◌, ◌++◌, append_assoc}
use lib.ListN.{length}
use lib.Dec.{ltb, eqb}
use Rattle.model.specs.declared.Event as Event
use Rattle.model.specs.declared.Order.{Order}
use Rattle.model.specs.declared.Asked.{Asked}
use Rattle.model.specs.declared.Trade.{Trade}
use Rattle.model.specs.declared.Day.{Day}
use Rattle.model.specs.Lists.{keep}
use Rattle.model.specs.Clock.{passed}
use Rattle.model.specs.Book.{free, arranged}
use Rattle.model.specs.Matching.{filled_of, less_by, settle}
use Rattle.model.specs.Figures.{next_number}
use Rattle.model.specs.Entry.{entry_trades}
use Rattle.model.specs.Calls.{is_own, cleared, joined, entered}
use Rattle.model.specs.ClockCall.{auction_trades, Held, auction, resume, lapse, pass, start, moved}
use Rattle.model.specs.Session.{Desk}
use Rattle.model.specs.Words.{Each, Some}
use Rattle.book.proofs.Lists.{each, every, each_keep}
use Rattle.book.proofs.Kept.{free_number}
use Rattle.model.proofs.Bools.{not_both}
use Rattle.model.proofs.Seconds.{pass_cases, through_keeps}
use Rattle.demands.specs.Running.{
  is_opening,
  Call,
  Owner,
  Is,
  owners_by,
  accepted_by,
  accepted,
  stepped_by,
  stepped,
  after,
  accepted_in,
}
use Rattle.demands.proofs.Cases.{order_cases, cancel_cases, clock_cases}
use Rattle.demands.proofs.Elements.{each_map, some_map, some_left, some_right}
use Rattle.book.proofs.Arranging.{each_arranged}

-- an order is one of these, where the place is not free
abbrev pub Known : List Owner → Order → Type 0
Known ws o = (o.number ≡ 0 → ⊥) → Some (Is o) ws

abbrev pub Owned : List Owner → List Order → Type 0
Owned ws book = Each (Known ws) book

module _ (ws : List Owner) where
  pub free_known : Known ws free
  free_known n = absurd (n free_number)

  pub more : (vs : List Owner) (book : List Order) → Owned ws book → Owned (ws ++ vs) book
  more vs book = each (Known ws) (Known (ws ++ vs)) book (λ o h n. some_left (Is o) ws vs (h n))

  -- ---- trades, a lapse, a cancel

  -- an order with the same number, account and side
  same_known :
      (o p : Order) → o.number ≡ p.number → o.account ≡ p.account → o.side ≡ p.side → Known ws o → Known ws p
  same_known o p e f g h n =
      some_map
      (λ w (i : Is o w). record { number = i.number ∙ e; account = i.account ∙ f; side = i.side ∙ g })
      ws
      (h (λ z. n (sym e ∙ z)))

  less_known : (q : ℕ) (o : Order) → Known ws o → Known ws (less_by q o)
  unfolding less_by
  less_known q o h = go (ltb q o.left)
    where
      go : (b : Bool) → Known ws (cond b (record { side = o.side; account = o.account; left = o.left - q; price = o.price; number = o.number }) free)
      go true = same_known o _ refl refl refl h
      go false = free_known

  pub settle_owned : (ts : List Trade) (book : List Order) → Owned ws book → Owned ws (settle ts book)
  unfolding settle
  settle_owned ts book w =
      each_map (Known ws) (λ (o : Order). less_by (filled_of o.number ts) o) book
      (each (Known ws) (λ o. Known ws (less_by (filled_of o.number ts) o)) book (λ o h. less_known (filled_of o.number ts) o h) w)

  pub cleared_owned : (book : List Order) → Owned ws (cleared book)
  unfolding cleared
  cleared_owned book = each_map (Known ws) (λ (_ : Order). free) book (every (λ (_ : Order). Known ws free) book (λ _. free_known))

  arranged_owned : (n : ℕ) (os : List Order) → Owned ws os → Owned ws (arranged n os)
  arranged_owned n os = each_arranged (Known ws) n os free_known

  kept_owned : (p : Order → Bool) (book : List Order) → Owned ws book → Owned ws (arranged (length book) (keep p book))
  kept_owned p book w = arranged_owned (length book) (keep p book) (each_keep (Known ws) p book w)

  -- ---- a move of the clock

  auction_owned : (h : Held) → Owned ws h.book → Owned ws (auction h).book
  unfolding auction
  auction_owned h w =
      let ts = auction_trades h.day h.book in
      arranged_owned (length h.book) (settle ts h.book) (settle_owned ts h.book w)

  pass_owned : (s : ℕ) (h : Held) → Owned ws h.book → Owned ws (pass s h).book
  unfolding resume lapse
  pass_owned s h w =
      pass_cases (λ k. Owned ws k.book) s h (λ _. auction_owned h w) (λ _. auction_owned h w) (λ _. cleared_owned (auction h).book)
      (λ _ _ _. w)

  pub moved_owned : (d : Day) (t : ℕ) (book : List Order) → Owned ws book → Owned ws (moved d t book).book
  unfolding moved start
  moved_owned d t book w = through_keeps (λ k. Owned ws k.book) pass_owned (passed d.time t) (start d book) w

-- ---- an order

module _ (ws : List Owner) (d : Day) (a : Asked) (book : List Order) (w : Owned ws book) where
  abbrev ts : List Trade
  ts = entry_trades d a book

  abbrev newest : Owner
  newest = record { number = next_number d; account = a.account; side = a.side }

  entered_owned :
      (q p : ℕ) → Owned (ws ++ (newest ∷ [])) (arranged (length book) (joined a (next_number d) q p (settle ts book)))
  unfolding joined
  entered_owned q p = arranged_owned (ws ++ (newest ∷ [])) (length book) _ (go (eqb q 0 || eqb p 0))
    where
      rested : Order
      rested = record { side = a.side; account = a.account; left = q; price = p; number = next_number d }

      settled : Owned (ws ++ (newest ∷ [])) (settle ts book)
      settled = more ws (newest ∷ []) (settle ts book) (settle_owned ws ts book w)

      known : Known (ws ++ (newest ∷ [])) rested
      known n = some_right (Is rested) ws (newest ∷ []) (inl (record { number = refl; account = refl; side = refl }))

      go : (b : Bool) → Owned (ws ++ (newest ∷ [])) (cond b (settle ts book) (rested ∷ settle ts book))
      go true = settled
      go false = (known, settled)

-- ---- events and runs

pub event_owned :
    (ws : List Owner) (e : Event.Event) → is_opening e ≡ false → (lent : List Trade) (s : Desk)
    → Owned ws s.book
    → Owned (ws ++ accepted_by e lent s) (stepped_by e lent s).book
unfolding is_opening stepped_by accepted_by owners_by entered
event_owned ws (Event.TheVariants.Open close mark) o lent s w = absurd (not_both refl o)
event_owned ws (Event.TheVariants.Clock t) o lent s w =
    clock_cases s.day t s.book lent (λ o. Owned (ws ++ []) o.book)
    (λ _. more ws [] (moved s.day t s.book).book (moved_owned ws s.day t s.book w))
    (λ _. more ws [] s.book w)
event_owned ws (Event.TheVariants.Order a) o lent s w =
    order_cases s.day a s.book lent (λ o. Owned (ws ++ owners_by a o.answer.reply) o.book)
    (λ _. entered_owned ws s.day a s.book w _ _)
    (λ _. more ws [] s.book w)
event_owned ws (Event.TheVariants.Cancel account number) o lent s w =
    cancel_cases s.day account number s.book (λ o. Owned (ws ++ []) o.book)
    (λ _. kept_owned (ws ++ []) (λ o. not (is_own account number o)) s.book (more ws [] s.book w))
    (λ _. more ws [] s.book w)

pub run_owned : (ws : List Owner) (es : List Call) (s : Desk) → Owned ws s.book → Owned (ws ++ accepted_in es s) (after es s).book
unfolding after accepted_in
run_owned ws [] s w = more ws [] s.book w
run_owned ws (e ∷ es) s w =
    rw (← append_assoc ws (accepted e s) (accepted_in es (stepped e s)))
    (run_owned (ws ++ accepted e s) es (stepped e s) (event_owned ws e.event e.within e.lent s w))
