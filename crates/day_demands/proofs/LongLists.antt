-- A trade list that is long enough: a fixed-price order has at most as many trades as its book has places, a declaration has one, and a
-- move as many as all lists together. Assumes nothing.
use Prim.Native.Nat.{ℕ, ◌+◌, ◌-◌, ◌≤◌}
use mathlib.Core.Path.{◌≡◌, refl, sym, ap, ◌∙◌}
use mathlib.Core.Bool.{Bool, true, false, cond, not, ◌&&◌, ◌||◌}
use mathlib.Core.List.{List, [], ◌∷◌, ◌++◌}
use native.Mathlib.Decide.{dec_le}
use native.Mathlib.Omega.{arith}
use lib.ListN.{length, length-append, length-map}
use lib.Dec.{leb, ltb, eqb}
use borrow.Author.Tests.{le-ltb, leb-true, ltb-false}
use Rattle.model.specs.declared.Order.{Order}
use Rattle.model.specs.declared.Declaration.{Declaration}
use Rattle.model.specs.declared.AskedFixed.{AskedFixed}
use Rattle.model.specs.declared.AskedBlock.{AskedBlock}
use Rattle.model.specs.declared.Trade.{Trade}
use Rattle.model.specs.declared.Day.{Day}
use Rattle.model.specs.declared.BlockReply as BlockReply
use Rattle.model.specs.declared.OrderReply as OrderReply
use Rattle.model.specs.declared.MoveReply as MoveReply
use Rattle.model.specs.Lists.{keep}
use Rattle.model.specs.Clock.{is_time, confirming_from, matching_from}
use Rattle.model.specs.Book.{is_live, stands_on}
use Rattle.model.specs.Books.{Books}
use Rattle.model.specs.Figures.{close_price, next_fixed}
use Rattle.model.specs.FixedBook.{is_void, arrivals, matches}
use Rattle.model.specs.Blocks.{is_held, fits, confirmation, with_earliest, unnamed, in_turn, confirmations}
use Rattle.model.specs.Refusals.{◌when◌, first_of, unsound, unsound_fixed, unsound_blocks, unsound_books}
use Rattle.model.specs.ClockCall.{moved}
use Rattle.model.specs.FixedCalls.{arriving, fixed_trades, fixed_rules, fixed_call}
use Rattle.model.specs.BlockCalls.{block_trades, block_rules, block_call}
use Rattle.model.specs.AfterClose.{After}
use Rattle.model.specs.AllCalls.{moved_on, move_trades, clock_all_rules, clock_all_call}
use Rattle.model.specs.Words.{Sound}
use Rattle.model.proofs.Rules.{hit, skip}
use Rattle.book.proofs.Lists.{keep_true, keep_false, length_keep}
use Rattle.book.proofs.Queues.{on_side}
use Rattle.pairing.proofs.Turns.{pairs, fewer_trades}
use Rattle.pairing.proofs.Moves.{moved_few}
use Rattle.demands.proofs.LongLists.{never, not_this}
use Rattle.demands.proofs.Pricings.{sound_if, sound_stands}
use Rattle.fixed_demands.specs.Moving.{valid, matched_trades}
use Rattle.fixed_demands.proofs.MainPart.{main_part}
use Rattle.fixed_demands.proofs.Evenings.{evening}
use Rattle.block_demands.proofs.Allowed.{or_neither}
use Rattle.block_demands.proofs.Confirmings.{confirming}
use Rattle.fixed_demands.proofs.FixedCases.{fixed_cases}
use Rattle.block_demands.proofs.Keepings.{block_cases}
use Rattle.day_demands.specs.Refusing.{OthersNeverLacking}
use Rattle.day_demands.proofs.Outcomes.{move_cases}
use Rattle.day_demands.proofs.Refusals.{fixed_apart, block_apart, clock_apart}
use Rattle.day_demands.proofs.BlockEvents.{by_second}

not_13 : (n : ℕ) {b : Bool} → eqb n 13 ≡ false → n ≡ 13 → b ≡ false
not_13 = not_this 13

-- ---- orders that match

-- nobody stands on both sides
two_sides : (os : List Order) → length (keep (stands_on 0) os) + length (keep (stands_on 1) os) ≤ length os
two_sides [] = unfold keep in omega arith
two_sides (o ∷ os) = go (stands_on 0 o) refl (stands_on 1 o) refl (two_sides os)
  where
    go :
        (a : Bool)
        → stands_on 0 o ≡ a
        → (b : Bool)
        → stands_on 1 o ≡ b
        → length (keep (stands_on 0) os) + length (keep (stands_on 1) os) ≤ length os
        → length (keep (stands_on 0) (o ∷ os)) + length (keep (stands_on 1) (o ∷ os)) ≤ length (o ∷ os)
    go true x true y h = absurd (omega (arith, sym (on_side 0 o x) ∙ on_side 1 o y))
    go true x false y h = rw (keep_true (stands_on 0) o os x, keep_false (stands_on 1) o os y) (omega arith)
    go false x true y h = rw (keep_false (stands_on 0) o os x, keep_true (stands_on 1) o os y) (omega arith)
    go false x false y h = rw (keep_false (stands_on 0) o os x, keep_false (stands_on 1) o os y) (omega arith)

arrivals_few : (side : ℕ) (os : List Order) → length (arrivals side os) ≡ length (keep (stands_on side) os)
unfolding arrivals
arrivals_few side os = length-map (keep (stands_on side) os) (λ (o : Order). record { number = o.number; left = o.left; whole = o.left })

-- fewer trades than orders
matches_few : (close : ℕ) (os : List Order) → length (matches close os) ≤ length os - 1
unfolding matches pairs
matches_few close os =
    omega (
      arith,
      fewer_trades close (arrivals 0 os) (arrivals 1 os),
      two_sides os,
      arrivals_few 0 os,
      arrivals_few 1 os,
    )

-- ---- a fixed-price order

module _ (d : Day) (a : AskedFixed) (main book : List Order) (lent : List Trade) (h : length book ≤ length lent) where
  one_more : length (arriving d a book) ≤ length book + 1
  unfolding arriving
  one_more =
      let new : Order =
      record { side = a.side; account = a.account; left = a.quantity; price = a.price; number = next_fixed d }
      in
      omega (arith, length-append (keep is_live book) (new ∷ []), length_keep is_live book)

  few_made : length (fixed_trades d a book) ≤ length book
  unfolding fixed_trades
  few_made = go (leb matching_from d.time)
    where
      go : (b : Bool) → length (cond b (matches (close_price d) (arriving d a book)) []) ≤ length book
      go true = omega (arith, matches_few (close_price d) (arriving d a book), one_more)
      go false = omega arith

  fixed_rule : first_of (fixed_rules d a main book (length lent)) ≡ 13 → ⊥
  unfolding fixed_rules ◌when◌
  fixed_rule =
      never 13 (fixed_rules d a main book (length lent)) (λ z. omega (arith, z))
      (not_13 15 refl, (not_13 2 refl, (not_13 3 refl, (not_13 19 refl, (not_13 6 refl, (not_13 7 refl, (not_13 8 refl, (not_13 20 refl, (not_13 10 refl, (not_13 11 refl, (λ _. le-ltb (length lent) (length (fixed_trades d a book)) (omega (arith, h, few_made)), tt)))))))))))

  pub fixed_has_room : (fixed_call d a main book lent).answer.reply ≡ OrderReply.TheVariants.Refused 13 → ⊥
  fixed_has_room =
      fixed_cases d a main book lent (λ o. o.answer.reply ≡ OrderReply.TheVariants.Refused 13 → ⊥)
      (λ _. fixed_apart d a main book lent 13)
      (λ _ r. fixed_rule cc)

-- ---- confirmations

earliest_few : (b : Declaration) (held : List Declaration) → length (with_earliest b held) ≤ 1
unfolding with_earliest
earliest_few b [] = omega arith
earliest_few b (s ∷ held) = go (fits b s) (earliest_few b held)
  where
    go : (f : Bool) → length (with_earliest b held) ≤ 1 → length (cond f (confirmation b s ∷ []) (with_earliest b held)) ≤ 1
    go true h = omega arith
    go false h = h

-- each buyer has one at most
turns_few : (bs held : List Declaration) → length (in_turn bs held) ≤ length bs
unfolding in_turn
turns_few [] held = omega arith
turns_few (b ∷ bs) held =
    let ts = with_earliest b held in
    omega (arith, length-append ts (in_turn bs (unnamed ts held)), earliest_few b held, turns_few bs (unnamed ts held))

confirmations_few : (held : List Declaration) → length (confirmations held) ≤ length held
unfolding confirmations
confirmations_few held = omega (arith, turns_few (keep (λ x. is_held x && eqb x.side 0) held) held, length_keep (λ x. is_held x && eqb x.side 0) held)

-- ---- a move

module _ (d : Day) (t : ℕ) (s : Books) (l : d.time ≤ t) (k : Sound d s.main) where
  abbrev h : After
  h = moved_on d t s

  few_auctioned : length h.auctions ≤ length s.main
  few_auctioned = rw (main_part d t s).trades (moved_few s.main (sound_stands d s.main k) d t)

  few_confirmed : length h.confirmed ≤ length s.blocks
  few_confirmed =
      by_second confirming_from d.time t
      (λ p. rw ((evening d t s l).confirmed p).trades (confirmations_few s.blocks))
      (λ n. rw ((evening d t s l).unconfirmed n).trades (omega arith))

  few_matched : length h.fixed ≤ length s.fixed
  few_matched =
      by_second matching_from d.time t
      (λ p. rw ((evening d t s l).matched p).trades (few (close_price (moved d t s.main).day)))
      (λ n. rw ((evening d t s l).unmatched n).trades (omega arith))
    where
      few : (close : ℕ) → length (matched_trades close s.fixed) ≤ length s.fixed
      few close = omega (arith, matches_few close (valid close s.fixed), length_keep (λ o. not (is_void close o)) s.fixed)

  few_moved : length (move_trades h) ≤ length s.main + length s.fixed + length s.blocks
  unfolding move_trades
  few_moved =
      omega (
        arith,
        few_auctioned,
        few_confirmed,
        few_matched,
        length-append (h.auctions ++ h.confirmed) h.fixed,
        length-append h.auctions h.confirmed,
      )

module _ (d : Day) (t : ℕ) (s : Books) (lent : List Trade) (r : length s.main + length s.fixed + length s.blocks ≤ length lent) where
  in_room : unsound_books d s ≡ false → not (is_time t) || ltb t d.time ≡ false → ltb (length lent) (length (move_trades (moved_on d t s))) ≡ false
  unfolding unsound_books
  in_room u v =
      let sound = (or_neither (unsound d s.main) (unsound_fixed d s.fixed) (or_neither (unsound d s.main || unsound_fixed d s.fixed) (unsound_blocks d s.blocks) u).0).0 in
      let l : d.time ≤ t = ltb-false t d.time (or_neither (not (is_time t)) (ltb t d.time) v).1 in
      le-ltb (length lent) (length (move_trades (moved_on d t s))) (omega (arith, r, few_moved d t s l (sound_if d s.main sound)))

  -- behind 15 and 1
  move_rule : first_of (clock_all_rules d t s (length lent)) ≡ 13 → ⊥
  unfolding clock_all_rules
  move_rule e = go (unsound_books d s) refl (not (is_time t) || ltb t d.time) refl
    where
      nothing : first_of [] ≡ 0
      nothing = unfold first_of in refl

      go : (a : Bool) → unsound_books d s ≡ a → (b : Bool) → not (is_time t) || ltb t d.time ≡ b → ⊥
      go true x b y = omega (arith, sym (hit 15 _ x) ∙ e)
      go false x true y = omega (arith, sym (hit 1 _ y) ∙ sym (skip 15 _ x) ∙ e)
      go false x false y =
          omega (arith, sym (skip 13 [] (in_room x y)) ∙ sym (skip 1 _ y) ∙ sym (skip 15 _ x) ∙ e, nothing)

  pub move_has_room : (clock_all_call d t s lent).answer.reply ≡ MoveReply.TheVariants.Refused 13 → ⊥
  move_has_room =
      move_cases d t s lent (λ o. o.answer.reply ≡ MoveReply.TheVariants.Refused 13 → ⊥)
      (λ _. clock_apart d t s lent 13)
      (λ _ q. move_rule cc)

-- ---- a declaration

module _ (d : Day) (a : AskedBlock) (main : List Order) (held : List Declaration) (lent : List Trade) (r : 1 ≤ length lent) where
  one_made : unsound_blocks d held ≡ false → a.side ≤ 1 → length (block_trades d a held) ≤ 1
  one_made u k = elim (dec_le confirming_from d.time) [
    | yes l ↦ (confirming.entered d a held u k l).1
    | no l ↦ rw (confirming.early d a held (omega arith)) (omega arith)
  ]

  -- behind 15 and 2
  block_rule : first_of (block_rules d a main held (length lent)) ≡ 13 → ⊥
  unfolding block_rules
  block_rule e = go (unsound d main || unsound_blocks d held) refl (leb a.side 1) refl
    where
      room : unsound d main || unsound_blocks d held ≡ false → leb a.side 1 ≡ true → ltb (length lent) (length (block_trades d a held)) ≡ false
      room x y =
          le-ltb (length lent) (length (block_trades d a held))
          (omega (arith, r, one_made (or_neither (unsound d main) (unsound_blocks d held) x).1 (leb-true a.side 1 y)))

      go : (b : Bool) → unsound d main || unsound_blocks d held ≡ b → (c : Bool) → leb a.side 1 ≡ c → ⊥
      go true x c y = omega (arith, sym (hit 15 _ x) ∙ e)
      go false x false y = omega (arith, sym (hit 2 _ (ap not y)) ∙ sym (skip 15 _ x) ∙ e)
      go false x true y = unfold ◌when◌ in
          never 13 _ (λ z. omega (arith, z))
          (not_13 15 refl, (not_13 2 refl, (not_13 3 refl, (not_13 21 refl, (not_13 23 refl, (not_13 7 refl, (not_13 22 refl, (not_13 8 refl, (not_13 10 refl, (not_13 11 refl, (λ _. room x y, tt)))))))))))
          e

  pub block_has_room : (block_call d a main held lent).answer.reply ≡ BlockReply.TheVariants.Refused 13 → ⊥
  block_has_room =
      block_cases d a main held lent (λ o. o.answer.reply ≡ BlockReply.TheVariants.Refused 13 → ⊥)
      (λ _. block_apart d a main held lent 13)
      (λ _ q. block_rule cc)

pub others_never_lacking : OthersNeverLacking
others_never_lacking = record { fixed = fixed_has_room; block = block_has_room; clock = move_has_room }
