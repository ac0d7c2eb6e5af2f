-- The declarations over each event: a declaration, and a move over all lists, which confirms them at 15:00 and lets them lapse at 15:30.
-- Whatever is held is one of the accepted. Assumes nothing.
use Prim.Native.Nat.{ℕ, ◌≤◌}
use mathlib.Core.Path.{◌≡◌, refl, ap}
use mathlib.Core.Logic.{inl, inr}
use mathlib.Core.Bool.{Bool, true, false, cond, not}
use mathlib.Core.List.{List, [], ◌∷◌, ◌++◌}
use native.Mathlib.Omega.{arith}
use lib.ListN.{length, take, drop}
use lib.Seq.{take_at}
use lib.Dec.{leb, ltb, eqb}
use borrow.Author.Tests.{leb-true, leb-false, ltb-true, ltb-false}
use Rattle.model.specs.declared.Order.{Order}
use Rattle.model.specs.declared.Declaration.{Declaration}
use Rattle.model.specs.declared.AskedBlock.{AskedBlock}
use Rattle.model.specs.declared.Trade.{Trade}
use Rattle.model.specs.declared.Day.{Day}
use Rattle.model.specs.declared.Blocks.{Blocks}
use Rattle.model.specs.declared.BlockReply as BlockReply
use Rattle.model.specs.Lists.{keep, any, from}
use Rattle.model.specs.Clock.{confirming_from, matching_from, day_end}
use Rattle.model.specs.Books.{Books}
use Rattle.model.specs.Figures.{next_block, issue_block, tally_blocks, with_block_figures}
use Rattle.model.specs.Matching.{is_in}
use Rattle.model.specs.Blocks.{undeclared, is_held, confirmations, unnamed, none_held, held_in}
use Rattle.model.specs.Calls.{written}
use Rattle.model.specs.BlockCalls.{BlockOutcome, declaring, block_trades, block_entered, block_call}
use Rattle.model.specs.AfterClose.{After}
use Rattle.model.specs.AllCalls.{moved_on}
use Rattle.book.proofs.Lists.{each_keep, each_append}
use Rattle.arrivals.proofs.Places.{places_each}
use Rattle.demands.specs.Running.{Owner}
use Rattle.demands.proofs.Elements.{some_right}
use Rattle.demands.proofs.Issued.{Counts, counts_none}
use Rattle.fixed_demands.specs.Moving.{Passes, Misses, Evening}
use Rattle.fixed_demands.proofs.Evenings.{evening}
use Rattle.block_demands.proofs.Keepings.{block_cases}
use Rattle.day_demands.specs.Running.{block_owners, Was, AllWere}
use Rattle.day_demands.proofs.OtherThrough.{Meant, more_meant, BlocksThrough, blocks_still}

-- ---- what is held

no_number : undeclared.number ≡ 0
unfolding undeclared
no_number = refl

module _ (ws : List Owner) where
  free_meant : Meant ws undeclared
  free_meant n = absurd (n no_number)

  -- without those that are confirmed
  left_meant : (n : ℕ) (ts : List Trade) (xs : List Declaration) → AllWere ws xs → AllWere ws (held_in n (unnamed ts xs))
  unfolding held_in unnamed
  left_meant n ts xs h =
      places_each (λ (x : Declaration). x.number) undeclared no_number (Meant ws) n _ free_meant
      (each_keep (Meant ws) (λ (x : Declaration). not (any (is_in x.number) ts)) xs h)

  lapsed_meant : (held : List Declaration) → AllWere ws (none_held held)
  unfolding none_held
  lapsed_meant [] = tt
  lapsed_meant (x ∷ xs) = (free_meant, lapsed_meant xs)

-- the owner of a new one
abbrev newest : Day → AskedBlock → Owner
newest d a = record { number = next_block d; account = a.account; side = a.side }

-- behind the others
declaring_meant :
    (ws : List Owner) (d : Day) (a : AskedBlock) (held : List Declaration)
    → AllWere ws held
    → AllWere (ws ++ (newest d a ∷ [])) (declaring d a held)
unfolding declaring
declaring_meant ws d a held h =
    let known = ws ++ (newest d a ∷ []) in
    each_append (Meant known) (keep is_held held) _ (each_keep (Meant known) is_held held (more_meant ws (newest d a ∷ []) held h))
    (λ n. some_right (Was _) ws (newest d a ∷ []) (inl (record { number = refl; account = refl; side = refl })), tt)

-- ---- a declaration

-- held or confirmed, it has the next number
counted : (d : Day) (a : AskedBlock) (b : Bool)
    → Counts d.blocks.issued (next_block d)
    (block_owners a (cond b (BlockReply.TheVariants.Held (next_block d)) (BlockReply.TheVariants.Confirmed (next_block d))))
unfolding block_owners next_block from
counted d a true = record { order = refl; count = omega arith }
counted d a false = record { order = refl; count = omega arith }

owner : (d : Day) (a : AskedBlock) (b : Bool)
    → block_owners a (cond b (BlockReply.TheVariants.Held (next_block d)) (BlockReply.TheVariants.Confirmed (next_block d)))
    ≡ newest d a ∷ []
unfolding block_owners
owner d a true = refl
owner d a false = refl

pub blocks_declares :
    (d : Day) (a : AskedBlock) (main : List Order) (held : List Declaration) (lent : List Trade)
    → let o : BlockOutcome = block_call d a main held lent in
    BlocksThrough d.blocks o.answer.day.blocks held o.held (take o.answer.made o.trades) (block_owners a o.answer.reply)
unfolding block_entered issue_block tally_blocks with_block_figures written
blocks_declares d a main held lent =
    block_cases d a main held lent
    (λ o. BlocksThrough d.blocks o.answer.day.blocks held o.held (take o.answer.made o.trades) (block_owners a o.answer.reply))
    (λ _.
    let ts = block_trades d a held in
    rw (take_at ts (drop (length ts) lent) (length ts) refl)
    (record {
      counts = counted d a (eqb (length ts) 0);
      meant = λ ws h. rw (owner d a (eqb (length ts) 0)) (left_meant (ws ++ (newest d a ∷ [])) (length held) ts (declaring d a held) (declaring_meant ws d a held h));
      shares = refl;
    }))
    (λ _. unfold block_owners in blocks_still d.blocks held)

-- ---- a move

-- it passes a second, or it does not
pub by_second : {A : Type 0} (c old new : ℕ) → (Passes c old new → A) → (Misses c old new → A) → A
by_second {A} c old new f g = go (leb c new) refl (ltb old c) refl
  where
    go : (a : Bool) → leb c new ≡ a → (b : Bool) → ltb old c ≡ b → A
    go true x true y = f (record { before = ltb-true old c y; reached = leb-true c new x })
    go true x false y = g (inr (ltb-false old c y))
    go false x b y = g (inl (leb-false c new x))

module _ (d : Day) (t : ℕ) (s : Books) (l : d.time ≤ t) where
  abbrev h : After
  h = moved_on d t s

  moved_meant : (ws : List Owner) → AllWere ws s.blocks → AllWere ws h.books.blocks
  moved_meant ws m =
      let v : Evening d t s h = evening d t s l in
      by_second day_end d.time t
      (λ p. rw (by_second matching_from d.time t (λ q. (v.lapsed_matched q p).blocks) (λ n. (v.lapsed n p).blocks)) (lapsed_meant ws s.blocks))
      (λ n.
      by_second confirming_from d.time t
      (λ p. rw (v.blocks_then p n) (left_meant ws (length s.blocks) (confirmations s.blocks) s.blocks m))
      (λ q. rw (v.blocks_same q n) m))

  pub blocks_moves : BlocksThrough d.blocks h.day.blocks s.blocks h.books.blocks h.confirmed []
  blocks_moves =
      let v : Evening d t s h = evening d t s l in
      by_second confirming_from d.time t
      (λ p.
      let c = v.confirmed p in
      record {
        counts = counts_none d.blocks.issued _ (ap (λ (b : Blocks). b.issued) c.figures);
        meant = λ ws m. more_meant ws [] h.books.blocks (moved_meant ws m);
        shares = rw c.trades (ap (λ (b : Blocks). b.shares) c.figures);
      })
      (λ n.
      let c = v.unconfirmed n in
      let still = blocks_still d.blocks s.blocks in
      record {
        counts = rw c.figures still.counts;
        meant = λ ws m. more_meant ws [] h.books.blocks (moved_meant ws m);
        shares = rw (c.trades, c.figures) still.shares;
      })
