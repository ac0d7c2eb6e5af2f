-- Block trades: which declarations are confirmed, with whom and in which order, that none that fits is left, and when they are.
use Rattle.std.specs.Prelude.{ℕ, ◌≤◌, ◌<◌, ◌≡◌, ◌⊎◌, ◌↔◌, true, false, List, [], ◌∷◌, ◌++◌, map, length}
use Rattle.model.specs.declared.Order.{Order}
use Rattle.model.specs.declared.Declaration.{Declaration}
use Rattle.model.specs.declared.AskedBlock.{AskedBlock}
use Rattle.model.specs.declared.Trade.{Trade}
use Rattle.model.specs.declared.Day.{Day}
use Rattle.model.specs.Lists.{keep, any}
use Rattle.model.specs.Clock.{confirming_from, day_end}
use Rattle.model.specs.Books.{Books}
use Rattle.model.specs.Matching.{is_in}
use Rattle.model.specs.Figures.{next_block}
use Rattle.model.specs.Blocks.{is_held, fits, confirmation, unnamed, confirmations}
use Rattle.model.specs.Refusals.{first_of, unsound_blocks}
use Rattle.model.specs.BlockCalls.{declaring, block_trades, block_rules, block_call}
use Rattle.model.specs.AllCalls.{moved_on}
use Rattle.model.specs.Words.{Each, Some, Rising}
use Rattle.block_demands.specs.Held.{NoneHeld, NoneFit}

-- a confirmation joins two that are held and fit, a buyer and a seller, at their price and for their quantity
pub record Pair (t : Trade) (b s : Declaration) : Type 0 where
  pub buys : b.side ≡ 0
  pub sells : s.side ≡ 1
  pub buyer_held : is_held b ≡ true
  pub seller_held : is_held s ≡ true
  pub fit : fits b s ≡ true
  pub trade : t ≡ confirmation b s

abbrev pub Joins : List Declaration → Trade → Type 0
Joins held t = Some (λ (b : Declaration). Some (λ (s : Declaration). Pair t b s) held) held

-- x is one of the two of this trade, and y came before the other one
abbrev pub Before : Trade → Declaration → Declaration → Type 0
Before t x y =
    ((x.number ≡ t.buyer) × (y.number < t.seller)) ⊎ ((x.number ≡ t.seller) × (y.number < t.buyer))

-- the earliest that fits is the partner, for either: whoever fits one of the two and came before the other is in a confirmation
-- before it
abbrev pub Earliest : List Declaration → List Trade → List Trade → Type 0
Earliest held done [] = Unit {0}
Earliest held done (t ∷ ts) =
    Each
    (λ (x : Declaration).
    Each (λ (y : Declaration). fits x y ≡ true → Before t x y → any (is_in y.number) done ≡ true) held)
    held
    × Earliest held (done ++ (t ∷ [])) ts

pub record Confirms (held : List Declaration) (ts : List Trade) : Type 0 where
  pub joins : Each (Joins held) ts
  -- lower buyer first
  pub buyers : Rising (map (λ (t : Trade). t.buyer) ts)
  -- nobody twice
  pub once : (n : ℕ) → length (keep (is_in n) ts) ≤ 1
  pub earliest : Earliest held [] ts
  -- none that fits is left
  pub all_of_them : NoneFit (unnamed ts held)

pub record Confirming : Type 0 where
  -- what 15 calls due: some two fit exactly where something would be confirmed
  pub due :
      (d : Day) (held : List Declaration)
      → unsound_blocks d held ≡ false
      → (confirmations held ≡ []) ↔ NoneFit held
  -- a move that passes 15:00 confirms what is held
  pub three :
      (d : Day) (t : ℕ) (s : Books)
      → unsound_blocks d s.blocks ≡ false
      → d.time < confirming_from
      → confirming_from ≤ t
      → Confirms s.blocks (moved_on d t s).confirmed
  -- no other move confirms any
  pub no_other :
      (d : Day) (t : ℕ) (s : Books)
      → d.time ≤ t
      → (t < confirming_from) ⊎ (confirming_from ≤ d.time)
      → (moved_on d t s).confirmed ≡ []
  -- a declaration before 15:00 is confirmed with nobody
  pub early :
      (d : Day) (a : AskedBlock) (held : List Declaration) → d.time < confirming_from → block_trades d a held ≡ []
  -- from 15:00 on it is, if one that is held fits: one confirmation at most, and its own
  pub entered :
      (d : Day) (a : AskedBlock) (held : List Declaration)
      → unsound_blocks d held ≡ false
      → a.side ≤ 1
      → confirming_from ≤ d.time
      → Confirms (declaring d a held) (block_trades d a held)
      × (length (block_trades d a held) ≤ 1)
      × Each (λ (t : Trade). is_in (next_block d) t ≡ true) (block_trades d a held)
  -- None can be cancelled: whoever no confirmation names stays held, as it was, by a declaration that no rule refuses
  pub stays :
      (d : Day) (a : AskedBlock) (main : List Order) (held : List Declaration) (lent : List Trade)
      → first_of (block_rules d a main held (length lent)) ≡ 0
      → keep is_held (block_call d a main held lent).held ≡ unnamed (block_trades d a held) (declaring d a held)
  -- and by a move that ends before 15:30
  pub stays_on :
      (d : Day) (t : ℕ) (s : Books)
      → unsound_blocks d s.blocks ≡ false
      → d.time ≤ t
      → t < day_end
      → keep is_held (moved_on d t s).books.blocks ≡ unnamed (moved_on d t s).confirmed (keep is_held s.blocks)
  -- 15:30: what is left lapses
  pub end :
      (d : Day) (t : ℕ) (s : Books)
      → unsound_blocks d s.blocks ≡ false
      → d.time ≤ t
      → day_end ≤ t
      → NoneHeld (moved_on d t s).books.blocks
