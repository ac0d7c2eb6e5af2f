-- A move of the clock, second by second: its book stands throughout, and at most one of its auctions trades, since after it no buy reaches
-- a sell; so it has no more trades than the book has places. Assumes nothing.
use Prim.Native.Nat.{ℕ, ◌≤◌}
use mathlib.Core.Path.{◌≡◌, refl, ap, ◌∙◌}
use mathlib.Core.Logic.{◌⊎◌, inl, inr, ⊎_elim}
use mathlib.Core.Bool.{false, true}
use mathlib.Core.List.{List, [], ◌∷◌, ◌++◌, append-nil}
use native.Mathlib.Omega.{arith}
use lib.ListN.{length}
use Rattle.model.specs.declared.Order.{Order}
use Rattle.model.specs.declared.Trade.{Trade}
use Rattle.model.specs.declared.Day.{Day}
use Rattle.model.specs.Clock.{passed}
use Rattle.model.specs.Book.{free, is_live, stands_on}
use Rattle.model.specs.Sound.{crosses}
use Rattle.model.specs.Calls.{cleared}
use Rattle.model.specs.ClockCall.{Held, auction_trades, auction, resume, lapse, pass, through, start, moved}
use Rattle.model.proofs.Seconds.{pass_cases, through_keeps}
use Rattle.model.specs.Words.{Each}
use Rattle.book.specs.Standing.{Standing}
use Rattle.book.proofs.Lists.{each, length_keep}
use Rattle.book.proofs.Kept.{free_number, standing_cleared}
use Rattle.book.proofs.Queues.{on_live}
use Rattle.book.proofs.Crossing.{SellsAbove, not_crossed}
use Rattle.pairing.proofs.Auctions.{uncrossed_none, auction_fewer, afterwards_stands, afterwards_uncrossed}

-- ---- a book that is cleared: no buy stands in it

pub all_free : (os : List Order) → Each (λ o. o ≡ free) (cleared os)
unfolding cleared
all_free [] = tt
all_free (o ∷ os) = (refl, all_free os)

pub cleared_uncrossed : (book : List Order) → crosses (cleared book) ≡ false
cleared_uncrossed book =
    not_crossed (cleared book)
    (each (λ o. o ≡ free) (λ b. stands_on 0 b ≡ true → SellsAbove b.price (cleared book)) (cleared book)
    (λ o f t. absurd (on_live 0 o t (ap (λ (x : Order). x.number) f ∙ free_number))) (all_free book))

-- ---- one second

-- the orders stand, and no buy reaches a sell
pub record Quiet (book : List Order) : Type 0 where
  pub stands : Standing book
  pub apart : crosses book ≡ false

-- so it is after an auction, whatever comes with it
module _ (h : Held) (s : Standing h.book) where
  pub auction_quiet : Quiet (auction h).book
  unfolding auction
  auction_quiet =
      record { stands = afterwards_stands h.book s h.day; apart = afterwards_uncrossed h.book s h.day }

  lapse_quiet : Quiet (lapse (auction h)).book
  unfolding lapse
  lapse_quiet = record { stands = standing_cleared (auction h).book; apart = cleared_uncrossed (auction h).book }

  -- an auction was held: its trades come behind those so far
  pub record Auctioned (k : Held) : Type 0 where
    pub trades : k.trades ≡ h.trades ++ auction_trades h.day h.book
    pub quiet : Quiet k.book

  -- at a second where something is due one is held
  pub pass_due :
      (t : ℕ) → ((t ≡ 33_900 → ⊥) → (t ≡ h.day.halt → ⊥) → (t ≡ 54_000 → ⊥) → ⊥) → Auctioned (pass t h)
  unfolding auction resume lapse
  pass_due t due =
      pass_cases Auctioned t h (λ _. record { trades = refl; quiet = auction_quiet }) (λ _. record { trades = refl; quiet = auction_quiet })
      (λ _. record { trades = refl; quiet = lapse_quiet })
      (λ a b c. absurd (due a b c))

  -- at any other nothing happens
  pub pass_either : (t : ℕ) → (pass t h ≡ h) ⊎ Auctioned (pass t h)
  unfolding auction resume lapse
  pass_either t =
      pass_cases (λ k. (k ≡ h) ⊎ Auctioned k) t h (λ _. inr (record { trades = refl; quiet = auction_quiet }))
      (λ _. inr (record { trades = refl; quiet = auction_quiet }))
      (λ _. inr (record { trades = refl; quiet = lapse_quiet }))
      (λ _ _ _. inl refl)

pub pass_stands : (t : ℕ) (h : Held) → Standing h.book → Standing (pass t h).book
pass_stands t h s =
    ⊎_elim (λ e. rw e s) (λ a. a.quiet.stands) (pass_either h s t)

-- ---- where no buy reaches a sell nothing trades

module _ (ts : List Trade) where
  -- these are the trades so far
  abbrev Still : Held → Type 0
  Still h = Quiet h.book × (h.trades ≡ ts)

  still_pass : (t : ℕ) (h : Held) → Still h → Still (pass t h)
  still_pass t h (q, e) =
      ⊎_elim (λ x. rw x (q, e))
      (λ (a : Auctioned h q.stands (pass t h)). (
        a.quiet,
        a.trades
            ∙ ap (λ (us : List Trade). h.trades ++ us) (uncrossed_none h.book q.stands h.day q.apart)
            ∙ append-nil h.trades
            ∙ e,
      ))
      (pass_either h q.stands t)

pub quiet_through : (ss : List ℕ) (h : Held) → Quiet h.book → (through ss h).trades ≡ h.trades
quiet_through ss h q = (through_keeps (Still h.trades) (still_pass h.trades) ss h (q, refl)).1

-- ---- so the first auction that is held has all trades of the move

pub one_auction :
    (ss : List ℕ) (h : Held)
    → Standing h.book
    → ((through ss h).trades ≡ h.trades) ⊎ ((through ss h).trades ≡ h.trades ++ auction_trades h.day h.book)
unfolding through
one_auction [] h s = inl refl
one_auction (t ∷ ss) h s = go (pass_either h s t) (one_auction ss h s)
  where
    go :
        (pass t h ≡ h) ⊎ Auctioned h s (pass t h)
        → ((through ss h).trades ≡ h.trades) ⊎ ((through ss h).trades ≡ h.trades ++ auction_trades h.day h.book)
        → ((through ss (pass t h)).trades ≡ h.trades) ⊎ ((through ss (pass t h)).trades ≡ h.trades ++ auction_trades h.day h.book)
    go (inl e) later = rw e later
    go (inr a) later = inr (quiet_through ss (pass t h) a.quiet ∙ a.trades)

module _ (book : List Order) (s : Standing book) (d : Day) where
  pub auction_few : length (auction_trades d book) ≤ length book
  auction_few = omega (arith, auction_fewer book s d, length_keep is_live book)

  pub moved_few : (t : ℕ) → length (moved d t book).trades ≤ length book
  unfolding moved start
  moved_few t =
      ⊎_elim (λ e. rw e (omega arith)) (λ e. rw e auction_few) (one_auction (passed d.time t) (start d book) s)
