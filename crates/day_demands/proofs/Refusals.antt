-- Demand 1 for the calls of the other lists and over all lists: the first rule that holds is the refusal, and a refused call leaves all
-- as it was. Assumes nothing.
use Prim.Native.Nat.{ℕ}
use mathlib.Core.Path.{◌≡◌, refl, ap}
use mathlib.Core.Bool.{Bool, true, false, cond}
use mathlib.Core.List.{List}
use native.Mathlib.Omega.{arith}
use lib.ListN.{length}
use lib.Dec.{eqb}
use Rattle.model.specs.declared.Order.{Order}
use Rattle.model.specs.declared.Declaration.{Declaration}
use Rattle.model.specs.declared.AskedFixed.{AskedFixed}
use Rattle.model.specs.declared.AskedBlock.{AskedBlock}
use Rattle.model.specs.declared.Trade.{Trade}
use Rattle.model.specs.declared.Day.{Day}
use Rattle.model.specs.declared.OpenReply as OpenReply
use Rattle.model.specs.declared.OrderReply as OrderReply
use Rattle.model.specs.declared.BlockReply as BlockReply
use Rattle.model.specs.declared.CancelReply as CancelReply
use Rattle.model.specs.declared.MoveReply as MoveReply
use Rattle.model.specs.declared.OrderAnswer.{OrderAnswer}
use Rattle.model.specs.Books.{Books}
use Rattle.model.specs.Figures.{fresh_day, next_block}
use Rattle.model.specs.Refusals.{◌when◌, first_of}
use Rattle.model.specs.Calls.{Outcome}
use Rattle.model.specs.FixedCalls.{FixedCancelOutcome, fixed_rules, fixed_entered, fixed_call, fixed_cancel_rules, fixed_cancel_call}
use Rattle.model.specs.BlockCalls.{BlockOutcome, block_trades, block_rules, block_entered, block_call}
use Rattle.model.specs.AllCalls.{OpenAllOutcome, ClockAllOutcome, open_all_rules, open_all_call, clock_all_rules, clock_all_call}
use Rattle.demands.specs.Refusing.{Numbers, RefusesBy}
use Rattle.demands.proofs.FirstRules.{refuses_by}
use Rattle.demands.proofs.Refusals.{real, part, second}
use Rattle.day_demands.specs.Refusing.{OthersRefusal, OthersUntouched}
use Rattle.day_demands.proofs.Outcomes.{withdrawn, moved_all}

-- ---- an opening of all lists

module _ (close mark : ℕ) (s : Books) where
  pub open_numbers_lem : Numbers (open_all_rules close mark s)
  unfolding open_all_rules ◌when◌
  open_numbers_lem = (real 14 refl, tt)

  open_apart : (n : ℕ) → OpenReply.TheVariants.Opened (fresh_day close mark) ≡ OpenReply.TheVariants.Refused n → ⊥
  open_apart n e = let z : ◌≡◌ {A = ℕ} 0 1 = cc in omega arith

  open_refuses : RefusesBy OpenReply.TheVariants.Refused (open_all_rules close mark s) (open_all_call close mark s).reply
  unfolding open_all_call
  open_refuses =
      refuses_by OpenReply.TheVariants.Refused (open_all_rules close mark s) (open_all_call close mark s).reply
      (OpenReply.TheVariants.Opened (fresh_day close mark)) open_numbers_lem (λ m n (e : OpenReply.TheVariants.Refused m ≡ OpenReply.TheVariants.Refused n). cc)
      open_apart (part (λ (o : OpenAllOutcome). o.reply) (eqb (first_of (open_all_rules close mark s)) 0) _ _)

  open_left_lem :
      (n : ℕ)
      → (open_all_call close mark s).reply ≡ OpenReply.TheVariants.Refused n
      → open_all_call close mark s ≡ record { reply = OpenReply.TheVariants.Refused (first_of (open_all_rules close mark s)); books = s }
  unfolding open_all_call
  open_left_lem n = second (λ (o : OpenAllOutcome). o.reply) (eqb (first_of (open_all_rules close mark s)) 0) _ _ (OpenReply.TheVariants.Refused n) (open_apart n)

-- ---- a move of the clock over all lists

module _ (d : Day) (t : ℕ) (s : Books) (lent : List Trade) where
  pub clock_numbers_lem : Numbers (clock_all_rules d t s (length lent))
  unfolding clock_all_rules ◌when◌
  clock_numbers_lem = (real 15 refl, (real 1 refl, (real 13 refl, tt)))

  pub clock_apart : (n : ℕ) → (moved_all d t s lent).answer.reply ≡ MoveReply.TheVariants.Refused n → ⊥
  clock_apart n e = let z : ◌≡◌ {A = ℕ} 0 1 = cc in omega arith

  clock_refuses : RefusesBy MoveReply.TheVariants.Refused (clock_all_rules d t s (length lent)) (clock_all_call d t s lent).answer.reply
  unfolding clock_all_call
  clock_refuses =
      refuses_by MoveReply.TheVariants.Refused (clock_all_rules d t s (length lent)) (clock_all_call d t s lent).answer.reply
      (moved_all d t s lent).answer.reply clock_numbers_lem (λ m n (e : MoveReply.TheVariants.Refused m ≡ MoveReply.TheVariants.Refused n). cc)
      clock_apart (part (λ (o : ClockAllOutcome). o.answer.reply) (eqb (first_of (clock_all_rules d t s (length lent))) 0) _ _)

  clock_left :
      (n : ℕ)
      → (clock_all_call d t s lent).answer.reply ≡ MoveReply.TheVariants.Refused n
      → clock_all_call d t s lent ≡ record {
        answer = record { reply = MoveReply.TheVariants.Refused (first_of (clock_all_rules d t s (length lent))); made = 0; day = d };
        books = s;
        trades = lent;
      }
  unfolding clock_all_call
  clock_left n = second (λ (o : ClockAllOutcome). o.answer.reply) (eqb (first_of (clock_all_rules d t s (length lent))) 0) _ _ (MoveReply.TheVariants.Refused n) (clock_apart n)

-- ---- a fixed-price order, and its cancel

module _ (d : Day) (a : AskedFixed) (main book : List Order) (lent : List Trade) where
  pub fixed_numbers : Numbers (fixed_rules d a main book (length lent))
  unfolding fixed_rules ◌when◌
  fixed_numbers = (real 15 refl, (real 2 refl, (real 3 refl, (real 19 refl, (real 6 refl, (real 7 refl, (real 8 refl, (real 20 refl, (real 10 refl, (real 11 refl, (real 13 refl, tt)))))))))))

  pub fixed_apart : (n : ℕ) → (fixed_entered d a book lent).answer.reply ≡ OrderReply.TheVariants.Refused n → ⊥
  unfolding fixed_entered
  fixed_apart n e = let z : ◌≡◌ {A = ℕ} 0 1 = cc in omega arith

  fixed_refuses : RefusesBy OrderReply.TheVariants.Refused (fixed_rules d a main book (length lent)) (fixed_call d a main book lent).answer.reply
  unfolding fixed_call
  fixed_refuses =
      refuses_by OrderReply.TheVariants.Refused (fixed_rules d a main book (length lent)) (fixed_call d a main book lent).answer.reply
      (fixed_entered d a book lent).answer.reply fixed_numbers (λ m n (e : OrderReply.TheVariants.Refused m ≡ OrderReply.TheVariants.Refused n). cc)
      fixed_apart (part (λ (o : Outcome OrderAnswer). o.answer.reply) (eqb (first_of (fixed_rules d a main book (length lent))) 0) _ _)

  fixed_left :
      (n : ℕ)
      → (fixed_call d a main book lent).answer.reply ≡ OrderReply.TheVariants.Refused n
      → fixed_call d a main book lent ≡ record {
        answer = record { reply = OrderReply.TheVariants.Refused (first_of (fixed_rules d a main book (length lent))); made = 0; day = d };
        book = book;
        trades = lent;
      }
  unfolding fixed_call
  fixed_left n = second (λ (o : Outcome OrderAnswer). o.answer.reply) (eqb (first_of (fixed_rules d a main book (length lent))) 0) _ _ (OrderReply.TheVariants.Refused n) (fixed_apart n)

module _ (d : Day) (account number : ℕ) (main book : List Order) where
  pub fixed_cancel_numbers : Numbers (fixed_cancel_rules d account number main book)
  unfolding fixed_cancel_rules ◌when◌
  fixed_cancel_numbers = (real 15 refl, (real 19 refl, (real 12 refl, tt)))

  fixed_cancel_apart : (n : ℕ) → (withdrawn account number book).reply ≡ CancelReply.TheVariants.Refused n → ⊥
  fixed_cancel_apart n e = let z : ◌≡◌ {A = ℕ} 0 1 = cc in omega arith

  fixed_cancel_refuses : RefusesBy CancelReply.TheVariants.Refused (fixed_cancel_rules d account number main book) (fixed_cancel_call d account number main book).reply
  unfolding fixed_cancel_call
  fixed_cancel_refuses =
      refuses_by CancelReply.TheVariants.Refused (fixed_cancel_rules d account number main book) (fixed_cancel_call d account number main book).reply
      (withdrawn account number book).reply fixed_cancel_numbers (λ m n (e : CancelReply.TheVariants.Refused m ≡ CancelReply.TheVariants.Refused n). cc)
      fixed_cancel_apart (part (λ (o : FixedCancelOutcome). o.reply) (eqb (first_of (fixed_cancel_rules d account number main book)) 0) _ _)

  fixed_cancel_left_lem :
      (n : ℕ)
      → (fixed_cancel_call d account number main book).reply ≡ CancelReply.TheVariants.Refused n
      → fixed_cancel_call d account number main book ≡ record {
        reply = CancelReply.TheVariants.Refused (first_of (fixed_cancel_rules d account number main book));
        book = book;
      }
  unfolding fixed_cancel_call
  fixed_cancel_left_lem n = second (λ (o : FixedCancelOutcome). o.reply) (eqb (first_of (fixed_cancel_rules d account number main book)) 0) _ _ (CancelReply.TheVariants.Refused n) (fixed_cancel_apart n)

-- ---- a declaration

module _ (d : Day) (a : AskedBlock) (main : List Order) (held : List Declaration) (lent : List Trade) where
  pub block_numbers_lem : Numbers (block_rules d a main held (length lent))
  unfolding block_rules ◌when◌
  block_numbers_lem = (real 15 refl, (real 2 refl, (real 3 refl, (real 21 refl, (real 23 refl, (real 7 refl, (real 22 refl, (real 8 refl, (real 10 refl, (real 11 refl, (real 13 refl, tt)))))))))))

  pub block_apart : (n : ℕ) → (block_entered d a held lent).answer.reply ≡ BlockReply.TheVariants.Refused n → ⊥
  unfolding block_entered
  block_apart n = go (eqb (length (block_trades d a held)) 0)
    where
      go :
          (b : Bool)
          → cond b (BlockReply.TheVariants.Held (next_block d)) (BlockReply.TheVariants.Confirmed (next_block d)) ≡ BlockReply.TheVariants.Refused n
          → ⊥
      go true e = let z : ◌≡◌ {A = ℕ} 0 1 = cc in omega arith
      go false e = let z : ◌≡◌ {A = ℕ} 0 1 = cc in omega arith

  block_refuses : RefusesBy BlockReply.TheVariants.Refused (block_rules d a main held (length lent)) (block_call d a main held lent).answer.reply
  unfolding block_call
  block_refuses =
      refuses_by BlockReply.TheVariants.Refused (block_rules d a main held (length lent)) (block_call d a main held lent).answer.reply
      (block_entered d a held lent).answer.reply block_numbers_lem (λ m n (e : BlockReply.TheVariants.Refused m ≡ BlockReply.TheVariants.Refused n). cc)
      block_apart (part (λ (o : BlockOutcome). o.answer.reply) (eqb (first_of (block_rules d a main held (length lent))) 0) _ _)

  block_left_lem :
      (n : ℕ)
      → (block_call d a main held lent).answer.reply ≡ BlockReply.TheVariants.Refused n
      → block_call d a main held lent ≡ record {
        answer = record { reply = BlockReply.TheVariants.Refused (first_of (block_rules d a main held (length lent))); made = 0; day = d };
        held = held;
        trades = lent;
      }
  unfolding block_call
  block_left_lem n = second (λ (o : BlockOutcome). o.answer.reply) (eqb (first_of (block_rules d a main held (length lent))) 0) _ _ (BlockReply.TheVariants.Refused n) (block_apart n)

-- ---- these calls together

pub others_refusal : OthersRefusal
others_refusal =
    record {
      opening = open_refuses;
      clock = clock_refuses;
      fixed = fixed_refuses;
      fixed_cancel = fixed_cancel_refuses;
      block = block_refuses;
    }

pub others_untouched : OthersUntouched
others_untouched =
    record {
      opening = λ close mark n s r. ap (λ (o : OpenAllOutcome). o.books) (open_left_lem close mark s n r);
      clock = λ d t s lent n r.
          let e = clock_left d t s lent n r in (
            ap (λ (o : ClockAllOutcome). o.answer.day) e,
            ap (λ (o : ClockAllOutcome). o.answer.made) e,
            ap (λ (o : ClockAllOutcome). o.books) e,
            ap (λ (o : ClockAllOutcome). o.trades) e,
          );
      fixed = λ d a main book lent n r.
          let e = fixed_left d a main book lent n r in (
            ap (λ (o : Outcome OrderAnswer). o.answer.day) e,
            ap (λ (o : Outcome OrderAnswer). o.answer.made) e,
            ap (λ (o : Outcome OrderAnswer). o.book) e,
            ap (λ (o : Outcome OrderAnswer). o.trades) e,
          );
      fixed_cancel = λ d account number n main book r. ap (λ (o : FixedCancelOutcome). o.book) (fixed_cancel_left_lem d account number main book n r);
      block = λ d a main held lent n r.
          let e = block_left_lem d a main held lent n r in (
            ap (λ (o : BlockOutcome). o.answer.day) e,
            ap (λ (o : BlockOutcome). o.answer.made) e,
            ap (λ (o : BlockOutcome). o.held) e,
            ap (λ (o : BlockOutcome). o.trades) e,
          );
    }
