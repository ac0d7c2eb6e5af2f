-- The trades that a move of the clock writes, as demand 3 has them. Assumes nothing.
use Prim.Native.Nat.{ℕ}
use mathlib.Core.Path.{◌≡◌, refl, sym, ap, ◌∙◌}
use mathlib.Core.Bool.{Bool, cond}
use mathlib.Core.List.{List, []}
use native.Mathlib.Omega.{arith}
use lib.ListN.{length, take, drop}
use lib.Seq.{take_at}
use Rattle.model.specs.declared.Order.{Order}
use Rattle.model.specs.declared.Trade.{Trade}
use Rattle.model.specs.declared.Day.{Day}
use Rattle.model.specs.declared.ClockReply.TheVariants.{Moved}
use Rattle.model.specs.Calls.{written}
use Rattle.model.specs.ClockCall.{auction_trades, moved}
use Rattle.model.specs.Words.{Sound}
use Rattle.demands.specs.Pricing.{TradesThere, ClockTrades}
use Rattle.demands.proofs.Cases.{is_moved, made_of, clock_cases}
use Rattle.demands.proofs.OneAuction.{moved_trades}
use Rattle.demands.proofs.Pricings.{sound_stands, trades_there}

pub clock_trades : (d : Day) (book : List Order) → Sound d book → (t : ℕ) (lent : List Trade) → ClockTrades d t book lent
unfolding written
clock_trades d book k t lent = record {
  there = λ phase made e p.
      clock_cases d t book lent
      (λ o. o.answer.reply ≡ Moved phase made → TradesThere d book (take made o.trades))
      (λ _ r.
      let m : made ≡ length (moved d t book).trades = sym (ap made_of r) in
      let ts : (moved d t book).trades ≡ auction_trades d book =
      moved_trades d t book (sound_stands d book k) ∙ ap (λ (b : Bool). cond b (auction_trades d book) []) p
      in
      rw (m, take_at (moved d t book).trades (drop (length (moved d t book).trades) lent) (length (moved d t book).trades) refl, ts)
      (trades_there book (sound_stands d book k) d))
      (λ _ r. let z : ◌≡◌ {A = ℕ} 0 1 = ap is_moved r in absurd (omega arith))
      e;
  none_else = λ phase made e p.
      clock_cases d t book lent
      (λ o. o.answer.reply ≡ Moved phase made → made ≡ 0)
      (λ _ r.
      sym (ap made_of r)
      ∙ ap length (moved_trades d t book (sound_stands d book k) ∙ ap (λ (b : Bool). cond b (auction_trades d book) []) p))
      (λ _ r. let z : ◌≡◌ {A = ℕ} 0 1 = ap is_moved r in absurd (omega arith))
      e;
}
