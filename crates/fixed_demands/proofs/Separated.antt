-- The fixed-price book by itself: the proofs of its statement, together. Assumes nothing.
use Prim.Native.Nat.{ℕ, suc, ◌+◌, ◌≤◌, ◌<◌}
use mathlib.Core.Path.{◌≡◌, refl, sym, ap}
use mathlib.Core.List.{List}
use native.Mathlib.Omega.{arith}
use lib.ListN.{take}
use borrow.Author.Tests.{le-leb}
use Rattle.model.specs.declared.Order.{Order}
use Rattle.model.specs.declared.AskedFixed.{AskedFixed}
use Rattle.model.specs.declared.Trade.{Trade}
use Rattle.model.specs.declared.Fixed.{Fixed}
use Rattle.model.specs.declared.Day.{Day}
use Rattle.model.specs.declared.Entry.{Entry}
use Rattle.model.specs.declared.OrderReply as OrderReply
use Rattle.model.specs.declared.OrderAnswer.{OrderAnswer}
use Rattle.model.specs.Clock.{day_end}
use Rattle.model.specs.Matching.{filled}
use Rattle.model.specs.Figures.{money, reference, next_fixed, with_fixed_figures, with_block_figures, issue_fixed, tally_fixed, published_shares, published_turnover}
use Rattle.model.specs.Halts.{runs, phase_now}
use Rattle.model.specs.Auction.{auction_price}
use Rattle.model.specs.Screen.{shown_price, screen_of}
use Rattle.model.specs.Calls.{Outcome}
use Rattle.model.specs.FixedCalls.{fixed_trades, fixed_entered, fixed_call}
use Rattle.fixed_demands.specs.SeparateFixed.{SameButTotals, SeparateFixed}
use Rattle.fixed_demands.proofs.FixedCases.{fixed_cases}
use Rattle.fixed_demands.proofs.OtherFigures.{screen_same}
use Rattle.fixed_demands.proofs.Entered.{taken_call}
use Rattle.fixed_demands.proofs.CancelOwn.{takes_out, cancel_refused_lem}
use Rattle.fixed_demands.proofs.OthersStay.{written_trades, stays_less, stays, rests}

-- ---- the day

order_aside :
    (d : Day) (a : AskedFixed) (main book : List Order) (lent : List Trade)
    → let e : Day = (fixed_call d a main book lent).answer.day in e ≡ with_fixed_figures e.fixed d
unfolding with_fixed_figures tally_fixed issue_fixed fixed_entered
order_aside d a main book lent =
    fixed_cases d a main book lent (λ o. o.answer.day ≡ with_fixed_figures o.answer.day.fixed d) (λ _. refl) (λ _. refl)

order_counts :
    (d : Day) (a : AskedFixed) (main book : List Order) (lent : List Trade) (e : Entry)
    → let o : Outcome OrderAnswer = fixed_call d a main book lent in
    o.answer.reply ≡ OrderReply.TheVariants.Accepted e
    → (o.answer.day.fixed.issued ≡ suc d.fixed.issued)
    × (o.answer.day.fixed.shares ≡ d.fixed.shares + filled (take o.answer.made o.trades))
    × (o.answer.day.fixed.money ≡ d.fixed.money + money (take o.answer.made o.trades))
unfolding with_fixed_figures tally_fixed issue_fixed next_fixed fixed_entered
order_counts d a main book lent e r =
    let same : (fixed_call d a main book lent).answer.day ≡ tally_fixed (fixed_trades d a book) (issue_fixed d) =
    ap (λ (o : Outcome OrderAnswer). o.answer.day) (taken_call d a main book lent e r).1 in
    rw (written_trades d a main book lent e r) (
      ap (λ (x : Day). x.fixed.issued) same,
      ap (λ (x : Day). x.fixed.shares) same,
      ap (λ (x : Day). x.fixed.money) same,
    )

order_refused_lem :
    (d : Day) (a : AskedFixed) (main book : List Order) (lent : List Trade) (n : ℕ)
    → let o : Outcome OrderAnswer = fixed_call d a main book lent in
    o.answer.reply ≡ OrderReply.TheVariants.Refused n
    → (o.answer.day ≡ d) × (o.answer.made ≡ 0) × (o.book ≡ book) × (o.trades ≡ lent)
order_refused_lem d a main book lent n =
    fixed_cases d a main book lent
    (λ o. o.answer.reply ≡ OrderReply.TheVariants.Refused n → (o.answer.day ≡ d) × (o.answer.made ≡ 0) × (o.book ≡ book) × (o.trades ≡ lent))
    (λ _. unfold fixed_entered in λ r. let z : ◌≡◌ {A = ℕ} 0 1 = cc in absurd (omega arith))
    (λ _ r. (refl, refl, refl, refl))

-- ---- the screen

screen_before :
    (d : Day) (f : Fixed) (book : List Order) (high low : ℕ)
    → d.time < day_end
    → screen_of (with_fixed_figures f d) book high low ≡ screen_of d book high low
unfolding day_end with_fixed_figures with_block_figures
screen_before d f book high low l = sym (screen_same f d.blocks d book l high low)

same_but_totals : (d : Day) (f : Fixed) (book : List Order) (high low : ℕ) → SameButTotals (screen_of d book high low) (screen_of (with_fixed_figures f d) book high low)
unfolding screen_of shown_price phase_now runs auction_price reference with_fixed_figures
same_but_totals d f book high low =
    record { last = refl; high = refl; low = refl; buys = refl; sells = refl; price = refl; volume = refl; surplus = refl }

joined :
    (d : Day)
    → day_end ≤ d.time
    → (published_shares d ≡ d.shares + d.fixed.shares + d.blocks.shares) × (published_turnover d ≡ d.turnover + d.fixed.money)
unfolding published_shares published_turnover
joined d l = let e = le-leb day_end d.time l in (rw e, rw e)

pub separate_fixed : SeparateFixed
separate_fixed =
    record {
      order = order_aside;
      counts = order_counts;
      refused = order_refused_lem;
      cancel_refused = cancel_refused_lem;
      takes_out = takes_out;
      stays_less = stays_less;
      stays = stays;
      rests = rests;
      screen_before = screen_before;
      screen = same_but_totals;
      joined = joined;
    }
