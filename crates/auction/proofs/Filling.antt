-- What the auction comes to, from where the walk along both sides has ended: at a price that is left what has traded is the volume,
-- and what is left of the buys less what is left of the sells is the surplus.
use Prim.Native.Nat.{ℕ, suc, ◌+◌, ◌-◌, ◌≤◌, ◌<◌}
use mathlib.Core.Path.{◌≡◌, sym, ap, ◌∙◌}
use mathlib.Core.List.{List}
use native.Mathlib.Decide.{dec_lt, ℕ_discrete}
use native.Mathlib.Omega.{arith}
use lib.ListN.{length, get_or}
use lib.IntN.{ℤ, pos, negsuc, sub_ℕ}
use borrow.Author.Tests.{lt-ltb, le-ltb, ne_eqb}
use mir.Syntax.{w64}
use mir.Val.{to_z, of_z}
use mir.ValLaws.{to_z-of_z}
use Rattle.model.specs.declared.Order.{Order}
use Rattle.model.specs.declared.ReportReply.TheVariants.{Priced}
use Rattle.model.specs.Book.{queue}
use Rattle.model.specs.Auction.{demand, supply, surplus, left_by}
use Rattle.model.specs.AuctionCalls.{report_at}
use Rattle.book.specs.Standing.{Ranked}
use Rattle.book.specs.Lines.{line}
use Rattle.auction.specs.declared.Stop.{Stop}
use Rattle.auction.specs.Walks.{left_at, FillsAt, StopOf}
use Rattle.auction.specs.Fixings.{fixing_at}
use Rattle.auction.proofs.Sides.{demand_bound, supply_bound}
use Rattle.auction.proofs.Ties.{price_inside}
use Rattle.auction.proofs.Signed.{difference_fits}
use Rattle.auction.proofs.Stretches.{Stretches, stretches_of}

-- shares that both have make no difference
sub_both : (v a b : ℕ) → sub_ℕ a b ≡ sub_ℕ (v + a) (v + b)
sub_both v a b = elim (dec_lt a b) [
  | yes h ↦
      let e : b - suc a ≡ v + b - suc (v + a) = omega arith in
      rw (lt-ltb a b h, lt-ltb (v + a) (v + b) (omega arith)) (ap negsuc e)
  | no h ↦
      let e : a - b ≡ v + a - (v + b) = omega arith in
      rw (le-ltb a b (omega arith), le-ltb (v + a) (v + b) (omega arith)) (ap pos e)
]

fixing_zero : (os : List Order) {p : ℕ} → p ≡ 0 → record { price = 0; volume = 0; surplus = pos 0 } ≡ fixing_at p os
unfolding fixing_at
fixing_zero os z = rw z

-- the numbers of the report
pub report_is_fixing :
    (p : ℕ) (os : List Order)
    → report_at p os ≡ Priced (fixing_at p os).price (fixing_at p os).volume (fixing_at p os).surplus
unfolding report_at fixing_at
report_is_fixing p os = elim (ℕ_discrete p 0) [
  | yes z ↦ rw z
  | no n ↦ rw (ne_eqb p 0 n)
]

pub fixing_none :
    (os : List Order) (ref : ℕ) {p : ℕ}
    → p ≡ get_or (left_by os ref) 0 0
    → p ≡ 0
    → record { price = 0; volume = 0; surplus = pos 0 } ≡ fixing_at (get_or (left_by os ref) 0 0) os
fixing_none os ref e z = fixing_zero os (sym e ∙ z)

module _
    (rows : List Order) (ranked : Ranked rows) {middle end : ℕ}
    (em : middle ≡ length (queue 0 rows)) (en : end ≡ length (queue 0 rows) + length (queue 1 rows))
    {stop : Stop} (k : StopOf rows middle end stop) (ref : ℕ) {p : ℕ}
    (e : p ≡ get_or (left_by rows ref) 0 0) (n : p ≡ 0 → ⊥)
  where
    abbrev book : List Order
    book = rows

    w : Stretches rows middle end
    w = stretches_of rows ranked em en

    there : FillsAt rows middle end stop p
    there =
        let i = price_inside book ref k.span e n in
        k.fills p (omega arith) i.0 i.1

    pub left_buys_fit :
        (middle ≤ length rows)
        × ((0 < stop.buy.left → stop.buy.at < middle)
        × (left_at p stop.buy (line (stop.buy.at + 1) middle rows) ≤ 4_096_000_000))
    left_buys_fit = (w.short_buys, (k.buying, omega (arith, there.buys, demand_bound book p ranked)))

    pub left_sells_fit :
        (end ≤ length rows)
        × ((0 < stop.sell.left → stop.sell.at < end)
        × (left_at p stop.sell (line (stop.sell.at + 1) end rows) ≤ 4_096_000_000))
    left_sells_fit = (w.short_sells, (k.selling, omega (arith, there.sells, supply_bound book p ranked)))

    module _
        {buys sells : ℕ} (hb : buys ≡ left_at p stop.buy (line (stop.buy.at + 1) middle rows))
        (hs : sells ≡ left_at p stop.sell (line (stop.sell.at + 1) end rows))
      where
        pub left_small : (buys ≤ 4_096_000_000) × (sells ≤ 4_096_000_000)
        left_small = (omega (arith, hb, left_buys_fit.1.1), omega (arith, hs, left_sells_fit.1.1))

        surplus_is : sub_ℕ buys sells ≡ surplus book p
        unfolding surplus
        surplus_is =
            let d : stop.crossed.shares + buys ≡ demand book p = omega (arith, hb, there.buys) in
            let s : stop.crossed.shares + sells ≡ supply book p = omega (arith, hs, there.sells) in
            sub_both stop.crossed.shares buys sells ∙ rw (d, s)

        pub fixing_some :
            {z : ℤ}
            → z ≡ sub_ℕ buys sells
            → record { price = p; volume = stop.crossed.shares; surplus = to_z w64 (of_z w64 z) }
            ≡ fixing_at (get_or (left_by book ref) 0 0) book
        unfolding fixing_at
        fixing_some {z} hz =
            let u : to_z w64 (of_z w64 z) ≡ surplus book p =
            ap (λ (y : ℤ). to_z w64 (of_z w64 y)) hz
            ∙ to_z-of_z w64 (sub_ℕ buys sells) (difference_fits buys sells left_small.0 left_small.1)
            ∙ surplus_is
            in
            rw (← e, ne_eqb p 0 n, u, there.trades)
