-- Priority as one number, the same way for both sides: of two orders of a side the one with the smaller key stands first.
use Rattle.std.specs.Prelude.{ℕ, ◌+◌, ◌-◌, ◌*◌, eqb, if◌then◌else◌}
use Rattle.model.specs.declared.Order.{Order}

-- the better a price, the smaller its rank
unfoldable pub rank : ℕ → ℕ → ℕ
rank side price = if eqb side 0 then 1_000_000 - price else price

unfoldable pub key : Order → ℕ
key o = rank o.side o.price * 1_000_000 + o.number
