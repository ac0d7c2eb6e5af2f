-- How many bytes each record has. Assumes nothing.
use Rattle.std.specs.Prelude.{ℕ, ◌*◌, ◌≡◌, List, length}
use Rattle.model.specs.declared.Order.{Order}
use Rattle.model.specs.declared.Declaration.{Declaration}
use Rattle.model.specs.declared.Trade.{Trade}
use Rattle.octets.specs.Numbers.{digits}
use Rattle.octets.proofs.Digits.{length_digits}
use Rattle.octets.proofs.Parts.{length_flat}
use Rattle.records.specs.Layout.{row_of, declaration_row, trade_row, bytes, order_bytes, declaration_bytes, trade_bytes}

pub length_bytes : (ns : List ℕ) → length (bytes ns) ≡ 8 * length ns
unfolding bytes
length_bytes ns = length_flat (digits 8) 8 (length_digits 8) ns

pub length_order : (o : Order) → length (order_bytes o) ≡ 40
length_order o = length_bytes (row_of o)

pub length_declaration : (x : Declaration) → length (declaration_bytes x) ≡ 56
length_declaration x = length_bytes (declaration_row x)

pub length_trade : (t : Trade) → length (trade_bytes t) ≡ 48
length_trade t = length_bytes (trade_row t)
