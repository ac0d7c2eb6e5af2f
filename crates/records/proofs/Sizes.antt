-- How many bytes a day and the lists have. Assumes nothing.
use Prim.Native.Nat.{◌*◌}
use mathlib.Core.Path.{◌≡◌}
use mathlib.Core.List.{List}
use lib.ListN.{length}
use Rattle.model.specs.declared.Order.{Order}
use Rattle.model.specs.declared.Declaration.{Declaration}
use Rattle.model.specs.declared.Trade.{Trade}
use Rattle.model.specs.declared.Day.{Day}
pub use Rattle.records.specs.Lengths.{length_bytes, length_order, length_declaration, length_trade}
use Rattle.octets.proofs.Parts.{length_flat}
use Rattle.records.specs.Layout.{order_bytes, declaration_bytes, trade_bytes, book_bytes, declarations_bytes, trades_bytes, day_row, day_bytes}

pub length_day : (d : Day) → length (day_bytes d) ≡ 352
unfolding day_bytes
length_day d = length_bytes (day_row d)

pub length_book : (book : List Order) → length (book_bytes book) ≡ 40 * length book
unfolding book_bytes
length_book book = length_flat order_bytes 40 length_order book

pub length_declarations : (held : List Declaration) → length (declarations_bytes held) ≡ 56 * length held
unfolding declarations_bytes
length_declarations held = length_flat declaration_bytes 56 length_declaration held

pub length_trades : (ts : List Trade) → length (trades_bytes ts) ≡ 48 * length ts
unfolding trades_bytes
length_trades ts = length_flat trade_bytes 48 length_trade ts
