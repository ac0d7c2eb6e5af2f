-- What is printed fits the buffer: a line of a letter and up to five numbers, also after sixteen trades. Assumes nothing.
use Prim.Native.Nat.{ℕ, ◌+◌, ◌≤◌}
use mathlib.Core.Path.{◌≡◌}
use mathlib.Core.List.{List}
use native.Mathlib.Omega.{arith}
use lib.ListN.{length, take}
use Rattle.model.specs.Lines.{reply, trade_lines}
use Rattle.printing.specs.Printing.{Wrote}
use Rattle.printing.proofs.Printed.{put_long, reply_fits}
use Rattle.printing.proofs.Replied.{trades_room}
use Rattle.model.specs.declared.Trade.{Trade}

pub reply_short : (letter : ℕ) (numbers : List ℕ) → length numbers ≤ 5 → length (reply letter numbers) ≤ 110
reply_short letter numbers h = omega (arith, reply_fits letter numbers, h)

pub room_behind :
    (rows : List Trade) (n : ℕ) {out out' : List ℕ} {p : ℕ}
    → Wrote out 0 (trade_lines (take n rows)) out' p
    → n ≤ 16
    → length rows ≡ 16
    → 4096 ≤ length out
    → p + 110 ≤ length out'
room_behind rows n w h e r =
    let f : n ≤ length rows = omega (arith, h, e) in
    omega (arith, trades_room rows n w f, put_long w, h, r)
