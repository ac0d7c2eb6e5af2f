-- `records::numbers::number_at` meets its contract. Assumes nothing.
use Prim.Native.Nat.{◌+◌, ◌-◌}
use mathlib.Core.Path.{◌≡◌, ap, ◌∙◌}
use native.Mathlib.Omega.{arith}
use lib.ListN.{take, drop}
use Rattle.octets.specs.Numbers.{worth}
use Rattle.octets.proofs.Words.{word_worth}
use Rattle.records.proofs.numbers.number_at.Goals as goal

pub returns : goal.returns
returns c =
    let eight : c.args.at + 8 - c.args.at ≡ 8 = omega arith in
    let copy = c.copy_from_slice in
    let same : copy.new.self ≡ take 8 (drop c.args.at c.args.b.now) = rw eight at copy.ensures.after in
    c.from_le_bytes.ensures ∙ word_worth copy.new.self copy.ensures.len ∙ ap worth same
