-- Numbers with a sign as words of 64 bits, both ways, and the report's numbers as words: its surplus has a sign.
use Rattle.std.specs.Prelude.{ℕ, suc, ◌-◌, ◌^◌, List, map, ℤ, pos, negsuc, ltb, if◌then◌else◌}
use Rattle.model.specs.declared.ReportReply.{ReportReply}
use Rattle.model.specs.Replies.{report_numbers}

-- a number with a sign as 64 bits, in two's complement
unfoldable pub word : ℤ → ℕ
word (pos n) = n
word (negsuc n) = 2 ^ 64 - suc n

-- the number with a sign that a word stands for: its upper half is below zero
unfoldable pub signed : ℕ → ℤ
signed x = if ltb x (2 ^ 63) then pos x else negsuc (2 ^ 64 - suc x)

unfoldable pub report_words : ReportReply → List ℕ
report_words r = map word (report_numbers r)
