-- The refusal's number of a reply, 0 where it is accepted: the first of the paper's numbers.
use Rattle.std.specs.Prelude.{ℕ, get_or}
use Rattle.model.specs.declared.OpenReply.{OpenReply}
use Rattle.model.specs.Replies.{open_numbers}

unfoldable pub open_refusal : OpenReply → ℕ
open_refusal r = get_or (open_numbers r) 0 0
