-- What the call of a declaration promises: of the day, the lists that it is lent and of what is asked, its answer and the lists that it
-- leaves are those of the definitions' call. The main book is only read.
use Rattle.std.specs.Prelude.{ℕ, ◌≡◌, List}
use Rattle.model.specs.declared.AskedBlock.{AskedBlock}
use Rattle.model.specs.declared.Day.{Day}
use Rattle.model.specs.declared.BlockAnswer.{BlockAnswer}
use Rattle.model.specs.BlockCalls.{block_call}
use Rattle.book.specs.Promises.{block_left}
use Rattle.model.specs.declared.Order.{Order}
use Rattle.model.specs.declared.Trade.{Trade}
use Rattle.model.specs.declared.Declaration.{Declaration}

abbrev pub BlockPromise : Day → List Order → List Declaration → List Trade → AskedBlock → BlockAnswer → List Declaration → List Trade → Type 0
BlockPromise d main rows trades a answer rows' trades' =
    block_left answer rows' trades' ≡ block_call d a main rows trades
