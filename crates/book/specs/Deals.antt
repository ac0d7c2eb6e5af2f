-- What a run of trades comes to.
use Rattle.std.specs.Prelude.{List, length}
use Rattle.model.specs.declared.Trade.{Trade}
use Rattle.model.specs.Matching.{filled}
use Rattle.book.specs.declared.Dealt.{Dealt}

unfoldable pub dealt : List Trade → Dealt
dealt ts = record { made = length ts; shares = filled ts }
