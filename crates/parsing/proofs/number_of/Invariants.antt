-- The value, and whether all are digits, of what is left of the word.
use Rattle.parsing.proofs.Words.{Reading}
use Rattle.parsing.proofs.number_of.Given as goal

abbrev pub invariant-loop-b : goal.invariant-loop-b
invariant-loop-b l = Reading l.word l.value l.b-index
