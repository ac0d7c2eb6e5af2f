-- `replies::word_of` meets its contract: the laws of a number's sign. Assumes nothing.
use Rattle.replies.proofs.Signs.{below_fits, below_casts, below_small, below_word, above_casts, above_word}
use Rattle.replies.proofs.word_of.Goals as goal

pub overflow_sub-below : goal.overflow_sub-below
overflow_sub-below c = below_fits c.args.z c.ranges.z c.if-z-lt0.true

pub overflow_cast-result : goal.overflow_cast-result
overflow_cast-result c = below_casts c.args.z c.ranges.z c.if-z-lt0.true

pub overflow_sub-result : goal.overflow_sub-result
overflow_sub-result c = below_small c.args.z c.ranges.z c.if-z-lt0.true

pub returns-then-z-lt0 : goal.returns-then-z-lt0
returns-then-z-lt0 c = below_word c.args.z c.ranges.z c.if-z-lt0.true

pub overflow_cast-result-2 : goal.overflow_cast-result-2
overflow_cast-result-2 c = above_casts c.args.z c.ranges.z c.if-z-lt0.false

pub returns : goal.returns
returns c = above_word c.args.z c.ranges.z c.if-z-lt0.false
