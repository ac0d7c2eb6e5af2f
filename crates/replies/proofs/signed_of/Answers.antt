-- `replies::signed_of` meets its contract: the laws of a number's sign, from its word. Assumes nothing.
use Rattle.replies.proofs.Signs.{low_signed, high_fits, high_signed}
use Rattle.replies.proofs.signed_of.Goals as goal

pub returns-then-x-lt9223372036854775808 : goal.returns-then-x-lt9223372036854775808
returns-then-x-lt9223372036854775808 c = low_signed c.args.x c.if-x-lt9223372036854775808.true

pub overflow_sub-result : goal.overflow_sub-result
overflow_sub-result c = high_fits c.args.x c.ranges.x.fits c.if-x-lt9223372036854775808.false

pub returns : goal.returns
returns c = high_signed c.args.x c.ranges.x.fits c.if-x-lt9223372036854775808.false
