-- No more blocks are good than were looked at; then what is behind them goes to the buffer's front. Assumes nothing.
use Rattle.std.proofs.Common.{arith, sym, length-take-le}
use Rattle.rescue_file.proofs.Turns.{seen_few, keeps}
use Rattle.rescue_file.proofs.serving.keep.Goals as goal

pub look-seen-requires : goal.look-seen-requires
look-seen-requires g c =
    let s = c.requires in
    let l = length-take-le c.args.n c.args.buf.now s.0 in
    (omega (arith, s, l), omega (arith, s, l))

pub overflow_mul-end : goal.overflow_mul-end
overflow_mul-end g c =
    let s = c.requires in
    let k = c.look-seen in
    let few = seen_few c.args.buf.now c.args.buf.now c.args.n _ _ c.args.h k.result s.0 s.2 k.ensures in
    omega (arith, s, few, k.ensures.few)

pub slice_bounds-written-end : goal.slice_bounds-written-end
slice_bounds-written-end g c =
    let s = c.requires in
    let k = c.look-seen in
    let few = seen_few c.args.buf.now c.args.buf.now c.args.n _ _ c.args.h k.result s.0 s.2 k.ensures in
    omega (arith, s, few)

pub slice_bounds-written-end-2 : goal.slice_bounds-written-end-2
slice_bounds-written-end-2 g c = sym (length-take-le _ _ (slice_bounds-written-end g c))

pub to_front-requires : goal.to_front-requires
to_front-requires g c =
    let s = c.requires in
    let k = c.look-seen in
    let few = seen_few c.args.buf.now c.args.buf.now c.args.n _ _ c.args.h k.result s.0 s.2 k.ensures in
    (omega (arith, s, few), s.0)

pub overflow_add-result : goal.overflow_add-result
overflow_add-result g c =
    let s = c.requires in
    let k = c.look-seen in
    let few = seen_few c.args.buf.now c.args.buf.now c.args.n _ _ c.args.h k.result s.0 s.2 k.ensures in
    omega (arith, s, few, k.ensures.few)

pub overflow_add-result-2 : goal.overflow_add-result-2
overflow_add-result-2 g c =
    let s = c.requires in
    let k = c.look-seen in
    let few = seen_few c.args.buf.now c.args.buf.now c.args.n _ _ c.args.h k.result s.0 s.2 k.ensures in
    omega (arith, s, few, k.ensures.few)

pub overflow_sub-result : goal.overflow_sub-result
overflow_sub-result g c =
    let s = c.requires in
    let k = c.look-seen in
    let few = seen_few c.args.buf.now c.args.buf.now c.args.n _ _ c.args.h k.result s.0 s.2 k.ensures in
    omega (arith, s, few, k.ensures.few)

pub returns : goal.returns
returns g c =
    let s = c.requires in
    let k = c.look-seen in
    keeps c.args.buf.now _ c.args.n _ _ c.args.h k.result s.0 s.2 k.ensures c.is_some.ensures c.to_front.ensures
