-- The prices of a run and then the reply, or a refusal. Assumes nothing.
use native.Mathlib.Omega.{arith}
use Rattle.printing.proofs.Printed.{and_then, put_as}
use Rattle.floor_desk.proofs.Questions.{list_refused, list_small, list_listed, prices_left, prices_within, refusal_within}
use Rattle.floor_desk.proofs.asking.answer_prices.Goals as goal

pub put_prices-p-requires : goal.put_prices-p-requires
put_prices-p-requires c =
    let k = list_small c.args.d c.args.rows.now c.args.asked c.args.count _ c.lent_places.ensures c.list_run-told.ensures c.list_reply-reply.ensures c.in-Prices.is in
    (k.1, omega (arith, k.0, c.requires))

pub put_listed-requires-in-Prices : goal.put_listed-requires-in-Prices
put_listed-requires-in-Prices c =
    let k = list_small c.args.d c.args.rows.now c.args.asked c.args.count _ c.lent_places.ensures c.list_run-told.ensures c.list_reply-reply.ensures c.in-Prices.is in
    prices_left c.in-Prices.run'.first c.in-Prices.run'.count c.put_prices-p.ensures k.0 c.requires

pub returns-in-Refused : goal.returns-in-Refused
returns-in-Refused c =
    let w = c.put_listed.ensures in
    (put_as (list_refused c.args.d c.args.rows.now c.args.asked c.args.count _ c.lent_places.ensures c.list_run-told.ensures c.list_reply-reply.ensures c.in-Refused.is) w, refusal_within _ c.requires w)

pub returns-in-Prices : goal.returns-in-Prices
returns-in-Prices c =
    let w = c.put_listed-in-Prices.ensures in
    let k = list_small c.args.d c.args.rows.now c.args.asked c.args.count _ c.lent_places.ensures c.list_run-told.ensures c.list_reply-reply.ensures c.in-Prices.is in (
      put_as (list_listed c.args.d c.args.rows.now c.args.asked c.args.count _ c.lent_places.ensures c.list_run-told.ensures c.list_reply-reply.ensures c.in-Prices.is) (and_then c.put_prices-p.ensures w),
      prices_within c.in-Prices.run'.first c.in-Prices.run'.count c.put_prices-p.ensures k.0 c.requires _ w,
    )
