-- The line with the order behind it matches at the close; or its trades outnumber the list, and it leaves again.
use mathlib.Core.Path.{refl}
use native.Mathlib.Omega.{arith}
use Rattle.fixed_calls.proofs.Entered.{inside, number_fits, priced, put_long, lined_then, fills, figures_fit_lem, leaves_again, matched_entry}
use Rattle.fixed_calls.proofs.Entries.{shares_dealt}
use Rattle.fixed_calls.proofs.entering.enter_late.Goals as goal

pub lacks_places-requires : goal.lacks_places-requires
lacks_places-requires c =
    lined_then c.args.d c.args.a c.args.rows.now c.args.place c.requires.welcome c.incoming_order.ensures
    refl

pub returns-then-lacks_places : goal.returns-then-lacks_places
returns-then-lacks_places c =
    let a = c.args in
    leaves_again a.d a.a a.rows.now a.place c.requires.welcome c.incoming_order.ensures refl
    c.requires.le_time c.reference_of-close.ensures a.trades.now c.free_place.ensures refl
    c.fixed_refused.ensures c.lacks_places.ensures c.if-lacks_places.true

pub deal_at_close-dealt-requires : goal.deal_at_close-dealt-requires
deal_at_close-dealt-requires c =
    lined_then c.args.d c.args.a c.args.rows.now c.args.place c.requires.welcome c.incoming_order.ensures
    refl

pub settle_at_close-requires : goal.settle_at_close-requires
settle_at_close-requires c =
    record {
      lined = lined_then c.args.d c.args.a c.args.rows.now c.args.place c.requires.welcome c.incoming_order.ensures
          refl;
      shares_value = shares_dealt _ c.deal_at_close-dealt.ensures.value;
    }

pub entry_of-entry-requires : goal.entry_of-entry-requires
entry_of-entry-requires c =
    let a = c.args in record {
      issued_bound = number_fits a.d a.a a.rows.now a.place c.requires.welcome;
      shares_le_quantity = fills a.d a.a a.rows.now a.place c.requires.welcome c.incoming_order.ensures refl
          c.requires.le_time c.reference_of-close.ensures c.deal_at_close-dealt.ensures.value;
      priced = priced a.d a.a a.rows.now a.place c.requires.welcome;
    }

pub issued_fixed-requires : goal.issued_fixed-requires
issued_fixed-requires c =
    number_fits c.args.d c.args.a c.args.rows.now c.args.place c.requires.welcome

pub tally_fixed-next-requires : goal.tally_fixed-next-requires
tally_fixed-next-requires c =
    let a = c.args in
    let f = figures_fit_lem a.d a.a a.rows.now a.place c.requires.welcome c.incoming_order.ensures refl
    c.requires.le_time c.reference_of-close.ensures c.deal_at_close-dealt.ensures.value c.issued_fixed.ensures in
    record { shares_bound = f.0; shares_bound_2 = f.1 }

pub returns : goal.returns
returns c =
    let a = c.args in
    matched_entry a.d a.a a.rows.now a.place c.requires.welcome c.incoming_order.ensures refl
    c.requires.le_time c.reference_of-close.ensures c.deal_at_close-dealt.ensures.value c.settle_at_close.new.rows a.trades.now
    c.lacks_places.ensures c.if-lacks_places.false c.deal_at_close-dealt.ensures.trades_after c.settle_at_close.ensures.rows_after
    c.entry_of-entry.ensures c.issued_fixed.ensures c.tally_fixed-next.ensures
