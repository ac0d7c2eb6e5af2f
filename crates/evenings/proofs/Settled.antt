-- What is left of the fixed-price book at 15:05 is a line again. Assumes nothing.
use Prim.Native.Nat.{ℕ}
use mathlib.Core.Path.{◌≡◌, sym}
use mathlib.Core.Bool.{Bool, not}
use mathlib.Core.List.{List}
use native.Mathlib.Omega.{arith}
use lib.ListN.{length, length-map}
use Rattle.model.specs.declared.Order.{Order}
use Rattle.model.specs.declared.Trade.{Trade}
use Rattle.model.specs.Lists.{keep}
use Rattle.model.specs.Book.{free}
use Rattle.model.specs.Matching.{settle}
use Rattle.model.specs.FixedBook.{is_void, matches, lined}
use Rattle.model.specs.Words.{Each, Apart}
use Rattle.book.specs.Standing.{Fair, Standing}
use Rattle.book.proofs.Lists.{each_keep}
use Rattle.book.proofs.Kept.{fair_free, free_number, standing_settle}
use Rattle.arrivals.proofs.Lines.{in_line}
use Rattle.arrivals.proofs.Places.{kept_rises}
use Rattle.fixed_book.specs.Ready.{Lined}
use Rattle.fixed_demands.proofs.Lining.{nr, rising_apart, settled_rises, lined_length, lined_each, lined_arrives}

module _ (close : ℕ) (fixed : List Order) (l : Lined fixed) where
  abbrev stay : List Order
  stay = keep (λ o. not (is_void close o)) fixed

  abbrev ts : List Trade
  ts = matches close stay

  fair : Each Fair (settle ts stay)
  fair =
      let rises = kept_rises nr free free_number (λ o. not (is_void close o)) fixed (in_line nr fixed l.arrived) in
      let stands : Standing stay =
      record { fair = each_keep Fair (λ o. not (is_void close o)) fixed l.fair; apart = rising_apart 0 stay rises } in
      (standing_settle ts stay stands).fair

  pub settled_lined : {left : List Order} → left ≡ lined (length fixed) (settle ts stay) → Lined left
  settled_lined e =
      rw e
      (record {
        fair = lined_each Fair (length fixed) (settle ts stay) fair_free fair;
        arrived =
            lined_arrives (length fixed) (settle ts stay)
            (settled_rises ts 0 stay (kept_rises nr free free_number (λ o. not (is_void close o)) fixed (in_line nr fixed l.arrived)));
        few = omega (arith, lined_length (length fixed) (settle ts stay), l.few);
      })
