-- The report and the price list of the older book are those of the new one.
use Prim.Native.Nat.{ℕ}
use mathlib.Core.Path.{◌≡◌}
use mathlib.Core.List.{List}
use Rattle.model.specs.declared.Order.{Order}
use Rattle.model.specs.declared.Day.{Day}
use Rattle.model.specs.Auction.{auction_price}
use Rattle.model.specs.AuctionCalls.{report_rules, report_call, list_rules, list_call}
use Rattle.model.specs.Words.{Sound}
use Rattle.demands.specs.Older.{older_rules, older_report_call, older_list_call}
use Rattle.demands.proofs.SameQueues.{auction_alike, report_alike, due_alike}
use Rattle.demands.proofs.Twins.{Twin, twin_alike}
use Rattle.demands.proofs.OlderSound.{older_sound, newer_sound}

module _ {n : ℕ} {o c : List Order} (d : Day) (t : Twin n o c) (s : Sound d c) where
  pub older_report : older_report_call d o ≡ report_call d c
  unfolding older_report_call report_call older_rules report_rules
  older_report =
      rw (older_sound d t s, newer_sound d t s, auction_alike o c (twin_alike t) d, report_alike o c (twin_alike t) (auction_price d c))

  pub older_list : (asked : ℕ) (lent : List ℕ) → older_list_call d asked o lent ≡ list_call d asked c lent
  unfolding older_list_call list_call older_rules list_rules
  older_list asked lent = rw (older_sound d t s, newer_sound d t s, due_alike o c (twin_alike t) asked)
