-- A refusal, or the auction's figures. Assumes nothing.
use borrow.Author.Rules.{rules}
use mir.Syntax.{w64}
use mir.ValLaws.{to_z-of_z}
use Rattle.printing.proofs.Printed.{put_as}
use Rattle.floor_printing.proofs.Signing.{refused_report, priced_report}
use Rattle.floor_printing.proofs.put_report.Goals as goal

pub returns-in-Refused : goal.returns-in-Refused
returns-in-Refused c = put_as (refused_report c.in-Refused.is) c.put_refusal.ensures

pub returns-in-Priced : goal.returns-in-Priced
returns-in-Priced c =
    put_as (priced_report c.in-Priced.is (to_z-of_z w64 _ (search rules))) c.put_priced.ensures
