-- An arm for each question. Assumes nothing.
use mathlib.Core.Path.{ap}
use Rattle.printing.proofs.Printed.{put_as}
use Rattle.floors.specs.Floor.{report_line}
use Rattle.floor_desk.proofs.Questions.{report_told, list_told, verdict_told, screen_told, as_question}
use Rattle.floor_desk.proofs.asking.answer_question.Goals as goal

pub returns-in-Report : goal.returns-in-Report
returns-in-Report c =
    as_question c.in-Report.is
    (report_told c.args.claims.now c.args.noted (record { day = c.args.d; book = c.args.rows.now }) _ c.requires.1
    (put_as (ap report_line c.report_call.ensures) c.put_report-next.ensures) c.requires.2)

pub returns-in-Prices : goal.returns-in-Prices
returns-in-Prices c =
    as_question c.in-Prices.is
    (list_told c.args.claims.now c.args.noted (record { day = c.args.d; book = c.args.rows.now }) _ c.requires.1 _ _ c.answer_prices-next.ensures)

pub returns-in-Claims : goal.returns-in-Claims
returns-in-Claims c =
    as_question c.in-Claims.is (c.answer_claim.ensures (record { day = c.args.d; book = c.args.rows.now }))

pub returns-in-Judge : goal.returns-in-Judge
returns-in-Judge c =
    as_question c.in-Judge.is
    (verdict_told c.args.claims.now c.args.noted (record { day = c.args.d; book = c.args.rows.now }) _ c.requires.1 _ c.answer_verdict-next.ensures c.requires.2)

pub returns-in-Screen : goal.returns-in-Screen
returns-in-Screen c =
    as_question c.in-Screen.is
    (screen_told c.args.claims.now c.args.noted (record { day = c.args.d; book = c.args.rows.now }) _ c.requires.1 c.put_screen-next.ensures c.requires.2)
