use Rattle.std.proofs.Common.{◌≡◌, [], ◌∷◌, ◌++◌, length, Ok, Err, Result, rules}
use Rattle.plan.specs.Faults.{Settled}
use Rattle.plan.specs.declared.fault.Fault.{Fault}
use Rattle.book.specs.Opened.{book_of}
use Rattle.evaluate.specs.Evaluating.{asked}
use Rattle.reporting.specs.Reporting.{Gives, ValueOf, column_asked, column_of}
use Rattle.reporting.specs.declared.Outcome.{Outcome}
use Rattle.reporting.proofs.Settling.{refused-first, refused-last, settled-on}
use Rattle.reporting.proofs.Valuing.outcome.Goals as goal

pub returns-in_err-event : goal.returns-in_err-event
returns-in_err-event g c =
    let b = c.args.self.now.book.now in
    let m = book_of b in
    let meaning = g.E.Engine.meaning c.args.self.now.engine.now in
    let text = c.args.self.now.text.now in
    let report = c.args.report in
    let row = c.args.row.now in
    let r = c.from_residual.result in
    let e : r ≡ Err c.in_err-event.field-0.0 = search rules in
    refused-first (ValueOf m meaning text (column_of b report 0) report.input.0 row) (Gives b meaning text report row) c.in_err-event.field-0.0 r e
    (column_asked b report 0 (length row)) (column_asked b report 1 (length row) ++ asked m report.predicate.0 report.projection.0 2 256) c.in_err-event.ensures

pub returns-in_err-start : goal.returns-in_err-start
returns-in_err-start g c =
    let b = c.args.self.now.book.now in
    let m = book_of b in
    let meaning = g.E.Engine.meaning c.args.self.now.engine.now in
    let text = c.args.self.now.text.now in
    let report = c.args.report in
    let row = c.args.row.now in
    let P = Gives b meaning text report row in
    let r = c.from_residual-in_err-start.result in
    let e : r ≡ Err c.in_err-start.field-0.0 = search rules in
    let second = column_asked b report 1 (length row) in
    let third = asked m report.predicate.0 report.projection.0 2 256 in
    let later = refused-first (ValueOf m meaning text (column_of b report 1) report.input.0 row) P c.in_err-start.field-0.0 r e second third c.in_err-start.ensures in
    settled-on (column_asked b report 0 (length row)) (second ++ third) P r c.in_ok-event.ensures.0 later

pub returns-in_err-filter : goal.returns-in_err-filter
returns-in_err-filter g c =
    let b = c.args.self.now.book.now in
    let m = book_of b in
    let meaning = g.E.Engine.meaning c.args.self.now.engine.now in
    let text = c.args.self.now.text.now in
    let report = c.args.report in
    let row = c.args.row.now in
    let P = Gives b meaning text report row in
    let r = c.from_residual-in_err-filter.result in
    let e : r ≡ Err c.in_err-filter.field-0.0 = search rules in
    let second = column_asked b report 1 (length row) in
    let third = asked m report.predicate.0 report.projection.0 2 256 in
    let given = c.in_ok-event.event ∷ c.in_ok-start.start ∷ [] in
    let last = refused-last (ValueOf m meaning text report.predicate.0 report.projection.0 given) P c.in_err-filter.field-0.0 r e third c.in_err-filter.ensures in
    settled-on (column_asked b report 0 (length row)) (second ++ third) P r c.in_ok-event.ensures.0 (settled-on second third P r c.in_ok-start.ensures.0 last)

pub returns : goal.returns
returns g c =
    let b = c.args.self.now.book.now in
    let m = book_of b in
    let report = c.args.report in
    let row = c.args.row.now in
    let P = Gives b (g.E.Engine.meaning c.args.self.now.engine.now) c.args.self.now.text.now report row in
    let r : Result Outcome Fault = Ok (record { event = c.in_ok-event.event; start = c.in_ok-start.start; filter = c.in_ok-filter.filter }) in
    let second = column_asked b report 1 (length row) in
    let third = asked m report.predicate.0 report.projection.0 2 256 in
    let own : Settled third P (Unit {0}) r = (c.in_ok-filter.ensures.0, (c.in_ok-event.ensures.1, c.in_ok-start.ensures.1, c.in_ok-filter.ensures.1)) in
    settled-on (column_asked b report 0 (length row)) (second ++ third) P r c.in_ok-event.ensures.0 (settled-on second third P r c.in_ok-start.ensures.0 own)
