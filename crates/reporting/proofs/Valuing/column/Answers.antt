use Rattle.std.proofs.Common.{◌≡◌, ℕ, ◌+◌, ◌&&◌, leb, ltb, [], ◌∷◌, length, slice_index, Ok, subst}
use Rattle.plan.specs.Faults.{Asked, Settled}
use Rattle.plan.specs.declared.fault.Question.TheVariants.{Bounded}
use Rattle.tables.specs.Holding.{view_in}
use Rattle.terms.specs.Build.{numbers_in}
use Rattle.entries.specs.declared.node.ExprId.{ExprId}
use Rattle.looking.specs.Looking.{Looked, entry_count}
use Rattle.book.specs.Opened.{book_of}
use Rattle.evaluate.specs.Evaluating.{asked}
use Rattle.reporting.specs.Reporting.{ValueOf, column_of}
use Rattle.reporting.proofs.Settling.{settled-on}
use Rattle.reporting.proofs.Valuing.column.Goals as goal

pub returns : goal.returns
returns g c =
    let b = c.args.self.now.book.now in
    let m = book_of b in
    let meaning = g.E.Engine.meaning c.args.self.now.engine.now in
    let text = c.args.self.now.text.now in
    let list = c.args.report.list in
    let p = c.args.report.input.0 in
    let row = c.args.row.now in
    let e = column_of b c.args.report c.args.i in
    let listed = subst (λ t. Looked ((Bounded, leb (list.first + list.count) (entry_count t) && ltb c.args.i list.count) ∷ []) (λ (e : ExprId). e.0 ≡ slice_index (numbers_in (view_in t).entries list.first list.count) c.args.i) (Ok c.in_ok-e.e)) c.reader.ensures c.in_ok-e.ensures in
    let held : Asked = (Bounded, leb (list.first + list.count) (entry_count b.tables) && ltb c.args.i list.count) in
    let value = subst (λ (n : ℕ). Settled (asked m n p (length row) 256) (ValueOf m meaning text n p row) (Unit {0}) c.value.result) listed.1 c.value.ensures in
    settled-on (held ∷ []) (asked m e p (length row) 256) (ValueOf m meaning text e p row) c.value.result listed.0 value
