use Rattle.plan.specs.Terms.Expr.{reference}
use Rattle.lexicon.proofs.Begun.{at-once}
use Rattle.entries.specs.Spans.{stored_field}
use Rattle.terms.specs.Views.{view_of}
use Rattle.tables.specs.Holding.{view_in}
use Rattle.tables.proofs.Reusing.{held-reused, reused-answers}
use Rattle.tables.proofs.tables.Tables.column.Goals as goal

pub invariant_of-self : goal.invariant_of-self
invariant_of-self c =
    let t = c.args.self.now in
    held-reused t (view_of c.column.new.terms) (reference (stored_field (view_in t).bytes c.args.field)) c.column.result c.column.ensures.answer

pub returns : goal.returns
returns c =
    let t = c.args.self.now in
    record {
      answer = reused-answers t (view_of c.column.new.terms) (reference (stored_field (view_in t).bytes c.args.field)) c.column.result c.column.ensures.answer;
      begins = record { terms = c.column.ensures.begins; fields = at-once t.fields; plans = at-once t.plans };
    }
