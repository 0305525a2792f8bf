use Rattle.plan.specs.Model.{expr_in}
use Rattle.plan.specs.Terms.Expr.{alias}
use Rattle.lexicon.proofs.Begun.{at-once}
use Rattle.entries.specs.Spans.{stored_field}
use Rattle.terms.specs.Views.{view_of}
use Rattle.tables.specs.Holding.{view_in}
use Rattle.tables.proofs.Reusing.{held-reused, reused-answers}
use Rattle.tables.proofs.tables.Tables.alias_as.Goals as goal

pub invariant_of-self : goal.invariant_of-self
invariant_of-self c =
    let t = c.args.self.now in
    held-reused t (view_of c.alias_as.new.terms) (alias (expr_in (view_in t).trees c.args.inner.0) (stored_field (view_in t).bytes c.args.field)) c.alias_as.result c.alias_as.ensures.answer

pub returns : goal.returns
returns c =
    let t = c.args.self.now in
    record {
      answer = reused-answers t (view_of c.alias_as.new.terms) (alias (expr_in (view_in t).trees c.args.inner.0) (stored_field (view_in t).bytes c.args.field)) c.alias_as.result c.alias_as.ensures.answer;
      begins = record { terms = c.alias_as.ensures.begins; fields = at-once t.fields; plans = at-once t.plans };
    }
