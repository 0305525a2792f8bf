use Rattle.plan.specs.Model.{expr_in, no_expr}
use Rattle.plan.specs.Terms.Expr.{alias}
use Rattle.terms.specs.Acceptance.{acceptable}
use Rattle.entries.specs.Spans.{stored_field}
use Rattle.tables.specs.Holding.{model_of, view_in}
use Rattle.lexicon.proofs.Frames.{every-at}
use Rattle.extracting.proofs.Accepted.{alias-parts}
use Rattle.extracting.proofs.Built.{reused-built}
use Rattle.extracting.proofs.Numbers.{alias-number}
use Rattle.extracting.proofs.rebuilding.realias.Goals as goal

pub alias_as-requires-clause-good : goal.alias_as-requires-clause-good
alias_as-requires-clause-good c =
    let t = c.args.tables.now in
    let v = view_in t in
    (alias-parts v.functions _ (expr_in v.trees c.args.inner.0) (stored_field v.bytes c.args.field) c.requires.tree (every-at (acceptable v.functions) v.trees c.args.e.0 no_expr c.requires.present t.terms.accepted)).0

pub returns-clause-answer : goal.returns-clause-answer
returns-clause-answer c =
    let t = c.args.tables.now in
    let v = view_in t in
    let f = stored_field v.bytes c.args.field in
    let low = alias-number (model_of t) c.args.e.0 c.args.made.0 (expr_in v.trees c.args.inner.0) f c.requires.tree in
    reused-built t c.alias_as.new.self (alias (expr_in v.trees c.args.made.0) f) c.alias_as.result low c.alias_as.ensures.answer
