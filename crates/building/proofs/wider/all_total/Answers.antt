use Rattle.std.proofs.Common.{length, ◌∙◌, rules, tests}
use Rattle.std.proofs.lemmas.Iterator.{YieldsList-from_slice}
use Rattle.std.proofs.lemmas.Iterator.Search.{all_from_yields_List}
use Rattle.plan.specs.Functions.{is_total}
use Rattle.plan.specs.Model.{expr_in}
use Rattle.tables.specs.Holding.{view_in}
use Rattle.entries.specs.declared.node.ExprId.{ExprId}
use Rattle.terms.proofs.Walks.{every-twice, serves_low}
use Rattle.building.proofs.wider.all_total.Goals as goal

pub all-requires-clause-callable : goal.all-requires-clause-callable
all-requires-clause-callable c =
    let n = length (view_in c.args.tables.now).trees in
    serves_low (λ y. y.0) n (YieldsList-from_slice c.args.ids.now c.iter.ensures.rest) c.requires (λ x q k. search rules) (λ x h. search rules)

pub returns : goal.returns
returns c =
    let v = view_in c.args.tables.now in
    all_from_yields_List (λ (e : ExprId). is_total v.functions (expr_in v.trees e.0)) _ _ c.all.result c.all.ensures.ran (YieldsList-from_slice _ c.iter.ensures.rest) (λ x b q k. search (rules, tests))
    ∙ every-twice (is_total v.functions) (expr_in v.trees) (λ e. e.0) c.args.ids.now
