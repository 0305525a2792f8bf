use Rattle.std.proofs.Common.{◌∙◌, map, sym, rules}
use Rattle.std.proofs.lemmas.Iterator.{YieldsList-from_slice}
use Rattle.std.proofs.lemmas.Iterator.Search.{any_from_yields_List}
use Rattle.plan.specs.Model.{expr_in}
use Rattle.rewriting.specs.Routing.{holds_marked}
use Rattle.terms.specs.Views.{count, view_of}
use Rattle.terms.proofs.Walks.{any-twice, serves_low}
use Rattle.routing.proofs.Marking.{of-some}
use Rattle.routing.proofs.marked.has_extractable_expr.Goals as goal

pub any-requires-clause-callable : goal.any-requires-clause-callable
any-requires-clause-callable c =
    let n = count c.args.terms.now in
    let ids = c.args.list.now in
    serves_low (λ z. z.0) n (YieldsList-from_slice ids c.iter.ensures.rest) c.requires (λ x q k. search rules) (λ x h. search rules)

pub returns : goal.returns
returns c =
    let v = view_of c.args.terms.now in
    let p = holds_marked v.functions in
    let ids = c.args.list.now in
    any_from_yields_List (λ e. p (expr_in v.trees e.0)) _ _ _ c.any.ensures.ran (YieldsList-from_slice ids c.iter.ensures.rest) (λ x b q k. search rules)
    ∙ any-twice p (expr_in v.trees) (λ e. e.0) ids ∙ sym (of-some v.functions (map (expr_in v.trees) (map (λ e. e.0) ids)))
