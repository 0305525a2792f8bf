use Rattle.std.proofs.Common.{◌∙◌, rules}
use Rattle.std.proofs.lemmas.Iterator.{YieldsList-from_slice}
use Rattle.std.proofs.lemmas.Iterator.Search.{any_from_yields_List}
use Rattle.plan.specs.Functions.{is_total}
use Rattle.plan.specs.Model.{expr_in}
use Rattle.terms.specs.Views.{count, view_of}
use Rattle.terms.proofs.Walks.{any-twice, serves_low}
use Rattle.terms.proofs.terms.Terms.any_total.Goals as goal

pub any-requires-clause-callable : goal.any-requires-clause-callable
any-requires-clause-callable c =
    let n = count c.args.self.now in
    let ids = c.args.ids.now in
    serves_low (λ z. z.0) n (YieldsList-from_slice ids cc) c.requires (λ x q k. search rules) (λ x h. search rules)

pub returns : goal.returns
returns c =
    let v = view_of c.args.self.now in
    let p = is_total v.functions in
    let ids = c.args.ids.now in
    any_from_yields_List (λ e. p (expr_in v.trees e.0)) _ _ _ c.any.ensures.ran (YieldsList-from_slice ids cc) (λ x b q k. search rules)
    ∙ any-twice p (expr_in v.trees) (λ e. e.0) ids
