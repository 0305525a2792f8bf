use Rattle.std.proofs.Common.{◌∙◌, rules}
use Rattle.std.proofs.lemmas.Iterator.{YieldsList-from_slice}
use Rattle.std.proofs.lemmas.Iterator.Search.{any_from_yields_List}
use Rattle.plan.specs.Model.{expr_in}
use Rattle.plan.specs.Terms.{same_expr}
use Rattle.terms.proofs.Walks.{any-twice, serves_low}
use Rattle.terms.specs.Views.{count, view_of}
use Rattle.merging.proofs.joining.has_equal.Goals as goal

pub any-requires-clause-callable : goal.any-requires-clause-callable
any-requires-clause-callable c =
    serves_low (λ z. z.0) (count c.args.terms.now) (YieldsList-from_slice c.args.list.now c.iter.ensures.rest) c.requires.list (λ x q k. search rules) (λ x h. search rules)

pub returns : goal.returns
returns c =
    let v = view_of c.args.terms.now in
    let p = same_expr (expr_in v.trees c.args.e.0) in
    let ids = c.args.list.now in
    any_from_yields_List (λ e. p (expr_in v.trees e.0)) _ _ _ c.any.ensures.ran (YieldsList-from_slice ids c.iter.ensures.rest) (λ x b q k. search rules)
    ∙ any-twice p (expr_in v.trees) (λ e. e.0) ids
