use Rattle.std.proofs.Common.{◌≡◌, refl, ◌∙◌, rules, nat_le}
use Rattle.std.proofs.lemmas.Iterator.{YieldsList-from_slice}
use Rattle.std.proofs.lemmas.Iterator.Search.{all_from_yields_List}
use Rattle.plan.specs.Calls.{rendered_bytes}
use Rattle.plan.specs.Functions.{Functions}
use Rattle.plan.specs.Model.{expr_in}
use Rattle.plan.specs.Questions.{short_name}
use Rattle.plan.specs.Terms.{Expr}
use Rattle.plan.specs.Terms.Expr.{literal, reference, alias, call}
use Rattle.terms.specs.Views.{count, view_of}
use Rattle.terms.proofs.Walks.{every-twice, serves_low}
use Rattle.draft.proofs.reading.has_short_names.Goals as goal

short : (fs : Functions) (e : Expr) → nat_le (rendered_bytes fs e) 255 ≡ short_name fs e
short fs (literal v) = refl
short fs (reference f) = refl
short fs (alias e f) = refl
short fs (call n es) = refl

pub all-requires-clause-callable : goal.all-requires-clause-callable
all-requires-clause-callable c =
    let n = count c.args.terms.now in
    let ids = c.args.ids.now in
    serves_low (λ y. y.0) n (YieldsList-from_slice ids cc) c.requires (λ x q k. search rules) (λ x h. search rules)

pub returns : goal.returns
returns c =
    let v = view_of c.args.terms.now in
    let p = short_name v.functions in
    let ids = c.args.ids.now in
    all_from_yields_List (λ e. p (expr_in v.trees e.0)) _ _ _ c.all.ensures.ran (YieldsList-from_slice ids cc) (λ x b q k. search (rules, short v.functions (expr_in v.trees x.now.0)))
    ∙ every-twice p (expr_in v.trees) (λ e. e.0) ids
