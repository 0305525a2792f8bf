use Rattle.std.proofs.Common.{◌∙◌, rules}
use Rattle.std.proofs.lemmas.Iterator.{YieldsList-from_slice}
use Rattle.std.proofs.lemmas.Iterator.Search.{all_from_yields_List}
use Rattle.plan.specs.Calls.{below}
use Rattle.terms.specs.Views.{count}
use Rattle.terms.proofs.Walks.{every-mapped}
use Rattle.terms.proofs.terms.Terms.has_all.Goals as goal

pub returns : goal.returns
returns c =
    let p = below (count c.args.self.now) in
    all_from_yields_List (λ e. p e.0) _ _ _ c.all.ensures.ran (YieldsList-from_slice c.args.ids.now cc) (λ x b q k. search rules) ∙ every-mapped p (λ e. e.0) c.args.ids.now
