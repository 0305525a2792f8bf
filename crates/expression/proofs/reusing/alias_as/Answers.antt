use Rattle.std.proofs.lemmas.Bool.{and_from}
use Rattle.plan.specs.Model.{expr_in}
use Rattle.terms.specs.Acceptance.{acceptable}
use Rattle.terms.specs.Views.{view_of}
use Rattle.lexicon.proofs.Frames.{every-at}
use Rattle.expression.proofs.reusing.alias_as.Goals as goal

pub add-requires-clause-accepted : goal.add-requires-clause-accepted
add-requires-clause-accepted c =
    let v = view_of c.args.terms.now in
    and_from (acceptable v.functions (expr_in v.trees c.args.inner.0)) _ (every-at (acceptable v.functions) v.trees c.args.inner.0 _ c.requires.present c.args.terms.now.accepted) (and_from _ _ c.requires.good c.requires.small)
