use Rattle.std.proofs.Common.{◌≡◌, true, sym, ◌∙◌, subst, rules}
use Rattle.std.proofs.lemmas.Iterator.Adapters.{serves_from_places}
use Rattle.std.proofs.lemmas.Iterator.{YieldsList-from_slice}
use Rattle.std.proofs.lemmas.Iterator.Search.{any_from_yields_List}
use Rattle.plan.specs.Terms.{same_field}
use Rattle.entries.specs.Spans.{stored_field, stored_in}
use Rattle.terms.specs.Views.{view_of}
use Rattle.lexicon.proofs.Frames.{every-at}
use Rattle.terms.proofs.Walks.{any-mapped}
use Rattle.naming.proofs.resolving.has_field.Goals as goal

pub any-requires-clause-callable : goal.any-requires-clause-callable
any-requires-clause-callable c =
    let p = stored_in (view_of c.args.terms.now).bytes in
    let fs = c.args.fields.now in
    serves_from_places (YieldsList-from_slice fs cc) (λ x q k. search rules) (λ x k lt e. let h : p x.now ≡ true = subst (λ y. p y ≡ true) (sym e) (every-at p fs k x.now lt c.requires.stored) in search rules)

pub returns : goal.returns
returns c =
    let f = stored_field (view_of c.args.terms.now).bytes in
    let p = same_field (f c.args.field) in
    any_from_yields_List (λ x. p (f x)) _ _ _ c.any.ensures.ran (YieldsList-from_slice c.args.fields.now cc) (λ x b q k. search rules) ∙ any-mapped p f c.args.fields.now
