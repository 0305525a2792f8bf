use Rattle.std.proofs.Common.{◌≡◌, true, map, sym, ◌∙◌, subst, rules}
use Rattle.std.proofs.lemmas.Iterator.Adapters.{serves_from_places}
use Rattle.std.proofs.lemmas.Iterator.{YieldsList-from_slice}
use Rattle.std.proofs.lemmas.Iterator.Search.{any_from_yields_List}
use Rattle.entries.specs.Spans.{stored_field, stored_in}
use Rattle.terms.specs.Views.{view_of}
use Rattle.lexicon.proofs.Frames.{every-at}
use Rattle.terms.proofs.Walks.{any-mapped}
use Rattle.routing.specs.Sides.{column_of}
use Rattle.routing.proofs.Columns.{columns}
use Rattle.routing.proofs.owning.is_column.Goals as goal

pub any-requires-clause-callable : goal.any-requires-clause-callable
any-requires-clause-callable c =
    let p = stored_in (view_of c.args.terms.now).bytes in
    let fs = c.args.fields.now in
    serves_from_places (YieldsList-from_slice fs c.iter.ensures.rest) (λ x q k. search rules) (λ x k lt e. let h : p x.now ≡ true = subst (λ y. p y ≡ true) (sym e) (every-at p fs k x.now lt c.requires.stored) in search rules)

pub returns : goal.returns
returns c =
    let f = stored_field (view_of c.args.terms.now).bytes in
    let r = f c.args.reference in
    let fs = c.args.fields.now in
    any_from_yields_List (λ x. column_of r (f x)) _ _ _ c.any.ensures.ran (YieldsList-from_slice fs c.iter.ensures.rest) (λ x b q k. search rules) ∙ any-mapped (column_of r) f fs ∙ columns r (map f fs)
