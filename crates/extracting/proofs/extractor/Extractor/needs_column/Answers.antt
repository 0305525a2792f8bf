use Rattle.std.proofs.Common.{◌≡◌, true, ◌&&◌, map, sym, ap, ◌∙◌, subst, rules}
use Rattle.std.proofs.lemmas.Iterator.Adapters.{serves_from_places}
use Rattle.std.proofs.lemmas.Iterator.{YieldsList-from_slice}
use Rattle.std.proofs.lemmas.Iterator.Search.{any_from_yields_List}
use Rattle.plan.specs.Fields.{any, every}
use Rattle.plan.specs.Terms.{Field, same_field}
use Rattle.rewriting.specs.Routing.{Side, same_side}
use Rattle.routing.specs.Sides.{side_of}
use Rattle.entries.specs.Spans.{stored_field}
use Rattle.terms.specs.Views.{view_of}
use Rattle.lexicon.proofs.Frames.{every-at}
use Rattle.terms.proofs.Walks.{any-mapped}
use Rattle.extracting.specs.Extractors.{need_in, need_of}
use Rattle.extracting.proofs.extractor.Extractor.needs_column.Goals as goal

pub any-requires-clause-callable : goal.any-requires-clause-callable
any-requires-clause-callable c =
    let p = need_in (view_of c.args.terms.now) in
    let xs = c.as_slice.result.now in
    let all : every p xs ≡ true = ap (every p) c.as_slice.ensures ∙ c.requires.inside.needed in
    serves_from_places (YieldsList-from_slice xs c.iter.ensures.rest) (λ x q k. search rules) (λ x k lt e. let h : p x.now ≡ true = subst (λ y. p y ≡ true) (sym e) (every-at p xs k x.now lt all) in search rules)

pub returns : goal.returns
returns c =
    let v = view_of c.args.terms.now in
    let p = λ (m : Side × Field). same_side m.0 (side_of c.args.side) && same_field m.1 (stored_field v.bytes c.args.field) in
    let xs = c.as_slice.result.now in
    any_from_yields_List (λ x. p (need_of v x)) _ _ _ c.any.ensures.ran (YieldsList-from_slice xs c.iter.ensures.rest) (λ x b q k. search rules)
    ∙ any-mapped p (need_of v) xs ∙ ap (λ l. any p (map (need_of v) l)) c.as_slice.ensures
