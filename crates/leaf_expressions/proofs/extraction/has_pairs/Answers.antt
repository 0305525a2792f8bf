use Rattle.std.proofs.Common.{ap, ◌∙◌, rules}
use Rattle.std.proofs.lemmas.Iterator.{YieldsList-from_slice}
use Rattle.std.proofs.lemmas.Iterator.Search.{any_from_yields_List}
use Rattle.extracting.specs.declared.extractor.Extracted.{Extracted}
use Rattle.plan.specs.Fields.{any}
use Rattle.rewriting.specs.Routing.{same_side}
use Rattle.routing.specs.Sides.{side_of}
use Rattle.leaf_expressions.proofs.extraction.has_pairs.Goals as goal

pub returns : goal.returns
returns c =
    let p = λ (d : Extracted). same_side (side_of d.side) (side_of c.args.side) in
    any_from_yields_List p _ _ _ c.any.ensures.ran (YieldsList-from_slice c.entries.result.now c.iter.ensures.rest) (λ x b q k. search rules) ∙ ap (any p) c.entries.ensures
