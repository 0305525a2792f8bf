use Rattle.std.proofs.Common.{ap, ◌∙◌}
use Rattle.rewriting.specs.Extracting.{extract_from_plan}
use Rattle.rewriting.specs.Generated.{next_number}
use Rattle.rewriting.specs.Outlay.{start_at}
use Rattle.tables.specs.Holding.{fields_at, model_of, trees_in, view_in}
use Rattle.lexicon.proofs.Begun.{at-once}
use Rattle.terms.proofs.Begun.{terms-at-once}
use Rattle.leaf_expressions.proofs.Unchanged.{nothing-to-take}
use Rattle.leaf_expressions.proofs.extract.extract_node.Goals as goal

pub returns-in_default : goal.returns-in_default
returns-in_default c =
    let t = c.args.tables.now in
    let v = view_in t in
    let k = start_at (next_number (model_of t)) in
    let d = c.in_default in
    record {
      comes = (k, ap (λ p. extract_from_plan v.functions p k) c.record_of.ensures.tree ∙ nothing-to-take v.functions v (fields_at t c.args.p.0) (trees_in t) c.record_of.result.node k d.not-Filter d.not-Sort d.not-Aggregate d.not-Join);
      begins = record { terms = terms-at-once t.terms; fields = at-once t.fields; plans = at-once t.plans };
    }
