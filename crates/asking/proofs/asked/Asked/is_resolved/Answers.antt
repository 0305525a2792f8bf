use Rattle.std.proofs.Common.{sym, ap, ◌∙◌}
use Rattle.plan.specs.Fields.{every, resolved}
use Rattle.plan.specs.Questions.{expressions_of, input_fields}
use Rattle.tables.specs.Holding.{view_in, fields_at}
use Rattle.tables.specs.Making.{tree_for}
use Rattle.asking.proofs.NodeFacts.{key-expressions}
use Rattle.asking.proofs.asked.Asked.is_resolved.Goals as goal

pub returns-in-Sort : goal.returns-in-Sort
returns-in-Sort c =
    let t = c.args.self.tables.now in
    c.keys_resolved.ensures
    ∙ sym (ap (λ n. every (resolved (input_fields (view_in t).functions (tree_for t n))) (expressions_of (tree_for t n))) c.in-Sort.is ∙ ap (every (resolved (fields_at t c.in-Sort.input.0))) (key-expressions (view_in t).trees c.in-Sort.keys.now))
