use Rattle.std.proofs.Common.{◌++◌, map, ap, ◌∙◌, rules}
use Rattle.stored.specs.declared.node.SortKey.{SortKey}
use Rattle.table.proofs.Pushes.{pushed-map}
use Rattle.leaf_expressions.proofs.sort.sorted_by.Goals as goal

pub returns : goal.returns
returns c =
    pushed-map _ (λ (k : SortKey). k.by) (λ x y made. search rules) c.args.keys.now _ _ c.push_each.ensures
    ∙ ap (λ l. l ++ map (λ (k : SortKey). k.by) c.args.keys.now) c.new-by.ensures
