use Rattle.std.proofs.Common.{◌++◌, map, ap, ◌∙◌, rules}
use Rattle.table.proofs.Pushes.{pushed-map}
use Rattle.swapping.proofs.copying.copied.Goals as goal

pub returns : goal.returns
returns g c =
    pushed-map _ g.T.Listed.read (λ x y made. search rules) c.args.entries.now _ _ c.push_each.ensures
    ∙ ap (λ l. l ++ map g.T.Listed.read c.args.entries.now) c.new-out.ensures
