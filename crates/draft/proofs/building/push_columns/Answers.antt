use Rattle.std.proofs.Common.{rules}
use Rattle.draft.specs.Drafts.{as_column}
use Rattle.table.proofs.Pushes.{pushed-map}
use Rattle.draft.proofs.building.push_columns.Goals as goal

pub returns : goal.returns
returns c = pushed-map _ as_column (λ x d made. search rules) c.args.pieces.now c.args.out.now _ c.push_each.ensures
