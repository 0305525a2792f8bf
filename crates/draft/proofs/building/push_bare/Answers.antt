use Rattle.std.proofs.Common.{rules}
use Rattle.draft.specs.Drafts.{as_bare}
use Rattle.table.proofs.Pushes.{pushed-map}
use Rattle.draft.proofs.building.push_bare.Goals as goal

pub returns : goal.returns
returns c = pushed-map _ as_bare (λ x d made. search rules) c.args.fields.now c.args.out.now _ c.push_each.ensures
