use Rattle.std.proofs.Common.{ℕ, ◌<◌, length, rules}
use Rattle.terms.specs.Views.{count, view_of}
use Rattle.entries.specs.declared.node.ExprId.{ExprId}
use Rattle.terms.proofs.Walks.{item_below}
use Rattle.draft.proofs.Growing.{pushed-fields}
use Rattle.draft.proofs.building.push_expressions.Goals as goal

pub push_each-requires : goal.push_each-requires
push_each-requires c =
    let below = λ (k : ℕ) (d : ExprId) (lt : k < length c.args.ids.now). item_below (λ y. y.0) (count c.args.terms.now) c.args.ids.now k d lt c.requires.present in
    search (rules, below)

pub returns : goal.returns
returns c = pushed-fields (view_of c.args.terms.now) _ (λ x d made. search rules) c.args.ids.now c.args.out.now _ c.push_each.ensures
