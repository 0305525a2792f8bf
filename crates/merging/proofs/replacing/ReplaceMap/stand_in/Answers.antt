use Rattle.std.proofs.Common.{sym, ap, ◌∙◌}
use Rattle.entries.specs.declared.node.ExprId.{ExprId}
use Rattle.rewriting.specs.Extracting.{replace_cols_by_name}
use Rattle.terms.specs.Views.{view_of}
use Rattle.merging.specs.Replacing.{map_of}
use Rattle.merging.proofs.Replaced.{behind-is, behind-there, none-behind}
use Rattle.merging.proofs.replacing.ReplaceMap.stand_in.Goals as goal

abbrev blank : ExprId
blank = record { 0 = 0 }

pub returns-then-place-self-clause-tree : goal.returns-then-place-self-clause-tree
returns-then-place-self-clause-tree c =
    let v = view_of c.args.terms.now in
    behind-is v c.args.self c.requires.inside c.args.field c.seek-place.result c.seek-place.ensures blank c.if-place-self.true ∙ sym (ap (replace_cols_by_name (map_of v c.args.self)) c.requires.tree)

pub returns-then-place-self-clause-present : goal.returns-then-place-self-clause-present
returns-then-place-self-clause-present c = behind-there (view_of c.args.terms.now) c.args.self c.requires.inside c.args.field c.seek-place.result c.seek-place.ensures blank c.if-place-self.true

pub returns-else-place-self-clause-tree : goal.returns-else-place-self-clause-tree
returns-else-place-self-clause-tree c =
    let v = view_of c.args.terms.now in
    c.requires.tree ∙ sym (ap (replace_cols_by_name (map_of v c.args.self)) c.requires.tree ∙ none-behind v c.args.self c.requires.inside c.args.field c.seek-place.result c.seek-place.ensures c.if-place-self.false)
